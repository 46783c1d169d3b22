-- A place for reports and short datagrams in turn, and for the datagrams once more as plain sentences.
use Rattle.std.specs.Prelude.{◌≡◌, ℕ, List, [], None, map}
use Rattle.std.proofs.Common.{ap}
use Rattle.gate_events.specs.Emit.{Emit, net, report}
use Rattle.plain_out.specs.Pace.{Utterance, uttered}
use Rattle.row_watch.specs.declared.alerts.Alerts.{Alerts}
use Rattle.row_watch.specs.declared.alerts.ShortDatagram.{ShortDatagram}
use Rattle.row_watch.specs.declared.alerts.Told.{Told}
use Rattle.row_watch.specs.declared.alerts.Told.TheVariants as told

-- the most that is told at one event: a report and an alert of each row
abbrev pub most_alerts : ℕ
most_alerts = 34

-- the most bytes of a datagram there
abbrev pub longest_alert : ℕ
longest_alert = 128

abbrev pub short_emit : ShortDatagram → Emit
short_emit d = net d.group d.bytes.items

abbrev pub told_emit : Told → Emit
told_emit (told.Report what) = report what
told_emit (told.Alert d) = short_emit d

abbrev pub alerts_output : Alerts → List Emit
alerts_output a = map told_emit a.told.items

abbrev pub alerts_plain : Alerts → List Emit
alerts_plain a = map short_emit a.plain.items

-- an alert has no stream: it isn't held back
abbrev pub alerts_utterances : Alerts → List Utterance
alerts_utterances a = uttered None (alerts_output a)

pub alerts_unsaid : (a : Alerts) → alerts_output a ≡ [] → alerts_utterances a ≡ []
alerts_unsaid a none = ap (uttered None) none
