-- What is given for datagrams that are too long: of any such one, for none of them computes as a case.
use Rattle.std.specs.Prelude.{◌≡◌, ℕ, ◌<◌, List, [], ◌∷◌, ◌++◌, length}
use Rattle.gate_events.specs.declared.emit.Detail.TheVariants as detail
use Rattle.datagram450.specs.Datagram.{header, longest_datagram}
use Rattle.report_rules.specs.Rules.{datagram_long}
use Rattle.history.specs.Entries.{History, datagram}
use Rattle.history.specs.Settings.{Settings}
use Rattle.history.specs.Emits.{broken}
use Rattle.history.specs.Gate.{handled}

abbrev pub LongDatagrams : Type 0
LongDatagrams =
    (c : Settings) (s : ℕ) (h : History) (m : ℕ) (body : List ℕ) → longest_datagram < length (header ++ body)
    → handled c s h (datagram m (header ++ body)) ≡ broken datagram_long (detail.At longest_datagram) ∷ []
