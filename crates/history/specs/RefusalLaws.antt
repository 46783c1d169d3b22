-- Which frames of a key break what is open of it: those that leave nothing open and complete nothing.
use Rattle.std.specs.Prelude.{◌≡◌, ℕ, Bool, true, false, ◌||◌, not, ◌↔◌, List, Option, None, is_some}
use Rattle.slot_views.specs.Runs.{Rules}
use Rattle.slot_views.specs.RunLaws.{fed, finished}
use Rattle.fast_packet.specs.FastRuns.{FastPiece, fast_rules}
use Rattle.fast_packet.specs.Keys.{refused}
use Rattle.fast_packet.specs.declared.key.FastKey.{FastKey}
use Rattle.iso_transport.specs.IsoRuns.{IsoPiece, iso_rules, is_opener}
use Rattle.iso_transport.specs.Verdicts.{bears}
use Rattle.iso_transport.specs.RunVerdicts.{run_verdict}
use Rattle.iso_transport.specs.declared.key.IsoKey.{IsoKey}
use Rattle.iso_transport.specs.declared.verdict.Verdict.{Verdict}
use Rattle.iso_transport.specs.declared.verdict.Verdict.TheVariants.{Ignored, Again, Refused, Ends, Opens, Next}
use Rattle.history.specs.Known.{Known}
use Rattle.history.specs.Traces.{NotedFrame}
use Rattle.history.specs.Opens.{fast_open, iso_open}
use Rattle.claim_table.specs.declared.answer.Holder.{Holder}

-- one more piece leaves something open, or makes something whole
abbrev pub goes_on : {X : Type 0} → Rules X → Option (List X) → X → Bool
goes_on r o x = is_some (fed r o x) || is_some (finished r o x)

-- a frame isn't refused exactly where it does so
abbrev pub FastRefusalsBreak : Type 0
FastRefusalsBreak =
    (holders : List (Option Holder)) (notes : List NotedFrame) (key : FastKey) (m : ℕ) (x : FastPiece)
    → (refused (fast_open holders notes key m) x ≡ None) ↔ (goes_on fast_rules (fast_open holders notes key m) x ≡ true)

-- ---- the transport protocol

abbrev pub ends : Verdict → Bool
ends Ignored = false
ends Again = false
ends (Refused reason reply) = false
ends (Ends reason reply) = true
ends (Opens session old) = false
ends (Next session number end) = false

-- of a session that is open, a frame that bears on it is told to end it exactly where it doesn't go on; an opener of an open session
-- finds room
abbrev pub TransportRefusalsBreak : Type 0
TransportRefusalsBreak =
    (k : Known) (notes : List NotedFrame) (key : IsoKey) (m : ℕ) (x : IsoPiece)
    → is_some (iso_open k notes key m) ≡ true → bears key.addressed x.packet x.bytes ≡ true → (is_opener key.addressed x ≡ true → x.admitted ≡ true)
    → ends (run_verdict key.addressed (iso_open k notes key m) x) ≡ not (goes_on (iso_rules key.addressed) (iso_open k notes key m) x)
