-- What the gateway makes of the made-up input, in one line: how many events there were, how many frames, datagrams and reports it gave, how
-- many fast packets were in the making at the end, and the number that all lines of its replay were folded into.
use Rattle.std.specs.Prelude.{◌≡◌, ℕ, List, [], ◌∷◌, ◌++◌, length, codes}
use Rattle.std.specs.Fmt.{decimal}
use Rattle.history.specs.Emits.{at}
use Rattle.history.specs.Entries.{Entry, History, IsHistory, now}
use Rattle.history.specs.Gate.{Stepped, gate, out, stepped}
use Rattle.history.specs.Known.{known}
use Rattle.history.specs.Opens.{notes_of, open_fast_keys}
use Rattle.history.specs.Settings.{receiver_of, Settings}
use Rattle.gate_model.specs.Machine.{Machine}
use Rattle.gate_model.specs.Stands.{Stands}
use Rattle.gate_outbox.specs.declared.done.Command.{Command}
use Rattle.gate_core.specs.Promises.{entry_by}
use Rattle.gate_core.specs.Steps.{by_keys}
use Rattle.demo.specs.declared.tally.Tally.{Tally}
use Rattle.demo.specs.Input.{events}
use Rattle.demo.specs.Setup.{demo_settings}
use Rattle.demo.specs.Tally.{and_all, tally_of}

module _ (c : Settings) (s : ℕ) where
  -- the history once these events came
  abbrev pub lived : History → List Entry → History
  lived h [] = h
  lived h (e ∷ es) = lived (stepped c s h e).after es

  -- how many fast packets are in the making then
  abbrev pub open_fast : History → ℕ
  open_fast h =
      length (open_fast_keys (receiver_of c).kinds (known (receiver_of c) s h).claims.holders (notes_of (receiver_of c) s h) (now h))

-- a number and what stands before it
abbrev pub part : List ℕ → ℕ → List ℕ
part front number = front ++ decimal number

abbrev pub summary_text : ℕ → Tally → ℕ → List ℕ
summary_text count t fast =
    part (codes "events ") count ++ part (codes " can ") t.frames ++ part (codes " net ") t.datagrams ++ part (codes " reports ") t.reports
    ++ part (codes " fast ") fast ++ part (codes " fold ") t.fold ++ 10 ∷ []

-- of a gateway that starts at the moment 0 and takes so many events
unfoldable pub demo_text : ℕ → ℕ → List ℕ
demo_text seed count =
    summary_text count (tally_of (gate demo_settings 0 (events seed count))) (open_fast demo_settings 0 (lived demo_settings 0 [] (events seed count)))

-- ---- one event, and the command that it completes

pub record IsRunTo (c : Settings) (s : ℕ) (x : Stepped c s) (gateway : Machine) (before after : Tally) : Type 0 where
  pub could : IsHistory x.after
  pub stands : Stands by_keys c s x.after gateway
  pub counted : after ≡ and_all before x.emits

-- whatever came before
abbrev pub IsRun : Entry → Machine → Machine → Tally → Tally → Type 0
IsRun e g g' before after =
    (c : Settings) (s : ℕ) (h : History) → IsHistory h → Stands by_keys c s h g → IsRunTo c s (stepped c s h e) g' before after

-- a command is the next entry, at the same moment
pub record IsObeyed (c : Settings) (s : ℕ) (h : History) (e : Entry) (gateway : Machine) (before after : Tally) : Type 0 where
  pub could : IsHistory (e ∷ h)
  pub stands : Stands by_keys c s (e ∷ h) gateway
  pub counted : after ≡ and_all before (at (now h) (out c s h e))

abbrev pub IsOrdered : Command → Machine → Machine → Tally → Tally → Type 0
IsOrdered o g g' before after =
    (c : Settings) (s : ℕ) (h : History) → IsHistory h → Stands by_keys c s h g → IsObeyed c s h (entry_by (now h) o) g' before after
