-- What is told of a message, and the command that it gives.
use Rattle.std.proofs.Common.{◌≡◌, ℕ, Bool, true, false, [], ◌∷◌, ◌++◌, refl}
use Rattle.std.specs.Prelude.{Option, Some, None, option_map, if◌then◌else◌}
use Rattle.claim_table.specs.declared.answer.Holder.{Holder}
use Rattle.report_rules.specs.Rules as rules
use Rattle.gate_events.specs.declared.emit.Detail.TheVariants as detail
use Rattle.pgn_profile.specs.Profiled.{profiled}
use Rattle.history.specs.Entries.{Entry, command}
use Rattle.history.specs.Settings.{Settings}
use Rattle.history.specs.BusRules.{is_short, message_rule}
use Rattle.history.specs.Emits.{broken_of, report_of}
use Rattle.history.specs.Messages.{Message, Carried, said_by, ordered_in}
use Rattle.history.specs.Gate.{command_in}
use Rattle.gate_model.specs.Said.{complete_by, complete_of, short_reports, ordered_by, Ordered}
use Rattle.gate_model.specs.SaidLaws.{MessagesAreTold}

complete : (index m source : ℕ) (holder : Option Holder) (what : Option Carried)
    → option_map complete_of (said_by index m source holder what) ≡ complete_by m source holder what
complete index m source None what = refl
complete index m source (Some holder) None = refl
complete index m source (Some holder) (Some w) = refl

pub message_said : (index moment source : ℕ) (x : Holder) (message : Option Carried)
    → broken_of (message_rule (said_by index moment source (Some x) message) ∷ []) ≡ short_reports source message
message_said index moment source x None = refl
message_said index moment source x (Some c) = by (is_short (profiled c.pgn c.payload))
  where
    by : (b : Bool) → (if b then report_of rules.short_message (detail.Source source c.pgn) ∷ [] else []) ++ []
        ≡ (if b then report_of rules.short_message (detail.Source source c.pgn) ∷ [] else [])
    by true = refl
    by false = refl

abbrev entry_of : ℕ → Ordered → Entry
entry_of m o = command m o.source o.address

ordered : (c : Settings) (s : ℕ) (d : Option Message) (m : ℕ) → command_in c s d m ≡ option_map (entry_of m) (ordered_by c.name (option_map complete_of d))
ordered c s None m = refl
ordered c s (Some d) m = by (ordered_in c.name d.pgn d.payload)
  where
    by : (o : Option ℕ) → option_map (λ address. command m d.source address) o
        ≡ option_map (entry_of m) (option_map (λ address. record { source = d.source; address = address }) o)
    by (Some address) = refl
    by None = refl

pub messages_are_told : MessagesAreTold
messages_are_told c s = record { complete = complete; short = message_said; told = λ d. refl; ordered = ordered c s }
