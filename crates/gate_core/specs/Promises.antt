-- What each call of the gateway gives, in the words of the history: of everything that ever came.
use Rattle.std.specs.Prelude.{◌≡◌, ℕ, true, false, [], ◌∷◌, ◌++◌, option_map, is_some}
use Rattle.report_rules.specs.Rules as rules
use Rattle.gate_events.specs.declared.emit.Detail.TheVariants as detail
use Rattle.history.specs.Entries as entry
use Rattle.history.specs.Entries.{Entry, History, IsHistory, is_accepted, moment_of, now}
use Rattle.history.specs.Settings.{Settings, receiver_of}
use Rattle.history.specs.Choice.{reading_of}
use Rattle.history.specs.Messages.{Message, done}
use Rattle.history.specs.FromBus.{said_at}
use Rattle.history.specs.Emits.{broken, is_there}
use Rattle.history.specs.Gate.{out, command_in}
use Rattle.gate_model.specs.Machine.{Machine}
use Rattle.gate_model.specs.Stands.{Stands}
use Rattle.gate_outbox.specs.declared.done.Command.{Command}
use Rattle.gate_outbox.specs.declared.done.Done.{Done}
use Rattle.gate_outbox.specs.Output.{Output, emits_of}
use Rattle.gate_core.specs.Steps.{by_keys, only_told}

-- what is told of a message
abbrev pub done_told : Message → Done
done_told d = record { source = d.source; name = record { 0 = d.name }; pgn = d.pgn; reading = reading_of d }

-- a command as an entry
abbrev pub entry_by : ℕ → Command → Entry
entry_by m o = entry.command m o.source o.address

-- one more entry was taken: the gateway stands for the history with it, all that the history says was emitted, in its order, with a datagram
-- behind where the message is selected that it completes; and this message is told, whether it is selected, and the command that it gives
pub record IsTaken (c : Settings) (s : ℕ) (h : History) (e : Entry) (after : Machine) (left : Output) : Type 0 where
  pub stands : Stands by_keys c s (e ∷ h) after
  pub emits : emits_of left.emits ≡ out c s h e
  pub posted : is_there left.emits.posted ≡ is_some (said_at c s h e)
  pub told : left.done ≡ option_map done_told (done (receiver_of c) s h e)
  pub selected : left.selected ≡ is_some (said_at c s h e)
  pub ordered : option_map (entry_by (moment_of e)) left.command ≡ command_in c s (done (receiver_of c) s h e) (moment_of e)

-- an event that is earlier than the last entry changes nothing, and is reported (rule 3)
pub record IsTooEarly (before after : Machine) (left : Output) : Type 0 where
  pub unchanged : after ≡ before
  pub reported : left ≡ only_told (broken rules.moment_back detail.Nothing ∷ [])

-- for every history for which the gateway stands before
abbrev pub IsStep : Entry → Machine → Machine → Output → Type 0
IsStep e before after left =
    (s : ℕ) (h : History) → IsHistory h → Stands by_keys before.settings s h before
    → (is_accepted h e ≡ true → IsTaken before.settings s h e after left) × (is_accepted h e ≡ false → IsTooEarly before after left)

-- a command comes at the moment of the last entry
abbrev pub IsCommandStep : ℕ → ℕ → Machine → Machine → Output → Type 0
IsCommandStep source address before after left =
    (s : ℕ) (h : History) → IsHistory h → Stands by_keys before.settings s h before
    → IsTaken before.settings s h (entry.command (now h) source address) after left

-- the command that an entry gave was taken: what it gives stands behind what is told of that entry
pub record IsOrdered (c : Settings) (s : ℕ) (h : History) (e : Entry) (after : Machine) (before left : Output) : Type 0 where
  pub stands : Stands by_keys c s (e ∷ h) after
  pub told : left.emits.told ≡ before.emits.told ++ out c s h e
  pub posted : left.emits.posted ≡ before.emits.posted

-- for every history, and every entry that was its last
abbrev pub IsOrderStep : Command → Machine → Machine → Output → Output → Type 0
IsOrderStep o before after outbox left =
    (s : ℕ) (h : History) (e : Entry) → IsHistory (e ∷ h) → IsTaken before.settings s h e before outbox
    → IsOrdered before.settings s (e ∷ h) (entry_by (now (e ∷ h)) o) after outbox left
