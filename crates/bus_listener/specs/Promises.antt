-- What a listener hears and tells, in the words of the history: of all that ever came.
use Rattle.std.specs.Prelude.{◌≡◌, ℕ, ◌+◌, ◌≤◌, [], ◌∷◌, length, None, option_map}
use Rattle.slot_views.specs.Slots.{SlotMap}
use Rattle.fast_packet.specs.declared.key.FastKey.{FastKey}
use Rattle.pgn_profile.specs.declared.kinds.Kind.{Kind}
use Rattle.history.specs.Entries as entry
use Rattle.history.specs.Entries.{Entry, History, IsHistory, now}
use Rattle.history.specs.AddressLaws.{AreSettings}
use Rattle.history.specs.Settings.{Settings}
use Rattle.history.specs.Known.{known}
use Rattle.history.specs.Opens.{notes_of, open_fast_keys}
use Rattle.gate_model.specs.FastLaws.{StandsFastFor}
use Rattle.gate_model.specs.Machine.{Machine}
use Rattle.gate_model.specs.Said.{complete_of}
use Rattle.gate_model.specs.Stands.{Stands}
use Rattle.gate_outbox.specs.Output.{Emitted, and_told}
use Rattle.gate_core.specs.Steps.{by_keys}
use Rattle.bus_listener.specs.Heard.{heard_done, heard_out, listener}
use Rattle.bus_listener.specs.Kept.{Hearing, heard_step}
use Rattle.bus_listener.specs.Kinds.{AreHeard}

-- what the listener keeps stands for a history of the gateway with these settings: the messages in the making are those that are open at
-- the moment of the last entry, each with the frames of it that came
abbrev pub StandsListening : (ℕ → Kind) → ℕ → Settings → ℕ → History → SlotMap FastKey → Type 0
StandsListening kinds limit c s h slots = StandsFastFor by_keys.fast (listener kinds limit c) s h (now h) slots

-- what an event makes of it and gives, after the gateway has taken it
abbrev pub step_by : (ℕ → Kind) → Machine → SlotMap FastKey → Entry → Hearing
step_by kinds gateway slots e = heard_step by_keys.fast kinds gateway.addresses slots e

-- ---- the start

abbrev pub IsOpening : ℕ → SlotMap FastKey → Type 0
IsOpening limit slots = (kinds : ℕ → Kind) (c : Settings) (s : ℕ) → StandsListening kinds limit c s [] slots

-- ---- an event that the gateway has taken: it leaves what stands for the history with it, tells what the history says, and lends the message
-- that the history says is complete

pub record IsHeard (kinds : ℕ → Kind) (limit : ℕ) (c : Settings) (s : ℕ) (h : History) (e : Entry) (x : Hearing) : Type 0 where
  pub stands : StandsListening kinds limit c s (e ∷ h) x.slots
  pub told : x.told ≡ heard_out kinds limit c s h e
  pub message : x.message ≡ option_map complete_of (heard_done kinds limit c s h e)

-- for every history for which the listener stands before the event, where the gateway stands for it with the event
abbrev pub IsListening : (ℕ → Kind) → Machine → Entry → SlotMap FastKey → Hearing → Type 0
IsListening kinds gateway e before x =
    (limit s : ℕ) (h : History) → AreSettings gateway.settings → IsHistory (e ∷ h) → Stands by_keys gateway.settings s (e ∷ h) gateway
    → StandsListening kinds limit gateway.settings s h before → IsHeard kinds limit gateway.settings s h e x

-- ---- an event that completes no message

pub record IsPassed (kinds : ℕ → Kind) (room : ℕ) (gateway : Machine) (e : Entry) (before after : SlotMap FastKey) (emits left : Emitted) : Type 0 where
  pub after_is : after ≡ (step_by kinds gateway before e).slots
  pub left_is : left ≡ and_told room emits (step_by kinds gateway before e).told
  pub completes : (step_by kinds gateway before e).message ≡ None
  pub fits : length (step_by kinds gateway before e).told ≤ before.limit + 2
  pub history : IsListening kinds gateway e before (step_by kinds gateway before e)

-- ---- a command, for which the listener isn't called: it stands for the history with it as well

abbrev pub CommandsLeaveListening : Type 0
CommandsLeaveListening =
    (kinds : ℕ → Kind) (limit : ℕ) (c : Settings) (s : ℕ) (h : History) (source address : ℕ) (slots : SlotMap FastKey) → AreHeard kinds → AreSettings c
    → StandsListening kinds limit c s h slots → StandsListening kinds limit c s (entry.command (now h) source address ∷ h) slots

-- ---- no more messages are open than there is room for

abbrev pub MessagesKeepTheLimit : Type 0
MessagesKeepTheLimit =
    (kinds : ℕ → Kind) (limit : ℕ) (c : Settings) (s : ℕ) (h : History) (m : ℕ) → AreHeard kinds → AreSettings c → IsHistory h → now h ≤ m
    → let r = listener kinds limit c in length (open_fast_keys kinds (known r s h).claims.holders (notes_of r s h) m) ≤ limit
