-- When two gateways complete the same messages of a device, whatever else each of them hears.
use Rattle.std.specs.Prelude.{◌≡◌, ℕ, List}
use Rattle.history.specs.Entries.{History, IsHistory}
use Rattle.history.specs.IsolationLaws.{narrowed, NoneRefused}
use Rattle.history.specs.Settings.{receiver_of, Settings}
use Rattle.gate_model.specs.Machine.{Machine}
use Rattle.gate_model.specs.Stands.{Stands}
use Rattle.gate_outbox.specs.declared.done.Done.{Done}
use Rattle.gate_core.specs.Steps.{by_keys}
use Rattle.isolation.specs.declared.running.FrameEvent.{FrameEvent}
use Rattle.isolation.specs.Runs.{and_events}

-- one NAME and preferred address, and the same presets
pub record AreAlike (c d : Settings) : Type 0 where
  pub name : d.name ≡ c.name
  pub address : d.address ≡ c.address
  pub presets : d.presets ≡ c.presets

-- two gateways, started at one moment, one with this history before and the other with that; the claims, the commands and the frames from
-- the address are the same, at the same moments, before and with the events; and no opener from the address was refused for want of room
pub record HearTheSame (c d : Settings) (s : ℕ) (h g : History) (lefts rights : List FrameEvent) (address : ℕ) : Type 0 where
  pub alike : AreAlike c d
  pub before : narrowed address g ≡ narrowed address h
  pub since : narrowed address (and_events g rights) ≡ narrowed address (and_events h lefts)
  pub left : NoneRefused (receiver_of c) s (and_events h lefts) address
  pub right : NoneRefused (receiver_of d) s (and_events g rights) address

abbrev pub TellTheSame : Machine → Machine → List FrameEvent → List FrameEvent → ℕ → List Done → List Done → Type 0
TellTheSame left right lefts rights address told told' =
    (s : ℕ) (h g : History) → IsHistory h → IsHistory g → Stands by_keys left.settings s h left → Stands by_keys right.settings s g right
    → HearTheSame left.settings right.settings s h g lefts rights address → told ≡ told'
