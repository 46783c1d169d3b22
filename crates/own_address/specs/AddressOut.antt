-- The gateway's own address (ISO 11783-5), over everything that ever came: an entry tells it where it is another than at the event before,
-- and where there is none any more. What a command made of it is told at the event behind that command.
use Rattle.std.specs.Prelude.{◌≡◌, ℕ, List, [], ◌∷◌, nat_eq, Option, if◌then◌else◌}
use Rattle.std.specs.Option.{option_eq}
use Rattle.report_rules.specs.Rules as rules
use Rattle.gate_events.specs.declared.emit.Detail.TheVariants as detail
use Rattle.gate_events.specs.Emit.{Emit}
use Rattle.history.specs.Emits.{broken}
use Rattle.history.specs.Entries as entry
use Rattle.history.specs.Entries.{Entry, History}
use Rattle.history.specs.Known.{known}
use Rattle.history.specs.Settings.{Settings, receiver_of}
use Rattle.settings.specs.declared.setup.Setup.{Setup}
use Rattle.parts.specs.Compose.{wanted}
use Rattle.own_address.specs.declared.own_address.OwnAddress.{OwnAddress}

abbrev pub told : Option ℕ → Option ℕ → List Emit
told before now = if option_eq nat_eq now before then [] else broken rules.own_address (detail.Own now) ∷ []

module _ (c : Settings) (s : ℕ) where
  -- at the end of a history
  abbrev pub own_at : History → Option ℕ
  own_at h = (known (receiver_of c) s h).claims.own

  -- behind the last event, before the command that it completes; without an event at the start
  abbrev pub own_told : History → Option ℕ
  own_told [] = own_at []
  own_told (entry.frame m f ∷ h) = own_at (entry.frame m f ∷ h)
  own_told (entry.datagram m bytes ∷ h) = own_at (entry.datagram m bytes ∷ h)
  own_told (entry.tick m ∷ h) = own_at (entry.tick m ∷ h)
  own_told (entry.command m source address ∷ h) = own_told h

  abbrev pub address_out : History → Entry → List Emit
  address_out h e = told (own_told h) (own_at (e ∷ h))

-- ---- as a part beside the gateway

abbrev pub address_asked : Setup → Option (Unit {0})
address_asked x = wanted x.address

abbrev pub address_stands : Unit {0} → Settings → ℕ → History → OwnAddress → Type 0
address_stands r c s h k = k.address ≡ own_told c s h

abbrev pub address_gives : Unit {0} → Settings → ℕ → History → Entry → List Emit
address_gives r c s h e = address_out c s h e

-- whenever the gateway will start
abbrev pub opening_stands : Settings → OwnAddress → Type 0
opening_stands c k = (s : ℕ) → address_stands tt c s [] k
