-- What a part beside the gateway hears of the bus, as a definition over all that came: messages of some parameter groups, single frames and
-- fast packets (canboat), of devices that hold their address (ISO 11783-5), and what is told of their frames.
use Rattle.std.specs.Prelude.{ℕ, Bool, ◌&&◌, not, List, [], ◌∷◌, ◌++◌, length, Option, None, if◌then◌else◌}
use Rattle.n2k_id.specs.Frame.{BusFrame}
use Rattle.n2k_id.specs.Identifier.{parts_of, is_own}
use Rattle.n2k_id.specs.declared.identifier_parts.Parts.{Parts}
use Rattle.gate_events.specs.Emit.{Emit}
use Rattle.gate_events.specs.declared.emit.Report.{Report}
use Rattle.claim_table.specs.Claims.{claim}
use Rattle.claim_table.specs.declared.answer.ClaimStep.{ClaimStep}
use Rattle.pgn_profile.specs.declared.kinds.Kind.{Kind}
use Rattle.history.specs.Entries as entry
use Rattle.history.specs.Entries.{Entry, History, now}
use Rattle.history.specs.Settings.{Settings, Receiver}
use Rattle.history.specs.Known.{known, is_claim, claim_by, address_left, address_won}
use Rattle.history.specs.Opens.{notes_of}
use Rattle.history.specs.Messages.{Message, done}
use Rattle.history.specs.Emits.{reported}
use Rattle.history.specs.Endings.{fast_expired, fast_lost_at, side}
use Rattle.history.specs.FromBus.{frame_refused}
use Rattle.bus_listener.specs.Kinds.{is_message, is_told}

-- a frame that is heard: of a message, and not from the gateway itself
abbrev pub is_heard : (ℕ → Kind) → Option ℕ → Parts → Bool
is_heard kinds own p = is_message (kinds p.pgn) && not (is_own own p.source)

-- the listener as a receiver of these messages, with room for so many fast packets: it has the gateway's NAME and address, and knows the
-- addresses that the gateway knows at first
abbrev pub listener : (ℕ → Kind) → ℕ → Settings → Receiver
listener kinds slots c = record {
  name = c.name;
  address = c.address;
  presets = c.presets;
  kinds = kinds;
  fast_slots = slots;
  iso_slots = 0;
}

module _ (kinds : ℕ → Kind) (slots : ℕ) (c : Settings) (s : ℕ) where
  abbrev pub hears : History → BusFrame → Bool
  hears h f = is_heard kinds (known (listener kinds slots c) s h).claims.own (parts_of f.id)

  -- the message that an entry completes
  abbrev pub heard_done : History → Entry → Option Message
  heard_done h (entry.frame m f) = if hears h f then done (listener kinds slots c) s h (entry.frame m f) else None
  heard_done h (entry.datagram m bytes) = None
  heard_done h (entry.tick m) = None
  heard_done h (entry.command m source address) = None

  -- ---- what is told

  -- rule 16, for each message whose next frame is overdue, by source and PGN
  abbrev pub heard_expired : History → ℕ → List Emit
  heard_expired h m = let r = listener kinds slots c in let k = known r s h in fast_expired (side k (now h)) (side k m) (notes_of r s h) r.kinds

  -- rule 17, for what is open of an address that changes hands, by PGN: the one that was left before the one that was won
  abbrev pub step_loses : History → Entry → ℕ → ClaimStep → List Emit
  step_loses h e m step =
      let r = listener kinds slots c in
      let before = side (known r s h) m in
      let after = side (known r s (e ∷ h)) m in
      fast_lost_at before after (notes_of r s h) r.kinds (address_left step) ++ fast_lost_at before after (notes_of r s h) r.kinds (address_won step)

  abbrev pub claim_loses : History → ℕ → BusFrame → List Emit
  claim_loses h m f =
      if is_claim f then step_loses h (entry.frame m f) m (claim (known (listener kinds slots c) s h).claims (claim_by (length h) m f)).step else []

  -- the rules that a frame breaks: 10 from an address that nobody holds, else 11 to 15
  abbrev pub heard_refused : History → ℕ → BusFrame → List Report
  heard_refused h m f = if hears h f && is_told (parts_of f.id).pgn then frame_refused (listener kinds slots c) s h m f else []

  -- all that is told at an entry; at a command nothing is
  abbrev pub heard_out : History → Entry → List Emit
  heard_out h (entry.frame m f) = heard_expired h m ++ (claim_loses h m f ++ reported (heard_refused h m f))
  heard_out h (entry.datagram m bytes) = heard_expired h m
  heard_out h (entry.tick m) = heard_expired h m
  heard_out h (entry.command m source address) = []
