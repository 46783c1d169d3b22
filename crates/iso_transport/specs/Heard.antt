-- What is promised of all frames that are heard, also of those that bear on no session. A list of frames has the newest first.
use Rattle.std.specs.Prelude.{◌≡◌, ℕ, ◌≤◌, Bool, ◌&&◌, if◌then◌else◌, List, [], ◌∷◌, Option}
use Rattle.std.specs.declared.cmp.Ordering.{Ordering}
use Rattle.slot_views.specs.Slots.{SlotMap}
use Rattle.slot_views.specs.Traces.{unexpired}
use Rattle.n2k_id.specs.declared.identifier_parts.Parts.{Parts}
use Rattle.iso_transport.specs.declared.key.IsoKey.{IsoKey}
use Rattle.iso_transport.specs.Audience.{key_of, is_data}
use Rattle.iso_transport.specs.Verdicts.{bears, concerns}
use Rattle.iso_transport.specs.IsoRuns.{IsoPiece}
use Rattle.iso_transport.specs.Assembly.{fed_after}
use Rattle.iso_transport.specs.Keys.{sessions}

-- a frame, with the parts of its identifier
pub record HeardFrame : Type 0 where
  pub parts : Parts
  pub piece : IsoPiece

-- the frame concerns this node, and can open, extend or end a session
abbrev pub is_bearing : Option ℕ → HeardFrame → Bool
is_bearing own n = concerns own n.parts && bears (key_of n.parts).addressed (is_data n.parts) n.piece.bytes

-- the frames that do, each with its key
abbrev pub bearing_frames : Option ℕ → List HeardFrame → List (IsoKey × IsoPiece)
bearing_frames own [] = []
bearing_frames own (n ∷ h) = if is_bearing own n then (key_of n.parts, n.piece) ∷ bearing_frames own h else bearing_frames own h

-- the moment of the newest frame
abbrev pub newest : List HeardFrame → ℕ
newest [] = 0
newest (n ∷ h) = n.piece.moment

-- each frame came no earlier than those before it, and is a packet where its PGN is that of packets
abbrev pub AreInOrder : List HeardFrame → Type 0
AreInOrder [] = Unit {0}
AreInOrder (n ∷ h) = (newest h ≤ n.piece.moment) × (n.piece.packet ≡ is_data n.parts) × AreInOrder h

module _ (cmp : IsoKey → IsoKey → Ordering) (own : Option ℕ) (limit : ℕ) where
  -- the sessions after all frames, where all that is overdue ends before each
  unfoldable pub heard_after : List HeardFrame → SlotMap IsoKey
  heard_after [] = record { limit = limit; entries = [] }
  heard_after (n ∷ h) = fed_after cmp (unexpired n.piece.moment (heard_after h)) own n.parts n.piece.bytes n.piece.moment

  -- at each moment from the newest frame on they are those of the frames that bear on one
  pub record HearsWhatBears (h : List HeardFrame) : Type 0 where
    pub sessions : (m : ℕ) → newest h ≤ m → unexpired m (heard_after h) ≡ sessions cmp limit (bearing_frames own h) m
