-- What one more frame does to what is open of its key.
use Rattle.std.specs.Prelude.{Option, ◌≡◌, ℕ, ◌≤◌, Bool, true, false, ◌&&◌, ◌==◌, List, ◌∷◌, length, Some, None, is_some, if◌then◌else◌}
use Rattle.n2k_id.specs.Frame.{BusFrame}
use Rattle.n2k_id.specs.Identifier.{parts_of}
use Rattle.claim_table.specs.Claims.{Claims, is_at, holder_at}
use Rattle.claim_table.specs.declared.answer.Holder.{Holder}
use Rattle.pgn_profile.specs.declared.kinds.Kind.TheVariants.{Fast}
use Rattle.slot_views.specs.Runs.{kept_at}
use Rattle.slot_views.specs.RunLaws.{fed, finished}
use Rattle.fast_packet.specs.FastRuns.{fast_rules}
use Rattle.iso_transport.specs.IsoRuns.{iso_rules}
use Rattle.fast_packet.specs.declared.key.FastKey.{FastKey}
use Rattle.iso_transport.specs.declared.key.IsoKey.{IsoKey}
use Rattle.iso_transport.specs.Audience.{key_of}
use Rattle.history.specs.AddressLaws.{IsReceiver}
use Rattle.history.specs.Entries.{History, frame}
use Rattle.history.specs.Settings.{Receiver}
use Rattle.history.specs.Known.{Known, known, is_claim, held_since}
use Rattle.history.specs.Traces.{NotedFrame, fast_piece, iso_piece, is_transport, is_bearing}
use Rattle.history.specs.Opens.{same_fast, fast_open, iso_open, note_of, notes_of}
use Rattle.history.specs.Messages.{done, said_by, fast_carried, iso_carried}

-- a frame that is no claim, from a source that holds its address
module _ (c : Receiver) (s : ℕ) (h : History) (m : ℕ) (f : BusFrame) where
  abbrev pub the_note : NotedFrame
  the_note = note_of c (length h) (known c s h) (notes_of c s h) m f

  abbrev pub fast_key : FastKey
  fast_key = record { source = (parts_of f.id).source; pgn = (parts_of f.id).pgn }

  pub record StepsFast (holder : Holder) : Type 0 where
    -- of its key the frame leaves what the rules of fast packets say of the frames that were open, and completes what they say
    pub left : (n : ℕ) → fast_open (known c s (frame m f ∷ h)).claims.holders (notes_of c s (frame m f ∷ h)) fast_key n
        ≡ kept_at fast_rules (fed fast_rules (fast_open (known c s h).claims.holders (notes_of c s h) fast_key m) (fast_piece the_note)) n
    pub completed : done c s h (frame m f)
        ≡ said_by (length h) m (parts_of f.id).source (Some holder)
        (fast_carried (parts_of f.id).pgn
        (finished fast_rules (fast_open (known c s h).claims.holders (notes_of c s h) fast_key m) (fast_piece the_note)))

  -- what is open of other keys stays open
  pub record KeepsFast : Type 0 where
    pub others : (key : FastKey) (n : ℕ) → same_fast key fast_key ≡ false
        → fast_open (known c s (frame m f ∷ h)).claims.holders (notes_of c s (frame m f ∷ h)) key n
        ≡ fast_open (known c s h).claims.holders (notes_of c s h) key n

abbrev pub FramesStepFast : Type 0
FramesStepFast =
    (c : Receiver) (s : ℕ) (h : History) (m : ℕ) (f : BusFrame) (holder : Holder) → IsReceiver c → c.kinds (parts_of f.id).pgn ≡ Fast
    → holder_at (known c s h).claims.holders (parts_of f.id).source ≡ Some holder → StepsFast c s h m f holder

abbrev pub FramesKeepFast : Type 0
FramesKeepFast = (c : Receiver) (s : ℕ) (h : History) (m : ℕ) (f : BusFrame) → is_claim f ≡ false → KeepsFast c s h m f

-- what is open at a moment is what was open at an earlier one, but for what is overdue
abbrev pub TimeEndsFast : Type 0
TimeEndsFast =
    (holders : List (Option Holder)) (notes : List NotedFrame) (key : FastKey) (m n : ℕ) → m ≤ n
    → fast_open holders notes key n ≡ kept_at fast_rules (fast_open holders notes key m) n

-- ---- the transport protocol

-- the frame bears on the session of this key: it is from the key's source, which holds its address, and to all or to the gateway
abbrev pub is_meant : Option ℕ → NotedFrame → Bool → Bool
is_meant own n addressed = if addressed then is_at n.parts.destination own else n.parts.destination == 255

abbrev pub concerns : Claims → NotedFrame → IsoKey → Bool
concerns claims n key =
    is_some (held_since claims.holders key.source)
    && ((n.parts.source == key.source) && (is_meant claims.own n key.addressed && is_bearing key.addressed n))

pub record StepsIso (c : Receiver) (s : ℕ) (h : History) (m : ℕ) (f : BusFrame) : Type 0 where
  -- of each key on whose session it bears, the frame leaves what the rules say of the frames that were open; all others stay open
  pub left : (key : IsoKey) (n : ℕ) → iso_open (known c s (frame m f ∷ h)) (notes_of c s (frame m f ∷ h)) key n
      ≡ (if concerns (known c s h).claims (the_note c s h m f) key
      then kept_at (iso_rules key.addressed) (fed (iso_rules key.addressed) (iso_open (known c s h) (notes_of c s h) key m) (iso_piece (the_note c s h m f))) n
      else iso_open (known c s h) (notes_of c s h) key n)

-- and it completes what they say
pub record CompletesIso (c : Receiver) (s : ℕ) (h : History) (m : ℕ) (f : BusFrame) (holder : Holder) : Type 0 where
  pub completed : let key = key_of (parts_of f.id) in done c s h (frame m f)
      ≡ said_by (length h) m (parts_of f.id).source (Some holder)
      (if concerns (known c s h).claims (the_note c s h m f) key
      then iso_carried (finished (iso_rules key.addressed) (iso_open (known c s h) (notes_of c s h) key m) (iso_piece (the_note c s h m f)))
      else None)

abbrev pub FramesStepIso : Type 0
FramesStepIso = (c : Receiver) (s : ℕ) (h : History) (m : ℕ) (f : BusFrame) → IsReceiver c → is_claim f ≡ false → StepsIso c s h m f

abbrev pub FramesCompleteIso : Type 0
FramesCompleteIso =
    (c : Receiver) (s : ℕ) (h : History) (m : ℕ) (f : BusFrame) (holder : Holder) → IsReceiver c → is_transport (parts_of f.id) ≡ true
    → holder_at (known c s h).claims.holders (parts_of f.id).source ≡ Some holder → CompletesIso c s h m f holder

abbrev pub TimeEndsIso : Type 0
TimeEndsIso =
    (k : Known) (notes : List NotedFrame) (key : IsoKey) (m n : ℕ) → m ≤ n
    → iso_open k notes key n ≡ kept_at (iso_rules key.addressed) (iso_open k notes key m) n
