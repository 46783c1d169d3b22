-- The fast packets (canboat) that a receiver keeps stand for the history: the slots hold for every key what is open of it, and what is made
-- of them at an entry is what the history says of that entry.
use Rattle.std.specs.Prelude.{◌≡◌, ℕ, ◌≤◌, true, false, not, List, [], ◌∷◌, length, Option, None, if◌then◌else◌}
use Rattle.std.specs.declared.cmp.Ordering.{Ordering}
use Rattle.n2k_id.specs.Frame.{BusFrame}
use Rattle.n2k_id.specs.Identifier.{parts_of}
use Rattle.pgn_profile.specs.declared.kinds.Kind.{Kind}
use Rattle.claim_table.specs.Claims.{claim, holder_at}
use Rattle.claim_table.specs.declared.answer.Holder.{Holder}
use Rattle.slot_views.specs.Slots.{SlotMap, IsMap, entry_at, is_full, remaining}
use Rattle.slot_views.specs.Traces.{unexpired}
use Rattle.fast_packet.specs.declared.key.FastKey.{FastKey}
use Rattle.fast_packet.specs.declared.answers.FastFed.{FastFed}
use Rattle.fast_packet.specs.Answers.{FeedGives}
use Rattle.fast_packet.specs.RunAssemblies.{assembly_at}
use Rattle.history.specs.Entries.{Entry, History, IsHistory, frame, datagram, tick, command}
use Rattle.history.specs.Settings.{Receiver}
use Rattle.history.specs.Known.{known, is_claim, claim_by, address_left, address_won}
use Rattle.history.specs.Traces.{NotedFrame}
use Rattle.history.specs.Opens.{is_fast, fast_open, notes_of}
use Rattle.history.specs.Meanings.{fast_packet, is_of_fast_packet}
use Rattle.history.specs.Endings.{fast_expired, fast_lost_at, side}
use Rattle.history.specs.Messages.{done, said_by}
use Rattle.history.specs.FromBus.{meaning_at, frame_refused}
use Rattle.history.specs.AddressLaws.{IsReceiver}
use Rattle.history.specs.KeyLaws.{the_note}
use Rattle.history.specs.CountLaws.{HoldsFast, CountsFast}
use Rattle.history.specs.ListLaws.{ListsFast}
use Rattle.gate_model.specs.Orders.{OrdersFast}
use Rattle.gate_model.specs.Endings.{fast_overdue}
use Rattle.gate_model.specs.FastPackets.{FastStep, answer_of, fast_answer, key_of, fast_step, without_source, lost_of_source, is_given_up, fast_kept}

-- ---- what is kept

module _ (kinds : ℕ → Kind) (cmp : FastKey → FastKey → Ordering) (limit : ℕ) (holders : List (Option Holder)) (notes : List NotedFrame) (m : ℕ)
    (slots : SlotMap FastKey) where
  -- with this limit, at a moment: the entry of each key of fast packets is what stands for the frames of it that are open, and there is
  -- none where nothing is, nor at any other key
  pub record StandsFast : Type 0 where
    pub limited : slots.limit ≡ limit
    pub map : IsMap cmp slots
    pub entries : (key : FastKey) → entry_at cmp slots key ≡ (if is_fast (kinds key.pgn) then assembly_at (fast_open holders notes key m) else None)

-- so it holds what is open, as the laws of history say it: it is full exactly where an opener finds no room, and lists the keys that are open
module _ (kinds : ℕ → Kind) (cmp : FastKey → FastKey → Ordering) (holders : List (Option Holder)) (notes : List NotedFrame) (m : ℕ) (slots : SlotMap FastKey) where
  pub record HoldsAllFast : Type 0 where
    pub holds : HoldsFast kinds cmp holders notes m slots
    pub counts : CountsFast kinds cmp holders notes m slots
    pub lists : ListsFast kinds cmp holders notes m slots

abbrev pub StandingHoldsFast : Type 0
StandingHoldsFast =
    (kinds : ℕ → Kind) (cmp : FastKey → FastKey → Ordering) (limit : ℕ) (holders : List (Option Holder)) (notes : List NotedFrame) (m : ℕ) (slots : SlotMap FastKey)
    → OrdersFast cmp → StandsFast kinds cmp limit holders notes m slots → HoldsAllFast kinds cmp holders notes m slots

module _ (cmp : FastKey → FastKey → Ordering) (r : Receiver) (s : ℕ) where
  -- it stands for a history
  abbrev pub StandsFastFor : History → ℕ → SlotMap FastKey → Type 0
  StandsFastFor h m slots = StandsFast r.kinds cmp r.fast_slots (known r s h).claims.holders (notes_of r s h) m slots

-- ---- the start

abbrev pub NothingStandsFast : Type 0
NothingStandsFast =
    (cmp : FastKey → FastKey → Ordering) (r : Receiver) (s m : ℕ) → StandsFastFor cmp r s [] m (record { limit = r.fast_slots; entries = [] })

-- ---- time: what is overdue at a later moment ends, and is told as the history says

pub record EndsFastInTime (cmp : FastKey → FastKey → Ordering) (r : Receiver) (s : ℕ) (h : History) (earlier m : ℕ) (slots : SlotMap FastKey) : Type 0 where
  pub stands : StandsFastFor cmp r s h m (unexpired m slots)
  pub told : fast_overdue slots m ≡ fast_expired (side (known r s h) earlier) (side (known r s h) m) (notes_of r s h) r.kinds

abbrev pub TimeEndsFastPackets : Type 0
TimeEndsFastPackets =
    (cmp : FastKey → FastKey → Ordering) → OrdersFast cmp → (r : Receiver) (s : ℕ) (h : History) (earlier m : ℕ) (slots : SlotMap FastKey)
    → earlier ≤ m → StandsFastFor cmp r s h earlier slots → EndsFastInTime cmp r s h earlier m slots

-- ---- claims and commands

-- by a claim by which these addresses change hands, the fast packets of them end, and no others
module _ (cmp : FastKey → FastKey → Ordering) (r : Receiver) (s : ℕ) (h : History) (e : Entry) (m : ℕ) (slots : SlotMap FastKey) (left won : Option ℕ) where
  pub record GivesUpFast : Type 0 where
    pub stands : StandsFastFor cmp r s (e ∷ h) m (fast_kept left won slots)
    pub kept : fast_kept left won slots ≡ remaining (is_given_up left won) slots
    pub left_told : lost_of_source left slots
        ≡ fast_lost_at (side (known r s h) m) (side (known r s (e ∷ h)) m) (notes_of r s h) r.kinds left
    pub won_told : lost_of_source won (without_source left slots)
        ≡ fast_lost_at (side (known r s h) m) (side (known r s (e ∷ h)) m) (notes_of r s h) r.kinds won

abbrev pub ClaimsGiveUpFast : Type 0
ClaimsGiveUpFast =
    (cmp : FastKey → FastKey → Ordering) → OrdersFast cmp → (r : Receiver) (s : ℕ) (h : History) (m : ℕ) (f : BusFrame) (slots : SlotMap FastKey)
    → IsReceiver r → is_claim f ≡ true → StandsFastFor cmp r s h m slots → let step = (claim (known r s h).claims (claim_by (length h) m f)).step in
    GivesUpFast cmp r s h (frame m f) m slots (address_left step) (address_won step)

abbrev pub CommandsLeaveFast : Type 0
CommandsLeaveFast =
    (cmp : FastKey → FastKey → Ordering) (r : Receiver) (s : ℕ) (h : History) (m moment source address : ℕ) (slots : SlotMap FastKey)
    → IsReceiver r → StandsFastFor cmp r s h m slots → StandsFastFor cmp r s (command moment source address ∷ h) m slots

-- ---- frames

-- what is made of a fast frame of a source that holds its address is what the history says
module _ (cmp : FastKey → FastKey → Ordering) (r : Receiver) (s : ℕ) (h : History) (m : ℕ) (f : BusFrame) (slots : SlotMap FastKey) where
  abbrev pub fast_step_here : FastStep
  fast_step_here = fast_step cmp slots (parts_of f.id) f.held m

  pub record FastFramesStand : Type 0 where
    pub stands : StandsFastFor cmp r s (frame m f ∷ h) m fast_step_here.slots
    -- there is room for a message that it opens exactly where the slots aren't full
    pub room : (the_note r s h m f).admitted ≡ not (is_full cmp slots (key_of (parts_of f.id)))
    pub reports : frame_refused r s h m f ≡ fast_step_here.reports
    pub completed : done r s h (frame m f)
        ≡ said_by (length h) m (parts_of f.id).source (holder_at (known r s h).claims.holders (parts_of f.id).source) fast_step_here.done

abbrev pub FramesStandFast : Type 0
FramesStandFast =
    (cmp : FastKey → FastKey → Ordering) → OrdersFast cmp → (r : Receiver) (s : ℕ) (h : History) (m : ℕ) (f : BusFrame) (slots : SlotMap FastKey)
    → IsReceiver r → IsHistory (frame m f ∷ h) → meaning_at r s h m f ≡ fast_packet → StandsFastFor cmp r s h m slots → FastFramesStand cmp r s h m f slots

-- every answer of the assembler of fast packets is the plain one
abbrev pub FastAnswersArePlain : Type 0
FastAnswersArePlain =
    (cmp : FastKey → FastKey → Ordering) (slots : SlotMap FastKey) (key : FastKey) (bytes : List ℕ) (moment : ℕ) (fed : FastFed)
    → FeedGives cmp slots key bytes moment fed → answer_of fed ≡ fast_answer cmp slots key bytes moment

-- ---- any other frame that is no claim, a datagram and a tick leave it as it is

abbrev pub OthersLeaveFast : Type 0
OthersLeaveFast =
    (cmp : FastKey → FastKey → Ordering) (r : Receiver) (s : ℕ) (h : History) (m moment : ℕ) (f : BusFrame) (slots : SlotMap FastKey) → IsReceiver r
    → is_claim f ≡ false → is_of_fast_packet (meaning_at r s h moment f) ≡ false → StandsFastFor cmp r s h m slots
    → StandsFastFor cmp r s (frame moment f ∷ h) m slots

abbrev pub DatagramsLeaveFast : Type 0
DatagramsLeaveFast =
    (cmp : FastKey → FastKey → Ordering) (r : Receiver) (s : ℕ) (h : History) (m moment : ℕ) (bytes : List ℕ) (slots : SlotMap FastKey)
    → StandsFastFor cmp r s h m slots → StandsFastFor cmp r s (datagram moment bytes ∷ h) m slots

abbrev pub TicksLeaveFast : Type 0
TicksLeaveFast =
    (cmp : FastKey → FastKey → Ordering) (r : Receiver) (s : ℕ) (h : History) (m moment : ℕ) (slots : SlotMap FastKey)
    → StandsFastFor cmp r s h m slots → StandsFastFor cmp r s (tick moment ∷ h) m slots
