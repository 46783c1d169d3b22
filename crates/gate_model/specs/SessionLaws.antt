-- The sessions that the gateway keeps stand for the history: each map holds for every key what is open of it (ISO 11783-3), and what is made
-- of the map at an entry is what the history says of that entry.
use Rattle.std.specs.Prelude.{◌≡◌, ℕ, ◌≤◌, Bool, true, false, not, List, [], ◌∷◌, length, Option, None}
use Rattle.std.specs.declared.cmp.Ordering.{Ordering}
use Rattle.n2k_id.specs.declared.identifier_parts.Parts.{Parts}
use Rattle.n2k_id.specs.Frame.{BusFrame}
use Rattle.n2k_id.specs.Identifier.{parts_of}
use Rattle.claim_table.specs.Claims.{claim, holder_at, is_ready, is_obeyed}
use Rattle.slot_views.specs.Slots.{SlotMap, IsMap, entry_at, is_full, remaining}
use Rattle.slot_views.specs.Traces.{unexpired}
use Rattle.iso_transport.specs.declared.key.IsoKey.{IsoKey}
use Rattle.iso_transport.specs.declared.answers.IsoFed.{IsoFed}
use Rattle.iso_transport.specs.Audience.{key_of}
use Rattle.iso_transport.specs.Answers.{FeedGives}
use Rattle.iso_transport.specs.RunVerdicts.{assembly_at}
use Rattle.history.specs.Entries.{Entry, History, IsHistory, frame, datagram, tick, command}
use Rattle.history.specs.Settings.{Receiver}
use Rattle.history.specs.Known.{Known, known, is_claim, claim_by, address_left, address_won}
use Rattle.history.specs.Traces.{NotedFrame}
use Rattle.history.specs.Opens.{iso_open, notes_of}
use Rattle.history.specs.Meanings.{transport, is_of_session}
use Rattle.history.specs.Emits.{replied}
use Rattle.history.specs.Endings.{iso_expired, lost_elsewhere, side, iso_lost_at}
use Rattle.history.specs.Messages.{done, said_by}
use Rattle.history.specs.FromBus.{meaning_at, frame_refused, answers_by}
use Rattle.history.specs.AddressLaws.{IsReceiver}
use Rattle.history.specs.TraceLaws.{same_own}
use Rattle.history.specs.KeyLaws.{the_note}
use Rattle.history.specs.CountLaws.{HoldsIso, CountsIso}
use Rattle.history.specs.ListLaws.{ListsIso}
use Rattle.gate_model.specs.Orders.{OrdersIso}
use Rattle.gate_model.specs.Endings.{sessions_overdue}
use Rattle.gate_model.specs.Sessions.{IsAnswer, SessionStep, answer_of, session_step}
use Rattle.gate_model.specs.Sessions.{is_move, without_source, lost_of_source, lost_addressed, is_given_up, sessions_kept}

-- ---- what is kept

-- with this limit, at a moment: the entry of each key is what stands for the frames of it that are open, and there is none where nothing is
pub record StandsIso (cmp : IsoKey → IsoKey → Ordering) (limit : ℕ) (k : Known) (notes : List NotedFrame) (m : ℕ) (slots : SlotMap IsoKey) : Type 0 where
  pub limited : slots.limit ≡ limit
  pub map : IsMap cmp slots
  pub entries : (key : IsoKey) → entry_at cmp slots key ≡ assembly_at key.addressed (iso_open k notes key m)

module _ (cmp : IsoKey → IsoKey → Ordering) (r : Receiver) (s : ℕ) where
  -- it stands for a history
  abbrev pub StandsFor : History → ℕ → SlotMap IsoKey → Type 0
  StandsFor h m slots = StandsIso cmp r.iso_slots (known r s h) (notes_of r s h) m slots

-- so it holds what is open, as the laws of history say it: there are as many entries as keys that are open, it is full exactly where an
-- opener finds no room, and its keys are listed in the order of the reports
pub record HoldsWhatIsOpen (cmp : IsoKey → IsoKey → Ordering) (k : Known) (notes : List NotedFrame) (m : ℕ) (slots : SlotMap IsoKey) : Type 0 where
  pub holds : HoldsIso cmp k notes m slots
  pub counts : CountsIso cmp k notes m slots
  pub lists : ListsIso cmp k notes m slots

abbrev pub StandingHolds : Type 0
StandingHolds =
    (cmp : IsoKey → IsoKey → Ordering) → OrdersIso cmp → (r : Receiver) (s : ℕ) (h : History) (m : ℕ) (slots : SlotMap IsoKey) → IsReceiver r
    → StandsFor cmp r s h m slots → HoldsWhatIsOpen cmp (known r s h) (notes_of r s h) m slots

-- ---- the start

abbrev pub NothingStands : Type 0
NothingStands =
    (cmp : IsoKey → IsoKey → Ordering) (r : Receiver) (s m : ℕ) → StandsFor cmp r s [] m (record { limit = r.iso_slots; entries = [] })

-- ---- time

-- what is overdue at a later moment ends, and is told as the history says
pub record EndsInTime (cmp : IsoKey → IsoKey → Ordering) (r : Receiver) (s : ℕ) (h : History) (earlier m : ℕ) (slots : SlotMap IsoKey) : Type 0 where
  pub stands : StandsFor cmp r s h m (unexpired m slots)
  pub told : sessions_overdue (known r s h).claims.own slots m ≡ iso_expired (side (known r s h) earlier) (side (known r s h) m) (notes_of r s h)

abbrev pub TimeEndsSessions : Type 0
TimeEndsSessions =
    (cmp : IsoKey → IsoKey → Ordering) → OrdersIso cmp → (r : Receiver) (s : ℕ) (h : History) (earlier m : ℕ) (slots : SlotMap IsoKey) → IsReceiver r
    → IsHistory h → earlier ≤ m → StandsFor cmp r s h earlier slots → EndsInTime cmp r s h earlier m slots

-- ---- claims and commands

-- the own address is another one after an entry
abbrev pub is_moved : Receiver → ℕ → History → Entry → Bool
is_moved r s h e = not (same_own (known r s h).claims.own (known r s (e ∷ h)).claims.own)

-- so it is exactly where a claim is answered by a move, or by cannot claim, and where a command is obeyed
abbrev pub ClaimsTellMoves : Type 0
ClaimsTellMoves =
    (r : Receiver) (s : ℕ) (h : History) (m : ℕ) (f : BusFrame) → IsReceiver r → is_claim f ≡ true
    → is_moved r s h (frame m f) ≡ is_move (claim (known r s h).claims (claim_by (length h) m f)).step.own

abbrev pub CommandsTellMoves : Type 0
CommandsTellMoves =
    (r : Receiver) (s : ℕ) (h : History) (m source address : ℕ) → is_moved r s h (command m source address) ≡ is_obeyed (known r s h).claims address

-- by an entry by which these addresses change hands, and the own one maybe, the sessions end that bear on them, and no others
module _ (cmp : IsoKey → IsoKey → Ordering) (r : Receiver) (s : ℕ) (h : History) (e : Entry) (m : ℕ) (slots : SlotMap IsoKey) (left won : Option ℕ) where
  pub record GivesUp : Type 0 where
    pub stands : StandsFor cmp r s (e ∷ h) m (sessions_kept left won (is_moved r s h e) slots)
    pub kept : sessions_kept left won (is_moved r s h e) slots ≡ remaining (is_given_up left won (is_moved r s h e)) slots
    pub left_told : lost_of_source left slots ≡ iso_lost_at (side (known r s h) m) (side (known r s (e ∷ h)) m) (notes_of r s h) left
    pub won_told : lost_of_source won (without_source left slots) ≡ iso_lost_at (side (known r s h) m) (side (known r s (e ∷ h)) m) (notes_of r s h) won
    pub elsewhere_told : lost_addressed (is_moved r s h e) (without_source won (without_source left slots))
        ≡ lost_elsewhere (side (known r s h) m) (side (known r s (e ∷ h)) m) (notes_of r s h) left won

abbrev pub ClaimsGiveUp : Type 0
ClaimsGiveUp =
    (cmp : IsoKey → IsoKey → Ordering) → OrdersIso cmp → (r : Receiver) (s : ℕ) (h : History) (m : ℕ) (f : BusFrame) (slots : SlotMap IsoKey) → IsReceiver r
    → IsHistory h → is_claim f ≡ true → StandsFor cmp r s h m slots → let step = (claim (known r s h).claims (claim_by (length h) m f)).step in
    GivesUp cmp r s h (frame m f) m slots (address_left step) (address_won step)

abbrev pub CommandsGiveUp : Type 0
CommandsGiveUp =
    (cmp : IsoKey → IsoKey → Ordering) → OrdersIso cmp → (r : Receiver) (s : ℕ) (h : History) (m source address : ℕ) (slots : SlotMap IsoKey)
    → IsReceiver r → IsHistory h → StandsFor cmp r s h m slots → GivesUp cmp r s h (command m source address) m slots None None

-- ---- frames

-- a frame to all or to the gateway of a source that holds its address
abbrev pub IsSessionFrame : Receiver → ℕ → History → ℕ → BusFrame → Type 0
IsSessionFrame r s h m f = meaning_at r s h m f ≡ transport

-- what is made of it is what the history says
module _ (cmp : IsoKey → IsoKey → Ordering) (r : Receiver) (s : ℕ) (h : History) (m : ℕ) (f : BusFrame) (slots : SlotMap IsoKey) where
  abbrev pub step_here : SessionStep
  step_here = session_step cmp slots (known r s h).claims.own (parts_of f.id) f.held m (is_ready (known r s h).claims m)

  pub record FramesStand : Type 0 where
    pub stands : StandsFor cmp r s (frame m f ∷ h) m step_here.slots
    -- there is room for a session that it opens exactly where the map isn't full
    pub room : (the_note r s h m f).admitted ≡ not (is_full cmp slots (key_of (parts_of f.id)))
    -- an opener that finds no room is of no open session
    pub alone : (the_note r s h m f).admitted ≡ false → iso_open (known r s h) (notes_of r s h) (key_of (parts_of f.id)) m ≡ None
    pub reports : frame_refused r s h m f ≡ step_here.reports
    pub reply : answers_by r s h m f transport ≡ replied (known r s h).claims.own (parts_of f.id).source step_here.reply
    pub completed : done r s h (frame m f)
        ≡ said_by (length h) m (parts_of f.id).source (holder_at (known r s h).claims.holders (parts_of f.id).source) step_here.done

abbrev pub SessionFramesStand : Type 0
SessionFramesStand =
    (cmp : IsoKey → IsoKey → Ordering) → OrdersIso cmp → (r : Receiver) (s : ℕ) (h : History) (m : ℕ) (f : BusFrame) (slots : SlotMap IsoKey) → IsReceiver r
    → IsHistory (frame m f ∷ h) → IsSessionFrame r s h m f → StandsFor cmp r s h m slots → FramesStand cmp r s h m f slots

-- every answer of an assembler is the one that is told there
abbrev pub AnswersAreTold : Type 0
AnswersAreTold =
    (cmp : IsoKey → IsoKey → Ordering) (slots : SlotMap IsoKey) (own : Option ℕ) (parts : Parts) (bytes : List ℕ) (moment : ℕ) (fed : IsoFed)
    → FeedGives cmp slots own parts bytes moment fed → IsAnswer (answer_of cmp slots own parts bytes moment) fed

-- any other frame that is no claim, a datagram and a tick leave it as it is
abbrev pub OthersLeaveSessions : Type 0
OthersLeaveSessions =
    (cmp : IsoKey → IsoKey → Ordering) (r : Receiver) (s : ℕ) (h : History) (m moment : ℕ) (f : BusFrame) (slots : SlotMap IsoKey) → IsReceiver r
    → is_claim f ≡ false → is_of_session (meaning_at r s h moment f) ≡ false → StandsFor cmp r s h m slots → StandsFor cmp r s (frame moment f ∷ h) m slots

abbrev pub DatagramsLeaveSessions : Type 0
DatagramsLeaveSessions =
    (cmp : IsoKey → IsoKey → Ordering) (r : Receiver) (s : ℕ) (h : History) (m moment : ℕ) (bytes : List ℕ) (slots : SlotMap IsoKey)
    → StandsFor cmp r s h m slots → StandsFor cmp r s (datagram moment bytes ∷ h) m slots

abbrev pub TicksLeaveSessions : Type 0
TicksLeaveSessions =
    (cmp : IsoKey → IsoKey → Ordering) (r : Receiver) (s : ℕ) (h : History) (m moment : ℕ) (slots : SlotMap IsoKey)
    → StandsFor cmp r s h m slots → StandsFor cmp r s (tick moment ∷ h) m slots
