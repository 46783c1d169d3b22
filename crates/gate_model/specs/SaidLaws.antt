-- What is promised of what a gateway keeps of whose messages are said (ISO 11783-5) and of what was said (IEC 61162-450): it stands for the
-- history, and so gives what the definition of what is emitted says.
use Rattle.std.specs.Prelude.{◌≡◌, ℕ, ◌<◌, true, false, List, [], ◌∷◌, length, Option, Some, None, option_map, IfSome}
use Rattle.n2k_id.specs.Frame.{BusFrame}
use Rattle.readings.specs.declared.reading.Reading.{Reading}
use Rattle.readings.specs.Rows.{row_of}
use Rattle.claim_table.specs.Claims.{Claims, Claim, places, claim}
use Rattle.claim_table.specs.declared.answer.Holder.{Holder}
use Rattle.history.specs.AddressLaws.{AreSettings}
use Rattle.history.specs.Entries.{History, frame, datagram, tick, command}
use Rattle.history.specs.Settings.{Settings, rule_of, receiver_of}
use Rattle.history.specs.Known.{known, is_claim, claim_by, address_left, address_won}
use Rattle.history.specs.Messages.{Message, Carried, done, said_by}
use Rattle.history.specs.Choice.{reading_of}
use Rattle.history.specs.Emits.{Spoken, datagram_of, broken_of}
use Rattle.history.specs.BusRules.{message_rule}
use Rattle.history.specs.FromBus.{said_at, said_in}
use Rattle.history.specs.Gate.{spoken_of, command_in}
use Rattle.gate_model.specs.Said.{SaidKept, nothing_said, complete_by, complete_of, short_reports, told_by, ordered_by, sentences_by, datagram_by, message_after, message_emits, claimed_after}
use Rattle.gate_model.specs.SaidStands.{StandsSaid, SaidStandsFor}

-- nothing kept stands for the empty history
abbrev pub OpeningStandsSaid : Type 0
OpeningStandsSaid = (c : Settings) (s : ℕ) → SaidStandsFor c s [] (nothing_said c)

-- ---- a message, or none, that a frame completes

module _ (c : Settings) (s : ℕ) (h : History) (m : ℕ) (f : BusFrame) (k : SaidKept) where
  -- it leaves what stands for the history with the frame, and is said as the history says it
  pub record MessageStandsSaid : Type 0 where
    pub stands : SaidStandsFor c s (frame m f ∷ h) (message_after c k (option_map complete_of (done (receiver_of c) s h (frame m f))))
    pub gives : message_emits c k (option_map complete_of (done (receiver_of c) s h (frame m f))) ≡ said_in c (spoken_of c s h) (said_at c s h (frame m f))

  -- a claim completes none, and takes away what is noted of the addresses that it takes from others
  pub record ClaimStandsSaid : Type 0 where
    pub stands : SaidStandsFor c s (frame m f ∷ h) (claimed_after (claim (known (receiver_of c) s h).claims (claim_by (length h) m f)).step k)
    pub silent : done (receiver_of c) s h (frame m f) ≡ None

abbrev pub MessagesStandSaid : Type 0
MessagesStandSaid =
    (c : Settings) (s : ℕ) (h : History) (m : ℕ) (f : BusFrame) (k : SaidKept) → AreSettings c → is_claim f ≡ false → SaidStandsFor c s h k
    → MessageStandsSaid c s h m f k

abbrev pub ClaimsStandSaid : Type 0
ClaimsStandSaid =
    (c : Settings) (s : ℕ) (h : History) (m : ℕ) (f : BusFrame) (k : SaidKept) → AreSettings c → is_claim f ≡ true → SaidStandsFor c s h k
    → ClaimStandsSaid c s h m f k

-- every other entry leaves it as it is
pub record OthersStandSaid (c : Settings) (s : ℕ) (h : History) (k : SaidKept) : Type 0 where
  pub datagrams : (m : ℕ) (bytes : List ℕ) → SaidStandsFor c s (datagram m bytes ∷ h) k
  pub ticks : (m : ℕ) → SaidStandsFor c s (tick m ∷ h) k
  pub commands : (m source address : ℕ) → SaidStandsFor c s (command m source address ∷ h) k

abbrev pub OtherEntriesStandSaid : Type 0
OtherEntriesStandSaid = (c : Settings) (s : ℕ) (h : History) (k : SaidKept) → SaidStandsFor c s h k → OthersStandSaid c s h k

-- ---- what is made of what is kept, and of a message

-- the datagram of a reading is the one that is made of all that was said before
abbrev pub DatagramsAreOfAll : Type 0
DatagramsAreOfAll =
    (c : Settings) (holders : List (Option Holder)) (older : List Message) (spoken : List Spoken) (k : SaidKept) (r : Reading)
    → StandsSaid c holders older spoken k → datagram_by c k r ≡ datagram_of c.sfi spoken (rule_of c (row_of r)).group (sentences_by c r)

-- a message of the holder of its source, which is what is told of it, whether it is too short, and the command that it gives
pub record MessageIsTold (c : Settings) (s : ℕ) : Type 0 where
  pub complete : (index m source : ℕ) (holder : Option Holder) (what : Option Carried)
      → option_map complete_of (said_by index m source holder what) ≡ complete_by m source holder what
  pub short : (index m source : ℕ) (holder : Holder) (what : Option Carried)
      → broken_of (message_rule (said_by index m source (Some holder) what) ∷ []) ≡ short_reports source what
  pub told : (d : Message) → told_by (complete_of d) ≡ record { source = d.source; name = d.name; pgn = d.pgn; reading = reading_of d }
  pub ordered : (d : Option Message) (m : ℕ)
      → command_in c s d m ≡ option_map (λ o. command m o.source o.address) (ordered_by c.name (option_map complete_of d))

abbrev pub MessagesAreTold : Type 0
MessagesAreTold = (c : Settings) (s : ℕ) → MessageIsTold c s

-- ---- what the calls need

-- a message is from an address that has an entry, so it can be noted
abbrev pub MessagesFit : Type 0
MessagesFit =
    (c : Settings) (s : ℕ) (h : History) (m : ℕ) (f : BusFrame) → AreSettings c
    → IfSome (done (receiver_of c) s h (frame m f)) (λ d. d.source < places)

-- an address that a claim takes from another is one that has an entry, so it can be forgotten
pub record AddressesFit (c : Claims) (k : Claim) : Type 0 where
  pub left : IfSome (address_left (claim c k).step) (λ a. a < places)
  pub won : IfSome (address_won (claim c k).step) (λ a. a < places)

abbrev pub ClaimsFit : Type 0
ClaimsFit = (c : Claims) (k : Claim) → length c.holders ≡ places → AddressesFit c k
