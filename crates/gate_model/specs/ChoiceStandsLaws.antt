-- What is promised of the notes of a table of subjects: they stand for the history of a receiver, and so select whose message the
-- definition of what is selected says.
use Rattle.std.specs.Prelude.{◌≡◌, ℕ, ◌<◌, true, false, List, [], ◌∷◌, length, slice_index, Option, None, IfSome}
use Rattle.n2k_id.specs.Frame.{BusFrame}
use Rattle.source_choice.specs.declared.told.Told.{Told}
use Rattle.source_choice.specs.SubjectRules.{SubjectRule}
use Rattle.source_choice.specs.Choices.{Choices, opened}
use Rattle.claim_table.specs.Claims.{places, claim}
use Rattle.history.specs.AddressLaws.{IsReceiver}
use Rattle.history.specs.Entries.{History, frame, datagram, tick, command}
use Rattle.history.specs.Settings.{Receiver, is_some_that}
use Rattle.history.specs.Known.{known, is_claim, claim_by}
use Rattle.history.specs.Messages.{Message, done, messages_of}
use Rattle.history.specs.Subjects.{is_selected}
use Rattle.gate_model.specs.Choosing.{message_noted, is_message_chosen, claimed}
use Rattle.gate_model.specs.ChoiceStands.{ChoicesStandFor}

-- each message tells of a subject of the table, or of none
abbrev pub TellWithin : (Message → Option Told) → ℕ → Type 0
TellWithin tells count = (d : Message) → IfSome (tells d) (λ t. t.subject < count)

-- the timeouts are those of the subjects, by their numbers
abbrev pub AreTimeouts : (ℕ → SubjectRule) → List ℕ → Type 0
AreTimeouts rules timeouts = (n : ℕ) → n < length timeouts → slice_index timeouts n ≡ (rules n).timeout

-- with nothing noted they stand for the empty history
abbrev pub OpeningStandsChosen : Type 0
OpeningStandsChosen =
    (tells : Message → Option Told) (rules : ℕ → SubjectRule) (timeouts : List ℕ) (r : Receiver) (s : ℕ) → AreTimeouts rules timeouts
    → ChoicesStandFor tells rules (length timeouts) r s [] (opened places timeouts)

module _ (tells : Message → Option Told) (rules : ℕ → SubjectRule) (count : ℕ) (r : Receiver) (s : ℕ) (h : History) where
  module _ (m : ℕ) (f : BusFrame) (k : Choices) where
    -- a message, or none, that a frame completes: it is noted, and selected exactly where it is among all before it
    pub record MessageStandsChosen : Type 0 where
      pub stands : ChoicesStandFor tells rules count r s (frame m f ∷ h) (message_noted tells rules k (done r s h (frame m f)))
      pub chosen : is_message_chosen tells rules k (done r s h (frame m f))
          ≡ is_some_that (is_selected tells rules (known r s h).claims.holders (messages_of r s h)) (done r s h (frame m f))

    -- a claim completes none, and takes away what is noted of the addresses that it takes from others
    pub record ClaimStandsChosen : Type 0 where
      pub stands : ChoicesStandFor tells rules count r s (frame m f ∷ h) (claimed (claim (known r s h).claims (claim_by (length h) m f)).step k)
      pub silent : done r s h (frame m f) ≡ None

  -- every other entry leaves them as they are
  pub record OthersStandChosen (k : Choices) : Type 0 where
    pub datagrams : (m : ℕ) (bytes : List ℕ) → ChoicesStandFor tells rules count r s (datagram m bytes ∷ h) k
    pub ticks : (m : ℕ) → ChoicesStandFor tells rules count r s (tick m ∷ h) k
    pub commands : (m source address : ℕ) → ChoicesStandFor tells rules count r s (command m source address ∷ h) k

abbrev pub MessagesStandChosen : Type 0
MessagesStandChosen =
    (tells : Message → Option Told) (rules : ℕ → SubjectRule) (count : ℕ) (r : Receiver) (s : ℕ) (h : History) (m : ℕ) (f : BusFrame) (k : Choices)
    → IsReceiver r → is_claim f ≡ false → TellWithin tells count → ChoicesStandFor tells rules count r s h k
    → MessageStandsChosen tells rules count r s h m f k

abbrev pub ClaimsStandChosen : Type 0
ClaimsStandChosen =
    (tells : Message → Option Told) (rules : ℕ → SubjectRule) (count : ℕ) (r : Receiver) (s : ℕ) (h : History) (m : ℕ) (f : BusFrame) (k : Choices)
    → IsReceiver r → is_claim f ≡ true → ChoicesStandFor tells rules count r s h k
    → ClaimStandsChosen tells rules count r s h m f k

abbrev pub OtherEntriesStandChosen : Type 0
OtherEntriesStandChosen =
    (tells : Message → Option Told) (rules : ℕ → SubjectRule) (count : ℕ) (r : Receiver) (s : ℕ) (h : History) (k : Choices)
    → ChoicesStandFor tells rules count r s h k → OthersStandChosen tells rules count r s h k

-- a message is from an address that has an entry, so it can be noted
abbrev pub MessagesFitChosen : Type 0
MessagesFitChosen =
    (r : Receiver) (s : ℕ) (h : History) (m : ℕ) (f : BusFrame) → IsReceiver r → IfSome (done r s h (frame m f)) (λ d. d.source < places)
