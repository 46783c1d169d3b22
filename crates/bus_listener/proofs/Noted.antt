-- What is noted of a table of subjects stands for one more entry, and selects the message that it completes as the history does.
use Rattle.std.proofs.Common.{◌≡◌, ℕ, ◌<◌, Bool, true, false, ◌∷◌, length, Option, Some, None, refl, sym, ap, subst, ◌∙◌}
use Rattle.std.specs.Prelude.{IfSome, if◌then◌else◌}
use Rattle.std.proofs.lemmas.Bool.{lt-ltb}
use Rattle.n2k_id.specs.Frame.{BusFrame}
use Rattle.claim_table.specs.Claims.{claim, places}
use Rattle.claim_table.specs.declared.answer.ClaimStep.{ClaimStep}
use Rattle.source_choice.specs.Choices.{Choices, forgotten}
use Rattle.source_choice.specs.SubjectRules.{SubjectRule}
use Rattle.source_choice.specs.declared.told.Told.{Told}
use Rattle.history.specs.AddressLaws.{IsReceiver}
use Rattle.history.specs.Entries.{Entry, History, command, datagram, frame, tick}
use Rattle.history.specs.Known.{address_left, address_won, claim_by, is_claim, known}
use Rattle.history.specs.Messages.{Message, done, messages_of}
use Rattle.history.specs.Settings.{Receiver, is_some_that}
use Rattle.history.specs.Subjects.{is_selected}
use Rattle.history.proofs.Addresses.{addresses_are_sound}
use Rattle.gate_model.specs.Addresses.{Changed, changed_by, no_change}
use Rattle.gate_model.specs.AddressStands.{changes_in}
use Rattle.gate_model.specs.ChoiceStands.{ChoicesStandFor}
use Rattle.gate_model.specs.ChoiceStandsLaws.{TellWithin}
use Rattle.gate_model.specs.Choosing.{claimed, is_message_chosen, message_noted, without_address}
use Rattle.gate_model.proofs.ChoiceClaims.{claims_stand_chosen, other_entries_stand_chosen}
use Rattle.gate_model.proofs.ChoiceMessages.{messages_fit_chosen, messages_stand_chosen}
use Rattle.gate_model.proofs.SaidAddresses.{claims_fit}
use Rattle.bus_listener.specs.Noting.{forgotten_at, forgotten_of}

forgotten_is : (o : Option ℕ) (choices : Choices) → IfSome o (λ a. a < places) → forgotten_at o choices ≡ without_address o choices
forgotten_is None choices within = refl
forgotten_is (Some a) choices within = ap (λ b. if b then forgotten choices a else choices) (lt-ltb a places within)

-- the addresses of a claim are such as a device can have
pub claimed_is : (r : Receiver) → IsReceiver r → (s : ℕ) (h : History) (m : ℕ) (f : BusFrame) (k : Choices)
    → let step = (claim (known r s h).claims (claim_by (length h) m f)).step in forgotten_of (changed_by step) k ≡ claimed step k
claimed_is r are s h m f k =
    let step : ClaimStep = (claim (known r s h).claims (claim_by (length h) m f)).step in
    let fits = claims_fit (known r s h).claims (claim_by (length h) m f) (addresses_are_sound r s h are).sound.room in
    ap (forgotten_at (address_won step)) (forgotten_is (address_left step) k fits.left)
    ∙ forgotten_is (address_won step) (without_address (address_left step) k) fits.won

module _ (tells : Message → Option Told) (rules : ℕ → SubjectRule) (count : ℕ) (r : Receiver) (s : ℕ) (h : History) where
  -- with the message that an entry completes, or none
  pub record IsNoted (e : Entry) (k : Choices) (o : Option Message) : Type 0 where
    pub completes : done r s h e ≡ o
    pub fits : IfSome o (λ d. d.source < places)
    pub stands : ChoicesStandFor tells rules count r s (e ∷ h) (message_noted tells rules k o)
    pub chosen : is_message_chosen tells rules k o ≡ is_some_that (is_selected tells rules (known r s h).claims.holders (messages_of r s h)) o

  module _ (within : TellWithin tells count) (are : IsReceiver r) (k : Choices) (stands : ChoicesStandFor tells rules count r s h k) where
    claim_noted : (m : ℕ) (f : BusFrame) → is_claim f ≡ true
        → IsNoted (frame m f) (forgotten_of (changed_by (claim (known r s h).claims (claim_by (length h) m f)).step) k) None
    claim_noted m f claims =
        let forgets = claims_stand_chosen tells rules count r s h m f k are claims stands in
        record {
          completes = forgets.silent;
          fits = tt;
          stands = subst (λ choices. ChoicesStandFor tells rules count r s (frame m f ∷ h) choices) (sym (claimed_is r are s h m f k)) forgets.stands;
          chosen = refl;
        }

    message_of_frame : (m : ℕ) (f : BusFrame) → is_claim f ≡ false → IsNoted (frame m f) k (done r s h (frame m f))
    message_of_frame m f other =
        let note = messages_stand_chosen tells rules count r s h m f k are other within stands in
        record { completes = refl; fits = messages_fit_chosen r s h m f are; stands = note.stands; chosen = note.chosen }

    others : (e : Entry) → done r s h e ≡ None → ChoicesStandFor tells rules count r s (e ∷ h) k → IsNoted e k None
    others e none stood = record { completes = none; fits = tt; stands = stood; chosen = refl }

    abbrev changed_at : (b : Bool) → ℕ → BusFrame → Changed
    changed_at b m f = if b then changed_by (claim (known r s h).claims (claim_by (length h) m f)).step else no_change

    frame_noted : (m : ℕ) (f : BusFrame) → (o : Option Message) × IsNoted (frame m f) (forgotten_of (changed_at (is_claim f) m f) k) o
    frame_noted m f = by (is_claim f) refl
      where
        by : (b : Bool) → is_claim f ≡ b → (o : Option Message) × IsNoted (frame m f) (forgotten_of (changed_at b m f) k) o
        by true claims = (None, claim_noted m f claims)
        by false other = (done r s h (frame m f), message_of_frame m f other)

    -- by the addresses that change hands at the entry
    pub entry_noted : (e : Entry) → (o : Option Message) × IsNoted e (forgotten_of (changes_in r s (e ∷ h)) k) o
    entry_noted (frame m f) = frame_noted m f
    entry_noted (datagram m bytes) = (None, others (datagram m bytes) refl ((other_entries_stand_chosen tells rules count r s h k stands).datagrams m bytes))
    entry_noted (tick m) = (None, others (tick m) refl ((other_entries_stand_chosen tells rules count r s h k stands).ticks m))
    entry_noted (command m source address) =
        (None, others (command m source address) refl ((other_entries_stand_chosen tells rules count r s h k stands).commands m source address))

  -- a command to go to an address leaves it as it is
  pub command_noted : (k : Choices) → ChoicesStandFor tells rules count r s h k → (m source address : ℕ)
      → ChoicesStandFor tells rules count r s (command m source address ∷ h) k
  command_noted k stands m source address = (other_entries_stand_chosen tells rules count r s h k stands).commands m source address
