-- What is noted of addresses that change hands is forgotten, and every other entry leaves the notes of a table of subjects as they are.
use Rattle.std.proofs.Common.{◌≡◌, ℕ, suc, ◌<◌, Bool, true, false, ◌||◌, List, ◌∷◌, inl, inr, length, refl, sym, ap, subst, ◌∙◌, ◌==◌, arith}
use Rattle.std.specs.Prelude.{Option, Some, None, option_map, if◌then◌else◌}
use Rattle.std.proofs.Math.ListN.{get_or-map}
use Rattle.std.proofs.lemmas.List.{length-map}
use Rattle.std.proofs.lemmas.Bool.{eqb-true, eqb-false}
use Rattle.n2k_id.specs.Frame.{BusFrame}
use Rattle.source_choice.specs.declared.note.Note.{Note}
use Rattle.source_choice.specs.declared.told.Told.{Told}
use Rattle.source_choice.specs.SubjectRules.{SubjectRule}
use Rattle.source_choice.specs.Notes.{SubjectNotes, AreFrom, note_of, without}
use Rattle.source_choice.specs.Choices.{Choices, subject_at, nothing, forgotten_in, forgotten}
use Rattle.source_choice.proofs.NoteLemmas.{from_without, forgotten_here, others_forgotten}
use Rattle.claim_table.specs.Claims.{Outcome, places, claim, holder_at, is_at}
use Rattle.claim_table.specs.declared.answer.Holder.{Holder}
use Rattle.history.specs.AddressLaws.{IsReceiver}
use Rattle.history.specs.Entries.{History, frame}
use Rattle.history.specs.Settings.{Receiver}
use Rattle.history.specs.Known.{Known, known, is_claim, claim_by, address_left, address_won}
use Rattle.history.specs.Messages.{Message, done, messages_of, with_message}
use Rattle.history.specs.Subjects.{holder_rank, last_of}
use Rattle.history.specs.TraceLaws.{is_lost}
use Rattle.history.specs.ChoiceLaws.{noted_with, kept_note, HoldsNotes}
use Rattle.history.proofs.Addresses.{addresses_are_sound}
use Rattle.history.proofs.Fates as fates
use Rattle.history.proofs.Fates.{Fate, fate}
use Rattle.history.proofs.FreshSteps.{claims_forget, claim_says_none, last_since}
use Rattle.history.proofs.TraceMoves.{known_after_claim, commanded_holders}
use Rattle.gate_model.specs.Choosing.{without_address, claimed}
use Rattle.gate_model.specs.ChoiceStands.{StandsChoices, ChoicesStandFor}
use Rattle.gate_model.specs.ChoiceStandsLaws.{ClaimStandsChosen, ClaimsStandChosen, OtherEntriesStandChosen}
use Rattle.gate_model.proofs.ChoiceMessages.{none_noted}

-- ---- an address whose notes are forgotten

-- a choice that holds a note, or none, of each subject and address
record HoldsBy (rules : ℕ → SubjectRule) (count : ℕ) (noted : ℕ → ℕ → Option Note) (k : Choices) : Type 0 where
  sources : k.sources ≡ places
  subjects : length k.subjects ≡ count
  each_subject : (n : ℕ) → n < count → (subject_at k n).sources ≡ places
  timeout : (n : ℕ) → n < count → (subject_at k n).timeout ≡ (rules n).timeout
  apart : (n : ℕ) → n < count → AreFrom 0 (subject_at k n).sources (subject_at k n).notes
  notes : (n : ℕ) → n < count → (a : ℕ) → note_of a (subject_at k n).notes ≡ noted n a

forgets_in : (k : Choices) (source n : ℕ) → subject_at (forgotten k source) n ≡ forgotten_in source (subject_at k n)
forgets_in k source n = get_or-map (forgotten_in source) k.subjects n (nothing 0 0)

note_without : (source a : ℕ) (ns : List Note) (t : Bool) → (source == a) ≡ t → note_of a (without source ns) ≡ (if t then None else note_of a ns)
note_without source a ns true e = ap (λ (x : ℕ). note_of x (without source ns)) (sym (eqb-true source a e)) ∙ forgotten_here source ns
note_without source a ns false e = others_forgotten source ns a (λ same. eqb-false source a e (sym same))

forgets : (rules : ℕ → SubjectRule) (count : ℕ) (noted : ℕ → ℕ → Option Note) (o : Option ℕ) (k : Choices) → HoldsBy rules count noted k
    → HoldsBy rules count (λ n a. if is_at a o then None else noted n a) (without_address o k)
forgets rules count noted None k holds = record {
  sources = holds.sources;
  subjects = holds.subjects;
  each_subject = holds.each_subject;
  timeout = holds.timeout;
  apart = holds.apart;
  notes = holds.notes;
}
forgets rules count noted (Some source) k holds = record {
  sources = holds.sources;
  subjects = length-map k.subjects (forgotten_in source) ∙ holds.subjects;
  each_subject = λ n l. ap (λ (x : SubjectNotes). x.sources) (forgets_in k source n) ∙ holds.each_subject n l;
  timeout = λ n l. ap (λ (x : SubjectNotes). x.timeout) (forgets_in k source n) ∙ holds.timeout n l;
  apart = λ n l. subst (λ (x : SubjectNotes). AreFrom 0 x.sources x.notes) (sym (forgets_in k source n))
      (from_without 0 (subject_at k n).sources source (subject_at k n).notes (holds.apart n l));
  notes = λ n l a.
      ap (λ (x : SubjectNotes). note_of a x.notes) (forgets_in k source n)
      ∙ note_without source a (subject_at k n).notes (source == a) refl
      ∙ ap (λ (x : Option Note). if source == a then None else x) (holds.notes n l a);
}

-- ---- a claim

completes_none : (o : Option Message) (older : List Message) → with_message o older ≡ older → o ≡ None
completes_none None older e = refl
completes_none (Some d) older e = let longer : suc (length older) ≡ length older = ap (λ (x : List Message). length x) e in absurd (omega (arith, longer))

abbrev none_of_notes : Option Note
none_of_notes = None

abbrev none_of_messages : Option Message
none_of_messages = None

pub silent : (r : Receiver) (s : ℕ) (h : History) (m : ℕ) (f : BusFrame) → IsReceiver r → is_claim f ≡ true → done r s h (frame m f) ≡ None
silent r s h m f are claims = completes_none (done r s h (frame m f)) (messages_of r s h) (claim_says_none r s h m f are claims)

module _ (tells : Message → Option Told) (rules : ℕ → SubjectRule) (count : ℕ) (r : Receiver) (s : ℕ) (h : History) (m : ℕ) (f : BusFrame) (k : Choices)
    (are : IsReceiver r) (claims : is_claim f ≡ true) (st : ChoicesStandFor tells rules count r s h k) where
  abbrev holders : List (Option Holder)
  holders = (known r s h).claims.holders

  abbrev older : List Message
  older = messages_of r s h

  abbrev o : Outcome
  o = claim (known r s h).claims (claim_by (length h) m f)

  abbrev after : List (Option Holder)
  after = (claim (known r s h).claims (claim_by (length h) m f)).after.holders

  last_then : (n a : ℕ) → last_of tells after n a older ≡ (if is_lost o.step a then None else last_of tells holders n a older)
  last_then n a =
      ap (λ (x : Known). last_of tells x.claims.holders n a older) (sym (known_after_claim r s h m f claims))
      ∙ ap (λ (messages : List Message). last_of tells (known r s (frame m f ∷ h)).claims.holders n a messages)
      (sym (claim_says_none r s h m f are claims))
      ∙ claims_forget tells r s h m f n a are claims

  unheld : (n a : ℕ) → holder_at holders a ≡ None → last_of tells holders n a older ≡ None
  unheld n a e = ap (λ (x : Option Holder). last_since tells n a older (option_map (λ holder. holder.since) x)) e

  -- nothing is noted of an address that was lost, and what was noted of another one stays
  forgotten_by : (n a : ℕ) → Fate (known r s h).claims (claim_by (length h) m f) o a
      → (if is_lost o.step a then None else kept_note tells (rules n) holders n older a) ≡ kept_note tells (rules n) after n older a
  forgotten_by n a (fates.stays stays same) =
      ap (λ (b : Bool). if b then None else kept_note tells (rules n) holders n older a) stays
      ∙ ap (λ (x : Option Holder). noted_with tells a (holder_rank (rules n) x) (last_of tells holders n a older)) (sym same)
      ∙ ap (noted_with tells a (holder_rank (rules n) (holder_at after a)))
      (sym (last_then n a ∙ ap (λ (b : Bool). if b then None else last_of tells holders n a older) stays))
  forgotten_by n a (fates.begins new (inl lost)) =
      ap (λ (b : Bool). if b then None else kept_note tells (rules n) holders n older a) lost
      ∙ sym (none_noted tells a (holder_rank (rules n) (holder_at after a)))
      ∙ ap (noted_with tells a (holder_rank (rules n) (holder_at after a)))
      (sym (last_then n a ∙ ap (λ (b : Bool). if b then None else last_of tells holders n a older) lost))
  forgotten_by n a (fates.begins new (inr nobody)) =
      ap (λ (x : Option Note). if is_lost o.step a then None else x)
      (ap (noted_with tells a (holder_rank (rules n) (holder_at holders a))) (unheld n a nobody)
      ∙ none_noted tells a (holder_rank (rules n) (holder_at holders a)))
      ∙ no_note (is_lost o.step a)
      ∙ sym (none_noted tells a (holder_rank (rules n) (holder_at after a)))
      ∙ ap (noted_with tells a (holder_rank (rules n) (holder_at after a)))
      (sym (last_then n a ∙ ap (λ (d : Option Message). if is_lost o.step a then None else d) (unheld n a nobody) ∙ no_message (is_lost o.step a)))
    where
      no_note : (b : Bool) → (if b then none_of_notes else none_of_notes) ≡ none_of_notes
      no_note true = refl
      no_note false = refl

      no_message : (b : Bool) → (if b then none_of_messages else none_of_messages) ≡ none_of_messages
      no_message true = refl
      no_message false = refl

  before : HoldsBy rules count (λ n a. kept_note tells (rules n) holders n older a) k
  before = record {
    sources = st.sources;
    subjects = st.subjects;
    each_subject = st.each_subject;
    timeout = λ n l. (st.notes n l).timeout;
    apart = λ n l. (st.notes n l).apart;
    notes = λ n l a. (st.notes n l).notes a;
  }

  both : HoldsBy rules count (λ n a. if is_at a (address_won o.step) then None else if is_at a (address_left o.step) then None
      else kept_note tells (rules n) holders n older a) (claimed o.step k)
  both =
      forgets rules count (λ n a. if is_at a (address_left o.step) then None else kept_note tells (rules n) holders n older a) (address_won o.step)
      (without_address (address_left o.step) k)
      (forgets rules count (λ n a. kept_note tells (rules n) holders n older a) (address_left o.step) k before)

  either_way : (a b : Bool) (n : Option Note) → (if b then None else if a then None else n) ≡ (if a || b then None else n)
  either_way true true n = refl
  either_way true false n = refl
  either_way false b n = refl

  notes_then : (n : ℕ) → n < count → HoldsNotes tells (rules n) after n older (subject_at (claimed o.step k) n)
  notes_then n l = record {
    timeout = both.timeout n l;
    apart = both.apart n l;
    notes = λ a.
        both.notes n l a
        ∙ either_way (is_at a (address_left o.step)) (is_at a (address_won o.step)) (kept_note tells (rules n) holders n older a)
        ∙ forgotten_by n a (fate (known r s h).claims (claim_by (length h) m f) (addresses_are_sound r s h are).sound a);
  }

  -- by who holds each address after it
  pub claimed_stand : StandsChoices tells rules count after older (claimed o.step k)
  claimed_stand = record {
    sources = both.sources;
    subjects = both.subjects;
    each_subject = both.each_subject;
    notes = notes_then;
  }

  claim_stands : ClaimStandsChosen tells rules count r s h m f k
  claim_stands = record {
    stands =
        subst (λ (n : Known). StandsChoices tells rules count n.claims.holders (messages_of r s (frame m f ∷ h)) (claimed o.step k))
        (sym (known_after_claim r s h m f claims))
        (subst (λ (d : Option Message). StandsChoices tells rules count after (with_message d older) (claimed o.step k))
        (sym (silent r s h m f are claims)) claimed_stand);
    silent = silent r s h m f are claims;
  }

pub claims_stand_chosen : ClaimsStandChosen
claims_stand_chosen tells rules count r s h m f k are claims st = claim_stands tells rules count r s h m f k are claims st

-- ---- every other entry

pub other_entries_stand_chosen : OtherEntriesStandChosen
other_entries_stand_chosen tells rules count r s h k st = record {
  datagrams = λ m bytes. st;
  ticks = λ m. st;
  commands = λ m source address.
      subst (λ (holders : List (Option Holder)). StandsChoices tells rules count holders (messages_of r s h) k)
      (sym (commanded_holders (known r s h).claims address m)) st;
}
