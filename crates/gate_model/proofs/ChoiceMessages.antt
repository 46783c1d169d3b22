-- What is noted of a table of subjects stands for one more frame that is no claim, and selects the message that it completes as the history does.
use Rattle.std.proofs.Common.{◌≡◌, ℕ, ◌<◌, Bool, false, List, [], ◌∷◌, zero, suc, length, get_or, refl, sym, ap, subst, ◌∙◌, arith}
use Rattle.std.specs.Prelude.{Option, Some, None, IfSome, if◌then◌else◌}
use Rattle.std.proofs.lemmas.List.{length-map}
use Rattle.n2k_id.specs.Frame.{BusFrame}
use Rattle.n2k_id.specs.Identifier.{parts_of}
use Rattle.source_choice.specs.declared.rank.Rank.{Rank}
use Rattle.source_choice.specs.declared.told.Told.{Told}
use Rattle.source_choice.specs.SubjectRules.{SubjectRule, rank_of}
use Rattle.source_choice.specs.Notes.{SubjectNotes}
use Rattle.source_choice.specs.Choices.{Choices, opened, subject_at, nothing}
use Rattle.claim_table.specs.Claims.{places, holder_at}
use Rattle.claim_table.specs.declared.answer.Holder.{Holder}
use Rattle.claim_table.proofs.SoundLemmas.{held_within}
use Rattle.history.specs.AddressLaws.{IsReceiver}
use Rattle.history.specs.Entries.{History, frame}
use Rattle.history.specs.Settings.{Receiver, is_some_that}
use Rattle.history.specs.Known.{Known, known, held_since, is_claim}
use Rattle.history.specs.Messages.{Message, Carried, done, messages_of, said_by, with_message, completed_by}
use Rattle.history.specs.Opens.{note_of, notes_of}
use Rattle.history.specs.Subjects.{holder_rank, is_chosen, is_first, is_selected, last_of}
use Rattle.history.specs.FreshLaws.{is_told}
use Rattle.history.specs.ChoiceLaws.{noted_with, kept_note, HoldsNotes}
use Rattle.history.proofs.Addresses.{addresses_are_sound}
use Rattle.history.proofs.FreshSteps.{messages_are_kept, last_since}
use Rattle.history.proofs.KeySteps.{known_same}
use Rattle.gate_model.specs.Choosing.{ranked_after, is_ranked_chosen, told_after, is_told_chosen, message_noted, is_message_chosen}
use Rattle.gate_model.specs.ChoiceStands.{StandsChoices, ChoicesStandFor}
use Rattle.gate_model.specs.ChoiceStandsLaws.{TellWithin, OpeningStandsChosen, MessageStandsChosen, MessagesStandChosen, MessagesFitChosen}
use Rattle.gate_model.proofs.ChoiceNotes.{untold, unranked, noted_then, chosen_first}

-- ---- nothing noted

opened_at : (timeouts : List ℕ) (n : ℕ) → n < length timeouts → subject_at (opened places timeouts) n ≡ nothing places (get_or timeouts n 0)
opened_at [] n l = absurd (omega (arith, l))
opened_at (t ∷ timeouts) zero l = refl
opened_at (t ∷ timeouts) (suc n) l = opened_at timeouts n (omega (arith, l))

none_last : (tells : Message → Option Told) (n a : ℕ) (since : Option ℕ) → last_since tells n a [] since ≡ None
none_last tells n a None = refl
none_last tells n a (Some since) = refl

pub none_noted : (tells : Message → Option Told) (a : ℕ) (p : Option Rank) → noted_with tells a p None ≡ None
none_noted tells a None = refl
none_noted tells a (Some rank) = refl

nothing_kept : (tells : Message → Option Told) (rule : SubjectRule) (holders : List (Option Holder)) (n a : ℕ) → None ≡ kept_note tells rule holders n [] a
nothing_kept tells rule holders n a =
    sym (ap (noted_with tells a (holder_rank rule (holder_at holders a))) (none_last tells n a (held_since holders a))
    ∙ none_noted tells a (holder_rank rule (holder_at holders a)))

pub opening_stands_chosen : OpeningStandsChosen
opening_stands_chosen tells rules timeouts r s are =
    let holders = (known r s []).claims.holders in
    record {
      sources = refl;
      subjects = length-map timeouts (nothing places);
      each_subject = λ n l. ap (λ (x : SubjectNotes). x.sources) (opened_at timeouts n l);
      notes = λ n l. subst (HoldsNotes tells (rules n) holders n []) (sym (opened_at timeouts n l))
          (record { timeout = are n l; apart = tt; notes = λ a. nothing_kept tells (rules n) holders n a });
    }

-- ---- a message of the holder of its source

module _ (tells : Message → Option Told) (rules : ℕ → SubjectRule) (count : ℕ) (tell : TellWithin tells count) (holders : List (Option Holder)) (older : List Message) (d : Message) (holder : Holder)
    (at : holder_at holders d.source ≡ Some holder) (named : d.name ≡ holder.name.0) (within : d.source < places)
    (keeps : (n a : ℕ) → last_of tells holders n a (d ∷ older) ≡ (if is_told tells n a (Some d) then Some d else last_of tells holders n a older))
    (k : Choices) (st : StandsChoices tells rules count holders older k) where
  abbrev is_first_with : Told → Option Rank → Bool
  is_first_with t rank = is_first tells (rules t.subject) holders t.subject d.moment older rank

  record Steps (after : Choices) (chosen first : Bool) : Type 0 where
    stands : StandsChoices tells rules count holders (d ∷ older) after
    same : chosen ≡ first

  module _ (t : Told) (is : tells d ≡ Some t) (inside : t.subject < count) where
    by_rank : (p : Option Rank) → rank_of (rules t.subject) d.name ≡ p
        → Steps (ranked_after k d.source d.moment p t) (is_ranked_chosen k d.source d.moment p t) (is_chosen tells rules holders older d t)
    by_rank None e = record {
      stands = unranked tells rules count holders older (d ∷ older) d holder at named within keeps k st t is inside e;
      same = sym (ap (is_first_with t) e);
    }
    by_rank (Some rank) e = record {
      stands = noted_then tells rules count holders older (d ∷ older) d holder at named within keeps k st t is inside rank e;
      same =
          chosen_first tells rules count holders older (d ∷ older) d holder at named within keeps k st t is inside rank e
          ∙ sym (ap (is_first_with t) e);
    }

  by_told : (o : Option Told) → tells d ≡ o → IfSome o (λ t. t.subject < count)
      → Steps (told_after rules k d.source d.moment d.name o) (is_told_chosen rules k d.source d.moment d.name o)
      (is_some_that (is_chosen tells rules holders older d) o)
  by_told None e inside = record { stands = untold tells rules count holders older (d ∷ older) d holder at named within keeps k st e; same = refl }
  by_told (Some t) e inside = by_rank t e inside (rank_of (rules t.subject) d.name) refl

  message_steps : Steps (message_noted tells rules k (Some d)) (is_message_chosen tells rules k (Some d)) (is_selected tells rules holders older d)
  message_steps = by_told (tells d) refl (tell d)

-- ---- a frame that is no claim

-- a message that is complete is of the holder of its source
pub record IsHeldBy (holders : List (Option Holder)) (d : Message) : Type 0 where
  pub holder : Holder
  pub at : holder_at holders d.source ≡ Some holder
  pub named : d.name ≡ holder.name.0

held_by : (holders : List (Option Holder)) (index m source : ℕ) (x : Option Holder) (what : Option Carried) → holder_at holders source ≡ x
    → IfSome (said_by index m source x what) (IsHeldBy holders)
held_by holders index m source None what e = tt
held_by holders index m source (Some holder) None e = tt
held_by holders index m source (Some holder) (Some w) e = record { holder = holder; at = e; named = refl }

module _ (r : Receiver) (s : ℕ) (h : History) (m : ℕ) (f : BusFrame) (are : IsReceiver r) where
  abbrev holders : List (Option Holder)
  holders = (known r s h).claims.holders

  abbrev older : List Message
  older = messages_of r s h

  abbrev completed : Option Message
  completed = done r s h (frame m f)

  pub is_held : IfSome completed (IsHeldBy holders)
  is_held =
      let k = known r s h in
      let notes = notes_of r s h in
      held_by holders (length h) m (parts_of f.id).source (holder_at holders (parts_of f.id).source)
      (completed_by r.kinds k (note_of r (length h) k notes m f) notes) refl

  pub is_within : (d : Message) → IsHeldBy holders d → d.source < places
  is_within d held = omega (arith, held_within holders d.source held.holder held.at, (addresses_are_sound r s h are).sound.room)

  all_within : (o : Option Message) → IfSome o (IsHeldBy holders) → IfSome o (λ d. d.source < places)
  all_within None held = tt
  all_within (Some d) held = is_within d held

  module _ (tells : Message → Option Told) (other : is_claim f ≡ false) where
    pub keeps : (n a : ℕ) → last_of tells holders n a (with_message completed older) ≡
        (if is_told tells n a completed then completed else last_of tells holders n a older)
    keeps n a =
        ap (λ (k : Known). last_of tells k.claims.holders n a (with_message completed older)) (sym (known_same r s h m f other))
        ∙ messages_are_kept tells r s h m f n a are other

    module _ (rules : ℕ → SubjectRule) (count : ℕ) (tell : TellWithin tells count) (k : Choices) (st : ChoicesStandFor tells rules count r s h k) where
      record Stands (o : Option Message) : Type 0 where
        stands : StandsChoices tells rules count holders (with_message o older) (message_noted tells rules k o)
        chosen : is_message_chosen tells rules k o ≡ is_some_that (is_selected tells rules holders older) o

      by_message : (o : Option Message) → IfSome o (IsHeldBy holders)
          → ((n a : ℕ) → last_of tells holders n a (with_message o older) ≡ (if is_told tells n a o then o else last_of tells holders n a older)) → Stands o
      by_message None held keeps_it = record { stands = st; chosen = refl }
      by_message (Some d) held keeps_it =
          let step = message_steps tells rules count tell holders older d held.holder held.at held.named (is_within d held) keeps_it k st in
          record { stands = step.stands; chosen = step.same }

      frame_stands : MessageStandsChosen tells rules count r s h m f k
      frame_stands =
          let all = by_message completed is_held keeps in
          record {
            stands = subst (λ (n : Known). StandsChoices tells rules count n.claims.holders (with_message completed older) (message_noted tells rules k completed))
                (sym (known_same r s h m f other)) all.stands;
            chosen = all.chosen;
          }

pub messages_stand_chosen : MessagesStandChosen
messages_stand_chosen tells rules count r s h m f k are other tell st = frame_stands r s h m f are tells other rules count tell k st

pub messages_fit_chosen : MessagesFitChosen
messages_fit_chosen r s h m f are = all_within r s h m f are (done r s h (frame m f)) (is_held r s h m f are)
