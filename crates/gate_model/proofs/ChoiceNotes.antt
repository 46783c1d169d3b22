-- What is noted of each subject stands for one more message as it does for those before it.
use Rattle.std.proofs.Common.{◌≡◌, ◌≢◌, ℕ, ◌<◌, Bool, true, false, ◌&&◌, List, get_or, length-set, refl, sym, ap, subst, ◌∙◌, ◌==◌, arith}
use Rattle.std.specs.Prelude.{Option, Some, None, if◌then◌else◌}
use Rattle.std.proofs.lemmas.List.{get_or-set_other}
use Rattle.std.proofs.lemmas.Grind.{get_or-set_at}
use Rattle.std.proofs.lemmas.Bool.{eqb-true, eqb-false, eq-eqb}
use Rattle.source_choice.specs.declared.note.Note.{Note}
use Rattle.source_choice.specs.declared.rank.Rank.{Rank}
use Rattle.source_choice.specs.declared.told.Told.{Told}
use Rattle.source_choice.specs.SubjectRules.{SubjectRule, rank_of}
use Rattle.source_choice.specs.Notes.{SubjectNotes, note_of, with_note}
use Rattle.source_choice.specs.Choices.{Choices, subject_at, nothing, noted, with_noted, with_told, is_chosen}
use Rattle.source_choice.proofs.NoteLemmas.{from_with, noted_here, others_noted}
use Rattle.claim_table.specs.Claims.{places, holder_at}
use Rattle.claim_table.specs.declared.answer.Holder.{Holder}
use Rattle.history.specs.Messages.{Message}
use Rattle.history.specs.Subjects as subjects
use Rattle.history.specs.Subjects.{holder_rank, is_about, is_first, last_of}
use Rattle.history.specs.FreshLaws.{is_told}
use Rattle.history.specs.ChoiceLaws.{noted_with, kept_note, HoldsNotes}
use Rattle.history.proofs.NoteChoice.{first_by_notes}
use Rattle.gate_model.specs.ChoiceStands.{StandsChoices}

-- one more message, of the holder of its source
module _ (tells : Message → Option Told) (rules : ℕ → SubjectRule) (count : ℕ) (holders : List (Option Holder)) (older after : List Message) (d : Message)
    (holder : Holder)
    (at : holder_at holders d.source ≡ Some holder)
    (named : d.name ≡ holder.name.0) (within : d.source < places)
    (keeps : (n a : ℕ) → last_of tells holders n a after ≡ (if is_told tells n a (Some d) then Some d else last_of tells holders n a older))
    (k : Choices) (st : StandsChoices tells rules count holders older k) where
  -- where it says nothing of a subject and an address, its last message is the one before
  last_before : (n a : ℕ) → is_told tells n a (Some d) ≡ false → last_of tells holders n a after ≡ last_of tells holders n a older
  last_before n a other = keeps n a ∙ ap (λ (b : Bool). if b then Some d else last_of tells holders n a older) other

  no_subject : (n a : ℕ) → is_about n (tells d) ≡ false → is_told tells n a (Some d) ≡ false
  no_subject n a e = ap (λ (b : Bool). (d.source == a) && b) e ∙ neither (d.source == a)
    where
      neither : (b : Bool) → (b && false) ≡ false
      neither true = refl
      neither false = refl

  no_source : (n a : ℕ) → (d.source == a) ≡ false → is_told tells n a (Some d) ≡ false
  no_source n a e = ap (λ (b : Bool). b && is_about n (tells d)) e

  passes : (n : ℕ) → n < count → ((a : ℕ) → kept_note tells (rules n) holders n after a ≡ kept_note tells (rules n) holders n older a)
      → HoldsNotes tells (rules n) holders n after (subject_at k n)
  passes n l same = let old = st.notes n l in record { timeout = old.timeout; apart = old.apart; notes = λ a. old.notes a ∙ sym (same a) }

  still : (n a : ℕ) → is_told tells n a (Some d) ≡ false → kept_note tells (rules n) holders n after a ≡ kept_note tells (rules n) holders n older a
  still n a other = ap (noted_with tells a (holder_rank (rules n) (holder_at holders a))) (last_before n a other)

  -- where it tells of no subject it changes nothing
  pub untold : tells d ≡ None → StandsChoices tells rules count holders after k
  untold e = record {
    sources = st.sources;
    subjects = st.subjects;
    each_subject = st.each_subject;
    notes = λ n l. passes n l (λ a. still n a (no_subject n a (ap (is_about n) e)));
  }

  module _ (t : Told) (is : tells d ≡ Some t) (inside : t.subject < count) where
    other_subject : (n a : ℕ) → (t.subject == n) ≡ false → is_told tells n a (Some d) ≡ false
    other_subject n a e = no_subject n a (ap (is_about n) is ∙ e)

    ranked : (n : ℕ) → t.subject ≡ n → holder_rank (rules n) (holder_at holders d.source) ≡ rank_of (rules t.subject) d.name
    ranked n e =
        ap (holder_rank (rules n)) at
        ∙ ap (λ (s : ℕ). rank_of (rules s) holder.name.0) (sym e)
        ∙ ap (rank_of (rules t.subject)) (sym named)

    -- ---- its NAME has no rank there: it is passed over

    none_noted : (n a : ℕ) → rank_of (rules t.subject) d.name ≡ None → (b : Bool) → (t.subject == n) ≡ b → (s : Bool)
        → (d.source == a) ≡ s
        → kept_note tells (rules n) holders n after a ≡ kept_note tells (rules n) holders n older a
    none_noted n a none false other s es = still n a (other_subject n a other)
    none_noted n a none true same false es = still n a (no_source n a es)
    none_noted n a none true same true es =
        let here : holder_rank (rules n) (holder_at holders a) ≡ None =
        ap (λ (x : ℕ). holder_rank (rules n) (holder_at holders x)) (sym (eqb-true d.source a es))
        ∙ ranked n (eqb-true t.subject n same) ∙ none in
        ap (λ (p : Option Rank). noted_with tells a p (last_of tells holders n a after)) here
        ∙ sym (ap (λ (p : Option Rank). noted_with tells a p (last_of tells holders n a older)) here)

    pub unranked : rank_of (rules t.subject) d.name ≡ None → StandsChoices tells rules count holders after k
    unranked none = record {
      sources = st.sources;
      subjects = st.subjects;
      each_subject = st.each_subject;
      notes = λ n l. passes n l (λ a. none_noted n a none (t.subject == n) refl (d.source == a) refl);
    }

    -- ---- it has one: the message is noted

    module _ (rank : Rank) (has : rank_of (rules t.subject) d.name ≡ Some rank) where
      abbrev x : Note
      x = record { source = d.source; rank = rank; moment = d.moment; usable = t.usable }

      here : (n : ℕ) → t.subject ≡ n → subject_at (with_noted k t.subject x) n ≡ noted (subject_at k n) x
      here n e =
          get_or-set_at k.subjects t.subject n (noted (subject_at k t.subject) x) (nothing 0 0) (sym e)
          (omega (arith, inside, st.subjects))
          ∙ ap (λ (i : ℕ). noted (get_or k.subjects i (nothing 0 0)) x) e

      elsewhere : (n : ℕ) → t.subject ≢ n → subject_at (with_noted k t.subject x) n ≡ subject_at k n
      elsewhere n apart = get_or-set_other k.subjects t.subject n (noted (subject_at k t.subject) x) (nothing 0 0) (λ e. apart (sym e))

      module _ (n : ℕ) (l : n < count) (e : t.subject ≡ n) where
        last_here : last_of tells holders n d.source after ≡ Some d
        last_here = keeps n d.source ∙ ap (λ (b : Bool). if b then Some d else last_of tells holders n d.source older) told
          where
            told : is_told tells n d.source (Some d) ≡ true
            told =
                ap (λ (b : Bool). b && is_about n (tells d)) (eq-eqb d.source d.source refl)
                ∙ ap (is_about n) is
                ∙ eq-eqb t.subject n e

        kept_here : kept_note tells (rules n) holders n after d.source ≡ Some x
        kept_here =
            ap (λ (p : Option Rank). noted_with tells d.source p (last_of tells holders n d.source after)) (ranked n e ∙ has)
            ∙ ap (noted_with tells d.source (Some rank)) last_here
            ∙ ap (λ (o : Option Told). Some (record { source = d.source; rank = rank; moment = d.moment; usable = subjects.is_usable o })) is

        found : (a : ℕ) (s : Bool) → (d.source == a) ≡ s → note_of a (with_note x (subject_at k n).notes) ≡ kept_note tells (rules n) holders n after a
        found a true es =
            let own : d.source ≡ a = eqb-true d.source a es in
            subst (λ (y : ℕ). note_of y (with_note x (subject_at k n).notes) ≡ kept_note tells (rules n) holders n after y) own
            (noted_here x (subject_at k n).notes ∙ sym kept_here)
        found a false es =
            others_noted x (subject_at k n).notes a (λ own. eqb-false d.source a es (sym own))
            ∙ (st.notes n l).notes a
            ∙ sym (still n a (no_source n a es))

        notes_here : HoldsNotes tells (rules n) holders n after (noted (subject_at k n) x)
        notes_here = record {
          timeout = (st.notes n l).timeout;
          apart = from_with 0 (subject_at k n).sources x (subject_at k n).notes (omega arith) (omega (arith, st.each_subject n l, within)) (st.notes n l).apart;
          notes = λ a. found a (d.source == a) refl;
        }

      notes_then : (n : ℕ) → n < count → (b : Bool) → (t.subject == n) ≡ b
          → HoldsNotes tells (rules n) holders n after (subject_at (with_noted k t.subject x) n)
      notes_then n l true e =
          let same = eqb-true t.subject n e in
          subst (HoldsNotes tells (rules n) holders n after) (sym (here n same)) (notes_here n l same)
      notes_then n l false e =
          subst (HoldsNotes tells (rules n) holders n after) (sym (elsewhere n (eqb-false t.subject n e)))
          (passes n l (λ a. still n a (other_subject n a e)))

      sources_then : (n : ℕ) → n < count → (b : Bool) → (t.subject == n) ≡ b → (subject_at (with_noted k t.subject x) n).sources ≡ places
      sources_then n l true e = ap (λ (y : SubjectNotes). y.sources) (here n (eqb-true t.subject n e)) ∙ st.each_subject n l
      sources_then n l false e = ap (λ (y : SubjectNotes). y.sources) (elsewhere n (eqb-false t.subject n e)) ∙ st.each_subject n l

      pub noted_then : StandsChoices tells rules count holders after (with_told k d.source rank d.moment t)
      noted_then = record {
        sources = st.sources;
        subjects = length-set k.subjects t.subject (noted (subject_at k t.subject) x) ∙ st.subjects;
        each_subject = λ n l. sources_then n l (t.subject == n) refl;
        notes = λ n l. notes_then n l (t.subject == n) refl;
      }

      -- and selected exactly where its rank is the first
      pub chosen_first : is_chosen k d.source rank d.moment t ≡ is_first tells (rules t.subject) holders t.subject d.moment older (Some rank)
      chosen_first =
          first_by_notes tells (rules t.subject) holders t.subject older (subject_at k t.subject) d.source rank d.moment (st.notes t.subject inside)
          (ranked t.subject refl ∙ has)
