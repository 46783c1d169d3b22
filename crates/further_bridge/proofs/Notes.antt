-- What is noted of the values of a message, which are of different quantities: of each quantity what the message tells of it, and nothing else.
use Rattle.std.proofs.Common.{◌≡◌, ◌≢◌, ℕ, ◌<◌, Bool, true, false, List, [], ◌∷◌, length, length-set, refl, sym, ap, subst, ◌∙◌, arith}
use Rattle.std.specs.Prelude.{Option, Some, None, IfSome, ◌==◌, if◌then◌else◌}
use Rattle.std.specs.List.{AllByRecursion}
use Rattle.std.proofs.lemmas.Bool.{eq-eqb, eqb-true, eqb-false, ne_eqb}
use Rattle.std.proofs.lemmas.List.{get_or-set_other, get_or-set_same, length-map}
use lib.ListN.{get_or-map}
use Rattle.quantities.specs.Told.{AreInOrder, IsBefore}
use Rattle.quantities.specs.declared.value.Value.{Value}
use Rattle.source_choice.specs.declared.rank.Rank.{Rank}
use Rattle.source_choice.specs.Choices.{Choices, forgotten, forgotten_in, nothing}
use Rattle.source_choice.specs.Notes.{SubjectNotes}
use Rattle.source_choice.specs.SubjectRules.{rank_of}
use Rattle.gate_model.specs.Choosing.{is_ranked_chosen, ranked_after, told_after, without_address}
use Rattle.further_bridge.specs.FurtherOut.{number_in, that_are_there, told_among, told_by}
use Rattle.further_bridge.specs.FurtherRule.{FurtherRule, rule_at}
use Rattle.further_bridge.specs.Kept.{numbered}
use Rattle.further_bridge.specs.Promises.{only}

abbrev alone : Choices → SubjectNotes → Choices
alone k s = record { sources = k.sources; subjects = s ∷ [] }

-- ---- an address that is forgotten is forgotten of each quantity

pub forgotten_only : (k : Choices) (a n : ℕ) → forgotten (only k n) a ≡ only (forgotten k a) n
forgotten_only k a n = ap (alone k) (sym (get_or-map (forgotten_in a) k.subjects n (nothing 0 0)))

pub without_only : (o : Option ℕ) (k : Choices) (n : ℕ) → without_address o (only k n) ≡ only (without_address o k) n
without_only None k n = refl
without_only (Some a) k n = forgotten_only k a n

pub without_count : (o : Option ℕ) (k : Choices) → length (without_address o k).subjects ≡ length k.subjects
without_count None k = refl
without_count (Some a) k = length-map k.subjects (forgotten_in a)

-- ---- one value, from a source at a moment

module _ (source moment : ℕ) where
  pub ranked_count : (k : Choices) (p : Option Rank) (v : Value) → length (ranked_after k source moment p (numbered v)).subjects ≡ length k.subjects
  ranked_count k None v = refl
  ranked_count k (Some rank) v = length-set k.subjects (number_in v) _

  pub ranked_other : (k : Choices) (p : Option Rank) (v : Value) (n : ℕ) → n ≢ number_in v → only (ranked_after k source moment p (numbered v)) n ≡ only k n
  ranked_other k None v n other = refl
  ranked_other k (Some rank) v n other = ap (alone k) (get_or-set_other k.subjects (number_in v) n _ (nothing 0 0) other)

  pub ranked_same : (k : Choices) (p : Option Rank) (v : Value) → number_in v < length k.subjects
      → only (ranked_after k source moment p (numbered v)) (number_in v) ≡ ranked_after (only k (number_in v)) source moment p (told_by v)
  ranked_same k None v within = refl
  ranked_same k (Some rank) v within = ap (alone k) (get_or-set_same k.subjects (number_in v) _ (nothing 0 0) within)

  pub chosen_only : (k : Choices) (p : Option Rank) (v : Value) → is_ranked_chosen k source moment p (numbered v) ≡ is_ranked_chosen (only k (number_in v)) source moment p (told_by v)
  chosen_only k None v = refl
  chosen_only k (Some rank) v = refl

  -- ---- the values of a message

  module _ (x : FurtherRule) (name : ℕ) where
    abbrev pub rank_in : Value → Option Rank
    rank_in v = rank_of (rule_at x (number_in v)) name

    abbrev pub noted_value : Choices → Value → Choices
    noted_value k v = ranked_after k source moment (rank_in v) (numbered v)

    abbrev pub noted_all : Choices → List (Option Value) → Choices
    noted_all k [] = k
    noted_all k (None ∷ values) = noted_all k values
    noted_all k (Some v ∷ values) = noted_all (noted_value k v) values

    abbrev pub is_chosen_in : Choices → Value → Bool
    is_chosen_in k v = is_ranked_chosen k source moment (rank_in v) (numbered v)

    pub all_count : (k : Choices) (values : List (Option Value)) → length (noted_all k values).subjects ≡ length k.subjects
    all_count k [] = refl
    all_count k (None ∷ values) = all_count k values
    all_count k (Some v ∷ values) = all_count (noted_value k v) values ∙ ranked_count k (rank_in v) v

    apart : (v w : Value) → number_in v < number_in w → number_in v ≢ number_in w
    apart v w before = λ same. omega (arith, before, same)

    -- a value stays noted with those behind it
    passed : (v : Value) (values : List (Option Value)) (k : Choices) → AllByRecursion (IsBefore (Some v)) values → only (noted_all k values) (number_in v) ≡ only k (number_in v)
    passed v [] k before = refl
    passed v (None ∷ values) k before = passed v values k before.1
    passed v (Some w ∷ values) k before =
        passed v values (noted_value k w) before.1 ∙ ranked_other k (rank_in w) w (number_in v) (apart v w before.0)

    pub noted_is : (n : ℕ) (values : List (Option Value)) (k : Choices) → AreInOrder values → n < length k.subjects
        → only (noted_all k values) n ≡ told_after (λ subject. rule_at x n) (only k n) source moment name (told_among n (that_are_there values))
    noted_is n [] k order within = refl
    noted_is n (None ∷ values) k order within = noted_is n values k order.1 within
    noted_is n (Some v ∷ values) k order within = by (number_in v == n) refl (λ later. noted_is n values (noted_value k v) order.1 later)
      where
        by : (b : Bool) → (number_in v == n) ≡ b
            → (n < length (noted_value k v).subjects
            → only (noted_all (noted_value k v) values) n
            ≡ told_after (λ subject. rule_at x n) (only (noted_value k v) n) source moment name (told_among n (that_are_there values)))
            → only (noted_all (noted_value k v) values) n
            ≡ told_after (λ subject. rule_at x n) (only k n) source moment name (if b then Some (told_by v) else told_among n (that_are_there values))
        by true is rest =
            let same : number_in v ≡ n = eqb-true (number_in v) n is in
            subst
            (λ m. only (noted_all (noted_value k v) values) m ≡ ranked_after (only k m) source moment (rank_of (rule_at x m) name) (told_by v))
            same
            (passed v values (noted_value k v) order.0 ∙ ranked_same k (rank_in v) v (subst (λ m. m < length k.subjects) (sym same) within))
        by false is rest =
            let other : n ≢ number_in v = λ same. eqb-false (number_in v) n is (sym same) in
            let count = ranked_count k (rank_in v) v in
            rest (omega (arith, within, count))
            ∙ ap (λ c. told_after (λ subject. rule_at x n) c source moment name (told_among n (that_are_there values))) (ranked_other k (rank_in v) v n other)

    -- ---- and is selected as if it were the only one

    abbrev pub AreChosen : (Value → Bool) → Choices → List (Option Value) → Type 0
    AreChosen chosen k values = AllByRecursion (λ o. IfSome o (λ v. is_chosen_in k v ≡ chosen v)) values

    stays : (v : Value) (k : Choices) (w : Value) → number_in v < number_in w → is_chosen_in (noted_value k v) w ≡ is_chosen_in k w
    stays v k w before =
        chosen_only (noted_value k v) (rank_in w) w
        ∙ ap (λ c. is_ranked_chosen c source moment (rank_in w) (told_by w)) (ranked_other k (rank_in v) v (number_in w) (λ same. apart v w before (sym same)))
        ∙ sym (chosen_only k (rank_in w) w)

    pub chosen_after : (chosen : Value → Bool) (v : Value) (k : Choices) (values : List (Option Value)) → AllByRecursion (IsBefore (Some v)) values
        → AreChosen chosen k values → AreChosen chosen (noted_value k v) values
    chosen_after chosen v k [] before are = tt
    chosen_after chosen v k (None ∷ values) before are = (tt, chosen_after chosen v k values before.1 are.1)
    chosen_after chosen v k (Some w ∷ values) before are = (stays v k w before.0 ∙ are.0, chosen_after chosen v k values before.1 are.1)

-- ---- what a message tells of the quantity of each of its values

found_behind : (u : Value) (values all : List (Option Value)) → AllByRecursion (IsBefore (Some u)) values
    → AllByRecursion (λ o. IfSome o (λ v. told_among (number_in v) (that_are_there all) ≡ Some (told_by v))) values
    → AllByRecursion (λ o. IfSome o (λ v. told_among (number_in v) (u ∷ that_are_there all) ≡ Some (told_by v))) values
found_behind u [] all before found = tt
found_behind u (None ∷ values) all before found = (tt, found_behind u values all before.1 found.1)
found_behind u (Some v ∷ values) all before found =
    let less = before.0 in
    let other : number_in u ≢ number_in v = λ same. omega (arith, less, same) in (
      ap (λ b. if b then Some (told_by u) else told_among (number_in v) (that_are_there all)) (ne_eqb (number_in u) (number_in v) other) ∙ found.0,
      found_behind u values all before.1 found.1,
    )

pub told_of_each : (values : List (Option Value)) → AreInOrder values
    → AllByRecursion (λ o. IfSome o (λ v. told_among (number_in v) (that_are_there values) ≡ Some (told_by v))) values
told_of_each [] order = tt
told_of_each (None ∷ values) order = (tt, told_of_each values order.1)
told_of_each (Some u ∷ values) order = (
  ap (λ b. if b then Some (told_by u) else told_among (number_in u) (that_are_there values)) (eq-eqb (number_in u) (number_in u) refl),
  found_behind u values values order.0 (told_of_each values order.1),
)
