-- A line hands over no more sentences than it takes out of what is held, plus its own.
use Rattle.std.proofs.Common.{◌≡◌, ℕ, ◌+◌, ◌≤◌, Bool, true, false, ◌||◌, List, [], ◌∷◌, length, refl, ap, ◌∙◌, arith}
use Rattle.std.specs.Prelude.{Option, Some, None, if◌then◌else◌}
use Rattle.std.specs.List.{AllByRecursion, list_any, sum_by}
use Rattle.std.proofs.lemmas.List.{length-reverse, length-map}
use Rattle.std.proofs.lemmas.List.Sums.{sum_by-cons}
use Rattle.slot_views.specs.Runs.{Rules, if_open, if_whole, kept_at, open_at}
use Rattle.slot_views.specs.RunLaws.{fed, fed_later, finished, finished_later}
use Rattle.tag_block.specs.declared.group_key.GroupKey.{GroupKey}
use Rattle.tag_block.specs.declared.group_part.GroupPart.{GroupPart}
use Rattle.tag_block.specs.GroupRuns.{GroupLine, group_rules}
use Rattle.history.specs.Heard.{Taken, same_group, precedes_group, several, group_line, key_with, group_keys, group_open, sentences_in, handed_over}
use Rattle.history.specs.Held.{held_in, lines_held}
use Rattle.history.specs.Opens.{inserted, with_key}
use Rattle.history.specs.GroupLaws.{group_key}
use Rattle.history.proofs.GroupCounts.{same_is, no_lines}
use Rattle.history.proofs.GroupSteps.{group_steps, lines_alone}
use Rattle.history.proofs.Fewer.{Apart}
use Rattle.history.proofs.GroupLimits.{turn, itself, apart}

-- ---- one group

all_handed : (o : Option (List GroupLine)) → length (sentences_in o) ≡ held_in o
all_handed o = grind (arith, length-reverse, length-map)

module _ (r : Rules GroupLine) where
  kept_held : (o : Option (List GroupLine)) (m : ℕ) → held_in (kept_at r o m) ≤ held_in o
  kept_held o m = grind arith

  -- the lines are whole or stay open, not both
  whole_or_open : (lines : List GroupLine) (m : ℕ) → held_in (if_whole r (Some lines)) + held_in (kept_at r (if_open r (Some lines)) m) ≤ length lines
  whole_or_open lines m = grind (arith, kept_held)

  later_held : (o : Option (List GroupLine)) (x : GroupLine) (m : ℕ) → held_in (finished_later r o x) + held_in (kept_at r (fed_later r o x) m) ≤ held_in o + 1
  later_held o x m = grind (arith, whole_or_open, kept_held)

  step_held : (o : Option (List GroupLine)) (x : GroupLine) (m : ℕ) → held_in (finished r o x) + held_in (kept_at r (fed r o x) m) ≤ held_in o + 1
  step_held o x m = grind (arith, whole_or_open, later_held)

-- ---- sums over keys

sums_agree : {K : Type 0} (f g : K → ℕ) → ((j : K) → g j ≡ f j) → (ks : List K) → sum_by g ks ≡ sum_by f ks
sums_agree f g same [] = refl
sums_agree f g same (k ∷ ks) = omega (arith, sum_by-cons f k ks, sum_by-cons g k ks, same k, sums_agree f g same ks)

sum_inserted : {K : Type 0} (g : K → ℕ) (before : K → K → Bool) (k : K) (ks : List K) → sum_by g (inserted before k ks) ≡ g k + sum_by g ks
sum_inserted g before k [] = sum_by-cons g k []
sum_inserted g before k (x ∷ ks) = by (before k x) (sum_inserted g before k ks)
  where
    by : (b : Bool) → sum_by g (inserted before k ks) ≡ g k + sum_by g ks → sum_by g (if b then k ∷ x ∷ ks else x ∷ inserted before k ks) ≡ g k + sum_by g (x ∷ ks)
    by true rest = sum_by-cons g k (x ∷ ks)
    by false rest = omega (arith, sum_by-cons g x (inserted before k ks), sum_by-cons g x ks, rest)

-- where one key's share changes, by no more than one, and the shares of others don't
module _ {K : Type 0} (same : K → K → Bool) (same_is : (a b : K) → same a b ≡ true → a ≡ b) (turn : (a b : K) → same a b ≡ same b a) (itself : (a : K) → same a a ≡ true)
    (before : K → K → Bool) (k : K) (f g : K → ℕ) (a : ℕ) (others : (j : K) → same j k ≡ false → g j ≡ f j) (own : a + g k ≤ f k + 1) where
  others_sum : (ks : List K) → list_any (same k) ks ≡ false → sum_by g ks ≡ sum_by f ks
  others_sum [] none = refl
  others_sum (x ∷ ks) none = by (same k x) refl none (λ later. others_sum ks later)
    where
      by : (b : Bool) → same k x ≡ b → (b || list_any (same k) ks) ≡ false → (list_any (same k) ks ≡ false → sum_by g ks ≡ sum_by f ks) → sum_by g (x ∷ ks) ≡ sum_by f (x ∷ ks)
      by b e any rest = grind (arith, sum_by-cons, turn)

  absent : (x : K) (ks : List K) → k ≡ x → AllByRecursion (λ y. same x y ≡ false) ks → list_any (same k) ks ≡ false
  absent x [] e all = refl
  absent x (y ∷ ks) e all = rw (ap (λ (z : K). same z y) e ∙ all.0) (absent x ks e all.1)

  own_sum : (ks : List K) → Apart same same_is turn itself ks → list_any (same k) ks ≡ true → a + sum_by g ks ≤ sum_by f ks + 1
  own_sum [] apart there = cc
  own_sum (x ∷ ks) apart there = by (same k x) refl there (λ later. own_sum ks apart.1 later)
    where
      by : (b : Bool) → same k x ≡ b → (b || list_any (same k) ks) ≡ true → (list_any (same k) ks ≡ true → a + sum_by g ks ≤ sum_by f ks + 1) → a + sum_by g (x ∷ ks) ≤ sum_by f (x ∷ ks) + 1
      by b e any rest = grind (arith, same_is, sum_by-cons, others_sum, absent, apart, turn)

  sum_placed : (ks : List K) → Apart same same_is turn itself ks → (list_any (same k) ks ≡ false → f k ≡ 0) → a + sum_by g (with_key same before k ks) ≤ sum_by f ks + 1
  sum_placed ks apart new = grind (arith, apart, own_sum, sum_inserted, others_sum)

-- ---- the keys of groups

-- ---- one more line

module _ (t : Taken) (older : List Taken) where
  abbrev before_it : GroupKey → ℕ
  before_it key = held_in (group_open older key t.moment)

  abbrev after_it : GroupKey → ℕ
  after_it key = held_in (group_open (t ∷ older) key t.moment)

  keys_are : (o : Option GroupPart) → several t.group ≡ o → lines_held (t ∷ older) t.moment ≡ sum_by after_it (key_with t.source o (group_keys older))
  keys_are o e = ap (λ (g : Option GroupPart). sum_by after_it (key_with t.source g (group_keys older))) e

  alone : several t.group ≡ None → length (handed_over t older) + lines_held (t ∷ older) t.moment ≤ lines_held older t.moment + 1
  alone e = grind (arith, lines_alone, sums_agree, keys_are)

  in_group : (part : GroupPart) → several t.group ≡ Some part → length (handed_over t older) + lines_held (t ∷ older) t.moment ≤ lines_held older t.moment + 1
  in_group part e =
      let key = group_key t older part in
      let o = group_open older key t.moment in
      let step = group_steps t older part e in
      let handed : length (handed_over t older) ≡ held_in (finished group_rules o (group_line t part)) =
      ap length step.handed ∙ all_handed (finished group_rules o (group_line t part)) in
      let left : after_it key ≡ held_in (kept_at group_rules (fed group_rules o (group_line t part)) t.moment) = ap held_in (step.left t.moment) in
      let held = step_held group_rules o (group_line t part) t.moment in
      let own : length (handed_over t older) + after_it key ≤ before_it key + 1 = omega (arith, handed, left, held) in
      let all : length (handed_over t older) + sum_by after_it (with_key same_group precedes_group key (group_keys older)) ≤ sum_by before_it (group_keys older) + 1 =
      sum_placed same_group same_is turn itself precedes_group key before_it after_it (length (handed_over t older))
      (λ j other. ap held_in (step.others j t.moment other)) own (group_keys older) (apart older)
      (λ none. ap (λ (lines : List GroupLine). held_in (open_at group_rules lines t.moment)) (no_lines key older none)) in
      omega (arith, keys_are (Some part) e, all)

pub handed_by_lines : (t : Taken) (older : List Taken) → length (handed_over t older) + lines_held (t ∷ older) t.moment ≤ lines_held older t.moment + 1
handed_by_lines t older = grind (arith, alone, in_group)
