-- Groups of lines are runs, and a group is what the lines of its open prefix make.
use Rattle.std.specs.List.{AllByRecursion}
use Rattle.std.proofs.Math.Bool.{and-false}
use Rattle.std.proofs.lemmas.Bool.{eqb-true, eqb-false, leb-true, leb-false, ltb-true, ne_eqb, eq-eqb, lt-ltb, le-ltb, and_parts}
use Rattle.std.proofs.Common.{◌≡◌, ℕ, ◌+◌, ◌-◌, ◌<◌, ◌≤◌, ◌==◌, ◌&&◌, nat_le, nat_lt, Bool, true, false, List, [], ◌∷◌, ◌++◌, length, Option, Some, None, add-one, refl, sym, ◌∙◌, ap, subst, arith}
use Rattle.slot_views.specs.Runs.{accepted, accepted_after, accepted_more, in_time, is_whole, is_admitted, opener_of, since_opener, if_open, kept_at, open_of, open_at}
use Rattle.slot_views.specs.RunLaws.{IsLawful, fed, fed_later}
use Rattle.slot_views.proofs.RunSteps.{one_step_of}
use Rattle.slot_views.proofs.RunSuffixes.{one_suffix_of}
use Rattle.slot_views.specs.Slots.{Entry, grown}
use Rattle.slot_views.specs.Traces.{left_at, entry_after}
use Rattle.tag_block.specs.declared.group_verdict.GroupVerdict.TheVariants.{Follows, Breaks}
use Rattle.tag_block.specs.Groups.{IsGroupPart, follows, verdict}
use Rattle.tag_block.specs.GroupRuns.{GroupLine, is_next, group_rules, sentences_of, group_gap}
use Rattle.tag_block.specs.GroupLaws.{group_of, group_at, left_by, group_after}

-- a first line is no next one
pub first_is_new : (acc : List GroupLine) (x : GroupLine) → (x.part.number == 1) ≡ true → is_next acc x ≡ false
first_is_new [] x first = refl
first_is_new (y ∷ ys) x first =
    let one = eqb-true x.part.number 1 first in
    let other : (x.part.number == length (y ∷ ys) + 1) ≡ false = ne_eqb _ _ (λ e. omega arith) in
    simp other

pub lawful : IsLawful group_rules
lawful = record { opener_is_new = λ acc x opens. (first_is_new acc x opens, refl); whole_ends = ends }
  where
    ends : (acc : List GroupLine) (x : GroupLine) → is_whole group_rules acc ≡ true → (is_next acc x ≡ false) × (false ≡ false)
    ends [] x whole = (refl, refl)
    ends (y ∷ ys) x whole =
        let all = eqb-true (length (y ∷ ys)) (opener_of y ys).part.total whole in
        let past : nat_lt (length (y ∷ ys)) (opener_of y ys).part.total ≡ false = le-ltb _ _ (omega (arith, all)) in
        (simp (past, and-false), refl)

-- a later moment
kept_by : (y : GroupLine) (ys : List GroupLine) (m : ℕ) (b : Bool) → nat_le m (y.moment + group_gap) ≡ b → left_at (group_of (y ∷ ys)) m ≡ group_at (kept_at group_rules (Some (y ∷ ys)) m)
kept_by y ys m true timely =
    let reach = leb-true m (y.moment + group_gap) timely in
    let fresh : nat_lt group_gap (m - y.moment) ≡ false = le-ltb group_gap (m - y.moment) (omega (arith, reach)) in
    simp (timely, fresh)
kept_by y ys m false late =
    let past = leb-false m (y.moment + group_gap) late in
    let gone : nat_lt group_gap (m - y.moment) ≡ true = lt-ltb group_gap (m - y.moment) (omega (arith, past)) in
    simp (late, gone)

pub kept_is : (o : Option (List GroupLine)) (m : ℕ) → left_at (group_at o) m ≡ group_at (kept_at group_rules o m)
kept_is None m = refl
kept_is (Some []) m = refl
kept_is (Some (y ∷ ys)) m = kept_by y ys m _ refl

-- lines that are a prefix so far
abbrev pub IsSoFar : List GroupLine → Type 0
IsSoFar [] = ⊥
IsSoFar (x ∷ []) = 2 ≤ x.part.total
IsSoFar (x ∷ y ∷ ys) = (is_next (y ∷ ys) x ≡ true) × IsSoFar (y ∷ ys)

inside : {X : Type 0} (a b : X) → Some a ≡ Some b → a ≡ b
inside a b same = cc

so_far_more : (x : GroupLine) (a acc : List GroupLine) (t n : Bool) → IsSoFar a → in_time group_rules a x.moment ≡ t → is_next a x ≡ n → accepted_more group_rules a x ≡ Some acc → IsSoFar acc
so_far_more x a acc false n far et en is = let none : None ≡ Some acc = simp et at is in cc
so_far_more x a acc true false far et en is = let none : None ≡ Some acc = simp (et, en) at is in cc
so_far_more x [] acc true true far et en is = absurd far
so_far_more x (y ∷ ys) acc true true far et en is =
    let same : Some (x ∷ y ∷ ys) ≡ Some acc = simp (et, en) at is in
    subst IsSoFar (inside (x ∷ y ∷ ys) acc same) (en, far)

first_so_far : (x : GroupLine) (acc : List GroupLine) (b : Bool) → IsGroupPart x.part → (x.part.number == 1) ≡ b → accepted group_rules (x ∷ []) ≡ Some acc → IsSoFar acc
first_so_far x acc true valid opens is = let same : Some (x ∷ []) ≡ Some acc = simp opens at is in subst IsSoFar (inside (x ∷ []) acc same) valid.several
first_so_far x acc false valid opens is = let none : None ≡ Some acc = simp opens at is in cc

so_far_by : (x y : GroupLine) (ys acc : List GroupLine) (o : Option (List GroupLine)) → accepted group_rules (y ∷ ys) ≡ o → accepted_after group_rules o x ≡ Some acc → ((a : List GroupLine) → accepted group_rules (y ∷ ys) ≡ Some a → IsSoFar a) → IsSoFar acc
so_far_by x y ys acc None was is before = let none : None ≡ Some acc = is in cc
so_far_by x y ys acc (Some a) was is before = so_far_more x a acc _ _ (before a was) refl refl is

pub so_far : (p acc : List GroupLine) → AllByRecursion (λ x. IsGroupPart x.part) p → accepted group_rules p ≡ Some acc → IsSoFar acc
so_far [] acc valid is = cc
so_far (x ∷ []) acc valid is = first_so_far x acc _ valid.0 refl is
so_far (x ∷ y ∷ ys) acc valid is = so_far_by x y ys acc _ refl is (λ a was. so_far (y ∷ ys) a valid.1 was)

pub all_front : {X : Type 0} (P : X → Type 0) (xs ys : List X) → AllByRecursion P (xs ++ ys) → AllByRecursion P xs
all_front P [] ys all = tt
all_front P (x ∷ xs) ys all = (all.0, all_front P xs ys all.1)

-- a prefix has no more lines than its total
pub within : (y : GroupLine) (ys : List GroupLine) → IsSoFar (y ∷ ys) → length (y ∷ ys) ≤ (opener_of y ys).part.total
within y [] far = omega (arith, far)
within y (z ∷ zs) far =
    let parts = and_parts (y.part.number == length (z ∷ zs) + 1) ((y.part.total == (opener_of z zs).part.total) && nat_lt (length (z ∷ zs)) (opener_of z zs).part.total) far.0 in
    let rest = and_parts (y.part.total == (opener_of z zs).part.total) (nat_lt (length (z ∷ zs)) (opener_of z zs).part.total) parts.1 in
    let fewer = ltb-true (length (z ∷ zs)) (opener_of z zs).part.total rest.1 in
    omega (arith, fewer)

abbrev pub entry : GroupLine → List GroupLine → Entry
entry y ys = record { bytes = sentences_of (y ∷ ys); next = length (y ∷ ys); need = (opener_of y ys).part.total; last = y.moment; gap = group_gap; mark = 0 }

eq_turned : (a b : ℕ) (r : Bool) → (a == b) ≡ r → (b == a) ≡ r
eq_turned a b true e = eq-eqb b a (sym (eqb-true a b e))
eq_turned a b false e = let apart = eqb-false a b e in ne_eqb b a (λ same. omega (arith, same, apart))

and_turned : (a b : Bool) → (a && (b && true)) ≡ (b && a)
and_turned true true = refl
and_turned true false = refl
and_turned false true = refl
and_turned false false = refl

-- the test of the group is that of the lines
pub tests_next : (y : GroupLine) (ys : List GroupLine) (x : GroupLine) → length (y ∷ ys) < (opener_of y ys).part.total → follows (entry y ys) x.part ≡ is_next (y ∷ ys) x
tests_next y ys x more =
    let fewer : nat_lt (length (y ∷ ys)) (opener_of y ys).part.total ≡ true = lt-ltb _ _ more in
    let number = eq_turned x.part.number (length (y ∷ ys) + 1) _ refl in
    let total = eq_turned x.part.total (opener_of y ys).part.total _ refl in
    rw (fewer, number, total) (sym (and_turned (x.part.number == length (y ∷ ys) + 1) (x.part.total == (opener_of y ys).part.total)))

pub grown_is : (y : GroupLine) (ys : List GroupLine) (x : GroupLine) → Some (grown (entry y ys) x.sentence x.moment group_gap) ≡ group_of (x ∷ y ∷ ys)
grown_is y ys x = rw (add-one (length (y ∷ ys))) refl

opens_by : (o : Option Entry) (x : GroupLine) (a w : Bool) → (x.part.number == 1) ≡ true → x.admitted ≡ a → (1 == x.part.total) ≡ w → left_by (verdict o x.part) x o ≡ group_at (if_open group_rules (Some (x ∷ [])))
opens_by o x true true opens ea ew = simp (opens, ea, ew)
opens_by o x true false opens ea ew = simp (opens, ea, ew)
opens_by o x false w opens ea ew = simp (opens, ea)

add_by : (y : GroupLine) (ys : List GroupLine) (x : GroupLine) → is_admitted group_rules (y ∷ ys) ≡ true → (w : Bool) → (length (x ∷ y ∷ ys) == (opener_of y ys).part.total) ≡ w
    → left_by Follows x (Some (entry y ys)) ≡ group_at (if_open group_rules (Some (x ∷ y ∷ ys)))
add_by y ys x admitted true ew =
    let complete : ((length (y ∷ ys) + 1) == (opener_of y ys).part.total) ≡ true = rw (add-one (length (y ∷ ys))) ew in
    simp (complete, admitted, ew)
add_by y ys x admitted false ew =
    let complete : ((length (y ∷ ys) + 1) == (opener_of y ys).part.total) ≡ false = rw (add-one (length (y ∷ ys))) ew in
    let left : left_by Follows x (Some (entry y ys)) ≡ Some (grown (entry y ys) x.sentence x.moment group_gap) = rw complete refl in
    let right : group_at (if_open group_rules (Some (x ∷ y ∷ ys))) ≡ group_of (x ∷ y ∷ ys) = simp (admitted, ew) in
    left ∙ (grown_is y ys x ∙ sym right)

later_by : (y : GroupLine) (ys : List GroupLine) (x : GroupLine) → (x.part.number == 1) ≡ false → length (y ∷ ys) < (opener_of y ys).part.total → is_admitted group_rules (y ∷ ys) ≡ true → (f : Bool) → follows (entry y ys) x.part ≡ f
    → left_by (verdict (Some (entry y ys)) x.part) x (Some (entry y ys)) ≡ group_at (fed_later group_rules (Some (y ∷ ys)) x)
later_by y ys x other more admitted true ef =
    let next : is_next (y ∷ ys) x ≡ true = sym (tests_next y ys x more) ∙ ef in
    let is : verdict (Some (entry y ys)) x.part ≡ Follows = rw (other, ef) refl in
    let right : group_at (fed_later group_rules (Some (y ∷ ys)) x) ≡ group_at (if_open group_rules (Some (x ∷ y ∷ ys))) = rw next refl in
    ap (λ v. left_by v x (Some (entry y ys))) is ∙ (add_by y ys x admitted _ refl ∙ sym right)
later_by y ys x other more admitted false ef =
    let next : is_next (y ∷ ys) x ≡ false = sym (tests_next y ys x more) ∙ ef in
    let is : verdict (Some (entry y ys)) x.part ≡ Breaks = rw (other, ef) refl in
    let right : group_at (fed_later group_rules (Some (y ∷ ys)) x) ≡ None = rw next refl in
    ap (λ v. left_by v x (Some (entry y ys))) is ∙ sym right

-- what is open, of valid lines
pub far_by : (h : List GroupLine) (valid : AllByRecursion (λ x. IsGroupPart x.part) h) (m : ℕ) (acc : List GroupLine) → open_at group_rules h m ≡ Some acc → IsSoFar acc × (is_admitted group_rules acc ≡ true) × (is_whole group_rules acc ≡ false)
far_by h valid m acc is =
    let o = (one_suffix_of group_rules lawful).is_open h acc m is in
    let front = all_front (λ x. IsGroupPart x.part) (since_opener group_rules h) o.older (subst (AllByRecursion (λ (x : GroupLine). IsGroupPart x.part)) o.suffix valid) in
    (so_far (since_opener group_rules h) acc front o.prefix, o.admitted, o.awaits)

pub more_of : (y : GroupLine) (ys : List GroupLine) → IsSoFar (y ∷ ys) → is_whole group_rules (y ∷ ys) ≡ false → length (y ∷ ys) < (opener_of y ys).part.total
more_of y ys far awaits =
    let apart = eqb-false (length (y ∷ ys)) (opener_of y ys).part.total awaits in
    let most = within y ys far in
    omega (arith, apart, most)

pub step_by : (h : List GroupLine) (x : GroupLine) (q : Option (List GroupLine)) (b : Bool) → AllByRecursion (λ x. IsGroupPart x.part) h → open_at group_rules h x.moment ≡ q → (x.part.number == 1) ≡ b
    → left_by (verdict (group_at q) x.part) x (group_at q) ≡ group_at (fed group_rules q x)
step_by h x q true valid is opens =
    let right : group_at (fed group_rules q x) ≡ group_at (if_open group_rules (Some (x ∷ []))) = rw opens refl in
    opens_by (group_at q) x _ _ opens refl refl ∙ sym right
step_by h x None false valid is opens =
    let right : group_at (fed group_rules None x) ≡ None = rw opens refl in
    let left : left_by (verdict None x.part) x None ≡ None = rw opens refl in
    left ∙ sym right
step_by h x (Some []) false valid is opens = absurd (far_by h valid x.moment [] is).0
step_by h x (Some (y ∷ ys)) false valid is opens =
    let (far, admitted, awaits) = far_by h valid x.moment (y ∷ ys) is in
    let right : group_at (fed group_rules (Some (y ∷ ys)) x) ≡ group_at (fed_later group_rules (Some (y ∷ ys)) x) = rw opens refl in
    later_by y ys x opens (more_of y ys far awaits) admitted _ refl ∙ sym right

pub kept_open : (h : List GroupLine) → AllByRecursion (λ x. IsGroupPart x.part) h → group_after h ≡ group_at (open_of group_rules h)
unfolding entry_after
kept_open [] valid = refl
kept_open (x ∷ h) valid =
    let before : left_at (group_after h) x.moment ≡ group_at (open_at group_rules h x.moment) = ap (λ a. left_at a x.moment) (kept_open h valid.1) ∙ kept_is (open_of group_rules h) x.moment in
    ap (λ o. left_by (verdict o x.part) x o) before
    ∙ (step_by h x (open_at group_rules h x.moment) (x.part.number == 1) valid.1 refl refl ∙ sym (ap group_at ((one_step_of group_rules lawful).prefix h x)))
