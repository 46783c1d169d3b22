-- Fast packets are runs, so what is promised of runs holds of them.
use Rattle.std.specs.Cmp.Lexicographic.{pointwise}
use Rattle.std.proofs.Math.Bool.{and-false}
use Rattle.std.proofs.Common.{◌≡◌, ℕ, ◌≤◌, ◌==◌, nat_eq, nat_lt, Bool, true, false, List, [], ◌∷◌, length, refl, ◌∙◌, ap, arith}
use Rattle.std.proofs.lemmas.Bool.{eqb-true, ne_eqb, le-ltb, and_parts}
use Rattle.slot_views.specs.Runs.{is_whole, opener_of}
use Rattle.slot_views.specs.RunLaws.{IsLawful}
use Rattle.fast_packet.specs.FastRuns.{counter_of, length_of, need_of, is_opener, FastPiece, is_next, is_repeat, fast_rules}

-- a counter of 0 is no later one's
pub no_next : (y : FastPiece) (ys : List FastPiece) (x : FastPiece) → counter_of x.bytes ≡ 0 → is_next (y ∷ ys) x ≡ false
no_next y ys x none = let other : (counter_of x.bytes == length (y ∷ ys)) ≡ false = ne_eqb _ _ (λ e. omega arith) in simp other

pointwise_eq : (a b : List ℕ) → pointwise nat_eq a b ≡ true → a ≡ b
pointwise_eq [] [] same = refl
pointwise_eq [] (y ∷ b) same = cc
pointwise_eq (x ∷ a) [] same = cc
pointwise_eq (x ∷ a) (y ∷ b) same =
    let parts = and_parts _ _ same in
    let head : x ≡ y = eqb-true x y parts.0 in
    let tail = pointwise_eq a b parts.1 in
    cc

-- a repeat has the counter of the frame that it repeats, which was a next one
pub repeat_counter : (y : FastPiece) (ys : List FastPiece) (x : FastPiece) → is_repeat (y ∷ ys) x ≡ true → (counter_of x.bytes ≡ length ys) × (1 ≤ length ys)
repeat_counter y [] x again = let none : false ≡ true = (and_parts (length x.bytes == 8) false again).1 in cc
repeat_counter y (z ∷ zs) x again =
    let later = and_parts (length x.bytes == 8) _ again in
    let next = and_parts (is_next (z ∷ zs) y) _ later.1 in
    let counter : counter_of y.bytes ≡ length (z ∷ zs) = eqb-true _ _ (and_parts (counter_of y.bytes == length (z ∷ zs)) _ next.0).0 in
    let same = pointwise_eq x.bytes y.bytes (and_parts (nat_lt (length (y ∷ z ∷ zs)) (need_of (length_of (opener_of y (z ∷ zs)).bytes))) _ next.1).1 in
    (ap counter_of same ∙ counter, omega arith)

pub no_repeat : (y : FastPiece) (ys : List FastPiece) (x : FastPiece) → counter_of x.bytes ≡ 0 → is_repeat (y ∷ ys) x ≡ false
no_repeat y ys x none = by (is_repeat (y ∷ ys) x) refl
  where
    by : (b : Bool) → is_repeat (y ∷ ys) x ≡ b → is_repeat (y ∷ ys) x ≡ false
    by true again = let (counter, some) = repeat_counter y ys x again in absurd (omega (arith, counter, some, none))
    by false other = other

-- nothing follows what is whole
none_past : (k n : ℕ) → k ≡ n → nat_lt k n ≡ false
none_past k n same = le-ltb k n (omega arith)

pub lawful : IsLawful fast_rules
lawful = record { opener_is_new = new; whole_ends = ends }
  where
    new : (acc : List FastPiece) (x : FastPiece) → is_opener x.bytes ≡ true → (is_next acc x ≡ false) × (is_repeat acc x ≡ false)
    new [] x opens = (refl, refl)
    new (y ∷ ys) x opens =
        let none : counter_of x.bytes ≡ 0 = eqb-true _ _ (and_parts _ _ opens).0 in
        (no_next y ys x none, no_repeat y ys x none)

    ends : (acc : List FastPiece) (x : FastPiece) → is_whole fast_rules acc ≡ true → (is_next acc x ≡ false) × (is_repeat acc x ≡ false)
    ends [] x whole = (refl, refl)
    ends (y ∷ ys) x whole =
        let past = none_past (length (y ∷ ys)) (need_of (length_of (opener_of y ys).bytes)) (eqb-true _ _ whole) in
        (simp (past, and-false), simp (past, and-false))
