-- An assembly is what the frames of its open prefix make.
use Rattle.std.specs.List.{AllByRecursion}
use Rattle.std.proofs.Math.Bool.{and-false}
use Rattle.std.proofs.lemmas.Bool.{eqb-true, eqb-false, le-leb, leb-true, leb-false, ltb-true, ne_eqb, lt-ltb, le-ltb, and_parts}
use Rattle.std.proofs.Common.{◌≡◌, ℕ, ◌+◌, ◌-◌, ◌*◌, ◌/◌, ◌%◌, ◌<◌, ◌≤◌, ◌==◌, ◌&&◌, nat_le, nat_lt, min, Bool, true, false, List, [], ◌∷◌, ◌++◌, length, take, drop, slice_index, Option, Some, None, length-take, length-drop, length-append, add-one, refl, sym, ◌∙◌, ap, subst, arith}
use Rattle.std.proofs.lemmas.List.{take_all}
use Rattle.slot_views.specs.Runs.{accepted, accepted_after, accepted_more, in_time, is_whole, is_admitted, opener_of, since_opener, if_open, kept_at, open_of, open_at}
use Rattle.slot_views.specs.RunLaws.{fed, fed_later}
use Rattle.slot_views.proofs.RunSteps.{one_step_of}
use Rattle.slot_views.proofs.RunSuffixes.{one_suffix_of}
use Rattle.fast_packet.specs.declared.verdict.Verdict.TheVariants.{Next}
use Rattle.slot_views.specs.Slots.{Entry, grown}
use Rattle.fast_packet.specs.FastRuns.{gap, longest, counter_of, sequence_of, length_of, need_of, left_after, is_opener, is_no_later, later_piece, FastPiece, is_next, is_repeat, fast_rules, joined}
use Rattle.fast_packet.specs.Assembly.{mark_of, last_frame, is_again, follows, is_enough, verdict, opener_sequence, left_of}
use Rattle.slot_views.specs.Traces.{left_at, entry_after}
use Rattle.fast_packet.specs.RunAssemblies.{assembly_of, assembly_at, left_by, assembly_after}
use Rattle.fast_packet.proofs.Counts.{need_is}
use Rattle.fast_packet.proofs.Lawful.{lawful, no_next, repeat_counter, no_repeat}

-- a later moment
kept_by : (y : FastPiece) (ys : List FastPiece) (m : ℕ) (b : Bool) → nat_le m (y.moment + gap) ≡ b → left_at (assembly_of (y ∷ ys)) m ≡ assembly_at (kept_at fast_rules (Some (y ∷ ys)) m)
kept_by y ys m true timely =
    let reach = leb-true m (y.moment + gap) timely in
    let fresh : nat_lt gap (m - y.moment) ≡ false = le-ltb gap (m - y.moment) (omega (arith, reach)) in
    simp (timely, fresh)
kept_by y ys m false late =
    let past = leb-false m (y.moment + gap) late in
    let gone : nat_lt gap (m - y.moment) ≡ true = lt-ltb gap (m - y.moment) (omega (arith, past)) in
    simp (late, gone)

pub kept_is : (o : Option (List FastPiece)) (m : ℕ) → left_at (assembly_at o) m ≡ assembly_at (kept_at fast_rules o m)
kept_is None m = refl
kept_is (Some []) m = refl
kept_is (Some (y ∷ ys)) m = kept_by y ys m _ refl

-- an opener
opens_by : (o : Option Entry) (x : FastPiece) (a w : Bool) → is_opener x.bytes ≡ true → x.admitted ≡ a → (1 == need_of (length_of x.bytes)) ≡ w → left_by (verdict o x.bytes) x o ≡ assembly_at (if_open fast_rules (Some (x ∷ [])))
opens_by o x true true opens ea ew = simp (opens, ea, ew)
opens_by o x true false opens ea ew = simp (opens, ea, ew)
opens_by o x false w opens ea ew = simp (opens, ea)

-- a later frame with none open
none_by : (x : FastPiece) (b : Bool) → is_opener x.bytes ≡ false → is_no_later x.bytes ≡ b → left_by (verdict None x.bytes) x None ≡ None
none_by x true other eb = simp (other, eb)
none_by x false other eb = simp (other, eb)

-- frames that are a prefix so far, none a repeat
abbrev pub IsSoFar : List FastPiece → Type 0
IsSoFar [] = ⊥
IsSoFar (x ∷ []) = (is_opener x.bytes ≡ true) × (length x.bytes ≤ 8)
IsSoFar (x ∷ y ∷ ys) = (is_next (y ∷ ys) x ≡ true) × (length x.bytes ≤ 8) × IsSoFar (y ∷ ys)

pub record Facts (y : FastPiece) (ys : List FastPiece) (e : Entry) : Type 0 where
  pub least : 1 ≤ length_of (opener_of y ys).bytes
  pub most : length_of (opener_of y ys).bytes ≤ longest
  pub joined_length : length (y ∷ ys) < need_of (length_of (opener_of y ys).bytes) → length e.bytes ≡ 6 + 7 * (length (y ∷ ys) - 1)
  pub last_is : 2 ≤ length (y ∷ ys) → length (y ∷ ys) < need_of (length_of (opener_of y ys).bytes) → y.bytes ≡ last_frame e
  pub was_next : nat_le 2 (length (y ∷ ys)) ≡ is_next ys y

abbrev pub entry : FastPiece → List FastPiece → Entry
entry y ys =
    record {
      bytes = joined (length_of (opener_of y ys).bytes) (y ∷ ys);
      next = length (y ∷ ys);
      need = need_of (length_of (opener_of y ys).bytes);
      last = y.moment;
      gap = gap;
      mark = mark_of (sequence_of (opener_of y ys).bytes) (length_of (opener_of y ys).bytes);
    }

first_facts : (y : FastPiece) → is_opener y.bytes ≡ true → length y.bytes ≤ 8 → Facts y [] (entry y [])
first_facts y opens valid =
    let one = and_parts _ _ opens in
    let two = and_parts _ _ one.1 in
    let three = and_parts _ _ two.1 in
    let enough : 2 + min 6 (length_of y.bytes) ≤ length y.bytes = leb-true _ _ three.1 in
    let need = need_is (length_of y.bytes) in
    record {
      least = leb-true _ _ two.0;
      most = leb-true _ _ three.0;
      joined_length = λ more. omega (arith, length-take (min 6 (length_of y.bytes)) (drop 2 y.bytes), length-drop 2 y.bytes, enough, more, need);
      last_is = λ many. absurd (omega (arith, many));
      was_next = refl;
    }

-- what the next frame has
pub record NextFacts (z : FastPiece) (zs : List FastPiece) (y : FastPiece) : Type 0 where
  pub counter : counter_of y.bytes ≡ length (z ∷ zs)
  pub same : sequence_of y.bytes ≡ sequence_of (opener_of z zs).bytes
  pub fewer : length (z ∷ zs) < need_of (length_of (opener_of z zs).bytes)
  pub enough : 1 + min 7 (left_after (length_of (opener_of z zs).bytes) (length (z ∷ zs))) ≤ length y.bytes

pub next_facts : (z : FastPiece) (zs : List FastPiece) (y : FastPiece) → is_next (z ∷ zs) y ≡ true → NextFacts z zs y
next_facts z zs y next =
    let one = and_parts _ _ next in
    let two = and_parts _ _ one.1 in
    let three = and_parts _ _ two.1 in
    record { counter = eqb-true _ _ one.0; same = eqb-true _ _ two.0; fewer = ltb-true _ _ three.0; enough = leb-true _ _ three.1 }

-- the first element, and the others
parts_of : (bytes : List ℕ) → 1 ≤ length bytes → bytes ≡ slice_index bytes 0 ∷ drop 1 bytes
parts_of [] some = absurd (omega arith)
parts_of (b ∷ bytes) some = refl

take_whole : (n : ℕ) (l : List ℕ) → length l ≤ n → take n l ≡ l
take_whole n l le = take_all n l le

drop_joined : (j l : List ℕ) → drop (length j) (j ++ l) ≡ l
drop_joined [] l = refl
drop_joined (x ∷ j) l = drop_joined j l

sequence_kept : (s len : ℕ) → len ≤ longest → mark_of s len / 256 ≡ s
sequence_kept s len small = omega arith

length_kept : (s len : ℕ) → len ≤ longest → mark_of s len % 256 ≡ len
length_kept s len small = omega arith

-- a full frame carries its 7 bytes
full_piece : (len k : ℕ) (bytes : List ℕ) → 7 ≤ left_after len k → 1 + min 7 (left_after len k) ≤ length bytes → length bytes ≤ 8 → later_piece (left_after len k) bytes ≡ drop 1 bytes
full_piece len k bytes full enough valid =
    let seven : min 7 (left_after len k) ≡ 7 = omega arith in
    rw seven (take_whole 7 (drop 1 bytes) (omega (arith, length-drop 1 bytes)))

-- the last frame, from what was joined
last_by : (z : FastPiece) (zs : List FastPiece) (y : FastPiece) → is_next (z ∷ zs) y ≡ true → length y.bytes ≤ 8 → length_of (opener_of z zs).bytes ≤ longest
    → later_piece (left_after (length_of (opener_of z zs).bytes) (length (z ∷ zs))) y.bytes ≡ drop 1 y.bytes → 8 ≤ length y.bytes → y.bytes ≡ last_frame (entry y (z ∷ zs))
last_by z zs y next valid most last full =
    let n = next_facts z zs y next in
    let j = joined (length_of (opener_of z zs).bytes) (z ∷ zs) in
    let whole : (entry y (z ∷ zs)).bytes ≡ j ++ drop 1 y.bytes = ap (λ l. j ++ l) last in
    let cut : length (entry y (z ∷ zs)).bytes - 7 ≡ length (joined (length_of (opener_of z zs).bytes) (z ∷ zs)) = omega (arith, ap length whole, length-append j (drop 1 y.bytes), length-drop 1 y.bytes, full, valid) in
    let tail : drop (length (entry y (z ∷ zs)).bytes - 7) (entry y (z ∷ zs)).bytes ≡ drop 1 y.bytes = ap (λ i. drop i (entry y (z ∷ zs)).bytes) cut ∙ (ap (λ l. drop (length j) l) whole ∙ drop_joined j (drop 1 y.bytes)) in
    let kept = sequence_kept (sequence_of (opener_of z zs).bytes) (length_of (opener_of z zs).bytes) most in
    let head : 32 * opener_sequence (entry y (z ∷ zs)) + ((entry y (z ∷ zs)).next - 1) ≡ slice_index y.bytes 0 = omega (arith, kept, n.counter, n.same) in
    parts_of y.bytes (omega (arith, full)) ∙ (ap (λ b. b ∷ drop 1 y.bytes) (sym head) ∙ ap {B = List ℕ} (λ l. (32 * opener_sequence (entry y (z ∷ zs)) + ((entry y (z ∷ zs)).next - 1)) ∷ l) (sym tail))

more_facts : (z : FastPiece) (zs : List FastPiece) (y : FastPiece) → is_next (z ∷ zs) y ≡ true → length y.bytes ≤ 8 → Facts z zs (entry z zs) → Facts y (z ∷ zs) (entry y (z ∷ zs))
more_facts z zs y next valid f =
    let n = next_facts z zs y next in
    let len = length_of (opener_of z zs).bytes in
    let k = length (z ∷ zs) in
    let need = need_is (length_of (opener_of z zs).bytes) in
    let piece_is : k + 1 < need_of (length_of (opener_of z zs).bytes) → later_piece (left_after (length_of (opener_of z zs).bytes) (length (z ∷ zs))) y.bytes ≡ drop 1 y.bytes =
    λ more. full_piece (length_of (opener_of z zs).bytes) (length (z ∷ zs)) y.bytes (omega (arith, more, need, n.fewer)) n.enough valid in
    record {
      least = f.least;
      most = f.most;
      joined_length = λ more.
          let before = f.joined_length n.fewer in
          let last = piece_is (omega (arith, more)) in
          let full : 8 ≤ length y.bytes = omega (arith, n.enough, more, need, n.fewer) in
          omega (arith, before, length-append (joined (length_of (opener_of z zs).bytes) (z ∷ zs)) (later_piece (left_after (length_of (opener_of z zs).bytes) (length (z ∷ zs))) y.bytes), ap length last, length-drop 1 y.bytes, full, valid);
      last_is = λ many more. last_by z zs y next valid f.most (piece_is (omega (arith, more))) (omega (arith, n.enough, more, need, n.fewer));
      was_next = le-leb 2 (length (y ∷ z ∷ zs)) (omega arith) ∙ sym next;
    }

pub facts_of : (y : FastPiece) (ys : List FastPiece) → IsSoFar (y ∷ ys) → Facts y ys (entry y ys)
facts_of y [] so_far = first_facts y so_far.0 so_far.1
facts_of y (z ∷ zs) so_far = more_facts z zs y so_far.0 so_far.1 (facts_of z zs so_far.2)

and_assoc : (a b c : Bool) → ((a && b) && c) ≡ (a && (b && c))
and_assoc true b c = refl
and_assoc false b c = refl

counter_by : (bytes : List ℕ) (b : Bool) → (length bytes == 0) ≡ b → is_no_later bytes ≡ true → counter_of bytes ≡ 0
counter_by [] b none first = refl
counter_by (x ∷ bytes) true none first = let zero = eqb-true _ _ none in absurd (omega arith)
counter_by (x ∷ bytes) false none first = eqb-true _ _ (rw none at first)

pub counter_zero : (bytes : List ℕ) → is_no_later bytes ≡ true → counter_of bytes ≡ 0
counter_zero bytes first = counter_by bytes _ refl first

-- a later frame, where one is open
module _ (y : FastPiece) (ys : List FastPiece) (x : FastPiece) (f : Facts y ys (entry y ys)) where
  -- the entry waits for the frame that is the next one
  left_is : length (y ∷ ys) < need_of (length_of (opener_of y ys).bytes) → left_of (entry y ys) ≡ left_after (length_of (opener_of y ys).bytes) (length (y ∷ ys))
  left_is more =
      let kept = length_kept (sequence_of (opener_of y ys).bytes) (length_of (opener_of y ys).bytes) f.most in
      let long = f.joined_length more in
      omega (arith, kept, long)

  pub sequence_is : opener_sequence (entry y ys) ≡ sequence_of (opener_of y ys).bytes
  sequence_is = sequence_kept (sequence_of (opener_of y ys).bytes) (length_of (opener_of y ys).bytes) f.most

  -- the tests of the entry are those of the frames
  pub tests_next : length (y ∷ ys) < need_of (length_of (opener_of y ys).bytes) → (follows (entry y ys) x.bytes && is_enough (entry y ys) x.bytes) ≡ is_next (y ∷ ys) x
  tests_next more =
      let fewer : nat_lt (length (y ∷ ys)) (need_of (length_of (opener_of y ys).bytes)) ≡ true = lt-ltb _ _ more in
      rw (sequence_is, left_is more, fewer)
      (and_assoc (counter_of x.bytes == length (y ∷ ys)) (sequence_of x.bytes == sequence_of (opener_of y ys).bytes)
      (nat_le (1 + min 7 (left_after (length_of (opener_of y ys).bytes) (length (y ∷ ys)))) (length x.bytes)))

  repeat_by : length (y ∷ ys) < need_of (length_of (opener_of y ys).bytes) → (t : Bool) → nat_le 2 (length (y ∷ ys)) ≡ t → is_again (entry y ys) x.bytes ≡ is_repeat (y ∷ ys) x
  repeat_by more false two = let first : is_next ys y ≡ false = sym f.was_next ∙ two in simp (two, first, and-false)
  repeat_by more true two =
      let later : is_next ys y ≡ true = sym f.was_next ∙ two in
      rw (two, later, sym (f.last_is (leb-true _ _ two) more)) refl

  pub tests_repeat : length (y ∷ ys) < need_of (length_of (opener_of y ys).bytes) → is_again (entry y ys) x.bytes ≡ is_repeat (y ∷ ys) x
  tests_repeat more = repeat_by more _ refl

  -- a repeat has the counter before the next one's
  pub repeat_apart : is_repeat (y ∷ ys) x ≡ true → is_next (y ∷ ys) x ≡ false
  repeat_apart again =
      let counter = (repeat_counter y ys x again).0 in
      let other : (counter_of x.bytes == length (y ∷ ys)) ≡ false = ne_eqb _ _ (λ e. omega (arith, counter)) in
      simp other

  pub grown_is : length (y ∷ ys) < need_of (length_of (opener_of y ys).bytes)
      → Some (grown (entry y ys) (take (1 + min 7 (left_of (entry y ys)) - 1) (drop 1 x.bytes)) x.moment gap) ≡ assembly_of (x ∷ y ∷ ys)
  grown_is more =
      let count : 1 + min 7 (left_of (entry y ys)) - 1 ≡ min 7 (left_after (length_of (opener_of y ys).bytes) (length (y ∷ ys))) = ap (λ n. 1 + min 7 n - 1) (left_is more) ∙ omega arith in
      rw (count, add-one (length (y ∷ ys))) refl

  add_by : length (y ∷ ys) < need_of (length_of (opener_of y ys).bytes) → is_admitted fast_rules (y ∷ ys) ≡ true → (w : Bool) → (length (x ∷ y ∷ ys) == need_of (length_of (opener_of y ys).bytes)) ≡ w
      → left_by (Next (1 + min 7 (left_of (entry y ys)))) x (Some (entry y ys)) ≡ assembly_at (if_open fast_rules (Some (x ∷ y ∷ ys)))
  add_by more admitted w ew =
      let complete : ((length (y ∷ ys) + 1) == need_of (length_of (opener_of y ys).bytes)) ≡ w = rw (add-one (length (y ∷ ys))) ew in
      added w ew complete
    where
      added : (w : Bool) → (length (x ∷ y ∷ ys) == need_of (length_of (opener_of y ys).bytes)) ≡ w → ((length (y ∷ ys) + 1) == need_of (length_of (opener_of y ys).bytes)) ≡ w
          → left_by (Next (1 + min 7 (left_of (entry y ys)))) x (Some (entry y ys)) ≡ assembly_at (if_open fast_rules (Some (x ∷ y ∷ ys)))
      added true ew complete = simp (complete, admitted, ew)
      added false ew complete =
          let left : left_by (Next (1 + min 7 (left_of (entry y ys)))) x (Some (entry y ys)) ≡ Some (grown (entry y ys) (take (1 + min 7 (left_of (entry y ys)) - 1) (drop 1 x.bytes)) x.moment gap) = rw complete refl in
          let right : assembly_at (if_open fast_rules (Some (x ∷ y ∷ ys))) ≡ assembly_of (x ∷ y ∷ ys) = simp (admitted, ew) in
          left ∙ (grown_is more ∙ sym right)

  later_by : is_opener x.bytes ≡ false → length (y ∷ ys) < need_of (length_of (opener_of y ys).bytes) → is_admitted fast_rules (y ∷ ys) ≡ true
      → (n a o e : Bool) → is_no_later x.bytes ≡ n → is_again (entry y ys) x.bytes ≡ a → follows (entry y ys) x.bytes ≡ o → is_enough (entry y ys) x.bytes ≡ e
      → left_by (verdict (Some (entry y ys)) x.bytes) x (Some (entry y ys)) ≡ assembly_at (fed_later fast_rules (Some (y ∷ ys)) x)
  later_by other more admitted true a o e en ea eo ee =
      let zero = counter_zero x.bytes en in
      simp (other, en, no_next y ys x zero, no_repeat y ys x zero)
  later_by other more admitted false true o e en ea eo ee =
      let again : is_repeat (y ∷ ys) x ≡ true = sym (tests_repeat more) ∙ ea in
      simp (other, en, ea, again, repeat_apart again)
  later_by other more admitted false false true true en ea eo ee =
      let next : is_next (y ∷ ys) x ≡ true = sym (tests_next more) ∙ simp (eo, ee) in
      let is : verdict (Some (entry y ys)) x.bytes ≡ Next (1 + min 7 (left_of (entry y ys))) = simp (other, en, ea, eo, ee) in
      let right : assembly_at (fed_later fast_rules (Some (y ∷ ys)) x) ≡ assembly_at (if_open fast_rules (Some (x ∷ y ∷ ys))) = ap assembly_at (rw next refl) in
      ap (λ v. left_by v x (Some (entry y ys))) is ∙ (add_by more admitted _ refl ∙ sym right)
  later_by other more admitted false false true false en ea eo ee =
      let next : is_next (y ∷ ys) x ≡ false = sym (tests_next more) ∙ simp (eo, ee) in
      let again : is_repeat (y ∷ ys) x ≡ false = sym (tests_repeat more) ∙ ea in
      simp (other, en, ea, eo, ee, next, again)
  later_by other more admitted false false false e en ea eo ee =
      let next : is_next (y ∷ ys) x ≡ false = sym (tests_next more) ∙ simp eo in
      let again : is_repeat (y ∷ ys) x ≡ false = sym (tests_repeat more) ∙ ea in
      simp (other, en, ea, eo, next, again)

inside : {X : Type 0} (a b : X) → Some a ≡ Some b → a ≡ b
inside a b same = cc

-- what was accepted of a prefix is a prefix with no repeat
so_far_more : (x : FastPiece) (a acc : List FastPiece) (t n r : Bool) → length x.bytes ≤ 8 → IsSoFar a → in_time fast_rules a x.moment ≡ t → is_next a x ≡ n → is_repeat a x ≡ r → accepted_more fast_rules a x ≡ Some acc → IsSoFar acc
so_far_more x a acc false n r valid so_far et en er is = let none : None ≡ Some acc = simp et at is in cc
so_far_more x a acc true false false valid so_far et en er is = let none : None ≡ Some acc = simp (et, en, er) at is in cc
so_far_more x a acc true false true valid so_far et en er is = let same : Some a ≡ Some acc = simp (et, en, er) at is in subst IsSoFar (inside a acc same) so_far
so_far_more x [] acc true true r valid so_far et en er is = absurd so_far
so_far_more x (y ∷ ys) acc true true r valid so_far et en er is =
    let same : Some (x ∷ y ∷ ys) ≡ Some acc = simp (et, en) at is in
    subst IsSoFar (inside (x ∷ y ∷ ys) acc same) (en, valid, so_far)

first_so_far : (x : FastPiece) (acc : List FastPiece) (b : Bool) → length x.bytes ≤ 8 → is_opener x.bytes ≡ b → accepted fast_rules (x ∷ []) ≡ Some acc → IsSoFar acc
first_so_far x acc true valid opens is = let same : Some (x ∷ []) ≡ Some acc = simp opens at is in subst IsSoFar (inside (x ∷ []) acc same) (opens, valid)
first_so_far x acc false valid opens is = let none : None ≡ Some acc = simp opens at is in cc

so_far_by : (x y : FastPiece) (ys acc : List FastPiece) (o : Option (List FastPiece)) → length x.bytes ≤ 8 → accepted fast_rules (y ∷ ys) ≡ o → accepted_after fast_rules o x ≡ Some acc → ((a : List FastPiece) → accepted fast_rules (y ∷ ys) ≡ Some a → IsSoFar a) → IsSoFar acc
so_far_by x y ys acc None valid was is before = let none : None ≡ Some acc = is in cc
so_far_by x y ys acc (Some a) valid was is before = so_far_more x a acc _ _ _ valid (before a was) refl refl refl is

pub so_far : (p acc : List FastPiece) → AllByRecursion (λ x. length x.bytes ≤ 8) p → accepted fast_rules p ≡ Some acc → IsSoFar acc
so_far [] acc valid is = cc
so_far (x ∷ []) acc valid is = first_so_far x acc _ valid.0 refl is
so_far (x ∷ y ∷ ys) acc valid is = so_far_by x y ys acc _ valid.0 refl is (λ a was. so_far (y ∷ ys) a valid.1 was)

pub all_front : {X : Type 0} (P : X → Type 0) (xs ys : List X) → AllByRecursion P (xs ++ ys) → AllByRecursion P xs
all_front P [] ys all = tt
all_front P (x ∷ xs) ys all = (all.0, all_front P xs ys all.1)

-- a prefix has no more frames than its message
pub within : (y : FastPiece) (ys : List FastPiece) → IsSoFar (y ∷ ys) → length (y ∷ ys) ≤ need_of (length_of (opener_of y ys).bytes)
within y [] far = let need = need_is (length_of y.bytes) in omega arith
within y (z ∷ zs) far = let n = next_facts z zs y far.0 in omega (arith, n.fewer)

-- one more frame
pub step_by : (h : List FastPiece) (x : FastPiece) (q : Option (List FastPiece)) (b : Bool) → AllByRecursion (λ x. length x.bytes ≤ 8) h → open_at fast_rules h x.moment ≡ q → is_opener x.bytes ≡ b
    → left_by (verdict (assembly_at q) x.bytes) x (assembly_at q) ≡ assembly_at (fed fast_rules q x)
step_by h x q true valid is opens =
    let right : assembly_at (fed fast_rules q x) ≡ assembly_at (if_open fast_rules (Some (x ∷ []))) = rw opens refl in
    opens_by (assembly_at q) x _ _ opens refl refl ∙ sym right
step_by h x None false valid is opens =
    let right : assembly_at (fed fast_rules None x) ≡ None = rw opens refl in
    none_by x _ opens refl ∙ sym right
step_by h x (Some acc) false valid is opens =
    let o = (one_suffix_of fast_rules lawful).is_open h acc x.moment is in
    let prefix_valid = all_front (λ x. length x.bytes ≤ 8) (since_opener fast_rules h) o.older (subst (AllByRecursion (λ (x : FastPiece). length x.bytes ≤ 8)) o.suffix valid) in
    later acc (so_far (since_opener fast_rules h) acc prefix_valid o.prefix) o.admitted o.awaits
  where
    later : (acc : List FastPiece) → IsSoFar acc → is_admitted fast_rules acc ≡ true → is_whole fast_rules acc ≡ false → left_by (verdict (assembly_of acc) x.bytes) x (assembly_of acc) ≡ assembly_at (fed fast_rules (Some acc) x)
    later [] far admitted awaits = absurd far
    later (y ∷ ys) far admitted awaits =
        let other = eqb-false _ _ awaits in
        let most = within y ys far in
        let more : length (y ∷ ys) < need_of (length_of (opener_of y ys).bytes) = omega (arith, other, most) in
        let right : assembly_at (fed fast_rules (Some (y ∷ ys)) x) ≡ assembly_at (fed_later fast_rules (Some (y ∷ ys)) x) = rw opens refl in
        later_by y ys x (facts_of y ys far) opens more admitted _ _ _ _ refl refl refl refl ∙ sym right

pub kept_open : (h : List FastPiece) → AllByRecursion (λ x. length x.bytes ≤ 8) h → assembly_after h ≡ assembly_at (open_of fast_rules h)
unfolding entry_after
kept_open [] valid = refl
kept_open (x ∷ h) valid =
    let before : left_at (assembly_after h) x.moment ≡ assembly_at (open_at fast_rules h x.moment) = ap (λ a. left_at a x.moment) (kept_open h valid.1) ∙ kept_is (open_of fast_rules h) x.moment in
    ap (λ o. left_by (verdict o x.bytes) x o) before
    ∙ (step_by h x (open_at fast_rules h x.moment) (is_opener x.bytes) valid.1 refl refl ∙ sym (ap assembly_at ((one_step_of fast_rules lawful).prefix h x)))
