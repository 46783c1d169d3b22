-- What holds of frames that are a prefix so far, none of them a repeat.
use Rattle.std.proofs.lemmas.Bool.{and_parts, eqb-true, leb-true, ltb-true}
use Rattle.std.proofs.lemmas.List.{take_all}
use Rattle.std.proofs.Common.{◌≡◌, ℕ, ◌+◌, ◌-◌, ◌*◌, ◌<◌, ◌≤◌, min, Bool, true, false, List, [], ◌∷◌, ◌++◌, length, drop, slice_index, Option, Some, None, length-drop, length-append, refl, sym, ◌∙◌, ap, subst, arith}
use Rattle.slot_views.specs.Runs.{accepted, accepted_after, accepted_more, in_time, opener_of}
use Rattle.slot_views.specs.Slots.{Entry}
use Rattle.iso_transport.specs.Sessions.{mark_of}
use Rattle.iso_transport.specs.IsoRuns.{packets_of, opens, gap_after, IsoPiece, number_of, end_of, part_of, session_of, need_of, is_opener, is_next, is_repeat, iso_rules, joined, left_of_run}
use Rattle.iso_transport.specs.Verdicts.{last_packet}
use Rattle.iso_transport.specs.Laws.{IsTrace}
use Rattle.iso_transport.proofs.Sessions.{Opened, opened_from}

abbrev pub size_of : IsoPiece → List IsoPiece → ℕ
size_of y ys = (session_of (y ∷ ys)).size

-- the session that stands for these
abbrev pub entry : Bool → IsoPiece → List IsoPiece → Entry
entry addressed y ys =
    record {
      bytes = joined (size_of y ys) (y ∷ ys);
      next = length (y ∷ ys);
      need = packets_of (size_of y ys) + 1;
      last = y.moment;
      gap = gap_after addressed (session_of (y ∷ ys)) (length (y ∷ ys) - 1);
      mark = mark_of (session_of (y ∷ ys));
    }

-- what the next packet has
pub record NextFacts (z : IsoPiece) (zs : List IsoPiece) (y : IsoPiece) : Type 0 where
  pub packet : y.packet ≡ true
  pub number : number_of y.bytes ≡ length (z ∷ zs)
  pub fewer : length (z ∷ zs) < need_of (opener_of z zs)
  pub enough : end_of (left_of_run (z ∷ zs)) ≤ length y.bytes

pub next_facts : (z : IsoPiece) (zs : List IsoPiece) (y : IsoPiece) → is_next (z ∷ zs) y ≡ true → NextFacts z zs y
next_facts z zs y next =
    let one = and_parts _ _ next in
    let two = and_parts _ _ one.1 in
    let three = and_parts _ _ two.1 in
    record { packet = one.0; number = eqb-true _ _ two.0; fewer = ltb-true _ _ three.0; enough = leb-true _ _ three.1 }

module _ (addressed : Bool) where
  abbrev pub IsSoFar : List IsoPiece → Type 0
  IsSoFar [] = ⊥
  IsSoFar (x ∷ []) = is_opener addressed x ≡ true
  IsSoFar (x ∷ y ∷ ys) = (is_next (y ∷ ys) x ≡ true) × (length x.bytes ≤ 8) × IsSoFar (y ∷ ys)

  pub record Facts (y : IsoPiece) (ys : List IsoPiece) : Type 0 where
    pub opened : Opened (session_of (y ∷ ys))
    pub joined_length : length (y ∷ ys) < need_of (opener_of y ys) → length (joined (size_of y ys) (y ∷ ys)) ≡ 7 * (length (y ∷ ys) - 1)
    pub last_number : 2 ≤ length (y ∷ ys) → number_of y.bytes ≡ length (y ∷ ys) - 1
    pub last_is : 2 ≤ length (y ∷ ys) → length (y ∷ ys) < need_of (opener_of y ys) → y.bytes ≡ last_packet (entry addressed y ys)

  first_facts : (y : IsoPiece) → is_opener addressed y ≡ true → Facts y []
  first_facts y opens =
      record {
        opened = opened_from addressed y.bytes (and_parts _ _ opens).1;
        joined_length = λ more. refl;
        last_number = λ many. absurd (omega (arith, many));
        last_is = λ many more. absurd (omega (arith, many));
      }

  -- the first element, and the others
  parts_of : (bytes : List ℕ) → 1 ≤ length bytes → bytes ≡ slice_index bytes 0 ∷ drop 1 bytes
  parts_of [] some = absurd (omega arith)
  parts_of (b ∷ bytes) some = refl

  drop_joined : (j l : List ℕ) → drop (length j) (j ++ l) ≡ l
  drop_joined [] l = refl
  drop_joined (x ∷ j) l = drop_joined j l

  -- a full packet carries its 7 bytes
  full_part : (left : ℕ) (bytes : List ℕ) → 7 ≤ left → length bytes ≤ 8 → part_of left bytes ≡ drop 1 bytes
  full_part left bytes full valid =
      let seven : min 7 left ≡ 7 = omega arith in
      rw seven (take_all 7 (drop 1 bytes) (omega (arith, length-drop 1 bytes)))

  -- where more than the next packet is to come, it is full
  is_full : (z : IsoPiece) (zs : List IsoPiece) → length (z ∷ zs) + 1 < need_of (opener_of z zs) → 7 ≤ left_of_run (z ∷ zs)
  is_full z zs more = omega (arith, more)

  -- the last packet, from what was joined
  last_by : (z : IsoPiece) (zs : List IsoPiece) (y : IsoPiece) → is_next (z ∷ zs) y ≡ true → length y.bytes ≤ 8 → part_of (left_of_run (z ∷ zs)) y.bytes ≡ drop 1 y.bytes → 8 ≤ length y.bytes
      → y.bytes ≡ last_packet (entry addressed y (z ∷ zs))
  last_by z zs y next valid last full =
      let n = next_facts z zs y next in
      let j = joined (size_of z zs) (z ∷ zs) in
      let whole : joined (size_of z zs) (y ∷ z ∷ zs) ≡ j ++ drop 1 y.bytes = ap (λ l. j ++ l) last in
      let cut : length (joined (size_of z zs) (y ∷ z ∷ zs)) - 7 ≡ length j = omega (arith, ap length whole, length-append j (drop 1 y.bytes), length-drop 1 y.bytes, full, valid) in
      let tail : drop (length (joined (size_of z zs) (y ∷ z ∷ zs)) - 7) (joined (size_of z zs) (y ∷ z ∷ zs)) ≡ drop 1 y.bytes =
      ap (λ i. drop i (joined (size_of z zs) (y ∷ z ∷ zs))) cut ∙ (ap (λ l. drop (length j) l) whole ∙ drop_joined j (drop 1 y.bytes)) in
      let head : length (y ∷ z ∷ zs) - 1 ≡ slice_index y.bytes 0 = omega (arith, n.number) in
      parts_of y.bytes (omega (arith, full)) ∙ (ap (λ b. b ∷ drop 1 y.bytes) (sym head) ∙ ap {B = List ℕ} (λ l. (length (y ∷ z ∷ zs) - 1) ∷ l) (sym tail))

  more_facts : (z : IsoPiece) (zs : List IsoPiece) (y : IsoPiece) → is_next (z ∷ zs) y ≡ true → length y.bytes ≤ 8 → Facts z zs → Facts y (z ∷ zs)
  more_facts z zs y next valid f =
      let n = next_facts z zs y next in
      let part_is : length (z ∷ zs) + 1 < need_of (opener_of z zs) → part_of (left_of_run (z ∷ zs)) y.bytes ≡ drop 1 y.bytes =
      λ more. full_part (left_of_run (z ∷ zs)) y.bytes (is_full z zs more) valid in
      record {
        opened = f.opened;
        joined_length = λ more.
            let before = f.joined_length n.fewer in
            let most : length (z ∷ zs) + 1 < need_of (opener_of z zs) = omega (arith, more) in
            let last = part_is most in
            let full = is_full z zs most in
            omega (arith, before, length-append (joined (size_of z zs) (z ∷ zs)) (part_of (left_of_run (z ∷ zs)) y.bytes), ap length last, length-drop 1 y.bytes, full, n.enough, valid);
        last_number = λ many. omega (arith, n.number);
        last_is = λ many more.
            let most : length (z ∷ zs) + 1 < need_of (opener_of z zs) = omega (arith, more) in
            let full = is_full z zs most in
            last_by z zs y next valid (part_is most) (omega (arith, n.enough, full));
      }

  pub facts_of : (y : IsoPiece) (ys : List IsoPiece) → IsSoFar (y ∷ ys) → Facts y ys
  facts_of y [] so_far = first_facts y so_far
  facts_of y (z ∷ zs) so_far = more_facts z zs y so_far.0 so_far.1 (facts_of z zs so_far.2)

  inside : {X : Type 0} (a b : X) → Some a ≡ Some b → a ≡ b
  inside a b same = cc

  -- what was accepted of a prefix is a prefix with no repeat
  so_far_more : (x : IsoPiece) (a acc : List IsoPiece) (t n r : Bool) → length x.bytes ≤ 8 → IsSoFar a → in_time (iso_rules addressed) a x.moment ≡ t → is_next a x ≡ n → is_repeat a x ≡ r → accepted_more (iso_rules addressed) a x ≡ Some acc → IsSoFar acc
  so_far_more x a acc false n r valid so_far et en er is = let none : None ≡ Some acc = simp et at is in cc
  so_far_more x a acc true false false valid so_far et en er is = let none : None ≡ Some acc = simp (et, en, er) at is in cc
  so_far_more x a acc true false true valid so_far et en er is = let same : Some a ≡ Some acc = simp (et, en, er) at is in subst IsSoFar (inside a acc same) so_far
  so_far_more x [] acc true true r valid so_far et en er is = absurd so_far
  so_far_more x (y ∷ ys) acc true true r valid so_far et en er is =
      let same : Some (x ∷ y ∷ ys) ≡ Some acc = simp (et, en) at is in
      subst IsSoFar (inside (x ∷ y ∷ ys) acc same) (en, valid, so_far)

  first_so_far : (x : IsoPiece) (acc : List IsoPiece) (b : Bool) → is_opener addressed x ≡ b → accepted (iso_rules addressed) (x ∷ []) ≡ Some acc → IsSoFar acc
  first_so_far x acc true opens is = let same : Some (x ∷ []) ≡ Some acc = simp opens at is in subst IsSoFar (inside (x ∷ []) acc same) opens
  first_so_far x acc false opens is = let none : None ≡ Some acc = simp opens at is in cc

  so_far_by : (x y : IsoPiece) (ys acc : List IsoPiece) (o : Option (List IsoPiece)) → length x.bytes ≤ 8 → accepted (iso_rules addressed) (y ∷ ys) ≡ o → accepted_after (iso_rules addressed) o x ≡ Some acc
      → ((a : List IsoPiece) → accepted (iso_rules addressed) (y ∷ ys) ≡ Some a → IsSoFar a) → IsSoFar acc
  so_far_by x y ys acc None valid was is before = let none : None ≡ Some acc = is in cc
  so_far_by x y ys acc (Some a) valid was is before = so_far_more x a acc _ _ _ valid (before a was) refl refl refl is

  pub so_far : (p acc : List IsoPiece) → IsTrace addressed p → accepted (iso_rules addressed) p ≡ Some acc → IsSoFar acc
  so_far [] acc valid is = cc
  so_far (x ∷ []) acc valid is = first_so_far x acc _ refl is
  so_far (x ∷ y ∷ ys) acc valid is = so_far_by x y ys acc _ valid.0.valid refl is (λ a was. so_far (y ∷ ys) a valid.1 was)

  -- a prefix has no more frames than its message
  pub within : (y : IsoPiece) (ys : List IsoPiece) → IsSoFar (y ∷ ys) → length (y ∷ ys) ≤ need_of (opener_of y ys)
  within y [] far = omega arith
  within y (z ∷ zs) far = let n = next_facts z zs y far.0 in omega (arith, n.fewer)
