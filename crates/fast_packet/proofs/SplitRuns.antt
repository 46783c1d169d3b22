-- The frames of a message are a run.
use Rattle.std.specs.List.{AllByRecursion}
use Rattle.std.proofs.Math.Seq.{drop-cons, take-add}
use Rattle.std.proofs.lemmas.List.{take_min, take_all, map-append, reverse-append}
use Rattle.std.proofs.lemmas.Bool.{eq-eqb, le-leb, lt-ltb}
use Rattle.fast_packet.proofs.Counts.{need_is}
use Rattle.std.proofs.Common.{slice_index_or, add-one, length-drop, ◌≡◌, ℕ, zero, suc, ◌+◌, ◌-◌, ◌*◌, ◌/◌, ◌%◌, ◌<◌, ◌≤◌, ◌==◌, nat_le, nat_lt, min, true, List, [], ◌∷◌, ◌++◌, length, take, drop, map, reverse, Some, refl, sym, ◌∙◌, ap, arith}
use Rattle.slot_views.specs.Runs.{accepted, accepted_after, in_time, is_whole, opener_of}
use Rattle.fast_packet.specs.FastRuns.{longest, counter_of, sequence_of, length_of, need_of, left_after, is_opener, later_piece, FastPiece, is_next, fast_rules, joined, payload, filled, first_frame, later_frame, frames_to, frames_of}
use Rattle.fast_packet.specs.Laws.{pieces_of, IsRunOf}

-- a frame as a piece
abbrev piece : List ℕ → FastPiece
piece f = record { moment = 0; bytes = f; admitted = true }

-- the newest first
abbrev newest : ℕ → List ℕ → ℕ → List FastPiece
newest sequence p zero = piece (first_frame sequence p) ∷ []
newest sequence p (suc j) = piece (later_frame sequence p j) ∷ newest sequence p j

length-newest : (sequence : ℕ) (p : List ℕ) (j : ℕ) → length (newest sequence p j) ≡ j + 1
length-newest sequence p zero = refl
length-newest sequence p (suc j) = omega (arith, length-newest sequence p j)

-- the bytes of the message, as far as they go
take_filled : (p : List ℕ) (o m n : ℕ) → n ≤ m → n + o ≤ length p → take n (filled p o m) ≡ take n (drop o p)
take_filled p o m zero le within = refl
take_filled p o zero (suc n) le within = absurd (omega arith)
take_filled p o (suc m) (suc n) le within =
    rw (drop-cons p o 255 (omega arith)) (ap {B = List ℕ} (λ l. slice_index_or p o 255 ∷ l) (take_filled p (o + 1) m n (omega arith) (omega arith) ∙ ap (λ i. take n (drop i p)) (add-one o)))

length-filled : (p : List ℕ) (o m : ℕ) → length (filled p o m) ≡ m
length-filled p o zero = refl
length-filled p o (suc m) = omega (arith, length-filled p (o + 1) m)

all_append : {X : Type 0} (P : X → Type 0) (xs : List X) (x : X) → AllByRecursion P xs → P x → AllByRecursion P (xs ++ x ∷ [])
all_append P [] x all holds = (holds, tt)
all_append P (y ∷ xs) x all holds = (all.0, all_append P xs x all.1 holds)

module _ (sequence : ℕ) (p : List ℕ) where
  opener_newest : (x : FastPiece) (j : ℕ) → opener_of x (newest sequence p j) ≡ piece (first_frame sequence p)
  opener_newest x zero = refl
  opener_newest x (suc j) = opener_newest (piece (later_frame sequence p j)) j

  accepted_next : (x : FastPiece) (j : ℕ) → accepted fast_rules (x ∷ newest sequence p j) ≡ accepted_after fast_rules (accepted fast_rules (newest sequence p j)) x
  accepted_next x zero = refl
  accepted_next x (suc j) = refl

  joined_next : (len : ℕ) (x : FastPiece) (j : ℕ) → joined len (x ∷ newest sequence p j) ≡ joined len (newest sequence p j) ++ later_piece (left_after len (length (newest sequence p j))) x.bytes
  joined_next len x zero = refl
  joined_next len x (suc j) = refl

  in_time_newest : (j : ℕ) → in_time fast_rules (newest sequence p j) 0 ≡ true
  in_time_newest zero = refl
  in_time_newest (suc j) = refl

  -- the counter and the sequence of byte 0
  counter_is : (j : ℕ) → j < 32 → (32 * sequence + j) % 32 ≡ j
  counter_is j small = omega arith

  sequence_is : (j : ℕ) → j < 32 → (32 * sequence + j) / 32 ≡ sequence
  sequence_is j small = omega arith

  next_by : (y : FastPiece) (ys : List FastPiece) (j : ℕ) → j + 1 < need_of (length p) → need_of (length p) ≤ 32 → length (y ∷ ys) ≡ j + 1 → opener_of y ys ≡ piece (first_frame sequence p) → is_next (y ∷ ys) (piece (later_frame sequence p j)) ≡ true
  next_by y ys j more small count opener =
      let counter : (counter_of (later_frame sequence p j) == length (y ∷ ys)) ≡ true = eq-eqb _ _ (counter_is (j + 1) (omega arith) ∙ sym count) in
      let same : (sequence_of (later_frame sequence p j) == sequence_of (opener_of y ys).bytes) ≡ true = rw opener (eq-eqb _ _ (sequence_is (j + 1) (omega arith) ∙ sym (omega arith))) in
      let fewer : nat_lt (length (y ∷ ys)) (need_of (length_of (opener_of y ys).bytes)) ≡ true = rw opener (lt-ltb _ _ (omega arith)) in
      let enough : nat_le (1 + min 7 (left_after (length_of (opener_of y ys).bytes) (length (y ∷ ys)))) (length (later_frame sequence p j)) ≡ true = le-leb _ _ (omega arith) in
      simp (counter, same, fewer, enough)

  next_newest : (j : ℕ) → j + 1 < need_of (length p) → need_of (length p) ≤ 32 → is_next (newest sequence p j) (piece (later_frame sequence p j)) ≡ true
  next_newest zero more small = next_by (piece (first_frame sequence p)) [] zero more small refl refl
  next_newest (suc j) more small = next_by (piece (later_frame sequence p j)) (newest sequence p j) (suc j) more small (length-newest sequence p (suc j)) (opener_newest (piece (later_frame sequence p j)) j)

  opens_first : 1 ≤ length p → length p ≤ longest → is_opener (first_frame sequence p) ≡ true
  opens_first some fits =
      let counter : (counter_of (first_frame sequence p) == 0) ≡ true = eq-eqb _ _ (omega arith) in
      let least : nat_le 1 (length p) ≡ true = le-leb _ _ some in
      let most : nat_le (length p) longest ≡ true = le-leb _ _ fits in
      let enough : nat_le (2 + min 6 (length p)) (length (first_frame sequence p)) ≡ true = le-leb _ _ (omega arith) in
      simp (counter, least, most, enough)

  run_newest : (j : ℕ) → j + 1 ≤ need_of (length p) → need_of (length p) ≤ 32 → 1 ≤ length p → length p ≤ longest → accepted fast_rules (newest sequence p j) ≡ Some (newest sequence p j)
  run_newest zero more small some fits = simp (opens_first some fits)
  run_newest (suc j) more small some fits =
      accepted_next (piece (later_frame sequence p j)) j
      ∙ (ap (λ o. accepted_after fast_rules o (piece (later_frame sequence p j))) (run_newest j (omega arith) small some fits)
      ∙ simp (in_time_newest j, next_newest j (omega arith) small))

  whole_newest : (j : ℕ) → j + 1 ≡ need_of (length p) → is_whole fast_rules (newest sequence p j) ≡ true
  whole_newest zero same = eq-eqb _ _ same
  whole_newest (suc j) same = rw (opener_newest (piece (later_frame sequence p j)) j) (eq-eqb _ _ (length-newest sequence p (suc j) ∙ same))

  later_is : (j : ℕ) → j + 1 < need_of (length p) → later_piece (left_after (length p) (j + 1)) (later_frame sequence p j) ≡ take 7 (drop (6 + 7 * j) p)
  later_is j more =
      let need = need_is (length p) in
      let left : left_after (length p) (j + 1) ≡ length (drop (6 + 7 * j) p) = omega (arith, length-drop (6 + 7 * j) p) in
      take_filled p (6 + 7 * j) 7 (min 7 (left_after (length p) (j + 1))) (omega arith) (omega arith)
      ∙ (ap (λ n. take (min 7 n) (drop (6 + 7 * j) p)) left ∙ take_min 7 (drop (6 + 7 * j) p))

  joined_newest : (j : ℕ) → j + 1 ≤ need_of (length p) → joined (length p) (newest sequence p j) ≡ take (6 + 7 * j) p
  joined_newest zero more = take_filled p 0 6 (min 6 (length p)) (omega arith) (omega arith) ∙ take_min 6 p
  joined_newest (suc j) more =
      let last : later_piece (left_after (length p) (length (newest sequence p j))) (later_frame sequence p j) ≡ take 7 (drop (6 + 7 * j) p) = rw (length-newest sequence p j) (later_is j (omega arith)) in
      let reach : (6 + 7 * j) + 7 ≡ 6 + 7 * suc j = omega arith in
      joined_next (length p) (piece (later_frame sequence p j)) j
      ∙ (ap (λ l. l ++ later_piece (left_after (length p) (length (newest sequence p j))) (later_frame sequence p j)) (joined_newest j (omega arith))
      ∙ (ap (λ l. take (6 + 7 * j) p ++ l) last ∙ (sym (take-add (6 + 7 * j) 7 p) ∙ ap (λ n. take n p) reach)))

  payload_newest : (j : ℕ) → payload (newest sequence p j) ≡ joined (length p) (newest sequence p j)
  payload_newest zero = refl
  payload_newest (suc j) = ap (λ (x : FastPiece). joined (length_of x.bytes) (newest sequence p (suc j))) (opener_newest (piece (later_frame sequence p j)) j)

  -- the frames, the newest first
  pieces_are : (j : ℕ) → pieces_of (frames_to sequence p j) ≡ newest sequence p j
  unfolding frames_to
  pieces_are zero = refl
  pieces_are (suc j) =
      ap reverse (map-append piece (frames_to sequence p j) (later_frame sequence p j ∷ []))
      ∙ (reverse-append (map piece (frames_to sequence p j)) (piece (later_frame sequence p j) ∷ []) ∙ ap {B = List FastPiece} (λ l. piece (later_frame sequence p j) ∷ l) (pieces_are j))

  each_frame : (j : ℕ) → j < 32 → AllByRecursion (λ f. (sequence_of f ≡ sequence) × (length f ≡ 8)) (frames_to sequence p j)
  unfolding frames_to
  each_frame zero small = ((omega arith, refl), tt)
  each_frame (suc j) small = all_append (λ f. (sequence_of f ≡ sequence) × (length f ≡ 8)) (frames_to sequence p j) (later_frame sequence p j) (each_frame j (omega arith)) (sequence_is (j + 1) (omega arith), refl)

  pub split_runs : sequence ≤ 7 → 1 ≤ length p → length p ≤ longest → IsRunOf sequence p (frames_of sequence p)
  split_runs low some fits =
      let need = need_is (length p) in
      let small : need_of (length p) ≤ 32 = omega arith in
      let j = need_of (length p) - 1 in
      let last : j + 1 ≡ need_of (length p) = omega arith in
      let are = pieces_are j in
      record {
        run = rw are (run_newest j (omega arith) small some fits);
        whole = rw are (whole_newest j last);
        carries = rw are (payload_newest j ∙ (joined_newest j (omega arith) ∙ take_all (6 + 7 * j) p (omega arith)));
        sequence_is = each_frame j (omega arith);
      }
