-- What a front whose bytes are each one of its place says of a line of fifty bytes.
use Rattle.std.proofs.Common.{◌≡◌, ℕ, ◌+◌, ◌-◌, ◌<◌, ◌≤◌, Bool, true, false, T, ◌&&◌, eq-zero-or-pos, List, length, get_or, take, drop, sym, ap, ◌∙◌, le_antisymm, arith, inl, inr}
use Rattle.std.specs.Prelude.{codes, not, nat_le, slice_index}
use Rattle.std.specs.Char.{is_ascii_digit, is_ascii_graphic, is_ascii_hexdigit}
use Rattle.std.specs.List.{list_all}
use Rattle.std.proofs.lemmas.Bool.{and_from, and_parts, le-leb, leb-true, not-true}
use Rattle.std.proofs.lemmas.List.{get_or-drop, get_or-take, get_or_default, length-drop, length-take}
use Rattle.std.proofs.lemmas.List.Sums.{AllPass-from_list_all, list_all-from_AllPass}
use Rattle.sentence_text.proofs.Classes.{are_same, same_below}
use Rattle.capture_text.specs.declared.usual.TheConstants.{GREATEST, LEAST}
use Rattle.capture_text.specs.Reading.{HasBusOfFour, HasUsualTime, is_name}
use Rattle.capture_text.specs.Usual.{IsFront, IsFrontTo, has_no_controls}
use Rattle.capture_text.proofs.Lines.{four_first}

-- ---- the loop

pub front_starts : (front : List ℕ) → IsFrontTo 0 front
front_starts front k below = absurd (omega (arith, below))

pub front_more : (front : List ℕ) (i : ℕ) → IsFrontTo i front → slice_index LEAST i ≤ slice_index front i → slice_index front i ≤ slice_index GREATEST i → IsFrontTo (i + 1) front
front_more front i so_far low high k below =
    elim (eq-zero-or-pos (i - k)) [
      | inl last ↦ let e : k ≡ i = omega (arith, below, last) in rw e (low, high)
      | inr before ↦ so_far k (omega (arith, before))
    ]

-- ---- the places

-- of so many places from one on, each has this least and this greatest byte
abbrev have_range : ℕ → ℕ → ℕ → ℕ → Bool
have_range from low high count = are_same (λ j. nat_le low (slice_index LEAST (from + j)) && nat_le (slice_index GREATEST (from + j)) high) (λ j. true) count

module _ (line : List ℕ) (long : length line ≡ 50) (is : IsFront (take 48 line)) where
  at : (k : ℕ) → k < 48 → (slice_index LEAST k ≤ slice_index line k) × (slice_index line k ≤ slice_index GREATEST k)
  at k below = let same : slice_index (take 48 line) k ≡ slice_index line k = get_or-take 48 line k 0 below in let both = is k below in (omega (arith, both.0, same), omega (arith, both.1, same))

  within : (from low high count k : ℕ) → from + count ≤ 48 → T (have_range from low high count) → k < count → (low ≤ slice_index line (from + k)) × (slice_index line (from + k) ≤ high)
  within from low high count k fits all below =
      let range : (nat_le low (slice_index LEAST (from + k)) ≡ true) × (nat_le (slice_index GREATEST (from + k)) high ≡ true) = and_parts _ _ (same_below (λ j. nat_le low (slice_index LEAST (from + j)) && nat_le (slice_index GREATEST (from + j)) high) (λ j. true) count k all below) in
      let both = at (from + k) (omega (arith, fits, below)) in
      (omega (arith, both.0, leb-true low (slice_index LEAST (from + k)) range.0), omega (arith, both.1, leb-true (slice_index GREATEST (from + k)) high range.1))

  pass : (p : ℕ → Bool) (from low high count : ℕ) → from + count ≤ 48 → T (have_range from low high count) → ((c : ℕ) → low ≤ c → c ≤ high → p c ≡ true)
      → list_all p (take count (drop from line)) ≡ true
  pass p from low high count fits all passes =
      list_all-from_AllPass p (take count (drop from line)) (λ k d lt.
      let below : k < count = omega (arith, length-take count (drop from line), lt) in
      let there : k < length (drop from line) = omega (arith, length-take count (drop from line), lt) in
      let same : get_or (take count (drop from line)) k d ≡ slice_index line (from + k) =
      get_or-take count (drop from line) k d below ∙ get_or_default (drop from line) k d 0 there ∙ get_or-drop from line k 0 in
      let both = within from low high count k fits all below in
      ap p same ∙ passes (slice_index line (from + k)) both.0 both.1)

  byte : (k c : ℕ) → k < 48 → T (have_range k c c 1) → slice_index line k ≡ c
  byte k c below all = let both = within k c c 1 0 (omega (arith, below)) all (omega arith) in let place : k + 0 ≡ k = omega arith in ap (λ n. slice_index line n) (sym place) ∙ le_antisymm both.1 both.0

  digit_is : (c : ℕ) → 48 ≤ c → c ≤ 57 → is_ascii_digit c ≡ true
  digit_is c low high = and_from _ _ (le-leb 48 c low) (le-leb c 57 high)

  graphic_is : (c : ℕ) → 33 ≤ c → c ≤ 126 → is_ascii_graphic c ≡ true
  graphic_is c low high = and_from _ _ (le-leb 33 c low) (le-leb c 126 high)

  no_control_is : (c : ℕ) → 32 ≤ c → c ≤ 126 → nat_le 32 c ≡ true
  no_control_is c low high = le-leb 32 c low

  pub front_time : HasUsualTime line
  front_time = (
    omega (arith, long),
    (byte 0 40 (omega arith) tt, byte 11 46 (omega arith) tt, byte 18 41 (omega arith) tt, byte 19 32 (omega arith) tt),
    (pass is_ascii_digit 1 48 57 10 (omega arith) tt digit_is, pass is_ascii_digit 12 48 57 6 (omega arith) tt digit_is),
  )

  pub front_bus : not (is_name (codes "tick") (take 4 (drop 20 line))) && not (is_name (codes "udp0") (take 4 (drop 20 line))) ≡ true → HasBusOfFour (drop 20 line)
  front_bus names =
      let space : slice_index (drop 20 line) 4 ≡ 32 = get_or-drop 20 line 4 0 ∙ byte 24 32 (omega arith) tt in
      let others = and_parts _ _ names in
      ((four_first (drop 20 line) space (pass is_ascii_graphic 20 33 126 4 (omega arith) tt graphic_is)).1, space, not-true _ others.0, not-true _ others.1)

  pub front_mark : slice_index line 33 ≡ 35
  front_mark = byte 33 35 (omega arith) tt

  pub front_no_controls : has_no_controls (take 48 line) ≡ true
  front_no_controls = pass (λ c. nat_le 32 c) 0 32 126 48 (omega arith) tt no_control_is

-- ---- the whole line

digit_is_no_control : (c : ℕ) → is_ascii_hexdigit c ≡ true → nat_le 32 c ≡ true
digit_is_no_control c is =
    elim (eq-zero-or-pos (32 - c)) [
      | inl high ↦ le-leb 32 c (omega (arith, high))
      | inr low ↦ absurd (let wrong : true ≡ false = sym is ∙ same_below is_ascii_hexdigit (λ j. false) 32 c tt (omega (arith, low)) in cc)
    ]

pub whole_no_controls : (line : List ℕ) → length line ≡ 50 → has_no_controls (take 48 line) ≡ true → list_all is_ascii_hexdigit (drop 34 line) ≡ true → has_no_controls line ≡ true
whole_no_controls line long front digits =
    list_all-from_AllPass (λ c. nat_le 32 c) line (λ k d lt.
    elim (eq-zero-or-pos (48 - k)) [
      | inr more ↦ let before : k < 48 = omega (arith, more) in ap (λ c. nat_le 32 c) (sym (get_or-take 48 line k d before)) ∙ AllPass-from_list_all (λ c. nat_le 32 c) (take 48 line) front k d (omega (arith, length-take 48 line, long, before))
      | inl behind ↦ let place : 34 + (k - 34) ≡ k = omega (arith, behind) in
          digit_is_no_control (get_or line k d)
          (ap (λ n. is_ascii_hexdigit (get_or line n d)) (sym place) ∙ ap is_ascii_hexdigit (sym (get_or-drop 34 line (k - 34) d))
          ∙ AllPass-from_list_all is_ascii_hexdigit (drop 34 line) digits (k - 34) d (omega (arith, length-drop 34 line, long, lt, behind)))
    ])
