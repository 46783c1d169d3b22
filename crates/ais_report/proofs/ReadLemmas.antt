-- What is read of the bits of a valid report is that report.
use Rattle.std.proofs.Common.{◌≡◌, ℕ, zero, suc, ◌+◌, ◌-◌, ◌*◌, ◌^◌, ◌<◌, ◌≤◌, Bool, true, false, ◌==◌, nat_eq, nat_lt, List, [], ◌∷◌, ◌++◌, length, take, drop, refl, sym, ap, subst, ◌∙◌, arith}
use Rattle.std.specs.Prelude.{ℤ, pos, negsuc, ◌-ℤ◌, ◌≤ℤ◌, if◌then◌else◌}
use Rattle.std.specs.Cmp.Lexicographic.{pointwise}
use Rattle.std.specs.List.{flat_map}
use Rattle.std.proofs.lemmas.Int.{ints}
use Rattle.std.proofs.lemmas.Nat.{pow_pos}
use Rattle.ais_report.specs.declared.report.AisReport.{AisReport}
use Rattle.ais_report.specs.declared.field.Field.{Field}
use Rattle.ais_report.specs.Bits.{bit, bits_of, number_of}
use Rattle.ais_report.specs.Fields.{Fits, IsReport, ais_bits, field_bits, fields, flag, pattern_of, signed, unsigned}
use Rattle.ais_report.specs.Armour.{armour_of}
use Rattle.ais_report.specs.Read.{number_at, report_from, signed_at, signed_from, text_bits}
use Rattle.ais_report.proofs.BitLemmas.{drop_bits, number_of_bits, take_bits}
use Rattle.ais_report.proofs.SixLemmas.{text_again}

-- ---- any row of any table

abbrev total : List Field → ℕ
total [] = 0
total (f ∷ fs) = f.width + total fs

reads : (before : List Field) (f : Field) (after : List Field) → pattern_of f.width f.value < 2 ^ f.width
    → number_at (flat_map field_bits (before ++ f ∷ after)) (total before) f.width ≡ pattern_of f.width f.value
reads [] f after below =
    ap number_of (take_bits f.width (pattern_of f.width f.value) (flat_map field_bits after)) ∙ number_of_bits f.width (pattern_of f.width f.value) below
reads (g ∷ before) f after below =
    ap (λ bs. number_of (take f.width bs))
    (drop_bits g.width (total before) (pattern_of g.width g.value) (flat_map field_bits (before ++ f ∷ after)))
    ∙ reads before f after below

at_place : (fs before : List Field) (f : Field) (after : List Field) (place : ℕ) → fs ≡ before ++ f ∷ after → place ≡ total before
    → pattern_of f.width f.value < 2 ^ f.width → number_at (flat_map field_bits fs) place f.width ≡ pattern_of f.width f.value
at_place fs before f after place e p below = rw (e, p) (reads before f after below)

-- ---- values that fit

unsigned_below : (w n : ℕ) → Fits (unsigned w n) → n < 2 ^ w
unsigned_below w n fits = omega (arith, ints, pow_pos w, fits.1)

-- a signed field of one bit more than w
record IsBetween (w : ℕ) (v : ℤ) : Type 0 where
  pub low : (pos 0 -ℤ pos (2 ^ w)) ≤ℤ v
  pub high : v ≤ℤ (pos (2 ^ w) -ℤ pos 1)
  pub some : 0 < 2 ^ w
  pub twice : 2 ^ suc w ≡ 2 * 2 ^ w

between : (w : ℕ) (v : ℤ) → Fits (signed (suc w) v) → IsBetween w v
between w v fits = let one_less : suc w - 1 ≡ w = omega arith in record {
  low = subst (λ (k : ℕ). (pos 0 -ℤ pos (2 ^ k)) ≤ℤ v) one_less fits.0;
  high = subst (λ (k : ℕ). v ≤ℤ (pos (2 ^ k) -ℤ pos 1)) one_less fits.1;
  some = pow_pos w;
  twice = grind arith;
}

signed_below : (w : ℕ) (v : ℤ) → Fits (signed (suc w) v) → pattern_of (suc w) v < 2 ^ suc w
signed_below w (pos n) fits = let b = between w (pos n) fits in let e = b.twice in let s = b.some in let h = b.high in omega (arith, ints, e, s, h)
signed_below w (negsuc n) fits = let b = between w (negsuc n) fits in let e = b.twice in let s = b.some in let l = b.low in omega (arith, ints, e, s, l)

from_positive : (n p q : ℕ) → n < p → (if nat_lt n p then pos n else pos n -ℤ pos q) ≡ pos n
from_positive n p q less = let is : nat_lt n p ≡ true = grind (arith, less) in rw is refl

from_negative : (n p q : ℕ) → q ≡ 2 * p → suc n ≤ p → (if nat_lt (q - suc n) p then pos (q - suc n) else pos (q - suc n) -ℤ pos q) ≡ negsuc n
from_negative n p q twice less =
    let is : nat_lt (q - suc n) p ≡ false = grind (arith, twice, less) in
    let value : pos (q - suc n) -ℤ pos q ≡ negsuc n = omega (arith, ints, twice, less) in
    rw is value

signed_by_half : (w : ℕ) (v : ℤ) → IsBetween w v
    → (if nat_lt (pattern_of (suc w) v) (2 ^ w) then pos (pattern_of (suc w) v) else pos (pattern_of (suc w) v) -ℤ pos (2 ^ suc w)) ≡ v
signed_by_half w (pos n) b = let h = b.high in let s = b.some in from_positive n (2 ^ w) (2 ^ suc w) (omega (arith, ints, h, s))
signed_by_half w (negsuc n) b = let l = b.low in from_negative n (2 ^ w) (2 ^ suc w) b.twice (omega (arith, ints, l))

signed_again : (w : ℕ) (v : ℤ) → Fits (signed (suc w) v) → signed_from (suc w) (pattern_of (suc w) v) ≡ v
signed_again w v fits =
    let one_less : w ≡ suc w - 1 = omega arith in
    subst
    (λ (k : ℕ). (if nat_lt (pattern_of (suc w) v) (2 ^ k) then pos (pattern_of (suc w) v) else pos (pattern_of (suc w) v) -ℤ pos (2 ^ suc w)) ≡ v)
    one_less (signed_by_half w v (between w v fits))

flag_again : (b : Bool) → (bit b == 1) ≡ b
flag_again true = refl
flag_again false = refl

-- ---- the rows of a report

module _ (r : AisReport) (before : List Field) (after : List Field) (place : ℕ) (p : place ≡ total before) where
  unsigned_row : (w n : ℕ) → fields r ≡ before ++ unsigned w n ∷ after → Fits (unsigned w n) → number_at (flat_map field_bits (fields r)) place w ≡ n
  unsigned_row w n e fits = at_place (fields r) before (unsigned w n) after place e p (unsigned_below w n fits)

  flag_row : (b : Bool) → fields r ≡ before ++ flag b ∷ after → Fits (flag b) → (number_at (flat_map field_bits (fields r)) place 1 == 1) ≡ b
  flag_row b e fits = ap (λ n. n == 1) (unsigned_row 1 (bit b) e fits) ∙ flag_again b

  signed_row : (w : ℕ) (v : ℤ) → fields r ≡ before ++ signed (suc w) v ∷ after → Fits (signed (suc w) v) → signed_at (flat_map field_bits (fields r)) place (suc w) ≡ v
  signed_row w v e fits =
      ap (signed_from (suc w)) (at_place (fields r) before (signed (suc w) v) after place e p (signed_below w v fits)) ∙ signed_again w v fits

pub same_report : (r : AisReport) (kind repeat mmsi status sog : ℕ) (accuracy : Bool) (longitude latitude : ℤ) (cog heading second manoeuvre : ℕ) (raim : Bool)
    (radio : ℕ) → kind ≡ r.kind → repeat ≡ r.repeat → mmsi ≡ r.mmsi → status ≡ r.status → sog ≡ r.sog → accuracy ≡ r.accuracy
    → longitude ≡ r.longitude → latitude ≡ r.latitude → cog ≡ r.cog → heading ≡ r.heading → second ≡ r.second → manoeuvre ≡ r.manoeuvre
    → raim ≡ r.raim → radio ≡ r.radio → record {
      kind = kind;
      repeat = repeat;
      mmsi = mmsi;
      status = status;
      sog = sog;
      accuracy = accuracy;
      longitude = longitude;
      latitude = latitude;
      cog = cog;
      heading = heading;
      second = second;
      manoeuvre = manoeuvre;
      raim = raim;
      radio = radio;
    } ≡ r
same_report r kind repeat mmsi status sog accuracy longitude latitude cog heading second manoeuvre raim radio a b c d e f g h i j k l m n =
    rw (a, b, c, d, e, f, g, h, i, j, k, l, m, n) refl

pub bits_read_again : (r : AisReport) → IsReport r → report_from (ais_bits r) ≡ r
unfolding ais_bits report_from
bits_read_again r valid = let fs = fields r in let fits = valid.fits in
    same_report r
    _ _ _ _ _ _ _ _ _ _ _ _ _ _
    (unsigned_row r (take 0 fs) (drop 1 fs) 0 refl 6 r.kind refl (fits.0))
    (unsigned_row r (take 1 fs) (drop 2 fs) 6 refl 2 r.repeat refl (fits.1.0))
    (unsigned_row r (take 2 fs) (drop 3 fs) 8 refl 30 r.mmsi refl (fits.1.1.0))
    (unsigned_row r (take 3 fs) (drop 4 fs) 38 refl 4 r.status refl (fits.1.1.1.0))
    (unsigned_row r (take 5 fs) (drop 6 fs) 50 refl 10 r.sog refl (fits.1.1.1.1.1.0))
    (flag_row r (take 6 fs) (drop 7 fs) 60 refl r.accuracy refl (fits.1.1.1.1.1.1.0))
    (signed_row r (take 7 fs) (drop 8 fs) 61 refl 27 r.longitude refl (fits.1.1.1.1.1.1.1.0))
    (signed_row r (take 8 fs) (drop 9 fs) 89 refl 26 r.latitude refl (fits.1.1.1.1.1.1.1.1.0))
    (unsigned_row r (take 9 fs) (drop 10 fs) 116 refl 12 r.cog refl (fits.1.1.1.1.1.1.1.1.1.0))
    (unsigned_row r (take 10 fs) (drop 11 fs) 128 refl 9 r.heading refl (fits.1.1.1.1.1.1.1.1.1.1.0))
    (unsigned_row r (take 11 fs) (drop 12 fs) 137 refl 6 r.second refl (fits.1.1.1.1.1.1.1.1.1.1.1.0))
    (unsigned_row r (take 12 fs) (drop 13 fs) 143 refl 2 r.manoeuvre refl (fits.1.1.1.1.1.1.1.1.1.1.1.1.0))
    (flag_row r (take 14 fs) (drop 15 fs) 148 refl r.raim refl (fits.1.1.1.1.1.1.1.1.1.1.1.1.1.1.0))
    (unsigned_row r (take 15 fs) (drop 16 fs) 149 refl 19 r.radio refl (fits.1.1.1.1.1.1.1.1.1.1.1.1.1.1.1.0))

pub length_report : (r : AisReport) → length (ais_bits r) ≡ 168
unfolding ais_bits
length_report r = refl

pub report_read_again : (r : AisReport) (text : List ℕ) → IsReport r → armour_of r ≡ text → report_from (text_bits text) ≡ r
unfolding armour_of
report_read_again r text valid e =
    ap (λ t. report_from (text_bits t)) (sym e) ∙ (ap report_from (text_again 28 (ais_bits r) (length_report r)) ∙ bits_read_again r valid)

pub length_armour : (r : AisReport) (text : List ℕ) → armour_of r ≡ text → length text ≡ 28
unfolding armour_of ais_bits
length_armour r text e = ap length (sym e)

pub same_list : (xs : List ℕ) → pointwise nat_eq xs xs ≡ true
same_list [] = refl
same_list (x ∷ xs) = let is : nat_eq x x ≡ true = grind arith in rw is (same_list xs)
