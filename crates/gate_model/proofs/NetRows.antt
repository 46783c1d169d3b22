-- Sources and their places among those that are listed, rows and their numbers.
use Rattle.std.proofs.Common.{◌≡◌, ℕ, zero, suc, ◌+◌, ◌<◌, Bool, true, false, cond, not, nat_lt, List, [], ◌∷◌, ◌⊎◌, inl, inr, map, get_or, length, refl, sym, ap, subst, ◌∙◌, arith}
use Rattle.std.specs.Prelude.{Some, None, position}
use Rattle.std.specs.List.{position_or_len}
use Rattle.std.proofs.lemmas.Bool.{ltb-true, false≢true}
use Rattle.readings.specs.declared.rows.Row.{Row}
use Rattle.readings.specs.declared.rows.Row.TheVariants as row
use Rattle.pgn_profile.specs.Profiled.{pgn_of, messages}
use Rattle.source_choice.specs.Choices.{nothing}
use Rattle.readings.specs.Rows.{row_number}
use Rattle.history.specs.Settings.{Settings, rule_at, rule_of, same_text}
use Rattle.history.specs.Heard.{place_of}
use Rattle.history.specs.NetReadings.{is_fast_row}
use Rattle.history.proofs.GroupCounts.{text_is}
use Rattle.gate_model.specs.Net.{row_at, row_numbers, timeouts, no_readings, sequence_at}

-- ---- sources and their places among those that are listed

found_at : (a : List ℕ) (xs : List (List ℕ)) (i : ℕ) → position (same_text a) xs ≡ Some i → (position_or_len (same_text a) xs ≡ i) × (i < length xs)
found_at a xs i e = by (nat_lt (position_or_len (same_text a) xs) (length xs)) refl e
  where
    by : (t : Bool) → nat_lt (position_or_len (same_text a) xs) (length xs) ≡ t → cond t (Some (position_or_len (same_text a) xs)) None ≡ Some i
        → (position_or_len (same_text a) xs ≡ i) × (i < length xs)
    by true l f =
        let same : position_or_len (same_text a) xs ≡ i = cc in
        (same, subst (λ (j : ℕ). j < length xs) same (ltb-true (position_or_len (same_text a) xs) (length xs) l))
    by false l f = cc

same_place : (a b : List ℕ) (xs : List (List ℕ)) → position_or_len (same_text a) xs < length xs → position_or_len (same_text a) xs ≡ position_or_len (same_text b) xs → a ≡ b
same_place a b [] l e = absurd (omega (arith, l))
same_place a b (x ∷ xs) l e = by (same_text a x) refl (same_text b x) refl l e (λ m f. same_place a b xs m f)
  where
    by : (s : Bool) → same_text a x ≡ s → (t : Bool) → same_text b x ≡ t → cond (not s) (1 + position_or_len (same_text a) xs) 0 < length (x ∷ xs)
        → cond (not s) (1 + position_or_len (same_text a) xs) 0 ≡ cond (not t) (1 + position_or_len (same_text b) xs) 0
        → (position_or_len (same_text a) xs < length xs → position_or_len (same_text a) xs ≡ position_or_len (same_text b) xs → a ≡ b) → a ≡ b
    by true es true et m f rest = text_is a x es ∙ sym (text_is b x et)
    by true es false et m f rest = absurd (omega (arith, f))
    by false es true et m f rest = absurd (omega (arith, f))
    by false es false et m f rest = rest (omega (arith, m)) (omega (arith, f))

pub place_below : (c : Settings) (a : List ℕ) (i : ℕ) → place_of c a ≡ Some i → i < length c.net_sources
place_below c a i e = (found_at a c.net_sources i e).1

pub one_source : (c : Settings) (a b : List ℕ) (i : ℕ) → place_of c a ≡ Some i → place_of c b ≡ Some i → a ≡ b
one_source c a b i e f =
    let p = found_at a c.net_sources i e in
    let q = found_at b c.net_sources i f in
    same_place a b c.net_sources (omega (arith, p.0, p.1)) (p.0 ∙ sym q.0)

-- ---- rows

pub row_below : (r : Row) → row_number r < length row_numbers
row_below row.HeadingTrue = omega arith
row_below _ = omega arith

pub opened_at : (c : Settings) (r : Row) → row_at (no_readings c).choices r ≡ nothing (length c.net_sources) (rule_of c r).timeout
opened_at c row.HeadingTrue = refl
opened_at c _ = refl

-- ---- the numbers of the rows are those from 0 on

abbrev counts : ℕ → ℕ → List ℕ
counts from zero = []
counts from (suc many) = from ∷ counts (from + 1) many

counted_at : (f : ℕ → ℕ) (from many n : ℕ) → n < many → get_or (map f (counts from many)) n 0 ≡ f (from + n)
counted_at f from zero n l = absurd (omega (arith, l))
counted_at f from (suc many) zero l = let same : from ≡ from + 0 = omega arith in ap f same
counted_at f from (suc many) (suc n) l =
    let same : from + 1 + n ≡ from + suc n = omega arith in
    counted_at f (from + 1) many n (omega (arith, l)) ∙ ap f same

-- so each row's timeout is found by its number
pub timeout_at : (c : Settings) (n : ℕ) → n < length (timeouts c) → get_or (timeouts c) n 0 ≡ (rule_at c.rows n).timeout
timeout_at c n l =
    let same : 0 + n ≡ n = omega arith in
    counted_at (λ number. (rule_at c.rows number).timeout) 0 17 n l ∙ ap (λ number. (rule_at c.rows number).timeout) same

pub none_sent : (c : Settings) (r : Row) → sequence_at (no_readings c) r ≡ 0
none_sent c row.HeadingTrue = refl
none_sent c _ = refl

-- two rows go as fast packets, each with a PGN of its own
abbrev AreFast : Row → Type 0
AreFast r = ((row_number r ≡ 7) × (pgn_of r ≡ 128275)) ⊎ ((row_number r ≡ 10) × (pgn_of r ≡ 129029))

fast_rows : (r : Row) → is_fast_row r ≡ true → AreFast r
unfolding messages
fast_rows row.DistanceLog e = inl (refl, refl)
fast_rows row.Gnss e = inr (refl, refl)
fast_rows _ e = absurd (false≢true e)

pub by_number : (a b : Row) → is_fast_row a ≡ true → is_fast_row b ≡ true → row_number a ≡ row_number b → pgn_of a ≡ pgn_of b
by_number a b fa fb e = by (fast_rows a fa) (fast_rows b fb)
  where
    by : AreFast a → AreFast b → pgn_of a ≡ pgn_of b
    by (inl p) (inl q) = p.1 ∙ sym q.1
    by (inl p) (inr q) = absurd (omega (arith, e, p.0, q.0))
    by (inr p) (inl q) = absurd (omega (arith, e, p.0, q.0))
    by (inr p) (inr q) = p.1 ∙ sym q.1

pub by_pgn : (a b : Row) → is_fast_row a ≡ true → is_fast_row b ≡ true → pgn_of a ≡ pgn_of b → row_number a ≡ row_number b
by_pgn a b fa fb e = by (fast_rows a fa) (fast_rows b fb)
  where
    by : AreFast a → AreFast b → row_number a ≡ row_number b
    by (inl p) (inl q) = p.0 ∙ sym q.0
    by (inl p) (inr q) = absurd (omega (arith, e, p.1, q.1))
    by (inr p) (inl q) = absurd (omega (arith, e, p.1, q.1))
    by (inr p) (inr q) = p.0 ∙ sym q.0
