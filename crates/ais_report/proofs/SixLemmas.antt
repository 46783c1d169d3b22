-- A character stands for six bits, and a text for the bits of its characters.
use Rattle.std.proofs.Common.{◌≡◌, ℕ, zero, suc, ◌+◌, ◌*◌, ◌/◌, ◌%◌, ◌^◌, ◌<◌, ◌≤◌, Bool, true, false, ◌==◌, List, [], ◌∷◌, ◌++◌, length, take, drop, refl, sym, ap, subst, ◌∙◌, append_assoc, drop-drop, length-drop, flat_map, arith}
use Rattle.std.specs.Int.{bit_at}
use Rattle.std.proofs.lemmas.Nat.{div-mul-add}
use Rattle.ais_report.specs.Bits.{bits_of, bit, number_after, number_of}
use Rattle.ais_report.specs.Armour.{character, characters}
use Rattle.ais_report.specs.Read.{number_in, bits_of_character, text_bits}

-- ---- bits of the number that bits make

behind_first : (x b k n : ℕ) → (2 * x + b) * 2 ^ k + n ≡ x * 2 ^ suc k + ((2 * 0 + b) * 2 ^ k + n)
behind_first x b k n = grind arith

number_behind : (x : ℕ) (bs : List Bool) → number_after x bs ≡ x * 2 ^ length bs + number_after 0 bs
number_behind x [] = omega arith
number_behind x (b ∷ bs) =
    number_behind (2 * x + bit b) bs
    ∙ (behind_first x (bit b) (length bs) (number_after 0 bs) ∙ ap (λ n. x * 2 ^ suc (length bs) + n) (sym (number_behind (2 * 0 + bit b) bs)))

number_below : (bs : List Bool) → number_of bs < 2 ^ length bs
number_below [] = omega arith
number_below (true ∷ bs) = grind (arith, number_behind 1 bs, number_below bs)
number_below (false ∷ bs) = grind (arith, number_below bs)

last_of : (x : ℕ) (b : Bool) → ((2 * x + bit b) % 2 == 1) ≡ b
last_of x true = grind arith
last_of x false = grind arith

first_of_all : (x : ℕ) (b : Bool) (bs : List Bool) → (bit_at (number_after (2 * x + bit b) bs) (length bs) == 1) ≡ b
first_of_all x b bs =
    rw (number_behind (2 * x + bit b) bs, div-mul-add (2 * x + bit b) (2 ^ length bs) (number_of bs) (number_below bs)) (last_of x b)

bits_again : (x : ℕ) (bs : List Bool) → bits_of (length bs) (number_after x bs) ≡ bs
bits_again x [] = refl
bits_again x (b ∷ bs) = rw (first_of_all x b bs, bits_again (2 * x + bit b) bs) refl

-- ---- a character

number_again : (n : ℕ) → n < 64 → number_in (character n) ≡ n
number_again n below = grind arith

six_again : (bs : List Bool) → length bs ≡ 6 → bits_of_character (character (number_of bs)) ≡ bs
six_again bs six =
    let below : number_of bs < 64 = subst (λ (n : ℕ). number_of bs < 2 ^ n) six (number_below bs) in
    ap (λ n. bits_of 6 n) (number_again (number_of bs) below) ∙ subst (λ (k : ℕ). bits_of k (number_of bs) ≡ bs) six (bits_again 0 bs)

-- ---- a text

pub text_again : (k : ℕ) (bs : List Bool) → length bs ≡ 6 * k → text_bits (characters bs) ≡ bs
unfolding text_bits
text_again zero [] e = refl
text_again zero (a ∷ bs) e = absurd (omega (arith, e))
text_again (suc k) [] e = absurd (omega (arith, e))
text_again (suc k) (a ∷ []) e = absurd (omega (arith, e))
text_again (suc k) (a ∷ b ∷ []) e = absurd (omega (arith, e))
text_again (suc k) (a ∷ b ∷ c ∷ []) e = absurd (omega (arith, e))
text_again (suc k) (a ∷ b ∷ c ∷ d ∷ []) e = absurd (omega (arith, e))
text_again (suc k) (a ∷ b ∷ c ∷ d ∷ f ∷ []) e = absurd (omega (arith, e))
text_again (suc k) (a ∷ b ∷ c ∷ d ∷ f ∷ g ∷ bs) e =
    ap (λ front. front ++ text_bits (characters bs)) (six_again (a ∷ b ∷ c ∷ d ∷ f ∷ g ∷ []) refl)
    ∙ ap (λ rest. a ∷ b ∷ c ∷ d ∷ f ∷ g ∷ rest) (text_again k bs (omega (arith, e)))

-- ---- six after six

pub next_six : (bs : List Bool) → 6 ≤ length bs → characters bs ≡ character (number_of (take 6 bs)) ∷ characters (drop 6 bs)
next_six (a ∷ b ∷ c ∷ d ∷ e ∷ f ∷ rest) le = refl
next_six [] le = absurd (omega (arith, le))
next_six (a ∷ []) le = absurd (omega (arith, le))
next_six (a ∷ b ∷ []) le = absurd (omega (arith, le))
next_six (a ∷ b ∷ c ∷ []) le = absurd (omega (arith, le))
next_six (a ∷ b ∷ c ∷ d ∷ []) le = absurd (omega (arith, le))
next_six (a ∷ b ∷ c ∷ d ∷ e ∷ []) le = absurd (omega (arith, le))

-- the characters so far, with one more
pub one_more : (text now : List ℕ) (bits : List Bool) (place c : ℕ) → length bits ≡ 168 → place < 28 → c ≡ character (number_of (take 6 (drop (6 * place) bits)))
    → now ≡ text ++ c ∷ [] → text ++ characters (drop (6 * place) bits) ≡ characters bits → now ++ characters (drop (6 * (place + 1)) bits) ≡ characters bits
one_more text now bits place c long below is pushed whole =
    ap (λ t. t ++ characters (drop (6 * (place + 1)) bits)) pushed
    ∙ (append_assoc text (c ∷ []) (characters (drop (6 * (place + 1)) bits))
    ∙ (ap (λ rest. text ++ rest)
    (ap (λ x. x ∷ characters (drop (6 * (place + 1)) bits)) is
    ∙ (ap (λ rest. character (number_of (take 6 (drop (6 * place) bits))) ∷ characters rest)
    (ap (λ n. drop n bits) (omega arith) ∙ sym (drop-drop 6 (6 * place) bits))
    ∙ sym (next_six (drop (6 * place) bits) (omega (arith, length-drop (6 * place) bits, long, below)))))
    ∙ whole))

-- a text of 28 characters has the bits of a report
pub length_text : (text : List ℕ) → length text ≡ 28 → length (text_bits text) ≡ 168
unfolding text_bits
length_text text long = length_of_all text ∙ ap (λ n. 6 * n) long
  where
    length_of_all : (cs : List ℕ) → length (flat_map bits_of_character cs) ≡ 6 * length cs
    length_of_all [] = refl
    length_of_all (c ∷ cs) = let e = length_of_all cs in omega (arith, e)
