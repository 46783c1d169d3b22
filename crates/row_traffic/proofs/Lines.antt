-- The first of the lines of a text, each of which reaches up to its LF.
use Rattle.std.proofs.Common.{◌≡◌, ◌≢◌, ℕ, zero, suc, ◌+◌, ◌<◌, ◌≤◌, List, [], ◌∷◌, length, take, drop, sym, ap, ◌∙◌, subst, arith}
use Rattle.datagram450.specs.Datagram.{Cut, cut}
use Rattle.datagram450.proofs.Cutting.{end_place, cut_none, cut_line}
use Rattle.row_traffic.specs.NetCalls.{IsLineBefore}

pub no_line : (bytes : List ℕ) (place : ℕ) → place ≡ end_place bytes → place ≡ length bytes → (cut bytes).lines ≡ []
no_line bytes place is all = ap (λ (k : Cut). k.lines) (cut_none bytes (sym is ∙ all))

fewer_behind : (n : ℕ) (bytes : List ℕ) → n < length bytes → length (drop (suc n) bytes) < length bytes
fewer_behind n [] lt = absurd (omega (arith, lt))
fewer_behind zero (c ∷ cs) lt = omega arith
fewer_behind (suc n) (c ∷ cs) lt = let less = fewer_behind n cs (omega (arith, lt)) in omega (arith, less)

first_at : (bytes : List ℕ) (place : ℕ) → end_place bytes ≡ place → place < length bytes → IsLineBefore (take (suc place) bytes) (drop (suc place) bytes) bytes
first_at bytes place is lt = record {
  lines = ap (λ (k : Cut). k.lines) (cut_line place bytes is lt);
  fewer = fewer_behind place bytes lt;
}

pub first_line : (bytes line behind : List ℕ) (place : ℕ) → place ≡ end_place bytes → place ≤ length bytes → place ≢ length bytes
    → line ≡ take (place + 1) bytes → behind ≡ drop (place + 1) bytes → IsLineBefore line behind bytes
first_line bytes line behind place is within some is_line is_behind =
    let more : suc place ≡ place + 1 = omega arith in
    let lt : place < length bytes = omega (arith, within, some) in
    let at : IsLineBefore (take (place + 1) bytes) (drop (place + 1) bytes) bytes =
    subst (λ (n : ℕ). IsLineBefore (take n bytes) (drop n bytes) bytes) more (first_at bytes place (sym is) lt) in
    subst (λ (l : List ℕ). IsLineBefore l behind bytes) (sym is_line) (subst (λ (b : List ℕ). IsLineBefore (take (place + 1) bytes) b bytes) (sym is_behind) at)
