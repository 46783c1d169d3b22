-- Bytes that are moved to the front, one after the other.
use Rattle.std.proofs.Common.{◌≡◌, ℕ, ◌+◌, ◌<◌, List, [], ◌∷◌, ◌++◌, length, get_or, take, drop, set, refl, sym, ap, ◌∙◌, add_comm, arith}
use Rattle.std.proofs.lemmas.Grind.{common_steps}
use Rattle.std.proofs.lemmas.List.{get_or-drop, take_more, length-drop}
use Rattle.std.proofs.lemmas.Grind.{take-set_at}

-- the byte that is read is still the one that stood there first
same_byte : (now first : List ℕ) (from i : ℕ) → drop i now ≡ drop i first → get_or now (from + i) 0 ≡ get_or (drop from first) i 0
same_byte now first from i rest =
    let a : get_or (drop i now) from 0 ≡ get_or now (i + from) 0 = get_or-drop i now from 0 in
    let b : get_or (drop i first) from 0 ≡ get_or first (i + from) 0 = get_or-drop i first from 0 in
    let c : get_or (drop from first) i 0 ≡ get_or first (from + i) 0 = get_or-drop from first i 0 in
    let d : get_or (drop i now) from 0 ≡ get_or (drop i first) from 0 = ap (λ (xs : List ℕ). get_or xs from 0) rest in
    ap (λ (k : ℕ). get_or now k 0) (add_comm from i) ∙ (sym a ∙ (d ∙ (b ∙ (ap (λ (k : ℕ). get_or first k 0) (add_comm i from) ∙ sym c))))

pub moved_more : (now first : List ℕ) (from i : ℕ) → from + i < length first → length now ≡ length first → take i now ≡ take i (drop from first) → drop i now ≡ drop i first
    → take (i + 1) (set now i (get_or now (from + i) 0)) ≡ take (i + 1) (drop from first)
moved_more now first from i within len moved rest =
    let e = same_byte now first from i rest in
    let h : i < length (drop from first) = omega (arith, length-drop from first) in
    let l : take (i + 1) (set now i (get_or now (from + i) 0)) ≡ take i now ++ get_or now (from + i) 0 ∷ [] = take-set_at now i (i + 1) (get_or now (from + i) 0) refl (omega arith) in
    let r : take (i + 1) (drop from first) ≡ take i (drop from first) ++ get_or (drop from first) i 0 ∷ [] = take_more (drop from first) i 0 h in
    l ∙ (ap (λ (xs : List ℕ). xs ++ get_or now (from + i) 0 ∷ []) moved ∙ (ap (λ (x : ℕ). take i (drop from first) ++ x ∷ []) e ∙ sym r))

pub rest_more : (now first : List ℕ) (i v : ℕ) → i < length now → drop i now ≡ drop i first → drop (i + 1) (set now i v) ≡ drop (i + 1) first
rest_more now first i v lt rest = grind (arith, common_steps, rest)
