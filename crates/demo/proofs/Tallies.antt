-- What is counted of emits one by one is what is counted of all of them.
use Rattle.std.proofs.Common.{◌≡◌, ℕ, zero, suc, ◌+◌, ◌≤◌, Bool, List, [], ◌∷◌, ◌++◌, length, take, drop, refl, sym, ap, ◌∙◌, append_assoc, arith}
use Rattle.std.specs.Prelude.{Some, filter}
use Rattle.std.specs.List.{flat_map, fold, slice_get}
use Rattle.std.proofs.lemmas.Grind.{flat_map-append}
use Rattle.std.proofs.lemmas.List.{append-nil, length-append, length-map, length-take, map-append}
use Rattle.std.proofs.lemmas.List.Elements.{filter-append}
use Rattle.std.proofs.lemmas.List.Sums.{fold-append}
use Rattle.gate_events.specs.Emit.{Emit, Emitted, can, net, report}
use Rattle.history.specs.Emits.{at}
use Rattle.capture_text.specs.Emitted.{line_of}
use Rattle.demo.specs.declared.tally.Tally.{Tally}
use Rattle.demo.specs.Tally.{and_all, and_one, counted, folded, how_many, is_datagram, is_frame, is_report, tally_of, total}

pub one_at : (place : ℕ) (emits : List Emit) (e : Emit) → slice_get emits place ≡ Some e → e ∷ [] ≡ take 1 (drop place emits)
one_at place [] e is = absurd cc
one_at zero (x ∷ emits) e is = let same : x ≡ e = cc in ap (λ (y : Emit). y ∷ []) (sym same)
one_at (suc place) (x ∷ emits) e is = one_at place emits e is

next_after : (place : ℕ) (emits : List Emit) → take (suc place) emits ≡ take place emits ++ take 1 (drop place emits)
next_after zero [] = refl
next_after zero (e ∷ emits) = refl
next_after (suc place) [] = refl
next_after (suc place) (e ∷ emits) = ap (λ (es : List Emit). e ∷ es) (next_after place emits)

add_one : (n : ℕ) → n + 1 ≡ suc n
add_one n = omega arith

next_taken : (place : ℕ) (emits : List Emit) → take (place + 1) emits ≡ take place emits ++ take 1 (drop place emits)
next_taken place emits = ap (λ (n : ℕ). take n emits) (add_one place) ∙ next_after place emits

pub next_counted : (t : Tally) (m place : ℕ) (emits : List Emit)
    → and_all (and_all t (at m (take place emits))) (at m (take 1 (drop place emits))) ≡ and_all t (at m (take (place + 1) emits))
next_counted t m place emits =
    sym (fold-append and_one t (at m (take place emits)) (at m (take 1 (drop place emits))))
    ∙ ap (and_all t) (sym (map-append (λ e. record { moment = m; emit = e }) (take place emits) (take 1 (drop place emits))))
    ∙ ap (λ (es : List Emit). and_all t (at m es)) (sym (next_taken place emits))

-- ---- how many there are in all

moved : (n k : ℕ) → (n + 1) + k ≡ n + suc k
moved n k = omega arith

total_counted : (t : Tally) (e : Emit) (x : ℕ) → total (counted t e x) ≡ total t + 1
total_counted t (can f) x = omega arith
total_counted t (net group bytes) x = omega arith
total_counted t (report r) x = omega arith

pub total_all : (t : Tally) (emits : List Emitted) → total (and_all t emits) ≡ total t + length emits
total_all t [] = omega arith
total_all t (x ∷ emits) =
    total_all (and_one t x) emits
    ∙ ap (λ (n : ℕ). n + length emits) (total_counted t x.emit (fold folded t.fold (line_of x)))
    ∙ moved (total t) (length emits)

-- how many there are where some at the front were counted
pub total_front : (t : Tally) (m place : ℕ) (emits : List Emit) → total (and_all t (at m (take place emits))) ≤ total t + length emits
total_front t m place emits =
    let is = total_all t (at m (take place emits)) in
    let long : length (at m (take place emits)) ≡ length (take place emits) = length-map (take place emits) _ in
    let front : length (take place emits) ≤ length emits = omega (arith, length-take place emits) in
    omega (arith, is, long, front)

-- ---- what is counted one by one is counted of all

many_more : (is : Emit → Bool) (x : Emitted) (emits : List Emitted) → how_many is (emits ++ x ∷ []) ≡ how_many is emits + how_many is (x ∷ [])
many_more is x emits =
    ap (λ (es : List Emitted). length es) (filter-append (λ y. is y.emit) emits (x ∷ []))
    ∙ length-append (filter (λ y. is y.emit) emits) (filter (λ y. is y.emit) (x ∷ []))

more_lines : (x : Emitted) (emits : List Emitted)
    → fold folded 0 (flat_map line_of (emits ++ x ∷ [])) ≡ fold folded (fold folded 0 (flat_map line_of emits)) (line_of x)
more_lines x emits =
    ap (fold folded 0) (flat_map-append line_of emits (x ∷ []))
    ∙ fold-append folded 0 (flat_map line_of emits) (line_of x ++ [])
    ∙ ap (fold folded (fold folded 0 (flat_map line_of emits))) (append-nil (line_of x))

abbrev counts : ℕ → ℕ → ℕ → ℕ → Tally
counts frames datagrams reports fold = record { frames = frames; datagrams = datagrams; reports = reports; fold = fold }

same_counts : (f f' d d' r r' x x' : ℕ) → f ≡ f' → d ≡ d' → r ≡ r' → x ≡ x' → counts f d r x ≡ counts f' d' r' x'
same_counts f f' d d' r r' x x' a b e i = cc

nothing_more : (n : ℕ) → n ≡ n + 0
nothing_more n = omega arith

one_more : (emits : List Emitted) (m : ℕ) (e : Emit)
    → and_one (tally_of emits) (record { moment = m; emit = e }) ≡ tally_of (emits ++ record { moment = m; emit = e } ∷ [])
one_more emits m (can f) =
    let x : Emitted = record { moment = m; emit = can f } in
    same_counts _ _ _ _ _ _ _ _ (sym (many_more is_frame x emits)) (nothing_more (how_many is_datagram emits) ∙ sym (many_more is_datagram x emits))
    (nothing_more (how_many is_report emits) ∙ sym (many_more is_report x emits)) (sym (more_lines x emits))
one_more emits m (net group bytes) =
    let x : Emitted = record { moment = m; emit = net group bytes } in
    same_counts _ _ _ _ _ _ _ _ (nothing_more (how_many is_frame emits) ∙ sym (many_more is_frame x emits)) (sym (many_more is_datagram x emits))
    (nothing_more (how_many is_report emits) ∙ sym (many_more is_report x emits)) (sym (more_lines x emits))
one_more emits m (report r) =
    let x : Emitted = record { moment = m; emit = report r } in
    same_counts _ _ _ _ _ _ _ _ (nothing_more (how_many is_frame emits) ∙ sym (many_more is_frame x emits))
    (nothing_more (how_many is_datagram emits) ∙ sym (many_more is_datagram x emits)) (sym (many_more is_report x emits)) (sym (more_lines x emits))

all_behind : (before emits : List Emitted) → and_all (tally_of before) emits ≡ tally_of (before ++ emits)
all_behind before [] = ap tally_of (sym (append-nil before))
all_behind before (x ∷ emits) =
    ap (λ (t : Tally). and_all t emits) (one_more before x.moment x.emit)
    ∙ all_behind (before ++ x ∷ []) emits
    ∙ ap tally_of (append_assoc before (x ∷ []) emits)

pub tally_is : (emits : List Emitted) → and_all (tally_of []) emits ≡ tally_of emits
tally_is emits = all_behind [] emits
