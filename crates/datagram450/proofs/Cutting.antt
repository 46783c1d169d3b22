-- Where the first line ends, and what comes of the lines behind it.
use Rattle.std.proofs.Common.{◌≡◌, ◌≢◌, ℕ, zero, suc, ◌+◌, ◌-◌, ◌<◌, Bool, true, false, List, [], ◌∷◌, length, take, drop, refl, sym, ap, ◌∙◌, arith, inl, inr}
use Rattle.std.specs.Prelude.{◌==◌}
use Rattle.std.specs.List.{position_or_len}
use Rattle.std.proofs.lemmas.Bool.{cases_Bool}
use Rattle.std.proofs.lemmas.List.{append-nil}
use Rattle.report_rules.specs.Rules.{line_form, too_many_lines}
use Rattle.datagram450.specs.Datagram.{Item, bad, item, IsLine, Cut, before, cut, items_at, items_from}
use Rattle.datagram450.proofs.Cuts.{line_is}

abbrev pub end_place : List ℕ → ℕ
end_place bytes = position_or_len (λ c. c == 10) bytes

at_end : (c : ℕ) (cs : List ℕ) → (c == 10) ≡ true → end_place (c ∷ cs) ≡ 0
at_end c cs e = rw e refl

before_end : (c : ℕ) (cs : List ℕ) → (c == 10) ≡ false → end_place (c ∷ cs) ≡ suc (end_place cs)
before_end c cs e = rw e (omega arith)

abbrev of : List (List ℕ) → List ℕ → Cut
of lines rest = record { lines = lines; rest = rest }

abbrev with_line : List ℕ → List ℕ → Cut
with_line line behind = of (line ∷ (cut behind).lines) (cut behind).rest

cut_at_end : (c : ℕ) (cs : List ℕ) → (c == 10) ≡ true → cut (c ∷ cs) ≡ with_line (c ∷ []) cs
cut_at_end c cs e = rw e refl

cut_before_end : (c : ℕ) (cs : List ℕ) → (c == 10) ≡ false → cut (c ∷ cs) ≡ before c (cut cs).lines (cut cs).rest
cut_before_end c cs e = rw e refl

pub cut_none : (bytes : List ℕ) → end_place bytes ≡ length bytes → cut bytes ≡ of [] bytes
cut_none [] h = refl
cut_none (c ∷ cs) h = elim (cases_Bool (c == 10)) [
  | inl e ↦ absurd (omega (arith, at_end c cs e, h))
  | inr e ↦
      let same : end_place cs ≡ length cs = omega (arith, before_end c cs e, h) in
      cut_before_end c cs e ∙ ap (λ (k : Cut). before c k.lines k.rest) (cut_none cs same)
]

pub cut_line : (n : ℕ) (bytes : List ℕ) → end_place bytes ≡ n → n < length bytes → cut bytes ≡ with_line (take (suc n) bytes) (drop (suc n) bytes)
cut_line n [] h lt = absurd (omega arith)
cut_line zero (c ∷ cs) h lt = elim (cases_Bool (c == 10)) [
  | inl e ↦ cut_at_end c cs e
  | inr e ↦ absurd (omega (arith, before_end c cs e, h))
]
cut_line (suc n) (c ∷ cs) h lt = elim (cases_Bool (c == 10)) [
  | inl e ↦ absurd (omega (arith, at_end c cs e, h))
  | inr e ↦
      let same : end_place cs ≡ n = omega (arith, before_end c cs e, h) in
      cut_before_end c cs e ∙ ap (λ (k : Cut). before c k.lines k.rest) (cut_line n cs same (omega (arith, lt)))
]

abbrev items_of : ℕ → ℕ → Cut → List Item
items_of left at k = items_at left at k.lines k.rest

pub no_items : (left at : ℕ) (bytes : List ℕ) → length bytes ≡ 0 → items_from left at bytes ≡ []
unfolding items_from
no_items left at [] h = refl
no_items left at (c ∷ cs) h = absurd (omega (arith, h))

pub is_some : (bytes : List ℕ) (empty : Bool) → empty ≡ (length bytes == 0) → empty ≡ false → length bytes ≢ 0
is_some [] empty e f z = cc
is_some (c ∷ cs) empty e f z = omega (arith, z)

rest_gives : (left at : ℕ) (bytes : List ℕ) → length bytes ≢ 0 → items_at left at [] bytes ≡ bad line_form at ∷ []
rest_gives left at [] some = absurd (some refl)
rest_gives left at (c ∷ cs) some = refl

-- what is left behind the last item is nothing
pub rest_alone : (left at : ℕ) (bytes behind : List ℕ) → length bytes ≢ 0 → end_place bytes ≡ length bytes → length behind ≡ 0 → items_from left at bytes ≡ bad line_form at ∷ items_from left at behind
unfolding items_from
rest_alone left at bytes behind some h none = ap (items_of left at) (cut_none bytes h) ∙ rest_gives left at bytes some ∙ ap (λ (xs : List Item). bad line_form at ∷ xs) (sym (no_items left at behind none))

pub line_too_many : (left at : ℕ) (bytes behind : List ℕ) → left ≡ 0 → end_place bytes < length bytes → length behind ≡ 0 → items_from left at bytes ≡ bad too_many_lines at ∷ items_from left at behind
unfolding items_from
line_too_many zero at bytes behind e h none = ap (items_of 0 at) (cut_line (end_place bytes) bytes refl h) ∙ ap (λ (xs : List Item). bad too_many_lines at ∷ xs) (sym (no_items 0 at behind none))
line_too_many (suc n) at bytes behind e h none = absurd (omega (arith, e))

line_first : (left at place : ℕ) (bytes : List ℕ) → end_place bytes ≡ place → place < length bytes
    → items_from (suc left) at bytes ≡ item at (take (suc place) bytes) ∷ items_from left (at + length (take (suc place) bytes)) (drop (suc place) bytes)
unfolding items_from
line_first left at place bytes e h = ap (items_of (suc left) at) (cut_line place bytes e h)

pub line_next : (left at place : ℕ) (bytes line behind : List ℕ) → left ≢ 0 → place ≡ end_place bytes → place < length bytes → line ≡ take (place + 1) bytes → behind ≡ drop (place + 1) bytes
    → items_from left at bytes ≡ item at line ∷ items_from (left - 1) (at + length line) behind
line_next zero at place bytes line behind some e h is is_behind = absurd (some refl)
line_next (suc n) at place bytes line behind some e h is is_behind =
    let more : place + 1 ≡ suc place = omega arith in
    let less : n ≡ suc n - 1 = omega arith in
    let line_is : take (suc place) bytes ≡ line = ap (λ (k : ℕ). take k bytes) (sym more) ∙ sym is in
    let behind_is : drop (suc place) bytes ≡ behind = ap (λ (k : ℕ). drop k bytes) (sym more) ∙ sym is_behind in
    line_first n at place bytes (sym e) h
    ∙ ap (λ (l : List ℕ). item at l ∷ items_from n (at + length l) (drop (suc place) bytes)) line_is
    ∙ ap (λ (b : List ℕ). item at line ∷ items_from n (at + length line) b) behind_is
    ∙ ap (λ (k : ℕ). item at line ∷ items_from k (at + length line) behind) less

-- all of it is one line
pub line_alone : (left at : ℕ) (bytes behind : List ℕ) (given : Item) → left ≢ 0 → IsLine bytes → given ≡ item at bytes → length behind ≡ 0 → items_from left at bytes ≡ given ∷ items_from left at behind
unfolding items_from
line_alone zero at bytes behind given some h g none = absurd (some refl)
line_alone (suc n) at bytes behind given some h g none =
    ap (λ (x : List ℕ). items_of (suc n) at (cut x)) (sym (append-nil bytes))
    ∙ ap (items_of (suc n) at) (line_is bytes [] h)
    ∙ ap (λ (i : Item). i ∷ []) (sym g)
    ∙ ap (λ (xs : List Item). given ∷ xs) (sym (no_items (suc n) at behind none))
