-- The cut of bytes into lines and a rest is the only one.
use Rattle.std.proofs.Common.{◌≡◌, ℕ, Bool, true, false, List, [], ◌∷◌, ◌++◌, All, refl, sym, ap, ◌∙◌, inl, inr}
use Rattle.std.specs.Prelude.{◌==◌, not}
use Rattle.std.specs.List.{list_all}
use Rattle.std.proofs.lemmas.Bool.{cases_Bool, and_parts, and_from, eqb-true}
use Rattle.std.proofs.lemmas.List.{append_assoc}
use Rattle.std.proofs.lemmas.List.Concat.{flat_map-cons}
use Rattle.std.proofs.lemmas.List.Elements.{All-nil, All-cons, All-head, All-tail}
use Rattle.datagram450.specs.Datagram.{Cut, HasNoEnd, IsLine, IsCut, before, cut, all_of}

abbrev of : List (List ℕ) → List ℕ → Cut
of lines rest = record { lines = lines; rest = rest }

at_end : (c : ℕ) (cs : List ℕ) → (c == 10) ≡ true → cut (c ∷ cs) ≡ of ((c ∷ []) ∷ (cut cs).lines) (cut cs).rest
at_end c cs e = rw e refl

before_end : (c : ℕ) (cs : List ℕ) → (c == 10) ≡ false → cut (c ∷ cs) ≡ before c (cut cs).lines (cut cs).rest
before_end c cs e = rw e refl

not_end : (c : ℕ) → (c == 10) ≡ false → not (c == 10) ≡ true
not_end c e = rw e refl

is_end : (c : ℕ) → not (c == 10) ≡ true → (c == 10) ≡ false
is_end c h = go (c == 10) h
  where
    go : (b : Bool) → not b ≡ true → b ≡ false
    go true h = cc
    go false h = refl

-- ---- the cut is one

alone : (c : ℕ) → (c == 10) ≡ true → IsLine (c ∷ [])
alone c e = record { text = []; inner = refl; spelled = ap (λ (x : ℕ). x ∷ []) (eqb-true c 10 e) }

longer : (c : ℕ) (l : List ℕ) → (c == 10) ≡ false → IsLine l → IsLine (c ∷ l)
longer c l e h = record {
  text = c ∷ h.text;
  inner = and_from (not (c == 10)) (list_all (λ x. not (x == 10)) h.text) (not_end c e) h.inner;
  spelled = ap (λ (x : List ℕ). c ∷ x) h.spelled;
}

end_first : (c : ℕ) (cs : List ℕ) (k : Cut) → (c == 10) ≡ true → IsCut k cs → IsCut (of ((c ∷ []) ∷ k.lines) k.rest) (c ∷ cs)
end_first c cs k e h = record {
  each = All-cons IsLine (c ∷ []) k.lines (alone c e) h.each;
  last = h.last;
  spelled = ap (λ (x : List ℕ). c ∷ x) h.spelled ∙ ap (λ (x : List ℕ). x ++ k.rest) (sym (flat_map-cons (λ (l : List ℕ). l) (c ∷ []) k.lines));
}

byte_first : (c : ℕ) (cs : List ℕ) (lines : List (List ℕ)) (rest : List ℕ) → (c == 10) ≡ false → IsCut (of lines rest) cs → IsCut (before c lines rest) (c ∷ cs)
byte_first c cs [] rest e h = record {
  each = All-nil IsLine;
  last = and_from (not (c == 10)) (list_all (λ x. not (x == 10)) rest) (not_end c e) h.last;
  spelled = ap (λ (x : List ℕ). c ∷ x) h.spelled;
}
byte_first c cs (l ∷ ls) rest e h = record {
  each = All-cons IsLine (c ∷ l) ls (longer c l e (All-head IsLine l ls h.each)) (All-tail IsLine l ls h.each);
  last = h.last;
  spelled = ap (λ (x : List ℕ). c ∷ x) (h.spelled ∙ ap (λ (x : List ℕ). x ++ rest) (flat_map-cons (λ (m : List ℕ). m) l ls)) ∙ ap (λ (x : List ℕ). x ++ rest) (sym (flat_map-cons (λ (m : List ℕ). m) (c ∷ l) ls));
}

pub is_cut : (bytes : List ℕ) → IsCut (cut bytes) bytes
is_cut [] = record { each = All-nil IsLine; last = refl; spelled = refl }
is_cut (c ∷ cs) = elim (cases_Bool (c == 10)) [
  | inl e ↦ rw (at_end c cs e) (end_first c cs (cut cs) e (is_cut cs))
  | inr e ↦ rw (before_end c cs e) (byte_first c cs (cut cs).lines (cut cs).rest e (is_cut cs))
]

-- ---- and no other

rest_only : (rest : List ℕ) → HasNoEnd rest → cut rest ≡ of [] rest
rest_only [] h = refl
rest_only (c ∷ cs) h =
    let p = and_parts (not (c == 10)) (list_all (λ x. not (x == 10)) cs) h in
    before_end c cs (is_end c p.0) ∙ ap (λ (k : Cut). before c k.lines k.rest) (rest_only cs p.1)

line_only : (text tail : List ℕ) → HasNoEnd text → cut ((text ++ 10 ∷ []) ++ tail) ≡ of ((text ++ 10 ∷ []) ∷ (cut tail).lines) (cut tail).rest
line_only [] tail h = refl
line_only (c ∷ cs) tail h =
    let p = and_parts (not (c == 10)) (list_all (λ x. not (x == 10)) cs) h in
    before_end c ((cs ++ 10 ∷ []) ++ tail) (is_end c p.0) ∙ ap (λ (k : Cut). before c k.lines k.rest) (line_only cs tail p.1)

pub line_is : (l tail : List ℕ) → IsLine l → cut (l ++ tail) ≡ of (l ∷ (cut tail).lines) (cut tail).rest
line_is l tail h =
    ap (λ (x : List ℕ). cut (x ++ tail)) h.spelled ∙ line_only h.text tail h.inner ∙ ap (λ (x : List ℕ). of (x ∷ (cut tail).lines) (cut tail).rest) (sym h.spelled)

lines_are : (lines : List (List ℕ)) (rest : List ℕ) → All IsLine lines → HasNoEnd rest → cut (all_of lines ++ rest) ≡ of lines rest
lines_are [] rest each last = rest_only rest last
lines_are (l ∷ ls) rest each last =
    ap (λ (x : List ℕ). cut (x ++ rest)) (flat_map-cons (λ (m : List ℕ). m) l ls)
    ∙ ap cut (append_assoc l (all_of ls) rest)
    ∙ line_is l (all_of ls ++ rest) (All-head IsLine l ls each)
    ∙ ap (λ (k : Cut). of (l ∷ k.lines) k.rest) (lines_are ls rest (All-tail IsLine l ls each) last)

pub only_cut : (k : Cut) (bytes : List ℕ) → IsCut k bytes → cut bytes ≡ k
only_cut k bytes h = ap cut h.spelled ∙ lines_are k.lines k.rest h.each h.last
