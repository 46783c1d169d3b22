-- What the values of a group, a count and a source say, both ways.
use Rattle.std.proofs.Common.{◌≡◌, ℕ, zero, suc, ◌+◌, ◌-◌, ◌≤◌, Bool, true, false, cond, leb, ◌&&◌, List, [], ◌∷◌, length, take, drop, Option, Some, None, Result, Ok, Err, refl, sym, ap, subst, ◌∙◌, arith}
use Rattle.std.specs.Prelude.{◌==◌, slice_index}
use Rattle.std.specs.List.{list_all}
use Rattle.std.proofs.lemmas.Bool.{and_parts, and_from, leb-true, le-leb, eqb-true, eq-eqb}
use Rattle.sentence_text.specs.Byte.{is_capital, is_digit}
use Rattle.sentence_text.specs.Names.{IsSfi}
use Rattle.tag_block.specs.declared.fault.TagFault.{TagFault}
use Rattle.tag_block.specs.declared.group_part.GroupPart.{GroupPart}
use Rattle.tag_block.specs.Tag.{number, IsNumber, IsGroupText, IsGroupOf, IsCountOf}
use Rattle.tag_block.specs.Reading.{Placed, number_in, is_from_1, has_group_form, group_with, group_in, is_sfi, found_or, group_said, count_said, source_said, text_of}

abbrev some : {A : Type 0} → A → Option A
some x = Some x

some_is : {A : Type 0} (x y : A) → some x ≡ some y → x ≡ y
some_is x y e = cc

abbrev ok : {A : Type 0} → A → Result A TagFault
ok x = Ok x

ok_is : {A : Type 0} (x y : A) → ok x ≡ ok y → x ≡ y
ok_is x y e = cc

-- a test that gave something
holds_where : {A : Type 0} (b : Bool) (x : Option A) (y : A) → cond b x None ≡ Some y → (b ≡ true) × (x ≡ Some y)
holds_where true x y e = (refl, e)
holds_where false x y e = absurd cc

pub number_found : (most n : ℕ) (text : List ℕ) → number_in most text ≡ Some n → IsNumber most n text
number_found most n text e =
    let p = holds_where (leb 1 (length text) && leb (length text) most && list_all is_digit text) (Some (number text)) n e in
    let q = and_parts (leb 1 (length text) && leb (length text) most) (list_all is_digit text) p.0 in
    let r = and_parts (leb 1 (length text)) (leb (length text) most) q.0 in
    record { some = leb-true 1 (length text) r.0; few = leb-true (length text) most r.1; digits = q.1; value = sym (some_is (number text) n p.1) }

pub number_again : (most n : ℕ) (text : List ℕ) → IsNumber most n text → number_in most text ≡ Some n
number_again most n text h =
    let a : leb 1 (length text) ≡ true = le-leb 1 (length text) h.some in
    let b : leb (length text) most ≡ true = le-leb (length text) most h.few in
    rw (a, b, h.digits) (ap some (sym h.value))

group_with_found : (a b : ℕ) (code : Option ℕ) (part : GroupPart) → group_with a b code ≡ Some part
    → (code ≡ Some part.code) × (1 ≤ part.code) × (a ≡ part.number) × (b ≡ part.total)
group_with_found a b None part e = absurd cc
group_with_found a b (Some zero) part e = absurd cc
group_with_found a b (Some (suc c)) part e =
    let is = some_is (record { number = a; total = b; code = suc c }) part e in
    let code : suc c ≡ part.code = ap (λ (p : GroupPart). p.code) is in
    (ap some code, omega (arith, code), ap (λ (p : GroupPart). p.number) is, ap (λ (p : GroupPart). p.total) is)

-- the form of a group's value, as bytes
record GroupForm (text : List ℕ) : Type 0 where
  first : is_from_1 (slice_index text 0) ≡ true
  dash : slice_index text 1 ≡ 45
  second : is_from_1 (slice_index text 2) ≡ true
  other_dash : slice_index text 3 ≡ 45
  order : slice_index text 0 ≤ slice_index text 2

group_form : (text : List ℕ) → has_group_form text ≡ true → GroupForm text
group_form text e =
    let a = is_from_1 (slice_index text 0) in
    let b = slice_index text 1 == 45 in
    let c = is_from_1 (slice_index text 2) in
    let d = slice_index text 3 == 45 in
    let p = and_parts (a && b && c && d) (leb (slice_index text 0) (slice_index text 2)) e in
    let q = and_parts (a && b && c) d p.0 in
    let r = and_parts (a && b) c q.0 in
    let s = and_parts a b r.0 in
    record { first = s.0; dash = eqb-true (slice_index text 1) 45 s.1; second = r.1; other_dash = eqb-true (slice_index text 3) 45 q.1; order = leb-true (slice_index text 0) (slice_index text 2) p.1 }

four_front : (text : List ℕ) → slice_index text 1 ≡ 45 → slice_index text 3 ≡ 45 → text ≡ slice_index text 0 ∷ 45 ∷ slice_index text 2 ∷ 45 ∷ drop 4 text
four_front [] d e = absurd (omega arith)
four_front (a ∷ []) d e = absurd (omega arith)
four_front (a ∷ b ∷ []) d e = absurd (omega arith)
four_front (a ∷ b ∷ c ∷ []) d e = absurd (omega arith)
four_front (a ∷ b ∷ c ∷ f ∷ more) d e = rw (d, e) refl

from_1 : (c : ℕ) → is_from_1 c ≡ true → (49 ≤ c) × (c ≤ 57)
from_1 c e =
    let p = and_parts (leb 49 c) (leb c 57) e in
    (leb-true 49 c p.0, leb-true c 57 p.1)

pub group_found : (text : List ℕ) (part : GroupPart) → group_in text ≡ Some part → IsGroupText part text
unfolding group_in
group_found text part e =
    let p = holds_where (has_group_form text) (group_with (slice_index text 0 - 48) (slice_index text 2 - 48) (number_in 4 (drop 4 text))) part e in
    let f = group_form text p.0 in
    let w = group_with_found (slice_index text 0 - 48) (slice_index text 2 - 48) (number_in 4 (drop 4 text)) part p.1 in
    let a = from_1 (slice_index text 0) f.first in
    let b = from_1 (slice_index text 2) f.second in
    let first : slice_index text 0 ≡ 48 + part.number = omega (arith, a.0, w.2) in
    let second : slice_index text 2 ≡ 48 + part.total = omega (arith, b.0, w.3) in
    record {
      digits = drop 4 text;
      spelled = four_front text f.dash f.other_dash ∙ ap (λ (x : ℕ). x ∷ 45 ∷ slice_index text 2 ∷ 45 ∷ drop 4 text) first ∙ ap (λ (x : ℕ). (48 + part.number) ∷ 45 ∷ x ∷ 45 ∷ drop 4 text) second;
      first = omega (arith, a.0, w.2);
      within = omega (arith, f.order, first, second);
      most = omega (arith, b.1, second);
      code = number_found 4 part.code (drop 4 text) w.0;
      positive = w.1;
    }

is_from_1_again : (n : ℕ) → 1 ≤ n → n ≤ 9 → is_from_1 (48 + n) ≡ true
is_from_1_again n low high = and_from (leb 49 (48 + n)) (leb (48 + n) 57) (le-leb 49 (48 + n) (omega arith)) (le-leb (48 + n) 57 (omega arith))

abbrev group_of : ℕ → ℕ → ℕ → Option GroupPart
group_of number total code = Some (record { number = number; total = total; code = code })

group_with_again : (a b code : ℕ) (part : GroupPart) → code ≡ part.code → 1 ≤ code → a ≡ part.number → b ≡ part.total → group_with a b (Some code) ≡ Some part
group_with_again a b zero part e more ea eb = absurd (omega arith)
group_with_again a b (suc c) part e more ea eb =
    ap (λ (x : ℕ). group_of x b (suc c)) ea ∙ ap (λ (x : ℕ). group_of part.number x (suc c)) eb ∙ ap (λ (x : ℕ). group_of part.number part.total x) e

pub group_again : (text : List ℕ) (part : GroupPart) → IsGroupText part text → group_in text ≡ Some part
unfolding group_in
group_again text part h =
    let spelled : List ℕ = (48 + part.number) ∷ 45 ∷ (48 + part.total) ∷ 45 ∷ h.digits in
    let first = is_from_1_again part.number h.first (omega (arith, h.within, h.most)) in
    let second = is_from_1_again part.total (omega (arith, h.first, h.within)) h.most in
    let order : leb (48 + part.number) (48 + part.total) ≡ true = le-leb (48 + part.number) (48 + part.total) (omega (arith, h.within)) in
    let a : 48 + part.number - 48 ≡ part.number = omega arith in
    let b : 48 + part.total - 48 ≡ part.total = omega arith in
    let code = number_again 4 part.code h.digits h.code in
    let made : group_in spelled ≡ Some part = rw (first, second, order, code) (group_with_again (48 + part.number - 48) (48 + part.total - 48) part.code part refl h.positive a b) in
    ap group_in h.spelled ∙ made

-- ---- the three steps

found_or_ok : {A : Type 0} (place : ℕ) (x : Option A) (y : Option A) → found_or place x ≡ Ok y → (z : A) × (x ≡ Some z) × (y ≡ Some z)
found_or_ok place None y e = absurd cc
found_or_ok place (Some x) y e = (x, refl, sym (ok_is (Some x) y e))

pub group_said_found : (o : Option Placed) (group : Option GroupPart) → group_said o ≡ Ok group → IsGroupOf (text_of o) group
group_said_found None group e = sym (ok_is None group e)
group_said_found (Some v) group e =
    let f = found_or_ok v.place (group_in v.text) group e in
    (f.0, f.2, group_found v.text f.0 f.1)

pub count_said_found : (o : Option Placed) (count : Option ℕ) → count_said o ≡ Ok count → IsCountOf (text_of o) count
count_said_found None count e = sym (ok_is None count e)
count_said_found (Some v) count e =
    let f = found_or_ok v.place (number_in 3 v.text) count e in
    (f.0, f.2, number_found 3 f.0 v.text f.1)

sfi_found : (text : List ℕ) → is_sfi text ≡ true → IsSfi text
sfi_found text e =
    let p = and_parts (length text == 6 && list_all is_capital (take 2 text)) (list_all is_digit (drop 2 text)) e in
    let q = and_parts (length text == 6) (list_all is_capital (take 2 text)) p.0 in
    record { len = eqb-true (length text) 6 q.0; letters = q.1; digits = p.1 }

sfi_again : (text : List ℕ) → IsSfi text → is_sfi text ≡ true
sfi_again text h = and_from (length text == 6 && list_all is_capital (take 2 text)) (list_all is_digit (drop 2 text)) (and_from (length text == 6) (list_all is_capital (take 2 text)) (eq-eqb (length text) 6 h.len) h.letters) h.digits

if_ok : (b : Bool) (x y : List ℕ) (f : TagFault) → cond b (Ok x) (Err f) ≡ Ok y → (b ≡ true) × (x ≡ y)
if_ok true x y f e = (refl, ok_is x y e)
if_ok false x y f e = absurd cc

pub source_said_found : (end : ℕ) (o : Option Placed) (source : List ℕ) → source_said end o ≡ Ok source → (text_of o ≡ Some source) × IsSfi source
source_said_found end None source e = absurd cc
source_said_found end (Some v) source e =
    let p = if_ok (is_sfi v.text) v.text source _ e in
    (ap some p.1, subst IsSfi p.1 (sfi_found v.text p.0))

pub group_said_again : (o : Option Placed) (group : Option GroupPart) → IsGroupOf (text_of o) group → group_said o ≡ Ok group
group_said_again None group h = ap ok (sym h)
group_said_again (Some v) group h = ap (found_or v.place) (group_again v.text h.0 h.2) ∙ ap ok (sym h.1)

pub count_said_again : (o : Option Placed) (count : Option ℕ) → IsCountOf (text_of o) count → count_said o ≡ Ok count
count_said_again None count h = ap ok (sym h)
count_said_again (Some v) count h = ap (found_or v.place) (number_again 3 h.0 v.text h.2) ∙ ap ok (sym h.1)

pub source_said_again : (end : ℕ) (o : Option Placed) (source : List ℕ) → text_of o ≡ Some source → IsSfi source → source_said end o ≡ Ok source
source_said_again end None source e h = absurd cc
source_said_again end (Some v) source e h =
    let is : v.text ≡ source = some_is v.text source e in
    let test : is_sfi v.text ≡ true = ap is_sfi is ∙ sfi_again source h in
    rw test (ap ok is)
