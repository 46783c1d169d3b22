-- Names of the network, by a test of their texts.
use Rattle.std.proofs.Common.{◌≡◌, ℕ, Bool, true, false, ◌&&◌, ◌==◌, IsTrue, List, length, take, drop, Option, Some, None, IsSome, IfSome, refl, ap, eqb-true, eq-eqb}
use Rattle.std.specs.Prelude.{◌↔◌, if◌then◌else◌}
use Rattle.std.specs.List.{list_all}
use Rattle.std.proofs.lemmas.Bool.{and_from, and_parts, false≢true}
use Rattle.sentence_text.specs.Byte.{is_address_byte, is_capital, is_digit}
use Rattle.sentence_text.specs.Names.{IsGroup, IsSfi}
use Rattle.config_document.specs.Texts.{group_in, is_group, is_sfi, sfi_in}

-- what is given exactly where a fact holds is told by a test of that fact
told :
    (P : Type 0) (b : Bool) (text : List ℕ) (r : Option (List ℕ)) → (IsTrue b → P) → (P → IsTrue b)
    → (IsSome r → P) × (P → IsSome r) → IfSome r (λ x. x ≡ text) → r ≡ (if b then Some text else None)
told P true text (Some x) from to given same = ap Some same
told P true text None from to given same = absurd (false≢true (given.1 (from refl)))
told P false text (Some x) from to given same = absurd (false≢true (to (given.0 refl)))
told P false text None from to given same = refl

sfi_from : (text : List ℕ) → IsTrue (is_sfi text) → IsSfi text
sfi_from text h =
    let outer = and_parts (length text == 6) (list_all is_capital (take 2 text) && list_all is_digit (drop 2 text)) h in
    let inner = and_parts (list_all is_capital (take 2 text)) (list_all is_digit (drop 2 text)) outer.1 in
    record { len = eqb-true (length text) 6 outer.0; letters = inner.0; digits = inner.1 }

sfi_to : (text : List ℕ) → IsSfi text → IsTrue (is_sfi text)
sfi_to text s =
    and_from (length text == 6) (list_all is_capital (take 2 text) && list_all is_digit (drop 2 text)) (eq-eqb (length text) 6 s.len)
    (and_from (list_all is_capital (take 2 text)) (list_all is_digit (drop 2 text)) s.letters s.digits)

pub sfi_told : (text : List ℕ) (r : Option (List ℕ)) → (IsSome r ↔ IsSfi text) → IfSome r (λ x. x ≡ text) → r ≡ sfi_in text
sfi_told text r given same = told (IsSfi text) (is_sfi text) text r (sfi_from text) (sfi_to text) given same

group_from : (text : List ℕ) → IsTrue (is_group text) → IsGroup text
group_from text h =
    let both = and_parts (length text == 4) (list_all is_address_byte text) h in
    record { len = eqb-true (length text) 4 both.0; bytes = both.1 }

group_to : (text : List ℕ) → IsGroup text → IsTrue (is_group text)
group_to text g = and_from (length text == 4) (list_all is_address_byte text) (eq-eqb (length text) 4 g.len) g.bytes

pub group_told : (text : List ℕ) (r : Option (List ℕ)) → (IsSome r ↔ IsGroup text) → IfSome r (λ x. x ≡ text) → r ≡ group_in text
group_told text r given same = told (IsGroup text) (is_group text) text r (group_from text) (group_to text) given same
