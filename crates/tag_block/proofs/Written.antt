-- A block that is written is in the grammar.
use Rattle.std.proofs.Common.{◌≡◌, ℕ, ◌+◌, ◌-◌, ◌*◌, ◌/◌, ◌%◌, ◌<◌, ◌≤◌, Bool, true, List, [], ◌∷◌, take, drop, All, Option, Some, None, refl, sym, ap, subst, ◌∙◌, arith, rules}
use Rattle.std.specs.Prelude.{IfSome, option_map, bit_xor, nat_lt}
use Rattle.std.specs.Fmt.{decimal}
use Rattle.std.specs.List.{list_all, fold, flat_map}
use Rattle.std.proofs.lemmas.Bool.{and_from, and_parts}
use Rattle.std.proofs.lemmas.Bool.Decides.{nat_tests}
use Rattle.std.proofs.lemmas.Fmt.{decimal_nonempty, length-decimal-le, digits_decimal, digits_value-decimal}
use Rattle.std.proofs.lemmas.Grind.{widths}
use Rattle.std.proofs.lemmas.List.{append-nil, take-append-drop}
use Rattle.std.proofs.lemmas.List.Concat.{flat_map-cons}
use Rattle.std.proofs.lemmas.List.Elements.{All-nil, All-cons, All-head, All-tail}
use Rattle.std.proofs.lemmas.Str.Parse.{IsNumeralModel, numerals_by_fold}
use Rattle.sentence_text.specs.Names.{IsSfi}
use Rattle.sentence_text.specs.Byte.{is_capital, is_digit}
use Rattle.sentence_text.proofs.Bytes.{all_weaker, all_append}
use Rattle.tag_block.specs.declared.group_part.GroupPart.{GroupPart}
use Rattle.tag_block.specs.declared.writing.TagParts.{TagParts}
use Rattle.tag_block.specs.Tag.{is_code_byte, is_value_byte, Parameter, IsParameter, parameter_text, content, xor_of, IsBlock, block_text, parameters, Standing, stands, nothing, standing, IsTag, IsGroupOf, IsCountOf, most_count, number, IsNumber}
use Rattle.sentence_text.proofs.Spelling.{digit_value-capital_digit}
use Rattle.tag_block.specs.Writing.{IsWritable, IsWritableGroup, group_parameter, source_parameter, count_parameter, summed, block_with, block_of, said_by}

pub own : IsNumeralModel (λ ds. list_all is_digit ds ≡ true) number
own = numerals_by_fold (λ ds. list_all is_digit ds ≡ true) (search rules) (λ n ds. fold (λ m c. m * 10 + (c - 48)) n ds) (search rules)

number_is : (n most : ℕ) → n < 1000 → 3 ≤ most → IsNumber most n (decimal n)
number_is n most small more = record {
  some = decimal_nonempty n (omega arith);
  few = omega (arith, length-decimal-le 3 n (omega arith) (omega arith) (omega arith));
  digits = digits_decimal own n (omega arith);
  value = sym (digits_value-decimal own n (omega arith));
}

digit_is_value : (c : ℕ) → is_digit c ≡ true → is_value_byte c ≡ true
digit_is_value c h = grind arith

capital_is_value : (c : ℕ) → is_capital c ≡ true → is_value_byte c ≡ true
capital_is_value c h = grind arith

decimal_is_value : (n : ℕ) → n < 1000 → list_all is_value_byte (decimal n) ≡ true
decimal_is_value n small = all_weaker is_digit is_value_byte digit_is_value (decimal n) (digits_decimal own n (omega arith))

one_digit_value : (n : ℕ) → n ≤ 9 → is_value_byte (48 + n) ≡ true
one_digit_value n small = grind arith

sfi_is_value : (text : List ℕ) → IsSfi text → list_all is_value_byte text ≡ true
sfi_is_value text h =
    let letters = all_weaker is_capital is_value_byte capital_is_value (take 2 text) h.letters in
    let digits = all_weaker is_digit is_value_byte digit_is_value (drop 2 text) h.digits in
    subst (λ (x : List ℕ). list_all is_value_byte x ≡ true) (take-append-drop 2 text) (all_append is_value_byte (take 2 text) (drop 2 text) letters digits)

group_is : (part : GroupPart) → IsWritableGroup part → IsParameter (group_parameter part)
group_is part h = record {
  some = omega arith;
  code = refl;
  value = and_from (is_value_byte (48 + part.number)) _ (one_digit_value part.number (omega (arith, h.within, h.most)))
      (and_from (is_value_byte (48 + part.total)) _ (one_digit_value part.total h.most) (decimal_is_value part.code (omega (arith, h.small))));
}

source_is : (source : List ℕ) → IsSfi source → IsParameter (source_parameter source)
source_is source h = record { some = omega arith; code = refl; value = sfi_is_value source h }

count_is : (count : ℕ) → count ≤ most_count → IsParameter (count_parameter count)
count_is count small = record { some = omega arith; code = refl; value = decimal_is_value count (omega arith) }

summed_is : (first : Parameter) (others : List Parameter) → IsParameter first → All IsParameter others → xor_of (content first others) < 256 → IsBlock (summed first others)
summed_is first others h hs byte =
    let sum = xor_of (content first others) in
    let high = digit_value-capital_digit (sum / 16) (omega arith) in
    let low = digit_value-capital_digit (sum % 16) (omega arith) in
    record { first = h; others = hs; high_digit = omega (arith, high); low_digit = omega (arith, low); sum = omega (arith, high, low) }

block_is : (group : Option GroupPart) (source : List ℕ) (count : ℕ) → IfSome group IsWritableGroup → count ≤ most_count → IsSfi source
    → xor_of (content (block_with group source count).first (block_with group source count).others) < 256 → IsBlock (block_with group source count)
block_is None source count h small sfi byte =
    summed_is (source_parameter source) (count_parameter count ∷ []) (source_is source sfi) (All-cons IsParameter (count_parameter count) [] (count_is count small) (All-nil IsParameter)) byte
block_is (Some part) source count h small sfi byte =
    summed_is (group_parameter part) (source_parameter source ∷ count_parameter count ∷ []) (group_is part h)
    (All-cons IsParameter (source_parameter source) (count_parameter count ∷ []) (source_is source sfi) (All-cons IsParameter (count_parameter count) [] (count_is count small) (All-nil IsParameter))) byte

abbrev standing_with : Option GroupPart → List ℕ → ℕ → Standing
standing_with group source count = record { source = Some source; destination = None; group = option_map (λ part. (group_parameter part).value) group; count = Some (decimal count) }

stands_with : (group : Option GroupPart) (source : List ℕ) (count : ℕ) → fold stands nothing (parameters (block_with group source count)) ≡ standing_with group source count
stands_with None source count = refl
stands_with (Some part) source count = refl

group_said : (group : Option GroupPart) → IfSome group IsWritableGroup → IsGroupOf (option_map (λ part. (group_parameter part).value) group) group
group_said None h = refl
group_said (Some part) h = (
  part,
  refl,
  record {
    digits = decimal part.code;
    spelled = refl;
    first = h.first;
    within = h.within;
    most = h.most;
    code = number_is part.code 4 (omega (arith, h.small)) (omega arith);
    positive = h.code;
  },
)

is_tag : (parts : TagParts) → IsWritable parts → IsSfi parts.source → xor_of (content (block_of parts).first (block_of parts).others) < 256 → IsTag (said_by parts) (block_text (block_of parts))
is_tag parts h sfi byte =
    let b = block_of parts in
    let all : flat_map parameters (b ∷ []) ≡ parameters b = flat_map-cons parameters b [] ∙ append-nil (parameters b) in
    let stood : standing (b ∷ []) ≡ standing_with parts.group parts.source parts.count = ap (fold stands nothing) all ∙ stands_with parts.group parts.source parts.count in
    record {
      blocks = b ∷ [];
      some = omega arith;
      each = All-cons IsBlock b [] (block_is parts.group parts.source parts.count h.group h.small sfi byte) (All-nil IsBlock);
      spelled = sym (flat_map-cons block_text b [] ∙ append-nil (block_text b));
      source = ap (λ (v : Standing). v.source) stood;
      is_sfi = sfi;
      destination = ap (λ (v : Standing). v.destination) (sym stood);
      group = subst (λ (v : Standing). IsGroupOf v.group parts.group) (sym stood) (group_said parts.group h.group);
      count = subst (λ (v : Standing). IsCountOf v.count (Some parts.count)) (sym stood) (parts.count, refl, number_is parts.count 3 (omega (arith, h.small)) (omega arith));
    }

-- ---- the sum of what is written is a byte

abbrev is_byte : ℕ → Bool
is_byte c = nat_lt c 256

sum_below : (sum : ℕ) (bytes : List ℕ) → sum < 256 → list_all is_byte bytes ≡ true → fold bit_xor sum bytes < 256
sum_below sum [] s h = s
sum_below sum (c ∷ cs) s h =
    let p = and_parts (is_byte c) (list_all is_byte cs) h in
    let small : c < 256 = grind (arith, nat_tests) in
    let next : bit_xor sum c < 256 = grind (arith, widths) in
    sum_below (bit_xor sum c) cs next p.1

code_is_byte : (c : ℕ) → is_code_byte c ≡ true → is_byte c ≡ true
code_is_byte c h = grind (arith, nat_tests)

value_is_byte : (c : ℕ) → is_value_byte c ≡ true → is_byte c ≡ true
value_is_byte c h = grind (arith, nat_tests)

parameter_bytes : (p : Parameter) → IsParameter p → list_all is_byte (parameter_text p) ≡ true
parameter_bytes p h =
    all_append is_byte p.code (58 ∷ p.value) (all_weaker is_code_byte is_byte code_is_byte p.code h.code)
    (all_weaker is_value_byte is_byte value_is_byte p.value h.value)

others_bytes : (ps : List Parameter) → All IsParameter ps → list_all is_byte (flat_map (λ p. 44 ∷ parameter_text p) ps) ≡ true
others_bytes [] h = refl
others_bytes (p ∷ ps) h =
    ap (list_all is_byte) (flat_map-cons (λ p. 44 ∷ parameter_text p) p ps)
    ∙ all_append is_byte (44 ∷ parameter_text p) (flat_map (λ p. 44 ∷ parameter_text p) ps) (parameter_bytes p (All-head IsParameter p ps h))
    (others_bytes ps (All-tail IsParameter p ps h))

content_sum : (first : Parameter) (others : List Parameter) → IsParameter first → All IsParameter others → xor_of (content first others) < 256
content_sum first others h hs =
    sum_below 0 (content first others) (omega arith)
    (all_append is_byte (parameter_text first) (flat_map (λ p. 44 ∷ parameter_text p) others) (parameter_bytes first h) (others_bytes others hs))

block_sum : (group : Option GroupPart) (source : List ℕ) (count : ℕ) → IfSome group IsWritableGroup → count ≤ most_count → IsSfi source
    → xor_of (content (block_with group source count).first (block_with group source count).others) < 256
block_sum None source count h small sfi =
    content_sum (source_parameter source) (count_parameter count ∷ []) (source_is source sfi)
    (All-cons IsParameter (count_parameter count) [] (count_is count small) (All-nil IsParameter))
block_sum (Some part) source count h small sfi =
    content_sum (group_parameter part) (source_parameter source ∷ count_parameter count ∷ []) (group_is part h)
    (All-cons IsParameter (source_parameter source) (count_parameter count ∷ []) (source_is source sfi) (All-cons IsParameter (count_parameter count) [] (count_is count small) (All-nil IsParameter)))

-- what a block is written of is what it says
pub written : (parts : TagParts) → IsWritable parts → IsSfi parts.source → IsTag (said_by parts) (block_text (block_of parts))
written parts h sfi = is_tag parts h sfi (block_sum parts.group parts.source parts.count h.group h.small sfi)
