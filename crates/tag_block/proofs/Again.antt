-- What is spelled as TAG blocks is read, whatever follows that begins no block.
use Rattle.std.proofs.Common.{◌≡◌, ℕ, zero, suc, ◌+◌, ◌-◌, ◌*◌, ◌<◌, ◌≤◌, true, false, List, [], ◌∷◌, ◌++◌, length, get_or, take, drop, All, Result, Ok, refl, sym, ap, subst, ◌∙◌, append_assoc, length-append, add-zero, arith}
use Rattle.std.specs.Prelude.{◌==◌, slice_index}
use Rattle.std.specs.Char.{digit_value}
use Rattle.std.specs.List.{prefix_len, fold, flat_map}
use Rattle.std.proofs.lemmas.Bool.{eq-eqb, ne_eqb}
use Rattle.std.proofs.lemmas.List.{append-nil, get_or-drop, drop-drop}
use Rattle.std.proofs.lemmas.List.Elements.{All-head, All-tail}
use Rattle.std.proofs.lemmas.List.Sums.{fold-append}
use Rattle.std.proofs.lemmas.List.Concat.{flat_map-cons}
use Rattle.sentence_text.proofs.Bytes.{Splits, splits}
use Rattle.sentence_text.proofs.Sums.{sum_again}
use Rattle.tag_block.specs.declared.fault.TagFault.{TagFault}
use Rattle.tag_block.specs.Tag.{is_code_byte, is_value_byte, Parameter, IsParameter, parameter_text, content, Block, IsBlock, block_text, Standing, stands, parameters, xor_of}
use Rattle.tag_block.specs.Reading.{Values, keep, Scan, parameter_at, parameters_at, block_end_at, block_at, blocks_at}
use Rattle.tag_block.proofs.Found.{standing_of, standing_of-keep, content_taken}

abbrev at_rest : Values → List ℕ → Scan
at_rest values rest = record { values = values; rest = rest }

abbrev ok_scan : Scan → Result Scan TagFault
ok_scan s = Ok s

-- reading gives values that stand so, and goes on at the tail
pub record Reads (result : Result Scan TagFault) (stood : Standing) (tail : List ℕ) : Type 0 where
  pub values : Values
  pub is : result ≡ Ok (at_rest values tail)
  pub stands : standing_of values ≡ stood

head_of_drop : (bytes : List ℕ) (n c : ℕ) (cs : List ℕ) → drop n bytes ≡ c ∷ cs → slice_index bytes n ≡ c
head_of_drop bytes n c cs e =
    sym (get_or-drop n bytes 0 0 ∙ ap (λ (k : ℕ). get_or bytes k 0) (add-zero n)) ∙ ap (λ (x : List ℕ). get_or x 0 0) e

tail_of_drop : (bytes : List ℕ) (n c : ℕ) (cs : List ℕ) → drop n bytes ≡ c ∷ cs → drop (n + 1) bytes ≡ cs
tail_of_drop bytes n c cs e = sym (drop-drop 1 n bytes) ∙ ap (λ (x : List ℕ). drop 1 x) e

abbrev read_so : ℕ → Values → List ℕ → List ℕ → Result Scan TagFault
read_so total values code text = let v = prefix_len is_value_byte text in
    Ok (record { values = keep values code (record { place = total - length text; text = take v text }); rest = drop v text })

reads_parameter : (total : ℕ) (s : Scan) (n : ℕ) → prefix_len is_code_byte s.rest ≡ n → (n ≡ 0 → ⊥) → slice_index s.rest n ≡ 58
    → parameter_at total s ≡ read_so total s.values (take n s.rest) (drop (n + 1) s.rest)
unfolding parameter_at
reads_parameter total s n e some colon =
    let a : (n == 0) ≡ false = ne_eqb n 0 some in
    let b : (slice_index s.rest n == 58) ≡ true = eq-eqb (slice_index s.rest n) 58 colon in
    rw (e, a, b) refl

pub parameter_again : (total : ℕ) (values : Values) (p : Parameter) (tail : List ℕ) → IsParameter p → prefix_len is_value_byte tail ≡ 0
    → Reads (parameter_at total (at_rest values (parameter_text p ++ tail))) (stands (standing_of values) p) tail
parameter_again total values p tail h stops =
    let rest = parameter_text p ++ tail in
    let parted : p.code ++ 58 ∷ (p.value ++ tail) ≡ rest = sym (append_assoc p.code (58 ∷ p.value) tail) in
    let c : Splits is_code_byte rest p.code (58 ∷ (p.value ++ tail)) = subst (λ (x : List ℕ). Splits is_code_byte x p.code (58 ∷ (p.value ++ tail))) parted (splits is_code_byte p.code (58 ∷ (p.value ++ tail)) h.code refl) in
    let n = prefix_len is_code_byte rest in
    let v = splits is_value_byte p.value tail h.value stops in
    let read = reads_parameter total (at_rest values rest) n refl (λ z. omega (arith, c.run, h.some, z)) (head_of_drop rest n 58 (p.value ++ tail) c.tail_is) in
    let text : drop (n + 1) rest ≡ p.value ++ tail = tail_of_drop rest n 58 (p.value ++ tail) c.tail_is in
    let place = total - length (p.value ++ tail) in
    let made = λ (x y : List ℕ). ok_scan (at_rest (keep values p.code (record { place = place; text = x })) y) in
    record {
      values = keep values p.code (record { place = place; text = p.value });
      is = read
          ∙ ap (λ (x : List ℕ). read_so total values x (drop (n + 1) rest)) c.front_is
          ∙ ap (λ (x : List ℕ). read_so total values p.code x) text
          ∙ ap (λ (x : List ℕ). made x (drop (prefix_len is_value_byte (p.value ++ tail)) (p.value ++ tail))) v.front_is
          ∙ ap (λ (y : List ℕ). made p.value y) v.tail_is;
      stands = standing_of-keep values p.code (record { place = place; text = p.value });
    }

abbrev tail_text : Parameter → List ℕ
tail_text p = 44 ∷ parameter_text p

goes_on : (n total : ℕ) (s t : Scan) → parameter_at total s ≡ Ok t → slice_index t.rest 0 ≡ 44 → parameters_at (suc n) total s ≡ parameters_at n total (at_rest t.values (drop 1 t.rest))
unfolding parameters_at
goes_on n total s t e comma =
    let test : (slice_index t.rest 0 == 44) ≡ true = eq-eqb (slice_index t.rest 0) 44 comma in
    rw (e, test) refl

ends : (n total : ℕ) (s t : Scan) → parameter_at total s ≡ Ok t → (slice_index t.rest 0 ≡ 44 → ⊥) → parameters_at (suc n) total s ≡ Ok t
unfolding parameters_at
ends n total s t e other =
    let test : (slice_index t.rest 0 == 44) ≡ false = ne_eqb (slice_index t.rest 0) 44 other in
    rw (e, test) refl

pub parameters_again : (n total : ℕ) (values : Values) (first : Parameter) (others : List Parameter) (tail : List ℕ) → length others < n → IsParameter first → All IsParameter others
    → prefix_len is_value_byte tail ≡ 0 → (slice_index tail 0 ≡ 44 → ⊥)
    → Reads (parameters_at n total (at_rest values (content first others ++ tail))) (fold stands (standing_of values) (first ∷ others)) tail
parameters_again zero total values first others tail enough h hs stops other = absurd (omega arith)
parameters_again (suc n) total values first [] tail enough h hs stops other =
    let one = parameter_again total values first tail h stops in
    let same : content first [] ++ tail ≡ parameter_text first ++ tail = ap (λ (x : List ℕ). x ++ tail) (append-nil (parameter_text first)) in
    record {
      values = one.values;
      is = ap (λ (x : List ℕ). parameters_at (suc n) total (at_rest values x)) same ∙ ends n total (at_rest values (parameter_text first ++ tail)) (at_rest one.values tail) one.is other;
      stands = one.stands;
    }
parameters_again (suc n) total values first (p ∷ ps) tail enough h hs stops other =
    let next = 44 ∷ (content p ps ++ tail) in
    let one = parameter_again total values first next h refl in
    let many = parameters_again n total one.values p ps tail (omega arith) (All-head IsParameter p ps hs) (All-tail IsParameter p ps hs) stops other in
    let after : flat_map tail_text (p ∷ ps) ≡ 44 ∷ content p ps = flat_map-cons tail_text p ps in
    let same : content first (p ∷ ps) ++ tail ≡ parameter_text first ++ next =
    append_assoc (parameter_text first) (flat_map tail_text (p ∷ ps)) tail ∙ ap (λ (x : List ℕ). parameter_text first ++ (x ++ tail)) after in
    record {
      values = many.values;
      is = ap (λ (x : List ℕ). parameters_at (suc n) total (at_rest values x)) same
          ∙ goes_on n total (at_rest values (parameter_text first ++ next)) (at_rest one.values next) one.is refl
          ∙ many.is;
      stands = many.stands ∙ ap (λ (v : Standing). fold stands v (p ∷ ps)) one.stands;
    }

-- ---- blocks

abbrev ending : ℕ → ℕ → List ℕ → List ℕ
ending high low tail = 42 ∷ high ∷ low ∷ 92 ∷ tail

end_again : (total sum high low : ℕ) (values : Values) (tail : List ℕ) → digit_value high < 16 → digit_value low < 16 → digit_value high * 16 + digit_value low ≡ sum
    → block_end_at total sum (at_rest values (ending high low tail)) ≡ Ok (at_rest values tail)
unfolding block_end_at
end_again total sum high low values tail h l e = rw (sum_again sum high low h l e) refl

block_by : (total : ℕ) (s t u : Scan) → parameters_at (length s.rest + 1) total s ≡ Ok t → block_end_at total (xor_of (take (length s.rest - length t.rest) s.rest)) t ≡ Ok u → block_at total s ≡ Ok u
unfolding block_at
block_by total s t u e f = rw e f

others_shorter : (others : List Parameter) → length others ≤ length (flat_map tail_text others)
others_shorter [] = omega arith
others_shorter (p ∷ ps) = omega (arith, others_shorter ps, ap length (flat_map-cons tail_text p ps), length-append (tail_text p) (flat_map tail_text ps))

abbrev inner : Block → List ℕ → List ℕ
inner b tail = content b.first b.others ++ ending b.high b.low tail

pub block_again : (total : ℕ) (values : Values) (b : Block) (tail : List ℕ) → IsBlock b
    → Reads (block_at total (at_rest values (inner b tail))) (fold stands (standing_of values) (parameters b)) tail
block_again total values b tail h =
    let text = content b.first b.others in
    let rest = inner b tail in
    let after = ending b.high b.low tail in
    let enough : length b.others < length rest + 1 = omega (arith, length-append text after, length-append (parameter_text b.first) (flat_map tail_text b.others), others_shorter b.others) in
    let many = parameters_again (length rest + 1) total values b.first b.others after enough h.first h.others refl (λ e. omega (arith, e)) in
    let sum : digit_value b.high * 16 + digit_value b.low ≡ xor_of (take (length rest - length after) rest) = h.sum ∙ ap xor_of (sym (content_taken text after rest refl)) in
    record {
      values = many.values;
      is = block_by total (at_rest values rest) (at_rest many.values after) (at_rest many.values tail) many.is (end_again total (xor_of (take (length rest - length after) rest)) b.high b.low many.values tail h.high_digit h.low_digit sum);
      stands = many.stands;
    }

next_block : (n total : ℕ) (s t : Scan) → slice_index s.rest 0 ≡ 92 → block_at total (at_rest s.values (drop 1 s.rest)) ≡ Ok t → blocks_at (suc n) total s ≡ blocks_at n total t
unfolding blocks_at
next_block n total s t begins e =
    let test : (slice_index s.rest 0 == 92) ≡ true = eq-eqb (slice_index s.rest 0) 92 begins in
    rw (test, e) refl

no_block : (n total : ℕ) (s : Scan) → (slice_index s.rest 0 ≡ 92 → ⊥) → blocks_at (suc n) total s ≡ Ok s
unfolding blocks_at
no_block n total s other =
    let test : (slice_index s.rest 0 == 92) ≡ false = ne_eqb (slice_index s.rest 0) 92 other in
    rw test refl

pub blocks_again : (n total : ℕ) (values : Values) (blocks : List Block) (tail : List ℕ) → length blocks < n → All IsBlock blocks → (slice_index tail 0 ≡ 92 → ⊥)
    → Reads (blocks_at n total (at_rest values (flat_map block_text blocks ++ tail))) (fold stands (standing_of values) (flat_map parameters blocks)) tail
blocks_again zero total values blocks tail enough hs stops = absurd (omega arith)
blocks_again (suc n) total values [] tail enough hs stops = record { values = values; is = no_block n total (at_rest values tail) stops; stands = refl }
blocks_again (suc n) total values (b ∷ bs) tail enough hs stops =
    let next = flat_map block_text bs ++ tail in
    let one = block_again total values b next (All-head IsBlock b bs hs) in
    let more = blocks_again n total one.values bs tail (omega arith) (All-tail IsBlock b bs hs) stops in
    let same : flat_map block_text (b ∷ bs) ++ tail ≡ 92 ∷ inner b next =
    ap (λ (x : List ℕ). x ++ tail) (flat_map-cons block_text b bs) ∙ append_assoc (block_text b) (flat_map block_text bs) tail
    ∙ ap (λ (x : List ℕ). 92 ∷ x) (append_assoc (content b.first b.others) (ending b.high b.low []) next) in
    record {
      values = more.values;
      is = ap (λ (x : List ℕ). blocks_at (suc n) total (at_rest values x)) same
          ∙ next_block n total (at_rest values (92 ∷ inner b next)) (at_rest one.values next) refl one.is
          ∙ more.is;
      stands = more.stands ∙ ap (λ (v : Standing). fold stands v (flat_map parameters bs)) one.stands
          ∙ sym (fold-append stands (standing_of values) (parameters b) (flat_map parameters bs)) ∙ ap (fold stands (standing_of values)) (sym (flat_map-cons parameters b bs));
    }
