-- What is read is TAG blocks.
use Rattle.std.proofs.Common.{◌≡◌, ℕ, zero, suc, ◌+◌, ◌-◌, ◌*◌, ◌<◌, Bool, true, false, cond, List, [], ◌∷◌, ◌++◌, length, take, drop, drop-cons, All, Some, Result, Ok, Err, refl, sym, ap, subst, ◌∙◌, append_assoc, length-append, add-one, arith, inl, inr, Option, None}
use Rattle.std.specs.Prelude.{◌==◌, not, slice_index}
use Rattle.std.specs.Char.{digit_value}
use Rattle.std.specs.List.{prefix_len, fold, flat_map}
use Rattle.std.proofs.lemmas.Bool.{cases_Bool, cases_lt, eqb-true, eqb-false, not-false}
use Rattle.std.proofs.lemmas.List.{append-nil, take-append-drop, take_at, length-drop, get_or_past}
use Rattle.std.proofs.lemmas.List.Elements.{All-nil, All-cons}
use Rattle.std.proofs.lemmas.List.Folds.{length-prefix_len}
use Rattle.std.proofs.lemmas.List.Sums.{fold-append}
use Rattle.std.proofs.lemmas.List.Concat.{flat_map-cons}
use Rattle.sentence_text.proofs.Bytes.{front_passes}
use Rattle.tag_block.specs.declared.fault.TagFault.{TagFault}
use Rattle.tag_block.specs.Tag.{is_code_byte, is_value_byte, Parameter, IsParameter, parameter_text, content, Block, IsBlock, block_text, Standing, stands, is_code, parameters, xor_of}
use Rattle.sentence_text.specs.declared.sum.SumFault.{SumFault}
use Rattle.sentence_text.specs.Sum.{sum_fault}
use Rattle.sentence_text.proofs.Sums.{sum_found}
use Rattle.tag_block.specs.Reading.{Placed, Values, keep, Scan, parameter_at, parameters_at, behind_sum, block_end_at, block_at, blocks_at, text_of, ◌>>=◌}

abbrev pub standing_of : Values → Standing
standing_of v = record { source = text_of v.source; destination = text_of v.destination; group = text_of v.group; count = text_of v.count }

abbrev pub kept_by : Bool → Bool → Bool → Bool → Values → Placed → Values
kept_by s d g n v value = cond s (record v { source = Some value }) (cond d (record v { destination = Some value }) (cond g (record v { group = Some value }) (cond n (record v { count = Some value }) v)))

abbrev pub stands_by : Bool → Bool → Bool → Bool → Standing → List ℕ → Standing
stands_by s d g n v value = cond s (record v { source = Some value }) (cond d (record v { destination = Some value }) (cond g (record v { group = Some value }) (cond n (record v { count = Some value }) v)))

by_tests : (s d g n : Bool) (v : Values) (value : Placed) → standing_of (kept_by s d g n v value) ≡ stands_by s d g n (standing_of v) value.text
by_tests true d g n v value = refl
by_tests false true g n v value = refl
by_tests false false true n v value = refl
by_tests false false false true v value = refl
by_tests false false false false v value = refl

pub standing_of-keep : (v : Values) (code : List ℕ) (value : Placed) → standing_of (keep v code value) ≡ stands (standing_of v) (record { code = code; value = value.text })
standing_of-keep v code value = by_tests (is_code 115 code) (is_code 100 code) (is_code 103 code) (is_code 110 code) v value

-- ---- what no fault says

pub guard : {A : Type 0} (b : Bool) (f : TagFault) (rest : Result A TagFault) (x : A) → cond b (Err f) rest ≡ Ok x → (b ≡ false) × (rest ≡ Ok x)
guard true f rest x e = absurd cc
guard false f rest x e = (refl, e)

pub bind_ok : {A B : Type 0} (r : Result A TagFault) (f : A → Result B TagFault) (y : B) → (r >>= f) ≡ Ok y → (x : A) × (r ≡ Ok x) × (f x ≡ Ok y)
bind_ok (Ok x) f y e = (x, refl, e)
bind_ok (Err d) f y e = absurd cc

abbrev done : {A : Type 0} → A → Result A TagFault
done x = Ok x

ok_is : {A : Type 0} (x y : A) → done x ≡ done y → x ≡ y
ok_is x y e = cc

-- a byte other than 0 stands in the list
within : (bytes : List ℕ) (place c : ℕ) → slice_index bytes place ≡ suc c → place < length bytes
within bytes place c e = elim (cases_lt place (length bytes)) [
  | inl lt ↦ lt
  | inr le ↦ absurd (omega (arith, get_or_past bytes place 0 le, e))
]

pub split_at_byte : (bytes : List ℕ) (place c : ℕ) → slice_index bytes place ≡ suc c → bytes ≡ take place bytes ++ suc c ∷ drop (place + 1) bytes
split_at_byte bytes place c e =
    let here = drop-cons bytes place 0 (within bytes place c e) in
    sym (take-append-drop place bytes) ∙ ap (λ (x : List ℕ). take place bytes ++ x) (here ∙ ap (λ (b : ℕ). b ∷ drop (suc place) bytes) e ∙ ap (λ (n : ℕ). suc c ∷ drop n bytes) (sym (add-one place)))

pub record OneRead (s t : Scan) : Type 0 where
  pub p : Parameter
  pub is : IsParameter p
  pub spelled : s.rest ≡ parameter_text p ++ t.rest
  pub stood : standing_of t.values ≡ stands (standing_of s.values) p

pub parameter_found : (total : ℕ) (s t : Scan) → parameter_at total s ≡ Ok t → OneRead s t
unfolding parameter_at
parameter_found total s t e =
    let n = prefix_len is_code_byte s.rest in
    let text = drop (n + 1) s.rest in
    let v = prefix_len is_value_byte text in
    let value : Placed = record { place = total - length text; text = take v text } in
    let made : Scan = record { values = keep s.values (take n s.rest) value; rest = drop v text } in
    let a = guard (n == 0) _ _ t e in
    let b = guard (not (slice_index s.rest n == 58)) _ _ t a.1 in
    let is_t : made ≡ t = ok_is made t b.1 in
    let colon : slice_index s.rest n ≡ 58 = eqb-true (slice_index s.rest n) 58 (not-false _ b.0) in
    let len : length (take n s.rest) ≡ n = length-prefix_len is_code_byte s.rest in
    let some : n ≡ 0 → ⊥ = eqb-false n 0 a.0 in
    let p : Parameter = record { code = take n s.rest; value = take v text } in
    let whole : s.rest ≡ parameter_text p ++ drop v text =
    split_at_byte s.rest n 57 colon ∙ ap (λ (x : List ℕ). take n s.rest ++ 58 ∷ x) (sym (take-append-drop v text)) ∙ sym (append_assoc (take n s.rest) (58 ∷ take v text) (drop v text)) in
    let one : OneRead s made = record {
      p = p;
      is = record { some = omega (arith, len, some); code = front_passes is_code_byte s.rest; value = front_passes is_value_byte text };
      spelled = whole;
      stood = standing_of-keep s.values (take n s.rest) value;
    } in
    subst (λ (x : Scan). OneRead s x) is_t one

pub record ManyRead (s t : Scan) : Type 0 where
  pub first : Parameter
  pub others : List Parameter
  pub is_first : IsParameter first
  pub are : All IsParameter others
  pub spelled : s.rest ≡ content first others ++ t.rest
  pub stood : standing_of t.values ≡ fold stands (standing_of s.values) (first ∷ others)

abbrev behind : Scan → Scan
behind s = record { values = s.values; rest = drop 1 s.rest }

abbrev tail_text : Parameter → List ℕ
tail_text p = 44 ∷ parameter_text p

more_read : (s t u : Scan) → OneRead s t → slice_index t.rest 0 ≡ 44 → ManyRead (behind t) u → ManyRead s u
more_read s t u one comma many =
    let begins : t.rest ≡ 44 ∷ drop 1 t.rest = split_at_byte t.rest 0 43 comma in
    let after : flat_map tail_text (many.first ∷ many.others) ≡ 44 ∷ content many.first many.others = flat_map-cons tail_text many.first many.others in
    let rest : t.rest ≡ flat_map tail_text (many.first ∷ many.others) ++ u.rest =
    begins ∙ ap (λ (x : List ℕ). 44 ∷ x) many.spelled ∙ ap (λ (x : List ℕ). x ++ u.rest) (sym after) in
    record {
      first = one.p;
      others = many.first ∷ many.others;
      is_first = one.is;
      are = All-cons IsParameter many.first many.others many.is_first many.are;
      spelled = one.spelled ∙ ap (λ (x : List ℕ). parameter_text one.p ++ x) rest ∙ sym (append_assoc (parameter_text one.p) (flat_map tail_text (many.first ∷ many.others)) u.rest);
      stood = many.stood ∙ ap (λ (v : Standing). fold stands v (many.first ∷ many.others)) one.stood;
    }

last_read : (s t : Scan) → OneRead s t → ManyRead s t
last_read s t one = record {
  first = one.p;
  others = [];
  is_first = one.is;
  are = All-nil IsParameter;
  spelled = one.spelled ∙ ap (λ (x : List ℕ). x ++ t.rest) (sym (append-nil (parameter_text one.p)));
  stood = one.stood;
}

pub parameters_found : (n total : ℕ) (s t : Scan) → parameters_at n total s ≡ Ok t → ManyRead s t
unfolding parameters_at
parameters_found zero total s t e = absurd cc
parameters_found (suc n) total s t e =
    let b = bind_ok (parameter_at total s) (λ u. cond (slice_index u.rest 0 == 44) (parameters_at n total (behind u)) (Ok u)) t e in
    let one = parameter_found total s b.0 b.1 in
    elim (cases_Bool (slice_index b.0.rest 0 == 44)) [
      | inl comma ↦ more_read s b.0 t one (eqb-true (slice_index b.0.rest 0) 44 comma) (parameters_found n total (behind b.0) t (rw comma at b.2))
      | inr other ↦ subst (λ (x : Scan). ManyRead s x) (ok_is b.0 t (rw other at b.2)) (last_read s b.0 one)
    ]

-- ---- blocks

record EndRead (sum : ℕ) (s t : Scan) : Type 0 where
  high : ℕ
  low : ℕ
  high_digit : digit_value high < 16
  low_digit : digit_value low < 16
  is : digit_value high * 16 + digit_value low ≡ sum
  spelled : s.rest ≡ 42 ∷ high ∷ low ∷ 92 ∷ t.rest
  same : t.values ≡ s.values

four_bytes : (bytes : List ℕ) → slice_index bytes 0 ≡ 42 → slice_index bytes 3 ≡ 92 → bytes ≡ 42 ∷ slice_index bytes 1 ∷ slice_index bytes 2 ∷ 92 ∷ drop 4 bytes
four_bytes [] star close = absurd (omega arith)
four_bytes (a ∷ []) star close = absurd (omega arith)
four_bytes (a ∷ b ∷ []) star close = absurd (omega arith)
four_bytes (a ∷ b ∷ c ∷ []) star close = absurd (omega arith)
four_bytes (a ∷ b ∷ c ∷ d ∷ more) star close = rw (star, close) refl

sum_right : (place : ℕ) (f : Option SumFault) (next : Result Scan TagFault) (t : Scan) → behind_sum place f next ≡ Ok t → (f ≡ None) × (next ≡ Ok t)
sum_right place None next t e = (refl, e)
sum_right place (Some f) next t e = absurd cc

end_found : (total sum : ℕ) (s t : Scan) → block_end_at total sum s ≡ Ok t → EndRead sum s t
unfolding block_end_at
end_found total sum s t e =
    let made : Scan = record { values = s.values; rest = drop 4 s.rest } in
    let a = guard (not (slice_index s.rest 0 == 42)) _ _ t e in
    let b = sum_right (total - length s.rest) (sum_fault sum (slice_index s.rest 1) (slice_index s.rest 2)) _ t a.1 in
    let f = guard (not (slice_index s.rest 3 == 92)) _ _ t b.1 in
    let digits = sum_found sum (slice_index s.rest 1) (slice_index s.rest 2) b.0 in
    let one : EndRead sum s made = record {
      high = slice_index s.rest 1;
      low = slice_index s.rest 2;
      high_digit = digits.high_digit;
      low_digit = digits.low_digit;
      is = digits.is;
      spelled = four_bytes s.rest (eqb-true (slice_index s.rest 0) 42 (not-false _ a.0)) (eqb-true (slice_index s.rest 3) 92 (not-false _ f.0));
      same = refl;
    } in
    subst (λ (x : Scan). EndRead sum s x) (ok_is made t f.1) one

pub record BlockRead (s t : Scan) : Type 0 where
  pub block : Block
  pub is : IsBlock block
  pub spelled : 92 ∷ s.rest ≡ block_text block ++ t.rest
  pub stood : standing_of t.values ≡ fold stands (standing_of s.values) (parameters block)

pub content_taken : (text tail bytes : List ℕ) → bytes ≡ text ++ tail → take (length bytes - length tail) bytes ≡ text
content_taken text tail bytes e =
    let n : length bytes - length tail ≡ length text = omega (arith, ap length e, length-append text tail) in
    ap (λ (k : ℕ). take k bytes) n ∙ ap (λ (x : List ℕ). take (length text) x) e ∙ take_at text tail (length text) refl

pub block_found : (total : ℕ) (s t : Scan) → block_at total s ≡ Ok t → BlockRead s t
unfolding block_at
block_found total s t e =
    let b = bind_ok (parameters_at (length s.rest + 1) total s) (λ u. block_end_at total (xor_of (take (length s.rest - length u.rest) s.rest)) u) t e in
    let many = parameters_found (length s.rest + 1) total s b.0 b.1 in
    let ends = end_found total (xor_of (take (length s.rest - length b.0.rest) s.rest)) b.0 t b.2 in
    let text = content many.first many.others in
    let block : Block = record { first = many.first; others = many.others; high = ends.high; low = ends.low } in
    record {
      block = block;
      is = record { first = many.is_first; others = many.are; high_digit = ends.high_digit; low_digit = ends.low_digit; sum = ends.is ∙ ap xor_of (content_taken text b.0.rest s.rest many.spelled) };
      spelled = ap (λ (x : List ℕ). 92 ∷ x) (many.spelled ∙ ap (λ (x : List ℕ). text ++ x) ends.spelled ∙ sym (append_assoc text (42 ∷ ends.high ∷ ends.low ∷ 92 ∷ []) t.rest));
      stood = ap standing_of ends.same ∙ many.stood;
    }

pub record BlocksRead (s t : Scan) : Type 0 where
  pub blocks : List Block
  pub are : All IsBlock blocks
  pub spelled : s.rest ≡ flat_map block_text blocks ++ t.rest
  pub stood : standing_of t.values ≡ fold stands (standing_of s.values) (flat_map parameters blocks)
  pub stops : slice_index t.rest 0 ≡ 92 → ⊥

no_more : (s : Scan) → (slice_index s.rest 0 ≡ 92 → ⊥) → BlocksRead s s
no_more s stops = record { blocks = []; are = All-nil IsBlock; spelled = refl; stood = refl; stops = stops }

one_more : (s t u : Scan) → slice_index s.rest 0 ≡ 92 → BlockRead (behind s) t → BlocksRead t u → BlocksRead s u
one_more s t u begins one more =
    let front : s.rest ≡ 92 ∷ drop 1 s.rest = split_at_byte s.rest 0 91 begins in
    let whole : s.rest ≡ (block_text one.block ++ flat_map block_text more.blocks) ++ u.rest =
    front ∙ one.spelled ∙ ap (λ (x : List ℕ). block_text one.block ++ x) more.spelled ∙ sym (append_assoc (block_text one.block) (flat_map block_text more.blocks) u.rest) in
    let all : flat_map parameters (one.block ∷ more.blocks) ≡ parameters one.block ++ flat_map parameters more.blocks = flat_map-cons parameters one.block more.blocks in
    record {
      blocks = one.block ∷ more.blocks;
      are = All-cons IsBlock one.block more.blocks one.is more.are;
      spelled = whole ∙ ap (λ (x : List ℕ). x ++ u.rest) (sym (flat_map-cons block_text one.block more.blocks));
      stood = more.stood ∙ ap (λ (v : Standing). fold stands v (flat_map parameters more.blocks)) one.stood
          ∙ sym (fold-append stands (standing_of s.values) (parameters one.block) (flat_map parameters more.blocks)) ∙ ap (fold stands (standing_of s.values)) (sym all);
      stops = more.stops;
    }

block_shorter : (s t : Scan) → BlockRead s t → length t.rest < length s.rest
block_shorter s t one = omega (arith, ap length one.spelled, length-append (block_text one.block) t.rest, length-append (content one.block.first one.block.others) (42 ∷ one.block.high ∷ one.block.low ∷ 92 ∷ []))

pub blocks_found : (n total : ℕ) (s t : Scan) → length s.rest < n → blocks_at n total s ≡ Ok t → BlocksRead s t
unfolding blocks_at
blocks_found zero total s t enough e = absurd (omega arith)
blocks_found (suc n) total s t enough e = elim (cases_Bool (slice_index s.rest 0 == 92)) [
  | inl begins ↦
      let b = bind_ok (block_at total (behind s)) (blocks_at n total) t (rw begins at e) in
      let one = block_found total (behind s) b.0 b.1 in
      let is : slice_index s.rest 0 ≡ 92 = eqb-true (slice_index s.rest 0) 92 begins in
      let shorter : length b.0.rest < n = omega (arith, enough, block_shorter (behind s) b.0 one, length-drop 1 s.rest) in
      one_more s b.0 t is one (blocks_found n total b.0 t shorter b.2)
  | inr other ↦ subst (λ (x : Scan). BlocksRead s x) (ok_is s t (rw other at e)) (no_more s (eqb-false (slice_index s.rest 0) 92 other))
]
