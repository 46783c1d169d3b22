-- The form of TAG blocks byte by byte: where a reader is, and which bytes it can go on with.
use Rattle.std.proofs.Common.{◌≡◌, ℕ, ◌<◌, ◌≤◌, true, false, cond, List, [], ◌∷◌, ◌++◌, length, All, Option, Some, None, refl, sym, ap, subst, ◌∙◌, append_assoc, length-append, arith, inl, inr}
use Rattle.std.specs.Prelude.{◌==◌, nat_le}
use Rattle.std.specs.Char.{digit_value}
use Rattle.std.specs.List.{list_all, flat_map}
use Rattle.std.proofs.lemmas.Bool.{cases_Bool, and_parts, and_from, eqb-true, leb-false}
use Rattle.std.proofs.lemmas.List.Elements.{All-nil, All-cons, All-head, All-tail}
use Rattle.std.proofs.lemmas.List.Concat.{flat_map-cons}
use Rattle.tag_block.specs.Tag.{is_code_byte, is_value_byte, Parameter, IsParameter, parameter_text, content, Block, block_text}
use Rattle.tag_block.specs.FormLaws.{HasForm, Begins}

pub data State : Type 0 where
  Outside : State
  Opening : State
  Coding : State
  Valuing : State
  High : State
  Low : State
  Closing : State

abbrev pub step : State → ℕ → Option State
step Outside c = cond (c == 92) (Some Opening) None
step Opening c = cond (is_code_byte c) (Some Coding) None
step Coding c = cond (is_code_byte c) (Some Coding) (cond (c == 58) (Some Valuing) None)
step Valuing c = cond (is_value_byte c) (Some Valuing) (cond (c == 44) (Some Opening) (cond (c == 42) (Some High) None))
step High c = cond (nat_le 16 (digit_value c)) None (Some Low)
step Low c = cond (nat_le 16 (digit_value c)) None (Some Closing)
step Closing c = cond (c == 92) (Some Outside) None

abbrev pub moved : Option State → ℕ → Option State
moved None c = None
moved (Some s) c = step s c

abbrev pub run : Option State → List ℕ → Option State
run s [] = s
run s (c ∷ cs) = run (moved s c) cs

pub run-append : (s : Option State) (xs ys : List ℕ) → run s (xs ++ ys) ≡ run (run s xs) ys
run-append s [] ys = refl
run-append s (c ∷ cs) ys = run-append (moved s c) cs ys

pub run-none : (xs : List ℕ) → run None xs ≡ None
run-none [] = refl
run-none (c ∷ cs) = run-none cs

abbrev some_state : State → Option State
some_state s = Some s

dead : (xs : List ℕ) (s : State) → run None xs ≡ some_state s → ⊥
dead xs s e = let n = run-none xs in absurd cc

-- ---- what is left to read, where a reader is

abbrev tail_text : Parameter → List ℕ
tail_text p = 44 ∷ parameter_text p

record Tail (xs : List ℕ) : Type 0 where
  blocks : List Block
  each : All HasForm blocks
  is : xs ≡ flat_map block_text blocks

record AtClosing (xs : List ℕ) : Type 0 where
  rest : List ℕ
  tail : Tail rest
  is : xs ≡ 92 ∷ rest

record AtLow (xs : List ℕ) : Type 0 where
  low : ℕ
  digit : digit_value low < 16
  rest : List ℕ
  tail : AtClosing rest
  is : xs ≡ low ∷ rest

record AtHigh (xs : List ℕ) : Type 0 where
  high : ℕ
  digit : digit_value high < 16
  rest : List ℕ
  tail : AtLow rest
  is : xs ≡ high ∷ rest

record AtValue (xs : List ℕ) : Type 0 where
  value : List ℕ
  passes : list_all is_value_byte value ≡ true
  others : List Parameter
  are : All IsParameter others
  rest : List ℕ
  tail : AtHigh rest
  is : xs ≡ value ++ (flat_map tail_text others ++ 42 ∷ rest)

record AtCode (xs : List ℕ) : Type 0 where
  code : List ℕ
  passes : list_all is_code_byte code ≡ true
  rest : List ℕ
  tail : AtValue rest
  is : xs ≡ code ++ 58 ∷ rest

record AtOpening (xs : List ℕ) : Type 0 where
  whole : AtCode xs
  some : 1 ≤ length whole.code

abbrev Left : State → List ℕ → Type 0
Left Outside xs = Tail xs
Left Opening xs = AtOpening xs
Left Coding xs = AtCode xs
Left Valuing xs = AtValue xs
Left High xs = AtHigh xs
Left Low xs = AtLow xs
Left Closing xs = AtClosing xs

one_code : (c : ℕ) (cs : List ℕ) → is_code_byte c ≡ true → AtCode cs → AtOpening (c ∷ cs)
one_code c cs h left = record {
  whole = record { code = c ∷ left.code; passes = and_from (is_code_byte c) (list_all is_code_byte left.code) h left.passes; rest = left.rest; tail = left.tail; is = ap (λ (x : List ℕ). c ∷ x) left.is };
  some = omega arith;
}

no_code : (cs : List ℕ) → AtValue cs → AtCode (58 ∷ cs)
no_code cs left = record { code = []; passes = refl; rest = cs; tail = left; is = refl }

one_value : (c : ℕ) (cs : List ℕ) → is_value_byte c ≡ true → AtValue cs → AtValue (c ∷ cs)
one_value c cs h left = record {
  value = c ∷ left.value;
  passes = and_from (is_value_byte c) (list_all is_value_byte left.value) h left.passes;
  others = left.others;
  are = left.are;
  rest = left.rest;
  tail = left.tail;
  is = ap (λ (x : List ℕ). c ∷ x) left.is;
}

regrouped : (code value others rest : List ℕ) → code ++ 58 ∷ (value ++ (others ++ rest)) ≡ ((code ++ 58 ∷ value) ++ others) ++ rest
regrouped code value others rest = sym (append_assoc (code ++ 58 ∷ value) others rest ∙ append_assoc code (58 ∷ value) (others ++ rest))

parameter_of : (cs : List ℕ) → AtOpening cs → Parameter
parameter_of cs left = record { code = left.whole.code; value = left.whole.tail.value }

is_parameter : (cs : List ℕ) (left : AtOpening cs) → IsParameter (parameter_of cs left)
unfolding parameter_of
is_parameter cs left = record { some = left.some; code = left.whole.passes; value = left.whole.tail.passes }

one_comma : (cs : List ℕ) → AtOpening cs → AtValue (44 ∷ cs)
unfolding parameter_of
one_comma cs left =
    let v = left.whole.tail in
    let p = parameter_of cs left in
    let f = flat_map tail_text v.others in
    record {
      value = [];
      passes = refl;
      others = p ∷ v.others;
      are = All-cons IsParameter p v.others (is_parameter cs left) v.are;
      rest = v.rest;
      tail = v.tail;
      is = ap (λ (x : List ℕ). 44 ∷ x) (left.whole.is ∙ ap (λ (x : List ℕ). left.whole.code ++ 58 ∷ x) v.is ∙ regrouped left.whole.code v.value f (42 ∷ v.rest))
          ∙ ap (λ (x : List ℕ). x ++ 42 ∷ v.rest) (sym (flat_map-cons tail_text p v.others));
    }

no_value : (cs : List ℕ) → AtHigh cs → AtValue (42 ∷ cs)
no_value cs left = record { value = []; passes = refl; others = []; are = All-nil IsParameter; rest = cs; tail = left; is = refl }

one_block : (cs : List ℕ) → AtOpening cs → Tail (92 ∷ cs)
unfolding parameter_of
one_block cs left =
    let v = left.whole.tail in
    let p = parameter_of cs left in
    let f = flat_map tail_text v.others in
    let h = v.tail in
    let l = h.tail in
    let c = l.tail in
    let t = c.tail in
    let b : Block = record { first = p; others = v.others; high = h.high; low = l.low } in
    let is_b : HasForm b = record { first = is_parameter cs left; others = v.are; high_digit = h.digit; low_digit = l.digit } in
    let more = flat_map block_text t.blocks in
    let back : v.rest ≡ h.high ∷ l.low ∷ 92 ∷ more = h.is ∙ ap (λ (x : List ℕ). h.high ∷ x) (l.is ∙ ap (λ (x : List ℕ). l.low ∷ x) (c.is ∙ ap (λ (x : List ℕ). 92 ∷ x) t.is)) in
    let front : cs ≡ content b.first b.others ++ 42 ∷ v.rest = left.whole.is ∙ ap (λ (x : List ℕ). left.whole.code ++ 58 ∷ x) v.is ∙ regrouped left.whole.code v.value f (42 ∷ v.rest) in
    let all : 92 ∷ cs ≡ block_text b ++ more =
    ap (λ (x : List ℕ). 92 ∷ x) (front ∙ ap (λ (x : List ℕ). content b.first b.others ++ 42 ∷ x) back
    ∙ sym (append_assoc (content b.first b.others) (42 ∷ h.high ∷ l.low ∷ 92 ∷ []) more)) in
    record { blocks = b ∷ t.blocks; each = All-cons HasForm b t.blocks is_b t.each; is = all ∙ sym (flat_map-cons block_text b t.blocks) }

left_is : (s : State) (c d : ℕ) (cs : List ℕ) → c ≡ d → Left s (d ∷ cs) → Left s (c ∷ cs)
left_is s c d cs e left = subst (λ (x : ℕ). Left s (x ∷ cs)) (sym e) left

sound : (s : State) (xs : List ℕ) → run (Some s) xs ≡ some_state Outside → Left s xs
sound Outside [] e = record { blocks = []; each = All-nil HasForm; is = refl }
sound Opening [] e = absurd cc
sound Coding [] e = absurd cc
sound Valuing [] e = absurd cc
sound High [] e = absurd cc
sound Low [] e = absurd cc
sound Closing [] e = absurd cc
sound Outside (c ∷ cs) e = elim (cases_Bool (c == 92)) [
  | inl h ↦ left_is Outside c 92 cs (eqb-true c 92 h) (one_block cs (sound Opening cs (rw h at e)))
  | inr h ↦ absurd (dead cs Outside (rw h at e))
]
sound Opening (c ∷ cs) e = elim (cases_Bool (is_code_byte c)) [
  | inl h ↦ one_code c cs h (sound Coding cs (rw h at e))
  | inr h ↦ absurd (dead cs Outside (rw h at e))
]
sound Coding (c ∷ cs) e = elim (cases_Bool (is_code_byte c)) [
  | inl h ↦ (one_code c cs h (sound Coding cs (rw h at e))).whole
  | inr h ↦ elim (cases_Bool (c == 58)) [
    | inl k ↦ left_is Coding c 58 cs (eqb-true c 58 k) (no_code cs (sound Valuing cs (rw (h, k) at e)))
    | inr k ↦ absurd (dead cs Outside (rw (h, k) at e))
  ]
]
sound Valuing (c ∷ cs) e = elim (cases_Bool (is_value_byte c)) [
  | inl h ↦ one_value c cs h (sound Valuing cs (rw h at e))
  | inr h ↦ elim (cases_Bool (c == 44)) [
    | inl k ↦ left_is Valuing c 44 cs (eqb-true c 44 k) (one_comma cs (sound Opening cs (rw (h, k) at e)))
    | inr k ↦ elim (cases_Bool (c == 42)) [
      | inl m ↦ left_is Valuing c 42 cs (eqb-true c 42 m) (no_value cs (sound High cs (rw (h, k, m) at e)))
      | inr m ↦ absurd (dead cs Outside (rw (h, k, m) at e))
    ]
  ]
]
sound High (c ∷ cs) e = elim (cases_Bool (nat_le 16 (digit_value c))) [
  | inl h ↦ absurd (dead cs Outside (rw h at e))
  | inr h ↦ record { high = c; digit = leb-false 16 (digit_value c) h; rest = cs; tail = sound Low cs (rw h at e); is = refl }
]
sound Low (c ∷ cs) e = elim (cases_Bool (nat_le 16 (digit_value c))) [
  | inl h ↦ absurd (dead cs Outside (rw h at e))
  | inr h ↦ record { low = c; digit = leb-false 16 (digit_value c) h; rest = cs; tail = sound Closing cs (rw h at e); is = refl }
]
sound Closing (c ∷ cs) e = elim (cases_Bool (c == 92)) [
  | inl h ↦ left_is Closing c 92 cs (eqb-true c 92 h) (record { rest = cs; tail = sound Outside cs (rw h at e); is = refl })
  | inr h ↦ absurd (dead cs Outside (rw h at e))
]

-- ---- every reader can come to the end of a block

-- what ends a block that is begun
abbrev closing : State → List ℕ
closing Outside = []
closing Opening = 97 ∷ 58 ∷ 42 ∷ 48 ∷ 48 ∷ 92 ∷ []
closing Coding = 58 ∷ 42 ∷ 48 ∷ 48 ∷ 92 ∷ []
closing Valuing = 42 ∷ 48 ∷ 48 ∷ 92 ∷ []
closing High = 48 ∷ 48 ∷ 92 ∷ []
closing Low = 48 ∷ 92 ∷ []
closing Closing = 92 ∷ []

closes : (s : State) → run (Some s) (closing s) ≡ some_state Outside
closes Outside = refl
closes Opening = refl
closes Coding = refl
closes Valuing = refl
closes High = refl
closes Low = refl
closes Closing = refl

-- and one block more, so that there is one: `\a:*00\`
abbrev ending : State → List ℕ
ending s = closing s ++ 92 ∷ closing Opening

some_blocks : (blocks : List Block) (bytes : List ℕ) → bytes ≡ flat_map block_text blocks → 1 ≤ length bytes → 1 ≤ length blocks
some_blocks [] bytes e some = absurd (omega (arith, ap length e, some))
some_blocks (b ∷ bs) bytes e some = omega arith

pub begins : (front : List ℕ) (s : State) → run (Some Outside) front ≡ some_state s → Begins front
begins front s e =
    let front' = front ++ closing s in
    let ran : run (Some Outside) front' ≡ some_state Outside = run-append (Some Outside) front (closing s) ∙ ap (λ (o : Option State). run o (closing s)) e ∙ closes s in
    let all : run (Some Outside) (front ++ ending s) ≡ some_state Outside =
    ap (run (Some Outside)) (sym (append_assoc front (closing s) (92 ∷ closing Opening))) ∙ run-append (Some Outside) front' (92 ∷ closing Opening)
    ∙ ap (λ (o : Option State). run o (92 ∷ closing Opening)) ran in
    let t : Tail (front ++ ending s) = sound Outside (front ++ ending s) all in
    record {
      tail = ending s;
      whole = record {
        blocks = t.blocks;
        some = some_blocks t.blocks (front ++ ending s) t.is (omega (arith, length-append front (ending s), length-append (closing s) (92 ∷ closing Opening)));
        each = t.each;
        spelled = t.is;
      };
    }

-- ---- and what is spelled is run over

codes_run : (code : List ℕ) → list_all is_code_byte code ≡ true → run (Some Coding) code ≡ some_state Coding
codes_run [] h = refl
codes_run (c ∷ cs) h =
    let p = and_parts (is_code_byte c) (list_all is_code_byte cs) h in
    rw p.0 (codes_run cs p.1)

pub some_codes_run : (code : List ℕ) → 1 ≤ length code → list_all is_code_byte code ≡ true → run (Some Opening) code ≡ some_state Coding
some_codes_run [] some h = absurd (omega (arith, some))
some_codes_run (c ∷ cs) some h =
    let p = and_parts (is_code_byte c) (list_all is_code_byte cs) h in
    rw p.0 (codes_run cs p.1)

pub values_run : (value : List ℕ) → list_all is_value_byte value ≡ true → run (Some Valuing) value ≡ some_state Valuing
values_run [] h = refl
values_run (c ∷ cs) h =
    let p = and_parts (is_value_byte c) (list_all is_value_byte cs) h in
    rw p.0 (values_run cs p.1)

pub parameter_runs : (p : Parameter) → IsParameter p → run (Some Opening) (parameter_text p) ≡ some_state Valuing
parameter_runs p h =
    run-append (Some Opening) p.code (58 ∷ p.value) ∙ ap (λ (o : Option State). run o (58 ∷ p.value)) (some_codes_run p.code h.some h.code) ∙ values_run p.value h.value

others_run : (ps : List Parameter) → All IsParameter ps → run (Some Valuing) (flat_map tail_text ps) ≡ some_state Valuing
others_run [] h = refl
others_run (p ∷ ps) h =
    ap (run (Some Valuing)) (flat_map-cons tail_text p ps) ∙ run-append (Some Valuing) (tail_text p) (flat_map tail_text ps)
    ∙ ap (λ (o : Option State). run o (flat_map tail_text ps)) (parameter_runs p (All-head IsParameter p ps h)) ∙ others_run ps (All-tail IsParameter p ps h)

content_runs : (first : Parameter) (others : List Parameter) → IsParameter first → All IsParameter others → run (Some Opening) (content first others) ≡ some_state Valuing
content_runs first others h hs =
    run-append (Some Opening) (parameter_text first) (flat_map tail_text others) ∙ ap (λ (o : Option State). run o (flat_map tail_text others)) (parameter_runs first h) ∙ others_run others hs

digit_test : (c : ℕ) → digit_value c < 16 → nat_le 16 (digit_value c) ≡ false
digit_test c h = grind arith

sum_runs : (high low : ℕ) → digit_value high < 16 → digit_value low < 16 → run (Some Valuing) (42 ∷ high ∷ low ∷ 92 ∷ []) ≡ some_state Outside
sum_runs high low h l = rw (digit_test high h, digit_test low l) refl

block_runs : (b : Block) → HasForm b → run (Some Outside) (block_text b) ≡ some_state Outside
block_runs b h =
    let end = 42 ∷ b.high ∷ b.low ∷ 92 ∷ [] in
    run-append (Some Opening) (content b.first b.others) end ∙ ap (λ (o : Option State). run o end) (content_runs b.first b.others h.first h.others)
    ∙ sum_runs b.high b.low h.high_digit h.low_digit

blocks_run : (bs : List Block) → All HasForm bs → run (Some Outside) (flat_map block_text bs) ≡ some_state Outside
blocks_run [] h = refl
blocks_run (b ∷ bs) h =
    ap (run (Some Outside)) (flat_map-cons block_text b bs) ∙ run-append (Some Outside) (block_text b) (flat_map block_text bs)
    ∙ ap (λ (o : Option State). run o (flat_map block_text bs)) (block_runs b (All-head HasForm b bs h)) ∙ blocks_run bs (All-tail HasForm b bs h)

pub begins_none : (front : List ℕ) → run (Some Outside) front ≡ None → Begins front → ⊥
begins_none front e b =
    let s = b.whole in
    let ran : run (Some Outside) (front ++ b.tail) ≡ some_state Outside = ap (run (Some Outside)) s.spelled ∙ blocks_run s.blocks s.each in
    dead b.tail Outside (ap (λ (o : Option State). run o b.tail) (sym e) ∙ sym (run-append (Some Outside) front b.tail) ∙ ran)
