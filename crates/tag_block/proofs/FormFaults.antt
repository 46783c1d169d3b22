-- Where the reader of a line stops, its bytes stop to begin blocks.
use Rattle.std.proofs.Common.{◌≡◌, ◌⊎◌, ℕ, zero, suc, ◌+◌, ◌-◌, ◌*◌, ◌<◌, ◌≤◌, Bool, true, false, cond, List, [], ◌∷◌, ◌++◌, length, take, drop, Option, Some, None, Result, Ok, Err, refl, sym, ap, subst, ◌∙◌, append_assoc, length-append, add-zero, arith, inl, inr}
use Rattle.std.specs.Prelude.{◌==◌, nat_le, slice_index}
use Rattle.std.specs.Char.{digit_value}
use Rattle.std.specs.List.{prefix_len}
use Rattle.std.proofs.lemmas.Bool.{cases_Bool, cases_lt, and_parts, eqb-true, eqb-false}
use Rattle.std.proofs.lemmas.List.{drop_more, take-append-drop, take_at, get_or-drop, length-drop, get_or_past}
use Rattle.std.proofs.lemmas.List.Folds.{length-prefix_len}
use Rattle.std.proofs.lemmas.List.Sums.{prefix_len-le-length, prefix_len_stops}
use Rattle.sentence_text.proofs.Bytes.{front_passes}
use Rattle.sentence_text.specs.Sum.{sum_fault}
use Rattle.tag_block.specs.declared.fault.TagFault.{TagFault}
use Rattle.tag_block.specs.declared.fault.TagRule.TheVariants as rules
use Rattle.tag_block.specs.declared.group_part.GroupPart.{GroupPart}
use Rattle.tag_block.specs.Tag.{is_code_byte, is_value_byte, xor_of, is_code, Said, Standing}
use Rattle.tag_block.specs.Reading.{Placed, Values, no_values, Scan, parameter_at, parameters_at, block_end_at, block_at, blocks_at, number_in, group_in, group_said, count_said, source_said, is_sfi, found_or, text_of, settle, read, ◌>>=◌}
use Rattle.tag_block.proofs.Found.{blocks_found, BlocksRead}
use Rattle.tag_block.proofs.Settling.{group_again, number_again}
use Rattle.tag_block.specs.FormLaws.{Begins, EndsAt, AreFront, StandsAt, HasNoGroupAt, HasNoCountAt, FormFaultsTell}
use Rattle.tag_block.proofs.FormMachine.{State, Outside, Opening, Coding, Valuing, High, Low, Closing, step, run, run-append, begins, begins_none, some_codes_run, values_run}

abbrev some_state : State → Option State
some_state s = Some s

-- ---- a reader in a line

-- a reader is here, behind what stands in front of these bytes and n of them
record At (line : List ℕ) (s : State) (rest : List ℕ) (n : ℕ) : Type 0 where
  front : List ℕ
  whole : line ≡ front ++ drop n rest
  ran : run (Some Outside) front ≡ some_state s
  fits : n ≤ length rest
  less : length rest ≤ length line

-- the bytes behind its place are the rest now
moves : (line : List ℕ) (s : State) (rest : List ℕ) (n : ℕ) → At line s rest n → At line s (drop n rest) 0
moves line s rest n at = record { front = at.front; whole = at.whole; ran = at.ran; fits = omega arith; less = omega (arith, at.less, length-drop n rest) }

goes_over : (line : List ℕ) (s t : State) (rest : List ℕ) (n : ℕ) → At line s rest 0 → n ≤ length rest → run (Some s) (take n rest) ≡ some_state t → At line t rest n
goes_over line s t rest n at fits r = record {
  front = at.front ++ take n rest;
  whole = at.whole ∙ ap (λ (x : List ℕ). at.front ++ x) (sym (take-append-drop n rest)) ∙ sym (append_assoc at.front (take n rest) (drop n rest));
  ran = run-append (Some Outside) at.front (take n rest) ∙ ap (λ (o : Option State). run o (take n rest)) at.ran ∙ r;
  fits = fits;
  less = at.less;
}

one_more : (line front rest : List ℕ) (n : ℕ) → line ≡ front ++ drop n rest → n < length rest → line ≡ (front ++ slice_index rest n ∷ []) ++ drop (n + 1) rest
one_more line front rest n whole lt =
    whole ∙ ap (λ (x : List ℕ). front ++ x) (drop_more rest n 0 lt) ∙ sym (append_assoc front (slice_index rest n ∷ []) (drop (n + 1) rest))

one_step : (front : List ℕ) (s : State) (c : ℕ) → run (Some Outside) front ≡ some_state s → run (Some Outside) (front ++ c ∷ []) ≡ step s c
one_step front s c ran = run-append (Some Outside) front (c ∷ []) ∙ ap (λ (o : Option State). run o (c ∷ [])) ran

-- no state goes on with 0, which is read behind the end of a line
no_zero : (s : State) → step s 0 ≡ None
no_zero Outside = refl
no_zero Opening = refl
no_zero Coding = refl
no_zero Valuing = refl
no_zero High = refl
no_zero Low = refl
no_zero Closing = refl

within : (s t : State) (rest : List ℕ) (n : ℕ) → step s (slice_index rest n) ≡ some_state t → n < length rest
within s t rest n e = elim (cases_lt n (length rest)) [
  | inl lt ↦ lt
  | inr le ↦ let z : step s (slice_index rest n) ≡ None = ap (step s) (get_or_past rest n 0 le) ∙ no_zero s in absurd cc
]

goes_on : (line : List ℕ) (s t : State) (rest : List ℕ) (n : ℕ) → At line s rest n → step s (slice_index rest n) ≡ some_state t → At line t rest (n + 1)
goes_on line s t rest n at e =
    let lt : n < length rest = within s t rest n e in
    record {
      front = at.front ++ slice_index rest n ∷ [];
      whole = one_more line at.front rest n at.whole lt;
      ran = one_step at.front s (slice_index rest n) at.ran ∙ e;
      fits = omega (arith, lt);
      less = at.less;
    }

stops : (line : List ℕ) (s : State) (rest : List ℕ) (n place : ℕ) → At line s rest n → place ≡ length line - length rest + n → step s (slice_index rest n) ≡ None → EndsAt line place
stops line s rest n place at p none =
    let len : length at.front ≡ place = omega (arith, p, at.fits, at.less, ap length at.whole, length-append at.front (drop n rest), length-drop n rest) in
    record {
      before = subst Begins (sym (ap (take place) at.whole ∙ take_at at.front (drop n rest) place len)) (begins at.front s at.ran);
      with_it = λ lt b.
          let one = at.front ++ slice_index rest n ∷ [] in
          let front : take (place + 1) line ≡ one =
          ap (take (place + 1)) (one_more line at.front rest n at.whole (omega (arith, lt, p, at.fits, at.less)))
          ∙ take_at one (drop (n + 1) rest) (place + 1) (omega (arith, len, length-append at.front (slice_index rest n ∷ []))) in
          begins_none one (one_step at.front s (slice_index rest n) at.ran ∙ none) (subst Begins front b);
    }

-- ---- the steps of the reader

abbrev Good : List ℕ → (Scan → Type 0) → Result Scan TagFault → Type 0
Good line P (Ok t) = P t
Good line P (Err f) = f.rule ≡ rules.Form → EndsAt line f.place

good_then : (line : List ℕ) (P Q : Scan → Type 0) (r : Result Scan TagFault) (f : Scan → Result Scan TagFault) → Good line P r → ((t : Scan) → P t → Good line Q (f t)) → Good line Q (r >>= f)
good_then line P Q (Ok t) f h more = more t h
good_then line P Q (Err e) f h more = h

-- the groups and counts that are kept stand at their places
record ArePlaced (line : List ℕ) (v : Values) : Type 0 where
  group : (x : Placed) → v.group ≡ Some x → StandsAt line 103 x.text x.place
  count : (x : Placed) → v.count ≡ Some x → StandsAt line 110 x.text x.place

record Reader (line : List ℕ) (s : State) (t : Scan) : Type 0 where
  at : At line s t.rest 0
  placed : ArePlaced line t.values

stop_byte : (p : ℕ → Bool) → p 0 ≡ false → (xs : List ℕ) → p (slice_index xs (prefix_len p xs)) ≡ false
stop_byte p z xs = elim (cases_lt (prefix_len p xs) (length xs)) [
  | inl lt ↦ prefix_len_stops p xs 0 lt
  | inr le ↦ ap p (get_or_past xs (prefix_len p xs) 0 le) ∙ z
]

no_value : (text : List ℕ) → is_value_byte (slice_index (drop (prefix_len is_value_byte text) text) 0) ≡ false
no_value text =
    let v = prefix_len is_value_byte text in
    ap is_value_byte (get_or-drop v text 0 0 ∙ ap (λ (k : ℕ). slice_index text k) (add-zero v)) ∙ stop_byte is_value_byte refl text

code_is : (c : ℕ) (code : List ℕ) → is_code c code ≡ true → code ≡ c ∷ []
code_is c [] h = absurd cc
code_is c (x ∷ []) h = let p = and_parts (length (x ∷ []) == 1) (x == c) h in ap (λ (y : ℕ). y ∷ []) (eqb-true x c p.1)
code_is c (x ∷ y ∷ ys) h = let p = and_parts (length (x ∷ y ∷ ys) == 1) (x == c) h in absurd (omega (arith, eqb-true (length (x ∷ y ∷ ys)) 1 p.0))

kept_by : (line : List ℕ) (s d g n : Bool) (v : Values) (value : Placed) → ArePlaced line v
    → (g ≡ true → StandsAt line 103 value.text value.place) → (n ≡ true → StandsAt line 110 value.text value.place)
    → ArePlaced line (cond s (record v { source = Some value }) (cond d (record v { destination = Some value }) (cond g (record v { group = Some value }) (cond n (record v { count = Some value }) v))))
kept_by line true d g n v value h hg hn = record { group = h.group; count = h.count }
kept_by line false true g n v value h hg hn = record { group = h.group; count = h.count }
kept_by line false false true n v value h hg hn = record {
  group = λ x e. let same : value ≡ x = cc in subst (λ (y : Placed). StandsAt line 103 y.text y.place) same (hg refl);
  count = h.count;
}
kept_by line false false false true v value h hg hn = record {
  group = h.group;
  count = λ x e. let same : value ≡ x = cc in subst (λ (y : Placed). StandsAt line 110 y.text y.place) same (hn refl);
}
kept_by line false false false false v value h hg hn = h

-- a reader behind the `\\` or the comma before a parameter
record Opened (line rest : List ℕ) : Type 0 where
  at : At line Opening rest 0
  before : List ℕ
  divider : ℕ
  divides : (divider ≡ 92) ⊎ (divider ≡ 44)
  is : line ≡ before ++ divider ∷ rest

opens : (line : List ℕ) (s : State) (rest : List ℕ) → At line s rest 0 → step s (slice_index rest 0) ≡ some_state Opening
    → (slice_index rest 0 ≡ 92) ⊎ (slice_index rest 0 ≡ 44) → Opened line (drop 1 rest)
opens line s rest at e divides = record {
  at = moves line Opening rest 1 (goes_on line s Opening rest 0 at e);
  before = at.front;
  divider = slice_index rest 0;
  divides = divides;
  is = at.whole ∙ ap (λ (x : List ℕ). at.front ++ x) (drop_more rest 0 0 (within s Opening rest 0 e));
}

stands_at : (line rest code text : List ℕ) (c : ℕ) (o : Opened line rest) → rest ≡ code ++ 58 ∷ text → is_code c code ≡ true
    → StandsAt line c (take (prefix_len is_value_byte text) text) (length line - length text)
stands_at line rest code text c o e h =
    let v = prefix_len is_value_byte text in
    let behind = o.divider ∷ c ∷ 58 ∷ (take v text ++ drop v text) in
    let whole : line ≡ o.before ++ behind =
    o.is ∙ ap (λ (x : List ℕ). o.before ++ o.divider ∷ x) (e ∙ ap (λ (x : List ℕ). x ++ 58 ∷ text) (code_is c code h))
    ∙ ap (λ (x : List ℕ). o.before ++ o.divider ∷ c ∷ 58 ∷ x) (sym (take-append-drop v text)) in
    record {
      front = o.before;
      divider = o.divider;
      rest = drop v text;
      spelled = whole;
      place_is = omega (arith, ap length whole, length-append o.before behind, ap length (take-append-drop v text));
      divides = o.divides;
      passes = front_passes is_value_byte text;
      stops = no_value text;
    }

-- behind one parameter
record OneRead (line : List ℕ) (s t : Scan) : Type 0 where
  reader : Reader line Valuing t
  shorter : length t.rest < length s.rest
  no_value : is_value_byte (slice_index t.rest 0) ≡ false

parameter_good : (line : List ℕ) (s : Scan) → Opened line s.rest → ArePlaced line s.values → Good line (OneRead line s) (parameter_at (length line) s)
unfolding parameter_at
parameter_good line s r placed =
    let n = prefix_len is_code_byte s.rest in
    let no_code : is_code_byte (slice_index s.rest n) ≡ false = stop_byte is_code_byte refl s.rest in
    elim (cases_Bool (n == 0)) [
      | inl none ↦ rw none (λ rule.
          let first = subst (λ (k : ℕ). is_code_byte (slice_index s.rest k) ≡ false) (eqb-true n 0 none) no_code in
          stops line Opening s.rest 0 (length line - length s.rest) r.at (omega arith) (rw first refl))
      | inr some ↦
          let code = take n s.rest in
          let at : At line Coding s.rest n = goes_over line Opening Coding s.rest n r.at (prefix_len-le-length is_code_byte s.rest)
          (some_codes_run code (omega (arith, length-prefix_len is_code_byte s.rest, eqb-false n 0 some)) (front_passes is_code_byte s.rest)) in
          elim (cases_Bool (slice_index s.rest n == 58)) [
            | inl colon ↦ rw (some, colon) (
                let text = drop (n + 1) s.rest in
                let v = prefix_len is_value_byte text in
                let value : Placed = record { place = length line - length text; text = take v text } in
                let goes : step Coding (slice_index s.rest n) ≡ some_state Valuing = rw (no_code, colon) refl in
                let lt : n < length s.rest = within Coding Valuing s.rest n goes in
                let behind = moves line Valuing s.rest (n + 1) (goes_on line Coding Valuing s.rest n at goes) in
                let parted : s.rest ≡ code ++ 58 ∷ text =
                sym (take-append-drop n s.rest) ∙ ap (λ (x : List ℕ). code ++ x) (drop_more s.rest n 0 lt ∙ ap (λ (c : ℕ). c ∷ text) (eqb-true (slice_index s.rest n) 58 colon)) in
                let stands = λ (c : ℕ) (h : is_code c code ≡ true). stands_at line s.rest code text c r parted h in
                record {
                  reader = record {
                    at = moves line Valuing text v (goes_over line Valuing Valuing text v behind (prefix_len-le-length is_value_byte text) (values_run (take v text) (front_passes is_value_byte text)));
                    placed = kept_by line (is_code 115 code) (is_code 100 code) (is_code 103 code) (is_code 110 code) s.values value placed (stands 103) (stands 110);
                  };
                  shorter = omega (arith, lt, length-drop v text, length-drop (n + 1) s.rest);
                  no_value = no_value text;
                })
            | inr other ↦ rw (some, other) (λ rule. stops line Coding s.rest n (length line - length s.rest + n) at refl (rw (no_code, other) refl))
          ]
    ]

-- behind all parameters of a block
record AllRead (line : List ℕ) (t : Scan) : Type 0 where
  reader : Reader line Valuing t
  no_value : is_value_byte (slice_index t.rest 0) ≡ false
  no_comma : (slice_index t.rest 0 == 44) ≡ false

abbrev behind : Scan → Scan
behind s = record { values = s.values; rest = drop 1 s.rest }

parameters_good : (n : ℕ) (line : List ℕ) (s : Scan) → length s.rest < n → Opened line s.rest → ArePlaced line s.values → Good line (AllRead line) (parameters_at n (length line) s)
unfolding parameters_at
parameters_good zero line s enough r placed = absurd (omega (arith, enough))
parameters_good (suc n) line s enough r placed =
    good_then line (OneRead line s) (AllRead line) (parameter_at (length line) s) (λ t. cond (slice_index t.rest 0 == 44) (parameters_at n (length line) (behind t)) (Ok t)) (parameter_good line s r placed)
    (λ t one. elim (cases_Bool (slice_index t.rest 0 == 44)) [
      | inl comma ↦ rw comma (
          let goes : step Valuing (slice_index t.rest 0) ≡ some_state Opening = rw (one.no_value, comma) refl in
          parameters_good n line (behind t) (omega (arith, one.shorter, enough, length-drop 1 t.rest)) (opens line Valuing t.rest one.reader.at goes (inr (eqb-true (slice_index t.rest 0) 44 comma))) one.reader.placed)
      | inr other ↦ rw other (record { reader = one.reader; no_value = one.no_value; no_comma = other })
    ])

block_end_good : (line : List ℕ) (sum : ℕ) (s : Scan) → AllRead line s → Good line (Reader line Outside) (block_end_at (length line) sum s)
unfolding block_end_at sum_fault
block_end_good line sum s all =
    let place = length line - length s.rest in
    let at0 = all.reader.at in
    elim (cases_Bool (slice_index s.rest 0 == 42)) [
      | inr other ↦ rw other (λ rule. stops line Valuing s.rest 0 place at0 (omega arith) (rw (all.no_value, all.no_comma, other) refl))
      | inl star ↦
          let at1 = goes_on line Valuing High s.rest 0 at0 (rw (all.no_value, all.no_comma, star) refl) in
          elim (cases_Bool (nat_le 16 (digit_value (slice_index s.rest 1)))) [
            | inl bad ↦ rw (star, bad) (λ rule. stops line High s.rest 1 (place + 1) at1 refl (rw bad refl))
            | inr high ↦
                let at2 = goes_on line High Low s.rest 1 at1 (rw high refl) in
                elim (cases_Bool (nat_le 16 (digit_value (slice_index s.rest 2)))) [
                  | inl bad ↦ rw (star, high, bad) (λ rule. stops line Low s.rest 2 (place + 2) at2 refl (rw bad refl))
                  | inr low ↦
                      let at3 = goes_on line Low Closing s.rest 2 at2 (rw low refl) in
                      elim (cases_Bool (digit_value (slice_index s.rest 1) * 16 + digit_value (slice_index s.rest 2) == sum)) [
                        | inr differs ↦ rw (star, high, low, differs) (λ rule. absurd cc)
                        | inl same ↦ elim (cases_Bool (slice_index s.rest 3 == 92)) [
                          | inr other ↦ rw (star, high, low, same, other) (λ rule. stops line Closing s.rest 3 (place + 3) at3 refl (rw other refl))
                          | inl close ↦ rw (star, high, low, same, close) (record {
                            at = moves line Outside s.rest 4 (goes_on line Closing Outside s.rest 3 at3 (rw close refl));
                            placed = all.reader.placed;
                          })
                        ]
                      ]
                ]
          ]
    ]

block_good : (line : List ℕ) (s : Scan) → Opened line s.rest → ArePlaced line s.values → Good line (Reader line Outside) (block_at (length line) s)
unfolding block_at
block_good line s r placed =
    good_then line (AllRead line) (Reader line Outside) (parameters_at (length s.rest + 1) (length line) s) (λ t. block_end_at (length line) (xor_of (take (length s.rest - length t.rest) s.rest)) t)
    (parameters_good (length s.rest + 1) line s (omega arith) r placed)
    (λ t all. block_end_good line (xor_of (take (length s.rest - length t.rest) s.rest)) t all)

blocks_good : (n : ℕ) (line : List ℕ) (s : Scan) → Reader line Outside s → Good line (Reader line Outside) (blocks_at n (length line) s)
unfolding blocks_at
blocks_good zero line s r = r
blocks_good (suc n) line s r = elim (cases_Bool (slice_index s.rest 0 == 92)) [
  | inl opening ↦ rw opening (
      let goes : step Outside (slice_index s.rest 0) ≡ some_state Opening = rw opening refl in
      good_then line (Reader line Outside) (Reader line Outside) (block_at (length line) (behind s)) (blocks_at n (length line))
      (block_good line (behind s) (opens line Outside s.rest r.at goes (inl (eqb-true (slice_index s.rest 0) 92 opening))) r.placed) (λ t more. blocks_good n line t more))
  | inr other ↦ rw other r
]

-- ---- what the values say

abbrev form : {A : Type 0} → ℕ → Result A TagFault
form place = Err (record { rule = rules.Form; place = place })

abbrev refusal : {A : Type 0} → TagFault → Result A TagFault
refusal f = Err f

fault_is : {A : Type 0} (f : TagFault) (place : ℕ) → refusal {A = A} f ≡ form place → f ≡ record { rule = rules.Form; place = place }
fault_is f place e = cc

abbrev said_with : Scan → List ℕ → Option GroupPart → Option ℕ → Said
said_with s source group count = record { source = source; destination = text_of s.values.destination; group = group; count = count }

-- of three steps of which the last never refuses for a form, one of the first two does
first_refusal : {A B C D : Type 0} (g : Result A TagFault) (k : Result B TagFault) (s : Result C TagFault) (make : A → B → C → D) (place : ℕ)
    → ((f : TagFault) → s ≡ Err f → f.rule ≡ rules.Form → ⊥) → (g >>= λ x. k >>= λ y. s >>= λ z. Ok (make x y z)) ≡ form place
    → (g ≡ form place) ⊎ (k ≡ form place)
first_refusal (Err f) k s make place none e = inl (ap (λ (x : TagFault). Err x) (fault_is f place e))
first_refusal (Ok x) (Err f) s make place none e = inr (ap (λ (x : TagFault). Err x) (fault_is f place e))
first_refusal (Ok x) (Ok y) (Err f) make place none e = absurd (none f refl (ap (λ (x : TagFault). x.rule) (fault_is f place e)))
first_refusal (Ok x) (Ok y) (Ok z) make place none e = absurd cc

no_form_of_source : (end : ℕ) (o : Option Placed) (f : TagFault) → source_said end o ≡ Err f → f.rule ≡ rules.Form → ⊥
no_form_of_source end None f e rule = absurd cc
no_form_of_source end (Some v) f e rule = elim (cases_Bool (is_sfi v.text)) [
  | inl is ↦ let ok = rw is at e in absurd cc
  | inr other ↦ let no = rw other at e in absurd cc
]

-- a value is kept of which this finds nothing, and stands at the place
record Unfound {A : Type 0} (find : List ℕ → Option A) (o : Option Placed) (place : ℕ) : Type 0 where
  value : Placed
  is : o ≡ Some value
  none : find value.text ≡ None
  place_is : value.place ≡ place

unfound : {A : Type 0} (find : List ℕ → Option A) (v : Placed) (place : ℕ) (found : Option A) → find v.text ≡ found → found_or v.place found ≡ form place → Unfound find (Some v) place
unfound find v place None is e = record { value = v; is = refl; none = is; place_is = ap (λ (f : TagFault). f.place) (fault_is (record { rule = rules.Form; place = v.place }) place e) }
unfound find v place (Some x) is e = absurd cc

group_refused : (o : Option Placed) (place : ℕ) → group_said o ≡ form place → Unfound group_in o place
group_refused None place e = absurd cc
group_refused (Some v) place e = unfound group_in v place (group_in v.text) refl e

count_refused : (o : Option Placed) (place : ℕ) → count_said o ≡ form place → Unfound (number_in 3) o place
count_refused None place e = absurd cc
count_refused (Some v) place e = unfound (number_in 3) v place (number_in 3 v.text) refl e

settle_refused : (total place : ℕ) (s : Scan) → settle total s ≡ form place → Unfound group_in s.values.group place ⊎ Unfound (number_in 3) s.values.count place
unfolding settle
settle_refused total place s e =
    let end = total - length s.rest in
    elim (first_refusal (group_said s.values.group) (count_said s.values.count) (source_said end s.values.source)
    (λ group count source. (said_with s source group count, end)) place (no_form_of_source end s.values.source) e) [
      | inl g ↦ inl (group_refused s.values.group place g)
      | inr k ↦ inr (count_refused s.values.count place k)
    ]

abbrev start : List ℕ → Scan
start line = record { values = no_values; rest = line }

none_placed : (line : List ℕ) → ArePlaced line no_values
none_placed line = record { group = λ x e. absurd cc; count = λ x e. absurd cc }

starts : (line : List ℕ) → Reader line Outside (start line)
starts line = record { at = record { front = []; whole = refl; ran = refl; fits = omega arith; less = omega arith }; placed = none_placed line }

are_front : (line : List ℕ) (t : Scan) (b : BlocksRead (start line) t) → AreFront line b.blocks
are_front line t b = record { each = b.are; rest = t.rest; spelled = b.spelled; stops = b.stops }

no_group : (line : List ℕ) (t : Scan) (place : ℕ) → BlocksRead (start line) t → ArePlaced line t.values → Unfound group_in t.values.group place → HasNoGroupAt line place
no_group line t place b placed n = record {
  blocks = b.blocks;
  are = are_front line t b;
  value = n.value.text;
  last = ap (λ (v : Standing). v.group) (sym b.stood) ∙ ap (λ (o : Option Placed). text_of o) n.is;
  is_none = λ part h. let again = group_again n.value.text part h in let none = n.none in absurd cc;
  stands = subst (StandsAt line 103 n.value.text) n.place_is (placed.group n.value n.is);
}

no_count : (line : List ℕ) (t : Scan) (place : ℕ) → BlocksRead (start line) t → ArePlaced line t.values → Unfound (number_in 3) t.values.count place → HasNoCountAt line place
no_count line t place b placed n = record {
  blocks = b.blocks;
  are = are_front line t b;
  value = n.value.text;
  last = ap (λ (v : Standing). v.count) (sym b.stood) ∙ ap (λ (o : Option Placed). text_of o) n.is;
  is_none = λ k h. let again = number_again 3 k n.value.text h in let none = n.none in absurd cc;
  stands = subst (StandsAt line 110 n.value.text) n.place_is (placed.count n.value n.is);
}

tells : (line : List ℕ) (place : ℕ) (r : Result Scan TagFault) → blocks_at (length line + 1) (length line) (start line) ≡ r → Good line (Reader line Outside) r
    → (r >>= settle (length line)) ≡ form place → EndsAt line place ⊎ (HasNoGroupAt line place ⊎ HasNoCountAt line place)
tells line place (Err f) is good e =
    let same = fault_is f place e in
    inl (subst (λ (x : ℕ). EndsAt line x) (ap (λ (x : TagFault). x.place) same) (good (ap (λ (x : TagFault). x.rule) same)))
tells line place (Ok t) is good e =
    let b = blocks_found (length line + 1) (length line) (start line) t (omega arith) is in
    elim (settle_refused (length line) place t e) [
      | inl g ↦ inr (inl (no_group line t place b good.placed g))
      | inr k ↦ inr (inr (no_count line t place b good.placed k))
    ]

pub form_faults_tell : FormFaultsTell
unfolding read
form_faults_tell line place e = elim (cases_Bool (slice_index line 0 == 92)) [
  | inl opens ↦ tells line place (blocks_at (length line + 1) (length line) (start line)) refl (blocks_good (length line + 1) line (start line) (starts line)) (rw opens at e)
  | inr other ↦
      let no = rw other at e in
      let rule : rules.NoSource ≡ rules.Form = ap (λ (f : TagFault). f.rule) (fault_is {A = Said × ℕ} (record { rule = rules.NoSource; place = 0 }) place no) in
      absurd cc
]
