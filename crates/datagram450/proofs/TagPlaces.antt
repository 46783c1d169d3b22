-- A fault of TAG blocks is in its line, or at its end.
use Rattle.std.proofs.Common.{◌≡◌, ℕ, zero, suc, ◌+◌, ◌-◌, ◌<◌, ◌≤◌, Bool, true, false, cond, List, length, take, drop, length-drop, Option, Some, None, Result, Ok, Err, refl, sym, ◌∙◌, arith, inl, inr, subst}
use Rattle.std.specs.Prelude.{◌==◌, not, slice_index, IfErr}
use Rattle.std.specs.List.{prefix_len}
use Rattle.std.proofs.lemmas.List.Sums.{prefix_len-le-length}
use Rattle.std.proofs.lemmas.Bool.{cases_Bool, eqb-true}
use Rattle.sentence_text.specs.declared.sum.SumFault.{SumFault}
use Rattle.sentence_text.specs.declared.sum.SumFault.TheVariants.{First, Second, Differs}
use Rattle.sentence_text.specs.Sum.{sum_fault}
use Rattle.sentence_text.proofs.Sums.{sum_found, first_digit, is_there, digit_there}
use Rattle.tag_block.specs.declared.fault.TagFault.{TagFault}
use Rattle.tag_block.specs.declared.fault.TagRule.TheVariants as rules
use Rattle.tag_block.specs.declared.tag.Tag.{Tag}
use Rattle.tag_block.specs.Tag.{is_code_byte, is_value_byte, Said, is_code, xor_of}
use Rattle.tag_block.specs.Reading.{Placed, Values, Scan, no_values, parameter_at, parameters_at, behind_sum, block_end_at, block_at, blocks_at, group_in, number_in, found_or, is_sfi, group_said, count_said, source_said, text_of, settle, read, seen, ◌>>=◌}

-- what is read is as P says, and a fault is at most this far
abbrev Within : {A : Type 0} → (A → Type 0) → ℕ → Result A TagFault → Type 0
Within P most (Ok x) = P x
Within P most (Err f) = f.place ≤ most

abbrev Any : {A : Type 0} → A → Type 0
Any x = Unit {0}

bind_within : {A B : Type 0} (P : A → Type 0) (Q : B → Type 0) (most : ℕ) (r : Result A TagFault) (k : A → Result B TagFault) → Within P most r → ((x : A) → P x → Within Q most (k x)) → Within Q most (r >>= k)
bind_within P Q most (Ok x) k h g = g x h
bind_within P Q most (Err f) k h g = h

abbrev IsIn : ℕ → Option Placed → Type 0
IsIn total None = Unit {0}
IsIn total (Some p) = p.place ≤ total

record ValuesIn (total : ℕ) (v : Values) : Type 0 where
  source : IsIn total v.source
  group : IsIn total v.group
  count : IsIn total v.count

record ScanIn (total : ℕ) (s : Scan) : Type 0 where
  values : ValuesIn total s.values
  rest : length s.rest ≤ total

kept : (total : ℕ) (v : Values) (p : Placed) (a b c d : Bool) → ValuesIn total v → p.place ≤ total
    → ValuesIn total (cond a (record v { source = Some p }) (cond b (record v { destination = Some p }) (cond c (record v { group = Some p }) (cond d (record v { count = Some p }) v))))
kept total v p true b c d h le = record { source = le; group = h.group; count = h.count }
kept total v p false true c d h le = record { source = h.source; group = h.group; count = h.count }
kept total v p false false true d h le = record { source = h.source; group = le; count = h.count }
kept total v p false false false true h le = record { source = h.source; group = h.group; count = le }
kept total v p false false false false h le = h

choose : {A : Type 0} (P : A → Type 0) (most : ℕ) (b : Bool) (x y : Result A TagFault) → Within P most x → Within P most y → Within P most (cond b x y)
choose P most true x y h k = h
choose P most false x y h k = k

abbrev bad_at : {A : Type 0} → TagFault → Result A TagFault
bad_at f = Err f

parameter_in : (total : ℕ) (s : Scan) → ScanIn total s → Within (ScanIn total) total (parameter_at total s)
unfolding parameter_at
parameter_in total s h =
    let code = prefix_len is_code_byte s.rest in
    let le : code ≤ length s.rest = prefix_len-le-length is_code_byte s.rest in
    let text = drop (code + 1) s.rest in
    let value = prefix_len is_value_byte text in
    elim (cases_Bool (code == 0)) [
      | inl e ↦ rw e (omega arith)
      | inr e ↦ rw e (elim (cases_Bool (slice_index s.rest code == 58)) [
        | inl f ↦ rw f (record {
          values = kept total s.values (record { place = total - length text; text = take value text }) (is_code 115 (take code s.rest)) (is_code 100 (take code s.rest)) (is_code 103 (take code s.rest)) (is_code 110 (take code s.rest)) h.values (omega arith);
          rest = omega (arith, length-drop value text, length-drop (code + 1) s.rest, h.rest);
        })
        | inr f ↦ rw f (omega (arith, le, h.rest))
      ])
    ]

parameters_in : (n total : ℕ) (s : Scan) → ScanIn total s → Within (ScanIn total) total (parameters_at n total s)
unfolding parameters_at
parameters_in zero total s h = omega arith
parameters_in (suc n) total s h =
    bind_within (ScanIn total) (ScanIn total) total (parameter_at total s) (λ t. cond (slice_index t.rest 0 == 44) (parameters_at n total (record { values = t.values; rest = drop 1 t.rest })) (Ok t)) (parameter_in total s h) (λ t g.
    choose (ScanIn total) total (slice_index t.rest 0 == 44) (parameters_at n total (record { values = t.values; rest = drop 1 t.rest })) (Ok t) (parameters_in n total (record { values = t.values; rest = drop 1 t.rest }) (record { values = g.values; rest = omega (arith, length-drop 1 t.rest, g.rest) })) g)

-- behind the sum, whose place is in the line
closes_in : (total place : ℕ) (s : Scan) → ScanIn total s → place + 3 ≤ total → Within (ScanIn total) total (cond (not (slice_index s.rest 3 == 92)) (bad_at {A = Scan} (record { rule = rules.Form; place = place + 3 })) (Ok (record { values = s.values; rest = drop 4 s.rest })))
closes_in total place s h le = choose (ScanIn total) total (not (slice_index s.rest 3 == 92)) _ _ le (record { values = h.values; rest = omega (arith, length-drop 4 s.rest, h.rest) })

sum_in : (total sum : ℕ) (s : Scan) → ScanIn total s → 0 < length s.rest → (f : Option SumFault) → sum_fault sum (slice_index s.rest 1) (slice_index s.rest 2) ≡ f
    → Within (ScanIn total) total (behind_sum (total - length s.rest) f (cond (not (slice_index s.rest 3 == 92)) (bad_at {A = Scan} (record { rule = rules.Form; place = total - length s.rest + 3 })) (Ok (record { values = s.values; rest = drop 4 s.rest }))))
sum_in total sum s h some None e =
    closes_in total (total - length s.rest) s h (omega (arith, h.rest, digit_there s.rest 2 (sum_found sum (slice_index s.rest 1) (slice_index s.rest 2) e).low_digit))
sum_in total sum s h some (Some First) e = omega (arith, h.rest, some)
sum_in total sum s h some (Some Second) e = omega (arith, h.rest, digit_there s.rest 1 (first_digit sum (slice_index s.rest 1) (slice_index s.rest 2) e))
sum_in total sum s h some (Some Differs) e = omega (arith, h.rest, some)

star_there : (bytes : List ℕ) → slice_index bytes 0 ≡ 42 → 0 < length bytes
star_there bytes e = is_there bytes 0 (λ none. let other : 42 ≡ 0 = sym e ∙ none in omega (arith, other))

block_end_in : (total sum : ℕ) (s : Scan) → ScanIn total s → Within (ScanIn total) total (block_end_at total sum s)
unfolding block_end_at
block_end_in total sum s h =
    elim (cases_Bool (slice_index s.rest 0 == 42)) [
      | inr e ↦ rw e (omega arith)
      | inl e ↦ rw e (sum_in total sum s h (star_there s.rest (eqb-true (slice_index s.rest 0) 42 e)) (sum_fault sum (slice_index s.rest 1) (slice_index s.rest 2)) refl)
    ]

block_in : (total : ℕ) (s : Scan) → ScanIn total s → Within (ScanIn total) total (block_at total s)
unfolding block_at
block_in total s h =
    bind_within (ScanIn total) (ScanIn total) total (parameters_at (length s.rest + 1) total s) (λ t. block_end_at total (xor_of (take (length s.rest - length t.rest) s.rest)) t) (parameters_in (length s.rest + 1) total s h) (λ t g. block_end_in total (xor_of (take (length s.rest - length t.rest) s.rest)) t g)

blocks_in : (n total : ℕ) (s : Scan) → ScanIn total s → Within (ScanIn total) total (blocks_at n total s)
unfolding blocks_at
blocks_in zero total s h = h
blocks_in (suc n) total s h =
    let behind : Scan = record { values = s.values; rest = drop 1 s.rest } in
    choose (ScanIn total) total (slice_index s.rest 0 == 92) (block_at total behind >>= blocks_at n total) (Ok s)
    (bind_within (ScanIn total) (ScanIn total) total (block_at total behind) (blocks_at n total) (block_in total behind (record { values = h.values; rest = omega (arith, length-drop 1 s.rest, h.rest) })) (λ t g. blocks_in n total t g))
    h

found_in : {A : Type 0} (most place : ℕ) (o : Option A) → place ≤ most → Within {A = Option A} Any most (found_or place o)
found_in most place None le = le
found_in most place (Some x) le = tt

group_in_line : (total : ℕ) (v : Option Placed) → IsIn total v → Within Any total (group_said v)
group_in_line total None h = tt
group_in_line total (Some p) h = found_in total p.place (group_in p.text) (omega (arith, h))

count_in_line : (total : ℕ) (v : Option Placed) → IsIn total v → Within Any total (count_said v)
count_in_line total None h = tt
count_in_line total (Some p) h = found_in total p.place (number_in 3 p.text) (omega (arith, h))

source_in_line : (total end : ℕ) (v : Option Placed) → end ≤ total → IsIn total v → Within Any total (source_said end v)
source_in_line total end None le h = omega (arith, le)
source_in_line total end (Some p) le h = elim (cases_Bool (is_sfi p.text)) [
  | inl e ↦ rw e tt
  | inr e ↦ rw e (omega (arith, h))
]

settle_in : (total : ℕ) (s : Scan) → ScanIn total s → Within Any total (settle total s)
unfolding settle
settle_in total s h =
    let end = total - length s.rest in
    bind_within Any Any total (group_said s.values.group) (λ g. count_said s.values.count >>= λ k. source_said end s.values.source >>= λ src. Ok (record { source = src; destination = text_of s.values.destination; group = g; count = k }, end)) (group_in_line total s.values.group h.values.group) (λ g _.
    bind_within Any Any total (count_said s.values.count) (λ k. source_said end s.values.source >>= λ src. Ok (record { source = src; destination = text_of s.values.destination; group = g; count = k }, end)) (count_in_line total s.values.count h.values.count) (λ k _.
    bind_within Any Any total (source_said end s.values.source) (λ src. Ok (record { source = src; destination = text_of s.values.destination; group = g; count = k }, end)) (source_in_line total end s.values.source (omega arith) h.values.source) (λ src _. tt)))

read_in : (bytes : List ℕ) → Within {A = Said × ℕ} Any (length bytes) (read bytes)
unfolding read
read_in bytes =
    let start : Scan = record { values = no_values; rest = bytes } in
    let start_in : ScanIn (length bytes) start = record { values = record { source = tt; group = tt; count = tt }; rest = omega arith } in
    elim (cases_Bool (slice_index bytes 0 == 92)) [
      | inl e ↦ rw e (bind_within (ScanIn (length bytes)) Any (length bytes) (blocks_at (length bytes + 1) (length bytes) start) (settle (length bytes)) (blocks_in (length bytes + 1) (length bytes) start start_in) (λ t g. settle_in (length bytes) t g))
      | inr e ↦ rw e (omega arith)
    ]

seen_in : (most : ℕ) (r : Result (Tag × ℕ) TagFault) → Within {A = Said × ℕ} Any most (seen r) → IfErr r (λ f. f.place ≤ most)
seen_in most (Ok t) h = tt
seen_in most (Err f) h = h

pub tag_place : (bytes : List ℕ) (r : Result (Tag × ℕ) TagFault) → seen r ≡ read bytes → IfErr r (λ f. f.place ≤ length bytes)
tag_place bytes r e = seen_in (length bytes) r (subst (λ (x : Result (Said × ℕ) TagFault). Within Any (length bytes) x) (sym e) (read_in bytes))

pub tag_fault : (bytes : List ℕ) (f : TagFault) → read bytes ≡ bad_at {A = Said × ℕ} f → f.place ≤ length bytes
tag_fault bytes f e = subst (λ (x : Result (Said × ℕ) TagFault). Within Any (length bytes) x) e (read_in bytes)
