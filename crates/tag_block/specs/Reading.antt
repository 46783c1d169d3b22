-- What the front of a line reads as: what its TAG blocks say and where they end, or the first rule that it breaks.
use Rattle.std.specs.Prelude.{ℕ, zero, suc, ◌+◌, ◌-◌, Bool, ◌&&◌, ◌==◌, not, nat_le, List, length, take, drop, slice_index, Option, Some, None, option_map, Result, Ok, Err, if◌then◌else◌}
use Rattle.std.specs.List.{prefix_len, list_all}
use Rattle.sentence_text.specs.Byte.{is_capital, is_digit}
use Rattle.sentence_text.specs.declared.sum.SumFault.{SumFault}
use Rattle.sentence_text.specs.declared.sum.SumFault.TheVariants.{First, Second, Differs}
use Rattle.sentence_text.specs.Sum.{sum_fault, digit_place}
use Rattle.tag_block.specs.declared.fault.TagFault.{TagFault}
use Rattle.tag_block.specs.declared.fault.TagRule.{TagRule}
use Rattle.tag_block.specs.declared.fault.TagRule.TheVariants as rules
use Rattle.tag_block.specs.declared.group_part.GroupPart.{GroupPart}
use Rattle.tag_block.specs.declared.tag.Tag.{Tag}
use Rattle.tag_block.specs.declared.values.Value.{Value}
use Rattle.tag_block.specs.declared.values.Values.{Values as TheValues}
use Rattle.tag_block.specs.declared.values.Scan.{Scan as TheScan}
use Rattle.tag_block.specs.Tag.{is_code_byte, is_value_byte, Said, is_code, xor_of, number}

infixl 10 ◌>>=◌
abbrev pub ◌>>=◌ : {A B : Type 0} → Result A TagFault → (A → Result B TagFault) → Result B TagFault
(Ok x) >>= f = f x
(Err e) >>= f = Err e

abbrev pub fault : {A : Type 0} → TagRule → ℕ → Result A TagFault
fault rule place = Err (record { rule = rule; place = place })

-- a value with its place in the line
pub record Placed : Type 0 where
  pub place : ℕ
  pub text : List ℕ

pub record Values : Type 0 where
  pub source : Option Placed
  pub destination : Option Placed
  pub group : Option Placed
  pub count : Option Placed

abbrev pub no_values : Values
no_values = record { source = None; destination = None; group = None; count = None }

abbrev pub keep : Values → List ℕ → Placed → Values
keep v code value = if is_code 115 code then record v { source = Some value }
    else if is_code 100 code then record v { destination = Some value }
    else if is_code 103 code then record v { group = Some value }
    else if is_code 110 code then record v { count = Some value }
    else v

-- the values so far, and the rest of a line of `total` bytes, which tells the place
pub record Scan : Type 0 where
  pub values : Values
  pub rest : List ℕ

-- one parameter
unfoldable pub parameter_at : ℕ → Scan → Result Scan TagFault
parameter_at total s = let code = prefix_len is_code_byte s.rest in
    if code == 0 then fault rules.Form (total - length s.rest)
    else if not (slice_index s.rest code == 58) then fault rules.Form (total - length s.rest + code)
    else let text = drop (code + 1) s.rest in let value = prefix_len is_value_byte text in
    Ok (record { values = keep s.values (take code s.rest) (record { place = total - length text; text = take value text }); rest = drop value text })

-- at most n parameters with commas between them; they are fewer than the bytes
unfoldable pub parameters_at : ℕ → ℕ → Scan → Result Scan TagFault
parameters_at zero total s = fault rules.Form (total - length s.rest)
parameters_at (suc n) total s = parameter_at total s >>= λ t.
    if slice_index t.rest 0 == 44 then parameters_at n total (record { values = t.values; rest = drop 1 t.rest }) else Ok t

-- the rule that the digits of a sum break
abbrev pub sum_rule : SumFault → TagRule
sum_rule First = rules.Form
sum_rule Second = rules.Form
sum_rule Differs = rules.Sum

-- what follows the digits, which stand behind the `*` at this place, unless they are at fault
abbrev pub behind_sum : ℕ → Option SumFault → Result Scan TagFault → Result Scan TagFault
behind_sum place None next = next
behind_sum place (Some f) next = fault (sum_rule f) (place + digit_place f)

-- `*`, the two digits of this sum, and `\`
unfoldable pub block_end_at : ℕ → ℕ → Scan → Result Scan TagFault
block_end_at total sum s = let place = total - length s.rest in
    if not (slice_index s.rest 0 == 42) then fault rules.Form place
    else behind_sum place (sum_fault sum (slice_index s.rest 1) (slice_index s.rest 2))
    (if not (slice_index s.rest 3 == 92) then fault rules.Form (place + 3) else Ok (record { values = s.values; rest = drop 4 s.rest }))

-- one block, behind its first `\`
unfoldable pub block_at : ℕ → Scan → Result Scan TagFault
block_at total s = parameters_at (length s.rest + 1) total s >>= λ t.
    block_end_at total (xor_of (take (length s.rest - length t.rest) s.rest)) t

-- at most n blocks, while the next byte is `\`
unfoldable pub blocks_at : ℕ → ℕ → Scan → Result Scan TagFault
blocks_at zero total s = Ok s
blocks_at (suc n) total s = if slice_index s.rest 0 == 92
    then block_at total (record { values = s.values; rest = drop 1 s.rest }) >>= blocks_at n total
    else Ok s

-- ---- what the values say

abbrev pub number_in : ℕ → List ℕ → Option ℕ
number_in most text = if nat_le 1 (length text) && nat_le (length text) most && list_all is_digit text then Some (number text) else None

abbrev pub is_from_1 : ℕ → Bool
is_from_1 c = nat_le 49 c && nat_le c 57

abbrev pub has_group_form : List ℕ → Bool
has_group_form text = is_from_1 (slice_index text 0) && slice_index text 1 == 45 && is_from_1 (slice_index text 2) && slice_index text 3 == 45
    && nat_le (slice_index text 0) (slice_index text 2)

abbrev pub group_with : ℕ → ℕ → Option ℕ → Option GroupPart
group_with number total None = None
group_with number total (Some zero) = None
group_with number total (Some (suc code)) = Some (record { number = number; total = total; code = suc code })

unfoldable pub group_in : List ℕ → Option GroupPart
group_in text = if has_group_form text then group_with (slice_index text 0 - 48) (slice_index text 2 - 48) (number_in 4 (drop 4 text)) else None

abbrev pub is_sfi : List ℕ → Bool
is_sfi text = length text == 6 && list_all is_capital (take 2 text) && list_all is_digit (drop 2 text)

-- nothing where the code didn't come, what its value says, or Form at its place
abbrev pub found_or : {A : Type 0} → ℕ → Option A → Result (Option A) TagFault
found_or place None = fault rules.Form place
found_or place (Some x) = Ok (Some x)

abbrev pub group_said : Option Placed → Result (Option GroupPart) TagFault
group_said None = Ok None
group_said (Some v) = found_or v.place (group_in v.text)

abbrev pub count_said : Option Placed → Result (Option ℕ) TagFault
count_said None = Ok None
count_said (Some v) = found_or v.place (number_in 3 v.text)

-- NoSource at the value, or at the end of the blocks
abbrev pub source_said : ℕ → Option Placed → Result (List ℕ) TagFault
source_said end None = fault rules.NoSource end
source_said end (Some v) = if is_sfi v.text then Ok v.text else fault rules.NoSource v.place

abbrev pub text_of : Option Placed → Option (List ℕ)
text_of v = option_map (λ p. p.text) v

unfoldable pub settle : ℕ → Scan → Result (Said × ℕ) TagFault
settle total s = let end = total - length s.rest in
    group_said s.values.group >>= λ group.
    count_said s.values.count >>= λ count.
    source_said end s.values.source >>= λ source.
    Ok (record { source = source; destination = text_of s.values.destination; group = group; count = count }, end)

unfoldable pub read : List ℕ → Result (Said × ℕ) TagFault
read line = if slice_index line 0 == 92
    then blocks_at (length line + 1) (length line) (record { values = no_values; rest = line }) >>= settle (length line)
    else fault rules.NoSource 0

-- ---- what the call answers, in these terms

abbrev pub said : Tag → Said
said tag = record { source = tag.source; destination = option_map (λ d. d.now) tag.destination; group = tag.group; count = tag.count }

abbrev pub seen : Result (Tag × ℕ) TagFault → Result (Said × ℕ) TagFault
seen (Ok t) = Ok (said t.0, t.1)
seen (Err f) = Err f

abbrev pub placed : Value → Placed
placed v = record { place = v.place; text = v.text.now }

abbrev pub placed_values : TheValues → Values
placed_values v = record { source = option_map placed v.source; destination = option_map placed v.destination; group = option_map placed v.group; count = option_map placed v.count }

abbrev pub scan : TheScan → Scan
scan s = record { values = placed_values s.values; rest = s.rest.now }

abbrev pub seen_scan : Result TheScan TagFault → Result Scan TagFault
seen_scan (Ok s) = Ok (scan s)
seen_scan (Err f) = Err f
