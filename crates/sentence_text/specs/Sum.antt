-- The two digits behind `*` that write a sum.
use Rattle.std.specs.Prelude.{ℕ, ◌+◌, ◌*◌, ◌==◌, not, nat_le, Option, Some, None, if◌then◌else◌}
use Rattle.std.specs.Char.{digit_value}
use Rattle.sentence_text.specs.declared.sum.SumFault.{SumFault}
use Rattle.sentence_text.specs.declared.sum.SumFault.TheVariants.{First, Second, Differs}

-- what keeps two bytes from writing this sum
unfoldable pub sum_fault : ℕ → ℕ → ℕ → Option SumFault
sum_fault sum high low = if nat_le 16 (digit_value high) then Some First
    else if nat_le 16 (digit_value low) then Some Second
    else if not (digit_value high * 16 + digit_value low == sum) then Some Differs
    else None

-- how far behind the `*` the digit stands that is at fault: the first where the sum differs
abbrev pub digit_place : SumFault → ℕ
digit_place First = 1
digit_place Second = 2
digit_place Differs = 1
