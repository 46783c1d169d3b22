use Rattle.std.proofs.Common.{◌≡◌, ◌++◌, ◌≤◌, decimal, length, length-append, arith}
use Rattle.std.proofs.lemmas.Grind.{common_steps}
use Rattle.gate_config.proofs.Decimals.{few_digits, plain_decimal}
use Rattle.gate_config.proofs.items.append_number.Goals as goal

pub returns-clause-len : goal.returns-clause-len
returns-clause-len c =
    let written : c.write_decimal-fits.new.out.items ≡ c.args.prefix.now.items ++ decimal c.args.number = grind (arith, common_steps, plain_decimal, few_digits) in
    let digits : length (decimal c.args.number) ≤ 20 = few_digits c.args.number (omega arith) in
    rw (written, length-append) (omega arith)
