use Rattle.std.proofs.Common.{◌≡◌, arith}
use Rattle.std.proofs.lemmas.Grind.{common_steps}
use Rattle.gate_config.specs.Texts.{loopback}
use Rattle.gate_config.proofs.Decimals.{plain_decimal}
use Rattle.gate_config.proofs.Loopback.{five_digits, short}
use Rattle.gate_config.proofs.endpoint.loopback_text.Goals as goal

pub returns-clause-text : goal.returns-clause-text
unfolding loopback
returns-clause-text c = let digits = five_digits c.args.port (omega arith) in grind (arith, common_steps, plain_decimal)

pub returns-clause-length : goal.returns-clause-length
unfolding loopback
returns-clause-length c =
    let digits = five_digits c.args.port (omega arith) in
    let text : c.write_decimal-fits.new.out.items ≡ loopback c.args.port = grind (arith, common_steps, plain_decimal) in
    rw text (short c.args.port (omega arith))
