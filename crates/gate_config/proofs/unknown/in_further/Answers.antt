use Rattle.gate_config.specs.Keys.{further, hbt, heartbeat, pace, plain, report, serve}
use Rattle.gate_config.specs.Unknown.{further_noted, plain_noted}
use Rattle.gate_config.proofs.unknown.in_further.Goals as goal

pub returns : goal.returns
unfolding further_noted plain_noted further report plain pace serve heartbeat hbt
returns c =
    let quantities = rw c.table_under-quantities.ensures at c.in_ok-least.ensures in
    rw (c.in_ok-least-4.ensures, c.in_ok-least-3.ensures, c.in_ok-least-2.ensures, quantities) at c.under-4.ensures
