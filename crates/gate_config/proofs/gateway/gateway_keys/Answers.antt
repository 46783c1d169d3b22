use Rattle.gate_config.specs.Keys.{gateway}
use Rattle.gate_config.proofs.gateway.gateway_keys.Goals as goal

pub returns-clause-said : goal.returns-clause-said
unfolding gateway
returns-clause-said c =
    rw (
      c.in_ok-table.ensures,
      ← c.in_ok-name.ensures.said,
      ← (rw c.default.ensures at c.in_ok-group.ensures.said),
      ← c.in_ok-fast_slots.ensures.said,
      ← c.in_ok-ths.ensures,
    )
