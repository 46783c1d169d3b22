use Rattle.std.proofs.Common.{◌≡◌, ◌+◌, ap, sym, ◌∙◌, length, length-append, arith}
use Rattle.std.specs.Prelude.{codes}
use Rattle.toml.specs.View.{view}
use Rattle.config_document.specs.Places.{members_of, members_seen}
use Rattle.gate_config.specs.Beside.{IsRouteBeside}
use Rattle.gate_config.specs.Keys.{route}
use Rattle.gate_config.specs.Reading.{item_prefix, prefix_of}
use Rattle.gate_config.proofs.Beside.{one_more_route}
use Rattle.gate_config.proofs.Tables.{one_more_item, route_name, table_seen}
use Rattle.gate_config.proofs.routes.route_keys.Goals as goal

pub loop-value-preserved : goal.loop-value-preserved
loop-value-preserved c =
    let number : c.len.result + 1 ≡ length c.loop-value.routes.items + 1 = ap (λ n. n + 1) c.len.ensures.value in
    let prefix : c.as_slice.result.now ≡ item_prefix (prefix_of route.name) (length c.loop-value.routes.items + 1) =
    c.as_slice.ensures.value ∙ c.item_prefix-prefix.ensures ∙ ap (item_prefix (codes "route.")) number ∙ ap (λ word. item_prefix word (length c.loop-value.routes.items + 1)) (sym route_name) in
    let seen = table_seen (view c.value-item.result) c.as_table.result c.as_table.ensures ∙ ap members_seen c.value-item.is in
    let step =
    one_more_item route tt c.loop-value.routes.items c.in_ok-values.values.now c.loop-value.value-index c.value-item.result c.as_slice.result.now (members_of c.as_table.result)
    c.in_ok-route.route c.loop-value-test.true prefix seen (rw c.as_slice-in-loop-value.ensures.value at c.in_ok-route.ensures.said) in
    let beside : IsRouteBeside c.loop-value.routes.items c.in_ok-route.route = rw c.as_slice-in-loop-value.ensures.value at c.in_ok-route.ensures.valid in (
      rw c.push.ensures.items (sym step ∙ c.loop-value.invariant.0),
      rw (c.push.ensures.items, length-append) (omega arith),
      c.loop-value.invariant.2,
      rw c.push.ensures.items (one_more_route c.loop-value.routes.items c.in_ok-route.route c.loop-value.invariant.3 beside),
    )
