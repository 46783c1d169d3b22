use Rattle.std.proofs.Common.{◌≡◌, ◌+◌, ap, sym, ◌∙◌, length, length-append, arith}
use Rattle.std.specs.Prelude.{codes}
use Rattle.toml.specs.View.{view}
use Rattle.config_document.specs.Places.{members_of, members_seen}
use Rattle.gate_config.specs.Beside.{IsPresetBeside}
use Rattle.gate_config.specs.Keys.{preset}
use Rattle.gate_config.specs.Reading.{item_prefix, prefix_of}
use Rattle.gate_config.proofs.Beside.{one_more_preset}
use Rattle.gate_config.proofs.Tables.{one_more_item, preset_name, table_seen}
use Rattle.gate_config.proofs.presets.preset_keys.Goals as goal

pub loop-value-preserved : goal.loop-value-preserved
loop-value-preserved c =
    let number : c.len.result + 1 ≡ length c.loop-value.presets.items + 1 = ap (λ n. n + 1) c.len.ensures.value in
    let prefix : c.as_slice.result.now ≡ item_prefix (prefix_of preset.name) (length c.loop-value.presets.items + 1) =
    c.as_slice.ensures.value ∙ c.item_prefix-prefix.ensures ∙ ap (item_prefix (codes "preset.")) number ∙ ap (λ word. item_prefix word (length c.loop-value.presets.items + 1)) (sym preset_name) in
    let seen = table_seen (view c.value-item.result) c.as_table.result c.as_table.ensures ∙ ap members_seen c.value-item.is in
    let step =
    one_more_item preset c.args.own.now c.loop-value.presets.items c.in_ok-values.values.now c.loop-value.value-index c.value-item.result c.as_slice.result.now (members_of c.as_table.result)
    c.in_ok-preset.preset c.loop-value-test.true prefix seen (rw c.as_slice-in-loop-value.ensures.value at c.in_ok-preset.ensures.said) in
    let beside : IsPresetBeside c.args.own.now c.loop-value.presets.items c.in_ok-preset.preset = rw c.as_slice-in-loop-value.ensures.value at c.in_ok-preset.ensures.valid in (
      rw c.push.ensures.items (sym step ∙ c.loop-value.invariant.0),
      rw (c.push.ensures.items, length-append) (omega arith),
      c.loop-value.invariant.2,
      rw c.push.ensures.items (one_more_preset c.args.own.now c.loop-value.presets.items c.in_ok-preset.preset c.loop-value.invariant.3 beside),
    )
