use Rattle.std.proofs.Common.{◌≡◌, ◌+◌, ◌≤◌, [], length, map, drop}
use Rattle.config_document.specs.Places.{members_seen}
use Rattle.config_values.specs.Presets.{ArePresets}
use Rattle.gate_config.specs.Keys.{preset}
use Rattle.gate_config.specs.Reading.{items_from}
use Rattle.gate_config.proofs.presets.preset_keys.Given as goal

abbrev pub invariant-loop-value : goal.invariant-loop-value
invariant-loop-value l =
    (items_from preset l.own (length l.presets.items + 1) l.presets.items (map members_seen (drop l.value-index l.values)) ≡ items_from preset l.own 1 [] (map members_seen l.values))
    × (length l.presets.items ≡ l.value-index) × (length l.values ≤ 253) × ArePresets l.own.name l.own.address l.presets.items
