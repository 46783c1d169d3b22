use Rattle.std.proofs.Common.{◌≡◌, None, drop, length, replicate}
use Rattle.claim_table.specs.Claims.{with_presets}
use Rattle.claim_table.proofs.preset.placed.Given as goal

abbrev pub invariant-loop-preset : goal.invariant-loop-preset
invariant-loop-preset l = record {
  rest : with_presets l.holders.items (drop l.preset-index l.presets) ≡ with_presets (replicate 254 None) l.presets;
  room : length l.holders.items ≡ 254;
}
