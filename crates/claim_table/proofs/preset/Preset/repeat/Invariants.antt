use Rattle.std.proofs.Common.{◌≡◌, drop}
use Rattle.claim_table.specs.Claims.{repeats}
use Rattle.claim_table.proofs.preset.Preset.repeat.Given as goal

abbrev pub invariant-loop-place : goal.invariant-loop-place
invariant-loop-place l = repeats (drop l.place l.presets) ≡ repeats l.presets
