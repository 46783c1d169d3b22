use Rattle.std.proofs.Common.{◌≡◌, [], length, drop}
use Rattle.config_document.specs.Places.{place_of}
use Rattle.gate_config.specs.Keys.{limit_of}
use Rattle.gate_config.specs.Reading.{each_from}
use Rattle.settings.specs.Watch.{AreLimits}
use Rattle.gate_config.proofs.watch.each_limit.Given as goal

abbrev pub invariant-loop-each : goal.invariant-loop-each
invariant-loop-each l =
    (each_from (limit_of (place_of l.rows)) l.read.items (drop l.each-index l.all) ≡ each_from (limit_of (place_of l.rows)) [] l.all) × (length l.read.items ≡ l.each-index)
    × AreLimits l.read.items
