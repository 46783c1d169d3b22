use Rattle.std.proofs.Common.{◌≡◌, ℕ, ◌+◌, List, Bor, map, drop}
use Rattle.toml.specs.View.{items_view}
use Rattle.config_document.specs.Unknown.{path_seen}
use Rattle.gate_config.specs.Unknown.{noted_items}
use Rattle.gate_config.proofs.unknown.in_items.Given as goal

abbrev pub invariant-loop-place : goal.invariant-loop-place
invariant-loop-place l =
    noted_items (map (λ (key : Bor (List ℕ)). key.now) l.keys) l.word (l.place + 1) (items_view (drop l.place l.values)) (path_seen l.least)
    ≡ noted_items (map (λ (key : Bor (List ℕ)). key.now) l.keys) l.word 1 (items_view l.values) (path_seen l.fn.least)
