use Rattle.std.proofs.Common.{◌≡◌, ℕ, List, Bor, map, drop}
use Rattle.config_document.specs.Places.{place_of}
use Rattle.config_document.specs.Unknown.{path_seen}
use Rattle.gate_config.specs.Unknown.{each_noted}
use Rattle.gate_config.proofs.unknown.under_each.Given as goal

abbrev pub invariant-loop-name : goal.invariant-loop-name
invariant-loop-name l =
    each_noted (map (λ (key : Bor (List ℕ)). key.now) l.keys) l.word (place_of l.section) (map (λ (name : Bor (List ℕ)). name.now) (drop l.name-index l.names)) (path_seen l.least)
    ≡ each_noted (map (λ (key : Bor (List ℕ)). key.now) l.keys) l.word (place_of l.section) (map (λ (name : Bor (List ℕ)). name.now) l.names) (path_seen l.fn.least)
