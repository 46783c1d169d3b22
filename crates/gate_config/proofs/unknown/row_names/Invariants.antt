use Rattle.std.proofs.Common.{◌≡◌, ℕ, ◌≤◌, List, All, Bor, length, map, take}
use Rattle.gate_config.specs.Unknown.{row_names}
use Rattle.gate_config.proofs.unknown.row_names.Given as goal

abbrev pub invariant-loop-row : goal.invariant-loop-row
invariant-loop-row l =
    (map (λ (name : Bor (List ℕ)). name.now) l.names.items ≡ row_names (take l.row-index l.all)) × (length l.names.items ≡ l.row-index)
    × All (λ (name : Bor (List ℕ)). length name.now ≤ 32) l.names.items
