use Rattle.std.proofs.Common.{◌≡◌, ℕ, ◌≤◌, List, All, Bor, length, map, take}
use Rattle.gate_config.specs.Unknown.{quantity_names}
use Rattle.gate_config.proofs.unknown.quantity_names.Given as goal

abbrev pub invariant-loop-quantity : goal.invariant-loop-quantity
invariant-loop-quantity l =
    (map (λ (name : Bor (List ℕ)). name.now) l.names.items ≡ quantity_names (take l.quantity-index l.all)) × (length l.names.items ≡ l.quantity-index)
    × All (λ (name : Bor (List ℕ)). length name.now ≤ 32) l.names.items
