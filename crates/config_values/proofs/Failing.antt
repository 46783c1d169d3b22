-- Tests that fail.
use Rattle.std.proofs.Common.{◌≡◌, true, false}
use Rattle.std.proofs.lemmas.Bool.{false≢true}

-- a test that fails where a fact can't hold tells that fact
pub never : {P Q : Type 0} → (Q → ⊥) → (false ≡ true → P) × (Q → false ≡ true)
never nothing = (λ e. absurd (false≢true e), λ q. absurd (nothing q))
