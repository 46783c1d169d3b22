-- The pattern of a whole NAME.
use Rattle.std.proofs.Common.{ℕ, ◌/◌, ◌^◌, ◌<◌, Some, subst, arith}
use Rattle.std.proofs.Math.Nat.{mod-lt, one-le-pow}
use Rattle.std.proofs.lemmas.Option.{same_Some}
use Rattle.n2k_id.specs.Name.{bits_at, fields_of, stating}
use Rattle.config_document.specs.Patterns.{Fits, IsStated}

fits_at : (low width name : ℕ) → Fits width (Some (bits_at low width name))
unfolding bits_at
fits_at low width name x same =
    subst (λ (v : ℕ). v < 2 ^ width) (same_Some _ x same) (mod-lt (name / 2 ^ low) (one-le-pow width 2 (omega arith)))

-- fields are no wider than they are
pub whole_is_stated : (name : ℕ) → IsStated (stating (fields_of name))
unfolding fields_of stating
whole_is_stated name = record {
  unique = fits_at 0 21 name;
  manufacturer = fits_at 21 11 name;
  instance_lower = fits_at 32 3 name;
  instance_upper = fits_at 35 5 name;
  reserved = fits_at 48 1 name;
  class = fits_at 49 7 name;
  system_instance = fits_at 56 4 name;
  industry = fits_at 60 3 name;
}
