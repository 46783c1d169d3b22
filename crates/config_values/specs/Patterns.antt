-- A choice of devices by the fields of their NAMEs (ISO 11783-5), as it can be configured.
use Rattle.std.specs.Prelude.{ℕ, ◌^◌, ◌<◌, Option}
use Rattle.std.specs.Option.{ForSome}
use Rattle.n2k_id.specs.declared.pattern.Pattern.{Pattern}

-- the value isn't stated, or has no more than so many bits
abbrev pub Fits : ℕ → Option ℕ → Type 0
Fits width stated = ForSome stated (λ value. value < 2 ^ width)

-- each value that is stated fits its field of a NAME; the function, of 8 bits, and the arbitrary address bit fit by their types
pub record IsPattern (p : Pattern) : Type 0 where
  pub unique : Fits 21 p.unique
  pub manufacturer : Fits 11 p.manufacturer
  pub instance_lower : Fits 3 p.instance_lower
  pub instance_upper : Fits 5 p.instance_upper
  pub reserved : Fits 1 p.reserved
  pub class : Fits 7 p.class
  pub system_instance : Fits 4 p.system_instance
  pub industry : Fits 3 p.industry
