-- The bits of a report as text (IEC 61162-1, encapsulated sentences): a character for each six.
use Rattle.std.specs.Prelude.{ℕ, ◌+◌, ◌-◌, nat_lt, Bool, List, [], ◌∷◌, if◌then◌else◌}
use Rattle.ais_report.specs.declared.report.AisReport.{AisReport}
use Rattle.ais_report.specs.Bits.{number_of}
use Rattle.ais_report.specs.Fields.{ais_bits}

-- of a number below 64
abbrev pub character : ℕ → ℕ
character n = if nat_lt n 40 then n + 48 else n + 56

-- sixes of bits, the first bit highest; a rest of fewer has no character
abbrev pub characters : List Bool → List ℕ
characters (a ∷ b ∷ c ∷ d ∷ e ∷ f ∷ rest) = character (number_of (a ∷ b ∷ c ∷ d ∷ e ∷ f ∷ [])) ∷ characters rest
characters _ = []

unfoldable pub armour_of : AisReport → List ℕ
armour_of r = characters (ais_bits r)
