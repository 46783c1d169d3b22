-- The bits of a text, and the report whose fields stand in them.
use Rattle.std.specs.Prelude.{ℕ, ◌-◌, ◌^◌, nat_lt, ℤ, pos, ◌-ℤ◌, Bool, ◌==◌, List, take, drop, if◌then◌else◌}
use Rattle.std.specs.List.{flat_map}
use Rattle.ais_report.specs.declared.report.AisReport.{AisReport}
use Rattle.ais_report.specs.Bits.{bits_of, number_of}

abbrev pub number_in : ℕ → ℕ
number_in c = if nat_lt c 88 then c - 48 else c - 56

abbrev pub bits_of_character : ℕ → List Bool
bits_of_character c = bits_of 6 (number_in c)

unfoldable pub text_bits : List ℕ → List Bool
text_bits text = flat_map bits_of_character text

abbrev pub number_at : List Bool → ℕ → ℕ → ℕ
number_at bits place width = number_of (take width (drop place bits))

abbrev pub signed_from : ℕ → ℕ → ℤ
signed_from width n = if nat_lt n (2 ^ (width - 1)) then pos n else pos n -ℤ pos (2 ^ width)

abbrev pub signed_at : List Bool → ℕ → ℕ → ℤ
signed_at bits place width = signed_from width (number_at bits place width)

unfoldable pub report_from : List Bool → AisReport
report_from bits = record {
  kind = number_at bits 0 6;
  repeat = number_at bits 6 2;
  mmsi = number_at bits 8 30;
  status = number_at bits 38 4;
  sog = number_at bits 50 10;
  accuracy = number_at bits 60 1 == 1;
  longitude = signed_at bits 61 28;
  latitude = signed_at bits 89 27;
  cog = number_at bits 116 12;
  heading = number_at bits 128 9;
  second = number_at bits 137 6;
  manoeuvre = number_at bits 143 2;
  raim = number_at bits 148 1 == 1;
  radio = number_at bits 149 19;
}
