-- Whose messages are said.
use Rattle.std.specs.Prelude.{ℕ, [], ◌∷◌, map, codes}
use Rattle.n2k_id.specs.declared.pattern.Pattern.{Pattern}
use Rattle.n2k_id.specs.Name.{fields_of, stating}
use Rattle.readings.specs.declared.rows.Row.{Row}
use Rattle.readings.specs.declared.rows.Row.TheVariants as row
use Rattle.history.specs.Entries.{frame}
use Rattle.history.specs.Settings.{Settings, RowRule}
use Rattle.history.specs.Emits.{of_source}
use Rattle.readings.specs.Rows.{every_row}
use Rattle.history.specs.Cases.{Emits, full, emitted, navd, two_devices, plain_rule}

abbrev pub OneHeading : Type 0
OneHeading =
    Emits two_devices 1700000000000000 (full 1700000000000000 0x09F11217 0x005C3DFF7FFF7FFC ∷ [])
    (emitted 1700000000000000 (navd (codes "s:II0001,n:1*01") (codes "$HEHDT,90.0,T*16")) ∷ [])

-- the device of this NAME, and no other
abbrev pub of_name : ℕ → Pattern
of_name name = stating (fields_of name)

-- true heading from the device at 23, and for want of it from that at 24, each for 2 seconds
abbrev pub ranked_rule : Row → RowRule
ranked_rule row.HeadingTrue = record (plain_rule row.HeadingTrue) { sources = of_name 0xC0788C00FFC00005 ∷ of_name 0xC0788C00FFC00006 ∷ []; timeout = 2000 }
ranked_rule r = plain_rule r

abbrev pub ranked : Settings
ranked = record two_devices { rows = map ranked_rule every_row }

-- the second source is heard once the first has been silent for more than 2 seconds, or has nothing to say
abbrev pub FirstOfTwo : Type 0
FirstOfTwo =
    Emits ranked 100000000
    (full 100000000 0x09F11217 0x005C3DFF7FFF7FFC
    ∷ full 100500000 0x09F11218 0x006D3DFF7FFF7FFC
    ∷ full 102000000 0x09F11218 0x006D3DFF7FFF7FFC
    ∷ full 102000001 0x09F11218 0x006D3DFF7FFF7FFC
    ∷ full 102100000 0x09F11217 0x00FFFFFF7FFF7FFC
    ∷ full 102100001 0x09F11218 0x006D3DFF7FFF7FFC
    ∷ [])
    (emitted 100000000 (navd (codes "s:II0001,n:1*01") (codes "$HEHDT,90.0,T*16"))
    ∷ emitted 102000001 (navd (codes "s:II0001,n:2*02") (codes "$HEHDT,90.1,T*17"))
    ∷ emitted 102100000 (navd (codes "s:II0001,n:3*03") (codes "$HEHDT,,T*01"))
    ∷ emitted 102100001 (navd (codes "s:II0001,n:4*04") (codes "$HEHDT,90.1,T*17"))
    ∷ [])

-- a message of three bytes that owes eight
abbrev pub Short : Type 0
Short =
    Emits two_devices 5000000 (frame 5000000 (record { id = 0x09F11217; held = 0x00 ∷ 0x5C ∷ 0x3D ∷ [] }) ∷ [])
    (emitted 5000000 (of_source 22 23 127250) ∷ [])
