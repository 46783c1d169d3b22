-- Whose messages are said, by the places of their patterns and by their NAMEs.
use Rattle.std.specs.Prelude.{ℕ, false, List, [], ◌∷◌, map, codes, Some, None}
use Rattle.n2k_id.specs.declared.pattern.Pattern.{Pattern}
use Rattle.readings.specs.declared.rows.Row.{Row}
use Rattle.readings.specs.declared.rows.Row.TheVariants as row
use Rattle.report_rules.specs.Rules.{fast_orphan, short_message}
use Rattle.history.specs.Entries.{frame}
use Rattle.history.specs.Settings.{Settings, RowRule}
use Rattle.history.specs.Emits.{of_source}
use Rattle.readings.specs.Rows.{every_row}
use Rattle.history.specs.Cases.{Emits, IsSilent, can_frame, fix, full, emitted, navd, with_presets, preset, plain_rule}

-- every device
abbrev pub anyone : Pattern
anyone = record {
  unique = None;
  manufacturer = None;
  instance_lower = None;
  instance_upper = None;
  function = None;
  reserved = None;
  class = None;
  system_instance = None;
  industry = None;
  arbitrary = None;
}

-- the devices of a manufacturer
abbrev pub by_manufacturer : ℕ → Pattern
by_manufacturer code = record anyone { manufacturer = Some code }

-- true heading from devices of one manufacturer alone; a third device is of another one
abbrev pub one_maker : Row → RowRule
one_maker row.HeadingTrue = record (plain_rule row.HeadingTrue) { sources = by_manufacturer 2046 ∷ []; others = false }
one_maker r = plain_rule r

abbrev pub three_devices : Settings
three_devices = record (with_presets (preset 23 0xC0788C00FFC00005 ∷ preset 24 0xC0788C00FFC00006 ∷ preset 25 0xC0788C00FF800007 ∷ [])) { rows = map one_maker every_row }

-- of two devices with one place in the list the smaller NAME goes first
abbrev pub BySmallerName : Type 0
BySmallerName =
    Emits three_devices 1000000
    (full 1000000 0x09F11218 0x005C3DFF7FFF7FFC
    ∷ full 2000000 0x09F11217 0x006D3DFF7FFF7FFC
    ∷ full 3000000 0x09F11218 0x005C3DFF7FFF7FFC
    ∷ full 7000000 0x09F11218 0x005C3DFF7FFF7FFC
    ∷ full 7000001 0x09F11218 0x005C3DFF7FFF7FFC
    ∷ [])
    (emitted 1000000 (navd (codes "s:II0001,n:1*01") (codes "$HEHDT,90.0,T*16"))
    ∷ emitted 2000000 (navd (codes "s:II0001,n:2*02") (codes "$HEHDT,90.1,T*17"))
    ∷ emitted 7000001 (navd (codes "s:II0001,n:3*03") (codes "$HEHDT,90.0,T*16"))
    ∷ [])

-- where a row is taken from nobody else, a device that no pattern matches says nothing
abbrev pub NotListed : Type 0
NotListed =
    IsSilent three_devices 1000000
    (full 1000000 0x09F11219 0x005C3DFF7FFF7FFC
    ∷ full 9000000 0x09F11219 0x005C3DFF7FFF7FFC
    ∷ [])

-- where others are taken they come in the order of their NAMEs
abbrev pub OthersByName : Type 0
OthersByName =
    Emits three_devices 1000000
    (full 1000000 0x09F80118 0x79A4BF07002EB694
    ∷ full 1001000 0x09F80119 0x79A4BF07002EB694
    ∷ full 1002000 0x09F80117 0x79A4BF07002EB694
    ∷ [])
    (emitted 1000000 (navd (codes "s:II0001,n:1*01") (codes "$GPGLL,1300.0000,N,18000.0000,W,,A,A*5E"))
    ∷ emitted 1001000 (navd (codes "s:II0001,n:2*02") (codes "$GPGLL,1300.0000,N,18000.0000,W,,A,A*5E"))
    ∷ [])

-- ---- devices that no row is taken from

-- the rows of these rules, none of them taken from the devices that one of the patterns matches
abbrev pub ignoring : List Pattern → (Row → RowRule) → Settings
ignoring patterns rule = record three_devices { rows = map (λ r. record (rule r) { ignored = patterns }) every_row }

-- by one field, others taken: of such a device nothing is said in any row, and the next one is said at once though its NAME be greater
abbrev pub IgnoredByOneField : Type 0
IgnoredByOneField =
    Emits (ignoring (by_manufacturer 2044 ∷ []) plain_rule) 1000000
    (full 1000000 0x09F11219 0x005C3DFF7FFF7FFC
    ∷ full 1001000 0x09F11217 0x006D3DFF7FFF7FFC
    ∷ full 1002000 0x09F11218 0x005C3DFF7FFF7FFC
    ∷ full 1003000 0x09F80119 0x79A4BF07002EB694
    ∷ full 1004000 0x09F80118 0x79A4BF07002EB694
    ∷ [])
    (emitted 1001000 (navd (codes "s:II0001,n:1*01") (codes "$HEHDT,90.1,T*17"))
    ∷ emitted 1004000 (navd (codes "s:II0001,n:2*02") (codes "$GPGLL,1300.0000,N,18000.0000,W,,A,A*5E"))
    ∷ [])

-- by the second of two patterns, and no others taken: that a device is listed doesn't help it
abbrev pub IgnoredThoughListed : Type 0
IgnoredThoughListed =
    IsSilent (ignoring (by_manufacturer 1 ∷ by_manufacturer 2046 ∷ []) one_maker) 1000000
    (full 1000000 0x09F11217 0x005C3DFF7FFF7FFC
    ∷ full 1001000 0x09F11218 0x005C3DFF7FFF7FFC
    ∷ full 1002000 0x09F11219 0x005C3DFF7FFF7FFC
    ∷ [])

-- where everyone is ignored nothing is said; but a claim takes the gateway's address, a request is answered, and what breaks a rule is
-- reported
abbrev pub AllIgnored : Type 0
AllIgnored =
    Emits (ignoring (anyone ∷ []) plain_rule) 10000000
    (full 10001000 0x09F11217 0x005C3DFF7FFF7FFC
    ∷ full 10002000 0x18EEFFFB 0x0200C0FF00823280
    ∷ frame 10003000 (record { id = 0x18EAFF17; held = 0x00 ∷ 0xEE ∷ 0x00 ∷ [] })
    ∷ frame 10004000 (record { id = 0x09F11218; held = 0x00 ∷ 0x5C ∷ 0x3D ∷ [] })
    ∷ fix 10005000 24 1
    ∷ full 10006000 0x09F11219 0x005C3DFF7FFF7FFC
    ∷ [])
    (emitted 10002000 (can_frame 0x18EEFF00 0x0100C0FF008232C0)
    ∷ emitted 10003000 (can_frame 0x18EEFF00 0x0100C0FF008232C0)
    ∷ emitted 10004000 (of_source short_message 24 127250)
    ∷ emitted 10005000 (of_source fast_orphan 24 129029)
    ∷ [])
