-- Further quantities beside the gateway: each is said in its sentence, the lines of their transmission group are counted, and of two devices
-- the first that is fresh is heard.
use Rattle.std.specs.Prelude.{ℕ, true, false, List, [], ◌∷◌, ◌++◌, Some, codes}
use Rattle.datagram450.specs.Datagram.{header}
use Rattle.gate_events.specs.Emit.{Emit, Emitted, net}
use Rattle.source_choice.specs.SubjectRules.{SubjectRule}
use Rattle.history.specs.Cases.{emitted, full, lined, navd}
use Rattle.history.specs.Entries.{Entry}
use Rattle.further_bridge.specs.FurtherRule.{FurtherRule}
use Rattle.bridge.specs.BridgeSettings.{BridgeSettings}
use Rattle.bridge.specs.PartCases.{PartsEmit, alone, asking, ended, plain}

-- attitude, set and drift, the components of speed, the air's pressure, humidity and temperature, the sea's temperature and the revolutions of two
-- engines on MACH: each of every device, while what it said isn't older than 5 seconds
abbrev pub from_all : SubjectRule
from_all = record { sources = []; others = true; ignored = []; timeout = 5000 }

abbrev pub weather : FurtherRule
weather = record {
  group = codes "MACH";
  slots = 16;
  twin = false;
  rules = from_all ∷ from_all ∷ from_all ∷ from_all ∷ from_all ∷ from_all ∷ from_all ∷ from_all ∷ from_all ∷ [];
  talkers = codes "II" ∷ codes "II" ∷ codes "VD" ∷ codes "WI" ∷ codes "WI" ∷ codes "WI" ∷ codes "YX" ∷ codes "ER" ∷ codes "ER" ∷ [];
}

abbrev pub further_parts : BridgeSettings
further_parts = asking alone (Some weather) false false

abbrev pub FurtherEmit : List Entry → List Emitted → Type 0
FurtherEmit events after = PartsEmit further_parts 10000000 events after

abbrev pub mach : List ℕ → List ℕ → Emit
mach tag sentence = net (codes "MACH") (header ++ lined tag sentence)

-- single frames, and a fast packet of two; a row's line on another transmission group isn't counted with them
abbrev pub LinesAreCounted : Type 0
LinesAreCounted =
    FurtherEmit
    (full 10000000 0x0DF11917 0xFFFF7FFAFE2F02FF
    ∷ full 10100000 0x0DF90B17 0xFFFC5C3D4D00FFFF
    ∷ full 10200000 0x09F11217 0x005C3DFF7FFF7FFC
    ∷ full 10300000 0x09FE1217 0x000C131432FFB514
    ∷ full 10400000 0x15FD0A17 0xFF000002760F00FF
    ∷ full 10500000 0x09FE1217 0x01FF7FFF7FFF7FFF
    ∷ full 10600000 0x15FD0917 0xFF00013336FF7FFF
    ∷ full 10700000 0x15FD0817 0xFF0001C170FFFFFF
    ∷ [])
    (emitted 10000000 (mach (codes "s:II0001,n:1*01") (codes "$IIXDR,A,-1.5,D,PITCH,A,3.2,D,ROLL*3D"))
    ∷ emitted 10100000 (mach (codes "s:II0001,n:2*02") (codes "$IIVDR,90.0,T,,M,1.50,N*1A"))
    ∷ emitted 10200000 (navd (codes "s:II0001,n:1*01") (codes "$HEHDT,90.0,T*16"))
    ∷ emitted 10400000 (mach (codes "s:II0001,n:3*03") (codes "$WIXDR,P,1.0133,B,BAROMETER*09"))
    ∷ emitted 10500000 (mach (codes "s:II0001,n:4*04") (codes "$VDVBW,9.99,-0.40,A,10.30,,A,,V,,V*5D"))
    ∷ emitted 10600000 (mach (codes "s:II0001,n:5*05") (codes "$WIXDR,H,55.5,P,HUMIDITY*4A"))
    ∷ emitted 10700000 (mach (codes "s:II0001,n:6*06") (codes "$WIXDR,C,15.5,C,AIR*15"))
    ∷ [])

-- ---- of two devices the second is said once the first has been silent for more than 5 seconds

abbrev pub pressure : ℕ → ℕ → Entry
pressure moment id = full moment id 0xFF000002760F00FF

abbrev pub said_pressure : List ℕ
said_pressure = codes "$WIXDR,P,1.0133,B,BAROMETER*09"

abbrev pub FirstOfTwoIsSaid : Type 0
FirstOfTwoIsSaid =
    FurtherEmit
    (pressure 10000000 0x15FD0A17 ∷ pressure 10100000 0x15FD0A18 ∷ pressure 15000000 0x15FD0A18 ∷ pressure 15000001 0x15FD0A18 ∷ [])
    (emitted 10000000 (mach (codes "s:II0001,n:1*01") said_pressure) ∷ emitted 15000001 (mach (codes "s:II0001,n:2*02") said_pressure) ∷ [])

-- ---- and once more as a plain sentence

abbrev pub SaidOnceMore : Type 0
SaidOnceMore =
    PartsEmit (record further_parts { plain = Some (record { group = codes "PLAN"; every = 0 }) }) 10000000 (pressure 10000000 0x15FD0A17 ∷ [])
    (emitted 10000000 (mach (codes "s:II0001,n:1*01") said_pressure) ∷ emitted 10000000 (plain (ended said_pressure)) ∷ [])

-- ---- a message of an older weather station says each quantity that it has a value of, in a datagram of its own

abbrev pub SeveralAreSaid : Type 0
SeveralAreSaid =
    FurtherEmit
    (full 10000000 0x15FD0617 0xFF9B6E8372F503FF ∷ full 10100000 0x15FD0717 0xFF4183723336F503 ∷ full 10200000 0x15FD0617 0xFFCC6AFFFFFFFFFF ∷ [])
    (emitted 10000000 (mach (codes "s:II0001,n:1*01") (codes "$WIXDR,P,1.0130,B,BAROMETER*0A"))
    ∷ emitted 10000000 (mach (codes "s:II0001,n:2*02") (codes "$WIXDR,C,20.0,C,AIR*16"))
    ∷ emitted 10000000 (mach (codes "s:II0001,n:3*03") (codes "$YXMTW,10.0,C*13"))
    ∷ emitted 10100000 (mach (codes "s:II0001,n:4*04") (codes "$WIXDR,P,1.0130,B,BAROMETER*0A"))
    ∷ emitted 10100000 (mach (codes "s:II0001,n:5*05") (codes "$WIXDR,H,55.5,P,HUMIDITY*4A"))
    ∷ emitted 10100000 (mach (codes "s:II0001,n:6*06") (codes "$WIXDR,C,20.0,C,AIR*16"))
    ∷ emitted 10200000 (mach (codes "s:II0001,n:7*07") (codes "$YXMTW,0.3,C*21"))
    ∷ [])

-- ---- the sea's temperature isn't said while the row is, which counts 5 seconds

abbrev pub sea : ℕ → Entry
sea moment = full moment 0x15FD0718 0x00006E6EFF7FFFFF

abbrev pub SeaGivesWay : Type 0
SeaGivesWay =
    FurtherEmit
    (full 10000000 0x15FD0C17 0x000000CC2A04FFFF ∷ sea 10500000 ∷ sea 15000000 ∷ sea 15000001 ∷ [])
    (emitted 10000000 (navd (codes "s:II0001,n:1*01") (codes "$YXMTW,-0.1,C*0E")) ∷ emitted 15000001 (mach (codes "s:II0001,n:1*01") (codes "$YXMTW,9.6,C*2D")) ∷ [])

-- ---- engines by their numbers from the centre line: a single one, or that to port, and that to starboard

abbrev pub engine : ℕ → ℕ → Entry
engine moment bytes = full moment 0x09F20017 bytes

abbrev pub EnginesAreNumbered : Type 0
EnginesAreNumbered =
    PartsEmit (asking alone (Some (record weather { twin = true })) false false) 10000000
    (engine 10000000 0x00231CFFFF7FFFFF ∷ engine 10100000 0x01FFFFFFFF7FFFFF ∷ [])
    (emitted 10000000 (mach (codes "s:II0001,n:1*01") (codes "$ERRPM,E,2,1800.8,,A*5D")) ∷ emitted 10100000 (mach (codes "s:II0001,n:2*02") (codes "$ERRPM,E,1,,,V*56")) ∷ [])
