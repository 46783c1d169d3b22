-- How a case is written down: identifiers, bytes and moments as numbers.
use Rattle.std.specs.Prelude.{◌≡◌, ℕ, ◌+◌, true, false, List, [], ◌∷◌, ◌++◌, map, codes, slice_index}
use Rattle.std.specs.Int.{w64, to_be_bytes}
use Rattle.claim_table.specs.declared.preset.Preset.{Preset}
use Rattle.claim_table.specs.Claims.{claim_wait}
use Rattle.readings.specs.declared.rows.Row.{Row}
use Rattle.readings.specs.Rows.{about_of, every_row}
use Rattle.datagram450.specs.Datagram.{header}
use Rattle.sentence_profile.specs.Reading.{usual}
use Rattle.history.specs.Entries.{Entry, frame}
use Rattle.history.specs.Settings.{Settings, RowRule}
use Rattle.gate_events.specs.Emit.{Emit, Emitted, can, net}
use Rattle.history.specs.Gate.{gate}

-- a frame of 8 bytes, the first one highest
abbrev pub full : ℕ → ℕ → ℕ → Entry
full moment id bytes = frame moment (record { id = id; held = to_be_bytes w64 bytes })

abbrev pub can_frame : ℕ → ℕ → Emit
can_frame id bytes = can (record { id = id; held = to_be_bytes w64 bytes })

abbrev pub emitted : ℕ → Emit → Emitted
emitted moment e = record { moment = moment; emit = e }

-- from when on a gateway may send that starts at 10 seconds
abbrev pub when_ready : ℕ
when_ready = 10000000 + claim_wait

-- a datagram of one line: what stands in its TAG block, and its sentence
abbrev pub lined : List ℕ → List ℕ → List ℕ
lined tag sentence = 92 ∷ (tag ++ 92 ∷ (sentence ++ 13 ∷ 10 ∷ []))

abbrev pub navd : List ℕ → List ℕ → Emit
navd tag sentence = net (codes "NAVD") (header ++ lined tag sentence)

-- ---- a gateway that takes all sources for 5 seconds and says all on NAVD

abbrev pub plain_rule : Row → RowRule
plain_rule r = record { sources = []; others = true; ignored = []; timeout = 5000; talker = (about_of r).talker; group = codes "NAVD" }

abbrev pub with_presets : List Preset → Settings
with_presets presets = record {
  name = 0xC0328200FFC00001;
  address = 251;
  sfi = codes "II0001";
  fast_slots = 64;
  iso_slots = 8;
  group_slots = 8;
  ths = false;
  presets = presets;
  rows = map plain_rule every_row;
  net_sources = codes "II0002" ∷ [];
  optional_sentences = usual;
}

abbrev pub preset : ℕ → ℕ → Preset
preset address name = record { address = address; name = record { 0 = name } }

-- without presets, and with two devices at 23 and 24
abbrev pub bare : Settings
bare = with_presets []

abbrev pub two_devices : Settings
two_devices = with_presets (preset 23 0xC0788C00FFC00005 ∷ preset 24 0xC0788C00FFC00006 ∷ [])

-- what every start emits
abbrev pub started : ℕ → List Emitted
started s = emitted s (can_frame 0x18EEFFFB 0x0100C0FF008232C0) ∷ emitted s (can (record { id = 0x18EAFFFB; held = 0x00 ∷ 0xEE ∷ 0x00 ∷ [] })) ∷ []

-- a case holds where the gateway emits this after its start
abbrev pub Emits : Settings → ℕ → List Entry → List Emitted → Type 0
Emits c s events after = gate c s events ≡ started s ++ after

-- nothing but its start
abbrev pub IsSilent : Settings → ℕ → List Entry → Type 0
IsSilent c s events = Emits c s events []

-- ---- a position fix of 43 bytes, in seven frames, and the sentence that says it

abbrev pub fix_frames : List ℕ
fix_frames =
    0x002B00DB4C0008AF ∷ 0x012F000000000000 ∷ 0x0200080000000000 ∷ 0x03000002E0AEBB00 ∷ 0x040000000010FC09 ∷ 0x056900FF7FF40600
    ∷ 0x060000FFFFFFFFFF ∷ []

abbrev pub fix : ℕ → ℕ → ℕ → Entry
fix moment source number = full moment (0x0DF80500 + source) (slice_index fix_frames number)

abbrev pub fix_said : List ℕ
fix_said = codes "$GPGGA,221320.00,5738.7645,N,01424.6911,E,1,09,1.05,12.3,M,17.8,M,,*6A"
