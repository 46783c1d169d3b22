-- Heartbeats, over everything that ever came: HBT on the network (IEC 61162-1, in a datagram of IEC 61162-450), and PGN 126993 on the bus.
use Rattle.std.specs.Prelude.{ℕ, ◌+◌, ◌%◌, pos, Bool, not, ◌&&◌, List, [], ◌∷◌, codes, Option, Some, None, is_some, if◌then◌else◌}
use Rattle.claim_table.specs.Claims.{Claims, is_ready}
use Rattle.datagram450.specs.Datagram.{sentence_datagram}
use Rattle.gate_events.specs.Emit.{Emit, net}
use Rattle.history.specs.Emits.{sent}
use Rattle.history.specs.Entries.{Entry, History, moment_of}
use Rattle.history.specs.Known.{known}
use Rattle.history.specs.Settings.{Settings, receiver_of}
use Rattle.sentence_fields.specs.Field.{letter_where, sentence_by}
use Rattle.sentence_fields.specs.declared.field.Field.{Field}
use Rattle.sentence_fields.specs.declared.field.Field.TheVariants.{Decimal, Digits, Letter}
use Rattle.sentence_fields.specs.declared.written_unit.WrittenUnit.{WrittenUnit}
use Rattle.settings.specs.declared.heartbeat.NetHeartbeat.{NetHeartbeat}
use Rattle.heartbeats.specs.Due.{is_due, last_due}

-- ---- HBT: the seconds between two, whether all is well (A, else V), and how many there were before, modulo 10

-- seconds, with one decimal
abbrev pub seconds : WrittenUnit
seconds = record { num = 10; den = 1; places = 1; largest = 999; digits = 4 }

abbrev pub hbt : ℕ → Bool → ℕ → List Field
hbt every is_well before = Decimal (Some (pos every)) seconds ∷ Letter (letter_where is_well 65 86) ∷ Digits (Some (before % 10)) 1 ∷ []

abbrev pub hbt_text : List ℕ → ℕ → Bool → ℕ → List ℕ
hbt_text talker every is_well before = sentence_by talker (codes "HBT") (hbt every is_well before)

-- in its datagram; all of them go to one transmission group, each in one line
abbrev pub hbt_emit : NetHeartbeat → List ℕ → Bool → ℕ → Emit
hbt_emit n sfi is_well before = net n.group (sentence_datagram sfi before (hbt_text n.talker n.every_s is_well before))

-- what is known of the addresses after a history
abbrev pub claims_after : Settings → ℕ → History → Claims
claims_after c s h = (known (receiver_of c) s h).claims

module _ (n : NetHeartbeat) (c : Settings) (s : ℕ) where
  -- how many there were in a history
  abbrev pub hbt_before : History → ℕ
  hbt_before [] = 0
  hbt_before (e ∷ h) = if is_due n.every_s s h e then hbt_before h + 1 else hbt_before h

-- the gateway has an address behind the entry, and no watched row is silent then
abbrev pub is_well : (History → Entry → Bool) → Settings → ℕ → History → Entry → Bool
is_well silent c s h e = is_some (claims_after c s (e ∷ h)).own && not (silent h e)

abbrev pub hbt_out : (History → Entry → Bool) → NetHeartbeat → Settings → ℕ → History → Entry → List Emit
hbt_out silent n c s h e = if is_due n.every_s s h e then hbt_emit n c.sfi (is_well silent c s h e) (hbt_before n c s h) ∷ [] else []

-- ---- PGN 126993: how many were sent before, modulo 253; the interval and the states aren't available

abbrev pub heartbeat_pgn : ℕ
heartbeat_pgn = 126993

abbrev pub beat_bytes : ℕ → List ℕ
beat_bytes before = 0xFF ∷ 0xFF ∷ before % 253 ∷ 0xFF ∷ 0xFF ∷ 0xFF ∷ 0xFF ∷ 0xFF ∷ []

-- from the own address, to all; without one there is none
abbrev pub beat_from : Option ℕ → ℕ → List Emit
beat_from None before = []
beat_from (Some own) before = sent 7 heartbeat_pgn 255 own (beat_bytes before) ∷ []

module _ (every : ℕ) (c : Settings) (s : ℕ) where
  -- one is due, and at the last moment at which one was the gateway was ready
  abbrev pub is_beat : History → Entry → Bool
  is_beat h e = is_due every s h e && is_ready (claims_after c s (e ∷ h)) (last_due every s (moment_of e))

  -- how many there were in a history
  abbrev pub beats_before : History → ℕ
  beats_before [] = 0
  beats_before (e ∷ h) = if is_beat h e then beats_before h + 1 else beats_before h

  abbrev pub beat_out : History → Entry → List Emit
  beat_out h e = if is_beat h e then beat_from (claims_after c s (e ∷ h)).own (beats_before h) else []
