-- What is written of an event is read back as that event.
use Rattle.std.specs.Prelude.{◌≡◌, ℕ, ◌^◌, ◌<◌, ◌≤◌, List, ◌++◌, length, Ok}
use Rattle.hex.specs.Hex.{IsBytes}
use Rattle.n2k_id.specs.Frame.{BusFrame}
use Rattle.sentence_text.specs.Names.{IsGroup}
use Rattle.gate_events.specs.Event.{Seen, frame, datagram, tick, moment_in}
use Rattle.capture_text.specs.Reading.{read}
use Rattle.capture_text.specs.Writing.{IsShort, event_text, start_mark}

-- a frame of 29 bits of identifier and at most eight bytes, or a short datagram
abbrev pub Fits : Seen → Type 0
Fits (frame moment f) = (f.id < 2 ^ 29) × (length f.held ≤ 8) × IsBytes f.held
Fits (datagram moment bytes) = IsShort (datagram moment bytes) × IsBytes bytes
Fits (tick moment) = Unit {0}

-- below 10^16 microseconds, under any group
abbrev pub EventsAreReadBack : Type 0
EventsAreReadBack = (group : List ℕ) (seen : Seen) → IsGroup group → Fits seen → moment_in seen < 10 ^ 16 → read (event_text group seen) ≡ Ok seen

abbrev pub StartsAreTicks : Type 0
StartsAreTicks = (group : List ℕ) (moment : ℕ) → moment < 10 ^ 16 → read (event_text group (tick moment) ++ start_mark) ≡ Ok (tick moment)

-- so does every frame that is read
abbrev pub FramesFit : Type 0
FramesFit = (line : List ℕ) (moment : ℕ) (f : BusFrame) → read line ≡ Ok (frame moment f) → Fits (frame moment f)
