-- A line that is written of an event, or of an emit that is a frame or a datagram, says it again.
use Rattle.std.proofs.Common.{◌≡◌, ℕ, ◌/◌, ◌^◌, ◌<◌, ◌≤◌, zero, suc, false, List, [], ◌∷◌, ◌++◌, length, Ok, refl, sym, ap, subst, ◌∙◌, append_assoc, length-append, arith}
use Rattle.std.specs.Prelude.{codes, IfSome, IsTrue}
use Rattle.std.specs.Borrow.{Bor}
use Rattle.std.specs.Char.{is_ascii_digit}
use Rattle.std.specs.Fmt.{decimal}
use Rattle.std.specs.Int.{w32, to_be_bytes}
use Rattle.std.specs.Cmp.Lexicographic.{other_text}
use Rattle.std.proofs.lemmas.Fmt.{length-decimal-le}
use Rattle.std.proofs.lemmas.List.{append-nil, length-take}
use Rattle.std.proofs.lemmas.Nat.{from_be_bytes-to_be_bytes_4}
use Rattle.hex.specs.Hex.{encode_upper, IsBytes, upper_digits}
use Rattle.hex.proofs.HexLemmas.{length-encode_with, decode_of-encode_upper, decode_of-ok}
use Rattle.sentence_text.specs.Names.{IsGroup}
use Rattle.sentence_text.proofs.Bytes.{all_parts}
use Rattle.unit_fraction.specs.Text.{decimals, decimal_text}
use Rattle.unit_fraction.proofs.Text.{has_form}
use Rattle.n2k_id.specs.declared.frame.Frame.{Frame}
use Rattle.n2k_id.specs.Frame.{BusFrame, IsFrame, bus_frame, held_bytes}
use Rattle.capture_text.specs.Capture.{IsTime, IsInterface, Begins, IsLine, is_end}
use Rattle.gate_events.specs.declared.event.Event.{Event}
use Rattle.gate_events.specs.Event.{Seen, frame, datagram, tick, moment_in, view}
use Rattle.capture_text.specs.EventLaws.{EventsAreReadBack, Fits, FramesFit, StartsAreTicks}
use Rattle.capture_text.specs.Reading.{read}
use Rattle.gate_events.specs.declared.emit.Emit.{Emit}
use Rattle.gate_events.specs.declared.emit.Emit.TheVariants as emit
use Rattle.capture_text.specs.Writing.{time_text, frame_text, datagram_text, event_text, line_meaning, most_recorded, start_mark}
use Rattle.gate_events.specs.Emit.{CanWrite}
use Rattle.capture_text.proofs.Data.{written_digits}
use Rattle.capture_text.proofs.Laws.{again, found}
use Rattle.capture_text.proofs.Numbers.{all_digits, length-decimals}

abbrev pub time_of : ℕ → List ℕ
time_of moment = 40 ∷ (decimal_text false moment 6 ++ 41 ∷ [])

is_time : (moment : ℕ) → moment < 10 ^ 16 → IsTime moment (time_of moment)
is_time moment early =
    let fits : moment < 2 ^ 64 = omega arith in
    let form = has_form false moment 6 fits in
    let seconds = decimal (moment / 10 ^ 6) in
    let few : length seconds ≤ 10 = length-decimal-le 10 (moment / 10 ^ 6) (omega arith) (omega arith) (omega arith) in
    let digits = all_parts is_ascii_digit form.whole form.part (all_digits (form.whole ++ form.part) ∙ form.are_digits) in
    record {
      seconds = form.whole;
      micros = form.part;
      spelled = ap (λ (x : List ℕ). 40 ∷ (x ++ 41 ∷ [])) form.spelled ∙ ap (λ (x : List ℕ). 40 ∷ x) (append_assoc form.whole (46 ∷ form.part) (41 ∷ []));
      some = omega (arith, form.some);
      few = omega (arith, few, ap length form.spelled, length-append seconds (46 ∷ decimals 6 moment), length-decimals 6 moment, length-append form.whole (46 ∷ form.part), form.exact);
      six = form.exact;
      seconds_digits = digits.0;
      micros_digits = digits.1;
      value = sym form.value;
    }

-- a written line begins with its time, a space and its interface
pub shape : (moment : ℕ) (rest : List ℕ) → time_text moment ++ rest ≡ time_of moment ++ 32 ∷ rest
shape moment rest =
    let d = decimal_text false moment 6 in
    ap (λ (x : List ℕ). 40 ∷ x) (append_assoc d (41 ∷ 32 ∷ []) rest ∙ sym (append_assoc d (41 ∷ []) (32 ∷ rest)))

time_len : (moment : ℕ) → moment < 10 ^ 16 → length (time_of moment) ≤ 19
time_len moment early =
    let t = is_time moment early in
    omega (arith, ap length t.spelled, length-append t.seconds (46 ∷ (t.micros ++ 41 ∷ [])), length-append t.micros (41 ∷ []), t.few, t.six)

begins : (moment : ℕ) (name tail : List ℕ) → moment < 10 ^ 16 → IsInterface name → length name ≡ 4 → length tail ≤ 4000 → Begins moment name tail (time_text moment ++ (name ++ tail))
begins moment name tail early is four short = record {
  time = time_of moment;
  is_time = is_time moment early;
  is_interface = is;
  spelled = shape moment (name ++ tail);
  most = omega (arith, ap length (shape moment (name ++ tail)), length-append (time_of moment) (32 ∷ (name ++ tail)), length-append name tail, time_len moment early);
}

-- the bytes of a number
pub number_bytes : (n : ℕ) → IsBytes (to_be_bytes w32 n)
number_bytes n zero = omega arith
number_bytes n (suc zero) = omega arith
number_bytes n (suc (suc zero)) = omega arith
number_bytes n (suc (suc (suc zero))) = omega arith
number_bytes n (suc (suc (suc (suc i)))) = omega arith

pub frame_again : (moment : ℕ) (f : BusFrame) → moment < 10 ^ 16 → Fits (frame moment f)
    → IsLine (frame moment f) (time_text moment ++ frame_text f) × (read (time_text moment ++ frame_text f) ≡ Ok (frame moment f))
frame_again moment f early fits =
    let id = encode_upper (to_be_bytes w32 f.id) in
    let held = encode_upper f.held in
    let id_len = length-encode_with upper_digits (to_be_bytes w32 f.id) in
    let held_len = length-encode_with upper_digits f.held in
    let identifier : f.id < 2 ^ 29 = fits.0 in
    let few : length f.held ≤ 8 = fits.1 in
    let written = decode_of-encode_upper (to_be_bytes w32 f.id) (number_bytes f.id) in
    let short : length (32 ∷ (id ++ 35 ∷ held)) ≤ 4000 = omega (arith, length-append id (35 ∷ held), id_len, held_len, few) in
    let line : IsLine (frame moment f) (time_text moment ++ frame_text f) = record {
      identifier = id;
      behind = held;
      on_bus = record {
        name = codes "can0";
        begins = begins moment (codes "can0") (32 ∷ (id ++ 35 ∷ held)) early (record { some = omega arith; few = omega arith; bytes = refl }) refl short;
        no_tick = other_text (codes "can0") (codes "tick") refl;
        no_datagram = other_text (codes "can0") (codes "udp0") refl;
        digits = written_digits id (to_be_bytes w32 f.id) written;
      };
      number = record { eight = id_len; bytes = to_be_bytes w32 f.id; written = written; value = sym (from_be_bytes-to_be_bytes_4 f.id (omega (arith, identifier))) };
      fits = identifier;
      is_data = record {
        digits = held;
        rest = [];
        spelled = sym (append-nil held);
        few = omega (arith, held_len, few);
        written = decode_of-encode_upper f.held fits.2;
        ends = refl;
      };
    } in
    (line, again (time_text moment ++ frame_text f) (frame moment f) line)

pub datagram_again : (moment : ℕ) (group bytes : List ℕ) → moment < 10 ^ 16 → IsGroup group → Fits (datagram moment bytes)
    → IsLine (datagram moment bytes) (time_text moment ++ datagram_text group bytes) × (read (time_text moment ++ datagram_text group bytes) ≡ Ok (datagram moment bytes))
datagram_again moment group bytes early is fits =
    let digits = encode_upper bytes in
    let len = length-encode_with upper_digits bytes in
    let whole : digits ++ [] ≡ digits = append-nil digits in
    let few : length bytes ≤ 1500 = fits.0 in
    let short : length (32 ∷ (group ++ 35 ∷ digits)) ≤ 4000 = omega (arith, length-append group (35 ∷ digits), len, is.len, few) in
    let start = begins moment (codes "udp0") (32 ∷ (group ++ 35 ∷ digits)) early (record { some = omega arith; few = omega arith; bytes = refl }) refl short in
    let line : IsLine (datagram moment bytes) (time_text moment ++ datagram_text group bytes) = record {
      group = group;
      digits = digits;
      rest = [];
      begins = subst (λ (x : List ℕ). Begins moment (codes "udp0") (32 ∷ (group ++ 35 ∷ x)) (time_text moment ++ datagram_text group bytes)) (sym whole) start;
      is_group = is;
      few = omega (arith, len, few);
      written = decode_of-encode_upper bytes fits.1;
      ends = refl;
    } in
    (line, again (time_text moment ++ datagram_text group bytes) (datagram moment bytes) line)

-- a tick, with any text behind it
tick_behind : (moment : ℕ) (tail : List ℕ) → moment < 10 ^ 16 → length tail ≤ 4000 → IsTrue (is_end tail)
    → IsLine (tick moment) (time_text moment ++ (codes "tick" ++ tail))
tick_behind moment tail early short ends = record {
  tail = tail;
  begins = begins moment (codes "tick") tail early (record { some = omega arith; few = omega arith; bytes = refl }) refl short;
  ends = ends;
}

pub tick_again : (moment : ℕ) → moment < 10 ^ 16
    → IsLine (tick moment) (time_text moment ++ codes "tick") × (read (time_text moment ++ codes "tick") ≡ Ok (tick moment))
tick_again moment early =
    let line : IsLine (tick moment) (time_text moment ++ codes "tick") = tick_behind moment [] early (omega arith) refl in
    (line, again (time_text moment ++ codes "tick") (tick moment) line)

-- ---- an event

pub event_again : (group : List ℕ) (seen : Seen) → IsGroup group → Fits seen → moment_in seen < 10 ^ 16
    → IsLine seen (event_text group seen) × (read (event_text group seen) ≡ Ok seen)
event_again group (frame moment f) is fits early = frame_again moment f early fits
event_again group (datagram moment bytes) is fits early = datagram_again moment group bytes early is fits
event_again group (tick moment) is fits early = tick_again moment early

pub events_are_read_back : EventsAreReadBack
events_are_read_back group seen is fits early = (event_again group seen is fits early).1

pub starts_are_ticks : StartsAreTicks
starts_are_ticks group moment early =
    let line = tick_behind moment start_mark early (omega arith) refl in
    ap read (append_assoc (time_text moment) (codes "tick") start_mark)
    ∙ again (time_text moment ++ (codes "tick" ++ start_mark)) (tick moment) line

pub frames_fit : FramesFit
frames_fit line moment f is =
    let said : IsLine (frame moment f) line = found line (frame moment f) is in
    let d = decode_of-ok said.is_data.digits f.held said.is_data.written in
    (said.fits, omega (arith, d.2, said.is_data.few), d.3)

-- what a frame holds
pub frame_fits : (moment : ℕ) (f : Frame) → IsFrame f → IsBytes (held_bytes f) → Fits (frame moment (bus_frame f))
frame_fits moment f valid fit = (valid.identifier, omega (arith, length-take f.len f.bytes, valid.fits), fit)

-- what the line of an event says
abbrev pub EventSaysAgain : Event → List ℕ → Type 0
EventSaysAgain e line = moment_in (view e) < 10 ^ 16 → IsLine (view e) line × (read line ≡ Ok (view e))

-- it is written at the event's moment, and behind its time as that of an event that it is
pub event_said : (e what : Event) (m : ℕ) (before behind line : List ℕ) → e ≡ what → m ≡ moment_in (view e) → before ≡ time_text m → line ≡ before ++ behind
    → EventSaysAgain what (time_text (moment_in (view what)) ++ behind) → EventSaysAgain e line
event_said e what m before behind line is at starts text says =
    let own : m ≡ moment_in (view what) = at ∙ ap (λ (x : Event). moment_in (view x)) is in
    let whole : line ≡ time_text (moment_in (view what)) ++ behind = text ∙ ap (λ (x : List ℕ). x ++ behind) (starts ∙ ap time_text own) in
    subst (λ (x : Event). EventSaysAgain x line) (sym is) (subst (λ (l : List ℕ). EventSaysAgain what l) (sym whole) says)

-- ---- an emit

-- what the line of an emit says, if it says something
abbrev pub SaysAgain : Emit → ℕ → List ℕ → Type 0
SaysAgain emitted moment line = IfSome (line_meaning emitted moment) (λ event. IsLine event line × (read line ≡ Ok event))

pub can_again : (emitted : Emit) (f : Frame) (moment : ℕ) (before line : List ℕ) → emitted ≡ emit.Can f → CanWrite emitted → IsBytes (held_bytes f)
    → before ≡ time_text moment → line ≡ before ++ frame_text (bus_frame f) → moment < 10 ^ 16 → SaysAgain emitted moment line
can_again emitted f moment before line is can fit starts text early =
    let valid : CanWrite (emit.Can f) = subst CanWrite is can in
    let whole : line ≡ time_text moment ++ frame_text (bus_frame f) = text ∙ ap (λ (x : List ℕ). x ++ frame_text (bus_frame f)) starts in
    subst (λ (x : Emit). SaysAgain x moment line) (sym is) (subst (SaysAgain (emit.Can f) moment) (sym whole) (frame_again moment (bus_frame f) early (frame_fits moment f valid fit)))

pub net_again : (emitted : Emit) (group : List ℕ) (bytes : Bor (List ℕ)) (moment : ℕ) (before line : List ℕ) → emitted ≡ emit.Net group bytes → CanWrite emitted → IsGroup group × IsBytes bytes.now
    → before ≡ time_text moment → line ≡ before ++ datagram_text group bytes.now → moment < 10 ^ 16 → SaysAgain emitted moment line
net_again emitted group bytes moment before line is can fit starts text early =
    let few : CanWrite (emit.Net group bytes) = subst CanWrite is can in
    let short : length bytes.now ≤ most_recorded = omega (arith, few) in
    let whole : line ≡ time_text moment ++ datagram_text group bytes.now = text ∙ ap (λ (x : List ℕ). x ++ datagram_text group bytes.now) starts in
    subst (λ (x : Emit). SaysAgain x moment line) (sym is) (subst (SaysAgain (emit.Net group bytes) moment) (sym whole) (datagram_again moment group bytes.now early fit.0 (short, fit.1)))
