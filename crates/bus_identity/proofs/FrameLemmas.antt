-- Frames that go out.
use Rattle.std.proofs.lemmas.List.{length-map}
use Rattle.std.proofs.Common.{◌≡◌, ℕ, zero, suc, ◌+◌, ◌-◌, ◌<◌, ◌≤◌, List, ◌∷◌, [], ◌++◌, length, drop, map, refl, ap, ◌∙◌, length-append, length-drop, arith}
use Rattle.n2k_id.specs.declared.frame.Frame.{Frame}
use Rattle.n2k_id.specs.Frame.{bus_frame, BusFrame}
use Rattle.n2k_id.specs.Identifier.{CanJoin, has_destination}
use Rattle.fast_packet.specs.FastRuns.{need_of, frames_to, frames_of, later_frame}
use Rattle.bus_identity.specs.PgnLists.{pgn_lists, product_information, sent, received}
use Rattle.n2k_id.specs.Pgns.{acknowledgement}
use Rattle.bus_identity.specs.Payloads.{sent_list, received_list}
use Rattle.bus_identity.specs.Answers.{answer_parts}

-- the identifiers of the answers
pub can_refuse : (destination own : ℕ) → CanJoin (answer_parts acknowledgement destination own)
unfolding has_destination
can_refuse destination own = record { priority = omega arith; pgn = omega arith; destination = refl }

pub can_send_lists : (destination own : ℕ) → CanJoin (answer_parts pgn_lists destination own)
unfolding has_destination
can_send_lists destination own = record { priority = omega arith; pgn = omega arith; destination = refl }

pub can_send_information : (own : ℕ) → CanJoin (answer_parts product_information 255 own)
unfolding has_destination
can_send_information own = record { priority = omega arith; pgn = omega arith; destination = refl }

-- a message has as many frames as it needs
length_frames_to : (sequence : ℕ) (p : List ℕ) (j : ℕ) → length (frames_to sequence p j) ≡ j + 1
unfolding frames_to
length_frames_to sequence p zero = refl
length_frames_to sequence p (suc j) =
    length-append (frames_to sequence p j) (later_frame sequence p j ∷ []) ∙ ap (λ n. n + 1) (length_frames_to sequence p j) ∙ omega arith

needs_one : (len : ℕ) → 1 ≤ need_of len
needs_one len = grind arith

pub length_frames_of : (sequence : ℕ) (p : List ℕ) → length (frames_of sequence p) ≡ need_of (length p)
length_frames_of sequence p =
    let some = needs_one (length p) in
    length_frames_to sequence p (need_of (length p) - 1) ∙ omega (arith, some)

pub information_fits : (p : List ℕ) → length p ≡ 134 → need_of (length p) ≡ 20
information_fits p e = rw e refl

-- each list fits a message, and both their frames into an answer
abbrev Fits : List ℕ → Type 0
Fits p = (1 ≤ length p) × (length p ≤ 134) × (need_of (length p) ≤ 10)

pub sent_list_fits : (p : List ℕ) → p ≡ sent_list → Fits p
unfolding sent
sent_list_fits p e = rw e (omega arith, omega arith, omega arith)

pub received_list_fits : (p : List ℕ) → p ≡ received_list → Fits p
unfolding received
received_list_fits p e = rw e (omega arith, omega arith, omega arith)

-- the next frame has room where all have it
pub next_fits : (f : List ℕ → BusFrame) (out start : List Frame) (pieces : List (List ℕ)) (i limit : ℕ) → i < length pieces
    → map bus_frame out ++ map f (drop i pieces) ≡ map bus_frame start ++ map f pieces
    → length start + length pieces ≤ limit → length out < limit
next_fits f out start pieces i limit inside whole room =
    let lengths = simp (length-append, length-map, length-drop) at (ap length whole) in
    omega (arith, lengths)

-- frames are as many as what went out
pub lengths_by : (f : List ℕ → BusFrame) (out start : List Frame) (pieces : List (List ℕ)) → map bus_frame out ≡ map bus_frame start ++ map f pieces
    → length out ≡ length start + length pieces
lengths_by f out start pieces e =
    let lengths = simp (length-append, length-map) at (ap length e) in
    omega (arith, lengths)
