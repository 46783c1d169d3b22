-- A line of the usual layout reads as the frame whose parts stand in their places.
use Rattle.std.proofs.Common.{◌≡◌, ℕ, ◌-◌, false, ltb, List, ◌∷◌, ◌++◌, length, get_or, take, drop, Some, Ok, refl, sym, ap, subst, ◌∙◌, arith}
use Rattle.std.proofs.lemmas.List.{drop-drop, get_or-drop, length-drop, length-take, take_all}
use Rattle.n2k_id.specs.Frame.{BusFrame}
use Rattle.gate_events.specs.Event.{frame}
use Rattle.capture_text.specs.Capture.{longest_line}
use Rattle.capture_text.specs.Reading.{read, seen_behind, time_at, HasBusOfFour, is_other_kind, data_at, number_of, frame_with, frame_at}
use Rattle.capture_text.proofs.Cuts.{cut_found}
use Rattle.capture_text.proofs.Data.{number_found, written_digits}
use Rattle.capture_text.proofs.Frames.{wide_again}

-- behind the interface
frame_behind : (line : List ℕ) (id : ℕ) (bytes : List ℕ) → length line ≡ 50 → get_or line 24 0 ≡ 32 → get_or line 33 0 ≡ 35 → number_of (take 8 (drop 25 line)) ≡ Some id
    → data_at (drop 34 line) ≡ Some bytes → is_other_kind (drop 34 line) ≡ false → frame_at (drop 24 line) ≡ frame_with id (Some bytes)
frame_behind line id bytes len space hash number there plain =
    let identifier = take 8 (drop 25 line) in
    let eight : length identifier ≡ 8 = omega (arith, length-take 8 (drop 25 line), length-drop 25 line, len) in
    let is = number_found identifier id eight number in
    let a : drop 24 line ≡ 32 ∷ drop 25 line = cut_found (drop 24 line) 0 31 (get_or-drop 24 line 0 0 ∙ space) ∙ ap (λ (x : List ℕ). 32 ∷ x) (drop-drop 1 24 line) in
    let b : drop 25 line ≡ identifier ++ 35 ∷ drop 34 line = cut_found (drop 25 line) 8 34 (get_or-drop 25 line 8 0 ∙ hash) ∙ ap (λ (x : List ℕ). identifier ++ 35 ∷ x) (drop-drop 9 25 line) in
    wide_again (drop 24 line) identifier (drop 34 line) id (record { spelled = a ∙ ap (λ (x : List ℕ). 32 ∷ x) b; digits = written_digits identifier is.bytes is.written }) is
    ∙ rw (plain, there) refl

pub usual_read : (line behind : List ℕ) (moment id : ℕ) (bytes : List ℕ) (seen : BusFrame) → length line ≡ 50
    → behind ≡ take (length line - 34) (drop 34 line) → time_at line ≡ Some (record { moment = moment; rest = drop 20 line }) → HasBusOfFour (drop 20 line) → get_or line 33 0 ≡ 35
    → number_of (take 8 (drop 25 line)) ≡ Some id → (data_at behind ≡ Some bytes) × (is_other_kind behind ≡ false) → Ok seen ≡ frame_with id (Some bytes) → read line ≡ Ok (frame moment seen)
unfolding read seen_behind
usual_read line behind moment id bytes seen len behind_is time named hash number held_by is =
    let short : ltb longest_line (length line) ≡ false = rw len refl in
    let HasData : List ℕ → Type 0 = λ x. (data_at x ≡ Some bytes) × (is_other_kind x ≡ false) in
    let held = subst HasData (behind_is ∙ take_all (length line - 34) (drop 34 line) (omega (arith, length-drop 34 line))) held_by in
    let place : drop 4 (drop 20 line) ≡ drop 24 line = drop-drop 4 20 line in
    let framed = frame_behind line id bytes len (sym (get_or-drop 20 line 4 0) ∙ named.1) hash number held.0 held.1 ∙ sym is in
    rw (short, time, named.0, named.2, named.3, place, framed) refl
