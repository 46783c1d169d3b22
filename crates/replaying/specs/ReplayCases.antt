-- The text of captures.
use Rattle.std.specs.Prelude.{◌≡◌, ℕ, List, [], ◌∷◌, codes}
use Rattle.std.specs.List.{flat_map}
use Rattle.capture_text.specs.Lines.{lines_of}
use Rattle.capture_stream.specs.Progress.{with_lf}
use Rattle.bridge.specs.PartCases.{alone}
use Rattle.replaying.specs.Replayed.{replay_text}

abbrev pub text : List (List ℕ) → List ℕ
text lines = flat_map with_lf lines

-- a heading
abbrev pub OneLine : Type 0
OneLine =
    replay_text alone (lines_of (text (codes "(1700000000.000000) can0 09F11217#005C3DFF7FFF7FFC" ∷ [])))
    ≡ text
    (codes "(1700000000.000000) can0 18EEFFFB#0100C0FF008232C0"
    ∷ codes "(1700000000.000000) can0 18EAFFFB#00EE00"
    ∷ codes "(1700000000.000000) udp0 NAVD#5564506243005C733A4949303030312C6E3A312A30315C2448454844542C39302E302C542A31360D0A"
    ∷ [])

-- time that goes back
abbrev pub Backwards : Type 0
Backwards =
    replay_text alone (lines_of (text (codes "(5.000000) tick" ∷ codes "(4.999999) tick" ∷ [])))
    ≡ text (codes "(5.000000) can0 18EEFFFB#0100C0FF008232C0" ∷ codes "(5.000000) can0 18EAFFFB#00EE00" ∷ codes "(5.000000) rule 3" ∷ [])

-- a line that was cut off within its data, and one within its identifier
abbrev pub CutOffInData : Type 0
CutOffInData =
    replay_text alone (lines_of (text (codes "(5.000000) can0 09F11217#005C3D" ∷ [])))
    ≡ text
    (codes "(5.000000) can0 18EEFFFB#0100C0FF008232C0"
    ∷ codes "(5.000000) can0 18EAFFFB#00EE00"
    ∷ codes "(5.000000) rule 22 src=23 pgn=127250"
    ∷ [])

abbrev pub CutOffInIdentifier : Type 0
CutOffInIdentifier = replay_text alone (lines_of (text (codes "(5.000000) can0 09F112" ∷ []))) ≡ text (codes "(0.000000) rule 1 line=1" ∷ [])

-- a frame with an identifier of 11 bits
abbrev pub NotExtended : Type 0
NotExtended = replay_text alone (lines_of (text (codes "(1.000000) can0 123#00" ∷ []))) ≡ text (codes "(0.000000) rule 4 line=1" ∷ [])
