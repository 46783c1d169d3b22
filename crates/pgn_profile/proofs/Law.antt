-- The laws of the table: what is read is valid, what is written of a valid reading is read as that reading, and each payload fits how its message
-- comes.
use Rattle.std.proofs.Common.{◌≡◌, ℕ, Bool, true, false, ◌&&◌, List, [], ◌∷◌, length, nat_le, nat_lt, ◌==◌, Some, refl, ap, ◌∙◌}
use Rattle.std.specs.Prelude.{if◌then◌else◌}
use Rattle.readings.specs.declared.reading.Reading.{Reading}
use Rattle.readings.specs.declared.reading.Reading.TheVariants as reading
use Rattle.readings.specs.Rows.{IsValid, row_of}
use Rattle.pgn_profile.specs.declared.kinds.Kind.{Kind}
use Rattle.pgn_profile.specs.declared.kinds.Kind.TheVariants.{Single, Fast, Outside}
use Rattle.pgn_profile.specs.declared.profiled.Profiled.{Profiled}
use Rattle.pgn_profile.specs.declared.profiled.Profiled.TheVariants as says
use Rattle.pgn_profile.specs.Part.{AreIn, Values, values_in}
use Rattle.pgn_profile.specs.Layout.{Layout, Message, filling, given, reading_by, written}
use Rattle.pgn_profile.specs.Profiled.{kind_of, payload_of, pgn_of, GivesValid, by_message, by_rows, message_in, messages, profiled}
use Rattle.pgn_profile.proofs.Parts.{are_in, is_well_formed, written_back}

-- ---- what is read is valid

rows_valid : (rows : List Layout) (p : List ℕ) → GivesValid (by_rows rows p)
rows_valid [] p = tt
rows_valid (row ∷ rows) p = by (row.selects p) (rows_valid rows p)
  where
    by : (b : Bool) → GivesValid (by_rows rows p) → GivesValid (if b then says.Reading (reading_by row p) else by_rows rows p)
    by true others = row.valid (values_in row.parts p) (are_in row.parts p)
    by false others = others

found_valid : (list : List Message) (pgn : ℕ) (p : List ℕ) → GivesValid (by_message (message_in list pgn) p)
found_valid [] pgn p = tt
found_valid (m ∷ list) pgn p = found (m.pgn == pgn) (found_valid list pgn p)
  where
    long : (b : Bool) → GivesValid (if b then says.Short else by_rows m.rows p)
    long true = tt
    long false = rows_valid m.rows p

    found : (b : Bool) → GivesValid (by_message (message_in list pgn) p) → GivesValid (by_message (if b then Some m else message_in list pgn) p)
    found true others = long (nat_lt (length p) m.least)
    found false others = others

pub profiled_valid : (pgn : ℕ) (p : List ℕ) → GivesValid (profiled pgn p)
profiled_valid pgn p = found_valid messages pgn p

pub what_is_profiled_is_valid : (x : Profiled) (pgn : ℕ) (p : List ℕ) → x ≡ profiled pgn p → GivesValid x
what_is_profiled_is_valid x pgn p is = rw is (profiled_valid pgn p)

-- ---- what is written is read

formed : (r : Reading) → is_well_formed (length (filling r).row.around) (filling r).row.parts ≡ true
formed (reading.HeadingTrue h) = refl
formed _ = refl

within : (r : Reading) → IsValid r → AreIn (filling r).row.parts (filling r).values
within (reading.HeadingTrue h) valid = valid
within _ valid = valid

whole : (r : Reading) → given (filling r).row.parts (filling r).row.reading (filling r).values ≡ r
whole (reading.HeadingTrue h) = refl
whole _ = refl

-- the first row that selects the payload is the one that it is written in
selected : (r : Reading) → profiled (pgn_of (row_of r)) (payload_of r) ≡ says.Reading (reading_by (filling r).row (written (filling r).row (filling r).values))
unfolding messages
selected (reading.CourseSpeed false c s) = refl
selected (reading.CourseSpeed true c s) = refl
selected (reading.WindNorth false s a) = refl
selected (reading.WindNorth true s a) = refl
selected _ = refl

pub law : (r : Reading) → IsValid r → profiled (pgn_of (row_of r)) (payload_of r) ≡ says.Reading r
law r valid =
    let row = (filling r).row in
    let back = written_back row.parts (filling r).values row.around (formed r) (within r valid) in
    selected r ∙ ap (λ (v : Values row.parts). says.Reading (given row.parts row.reading v)) back ∙ ap says.Reading (whole r)

-- ---- what is written fits how it comes

-- so many bytes fit the one frame or the frames in which a message comes; the longest message has 43
abbrev pub fits : Kind → ℕ → Bool
fits Single size = nat_le 1 size && nat_le size 8
fits Fast size = nat_le 1 size && nat_le size 48
fits Outside size = false

-- whatever its fields are
pub payload_fits : (r : Reading) → fits (kind_of (pgn_of (row_of r))) (length (payload_of r)) ≡ true
unfolding messages
payload_fits (reading.HeadingTrue h) = refl
payload_fits _ = refl
