-- The sentence of an alert.
use Rattle.std.proofs.Common.{◌≡◌, ℕ, ◌+◌, ◌≤◌, Bool, true, false, IsTrue, List, [], ◌∷◌, ◌++◌, All, length, length-append, refl, sym, ap, ◌∙◌, arith}
use Rattle.std.specs.Prelude.{Some, codes}
use Rattle.std.specs.Borrow.{Bor}
use Rattle.std.specs.List.{list_all}
use Rattle.std.proofs.lemmas.List.{append-nil}
use Rattle.std.proofs.lemmas.List.Concat.{flat_map-cons}
use Rattle.std.proofs.lemmas.List.Elements.{All-cons, All-nil}
use Rattle.readings.specs.declared.rows.Row.{Row}
use Rattle.readings.specs.declared.rows.Row.TheVariants as row
use Rattle.readings.specs.Rows.{about_of, row_number}
use Rattle.unit_fraction.specs.Text.{decimals}
use Rattle.sentence_text.specs.Byte.{is_field_byte}
use Rattle.sentence_text.specs.Sentence.{body_of, sentence}
use Rattle.sentence_text.proofs.Spelling.{read_back}
use Rattle.sentence_fields.specs.Field.{body_text, sentence_by}
use Rattle.sentence_fields.specs.declared.field.Field.TheVariants.{Digits, Empty, Letter, Word}
use Rattle.sentence_fields.proofs.Bodies.{capitals_are_address}
use Rattle.row_watch.specs.Alert.{alert_body, alert_parts, alert_text, condition}
use Rattle.row_watch.specs.WatchLaws.{AlertsAreSentences}

-- ---- as it is written

body_is : (row : Row) (said : Bool) (number letter : ℕ) (name : Bor (List ℕ)) → number ≡ (about_of row).number → letter ≡ condition said → name.now ≡ (about_of row).name
    → body_text (Empty ∷ Digits (Some (101 + number)) 3 ∷ Letter letter ∷ Letter 86 ∷ Word name ∷ []) ≡ alert_body row said
body_is row said number letter name number_is letter_is name_is =
    ap (λ (n : ℕ). 44 ∷ 44 ∷ (decimals 3 (101 + n) ++ 44 ∷ letter ∷ 44 ∷ 86 ∷ 44 ∷ (name.now ++ []))) number_is
    ∙ ap (λ (l : ℕ). 44 ∷ 44 ∷ (decimals 3 (101 + row_number row) ++ 44 ∷ l ∷ 44 ∷ 86 ∷ 44 ∷ (name.now ++ []))) letter_is
    ∙ ap (λ (text : List ℕ). 44 ∷ 44 ∷ (decimals 3 (101 + row_number row) ++ 44 ∷ condition said ∷ 44 ∷ 86 ∷ 44 ∷ text)) (append-nil name.now ∙ name_is)

pub said_so : (talker : List ℕ) (row : Row) (said : Bool) (number letter : ℕ) (name : Bor (List ℕ)) → number ≡ (about_of row).number → letter ≡ condition said
    → name.now ≡ (about_of row).name
    → sentence_by talker (codes "ALR") (Empty ∷ Digits (Some (101 + number)) 3 ∷ Letter letter ∷ Letter 86 ∷ Word name ∷ []) ≡ alert_text talker row said
said_so talker row said number letter name number_is letter_is name_is =
    ap (λ (body : List ℕ). sentence (record { start = 36; talker = talker; formatter = codes "ALR"; body = body }))
    (body_is row said number letter name number_is letter_is name_is)

-- ---- as it is read

abbrev IsField : List ℕ → Type 0
IsField field = IsTrue (list_all is_field_byte field)

name_bytes : (row : Row) → IsField (about_of row).name
name_bytes row = grind arith

name_short : (row : Row) → length (about_of row).name ≤ 20
name_short row = grind arith

number_bytes : (row : Row) → IsField (decimals 3 (101 + row_number row))
number_bytes row.HeadingTrue = refl
number_bytes row.HeadingMagnetic = refl
number_bytes row.RateOfTurn = refl
number_bytes row.RudderFirst = refl
number_bytes row.RudderSecond = refl
number_bytes row.WaterSpeed = refl
number_bytes row.Depth = refl
number_bytes row.DistanceLog = refl
number_bytes row.Position = refl
number_bytes row.CourseSpeed = refl
number_bytes row.Gnss = refl
number_bytes row.Time = refl
number_bytes row.WindApparent = refl
number_bytes row.WindTrue = refl
number_bytes row.WindNorth = refl
number_bytes row.WaterTemperature = refl
number_bytes row.CrossTrack = refl

number_short : (row : Row) → length (decimals 3 (101 + row_number row)) ≤ 3
number_short row = grind arith

condition_bytes : (said : Bool) → IsField (condition said ∷ [])
condition_bytes true = refl
condition_bytes false = refl

abbrev fields : Row → Bool → List (List ℕ)
fields row said = [] ∷ decimals 3 (101 + row_number row) ∷ (condition said ∷ []) ∷ (86 ∷ []) ∷ (about_of row).name ∷ []

fields_bytes : (row : Row) (said : Bool) → All IsField (fields row said)
fields_bytes row said =
    let number = decimals 3 (101 + row_number row) in
    let name = (about_of row).name in
    All-cons IsField [] (number ∷ (condition said ∷ []) ∷ (86 ∷ []) ∷ name ∷ []) refl
    (All-cons IsField number ((condition said ∷ []) ∷ (86 ∷ []) ∷ name ∷ []) (number_bytes row)
    (All-cons IsField (condition said ∷ []) ((86 ∷ []) ∷ name ∷ []) (condition_bytes said)
    (All-cons IsField (86 ∷ []) (name ∷ []) refl (All-cons IsField name [] (name_bytes row) (All-nil IsField)))))

spelled : (row : Row) (said : Bool) → alert_body row said ≡ body_of (fields row said)
spelled row said =
    let behind : List ℕ → List ℕ = λ field. 44 ∷ field in
    let number = decimals 3 (101 + row_number row) in
    let name = (about_of row).name in
    sym (flat_map-cons behind [] (number ∷ (condition said ∷ []) ∷ (86 ∷ []) ∷ name ∷ [])
    ∙ ap (λ (text : List ℕ). 44 ∷ text) (flat_map-cons behind number ((condition said ∷ []) ∷ (86 ∷ []) ∷ name ∷ [])
    ∙ ap (λ (text : List ℕ). 44 ∷ (number ++ text)) (flat_map-cons behind (condition said ∷ []) ((86 ∷ []) ∷ name ∷ [])
    ∙ ap (λ (text : List ℕ). 44 ∷ condition said ∷ text) (flat_map-cons behind (86 ∷ []) (name ∷ [])
    ∙ ap (λ (text : List ℕ). 44 ∷ 86 ∷ text) (flat_map-cons behind name [] ∙ append-nil (44 ∷ name))))))

pub alerts_are_sentences : AlertsAreSentences
alerts_are_sentences talker row said two capitals =
    let few : length (alert_text talker row said) ≤ 82 = simp length-append (omega (arith, two, name_short row, number_short row)) in
    record {
      parts = alert_parts talker row said;
      is_read = read_back (alert_parts talker row said) (record {
        starts = refl;
        two = two;
        three = refl;
        talker_bytes = capitals_are_address talker capitals;
        formatter_bytes = refl;
        body = record { fields = fields row said; bytes = fields_bytes row said; spelled = spelled row said };
        short = few;
      });
      short = few;
    }
