-- An RMC gives what a GLL and a VTG of its fields give.
use Rattle.std.proofs.Common.{◌≡◌, ℕ, ◌+◌, ℤ, Bool, true, false, Option, Some, None, Result, Ok, Err, List, [], ◌∷◌, length, refl, sym, ap, subst, ◌∙◌, arith, ◌≤◌}
use Rattle.std.specs.Prelude.{◌&&◌, not, ◌==◌, codes, is_none, unwrap_or, if◌then◌else◌}
use Rattle.readings.specs.declared.reading.Reading.{Reading}
use Rattle.readings.specs.declared.reading.Reading.TheVariants as reading
use Rattle.unit_fraction.specs.declared.decimal.Decimal.{Decimal}
use Rattle.unit_fraction.specs.declared.decimal.DecimalFault.{DecimalFault}
use Rattle.unit_fraction.specs.Reading.{read}
use Rattle.sentence_text.specs.Fields.{fields_of}
use Rattle.sentence_text.specs.Sentence.{SentenceParts}
use Rattle.sentence_fields.specs.Field.{letter_where}
use Rattle.sentence_profile.specs.declared.fault.FieldFault.{FieldFault}
use Rattle.sentence_profile.specs.declared.fault.FieldFault.TheVariants.{Outside}
use Rattle.sentence_profile.specs.declared.fixed.Fixed.{Fixed}
use Rattle.sentence_profile.specs.declared.formatter.Formatter.TheVariants as formatter
use Rattle.sentence_profile.specs.declared.optional.OptionalSentences.{OptionalSentences}
use Rattle.sentence_profile.specs.declared.read_unit.ReadUnit.{ReadUnit}
use Rattle.sentence_profile.specs.Columns as spec
use Rattle.sentence_profile.specs.Columns.{fault, given, holds, value}
use Rattle.sentence_profile.specs.Reading as rows
use Rattle.sentence_profile.specs.Reading.{formatter_of}
use Rattle.sentence_profile.specs.Writing.{only_if, beside}
use Rattle.sentence_profile.specs.Laws.{IsGllAndVtg, RmcIsGllAndVtg, gll_of, is_minimum_valid, vtg_of}
use Rattle.sentence_profile.proofs.Texted.{either_of, first_of_two, measure_of, number_of, status_of}
use Rattle.sentence_profile.proofs.Again.{reads_nothing}

abbrev Fields : Type 0
Fields = List (List ℕ)

-- ---- a field that is read in another place is read as it is here

fixed_moved : (x : Option Fixed) (at to : ℕ) (q : ReadUnit) (v : Option ℤ) → spec.degrees_in at q x ≡ Ok v → spec.degrees_in to q x ≡ Ok v
fixed_moved x at to q v e = grind arith

text_moved : (o : Option (List ℕ)) (at to : ℕ) (q : ReadUnit) (width : ℕ) (v : Option ℤ) → spec.text_says o at (spec.degrees_of at q width) ≡ Ok v
    → spec.degrees_of to q width (unwrap_or o []) ≡ Ok v
text_moved None at to q width v e = grind arith
text_moved (Some []) at to q width v e = e
text_moved (Some (c ∷ cs)) at to q width v e = fixed_moved (spec.fixed_in width 9 (c ∷ cs)) at to q v e

degrees_moved : (f g : Fields) (at to : ℕ) (q : ReadUnit) (width : ℕ) (v : Option ℤ) → spec.field_at g to ≡ Some (spec.text f at) → spec.degrees f at q width ≡ Ok v
    → spec.degrees g to q width ≡ Ok v
unfolding spec.degrees spec.text
degrees_moved f g at to q width v there e = rw there (text_moved (spec.field_at f at) at to q width v e)

letter_moved : (o : Option (List ℕ)) (at to positive negative : ℕ) (beside_nothing b : Bool)
    → spec.text_says o at (λ bytes. if beside_nothing then Ok false else spec.which at negative positive false bytes) ≡ Ok b
    → (if beside_nothing then Ok false else spec.which to negative positive false (unwrap_or o [])) ≡ Ok b
letter_moved None at to positive negative beside_nothing b e = grind arith
letter_moved (Some bytes) at to positive negative beside_nothing b e = grind arith

side_moved : (f g : Fields) (at to positive negative : ℕ) (beside_nothing b : Bool) → spec.field_at g to ≡ Some (spec.text f at)
    → spec.side f at positive negative beside_nothing ≡ Ok b → spec.side g to positive negative beside_nothing ≡ Ok b
unfolding spec.side spec.text
side_moved f g at to positive negative beside_nothing b there e = rw there (letter_moved (spec.field_at f at) at to positive negative beside_nothing b e)

signed_moved : (v w : Option ℤ) (s t : Result Bool FieldFault) → given s (λ n. Ok (spec.toward n v)) ≡ Ok w → ((b : Bool) → s ≡ Ok b → t ≡ Ok b)
    → given t (λ n. Ok (spec.toward n v)) ≡ Ok w
signed_moved v w (Ok b) t e same = rw (same b refl) e
signed_moved v w (Err x) t e same = grind arith

both_moved : (d c : Result (Option ℤ) FieldFault) (s t : Option ℤ → Result Bool FieldFault) (w : Option ℤ)
    → given d (λ v. given (s v) (λ n. Ok (spec.toward n v))) ≡ Ok w → ((v : Option ℤ) → d ≡ Ok v → c ≡ Ok v)
    → ((v : Option ℤ) (b : Bool) → s v ≡ Ok b → t v ≡ Ok b) → given c (λ v. given (t v) (λ n. Ok (spec.toward n v))) ≡ Ok w
both_moved (Ok v) c s t w e first second = rw (first v refl) (signed_moved v w (s v) (t v) e (second v))
both_moved (Err x) c s t w e first second = grind arith

coordinate_moved : (f g : Fields) (at to : ℕ) (q : ReadUnit) (width positive negative : ℕ) (v : Option ℤ) → spec.field_at g to ≡ Some (spec.text f at)
    → spec.field_at g (to + 1) ≡ Some (spec.text f (at + 1)) → spec.coordinate f at q width positive negative ≡ Ok v
    → spec.coordinate g to q width positive negative ≡ Ok v
unfolding spec.coordinate
coordinate_moved f g at to q width positive negative v there behind e =
    both_moved (spec.degrees f at q width) (spec.degrees g to q width) (λ x. spec.side f (at + 1) positive negative (is_none x))
    (λ x. spec.side g (to + 1) positive negative (is_none x)) v e (λ x. degrees_moved f g at to q width x there)
    (λ x b. side_moved f g (at + 1) (to + 1) positive negative (is_none x) b behind)

decimal_moved : (r : Result Decimal DecimalFault) (at to : ℕ) (q : ReadUnit) (v : Option ℤ) → given (spec.decimal_in at q.signed r) (spec.scaled at q) ≡ Ok v
    → given (spec.decimal_in to q.signed r) (spec.scaled to q) ≡ Ok v
decimal_moved r at to q v e = grind arith

digits_moved : (o : Option (List ℕ)) (at to : ℕ) (q : ReadUnit) (v : Option ℤ)
    → given (spec.text_says o at (λ bytes. spec.decimal_in at q.signed (read bytes))) (spec.scaled at q) ≡ Ok v
    → given (spec.decimal_in to q.signed (read (unwrap_or o []))) (spec.scaled to q) ≡ Ok v
digits_moved None at to q v e = grind arith
digits_moved (Some bytes) at to q v e = decimal_moved (read bytes) at to q v e

number_moved : (f g : Fields) (at to : ℕ) (q : ReadUnit) (v : Option ℤ) → spec.field_at g to ≡ Some (spec.text f at) → spec.number f at q ≡ Ok v
    → spec.number g to q ≡ Ok v
unfolding spec.number spec.decimal spec.text
number_moved f g at to q v there e = rw there (digits_moved (spec.field_at f at) at to q v e)

-- ---- the two sentences

first_alone : (v : Option ℤ) → first_of_two v None ≡ v
first_alone v = grind arith

-- a number of the first unit, beside nothing in the second
either_moved : (f g : Fields) (at to : ℕ) (q : ReadUnit) (letter : ℕ) (other : ReadUnit) (other_letter : ℕ) (v : Option ℤ)
    → spec.field_at g to ≡ Some (spec.text f at) → spec.field_at g (to + 1) ≡ Some (letter ∷ []) → spec.field_at g (to + 2) ≡ Some []
    → spec.field_at g (to + 2 + 1) ≡ Some (other_letter ∷ []) → to + 3 ≤ length g → spec.number f at q ≡ Ok v
    → spec.either_unit g to q letter other other_letter ≡ Ok v
either_moved f g at to q letter other other_letter v first letter_is second other_is long e =
    let one = measure_of g to q letter v (number_moved f g at to q v first e) letter_is in
    let two = measure_of g (to + 2) other other_letter None (number_of g (to + 2) other [] None second (reads_nothing other)) other_is in
    either_of g to q letter other other_letter v None one (λ n. two) long ∙ ap (λ (x : Option ℤ). Ok x) (first_alone v)

status_letter : (bytes : List ℕ) (may_lack b : Bool) → spec.which 2 65 86 may_lack bytes ≡ Ok b → spec.is_letter 65 false bytes ≡ b
status_letter bytes may_lack b e = grind arith

status_text : (o : Option (List ℕ)) (may_lack b : Bool) → spec.text_says o 2 (spec.which 2 65 86 may_lack) ≡ Ok b → spec.is_letter 65 false (unwrap_or o []) ≡ b
status_text None may_lack b e = grind arith
status_text (Some bytes) may_lack b e = status_letter bytes may_lack b e

is_status : (f : Fields) (may_lack b : Bool) → spec.status f 2 may_lack ≡ Ok b → spec.is_letter 65 false (spec.text f 2) ≡ b
unfolding spec.status spec.text
is_status f may_lack b e = status_text (spec.field_at f 2) may_lack b e

gll_reads : (g : Fields) (kept : Bool) (la lo : Option ℤ) → spec.coordinate g 1 spec.latitude 4 78 83 ≡ Ok la
    → spec.coordinate g 3 spec.longitude 5 69 87 ≡ Ok lo → spec.unkept g 5 ≡ None
    → ((nothing : Bool) → spec.status g 6 nothing ≡ Ok kept)
    → rows.read_as formatter.Gll g ≡ Ok (reading.Position (only_if kept (beside la lo)) (only_if kept (beside lo la)), None)
unfolding rows.gll
gll_reads g kept la lo a b c d = rw (a, b, c, d (is_none la && is_none lo)) refl

mode_letter : (kept : Bool) → not (spec.is_letter 78 false (letter_where kept 65 78 ∷ [])) ≡ kept
mode_letter true = refl
mode_letter false = refl

never_magnetic : (b : Bool) → (b && not true) ≡ false
never_magnetic b = grind arith

vtg_reads : (g : Fields) (kept : Bool) (co sp : Option ℤ) → spec.either_unit g 1 spec.angle 84 spec.angle 77 ≡ Ok co
    → spec.either_unit g 5 spec.knots 78 spec.kilometres_per_hour 75 ≡ Ok sp → spec.is_magnetic g ≡ false → not (rows.is_invalid_mode g 9) ≡ kept
    → rows.read_as formatter.Vtg g ≡ Ok (reading.CourseSpeed false (only_if kept co) (only_if kept sp), None)
unfolding rows.vtg
vtg_reads g kept co sp a b c d = rw (a, b, c, d) refl

-- ---- a whole RMC

alike : (f : Fields) (kept : Bool) (la lo sp co : Option ℤ) → is_minimum_valid f ≡ kept → spec.coordinate f 3 spec.latitude 4 78 83 ≡ Ok la
    → spec.coordinate f 5 spec.longitude 5 69 87 ≡ Ok lo → spec.number f 7 spec.knots ≡ Ok sp → spec.number f 8 spec.angle ≡ Ok co
    → IsGllAndVtg f (rows.listed (Ok (rows.minimum kept la lo co sp)))
unfolding spec.unkept spec.is_magnetic spec.is_blank spec.text rows.is_invalid_mode
alike f kept la lo sp co same in_latitude in_longitude in_speed in_course =
    let g = gll_of f in
    let w = vtg_of f in
    let status : spec.field_at g 6 ≡ Some (letter_where kept 65 86 ∷ []) = ap (λ (b : Bool). Some (letter_where b 65 86 ∷ [])) same in
    let first = coordinate_moved f g 3 1 spec.latitude 4 78 83 la refl refl in_latitude in
    let second = coordinate_moved f g 5 3 spec.longitude 5 69 87 lo refl refl in_longitude in
    let course = either_moved f w 8 1 spec.angle 84 spec.angle 77 co refl refl refl refl (omega arith) in_course in
    let speed = either_moved f w 7 5 spec.knots 78 spec.kilometres_per_hour 75 sp refl refl refl refl (omega arith) in_speed in
    let mode : not (rows.is_invalid_mode w 9) ≡ kept = ap (λ (b : Bool). not (spec.is_letter 78 false (letter_where b 65 78 ∷ []))) same ∙ mode_letter kept in (
      reading.Position (only_if kept (beside la lo)) (only_if kept (beside lo la)),
      reading.CourseSpeed false (only_if kept co) (only_if kept sp),
      gll_reads g kept la lo first second refl (λ nothing. status_of g 6 nothing kept status),
      vtg_reads w kept co sp course speed (never_magnetic (spec.is_blank w 1)) mode,
      refl,
    )

whole : (f : Fields) (valid : Result Bool FieldFault) (la lo sp co : Result (Option ℤ) FieldFault) (first last : Option FieldFault) → rows.minimum_status f ≡ valid
    → spec.coordinate f 3 spec.latitude 4 78 83 ≡ la → spec.coordinate f 5 spec.longitude 5 69 87 ≡ lo → spec.number f 7 spec.knots ≡ sp
    → spec.number f 8 spec.angle ≡ co
    → IsGllAndVtg f (rows.listed (spec.reads (first ∷ fault valid ∷ fault la ∷ fault lo ∷ fault sp ∷ fault co ∷ last ∷ [])
    (rows.minimum (holds valid && not (rows.is_invalid_mode f 12)) (value la) (value lo) (value co) (value sp))))
whole f valid la lo sp co (Some x) last a b c d e = tt
whole f (Err x) la lo sp co None last a b c d e = tt
whole f (Ok v) (Err x) lo sp co None last a b c d e = tt
whole f (Ok v) (Ok y) (Err x) sp co None last a b c d e = tt
whole f (Ok v) (Ok y) (Ok z) (Err x) co None last a b c d e = tt
whole f (Ok v) (Ok y) (Ok z) (Ok s) (Err x) None last a b c d e = tt
whole f (Ok v) (Ok y) (Ok z) (Ok s) (Ok t) None (Some x) a b c d e = tt
whole f (Ok v) (Ok y) (Ok z) (Ok s) (Ok t) None None a b c d e =
    let nothing = spec.is_blank f 3 && spec.is_blank f 5 && spec.is_blank f 7 && spec.is_blank f 8 in
    alike f (v && not (rows.is_invalid_mode f 12)) y z s t (ap (λ (x : Bool). x && not (rows.is_invalid_mode f 12)) (is_status f nothing v a)) b c d e

on_fields : (f : Fields) → IsGllAndVtg f (rows.listed (rows.rmc f))
unfolding rows.rmc
on_fields f =
    whole f (rows.minimum_status f) (spec.coordinate f 3 spec.latitude 4 78 83) (spec.coordinate f 5 spec.longitude 5 69 87) (spec.number f 7 spec.knots)
    (spec.number f 8 spec.angle) (spec.unkept f 1) (spec.unkept f 9) refl refl refl refl refl

row_is : (optional : OptionalSentences) (parts : SentenceParts) → optional.rmc ≡ true → parts.start ≡ 36 → parts.formatter ≡ codes "RMC"
    → rows.read_row optional parts ≡ rows.listed (rows.rmc (fields_of parts.body))
unfolding rows.read_sentence formatter_of
row_is optional parts on start name =
    let f = fields_of parts.body in
    ap (λ (n : ℕ). rows.listed (if n == 36 then rows.read_behind optional (formatter_of parts.formatter) f else Err Outside)) start
    ∙ ap (λ (t : List ℕ). rows.listed (rows.read_behind optional (formatter_of t) f)) name
    ∙ ap (λ (b : Bool). rows.listed (if b then rows.rmc f else Err Outside)) on

pub rmc_is_gll_and_vtg : RmcIsGllAndVtg
rmc_is_gll_and_vtg optional parts on start name =
    subst (λ (r : Result (List Reading) FieldFault). IsGllAndVtg (fields_of parts.body) r) (sym (row_is optional parts on start name)) (on_fields (fields_of parts.body))
