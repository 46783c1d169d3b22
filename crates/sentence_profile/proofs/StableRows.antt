-- Each sentence that is written is read as one reading, which is said in it again.
use Rattle.std.proofs.Common.{rules, ◌≡◌, ℕ, ◌+◌, ◌≤◌, ℤ, pos, Bool, true, false, Option, Some, None, Result, Ok, Err, List, [], ◌∷◌, ◌++◌, All, length, map, refl, sym, ap, ◌∙◌, arith}
use Rattle.std.specs.Prelude.{◌&&◌, ◌||◌, not, codes, is_none, is_some, Contains, if◌then◌else◌}
use Rattle.std.specs.List.{AllByRecursion}
use Rattle.std.proofs.lemmas.Int.{ints}
use Rattle.std.proofs.lemmas.List.Elements.{All-nil, All-cons}
use Rattle.jiff_core.specs.declared.civil.date.Date.{Date}
use Rattle.jiff_core.specs.Date.{epoch_day}
use Rattle.readings.specs.Ranges as ranges
use Rattle.readings.specs.Ranges.{Admits}
use Rattle.readings.specs.Rows.{IsValid}
use Rattle.readings.specs.declared.reading.Reading.{Reading}
use Rattle.readings.specs.declared.reading.Reading.TheVariants as reading
use Rattle.sentence_text.specs.Fields.{fields_of}
use Rattle.sentence_text.specs.Sentence.{sentence}
use Rattle.sentence_fields.specs.declared.written_unit.WrittenUnit.{WrittenUnit}
use Rattle.sentence_profile.specs.declared.read_unit.ReadUnit.{ReadUnit}
use Rattle.sentence_profile.specs.declared.fault.FieldFault.{FieldFault}
use Rattle.sentence_profile.specs.declared.fault.FieldFault.TheVariants.{Outside}
use Rattle.sentence_profile.specs.declared.formatter.Formatter.{Formatter}
use Rattle.sentence_profile.specs.declared.formatter.Formatter.TheVariants as formatter
use Rattle.sentence_fields.specs.declared.field.Field.{Field}
use Rattle.sentence_fields.specs.declared.field.Field.TheVariants.{Angle, Decimal, Letter}
use Rattle.sentence_fields.specs.Field as unit
use Rattle.sentence_fields.specs.Field.{body_text, text_of, sentence_by, letter_where}
use Rattle.sentence_profile.specs.Columns as spec
use Rattle.sentence_profile.specs.Reading.{formatter_of, name_of}
use Rattle.sentence_profile.specs.Reading as rows
use Rattle.sentence_fields.specs.ReadBack.{IsReadBack, parts_by}
use Rattle.sentence_profile.specs.Stable.{IsSaid, IsStable}
use Rattle.sentence_profile.specs.Writing as text
use Rattle.sentence_profile.specs.Writing.{Dated, IsText, beside, day_said, only_if, said}
use Rattle.sentence_profile.proofs.Again.{ReadsAs, back, paired, reads_decimal, reads_nothing, same_decimal}
use Rattle.sentence_profile.proofs.Texted.{Fields, angle_back, angle_of, back_angle, blank_angle, either_of, first_of_two, angle_measured, measured, measure_of, mode_said, number_back, number_of, reads_exactly, reference_of, same_angle, sided_back, status_of, texts, unit_of, wind_of, coordinate_back, quality_of, satellites_back, time_back, date_said, no_date_said}
use Rattle.sentence_profile.proofs.Valid.{beside_within}

-- ---- a whole sentence

named : (k : Formatter) → formatter_of (name_of k) ≡ Some k
unfolding formatter_of
named formatter.Hdt = refl
named _ = refl

abbrev joined : List (List ℕ) → List ℕ
joined [] = []
joined (t ∷ ts) = (44 ∷ t) ++ joined ts

body_joined : (fields : List Field) → body_text fields ≡ joined (texts fields)
body_joined [] = refl
body_joined (f ∷ fs) = ap (λ (b : List ℕ). (44 ∷ text_of f) ++ b) (body_joined fs)

same_sentence : (talker formatter : List ℕ) (a b : List Field) → texts a ≡ texts b → sentence_by talker formatter a ≡ sentence_by talker formatter b
same_sentence talker name a b e =
    let body : body_text a ≡ body_text b = body_joined a ∙ ap joined e ∙ sym (body_joined b) in
    ap (λ (bs : List ℕ). sentence (record { start = 36; talker = talker; formatter = name; body = bs })) body

abbrev found : Reading → Result rows.Found FieldFault
found r = Ok (r, None)

-- the sentences of the formatter are read if a configuration says nothing else
abbrev IsUsual : Formatter → Type 0
IsUsual k = rows.is_wanted rows.usual k ≡ true

read_by : (talker : List ℕ) (k : Formatter) (fields : List Field) (r : Reading) → IsUsual k → fields_of (body_text fields) ≡ texts fields
    → rows.read_as k (texts fields) ≡ found r → rows.read_row rows.usual (parts_by talker (name_of k) fields) ≡ Ok (r ∷ [])
unfolding rows.read_sentence
read_by talker k fields r wanted has is =
    ap (λ (o : Option Formatter). rows.listed (rows.read_behind rows.usual o (fields_of (body_text fields)))) (named k)
    ∙ ap (λ (b : Bool). rows.listed (if b then rows.read_as k (fields_of (body_text fields)) else Err Outside)) wanted
    ∙ ap (λ (f : List (List ℕ)). rows.listed (rows.read_as k f)) has
    ∙ ap rows.listed is

abbrev lines_by : List ℕ → List (List ℕ × List Field) → List (List ℕ)
lines_by talker sentences = map (λ s. sentence_by talker s.0 s.1) sentences

-- where the sentence is read back, it is stable
abbrev Kept : Bool → List ℕ × List Field → Type 0
Kept ths s = (talker : List ℕ) → IsReadBack talker s.0 s.1 → IsStable talker ths (sentence_by talker s.0 s.1)

-- of the sentences of a reading this is one of the same texts
kept_at : (ths : Bool) (k : Formatter) → IsUsual k → (fields : List Field) (r : Reading) (sentences : List (List ℕ × List Field))
    → rows.read_as k (texts fields) ≡ found r → ((talker : List ℕ) → IsText r talker ths (lines_by talker sentences)) → ((talker : List ℕ) → Contains (lines_by talker sentences) (sentence_by talker (name_of k) fields))
    → Kept ths (name_of k, fields)
kept_at ths k wanted fields r sentences is said_so there talker b = record {
  parts = parts_by talker (name_of k) fields;
  is_sentence = b.is_sentence;
  reading = r;
  is_read = read_by talker k fields r wanted b.has_fields is;
  lines = lines_by talker sentences;
  are_said = said_so talker;
  among = there talker;
}

-- the first of them
kept : (ths : Bool) (k : Formatter) → IsUsual k → (fields same : List Field) (rest : List (List ℕ × List Field)) (r : Reading)
    → rows.read_as k (texts fields) ≡ found r → ((talker : List ℕ) → IsText r talker ths (lines_by talker ((name_of k, same) ∷ rest))) → texts same ≡ texts fields → Kept ths (name_of k, fields)
kept ths k wanted fields same rest r is said_so e =
    kept_at ths k wanted fields r ((name_of k, same) ∷ rest) is said_so (λ talker. (0, omega arith, same_sentence talker (name_of k) same fields e))

-- ---- values that are there

only_there : (v : Option ℤ) (b : Bool) → is_some v ≡ b → only_if b v ≡ v
only_there v b e = grind arith

same_letter : (v w : Option ℤ) (first second : ℕ) → is_some v ≡ is_some w → letter_where (is_some v) first second ≡ letter_where (is_some w) first second
same_letter v w first second e = ap (λ (t : Bool). letter_where t first second) e

-- ---- headings

hdt : (ths : Bool) (h : Option ℤ) → Kept ths (codes "HDT", text.hdt h)
unfolding rows.hdt
hdt ths h =
    let f = texts (text.hdt h) in
    let a = angle_measured f 1 84 h refl refl in
    kept ths formatter.Hdt refl (text.hdt h) (text.hdt a.value) (if ths then (codes "THS", text.ths a.value) ∷ [] else []) (reading.HeadingTrue a.value) (rw a.is refl) (λ talker. refl) (cc)

-- THS comes behind HDT
ths_behind : (h : Option ℤ) → Kept true (codes "THS", text.ths h)
unfolding rows.ths
ths_behind h =
    let f = texts (text.ths h) in
    let a = angle_back f 1 h refl in
    let m = mode_said f 2 (is_some h) refl in
    let read : rows.read_as formatter.Ths f ≡ found (reading.HeadingTrue (only_if (is_some h) a.value)) = rw (a.is, m) refl in
    let same : texts (text.ths a.value) ≡ f = let t = same_letter a.value h 65 86 a.there in cc in
    kept_at true formatter.Ths refl (text.ths h) (reading.HeadingTrue a.value) ((codes "HDT", text.hdt a.value) ∷ (codes "THS", text.ths a.value) ∷ [])
    (read ∙ ap (λ (x : Option ℤ). found (reading.HeadingTrue x)) (only_there a.value (is_some h) a.there)) (λ talker. refl)
    (λ talker. (1, omega arith, same_sentence talker (codes "THS") (text.ths a.value) (text.ths h) same))

hdg : (ths : Bool) (h d v : Option ℤ) → Admits ranges.deviation d → Admits ranges.deviation v → Kept ths (codes "HDG", text.hdg h d v)
unfolding rows.hdg
hdg ths h d v in_d in_v =
    let f = texts (text.hdg h d v) in
    let a = angle_back f 1 h refl in
    let x = sided_back f 2 spec.deviation unit.degrees d 69 87 refl in_d refl refl refl in
    let y = sided_back f 4 spec.deviation unit.degrees v 69 87 refl in_v refl refl refl in
    kept ths formatter.Hdg refl (text.hdg h d v) (text.hdg a.value x.value y.value) [] (reading.HeadingMagnetic a.value x.value y.value) (rw (a.is, x.is, y.is) refl) (λ talker. refl) (cc)

rot : (ths : Bool) (r : Option ℤ) → Admits ranges.rate_of_turn r → Kept ths (codes "ROT", text.rot r)
unfolding rows.rot
rot ths r in_r =
    let f = texts (text.rot r) in
    let a = number_back f 1 spec.rate_of_turn unit.degrees_per_minute r refl in_r refl in
    let m = status_of f 2 (is_none a.value) (is_some r) refl in
    let read : rows.read_as formatter.Rot f ≡ found (reading.RateOfTurn (only_if (is_some r) a.value)) = rw (a.is, m) refl in
    let same : texts (text.rot a.value) ≡ f = let t = same_letter a.value r 65 86 a.there in cc in
    kept ths formatter.Rot refl (text.rot r) (text.rot a.value) [] (reading.RateOfTurn a.value)
    (read ∙ ap (λ (x : Option ℤ). found (reading.RateOfTurn x)) (only_there a.value (is_some r) a.there)) (λ talker. refl) same

-- ---- rudders

no_rudder : rows.rsa ([] ∷ (86 ∷ []) ∷ [] ∷ (86 ∷ []) ∷ []) ≡ found (reading.RudderFirst None)
unfolding rows.rsa
no_rudder =
    let f : Fields = [] ∷ (86 ∷ []) ∷ [] ∷ (86 ∷ []) ∷ [] in
    let e1 = number_of f 1 spec.rudder [] None refl (reads_nothing spec.rudder) in
    let e2 = status_of f 2 true false refl in
    let e3 = number_of f 3 spec.rudder [] None refl (reads_nothing spec.rudder) in
    let e4 = status_of f 4 true false refl in
    rw (e1, e2, e3, e4) refl

rsa_first : (ths : Bool) (p : Option ℤ) → Admits ranges.rudder p → Kept ths (codes "RSA", text.rsa_first p)
unfolding rows.rsa
rsa_first ths p in_p =
    let f = texts (text.rsa_first p) in
    let a = number_back f 1 spec.rudder unit.degrees p refl in_p refl in
    let m = status_of f 2 (is_none a.value) (is_some p) refl in
    let e = number_of f 3 spec.rudder [] None refl (reads_nothing spec.rudder) in
    let n = status_of f 4 true false refl in
    let read : rows.read_as formatter.Rsa f ≡ found (reading.RudderFirst (only_if (is_some p) a.value)) = rw (a.is, m, e, n) refl in
    let same : texts (text.rsa_first a.value) ≡ f = let t = same_letter a.value p 65 86 a.there in cc in
    kept ths formatter.Rsa refl (text.rsa_first p) (text.rsa_first a.value) [] (reading.RudderFirst a.value)
    (read ∙ ap (λ (x : Option ℤ). found (reading.RudderFirst x)) (only_there a.value (is_some p) a.there)) (λ talker. refl) same

-- a second rudder that isn't available is said as a first one that isn't
rsa_second : (ths : Bool) (p : Option ℤ) → Admits ranges.rudder p → Kept ths (codes "RSA", text.rsa_second p)
unfolding rows.rsa
rsa_second ths None in_p = kept ths formatter.Rsa refl (text.rsa_second None) (text.rsa_first None) [] (reading.RudderFirst None) no_rudder (λ talker. refl) refl
rsa_second ths (Some raw) in_p =
    let f = texts (text.rsa_second (Some raw)) in
    let p = back spec.rudder unit.degrees (Some raw) in
    let pair = paired unit.degrees spec.rudder refl in
    let e1 = number_of f 1 spec.rudder [] None refl (reads_nothing spec.rudder) in
    let e2 = status_of f 2 true false refl in
    let e3 = number_of f 3 spec.rudder (text_of (Decimal (Some raw) unit.degrees)) p refl (reads_decimal spec.rudder unit.degrees (Some raw) pair in_p) in
    let e4 = status_of f 4 false true refl in
    kept ths formatter.Rsa refl (text.rsa_second (Some raw)) (text.rsa_second p) [] (reading.RudderSecond p) (rw (e1, e2, e3, e4) refl) (λ talker. refl)
    (ap (λ (t : List ℕ). [] ∷ (86 ∷ []) ∷ t ∷ (65 ∷ []) ∷ []) (same_decimal unit.degrees spec.rudder (Some raw) pair))

-- ---- depths and distances

dpt : (ths : Bool) (d o r : Option ℤ) → Admits ranges.depth d → Admits ranges.offset o → Admits ranges.depth_scale r → Kept ths (codes "DPT", text.dpt d o r)
unfolding rows.dpt rows.depth_range
dpt ths d o r in_d in_o in_r =
    let f = texts (text.dpt d o r) in
    let a = number_back f 1 spec.metres unit.metres d refl in_d refl in
    let b = number_back f 2 spec.offset_metres unit.offset_metres o refl in_o refl in
    let c = number_back f 3 spec.range_metres unit.range_metres r refl in_r refl in
    kept ths formatter.Dpt refl (text.dpt d o r) (text.dpt a.value b.value c.value) ((codes "DBT", text.dbt a.value) ∷ []) (reading.Depth a.value b.value c.value) (rw (a.is, b.is, c.is) refl) (λ talker. refl) (cc)

-- DBT comes behind DPT, and says all of the depth
dbt : (ths : Bool) (d : Option ℤ) → Admits ranges.depth d → Kept ths (codes "DBT", text.dbt d)
unfolding rows.dbt spec.unkept
dbt ths d in_d =
    let f = texts (text.dbt d) in
    let n = number_of f 3 spec.metres (text_of (Decimal d unit.metres)) d refl (reads_exactly spec.metres unit.metres d refl (omega arith) refl in_d) in
    let m = measure_of f 3 spec.metres 77 d n refl in
    kept_at ths formatter.Dbt refl (text.dbt d) (reading.Depth d None None) ((codes "DPT", text.dpt d None None) ∷ (codes "DBT", text.dbt d) ∷ []) (rw m refl) (λ talker. refl)
    (λ talker. (1, omega arith, refl))

vlw : (ths : Bool) (l t : Option ℤ) → Admits ranges.water_distance l → Admits ranges.water_distance t → Kept ths (codes "VLW", text.vlw l t)
unfolding rows.vlw
vlw ths l t in_l in_t =
    let f = texts (text.vlw l t) in
    let q = spec.nautical_miles in
    let u = unit.nautical_miles in
    let a = measured f 1 q u 78 l refl in_l refl refl in
    let b = measured f 3 q u 78 t refl in_t refl refl in
    kept ths formatter.Vlw refl (text.vlw l t) (text.vlw a.value b.value) [] (reading.DistanceLog a.value b.value) (rw (a.is, b.is) refl) (λ talker. refl) (cc)

-- ---- temperature

above_again : (c : Option ℤ) → text.above_freezing (rows.from_freezing c) ≡ c
above_again c = grind (arith, ints)

celsius_within : (k : Option ℤ) → Admits ranges.water_temperature k → Admits (ranges.either_side 100000) (text.above_freezing k)
celsius_within k h = grind (arith, ints)

mtw : (ths : Bool) (k : Option ℤ) → Admits ranges.water_temperature k → Kept ths (codes "MTW", text.mtw k)
unfolding rows.mtw
mtw ths k in_k =
    let f = texts (text.mtw k) in
    let q = spec.celsius in
    let c = text.above_freezing k in
    let a = measured f 1 q unit.celsius 67 c refl (celsius_within k in_k) refl refl in
    let kelvin = rows.from_freezing a.value in
    let same : texts (text.mtw kelvin) ≡ f = let s : texts (Decimal a.value unit.celsius ∷ Letter 67 ∷ []) ≡ f = let t = a.same in cc in ap (λ (x : Option ℤ). texts (Decimal x unit.celsius ∷ Letter 67 ∷ [])) (above_again a.value) ∙ s in
    kept ths formatter.Mtw refl (text.mtw k) (text.mtw kelvin) [] (reading.WaterTemperature kelvin) (rw a.is refl) (λ talker. refl) same

-- ---- cross track error

twice : (b : Bool) → (b && b) ≡ b
twice b = grind arith

xte : (ths : Bool) (x : Option ℤ) → Admits ranges.cross_track x → Kept ths (codes "XTE", text.xte x)
unfolding rows.xte
xte ths x in_x =
    let f = texts (text.xte x) in
    let there = is_some x in
    let blank = spec.is_blank f 3 in
    let a = sided_back f 3 spec.track_miles unit.track_miles x 76 82 refl in_x refl refl refl in
    let m = status_of f 1 blank there refl in
    let n = status_of f 2 blank there refl in
    let u = unit_of f 5 78 (is_none a.value) refl in
    let read : rows.read_as formatter.Xte f ≡ found (reading.CrossTrack (only_if (there && there) a.value)) = rw (m, n, a.is, u) refl in
    let same : texts (text.xte a.value) ≡ f = let t = same_letter a.value x 65 86 a.there in let w = same_letter a.value x 65 78 a.there in cc in
    kept ths formatter.Xte refl (text.xte x) (text.xte a.value) [] (reading.CrossTrack a.value)
    (read ∙ ap (λ (y : Option ℤ). found (reading.CrossTrack y)) (only_there a.value (there && there) (a.there ∙ sym (twice there)))) (λ talker. refl) same

-- ---- speeds in two units

reads_knots : (s : Option ℤ) → Admits ranges.speed s → ReadsAs spec.knots (text_of (Decimal s unit.knots)) s
reads_knots s in_s = reads_exactly spec.knots unit.knots s refl (omega arith) refl in_s

speed_said : (f : Fields) (at : ℕ) (other : ReadUnit) (other_unit : WrittenUnit) (other_letter : ℕ) (s : Option ℤ) → Admits ranges.speed s
    → spec.field_at f at ≡ Some (text_of (Decimal s unit.knots)) → spec.field_at f (at + 1) ≡ Some (78 ∷ [])
    → spec.field_at f (at + 2) ≡ Some (text_of (Decimal s other_unit)) → spec.field_at f (at + 2 + 1) ≡ Some (other_letter ∷ [])
    → at + 3 ≤ length f → spec.either_unit f at spec.knots 78 other other_letter ≡ Ok s
speed_said f at other other_unit other_letter None in_s e1 e2 e3 e4 long =
    either_of f at spec.knots 78 other other_letter None None
    (measure_of f at spec.knots 78 None (number_of f at spec.knots [] None e1 (reads_nothing spec.knots)) e2)
    (λ n. measure_of f (at + 2) other other_letter None (number_of f (at + 2) other [] None e3 (reads_nothing other)) e4) long
speed_said f at other other_unit other_letter (Some x) in_s e1 e2 e3 e4 long =
    either_of f at spec.knots 78 other other_letter (Some x) None
    (measure_of f at spec.knots 78 (Some x) (number_of f at spec.knots (text_of (Decimal (Some x) unit.knots)) (Some x) e1 (reads_knots (Some x) in_s)) e2) (λ n. cc) long

vhw : (ths : Bool) (s : Option ℤ) → Admits ranges.speed s → Kept ths (codes "VHW", text.vhw s)
unfolding rows.vhw spec.unkept
vhw ths s in_s =
    let f = texts (text.vhw s) in
    let e = speed_said f 5 spec.kilometres_per_hour unit.kilometres_per_hour 75 s in_s refl refl refl refl (omega arith) in
    kept ths formatter.Vhw refl (text.vhw s) (text.vhw s) [] (reading.WaterSpeed s) (rw e refl) (λ talker. refl) refl

-- ---- directions, true or else magnetic

direction : (m : Bool) (c : Option ℤ) → first_of_two (back_angle (only_if (not m) c)) (back_angle (only_if m c)) ≡ back_angle c
direction m c = grind arith

magnetic : (m : Bool) (c : Option ℤ) → (is_none (only_if (not m) c) && not (is_none (only_if m c))) ≡ (m && is_some c)
magnetic m c = grind arith

-- a direction is read from the north that it is said from, where it is there
record Directed (f : Fields) (m : Bool) (c : Option ℤ) : Type 0 where
  course : spec.either_unit f 1 spec.angle 84 spec.angle 77 ≡ Ok (back_angle c)
  from : spec.is_magnetic f ≡ (m && is_some c)

abbrev said_value : Option ℤ → Result (Option ℤ) FieldFault
said_value v = Ok v

directed : (f : Fields) (m : Bool) (c : Option ℤ) → spec.field_at f 1 ≡ Some (text_of (Angle (only_if (not m) c))) → spec.field_at f 2 ≡ Some (84 ∷ [])
    → spec.field_at f 3 ≡ Some (text_of (Angle (only_if m c))) → spec.field_at f 4 ≡ Some (77 ∷ []) → 4 ≤ length f → Directed f m c
unfolding spec.is_magnetic
directed f m c e1 e2 e3 e4 le =
    let a = only_if (not m) c in
    let b = only_if m c in
    let one = measure_of f 1 spec.angle 84 (back_angle a) (angle_of f 1 a e1) e2 in
    let two = measure_of f 3 spec.angle 77 (back_angle b) (angle_of f 3 b e3) e4 in
    record {
      course = either_of f 1 spec.angle 84 spec.angle 77 (back_angle a) (back_angle b) one (λ n. two) le ∙ ap said_value (direction m c);
      from = rw (blank_angle f 1 a e1, blank_angle f 3 b e3) (magnetic m c);
    }

-- both directions are printed the same
same_true : (m : Bool) (c : Option ℤ) → text_of (Angle (only_if (not (m && is_some c)) (back_angle c))) ≡ text_of (Angle (only_if (not m) c))
same_true m c = grind (arith, same_angle)

same_magnetic : (m : Bool) (c : Option ℤ) → text_of (Angle (only_if (m && is_some c) (back_angle c))) ≡ text_of (Angle (only_if m c))
same_magnetic m c = grind (arith, same_angle)

-- what is said of two values where one of them is there
either_there : (c s : Option ℤ) → (is_some (back_angle c) || is_some s) ≡ (is_some c || is_some s)
either_there c s = grind arith

only_either : (c s : Option ℤ) → only_if (is_some c || is_some s) (back_angle c) ≡ back_angle c
only_either c s = grind arith

only_other : (c s : Option ℤ) → only_if (is_some c || is_some s) s ≡ s
only_other c s = grind arith

vtg_of : (f : Fields) (m there : Bool) (c s : Option ℤ) → spec.either_unit f 1 spec.angle 84 spec.angle 77 ≡ Ok c
    → spec.either_unit f 5 spec.knots 78 spec.kilometres_per_hour 75 ≡ Ok s → spec.is_magnetic f ≡ m → spec.field_at f 9 ≡ Some (letter_where there 65 78 ∷ [])
    → rows.vtg f ≡ Ok (reading.CourseSpeed m (only_if there c) (only_if there s))
unfolding rows.vtg rows.is_invalid_mode spec.text
vtg_of f m true c s e1 e2 e3 e4 = rw (e1, e2, e3, e4) refl
vtg_of f m false c s e1 e2 e3 e4 = rw (e1, e2, e3, e4) refl

abbrev course_speed : Bool → Option ℤ → Option ℤ → Result rows.Found FieldFault
course_speed m c s = found (reading.CourseSpeed m c s)

vtg : (ths : Bool) (m : Bool) (c s : Option ℤ) → Admits ranges.speed s → Kept ths (codes "VTG", text.vtg m c s)
vtg ths m c s in_s =
    let f = texts (text.vtg m c s) in
    let there = is_some c || is_some s in
    let from = m && is_some c in
    let a = back_angle c in
    let d = directed f m c refl refl refl refl (omega arith) in
    let e = speed_said f 5 spec.kilometres_per_hour unit.kilometres_per_hour 75 s in_s refl refl refl refl (omega arith) in
    let is : rows.read_as formatter.Vtg f ≡ course_speed from a s =
    ap rows.alone (vtg_of f from there a s d.course e d.from refl) ∙ ap (λ (x : Option ℤ). course_speed from x (only_if there s)) (only_either c s) ∙ ap (course_speed from a) (only_other c s) in
    let same : texts (text.vtg from a s) ≡ f =
    let s1 = same_true m c in
    let s2 = same_magnetic m c in
    let s3 : letter_where (is_some a || is_some s) 65 78 ≡ letter_where there 65 78 = ap (λ (t : Bool). letter_where t 65 78) (either_there c s) in cc in
    kept ths formatter.Vtg refl (text.vtg m c s) (text.vtg from a s) [] (reading.CourseSpeed from a s) is (λ talker. refl) same

mwd : (ths : Bool) (m : Bool) (s c : Option ℤ) → Admits ranges.speed s → Kept ths (codes "MWD", text.mwd m s c)
unfolding rows.mwd
mwd ths m s c in_s =
    let f = texts (text.mwd m s c) in
    let from = m && is_some c in
    let a = back_angle c in
    let d = directed f m c refl refl refl refl (omega arith) in
    let e = speed_said f 5 spec.metres_per_second unit.metres_per_second 77 s in_s refl refl refl refl (omega arith) in
    let same : texts (text.mwd from s a) ≡ f = let s1 = same_true m c in let s2 = same_magnetic m c in cc in
    kept ths formatter.Mwd refl (text.mwd m s c) (text.mwd from s a) [] (reading.WindNorth from s a) (rw (d.course, e, d.from) refl) (λ talker. refl) same

-- ---- wind

abbrev wind_said : Bool → Option ℤ → Option ℤ → Result rows.Found FieldFault
wind_said from_true s a = found (rows.wind from_true s a)

mwv_read : (from_true : Bool) (s a : Option ℤ) → Admits ranges.speed s → rows.read_as formatter.Mwv (texts (text.mwv (if from_true then 84 else 82) s a)) ≡ wind_said from_true s (back_angle a)
unfolding rows.mwv
mwv_read from_true s a in_s =
    let f = texts (text.mwv (if from_true then 84 else 82) s a) in
    let there = is_some a || is_some s in
    let b = back_angle a in
    let n = angle_of f 1 a refl in
    let r = reference_of f 2 from_true refl in
    let w = wind_of f 3 (text_of (Decimal s unit.knots)) s refl (reads_knots s in_s) refl in
    let m = status_of f 5 (is_none b && is_none s) there refl in
    let read : rows.read_as formatter.Mwv f ≡ wind_said from_true (only_if there s) (only_if there b) = rw (n, r, w, m) refl in
    read ∙ ap (λ (x : Option ℤ). wind_said from_true x (only_if there b)) (only_other a s) ∙ ap (wind_said from_true s) (only_either a s)

same_wind : (letter : ℕ) (s a : Option ℤ) → texts (text.mwv letter s (back_angle a)) ≡ texts (text.mwv letter s a)
same_wind letter s a =
    let s1 = same_angle a in
    let s2 : letter_where (is_some (back_angle a) || is_some s) 65 86 ≡ letter_where (is_some a || is_some s) 65 86 = ap (λ (t : Bool). letter_where t 65 86) (either_there a s) in cc

mwv_apparent : (ths : Bool) (s a : Option ℤ) → Admits ranges.speed s → Kept ths (codes "MWV", text.mwv 82 s a)
mwv_apparent ths s a in_s =
    kept ths formatter.Mwv refl (text.mwv 82 s a) (text.mwv 82 s (back_angle a)) [] (reading.WindApparent s (back_angle a)) (mwv_read false s a in_s) (λ talker. refl) (same_wind 82 s a)

mwv_true : (ths : Bool) (s a : Option ℤ) → Admits ranges.speed s → Kept ths (codes "MWV", text.mwv 84 s a)
mwv_true ths s a in_s =
    kept ths formatter.Mwv refl (text.mwv 84 s a) (text.mwv 84 s (back_angle a)) [] (reading.WindTrue s (back_angle a)) (mwv_read true s a in_s) (λ talker. refl) (same_wind 84 s a)

-- ---- positions

-- latitude and longitude are both there, or neither is
abbrev Both : Option ℤ → Option ℤ → Type 0
Both la lo = is_some la ≡ is_some lo

both_beside : (la lo : Option ℤ) → Both (beside la lo) (beside lo la)
both_beside la lo = grind arith

beside_same : (v other : Option ℤ) → Both v other → beside v other ≡ v
beside_same v other e = only_there v (is_some other) e

two : {A : Type 0} (g : Option ℤ → Option ℤ → A) (a b c d : Option ℤ) → a ≡ b → c ≡ d → g a c ≡ g b d
two g a b c d e h = ap (λ (x : Option ℤ). g x c) e ∙ ap (g b) h

gll : (ths : Bool) (la lo : Option ℤ) → Admits ranges.latitude la → Admits ranges.longitude lo → Both la lo → Kept ths (codes "GLL", text.gll la lo)
unfolding rows.gll spec.unkept
gll ths la lo in_la in_lo both =
    let f = texts (text.gll la lo) in
    let there = is_some la in
    let a = coordinate_back f 1 2 spec.latitude unit.minutes la 78 83 refl in_la refl (omega arith) refl refl refl in
    let b = coordinate_back f 3 3 spec.longitude unit.minutes lo 69 87 refl in_lo refl (omega arith) refl refl refl in
    let m = status_of f 6 (is_none a.value && is_none b.value) there refl in
    let together : Both a.value b.value = a.there ∙ both ∙ sym b.there in
    let y1 = beside_same a.value b.value together in
    let y2 = beside_same b.value a.value (sym together) in
    let x1 = ap (only_if there) y1 ∙ only_there a.value there a.there in
    let x2 = ap (only_if there) y2 ∙ only_there b.value there (b.there ∙ sym both) in
    let read : rows.read_as formatter.Gll f ≡ found (reading.Position (only_if there (beside a.value b.value)) (only_if there (beside b.value a.value))) = rw (a.is, b.is, m) refl in
    let same : texts (text.gll a.value b.value) ≡ f =
    let w = same_letter a.value la 65 86 a.there in let z = same_letter a.value la 65 78 a.there in cc in
    kept ths formatter.Gll refl (text.gll la lo) (text.gll (beside a.value b.value) (beside b.value a.value)) [] (reading.Position a.value b.value)
    (read ∙ two (λ x y. found (reading.Position x y)) _ _ _ _ x1 x2) (λ talker. refl) (two (λ x y. texts (text.gll x y)) _ _ _ _ y1 y2 ∙ same)

-- the method of a fix that there is
abbrev method_there : Bool → ℕ → ℕ
method_there there m = if there then m else 0

-- how it is said and read
record Method (there : Bool) (m : ℕ) : Type 0 where
  letter : letter_where there (48 + m) 48 ≡ 48 + method_there there m
  small : method_there there m ≤ 8
  same : letter_where there (48 + method_there there m) 48 ≡ letter_where there (48 + m) 48

method_of : (there : Bool) (m : ℕ) → m ≤ 8 → Method there m
method_of there m le = record { letter = grind arith; small = grind arith; same = grind arith }

abbrev one_letter : ℕ → Option (List ℕ)
one_letter c = Some (c ∷ [])

gga : (ths : Bool) (t la lo al : Option ℤ) (m : ℕ) (n h s : Option ℤ) → Admits ranges.time t → Admits ranges.fix_latitude la → Admits ranges.fix_longitude lo
    → Admits ranges.altitude al → m ≤ 8 → Admits ranges.satellites n → Admits ranges.hdop h → Admits ranges.separation s → Both la lo → Kept ths (codes "GGA", text.gga t la lo al m n h s)
unfolding rows.gga
gga ths t la lo al m n h s in_t in_la in_lo in_al in_m in_n in_h in_s both =
    let f = texts (text.gga t la lo al m n h s) in
    let u = unit.fix_minutes in
    let g = method_of (is_some la) m in_m in
    let method = method_there (is_some la) m in
    let time = time_back f 1 t in_t refl in
    let a = coordinate_back f 2 2 spec.fix_latitude u la 78 83 refl in_la refl (omega arith) refl refl refl in
    let b = coordinate_back f 4 3 spec.fix_longitude u lo 69 87 refl in_lo refl (omega arith) refl refl refl in
    let quality = quality_of f 6 method g.small (ap one_letter g.letter) in
    let seen = satellites_back f 7 n in_n refl in
    let hdop = number_back f 8 spec.dilution unit.dilution h refl in_h refl in
    let above = measured f 9 spec.altitude_metres unit.altitude_metres 77 al refl in_al refl refl in
    let apart = measured f 11 spec.separation_metres unit.separation_metres 77 s refl in_s refl refl in
    let together : Both a.value b.value = a.there ∙ both ∙ sym b.there in
    let y1 = beside_same a.value b.value together in
    let y2 = beside_same b.value a.value (sym together) in
    let read : rows.read_as formatter.Gga f ≡ found (reading.Gnss None time.value (beside a.value b.value) (beside b.value a.value) above.value method seen.value hdop.value apart.value) =
    rw (time.is, a.is, b.is, quality, seen.is, hdop.is, above.is, apart.is) refl in
    let same : texts (text.gga time.value a.value b.value above.value method seen.value hdop.value apart.value) ≡ f =
    let s7 : letter_where (is_some a.value) (48 + method) 48 ≡ letter_where (is_some la) (48 + m) 48 = same_letter a.value la (48 + method) 48 a.there ∙ g.same in cc in
    kept ths formatter.Gga refl (text.gga t la lo al m n h s) (text.gga time.value (beside a.value b.value) (beside b.value a.value) above.value method seen.value hdop.value apart.value) []
    (reading.Gnss None time.value a.value b.value above.value method seen.value hdop.value apart.value)
    (read ∙ two (λ x y. found (reading.Gnss None time.value x y above.value method seen.value hdop.value apart.value)) _ _ _ _ y1 y2) (λ talker. refl)
    (two (λ x y. texts (text.gga time.value x y above.value method seen.value hdop.value apart.value)) _ _ _ _ y1 y2 ∙ same)

-- ---- the date

-- the date of the day, if there is one
abbrev IsOf : Option ℤ → Option Date → Type 0
IsOf None d = d ≡ None
IsOf (Some day) None = ⊥
IsOf (Some day) (Some d) = epoch_day d ≡ day

zda : (ths : Bool) (day t : Option ℤ) (d : Option Date) → Admits ranges.date day → Admits ranges.time t → IsOf day d → Kept ths (codes "ZDA", text.zda t d)
unfolding rows.zda
zda ths None t None in_day in_t on =
    let f = texts (text.zda t None) in
    let a = time_back f 1 t in_t refl in
    let e = no_date_said f 2 refl refl refl in
    kept ths formatter.Zda refl (text.zda t None) (text.zda a.value None) [] (reading.Time None a.value) (rw (a.is, e) refl) (λ talker. refl) (cc)
zda ths None t (Some d) in_day in_t on = cc
zda ths (Some day) t None in_day in_t on = absurd on
zda ths (Some day) t (Some d) in_day in_t on =
    let f = texts (text.zda t (Some d)) in
    let a = time_back f 1 t in_t refl in
    let e = date_said f 2 d day on in_day refl refl refl in
    kept ths formatter.Zda refl (text.zda t (Some d)) (text.zda a.value (Some d)) [] (reading.Time (Some day) a.value) (rw (a.is, e) refl) (λ talker. (d, on, refl)) (cc)

-- ---- each sentence of a valid reading

few_methods : (m : ℕ) → Admits ranges.method (Some (pos m)) → m ≤ 8
few_methods m h = omega (arith, ints, h.1)

each_kept : (r : Reading) (with_ths : Bool) (d : Option Date) → IsValid r → IsOf (day_said r) d → AllByRecursion (Kept with_ths) (said with_ths d r)
each_kept (reading.HeadingTrue h) false d v on = (hdt false h, tt)
each_kept (reading.HeadingTrue h) true d v on = (hdt true h, (ths_behind h, tt))
each_kept (reading.Position la lo) w d v on =
    (gll w (beside la lo) (beside lo la) (beside_within ranges.latitude la lo v.0) (beside_within ranges.longitude lo la v.1.0) (both_beside la lo), tt)
each_kept (reading.Gnss da t la lo al m n h s) w d v on = (
  gga w t (beside la lo) (beside lo la) al m n h s v.1.0 (beside_within ranges.fix_latitude la lo v.1.1.0) (beside_within ranges.fix_longitude lo la v.1.1.1.0)
      v.1.1.1.1.0 (few_methods m v.1.1.1.1.1.0) v.1.1.1.1.1.1.0 v.1.1.1.1.1.1.1.0 v.1.1.1.1.1.1.1.1.0 (both_beside la lo),
  tt,
)
each_kept (reading.Time da t) w d v on = (zda w da t d v.0 v.1.0 on, tt)
each_kept _ w d v on = search (rules, hdg, rot, rsa_first, rsa_second, vhw, dpt, dbt, vlw, vtg, mwv_apparent, mwv_true, mwd, mtw, xte)

all_stable : (talker : List ℕ) (w : Bool) (sentences : List (List ℕ × List Field)) → AllByRecursion (λ s. IsReadBack talker s.0 s.1) sentences → AllByRecursion (Kept w) sentences
    → All (IsStable talker w) (lines_by talker sentences)
all_stable talker w [] b k = All-nil (IsStable talker w)
all_stable talker w (s ∷ ss) b k = All-cons (IsStable talker w) (sentence_by talker s.0 s.1) (lines_by talker ss) (k.0 talker b.0) (all_stable talker w ss b.1 k.1)

with_date : (day : Option ℤ) (P : Option Date → Type 0) (C : Type 0) → Dated day P → ((d : Option Date) → IsOf day d → P d → C) → C
with_date None P C h next = next None refl h
with_date (Some day) P C h next = next (Some h.0) h.1 h.2

pub stable_lines : (r : Reading) (talker : List ℕ) (with_ths : Bool) (lines : List (List ℕ)) → IsValid r → IsSaid r talker with_ths lines → All (IsStable talker with_ths) lines
stable_lines r talker w lines v s =
    with_date (day_said r) (λ d. (lines ≡ lines_by talker (said w d r)) × AllByRecursion (λ x. IsReadBack talker x.0 x.1) (said w d r)) (All (IsStable talker w) lines) s
    (λ d on h. rw h.0 (all_stable talker w (said w d r) h.1 (each_kept r w d v on)))
