-- Each reading is said in one sentence or two, of at most 82 bytes each, which are read as sentences again (IEC 61162-1); and so is RMC.
use Rattle.std.proofs.Common.{rules, ◌≡◌, ℕ, ◌+◌, ◌<◌, ◌≤◌, ℤ, pos, Bool, true, false, IsTrue, List, [], ◌∷◌, map, length, refl, arith}
use Rattle.std.specs.Prelude.{Option, Some, None, codes, is_some, nat_lt, unsigned_abs, ◌||◌}
use Rattle.std.specs.List.{AllByRecursion, list_all}
use Rattle.std.proofs.lemmas.Bool.Decides.{nat_tests}
use Rattle.std.proofs.lemmas.Int.{ints}
use Rattle.std.proofs.lemmas.List.{length-map}
use Rattle.readings.specs.declared.reading.Reading.{Reading}
use Rattle.readings.specs.declared.reading.Reading.TheVariants as reading
use Rattle.readings.specs.Ranges as ranges
use Rattle.readings.specs.Ranges.{Admits, Holds, either_side, up_to}
use Rattle.readings.specs.Rows.{IsValid}
use Rattle.sentence_text.specs.Byte.{is_address_byte, is_capital, is_field_byte}
use Rattle.sentence_fields.specs.declared.field.Field.{Field}
use Rattle.sentence_fields.specs.declared.field.Field.TheVariants.{Angle, Decimal, Degrees, Digits, Empty, Letter, Magnitude, Satellites, Side}
use Rattle.sentence_fields.specs.declared.written_unit.WrittenUnit.{WrittenUnit}
use Rattle.sentence_fields.specs.Field.{IsCounted, IsPrintable, body_width, is_sound, sentence_by, letter_where}
use Rattle.sentence_fields.specs.Field as unit
use Rattle.sentence_fields.specs.ReadBack.{parts_by}
use Rattle.sentence_profile.specs.declared.minimum.Minimum.{Minimum}
use Rattle.sentence_profile.specs.Rmc.{IsMinimum}
use Rattle.sentence_profile.specs.Rmc as joined
use Rattle.sentence_profile.specs.Writing.{beside, above_freezing, day_said, said_on, zda_on}
use Rattle.sentence_profile.specs.Writing as text
use Rattle.sentence_profile.specs.Calendar.{CivilDate, civil_date}
use Rattle.sentence_profile.specs.Laws.{EachIsASentence, EachSaidBriefly, IsOneSentence, RmcIsASentence}
use Rattle.sentence_fields.proofs.Bodies.{is_read_back, sentence_fits}
use Rattle.sentence_profile.proofs.Valid.{beside_within}

-- a formatter and fields that make a sentence of at most 82 bytes
record Fits (s : List ℕ × List Field) : Type 0 where
  formatter : length s.0 ≡ 3
  address : IsTrue (list_all is_address_byte s.0)
  printable : AllByRecursion IsPrintable s.1
  short : body_width s.1 ≤ 71

fit : (formatter : List ℕ) (fields : List Field) → length formatter ≡ 3 → IsTrue (list_all is_address_byte formatter) → AllByRecursion IsPrintable fields
    → body_width fields ≤ 71 → Fits (formatter, fields)
fit formatter fields three address printable short = record { formatter = three; address = address; printable = printable; short = short }

-- ---- values in their ranges

abbrev NoMore : ℕ → Option ℤ → Type 0
NoMore most None = Unit {0}
NoMore most (Some v) = unsigned_abs v ≤ most

either_way : (n most : ℕ) (v : Option ℤ) → n ≤ most → Admits (either_side n) v → NoMore most v
either_way n most None le h = tt
either_way n most (Some v) le h = omega (arith, ints, le, h.0, h.1)

upwards : (n most : ℕ) (v : Option ℤ) → n ≤ most → Admits (up_to n) v → NoMore most v
upwards n most None le h = tt
upwards n most (Some v) le h = omega (arith, ints, le, h.0, h.1)

counted : (u : WrittenUnit) (v : Option ℤ) → NoMore u.largest v → IsCounted u v
counted u None h = tt
counted u (Some v) h = h

freezing : (v : Option ℤ) → Admits ranges.water_temperature v → IsCounted unit.celsius (above_freezing v)
freezing None h = tt
freezing (Some v) h = omega (arith, ints, h.0, h.1)

few_satellites : (n : Option ℤ) → Admits (up_to 252) n → IsPrintable (Satellites n)
few_satellites None h = tt
few_satellites (Some n) h = omega (arith, ints, h.0, h.1)

letter : (b : Bool) (x y : ℕ) → IsTrue (is_field_byte x) → IsTrue (is_field_byte y) → IsTrue (is_field_byte (letter_where b x y))
letter true x y hx hy = hx
letter false x y hx hy = hy

small : (m : ℕ) → Holds (up_to 8) (pos m) → m < 10
small m h = omega (arith, ints, h.1)

quality : (m : ℕ) → m < 10 → IsTrue (is_field_byte (48 + m))
quality m h = grind (arith, nat_tests)

-- ---- each sentence

hdt : (h : Option ℤ) → Fits (codes "HDT", text.hdt h)
hdt h = fit _ _ refl refl (tt, (refl, tt)) (omega arith)

ths : (h : Option ℤ) → Fits (codes "THS", text.ths h)
ths h = fit _ _ refl refl (tt, (letter (is_some h) 65 86 refl refl, tt)) (omega arith)

hdg : (h d v : Option ℤ) → Admits ranges.deviation d → Admits ranges.deviation v → Fits (codes "HDG", text.hdg h d v)
hdg h d v in_d in_v =
    let dev = counted unit.degrees d (either_way 31416 31416 d (omega arith) in_d) in
    let var = counted unit.degrees v (either_way 31416 31416 v (omega arith) in_v) in
    fit _ _ refl refl (tt, ((refl, dev), ((refl, refl, refl), ((refl, var), ((refl, refl, refl), tt))))) (omega arith)

rot : (r : Option ℤ) → Admits ranges.rate_of_turn r → Fits (codes "ROT", text.rot r)
rot r in_r =
    let rate = counted unit.degrees_per_minute r (either_way 930842268 930842268 r (omega arith) in_r) in
    fit _ _ refl refl ((refl, rate), (letter (is_some r) 65 86 refl refl, tt)) (omega arith)

rsa_first : (p : Option ℤ) → Admits ranges.rudder p → Fits (codes "RSA", text.rsa_first p)
rsa_first p in_p =
    let angle = counted unit.degrees p (either_way 15708 31416 p (omega arith) in_p) in
    fit _ _ refl refl ((refl, angle), (letter (is_some p) 65 86 refl refl, (tt, (refl, tt)))) (omega arith)

rsa_second : (p : Option ℤ) → Admits ranges.rudder p → Fits (codes "RSA", text.rsa_second p)
rsa_second p in_p =
    let angle = counted unit.degrees p (either_way 15708 31416 p (omega arith) in_p) in
    fit _ _ refl refl (tt, (refl, ((refl, angle), (letter (is_some p) 65 86 refl refl, tt)))) (omega arith)

vhw : (s : Option ℤ) → Admits ranges.speed s → Fits (codes "VHW", text.vhw s)
vhw s in_s =
    let n = counted unit.knots s (upwards 65532 65532 s (omega arith) in_s) in
    let k = counted unit.kilometres_per_hour s (upwards 65532 65532 s (omega arith) in_s) in
    fit _ _ refl refl (tt, (refl, (tt, (refl, ((refl, n), (refl, ((refl, k), (refl, tt)))))))) (omega arith)

dpt : (d o r : Option ℤ) → Admits ranges.depth d → Admits ranges.offset o → Admits ranges.depth_scale r → Fits (codes "DPT", text.dpt d o r)
dpt d o r in_d in_o in_r =
    let m = counted unit.metres d (upwards 1200000 1200000 d (omega arith) in_d) in
    let below = counted unit.offset_metres o (either_way 32764 32764 o (omega arith) in_o) in
    let scale = counted unit.range_metres r (upwards 252 252 r (omega arith) in_r) in
    fit _ _ refl refl ((refl, m), ((refl, below), ((refl, scale), tt))) (omega arith)

dbt : (d : Option ℤ) → Admits ranges.depth d → Fits (codes "DBT", text.dbt d)
dbt d in_d =
    let m = counted unit.metres d (upwards 1200000 1200000 d (omega arith) in_d) in
    let f = counted unit.feet d (upwards 1200000 1200000 d (omega arith) in_d) in
    let a = counted unit.fathoms d (upwards 1200000 1200000 d (omega arith) in_d) in
    fit _ _ refl refl ((refl, f), (refl, ((refl, m), (refl, ((refl, a), (refl, tt)))))) (omega arith)

vlw : (l t : Option ℤ) → Admits ranges.water_distance l → Admits ranges.water_distance t → Fits (codes "VLW", text.vlw l t)
vlw l t in_l in_t =
    let log = counted unit.nautical_miles l (upwards 3704000000 3704000000 l (omega arith) in_l) in
    let trip = counted unit.nautical_miles t (upwards 3704000000 3704000000 t (omega arith) in_t) in
    fit _ _ refl refl ((refl, log), (refl, ((refl, trip), (refl, tt)))) (omega arith)

-- a position beside other fields
placed : (u : WrittenUnit) (la lo : Option ℤ) (rest : List Field) → IsTrue (is_sound u) → IsTrue (nat_lt 0 u.den) → IsCounted u la → IsCounted u lo
    → AllByRecursion IsPrintable rest → AllByRecursion IsPrintable (Degrees la u 2 ∷ Side la u 78 83 ∷ Degrees lo u 3 ∷ Side lo u 69 87 ∷ rest)
placed u la lo rest sound some north east others = ((sound, north), ((some, refl, refl), ((sound, east), ((some, refl, refl), others))))

gll : (la lo : Option ℤ) → Admits ranges.latitude la → Admits ranges.longitude lo → Fits (codes "GLL", text.gll la lo)
gll la lo in_la in_lo =
    let north = counted unit.minutes la (either_way 900000000 1800000000 la (omega arith) in_la) in
    let east = counted unit.minutes lo (either_way 1800000000 1800000000 lo (omega arith) in_lo) in
    let there = is_some la in
    let fields : List Field = Empty ∷ Letter (letter_where there 65 86) ∷ Letter (letter_where there 65 78) ∷ [] in
    let rest : AllByRecursion IsPrintable fields = (tt, (letter there 65 86 refl refl, (letter there 65 78 refl refl, tt))) in
    fit _ _ refl refl (placed unit.minutes la lo fields refl refl north east rest) (omega arith)

vtg : (m : Bool) (c s : Option ℤ) → Admits ranges.speed s → Fits (codes "VTG", text.vtg m c s)
vtg m c s in_s =
    let n = counted unit.knots s (upwards 65532 65532 s (omega arith) in_s) in
    let k = counted unit.kilometres_per_hour s (upwards 65532 65532 s (omega arith) in_s) in
    let mode = letter (is_some c || is_some s) 65 78 refl refl in
    fit _ _ refl refl (tt, (refl, (tt, (refl, ((refl, n), (refl, ((refl, k), (refl, (mode, tt))))))))) (omega arith)

gga : (t la lo al : Option ℤ) (m : ℕ) (n h s : Option ℤ) → Admits ranges.fix_latitude la → Admits ranges.fix_longitude lo → Admits ranges.altitude al
    → Admits ranges.method (Some (pos m)) → Admits ranges.satellites n → Admits ranges.hdop h → Admits ranges.separation s
    → Fits (codes "GGA", text.gga t la lo al m n h s)
gga t la lo al m n h s in_la in_lo in_al in_m in_n in_h in_s =
    let north = counted unit.fix_minutes la (either_way 900000000000000000 1800000000000000000 la (omega arith) in_la) in
    let east = counted unit.fix_minutes lo (either_way 1800000000000000000 1800000000000000000 lo (omega arith) in_lo) in
    let height = counted unit.altitude_metres al (either_way 9999900000 9999900000 al (omega arith) in_al) in
    let method = letter (is_some la) (48 + m) 48 (quality m (small m in_m)) refl in
    let many = few_satellites n in_n in
    let dilution = counted unit.dilution h (upwards 9999 9999 h (omega arith) in_h) in
    let separation = counted unit.separation_metres s (either_way 99990 99990 s (omega arith) in_s) in
    let metres : List Field = Decimal al unit.altitude_metres ∷ Letter 77 ∷ Decimal s unit.separation_metres ∷ Letter 77 ∷ Empty ∷ Empty ∷ [] in
    let fields : List Field = Letter (letter_where (is_some la) (48 + m) 48) ∷ Satellites n ∷ Decimal h unit.dilution ∷ metres in
    let in_metres : AllByRecursion IsPrintable metres = ((refl, height), (refl, ((refl, separation), (refl, (tt, (tt, tt)))))) in
    let rest : AllByRecursion IsPrintable fields = (method, (many, ((refl, dilution), in_metres))) in
    fit _ _ refl refl (tt, placed unit.fix_minutes la lo fields refl refl north east rest) (omega arith)

zda_none : (t : Option ℤ) → Fits (codes "ZDA", text.zda t None)
zda_none t = fit _ _ refl refl (tt, (tt, (tt, (tt, (tt, (tt, tt)))))) (omega arith)

zda_some : (t : Option ℤ) (date : CivilDate) → Fits (codes "ZDA", zda_on t date)
zda_some t date = fit _ _ refl refl (tt, (tt, (tt, (tt, (tt, (tt, tt)))))) (omega arith)

mwv : (reference : ℕ) (s a : Option ℤ) → IsTrue (is_field_byte reference) → Admits ranges.speed s → Fits (codes "MWV", text.mwv reference s a)
mwv reference s a printable in_s =
    let n = counted unit.knots s (upwards 65532 65532 s (omega arith) in_s) in
    fit _ _ refl refl (tt, (printable, ((refl, n), (refl, (letter (is_some a || is_some s) 65 86 refl refl, tt))))) (omega arith)

mwv_apparent : (s a : Option ℤ) → Admits ranges.speed s → Fits (codes "MWV", text.mwv 82 s a)
mwv_apparent s a in_s = mwv 82 s a refl in_s

mwv_true : (s a : Option ℤ) → Admits ranges.speed s → Fits (codes "MWV", text.mwv 84 s a)
mwv_true s a in_s = mwv 84 s a refl in_s

mwd : (m : Bool) (s a : Option ℤ) → Admits ranges.speed s → Fits (codes "MWD", text.mwd m s a)
mwd m s a in_s =
    let n = counted unit.knots s (upwards 65532 65532 s (omega arith) in_s) in
    let p = counted unit.metres_per_second s (upwards 65532 65532 s (omega arith) in_s) in
    fit _ _ refl refl (tt, (refl, (tt, (refl, ((refl, n), (refl, ((refl, p), (refl, tt)))))))) (omega arith)

mtw : (k : Option ℤ) → Admits ranges.water_temperature k → Fits (codes "MTW", text.mtw k)
mtw k in_k = fit _ _ refl refl ((refl, freezing k in_k), (refl, tt)) (omega arith)

xte : (d : Option ℤ) → Admits ranges.cross_track d → Fits (codes "XTE", text.xte d)
xte d in_d =
    let off = counted unit.track_miles d (either_way 18520000 18520000 d (omega arith) in_d) in
    let status = letter (is_some d) 65 86 refl refl in
    fit _ _ refl refl (status, (status, ((refl, off), ((refl, refl, refl), (refl, (letter (is_some d) 65 78 refl refl, tt)))))) (omega arith)

rmc : (x : Minimum) → IsMinimum x → Fits (codes "RMC", joined.rmc x)
rmc x is =
    let north = counted unit.minutes x.latitude (either_way 900000000 1800000000 x.latitude (omega arith) is.latitude) in
    let east = counted unit.minutes x.longitude (either_way 1800000000 1800000000 x.longitude (omega arith) is.longitude) in
    let speed = counted unit.knots x.speed (upwards 65532 65532 x.speed (omega arith) is.speed) in
    let variation = counted unit.degrees x.variation (either_way 31416 31416 x.variation (omega arith) is.variation) in
    let fields : List Field =
    Decimal x.speed unit.knots ∷ Angle x.course ∷ Digits (joined.date_said x.date) 6 ∷ Magnitude x.variation unit.degrees
    ∷ Side x.variation unit.degrees 69 87 ∷ Letter 65 ∷ [] in
    let rest : AllByRecursion IsPrintable fields = ((refl, speed), (tt, (tt, ((refl, variation), ((refl, refl, refl), (refl, tt)))))) in
    fit _ _ refl refl (tt, (refl, placed unit.minutes x.latitude x.longitude fields refl refl north east rest)) (omega arith)

-- ---- each reading

abbrev AreFit : List (List ℕ × List Field) → Type 0
AreFit said = AllByRecursion Fits said

said_fit : (with_ths : Bool) (r : Reading) → IsValid r → AreFit (said_on with_ths r (day_said r))
said_fit false (reading.HeadingTrue h) v = (hdt h, tt)
said_fit true (reading.HeadingTrue h) v = (hdt h, (ths h, tt))
said_fit w (reading.Position la lo) v =
    (gll (beside la lo) (beside lo la) (beside_within ranges.latitude la lo v.0) (beside_within ranges.longitude lo la v.1.0), tt)
said_fit w (reading.Gnss da t la lo al m n h s) v =
    let north = beside_within ranges.fix_latitude la lo v.1.1.0 in
    let east = beside_within ranges.fix_longitude lo la v.1.1.1.0 in
    let others = v.1.1.1.1 in
    (gga t (beside la lo) (beside lo la) al m n h s north east others.0 others.1.0 others.1.1.0 others.1.1.1.0 others.1.1.1.1.0, tt)
said_fit w (reading.Time None t) v = (zda_none t, tt)
said_fit w (reading.Time (Some day) t) v = (zda_some t (civil_date day), tt)
said_fit w _ v = search (rules, hdg, rot, rsa_first, rsa_second, vhw, dpt, dbt, vlw, vtg, mwv_apparent, mwv_true, mwd, mtw, xte)

-- ---- one sentence or two

abbrev OneOrTwo : List (List ℕ × List Field) → Type 0
OneOrTwo said = (1 ≤ length said) × (length said ≤ 2)

said_few : (with_ths : Bool) (r : Reading) → OneOrTwo (said_on with_ths r (day_said r))
said_few false (reading.HeadingTrue h) = (omega arith, omega arith)
said_few true (reading.HeadingTrue h) = (omega arith, omega arith)
said_few w (reading.Time None t) = (omega arith, omega arith)
said_few w (reading.Time (Some day) t) = (omega arith, omega arith)
said_few w _ = (omega arith, omega arith)

one_sentence : (talker : List ℕ) (s : List ℕ × List Field) → length talker ≡ 2 → IsTrue (list_all is_capital talker) → Fits s → IsOneSentence (sentence_by talker s.0 s.1)
one_sentence talker s two capitals fits = record {
  parts = parts_by talker s.0 s.1;
  is_read = (is_read_back talker s.0 s.1 two fits.formatter capitals fits.address fits.printable fits.short).is_sentence;
  short = sentence_fits talker s.0 s.1 two fits.formatter fits.printable fits.short;
}

all_sentences : (talker : List ℕ) (said : List (List ℕ × List Field)) → length talker ≡ 2 → IsTrue (list_all is_capital talker) → AreFit said
    → AllByRecursion IsOneSentence (map (λ s. sentence_by talker s.0 s.1) said)
all_sentences talker [] two capitals all = tt
all_sentences talker (s ∷ said) two capitals all = (one_sentence talker s two capitals all.0, all_sentences talker said two capitals all.1)

pub each_is_a_sentence : EachIsASentence
each_is_a_sentence talker w r two capitals valid = all_sentences talker (said_on w r (day_said r)) two capitals (said_fit w r valid)

pub rmc_is_a_sentence : RmcIsASentence
rmc_is_a_sentence talker x two capitals is = one_sentence talker (codes "RMC", joined.rmc x) two capitals (rmc x is)

all_short : (talker : List ℕ) (said : List (List ℕ × List Field)) → length talker ≡ 2 → AreFit said
    → AllByRecursion (λ x. length x ≤ 82) (map (λ s. sentence_by talker s.0 s.1) said)
all_short talker [] two all = tt
all_short talker (s ∷ said) two all = (sentence_fits talker s.0 s.1 two all.0.formatter all.0.printable all.0.short, all_short talker said two all.1)

as_many : (talker : List ℕ) (said : List (List ℕ × List Field)) → length (map (λ s. sentence_by talker s.0 s.1) said) ≡ length said
as_many talker said = length-map said (λ s. sentence_by talker s.0 s.1)

pub said_briefly : EachSaidBriefly
said_briefly talker w r =
    let as_said = as_many talker (said_on w r (day_said r)) in
    record {
      some = omega (arith, as_said, (said_few w r).0);
      few = omega (arith, as_said, (said_few w r).1);
      short = λ two valid. all_short talker (said_on w r (day_said r)) two (said_fit w r valid);
    }
