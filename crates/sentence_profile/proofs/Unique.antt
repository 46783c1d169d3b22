-- A reading is said in one way, with the date of its day.
use Rattle.std.proofs.Common.{◌≡◌, ℕ, ℤ, Bool, List, [], ◌∷◌, ◌++◌, Option, Some, None, map, sym, ap, subst, ◌∙◌, ◌+◌, ◌*◌, ◌%◌, refl}
use Rattle.std.specs.Prelude.{codes, unsigned_abs}
use Rattle.std.specs.List.{AllByRecursion}
use Rattle.arrayvec.specs.ArrayVec.{ArrayVec}
use Rattle.jiff_core.specs.declared.civil.date.Date.{Date}
use Rattle.jiff_core.specs.Date.{epoch_day}
use Rattle.readings.specs.declared.reading.Reading.{Reading}
use Rattle.readings.specs.declared.reading.Reading.TheVariants as reading
use Rattle.sentence_fields.specs.declared.lines.SentenceText.{SentenceText}
use Rattle.sentence_fields.specs.Field.{texts_of, sentence_by}
use Rattle.sentence_fields.specs.ReadBack.{IsReadBack}
use Rattle.sentence_profile.specs.Stable.{IsSaid}
use Rattle.sentence_profile.specs.Writing.{Dated, IsText, day_said, said, zda, zda_on}
use Rattle.jiff_core.proofs.DateLemmas.{epoch_day_injective}
use Rattle.readings.specs.Ranges.{Holds, date as date_range}
use Rattle.sentence_profile.specs.Calendar.{civil_date}
use Rattle.sentence_profile.specs.Laws.{SaidInOneWay}
use Rattle.sentence_profile.specs.Rmc.{date_number}
use Rattle.sentence_profile.proofs.CivilDates.{dates_are_the_calendars}

-- a sentence is added and read back
abbrev Adds : List ℕ → List (List ℕ) → List (List ℕ) → Option ℤ → Option Date → Type 0
Adds talker lines old time d = (lines ≡ old ++ sentence_by talker (codes "ZDA") (zda time d) ∷ []) × IsReadBack talker (codes "ZDA") (zda time d)

pub dated_zda : (date time : Option ℤ) (day : ℤ) (talker : List ℕ) (lines old : List (List ℕ)) (d : Date) → date ≡ Some day → epoch_day d ≡ day
    → lines ≡ old ++ sentence_by talker (codes "ZDA") (zda time (Some d)) ∷ [] → IsReadBack talker (codes "ZDA") (zda time (Some d))
    → Dated date (λ e. Adds talker lines old time e)
dated_zda date time day talker lines old d there on said again =
    let P : Option ℤ → Type 0 = λ o. Dated o (λ e. Adds talker lines old time e) in
    subst P (sym there) (d, on, (said, again))

weaker : (date : Option ℤ) (P Q : Option Date → Type 0) → ((d : Option Date) → P d → Q d) → Dated date P → Dated date Q
weaker None P Q f h = f None h
weaker (Some day) P Q f h = (h.0, h.1, f (Some h.0) h.2)

pub time_said : (r : Reading) (date time : Option ℤ) (talker : List ℕ) (with_ths : Bool) (lines : List (List ℕ)) (old : ArrayVec SentenceText)
    → r ≡ reading.Time date time → old.items ≡ [] → Dated date (λ d. Adds talker lines (texts_of old) time d) → IsSaid r talker with_ths lines
time_said r date time talker with_ths lines old is empty said =
    let P : Reading → Type 0 = λ q. IsSaid q talker with_ths lines in
    subst P (sym is)
    (weaker date (λ d. Adds talker lines (texts_of old) time d)
    (λ d. (lines ≡ sentence_by talker (codes "ZDA") (zda time d) ∷ []) × (IsReadBack talker (codes "ZDA") (zda time d) × Unit {0}))
    (λ d e. (e.0 ∙ ap (λ (texts : List SentenceText). texts_of (record { items = texts }) ++ sentence_by talker (codes "ZDA") (zda time d) ∷ []) empty, (e.1, tt))) said)

-- what is said and read back is said
pub is_text : (r : Reading) (talker : List ℕ) (with_ths : Bool) (lines : List (List ℕ)) → IsSaid r talker with_ths lines → IsText r talker with_ths lines
is_text r talker with_ths lines h =
    weaker (day_said r) (λ d. (lines ≡ map (λ s. sentence_by talker s.0 s.1) (said with_ths d r)) × AllByRecursion (λ s. IsReadBack talker s.0 s.1) (said with_ths d r))
    (λ d. lines ≡ map (λ s. sentence_by talker s.0 s.1) (said with_ths d r)) (λ d e. e.0) h

-- a date of the same day is said in the same fields
same_fields : (t : Option ℤ) (day : ℤ) (d : Date) → Holds date_range day → epoch_day d ≡ day → zda t (Some d) ≡ zda_on t (civil_date day)
same_fields t day d held e =
    let is = dates_are_the_calendars day held in
    let same = epoch_day_injective d is.0 (e ∙ sym is.2) in
    rw (same.0, same.1, same.2, is.1.0, is.1.1, is.1.2) refl

-- and by the same number
pub same_number : (day : ℤ) (d : Date) → Holds date_range day → epoch_day d ≡ day
    → d.day % 100 * 10000 + d.month % 100 * 100 + unsigned_abs d.year % 100 ≡ date_number (civil_date day)
same_number day d held e =
    let is = dates_are_the_calendars day held in
    let same = epoch_day_injective d is.0 (e ∙ sym is.2) in
    rw (same.0, same.1, same.2, is.1.0, is.1.1, is.1.2) refl

pub said_in_one_way : SaidInOneWay
said_in_one_way (reading.Time (Some day) t) talker with_ths lines valid = (
  λ text. text.2 ∙ ap (λ fields. sentence_by talker (codes "ZDA") fields ∷ []) (same_fields t day text.0 valid.0 text.1),
  λ e. let is = dates_are_the_calendars day valid.0 in
      (is.0, is.2, e ∙ ap (λ fields. sentence_by talker (codes "ZDA") fields ∷ []) (sym (same_fields t day is.0 valid.0 is.2))),
)
said_in_one_way (reading.Time None t) talker with_ths lines valid = (λ text. text, λ e. e)
said_in_one_way _ talker with_ths lines valid = (λ text. text, λ e. e)
