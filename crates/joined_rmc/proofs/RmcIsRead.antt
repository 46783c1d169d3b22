-- RMC is read.
use Rattle.std.proofs.Common.{ℕ, ◌+◌, ◌*◌, Bool, true, false, List, [], ◌∷◌}
use Rattle.std.specs.Prelude.{Option, Some, None, IfSome, nat_le, if◌then◌else◌}
use Rattle.readings.specs.declared.reading.Reading.{Reading}
use Rattle.readings.specs.declared.reading.Reading.TheVariants as reading
use Rattle.readings.specs.declared.rows.Row.{Row}
use Rattle.readings.specs.declared.rows.Row.TheVariants as row
use Rattle.readings.specs.Ranges as ranges
use Rattle.readings.specs.Ranges.{Admits}
use Rattle.readings.specs.Rows.{IsValid, row_of}
use Rattle.sentence_profile.specs.Rmc.{IsMinimum, rmc_text}
use Rattle.sentence_profile.proofs.ShortSentences.{rmc_is_a_sentence}
use Rattle.claim_table.specs.declared.answer.Holder.{Holder}
use Rattle.history.specs.Entries.{Entry, History, moment_of}
use Rattle.history.specs.EntryLaws.{nets_in}
use Rattle.history.specs.FromBus.{said_at}
use Rattle.history.specs.Known.{held_since, known}
use Rattle.history.specs.Messages.{Message, done}
use Rattle.history.specs.Settings.{Settings, receiver_of, same_row}
use Rattle.parts.specs.Selected.{Selected, last_of, newer, saying, selected_at, selected_with}
use Rattle.joined_rmc.specs.Lasting.{held_by, is_due, said_within, still_held, unless_old}
use Rattle.joined_rmc.specs.RmcOut.{RmcRule, date_in, joined_in, latitude_in, lines_before, longitude_in, minimum, rmc_out, sent_to, speed_in, timeout_of, variation_in, datagram_by}
use Rattle.parts.specs.Voices.{EachSays, in_one}
use Rattle.joined_rmc.specs.RmcPart.{SpeaksRmc, rmc_says}
use Rattle.parts.proofs.Lines.{says_one}
use Rattle.parts.proofs.Speaking.{capitals, said_valid}

-- ---- what a message says that is kept is valid

abbrev pub SaysValid : Option Selected → Type 0
SaysValid o = IfSome o (λ x. IsValid x.reading)

saying_valid : (d : Message) (o : Option Reading) → IfSome o IsValid → SaysValid (saying d o)
saying_valid d None v = tt
saying_valid d (Some r) v = v

pub with_valid : (d : Option Message) (o : Option Reading) → IfSome o IsValid → SaysValid (selected_with d o)
with_valid None o v = tt
with_valid (Some d) o v = saying_valid d o v

pub at_valid : (c : Settings) (s : ℕ) (h : History) (e : Entry) → SaysValid (selected_at c s h e)
at_valid c s h e = with_valid (done (receiver_of c) s h e) (said_at c s h e) (said_valid c s h e)

pub newer_valid : (row : Row) (o before : Option Selected) → SaysValid o → SaysValid before → SaysValid (newer row o before)
newer_valid row None before v w = w
newer_valid row (Some x) before v w = by (same_row (row_of x.reading) row)
  where
    by : (b : Bool) → SaysValid (if b then Some x else before)
    by true = v
    by false = w

last_valid : (c : Settings) (s : ℕ) (row : Row) (h : History) → SaysValid (last_of c s row h)
last_valid c s row [] = tt
last_valid c s row (e ∷ h) = newer_valid row (selected_at c s h e) (last_of c s row h) (at_valid c s h e) (last_valid c s row h)

held_valid : (since : Option ℕ) (x : Selected) → IsValid x.reading → SaysValid (held_by since x)
held_valid None x v = tt
held_valid (Some since) x v = by (nat_le since x.index)
  where
    by : (b : Bool) → SaysValid (if b then Some x else None)
    by true = v
    by false = tt

pub still_valid : (holders : List (Option Holder)) (o : Option Selected) → SaysValid o → SaysValid (still_held holders o)
still_valid holders None v = tt
still_valid holders (Some x) v = held_valid (held_since holders x.source) x v

old_valid : (timeout m said_at : ℕ) (r : Reading) → IsValid r → IfSome (unless_old timeout m said_at r) IsValid
old_valid timeout m said_at r v = by (nat_le m (said_at + 1000 * timeout))
  where
    by : (b : Bool) → IfSome (if b then Some r else None) IsValid
    by true = v
    by false = tt

pub within_valid : (timeout m : ℕ) (o : Option Selected) → SaysValid o → IfSome (said_within timeout m o) IsValid
within_valid timeout m None v = tt
within_valid timeout m (Some x) v = old_valid timeout m x.moment x.reading v

joined_valid : (r : RmcRule) (c : Settings) (s : ℕ) (row : Row) (h : History) (m : ℕ) → IfSome (joined_in r c s row h m) IsValid
joined_valid r c s row h m =
    within_valid (timeout_of r.timeouts row) m (still_held (known (receiver_of c) s h).claims.holders (last_of c s row h))
    (still_valid (known (receiver_of c) s h).claims.holders (last_of c s row h) (last_valid c s row h))

-- ---- so what is joined is in its range

date_valid : (o : Option Reading) → IfSome o IsValid → Admits ranges.date (date_in o)
date_valid None v = tt
date_valid (Some (reading.Time d t)) v = v.0
date_valid (Some _) v = tt

latitude_valid : (o : Option Reading) → IfSome o IsValid → Admits ranges.latitude (latitude_in o)
latitude_valid None v = tt
latitude_valid (Some (reading.Position la lo)) v = v.0
latitude_valid (Some _) v = tt

longitude_valid : (o : Option Reading) → IfSome o IsValid → Admits ranges.longitude (longitude_in o)
longitude_valid None v = tt
longitude_valid (Some (reading.Position la lo)) v = v.1.0
longitude_valid (Some _) v = tt

speed_valid : (o : Option Reading) → IfSome o IsValid → Admits ranges.speed (speed_in o)
speed_valid None v = tt
speed_valid (Some (reading.CourseSpeed m c s)) v = v.1.0
speed_valid (Some _) v = tt

pub variation_valid : (o : Option Reading) → IfSome o IsValid → Admits ranges.deviation (variation_in o)
variation_valid None v = tt
variation_valid (Some (reading.HeadingMagnetic h d v)) is = is.1.1.0
variation_valid (Some _) v = tt

minimum_valid : (r : RmcRule) (c : Settings) (s : ℕ) (h : History) (m : ℕ) → IsMinimum (minimum r c s h m)
minimum_valid r c s h m = record {
  date = date_valid (joined_in r c s row.Time h m) (joined_valid r c s row.Time h m);
  latitude = latitude_valid (joined_in r c s row.Position h m) (joined_valid r c s row.Position h m);
  longitude = longitude_valid (joined_in r c s row.Position h m) (joined_valid r c s row.Position h m);
  speed = speed_valid (joined_in r c s row.CourseSpeed h m) (joined_valid r c s row.CourseSpeed h m);
  variation = variation_valid (joined_in r c s row.HeadingMagnetic h m) (joined_valid r c s row.HeadingMagnetic h m);
}

pub rmc_is_read : (r : RmcRule) (c : Settings) (s : ℕ) (h : History) (e : Entry) → SpeaksRmc r c → EachSays (nets_in (rmc_out r c s h e)) (rmc_says r c s h e)
rmc_is_read r c s h e speaks = by (is_due (selected_at c s h e))
  where
    text : List ℕ
    text = rmc_text r.talker (minimum r c s (e ∷ h) (moment_of e))

    by : (b : Bool) → EachSays (nets_in (sent_to r c s r.group (if b then Some (datagram_by r.sfi r.talker (lines_before r c s h) (minimum r c s (e ∷ h) (moment_of e))) else None)))
        (if b then in_one text else [])
    by true = (
      says_one r.sfi (lines_before r c s h) text speaks.sfi
          (rmc_is_a_sentence r.talker (minimum r c s (e ∷ h) (moment_of e)) speaks.talker.len (capitals r.talker speaks.talker) (minimum_valid r c s (e ∷ h) (moment_of e))),
      tt,
    )
    by false = tt
