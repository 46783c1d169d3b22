-- What is emitted of joined headings, over everything that ever came: one datagram for each magnetic heading that the gateway selects, each of whose
-- values is of one message. A true heading that is measured comes first: none is computed beside it.
use Rattle.std.specs.Prelude.{ℕ, ◌+◌, ℤ, Bool, not, List, [], ◌∷◌, ◌++◌, length, Option, Some, None, if◌then◌else◌}
use Rattle.report_rules.specs.Rules as rules
use Rattle.readings.specs.declared.reading.Reading.{Reading}
use Rattle.readings.specs.declared.reading.Reading.TheVariants as reading
use Rattle.readings.specs.declared.rows.Row.TheVariants as row
use Rattle.gate_events.specs.Emit.{Emit}
use Rattle.history.specs.Choice as rows
use Rattle.history.specs.Emits.{of_source}
use Rattle.history.specs.Entries.{Entry, History, moment_of}
use Rattle.history.specs.Messages.{Message}
use Rattle.history.specs.Settings.{Settings, rule_of}
use Rattle.plain_out.specs.Pace.{Utterance}
use Rattle.plain_out.specs.declared.stream.Stream.TheVariants as stream
use Rattle.parts.specs.Selected.{Selected, selected_at}
use Rattle.parts.specs.Utterances.{utters_of}
use Rattle.parts.specs.Voices.{Spoken}
use Rattle.joined_rmc.specs.Lasting.{lasting}
use Rattle.joined_rmc.specs.RmcOut.{variation_in}
use Rattle.bus_listener.specs.Heard.{heard_out}
use Rattle.counted_lines.specs.CountedLines.{posted_of, spoken_of}
use Rattle.joined_heading.specs.declared.magnetic.MagneticHeading.{MagneticHeading}
use Rattle.joined_heading.specs.HeadingRule.{HeadingRule}
use Rattle.joined_heading.specs.Sentences.{heading_texts}
use Rattle.joined_heading.specs.Variations.{is_short, kind_of, lasting_variation, variation_done}

-- ---- the magnetic heading that is selected, with its own deviation and variation

abbrev pub magnetic_of : Reading → Option MagneticHeading
magnetic_of (reading.HeadingMagnetic h d v) = Some (record { heading = h; deviation = d; variation = v })
magnetic_of _ = None

abbrev pub magnetic_in : Option Selected → Option MagneticHeading
magnetic_in None = None
magnetic_in (Some x) = magnetic_of x.reading

-- its own variation comes before that of another message
abbrev pub or_other : Option ℤ → Option ℤ → Option ℤ
or_other None other = other
or_other (Some own) other = Some own

-- ---- what is said of it, beside this variation of another message, while a true heading is measured or not

abbrev pub with_other : Option ℤ → MagneticHeading → MagneticHeading
with_other other a = record a { variation = or_other a.variation other }

abbrev pub texts_of : HeadingRule → Bool → Option ℤ → Option MagneticHeading → List (List ℕ)
texts_of x measured other None = []
texts_of x measured other (Some a) = heading_texts x.talker x.hdm (not measured) (with_other other a)

-- ---- rule 22

abbrev pub short_told : Message → List Emit
short_told d = if is_short d.payload then of_source rules.short_message d.source d.pgn ∷ [] else []

abbrev pub message_breaks : Option Message → List Emit
message_breaks None = []
message_breaks (Some d) = short_told d

-- ---- over all that came

-- a true heading is measured at a moment: the last message of the row that was selected is usable, its sender holds its address ever since, and it isn't
-- too old
abbrev pub is_measured : Settings → ℕ → History → ℕ → Bool
is_measured c s h m = rows.is_usable (lasting c s (rule_of c row.HeadingTrue).timeout row.HeadingTrue h m)

module _ (x : HeadingRule) (c : Settings) (s : ℕ) where
  abbrev pub texts_at : History → Entry → List (List ℕ)
  texts_at h e =
      texts_of x (is_measured c s (e ∷ h) (moment_of e)) (variation_in (lasting_variation x c s (e ∷ h) (moment_of e))) (magnetic_in (selected_at c s h e))

  -- how many lines were said in a history
  abbrev pub lines_said : History → ℕ
  lines_said [] = 0
  lines_said (e ∷ h) = lines_said h + length (texts_at h e)

  -- what is told of frames of PGN 127258, and the datagram
  abbrev pub heading_out : History → Entry → List Emit
  heading_out h e =
      heard_out kind_of 0 c s h e ++ (message_breaks (variation_done x c s h e) ++ posted_of x.group c.sfi (lines_said h) (texts_at h e))

-- joined headings are a stream
abbrev pub heading_utters : HeadingRule → Settings → ℕ → History → Entry → List Utterance
heading_utters = utters_of (Some stream.JoinedHeading) heading_out

-- ---- what is said on the network

abbrev pub heading_says : HeadingRule → Settings → ℕ → History → Entry → Spoken
heading_says x c s h e = spoken_of (texts_at x c s h e)
