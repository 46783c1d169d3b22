-- What is kept of joined headings, as plain values, and what an event makes of it and gives. Nothing here speaks of what came before.
use Rattle.std.specs.Prelude.{ℕ, ◌+◌, ◌%◌, Bool, List, [], ◌∷◌, ◌++◌, length, Option, Some, None, option_map, if◌then◌else◌}
use Rattle.slot_views.specs.Slots.{SlotMap}
use Rattle.fast_packet.specs.declared.key.FastKey.{FastKey}
use Rattle.n2k_id.specs.declared.name.Name.{Name}
use Rattle.report_rules.specs.Rules as rules
use Rattle.readings.specs.declared.rows.Row.TheVariants as row
use Rattle.gate_events.specs.Emit.{Emit}
use Rattle.tag_block.specs.Tag.{most_count}
use Rattle.claim_table.specs.Claims.{places}
use Rattle.source_choice.specs.declared.rank.Rank.{Rank}
use Rattle.source_choice.specs.Choices.{Choices, opened}
use Rattle.source_choice.specs.SubjectRules.{rank_of}
use Rattle.history.specs.Choice as rows
use Rattle.history.specs.Emits.{of_source}
use Rattle.history.specs.Entries.{Entry}
use Rattle.gate_model.specs.Addresses.{Changed}
use Rattle.gate_model.specs.AddressStands.{name_held}
use Rattle.gate_model.specs.Choosing.{is_ranked_chosen, ranked_after}
use Rattle.gate_model.specs.Machine.{Machine}
use Rattle.gate_model.specs.Said.{Complete}
use Rattle.gate_outbox.specs.Output.{Emitted}
use Rattle.parts.specs.SelectedMessage.{SelectedMessage}
use Rattle.joined_rmc.specs.declared.last_of_row.LastOfRow.{LastOfRow}
use Rattle.joined_rmc.specs.Kept.{in_last, last_held, last_with, none_yet}
use Rattle.joined_rmc.specs.RmcOut.{variation_in}
use Rattle.bus_listener.specs.Kept.{Hearing}
use Rattle.bus_listener.specs.Noting.{forgotten_of, has_place}
use Rattle.bus_listener.specs.Promises as listening
use Rattle.counted_lines.specs.CountedLines.{posted_of}
use Rattle.joined_heading.specs.declared.said.Said.{Said}
use Rattle.joined_heading.specs.declared.magnetic.MagneticHeading.{MagneticHeading}
use Rattle.joined_heading.specs.HeadingOut.{magnetic_of, texts_of}
use Rattle.joined_heading.specs.HeadingRule.{HeadingRule}
use Rattle.joined_heading.specs.Variations.{is_short, kind_of, told_by, variation_alone, variation_of}

pub record HeadingKept : Type 0 where
  pub rule : HeadingRule
  -- the system function identifier by which the gateway speaks
  pub sfi : List ℕ
  -- no fast packet is heard
  pub slots : SlotMap FastKey
  -- what each source said last of the variation, where a source is an address of the bus
  pub choices : Choices
  -- the last variation that was selected, and the last true heading
  pub variation : LastOfRow
  pub measured : LastOfRow
  -- how many lines were said, modulo the greatest count
  pub lines : ℕ

-- where a true heading counts so many milliseconds
abbrev pub heading_opened : HeadingRule → List ℕ → ℕ → HeadingKept
heading_opened x sfi timeout = record {
  rule = x;
  sfi = sfi;
  slots = record { limit = 0; entries = [] };
  choices = opened places (x.taken.timeout ∷ []);
  variation = none_yet x.taken.timeout;
  measured = none_yet timeout;
  lines = 0;
}

-- the most that an event tells: of a frame twice, and of the message that it completes once
abbrev pub most_told : ℕ
most_told = 3

-- ---- a message of the variation

abbrev pub said_of : Complete → Said
said_of d = record { moment = d.moment; source = d.source; name = record { 0 = d.name }; pgn = d.pgn; short = is_short d.payload; variation = variation_of d.payload }

abbrev pub message_in : Said → SelectedMessage
message_in d = record { source = d.source; name = d.name; moment = d.moment; reading = variation_alone d.variation }

-- it is noted where its sender has a rank, and kept where it is selected
abbrev pub ranked_step : HeadingKept → Said → Option Rank → HeadingKept
ranked_step k d rank =
    let noted : HeadingKept = record k { choices = ranked_after k.choices d.source d.moment rank (told_by d.variation) } in
    if is_ranked_chosen k.choices d.source d.moment rank (told_by d.variation)
    then record noted { variation = last_with row.HeadingMagnetic (Some (message_in d)) k.variation } else noted

-- what it leaves, and what is told of it
pub record MessageStep : Type 0 where
  pub after : HeadingKept
  pub told : List Emit

abbrev pub said_step : HeadingKept → Said → MessageStep
said_step k d =
    if d.short then record { after = k; told = of_source rules.short_message d.source d.pgn ∷ [] }
    else record { after = ranked_step k d (rank_of k.rule.taken d.name.0); told = [] }

abbrev pub message_step : HeadingKept → Option Said → MessageStep
message_step k None = record { after = k; told = [] }
message_step k (Some d) = if has_place d.source then said_step k d else record { after = k; told = [] }

-- ---- addresses that change hands: what was said of the one that was left and the one that was won is forgotten

abbrev pub given_up : (ℕ → Option Name) → Changed → HeadingKept → HeadingKept
given_up holder changed k = record k {
  choices = forgotten_of changed k.choices;
  variation = last_held holder k.variation;
  measured = last_held holder k.measured;
}

-- ---- the message that the gateway itself selected

abbrev pub measured_with : Option SelectedMessage → HeadingKept → HeadingKept
measured_with new k = record k { measured = last_with row.HeadingTrue new k.measured }

abbrev pub magnetic_said : Option SelectedMessage → Option MagneticHeading
magnetic_said None = None
magnetic_said (Some message) = magnetic_of message.reading

abbrev pub texts_in : HeadingKept → ℕ → Option MagneticHeading → List (List ℕ)
texts_in k m magnetic = texts_of k.rule (rows.is_usable (in_last m k.measured)) (variation_in (in_last m k.variation)) magnetic

-- so many lines more were said
abbrev pub counted : ℕ → HeadingKept → HeadingKept
counted lines k = record k { lines = (k.lines + lines) % most_count }

pub record HeadingStep : Type 0 where
  pub after : HeadingKept
  pub posted : List Emit

abbrev pub said_by : HeadingKept → List (List ℕ) → HeadingStep
said_by k [] = record { after = k; posted = [] }
said_by k (text ∷ texts) = record {
  after = counted (length (text ∷ texts)) k;
  posted = posted_of k.rule.group k.sfi k.lines (text ∷ texts);
}

abbrev pub saying_step : HeadingKept → ℕ → Option MagneticHeading → HeadingStep
saying_step k m magnetic = said_by k (texts_in k m magnetic)

abbrev pub selected_step : HeadingKept → ℕ → Option SelectedMessage → HeadingStep
selected_step k m new = saying_step (measured_with new k) m (magnetic_said new)

-- ---- an event that the gateway has taken

abbrev pub hearing_by : Machine → HeadingKept → Entry → Hearing
hearing_by gateway k e = listening.step_by kind_of gateway k.slots e

abbrev pub heard_step : Machine → HeadingKept → Hearing → MessageStep
heard_step gateway k x =
    message_step (given_up (name_held gateway.addresses.claims.holders) gateway.addresses.changed (record k { slots = x.slots })) (option_map said_of x.message)

abbrev pub told_in : Machine → HeadingKept → Hearing → List Emit
told_in gateway k x = x.told ++ (heard_step gateway k x).told

abbrev pub with_hearing : Machine → Option SelectedMessage → HeadingKept → Hearing → HeadingStep
with_hearing gateway new k x = selected_step (heard_step gateway k x).after gateway.moment new

abbrev pub step_by : Machine → Option SelectedMessage → HeadingKept → Entry → HeadingStep
step_by gateway new k e = with_hearing gateway new k (hearing_by gateway k e)

-- what an event leaves to be emitted
abbrev pub left_by : Machine → Option SelectedMessage → HeadingKept → Entry → Emitted
left_by gateway new k e = record { told = told_in gateway k (hearing_by gateway k e); posted = (step_by gateway new k e).posted }
