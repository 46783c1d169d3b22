-- What is kept of further quantities, as plain values, and what an event makes of it and gives. Nothing here speaks of what came before.
use Rattle.std.specs.Prelude.{ℕ, ◌+◌, ◌%◌, Bool, ◌&&◌, List, [], ◌∷◌, ◌++◌, map, slice_get, unwrap_or, Option, Some, None, option_map, if◌then◌else◌}
use Rattle.slot_views.specs.Slots.{SlotMap}
use Rattle.fast_packet.specs.declared.key.FastKey.{FastKey}
use Rattle.n2k_id.specs.declared.name.Name.{Name}
use Rattle.readings.specs.declared.rows.Row.TheVariants as row
use Rattle.gate_events.specs.Emit.{Emit}
use Rattle.tag_block.specs.Tag.{most_count}
use Rattle.claim_table.specs.Claims.{places}
use Rattle.quantities.specs.Saying.{is_usable}
use Rattle.quantities.specs.Told.{kind_of, told}
use Rattle.quantities.specs.declared.value.Told.{Told}
use Rattle.quantities.specs.declared.value.Told.TheVariants as says
use Rattle.quantities.specs.declared.value.Value.{Value}
use Rattle.source_choice.specs.declared.rank.Rank.{Rank}
use Rattle.source_choice.specs.declared.told.Told.{Told as Chosen}
use Rattle.source_choice.specs.Choices.{Choices, opened}
use Rattle.source_choice.specs.SubjectRules.{rank_of}
use Rattle.history.specs.Choice as rows
use Rattle.history.specs.Entries.{Entry}
use Rattle.gate_model.specs.Addresses.{Changed}
use Rattle.gate_model.specs.AddressStands.{name_held}
use Rattle.gate_model.specs.Choosing.{is_ranked_chosen, ranked_after}
use Rattle.gate_model.specs.Machine.{Machine}
use Rattle.gate_model.specs.Said.{Complete}
use Rattle.gate_outbox.specs.Output.{Emitted, emits_of, no_emits}
use Rattle.plain_out.specs.Pace.{Utterance, uttered}
use Rattle.plain_out.specs.Streams.{quantity_stream}
use Rattle.plain_out.specs.declared.stream.Stream.{Stream}
use Rattle.parts.specs.SelectedMessage.{SelectedMessage}
use Rattle.joined_rmc.specs.declared.last_of_row.LastOfRow.{LastOfRow}
use Rattle.joined_rmc.specs.Kept.{in_last, last_after, none_yet}
use Rattle.bus_listener.specs.Kept.{Hearing}
use Rattle.bus_listener.specs.Noting.{forgotten_of, has_place}
use Rattle.bus_listener.specs.Promises as listening
use Rattle.further_bridge.specs.declared.said.Said.{Said}
use Rattle.further_bridge.specs.declared.said.Streams.{Streams}
use Rattle.further_bridge.specs.FurtherOut.{has_voice, is_magnetic, number_in, said_gives, short_gives}
use Rattle.further_bridge.specs.FurtherRule.{FurtherRule, rule_at}

pub record FurtherKept : Type 0 where
  pub rule : FurtherRule
  -- the system function identifier by which the gateway speaks
  pub sfi : List ℕ
  -- the fast packets in the making
  pub slots : SlotMap FastKey
  -- of each quantity what each source said last, where a source is an address of the bus
  pub choices : Choices
  -- what the gateway said last of the water's temperature
  pub water : LastOfRow
  -- how many lines were said, modulo the greatest count
  pub lines : ℕ

abbrev pub further_opened : FurtherRule → List ℕ → ℕ → FurtherKept
further_opened x sfi timeout = record {
  rule = x;
  sfi = sfi;
  slots = record { limit = x.slots; entries = [] };
  choices = opened places (map (λ rule. rule.timeout) x.rules);
  water = none_yet timeout;
  lines = 0;
}

-- the most that an event tells: of each of 256 messages in the making once, of a frame twice, and of the message that is complete once
abbrev pub most_told : ℕ
most_told = 259

-- ---- a message that is complete, with what it says

abbrev pub said_of : Complete → Said
said_of d = record { moment = d.moment; source = d.source; name = record { 0 = d.name }; pgn = d.pgn; told = told d.pgn d.payload; magnetic = is_magnetic d.payload }

-- a line more was said
abbrev pub counted : FurtherKept → FurtherKept
counted k = record k { lines = (k.lines + 1) % most_count }

-- a value tells of its quantity, by number
abbrev pub numbered : Value → Chosen
numbered v = record { subject = number_in v; usable = is_usable v }

-- whether the gateway says the water's temperature itself at a moment
abbrev pub is_water_said : LastOfRow → ℕ → Bool
is_water_said water m = rows.is_usable (in_last m water)

-- what a value leaves, and its datagram
pub record ValueStep : Type 0 where
  pub after : FurtherKept
  pub posted : List Emit

module _ (k : FurtherKept) (d : Said) where
  -- a value is noted where its sender has a rank in the quantity, and said where it is selected and has a voice
  abbrev pub ranked_step : Value → Option Rank → ValueStep
  ranked_step v rank =
      let noted : FurtherKept = record k { choices = ranked_after k.choices d.source d.moment rank (numbered v) } in
      if is_ranked_chosen k.choices d.source d.moment rank (numbered v) && has_voice (is_water_said k.water d.moment) v
      then record { after = counted noted; posted = said_gives k.rule k.sfi k.lines (v ∷ []) }
      else record { after = noted; posted = [] }

  abbrev pub value_step : Option Value → ValueStep
  value_step None = record { after = k; posted = [] }
  value_step (Some v) = ranked_step v (rank_of (rule_at k.rule (number_in v)) d.name.0)

-- what an event leaves and gives: what is told, with the datagram of a message's first value, and those of its second and third
pub record FurtherStep : Type 0 where
  pub after : FurtherKept
  pub emits : Emitted
  pub second : List Emit
  pub third : List Emit

abbrev pub given_by : FurtherStep → List Emit
given_by x = emits_of x.emits ++ (x.second ++ x.third)

abbrev pub as_it_was : FurtherKept → FurtherStep
as_it_was k = record { after = k; emits = no_emits; second = []; third = [] }

-- behind what was told before
abbrev pub behind : List Emit → FurtherStep → FurtherStep
behind told x = record x { emits = record { told = told ++ x.emits.told; posted = x.emits.posted } }

abbrev pub value_in : List (Option Value) → ℕ → Option Value
value_in values place = unwrap_or (slice_get values place) None

-- the values of a message, one after another
abbrev pub values_step : FurtherKept → Said → List (Option Value) → FurtherStep
values_step k d values =
    let a = value_step k d (value_in values 0) in
    let b = value_step a.after d (value_in values 1) in
    let c = value_step b.after d (value_in values 2) in
    record { after = c.after; emits = record { told = []; posted = a.posted }; second = b.posted; third = c.posted }

abbrev pub told_step : FurtherKept → Said → Told → FurtherStep
told_step k d (says.Values values) = values_step k d values
told_step k d says.Outside = as_it_was k
told_step k d says.Short = record (as_it_was k) { emits = record { told = short_gives d.source d.pgn says.Short; posted = [] } }

-- ---- the streams of a message's values, at their places

abbrev pub no_streams : Streams
no_streams = record { first = None; second = None; third = None }

abbrev pub value_stream : Bool → Option Value → Option Stream
value_stream magnetic None = None
value_stream magnetic (Some v) = Some (quantity_stream v.quantity magnetic)

abbrev pub told_streams : Bool → Told → Streams
told_streams magnetic (says.Values values) = record {
  first = value_stream magnetic (value_in values 0);
  second = value_stream magnetic (value_in values 1);
  third = value_stream magnetic (value_in values 2);
}
told_streams magnetic says.Outside = no_streams
told_streams magnetic says.Short = no_streams

abbrev pub streams_of : Option Said → Streams
streams_of None = no_streams
streams_of (Some d) = told_streams d.magnetic d.told

-- where they are told: an event that can't complete a message has none
abbrev pub streams_in : Option Streams → Streams
streams_in None = no_streams
streams_in (Some streams) = streams

-- the datagrams that are given, each with its stream
abbrev pub uttered_by : Streams → FurtherStep → List Utterance
uttered_by streams x = uttered streams.first (emits_of x.emits) ++ (uttered streams.second x.second ++ uttered streams.third x.third)

-- ---- a message, or none

abbrev pub message_step : FurtherKept → Option Said → FurtherStep
message_step k None = as_it_was k
message_step k (Some d) = if has_place d.source then told_step k d d.told else as_it_was k

-- ---- addresses that change hands: nothing is noted any more of the one that was left and the one that was won

abbrev pub given_up : Changed → FurtherKept → FurtherKept
given_up changed k = record k { choices = forgotten_of changed k.choices }

-- ---- the message that the gateway itself selected, while these hold the addresses

abbrev pub water_heard : (ℕ → Option Name) → Option SelectedMessage → FurtherKept → FurtherKept
water_heard holder new k = record k { water = last_after holder row.WaterTemperature new k.water }

-- ---- an event that the gateway has taken

abbrev pub hearing_by : Machine → FurtherKept → Entry → Hearing
hearing_by gateway k e = listening.step_by kind_of gateway k.slots e

-- it follows the gateway, which selected this message
abbrev pub followed : Machine → Option SelectedMessage → FurtherKept → FurtherKept
followed gateway new k = water_heard (name_held gateway.addresses.claims.holders) new (given_up gateway.addresses.changed k)

abbrev pub with_hearing : Machine → Option SelectedMessage → FurtherKept → Hearing → FurtherStep
with_hearing gateway new k x = behind x.told (message_step (followed gateway new (record k { slots = x.slots })) (option_map said_of x.message))

abbrev pub step_by : Machine → Option SelectedMessage → FurtherKept → Entry → FurtherStep
step_by gateway new k e = with_hearing gateway new k (hearing_by gateway k e)
