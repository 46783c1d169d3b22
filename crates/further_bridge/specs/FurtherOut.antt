-- What is emitted of further quantities, as a definition over all that came: messages of the parameter groups of their table are heard (single
-- frames and fast packets, canboat) of devices that hold their address (ISO 11783-5). A message gives a value of each quantity that it meets, and
-- a value of the best source of its quantity that is fresh is said in one sentence (IEC 61162-1) in one datagram (IEC 61162-450).
use Rattle.std.specs.Prelude.{ℕ, ◌+◌, Bool, false, not, ◌&&◌, ◌==◌, List, [], ◌∷◌, ◌++◌, filter, length, slice_get, Option, Some, None, if◌then◌else◌}
use Rattle.report_rules.specs.Rules as rules
use Rattle.readings.specs.Numbers.{bits_of}
use Rattle.readings.specs.declared.rows.Row.TheVariants as row
use Rattle.gate_events.specs.Emit.{Emit, net}
use Rattle.datagram450.specs.Datagram.{sentence_datagram}
use Rattle.quantities.specs.About.{number_of}
use Rattle.quantities.specs.Saying.{is_usable, sentence_of}
use Rattle.quantities.specs.Told.{kind_of, told}
use Rattle.quantities.specs.declared.about.Quantity.TheVariants as quantity
use Rattle.quantities.specs.declared.value.Told.{Told}
use Rattle.quantities.specs.declared.value.Told.TheVariants as says
use Rattle.quantities.specs.declared.value.Value.{Value}
use Rattle.source_choice.specs.declared.told.Told.{Told as Chosen}
use Rattle.claim_table.specs.declared.answer.Holder.{Holder}
use Rattle.history.specs.Choice as rows
use Rattle.history.specs.Emits.{of_source}
use Rattle.history.specs.Entries.{Entry, History, moment_of}
use Rattle.history.specs.Known.{known}
use Rattle.history.specs.Messages.{Message, messages_of}
use Rattle.history.specs.Settings.{Receiver, Settings, rule_of}
use Rattle.history.specs.Subjects.{is_chosen}
use Rattle.plain_out.specs.Pace.{Utterance}
use Rattle.plain_out.specs.Streams.{quantity_stream}
use Rattle.joined_rmc.specs.Lasting.{lasting}
use Rattle.bus_listener.specs.Heard.{heard_done, heard_out, listener}
use Rattle.bus_listener.specs.Kinds.{is_told}
use Rattle.further_bridge.specs.FurtherRule.{FurtherRule, rule_at, talker_at}

-- ---- what a message says of the quantities

abbrev pub all_in : Told → List (Option Value)
all_in (says.Values values) = values
all_in says.Outside = []
all_in says.Short = []

abbrev pub that_are_there : List (Option Value) → List Value
that_are_there [] = []
that_are_there (None ∷ values) = that_are_there values
that_are_there (Some v ∷ values) = v ∷ that_are_there values

-- its values, in the order of the quantities
abbrev pub values_of : Message → List Value
values_of d = that_are_there (all_in (told d.pgn d.payload))

abbrev pub number_in : Value → ℕ
number_in v = number_of v.quantity

-- ---- whose value is said: each quantity has a choice of its own, of which it is the one subject

abbrev pub told_by : Value → Chosen
told_by v = record { subject = 0; usable = is_usable v }

abbrev pub told_among : ℕ → List Value → Option Chosen
told_among number [] = None
told_among number (v ∷ values) = if number_in v == number then Some (told_by v) else told_among number values

-- what a message tells of a quantity, by its number
abbrev pub quantity_told : ℕ → Message → Option Chosen
quantity_told number d = told_among number (values_of d)

module _ (x : FurtherRule) (holders : List (Option Holder)) (older : List Message) (d : Message) where
  abbrev pub is_selected : Value → Bool
  is_selected v = is_chosen (quantity_told (number_in v)) (λ subject. rule_at x (number_in v)) holders older d (told_by v)

  -- the values of a message that are selected among those before it
  abbrev pub selected : List Value
  selected = filter is_selected (values_of d)

-- ---- the sea's temperature has one voice: it isn't said while the row is

abbrev pub is_of_sea : Value → Bool
is_of_sea v = number_in v == number_of quantity.SeaTemperature

-- the last message of the row that was selected is usable, its sender holds its address ever since, and it isn't too old at this moment
abbrev pub is_row_said : Settings → ℕ → History → ℕ → Bool
is_row_said c s h m = rows.is_usable (lasting c s (rule_of c row.WaterTemperature).timeout row.WaterTemperature h m)

abbrev pub has_voice : Bool → Value → Bool
has_voice row_said v = not (is_of_sea v && row_said)

-- ---- values that are said: each in one sentence in one datagram, before the first of which so many lines were said

unfoldable pub value_datagram : Bool → List ℕ → List ℕ → ℕ → Value → List ℕ
value_datagram twin sfi talker before v = sentence_datagram sfi before (sentence_of twin talker v)

abbrev pub said_gives : FurtherRule → List ℕ → ℕ → List Value → List Emit
said_gives x sfi before [] = []
said_gives x sfi before (v ∷ values) = net x.group (value_datagram x.twin sfi (talker_at x (number_in v)) before v) ∷ said_gives x sfi (before + 1) values

-- ---- the stream of a value that is said, by which plain sentences pause: a message speaks of directions from magnetic north where its bits say so

abbrev pub magnetic_byte : Option ℕ → Bool
magnetic_byte None = false
magnetic_byte (Some byte) = bits_of byte 0 2 == 1

abbrev pub is_magnetic : List ℕ → Bool
is_magnetic payload = magnetic_byte (slice_get payload 1)

abbrev pub magnetic_in : Option Message → Bool
magnetic_in None = false
magnetic_in (Some d) = is_magnetic d.payload

-- each value with its stream
abbrev pub said_utters : FurtherRule → Bool → List ℕ → ℕ → List Value → List Utterance
said_utters x magnetic sfi before [] = []
said_utters x magnetic sfi before (v ∷ values) =
    record { stream = Some (quantity_stream v.quantity magnetic); datagram = value_datagram x.twin sfi (talker_at x (number_in v)) before v }
    ∷ said_utters x magnetic sfi (before + 1) values

-- ---- rule 22, for a message that is too short; the gateway tells that of its own messages

abbrev pub short_gives : ℕ → ℕ → Told → List Emit
short_gives source pgn (says.Values values) = []
short_gives source pgn says.Outside = []
short_gives source pgn says.Short = if is_told pgn then of_source rules.short_message source pgn ∷ [] else []

abbrev pub message_breaks : Option Message → List Emit
message_breaks None = []
message_breaks (Some d) = short_gives d.source d.pgn (told d.pgn d.payload)

-- ---- over all that came

-- the bus as it is heard of these quantities
abbrev pub further_receiver : FurtherRule → Settings → Receiver
further_receiver x c = listener kind_of x.slots c

module _ (x : FurtherRule) (c : Settings) (s : ℕ) where
  -- the message that an entry completes
  abbrev pub further_done : History → Entry → Option Message
  further_done h e = heard_done kind_of x.slots c s h e

  abbrev pub selected_in : History → Option Message → List Value
  selected_in h None = []
  selected_in h (Some d) = let r = further_receiver x c in selected x (known r s h).claims.holders (messages_of r s h) d

  -- what it says: of what is selected all that has a voice
  abbrev pub said_at : History → Entry → List Value
  said_at h e = filter (has_voice (is_row_said c s (e ∷ h) (moment_of e))) (selected_in h (further_done h e))

  -- how many lines were said in a history
  abbrev pub lines_said : History → ℕ
  lines_said [] = 0
  lines_said (e ∷ h) = lines_said h + length (said_at h e)

  -- what is told of frames, what of the message that is complete, and its datagrams; a command gives nothing
  abbrev pub further_out : History → Entry → List Emit
  further_out h e =
      heard_out kind_of x.slots c s h e
      ++ (message_breaks (further_done h e) ++ said_gives x c.sfi (lines_said h) (said_at h e))

  -- its datagrams, each with its stream
  abbrev pub further_utters : History → Entry → List Utterance
  further_utters h e = said_utters x (magnetic_in (further_done h e)) c.sfi (lines_said h) (said_at h e)
