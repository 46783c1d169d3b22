-- A part, and parts that are put together, as one value each: its definitions, and what is promised of them. So where parts are put together, they
-- are listed once.
use Rattle.std.specs.Prelude.{◌≡◌, ℕ, List, [], Option, None}
use Rattle.std.proofs.Common.{refl}
use Rattle.gate_events.specs.Emit.{Emit}
use Rattle.history.specs.Entries.{Entry, History}
use Rattle.history.specs.Settings.{Settings}
use Rattle.parts.specs.Compose.{
  both_asked,
  both_datagrams,
  both_give,
  both_keep_commands,
  both_output,
  both_silent,
  both_speak,
  both_stand,
  both_tell,
  both_unsaid,
  maybe_datagrams,
  maybe_give,
  maybe_keep_commands,
  maybe_output,
  maybe_read,
  maybe_say,
  maybe_speaks,
  maybe_stand,
  maybe_unsaid,
}
use Rattle.parts.specs.declared.given.Given.{Given}
use Rattle.parts.specs.declared.streamed.Streamed.{Streamed}
use Rattle.parts.specs.Lanes.{
  LaneKept,
  given_output,
  given_plain,
  given_unsaid,
  given_utterances,
  lane_keeps_commands,
  lane_output,
  lane_stands,
  streamed_output,
  streamed_plain,
  streamed_unsaid,
  streamed_utterances,
}
use Rattle.parts.specs.PartSteps.{KeepsCommands}
use Rattle.plain_out.specs.Pace.{Utterance}
use Rattle.parts.specs.Utterances.{SaysDatagrams}
use Rattle.parts.specs.Voices.{IsRead, IsUnderstood, Spoken, both_say}
use Rattle.settings.specs.declared.setup.Setup.{Setup}

-- ---- a place for what a part gives: for frames and reports, and a datagram behind them; and one place behind another

pub record PlaceForm : Type 1 where
  pub kept : Type 0
  pub output : kept → List Emit
  pub plain : kept → List Emit
  -- its datagrams, each with its stream
  pub utterances : kept → List Utterance
  pub unsaid : (k : kept) → output k ≡ [] → utterances k ≡ []

abbrev pub place : ℕ → PlaceForm
place room = record { kept = Given room; output = given_output; plain = given_plain; utterances = given_utterances; unsaid = given_unsaid }

-- one whose datagram has a stream
abbrev pub streamed_place : ℕ → PlaceForm
streamed_place room = record { kept = Streamed room; output = streamed_output; plain = streamed_plain; utterances = streamed_utterances; unsaid = streamed_unsaid }

abbrev pub and_behind : PlaceForm → PlaceForm → PlaceForm
and_behind a b = record {
  kept = a.kept × b.kept;
  output = both_output a.output b.output;
  plain = both_output a.plain b.plain;
  utterances = both_output a.utterances b.utterances;
  unsaid = both_unsaid a.output b.output a.utterances b.utterances a.unsaid b.unsaid;
}

-- ---- a part

pub record PartForm : Type 1 where
  -- by what it is configured; by what, if a file asks for it; what it keeps; and the place for what it gives
  pub rule : Type 0
  pub asked : Setup → Option rule
  pub kept : Type 0
  pub places : PlaceForm
  pub stand : rule → Settings → ℕ → History → kept → Type 0
  -- what it gives at an entry, over everything that ever came
  pub give : rule → Settings → ℕ → History → Entry → List Emit
  -- its datagrams, each with its stream
  pub utter : rule → Settings → ℕ → History → Entry → List Utterance
  -- what of it is said on the network, and by which rules it can be understood
  pub say : rule → Settings → ℕ → History → Entry → Spoken
  pub speaks : rule → Settings → Type 0
  -- what is promised: a command is no event for it; a reader finds in its datagrams what is said; and valid files ask for rules that can be understood
  pub commands : KeepsCommands stand
  pub read : IsRead give speaks say
  pub understood : IsUnderstood asked (maybe_speaks speaks)
  pub datagrams : SaysDatagrams give utter

-- ---- parts that are put together

pub record Form : Type 1 where
  pub rule : Type 0
  -- by what a file asks for them; and if it asks for none of them
  pub asked : Setup → rule
  pub none : rule
  pub kept : Type 0
  pub stand : rule → Settings → ℕ → History → kept → Type 0
  pub give : rule → Settings → ℕ → History → Entry → List Emit
  -- what they gave at the last event, and the datagrams of it once more, as plain sentences
  pub output : kept → List Emit
  pub plain : kept → List Emit
  -- its datagrams, each with its stream
  pub utter : rule → Settings → ℕ → History → Entry → List Utterance
  pub utterances : kept → List Utterance
  pub unsaid : (k : kept) → output k ≡ [] → utterances k ≡ []
  pub say : rule → Settings → ℕ → History → Entry → Spoken
  pub speaks : rule → Settings → Type 0
  pub commands : KeepsCommands stand
  pub read : IsRead give speaks say
  pub understood : IsUnderstood asked speaks
  pub silent : (c : Settings) (s : ℕ) (h : History) (e : Entry) → give none c s h e ≡ []
  pub datagrams : SaysDatagrams give utter

-- none
abbrev pub nothing : Form
nothing = record {
  rule = Unit {0};
  asked = λ x. tt;
  none = tt;
  kept = Unit {0};
  stand = λ r c s h k. Unit {0};
  give = λ r c s h e. [];
  output = λ k. [];
  plain = λ k. [];
  utter = λ r c s h e. [];
  utterances = λ k. [];
  unsaid = λ k none. refl;
  say = λ r c s h e. [];
  speaks = λ r c. Unit {0};
  commands = λ r c s h source address k are is. tt;
  read = λ r c s h e can. tt;
  understood = λ x typed valid. tt;
  silent = λ c s h e. refl;
  datagrams = λ r c s h e. refl;
}

-- a part with its place, which is there exactly if it is asked for
abbrev pub lane : PartForm → Form
lane a = record {
  rule = Option a.rule;
  asked = a.asked;
  none = None;
  kept = Option (LaneKept a.kept a.places.kept);
  stand = maybe_stand (lane_stands a.stand);
  give = maybe_give a.give;
  output = maybe_output (lane_output a.places.output);
  plain = maybe_output (lane_output a.places.plain);
  utter = maybe_give a.utter;
  utterances = maybe_output (lane_output a.places.utterances);
  unsaid = maybe_unsaid (lane_output a.places.output) (lane_output a.places.utterances) (λ k none. a.places.unsaid k.place none);
  say = maybe_say a.say;
  speaks = maybe_speaks a.speaks;
  commands = maybe_keep_commands (lane_stands a.stand) (lane_keeps_commands a.stand a.commands);
  read = maybe_read a.give a.speaks a.say a.read;
  understood = a.understood;
  silent = λ c s h e. refl;
  datagrams = maybe_datagrams a.give a.utter a.datagrams;
}

-- some, and others behind them
abbrev pub both : Form → Form → Form
both a b = record {
  rule = a.rule × b.rule;
  asked = both_asked a.asked b.asked;
  none = (a.none, b.none);
  kept = a.kept × b.kept;
  stand = both_stand a.stand b.stand;
  give = both_give a.give b.give;
  output = both_output a.output b.output;
  plain = both_output a.plain b.plain;
  utter = both_give a.utter b.utter;
  utterances = both_output a.utterances b.utterances;
  unsaid = both_unsaid a.output b.output a.utterances b.utterances a.unsaid b.unsaid;
  say = both_tell a.say b.say;
  speaks = both_speak a.speaks b.speaks;
  commands = both_keep_commands a.stand b.stand a.commands b.commands;
  read = λ r c s h e can. both_say (a.give r.0 c s h e) (b.give r.1 c s h e) (a.say r.0 c s h e) (b.say r.1 c s h e) (a.read r.0 c s h e can.0) (b.read r.1 c s h e can.1);
  understood = λ x typed valid. (a.understood x typed valid, b.understood x typed valid);
  silent = both_silent a.give b.give a.none b.none a.silent b.silent;
  datagrams = both_datagrams a.give a.utter b.give b.utter a.datagrams b.datagrams;
}
