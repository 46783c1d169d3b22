-- A run of `serve` that is recorded, and a run of `replay` that is given the recording.
use Rattle.std.specs.Prelude.{◌≡◌, ℕ, true, List, ◌++◌, length, Some, Ok}
use Rattle.std.specs.List.{flat_map, slice_split}
use Rattle.capture_text.specs.Lines.{front, is_lf}
use Rattle.capture_stream.specs.Progress.{with_lf}
use Rattle.gate_outside.specs.Link.{Traffic}
use Rattle.settings.specs.declared.setup.Setup.{Setup}
use Rattle.gate_config.specs.ConfigOf.{IsWholeConfigOf}
use Rattle.command_line.specs.declared.statuses.Status.TheVariants.{Done}
use Rattle.command_line.specs.Statuses.{number}
use Rattle.gateway_commands.specs.BridgeSettings.{bridge_settings_of}
use Rattle.gateway_commands.specs.Recorded.{made_in}
use Rattle.gateway_commands.specs.Served.{Passed, all_due, outside, over_bus, over_net, to_text}
use Rattle.gateway_commands.specs.Turns.{due_of}
use Rattle.gateway_commands.specs.Replayed.{emitted_text}
use Rattle.recordings.specs.Laws.{AreEarly}
use Rattle.recordings.specs.Separation.{without_rules}
use Rattle.gateway_commands.specs.ReplayCommand.{ReplaysBy}
use Rattle.gateway_commands.specs.ServeCommand.{ServesBy, bus_attachment, net_attachment}

-- ---- the recording in what was written

-- the lines of a text, each up to its LF
abbrev pub lines_in : List ℕ → List (List ℕ)
lines_in text = front (slice_split is_lf text)

-- those whose second word isn't `rule`
abbrev pub recording_in : List ℕ → List ℕ
recording_in text = flat_map with_lf (without_rules (lines_in text))

-- ---- the runs

-- What is told of a run of `serve`: of its file the bytes; the turns that were asked for; the clock's readings before it, and its own; what each
-- link told before it and after it; what the sink took before it, and what the run wrote.
pub record ServeRun : Type 0 where
  pub file : List ℕ
  pub turns : ℕ
  pub earlier : List ℕ
  pub readings : List ℕ
  pub bus : Traffic
  pub bus_after : Traffic
  pub net : Traffic
  pub net_after : Traffic
  pub before : List ℕ
  pub text : List ℕ

-- it ended with status 0, of which the top call says this, whatever the counts of faults were
abbrev pub IsServed : ServeRun → Type 0
IsServed r =
    (files files' bus bus' net net' sink sink' : ℕ)
    × ServesBy r.turns (Some r.file) files files' (Some r.earlier) (Some (r.earlier ++ r.readings)) bus bus' net net'
    (outside (Some r.bus) (Some r.net) (Some r.before) sink) (outside (Some r.bus_after) (Some r.net_after) (Some (r.before ++ r.text)) sink') (number Done)

-- a run of `replay` with this file was given this input, ended with status 0 and wrote this text
abbrev pub IsReplayed : List ℕ → List ℕ → List ℕ → Type 0
IsReplayed file input text =
    (files files' source source' sink sink' : ℕ) × (left before : List ℕ)
    × ReplaysBy (Some file) files files' (Some input) (Some left) source source' (Some before) (Some (before ++ text)) sink sink' (number Done)

-- the file is accepted, says this and asks for a recording
pub record Asks (file : List ℕ) (setup : Setup) : Type 0 where
  pub says : IsWholeConfigOf file (Ok setup)
  pub records : setup.«record» ≡ true

-- ---- the law

-- By what came over the links these items were due in the run, each turn by one reading and one outcome of each link, and all went out. The text
-- has all that the gateway made among them, as it was due.
pub record GivesItems (r : ServeRun) (setup : Setup) (text : List ℕ) : Type 0 where
  pub passed : Passed
  pub is_run : all_due passed.tried ≡ due_of (bridge_settings_of setup) r.readings passed.from_bus passed.from_net
  pub each_reading : length r.readings ≡ r.turns
  pub each_bus : length passed.from_bus ≡ r.turns
  pub each_net : length passed.from_net ≡ r.turns
  pub bus : r.bus_after ≡ over_bus passed (record r.bus { attached = Some (bus_attachment setup.settings.config.ends) })
  pub net : r.net_after ≡ over_net passed (record r.net { attached = Some (net_attachment setup.settings.config.ends) })
  pub written : r.text ≡ flat_map to_text passed.tried
  pub again : text ≡ emitted_text (made_in (all_due passed.tried))

abbrev pub RecordedRunsReplay : Type 0
RecordedRunsReplay =
    (r : ServeRun) (setup : Setup) → Asks r.file setup → IsServed r → AreEarly r.readings
    → (text : List ℕ) → IsReplayed r.file (recording_in r.text) text → GivesItems r setup text
