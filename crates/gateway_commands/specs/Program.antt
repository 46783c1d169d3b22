-- What the program says by its status of its words, of the files, of what its reader had left and of its links and its clock, whatever its writer
-- tells.
use Rattle.std.specs.Prelude.{◌≡◌, ◌↔◌, ℕ, List, Option, None}
use Rattle.gate_outside.specs.Link.{Traffic}
use Rattle.serving.specs.Served.{outside}
use Rattle.command_line.specs.declared.words.LineCommand.{LineCommand}
use Rattle.config_check.specs.Check.{ChecksBy}
use Rattle.gateway_commands.specs.DemoCommand.{DemosBy}
use Rattle.line_commands.specs.LineCommand.{AreTextsOf}
use Rattle.gateway_commands.specs.ReplayCommand.{ReplaysBy}
use Rattle.command_line.specs.declared.statuses.Status.TheVariants.{NoCommand}
use Rattle.command_line.specs.Statuses.{EndsBy, IsStatus, number}
use Rattle.gateway_commands.specs.ServeCommand.{ServesBy}
use Rattle.command_line.specs.Words.{AreNumbers, IsNoForm, IsTurns, line_words, check_words, replay_words, serve_words, demo_words}

-- what is told of two links and of a clock, and how often a call of each link failed
pub record Live : Type 0 where
  pub bus : Option Traffic
  pub bus_faults : ℕ
  pub net : Option Traffic
  pub net_faults : ℕ
  pub readings : Option (List ℕ)

abbrev pub live : Option Traffic → ℕ → Option Traffic → ℕ → Option (List ℕ) → Live
live bus bus_faults net net_faults readings = record { bus = bus; bus_faults = bus_faults; net = net; net_faults = net_faults; readings = readings }

pub record RunsOver (words : List (List ℕ)) (content : List ℕ → Option (List ℕ)) (files files' : ℕ) (left : Option (List ℕ)) (old new : Live) (status : ℕ) : Type 0 where
  pub known : IsStatus status
  pub usage : (status ≡ number NoCommand) ↔ IsNoForm words
  pub ends : (command : LineCommand) → words ≡ line_words command → (left' : Option (List ℕ)) × EndsBy (AreTextsOf command) left left' None None status
  pub checks : (file : List ℕ) → words ≡ check_words file → (sink sink' : ℕ) × ChecksBy (content file) files files' None None sink sink' status
  pub replays : (file : List ℕ) → words ≡ replay_words file
      → (left' : Option (List ℕ)) × (source source' sink sink' : ℕ) × ReplaysBy (content file) files files' left left' source source' None None sink sink' status
  pub serves : (turns : ℕ) (file second : List ℕ) → words ≡ serve_words file second → IsTurns turns second
      → (sink sink' : ℕ) × ServesBy turns (content file) files files' old.readings new.readings old.bus_faults new.bus_faults old.net_faults new.net_faults
      (outside old.bus old.net None sink) (outside new.bus new.net None sink') status
  pub demos : (seed count : ℕ) (first second : List ℕ) → words ≡ demo_words first second → AreNumbers seed count first second
      → (sink sink' : ℕ) × DemosBy seed count None None sink sink' status
