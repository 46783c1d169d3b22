-- What runs of the program give with a file that asks for no further part: what the gateway gives with its answers, RMC and the reports of ships
-- around.
use Rattle.std.specs.Prelude.{◌≡◌, ℕ, false, List, Option, Some, None, Ok}
use Rattle.gate_outside.specs.Link.{Outcome}
use Rattle.gate_config.specs.Alone.{FileAsksNothingFurther}
use Rattle.gate_config.specs.ConfigOf.{IsConfigOf}
use Rattle.settings.specs.Setup.{alone}
use Rattle.settings.specs.declared.settings.Settings.{Settings}
use Rattle.command_line.specs.Statuses.{EndsBy, IsStreamStatus}
use Rattle.serving.specs.Alone.{gateway_alone, out_alone}
use Rattle.serving.specs.BridgeSettings.{bridge_settings_of}
use Rattle.serving.specs.Served.{Outside}
use Rattle.serving.specs.Turns.{Item, due_by, due_of}
use Rattle.replaying.specs.Replayed.{emitted_text, replayed_by}
use Rattle.gateway_commands.specs.ReplayCommand.{ReplaysBy}
use Rattle.gateway_commands.specs.ServeCommand.{IsTurnsStatus, ServesBy, TakesTurns}

-- the text of the lines of a capture, by a definition that names no further part
abbrev pub replay_text_alone : Settings → List (List ℕ) → List ℕ
replay_text_alone x lines = emitted_text (replayed_by (gateway_alone x) (out_alone x) 1 None lines)

abbrev pub IsReplayAlone : Settings → List (List ℕ) → List ℕ → Type 0
IsReplayAlone x lines text = text ≡ replay_text_alone x lines

-- all that is to go out of turns, which record nothing, by such a definition
abbrev pub due_alone : Settings → List ℕ → List Outcome → List Outcome → List Item
due_alone x readings bus net = due_by (gateway_alone x) (out_alone x) false 1 None readings bus net

-- The file says these settings, and its document asks for no further part.
pub record SaysAlone (file : List ℕ) (x : Settings) : Type 0 where
  pub says : IsConfigOf file (Ok x)
  pub nothing_further : FileAsksNothingFurther file

-- Of a `run` of `replay`, whatever its input is and however it ends, once its gateway runs: what was written is this text, or a front of it.
abbrev pub ReplaysAlone : Type 0
ReplaysAlone =
    (file : List ℕ) (x : Settings) (files files' : ℕ) (left left' : Option (List ℕ)) (source source' : ℕ) (told told' : Option (List ℕ)) (sink sink' status : ℕ)
    → SaysAlone file x → ReplaysBy (Some file) files files' left left' source source' told told' sink sink' status → IsStreamStatus status
    → EndsBy (IsReplayAlone x) left left' told told' status

-- Of a `run` of `serve`, whatever comes over its links: the gateway that takes turns is one of these settings alone.
abbrev pub ServesAlone : Type 0
ServesAlone =
    (file : List ℕ) (x : Settings) (turns files files' : ℕ) (clock clock' : Option (List ℕ)) (bus bus' net net' : ℕ) (old new : Outside) (status : ℕ)
    → SaysAlone file x → ServesBy turns (Some file) files files' clock clock' bus bus' net net' old new status → IsTurnsStatus status
    → TakesTurns (alone x) turns clock clock' old new status

-- And of these turns all that is to go out is this.
abbrev pub TurnsAlone : Type 0
TurnsAlone =
    (x : Settings) (readings : List ℕ) (bus net : List Outcome) → due_of (bridge_settings_of (alone x)) readings bus net ≡ due_alone x readings bus net
