-- A file that asks for no further part says its settings alone, and so runs the gateway of these.
use Rattle.std.proofs.Common.{◌≡◌, ℕ, List, Some, None, Ok, refl, subst}
use Rattle.std.specs.Prelude.{Result, false}
use Rattle.gate_config.specs.ConfigOf.{IsWholeConfigOf}
use Rattle.gate_config.proofs.Alone.{files_say_settings}
use Rattle.config_check.specs.Configuring.{FileSays}
use Rattle.settings.specs.Setup.{alone}
use Rattle.settings.specs.declared.settings.Settings.{Settings}
use Rattle.settings.specs.declared.setup.Setup.{Setup}
use Rattle.command_line.specs.Statuses.{EndsBy}
use Rattle.serving.specs.Alone.{gateway_alone}
use Rattle.serving.specs.BridgeSettings.{bridge_settings_of}
use Rattle.serving.proofs.Alone.{steps_alone}
use Rattle.serving.specs.Turns.{due_by}
use Rattle.replaying.specs.Replayed.{IsReplay, emitted_text, replay_text, replayed_by}
use Rattle.gateway_commands.specs.Alone.{ReplaysAlone, SaysAlone, ServesAlone, TurnsAlone, replay_text_alone}
use Rattle.gateway_commands.specs.ServeCommand.{TakesTurns}

same_setup : {E : Type 0} (a b : Result Setup E) (x y : Setup) → a ≡ Ok x → b ≡ Ok y → a ≡ b → x ≡ y
same_setup a b x y is_a is_b same = cc

setup_is : (file : List ℕ) (x : Settings) (setup : Setup) → SaysAlone file x → FileSays (Some file) (Ok setup) → setup ≡ alone x
setup_is file x setup says file_says =
    same_setup (Ok setup) (Ok (alone x)) setup (alone x) refl refl
    (files_say_settings file (Ok setup) (Ok x) says.nothing_further
    (subst (λ (bytes : List ℕ). IsWholeConfigOf bytes (Ok setup)) (file_says.own file refl) file_says.says) says.says)

-- the two texts of a capture are one
texts_are : (x : Settings) → replay_text (bridge_settings_of (alone x)) ≡ replay_text_alone x
unfolding bridge_settings_of
texts_are x = λ i lines. emitted_text (replayed_by (gateway_alone x) (λ s h e. steps_alone x s h e i) 1 None lines)

pub replays_alone : ReplaysAlone
replays_alone file x files files' left left' source source' told told' sink sink' status says runs is =
    let r = runs.replays is in
    let ends = subst (λ (z : Setup). EndsBy (IsReplay (bridge_settings_of z)) left left' told told' status) (setup_is file x r.setup says r.file) r.ends in
    subst (λ (text_of : List (List ℕ) → List ℕ). EndsBy (λ lines text. text ≡ text_of lines) left left' told told' status) (texts_are x) ends

pub serves_alone : ServesAlone
serves_alone file x turns files files' clock clock' bus bus' net net' old new status says runs is =
    let r = runs.serves is in
    subst (λ (z : Setup). TakesTurns z turns clock clock' old new status) (setup_is file x r.0 says r.1) r.2

pub turns_alone : TurnsAlone
unfolding bridge_settings_of
turns_alone x readings bus net = λ i. due_by (gateway_alone x) (λ s h e. steps_alone x s h e i) false 1 None readings bus net
