-- What the calls that answer a line of a capture send, and what they make of the bridge, whatever came before.
use Rattle.std.specs.Prelude.{◌≡◌, ℕ, true, false, List, [], ◌++◌, take, drop, Option, Result}
use Rattle.gate_outside.specs.Faults.{HasCause}
use Rattle.capture_stream.specs.Writer.{Writes}
use Rattle.capture_text.specs.declared.line_rule.LineRule.{LineRule}
use Rattle.gate_events.specs.Event.{Seen}
use Rattle.history.specs.Emits.{at}
use Rattle.bridge.specs.BridgeStands.{IsStart}
use Rattle.bridge.specs.Kept.{Bridged, output_at, output_of}
use Rattle.bridge.specs.BridgeSettings.{BridgeSettings}
use Rattle.bridge.specs.Running.{Running, RunningStands}
use Rattle.replaying.specs.declared.replay.Replay.{Replay}
use Rattle.replaying.specs.Replayed.{Replayed, emitted_text, with_read}

-- a text waits behind what waited, or some of both was written and the count of faults says why not all
pub record IsSent {E : Type 0} (told : Option (List ℕ)) (faults : ℕ) (waiting text : List ℕ) (told' : Option (List ℕ)) (faults' : ℕ) (waiting' : List ℕ)
    (result : Result (Unit {0}) E) : Type 0 where
  pub writes : Writes told told' (waiting ++ text) waiting' result
  pub cause : HasCause faults faults' result

-- behind whatever was sent before, this is sent too; where that failed, nothing is
abbrev pub SendsThen : {E : Type 0} → List ℕ → Option (List ℕ) → ℕ → List ℕ → Result (Unit {0}) E → Option (List ℕ) → ℕ → List ℕ → Result (Unit {0}) E → Type 0
SendsThen text told' faults' waiting' sent told'' faults'' waiting'' result =
    (told : Option (List ℕ)) (faults : ℕ) (waiting before : List ℕ) → IsSent told faults waiting before told' faults' waiting' sent
    → IsSent told faults waiting (before ++ text) told'' faults'' waiting'' result

-- the lines of all that a call left, at this moment
abbrev pub output_text : ℕ → Bridged → List ℕ
output_text m b = emitted_text (output_at m b)

-- the line of the emit at a place, and nothing beyond the list
abbrev pub line_at : ℕ → ℕ → Bridged → List ℕ
line_at m place b = emitted_text (at m (take 1 (drop place (output_of b))))

-- the first event starts the gateway
pub record IsOpening (m : ℕ) (before : Bridged) (text : List ℕ) (after : Bridged) : Type 0 where
  pub started : after.started ≡ true
  pub later : before.started ≡ true → (text ≡ []) × (after ≡ before)
  pub first : before.started ≡ false → (text ≡ output_text m after) × IsStart m before after

-- ---- a line of a capture

pub record IsReplayed (p : BridgeSettings) (x : Replayed) (text : List ℕ) (after : Bridged) : Type 0 where
  pub text_is : text ≡ emitted_text x.emits
  pub stands : RunningStands p x.after after

abbrev pub GivesReplay : Bridged → ℕ → Result Seen LineRule → List ℕ → Bridged → Type 0
GivesReplay before number said text after =
    (p : BridgeSettings) (g : Option Running) → RunningStands p g before → IsReplayed p (with_read p number g said) text after

-- the bridge is lent
abbrev pub IsAnswer : Replay → ℕ → Result Seen LineRule → List ℕ → Replay → Type 0
IsAnswer before number said text after = GivesReplay before.bridge.now number said text after.bridge.now
