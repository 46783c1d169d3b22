-- When what the bridge keeps stands for everything that ever came, and what each call makes of it and leaves.
use Rattle.std.specs.Prelude.{◌≡◌, ◌<◌, ℕ, ◌-◌, Bool, true, false, List, [], ◌∷◌, ◌++◌, length, filter, Option, Some, None, option_map}
use Rattle.history.specs.AddressLaws.{AreSettings}
use Rattle.history.specs.Entries.{Entry, History, IsHistory}
use Rattle.history.specs.Gate.{Stepped, opening_emits}
use Rattle.history.specs.Settings.{Settings}
use Rattle.history.specs.FromBus.{said_at}
use Rattle.gate_model.specs.Machine.{Machine, opened_machine}
use Rattle.gate_model.specs.Stands.{Stands}
use Rattle.gate_outbox.specs.declared.done.Command.{Command}
use Rattle.gate_core.specs.Promises.{IsOrderStep, IsStep, IsTaken}
use Rattle.gate_core.specs.Steps.{by_keys}
use Rattle.gate_outbox.specs.Output.{Output, emits_of, is_datagram}
use Rattle.parts.specs.PartSteps.{AreNew, IsGiven, Keeps}
use Rattle.plain_out.specs.Pace.{Utterance, Voice, said_all}
use Rattle.plain_out.specs.Streams.{reading_stream}
use Rattle.plain_out.specs.declared.stream.Stream.{Stream}
use Rattle.bridge.specs.declared.call_output.CallOutput.{CallOutput}
use Rattle.bridge.specs.Beside.{BesideKept, are_beside, beside, beside_give, beside_output, beside_plain, beside_utter, beside_utterances}
use Rattle.bridge.specs.Gate.{own_uttered, plain_of, stepped, voice_after, voice_by, voice_in}
use Rattle.bridge.specs.Kept.{Bridged, no_output, output_at, output_of, plain_output}
use Rattle.bridge.specs.BridgeSettings.{BridgeSettings}
use Rattle.bridge.specs.declared.replaced.Replaced.{Replaced}

pub record BridgeStands (p : BridgeSettings) (s : ℕ) (h : History) (b : Bridged) : Type 0 where
  pub settings : AreSettings p.gateway
  pub started : b.started ≡ true
  pub start : b.start ≡ s
  pub gateway : Stands by_keys p.gateway s h b.gateway
  pub parts : are_beside p.parts p.gateway s h b.parts
  pub plain : b.plain ≡ voice_in p s h
  pub replaced : b.replaced ≡ p.replaced
  pub records : b.records ≡ p.records

-- ---- a bridge that wasn't started, whenever it will be

pub record IsNew (p : BridgeSettings) (b : Bridged) : Type 0 where
  pub settings : AreSettings p.gateway
  pub waits : b.started ≡ false
  pub output : b.output ≡ no_output
  pub gateway : b.gateway ≡ opened_machine p.gateway
  pub parts : AreNew are_beside beside_output beside_plain p.parts p.gateway b.parts
  pub plain : b.plain ≡ voice_by p.plain
  pub replaced : b.replaced ≡ p.replaced
  pub records : b.records ≡ p.records

-- the start: the gateway claims its address, and asks all for theirs
pub record IsStarted (p : BridgeSettings) (s : ℕ) (after : Bridged) : Type 0 where
  pub stands : BridgeStands p s [] after
  pub emits : output_of after ≡ opening_emits p.gateway

abbrev pub IsStart : ℕ → Bridged → Bridged → Type 0
IsStart s before after = (p : BridgeSettings) → IsNew p before → IsStarted p s after

-- ---- an event that was offered, with the command that it completes: one that is earlier than the last entry is reported alone (rule 3)

pub record IsBridged (p : BridgeSettings) (s : ℕ) (x : Stepped p.gateway s) (after : Bridged) : Type 0 where
  pub could : IsHistory x.after
  pub stands : BridgeStands p s x.after after
  pub emits : output_at after.gateway.moment after ≡ x.emits

-- for every history for which the bridge stands before
abbrev pub IsBridgeStep : Entry → Bridged → Bridged → Type 0
IsBridgeStep e before after = (p : BridgeSettings) (s : ℕ) (h : History) → IsHistory h → BridgeStands p s h before → IsBridged p s (stepped p s h e) after

-- ---- what each step of that does

-- what the last call left is forgotten
pub record IsForgotten (before after : Bridged) : Type 0 where
  pub started : after.started ≡ before.started
  pub start : after.start ≡ before.start
  pub gateway : after.gateway ≡ before.gateway
  pub plain : after.plain ≡ before.plain
  pub replaced : after.replaced ≡ before.replaced
  pub records : after.records ≡ before.records
  pub output : after.output ≡ no_output
  pub kept : Keeps are_beside before.parts after.parts
  pub emits : beside_output after.parts ≡ []
  pub said : beside_plain after.parts ≡ []

-- the gateway itself takes the event
pub record IsGatewayStep (e : Entry) (before after : Bridged) : Type 0 where
  pub step : IsStep e before.gateway after.gateway after.output.outbox
  pub rest : after ≡ record before { gateway = after.gateway; output = record before.output { outbox = after.output.outbox } }

-- the parts beside the gateway take the event that it has taken
abbrev pub AreTold : Entry → Bridged → BesideKept → Type 0
AreTold e before after =
    (r : beside.rule) (c : Settings) (s : ℕ) (h : History) → AreSettings c → before.start ≡ s → IsHistory (e ∷ h)
    → IsTaken c s h e before.gateway before.output.outbox → are_beside r c s h before.parts → IsGiven are_beside beside_give beside_utter beside_output beside_utterances r c s h e after

-- what the gateway itself gave has the stream of the reading that it says, and isn't said plain where a part is said in its place
abbrev pub own_said : Replaced → Settings → ℕ → History → Entry → Output → List Utterance
own_said replaced c s h e left = own_uttered replaced (option_map reading_stream (said_at c s h e)) (emits_of left.emits)

pub record IsBesideStep (e : Entry) (before after : Bridged) : Type 0 where
  pub started : after.started ≡ before.started
  pub start : after.start ≡ before.start
  pub gateway : after.gateway ≡ before.gateway
  pub outbox : after.output.outbox ≡ before.output.outbox
  pub ordered : after.output.ordered ≡ 0
  pub parts : AreTold e before after.parts
  pub replaced : after.replaced ≡ before.replaced
  pub records : after.records ≡ before.records
  pub plain : (c : Settings) (s : ℕ) (h : History) → IsTaken c s h e before.gateway before.output.outbox
      → plain_output after.output after.parts
      ≡ plain_of before.plain before.gateway.moment (own_said before.replaced c s h e before.output.outbox ++ beside_utterances after.parts)
  pub voice : (c : Settings) (s : ℕ) (h : History) → IsTaken c s h e before.gateway before.output.outbox
      → after.plain ≡ voice_after before.plain before.gateway.moment (own_said before.replaced c s h e before.output.outbox ++ beside_utterances after.parts)

-- the stream of what the gateway itself says at the event that it has taken
abbrev pub IsOwnStream : Machine → Output → Option Stream → Type 0
IsOwnStream gateway outbox stream =
    (c : Settings) (s : ℕ) (h : History) (e : Entry) → IsTaken c s h e gateway outbox → stream ≡ option_map reading_stream (said_at c s h e)

-- the gateway itself has no datagram
pub record IsUnposted (outbox : Output) : Type 0 where
  pub told : filter is_datagram outbox.emits.told ≡ []
  pub posted : outbox.emits.posted ≡ []

-- its datagrams are said once more as plain sentences: nothing else changes, and the parts stand for the same histories
pub record IsSaidAgain (gateway : Machine) (replaced : Replaced) (v : Voice) (output : CallOutput) (parts : BesideKept) (v' : Voice) (output' : CallOutput) (parts' : BesideKept) : Type 0 where
  pub outbox : output'.outbox ≡ output.outbox
  pub ordered : output'.ordered ≡ output.ordered
  pub kept : Keeps are_beside parts parts'
  pub beside : beside_output parts' ≡ beside_output parts
  pub said : beside_utterances parts' ≡ beside_utterances parts
  pub plain : (c : Settings) (s : ℕ) (h : History) (e : Entry) → IsTaken c s h e gateway output.outbox
      → plain_output output' parts' ≡ (said_all v gateway.moment (own_said replaced c s h e output.outbox ++ beside_utterances parts)).plain
  pub voice : (c : Settings) (s : ℕ) (h : History) (e : Entry) → IsTaken c s h e gateway output.outbox
      → v' ≡ (said_all v gateway.moment (own_said replaced c s h e output.outbox ++ beside_utterances parts)).after

-- the gateway takes the command that the event left: what it gives stands behind all that the event gave
pub record IsObeyed (o : Command) (before after : Bridged) : Type 0 where
  pub from : o.source < 256
  pub step : IsOrderStep o before.gateway after.gateway before.output.outbox after.output.outbox
  pub ordered : after.output.ordered ≡ length (emits_of after.output.outbox.emits) - length (emits_of before.output.outbox.emits)
  pub rest : after ≡ record before { gateway = after.gateway; output = record before.output { outbox = after.output.outbox; ordered = after.output.ordered } }

abbrev pub IsOrder : Option Command → Bridged → Bridged → Type 0
IsOrder None before after = after ≡ before
IsOrder (Some o) before after = IsObeyed o before after
