-- What follows of the statuses of a gateway over a capture.
use Rattle.std.proofs.Common.{◌≡◌, ◌≢◌, ℕ, ◌⊎◌, List, inr, arith}
use Rattle.std.specs.Prelude.{Option, Ok}
use Rattle.settings.specs.declared.setup.Setup.{Setup}
use Rattle.command_line.specs.Statuses.{IsEarly, IsReplayStatus, IsStreamStatus}
use Rattle.config_check.specs.Configuring.{FileSays}
use Rattle.config_check.proofs.ConfigLemmas.{IsDone, configures}
use Rattle.gateway_commands.specs.ReplayCommand.{ReplaysBy, RunsBy}

is_done : (status : ℕ) → IsReplayStatus status → IsDone status
is_done status known = (λ is. grind (arith, known, is), λ is. grind (arith, known, is))

-- of the statuses before the first event a gateway that runs has the one for want of memory, and none of a configuration that is refused
pub only_memory : (status : ℕ) → IsReplayStatus status → IsEarly status → status ≡ 7
only_memory status known early = grind (arith, known, early)

pub no_refusal : (status : ℕ) → IsReplayStatus status → status ≡ 3 → ⊥
no_refusal status known is = grind (arith, known, is)

-- for a capture that was answered there was memory
pub memory_held : (status : ℕ) → IsStreamStatus status → status ≡ 7 → ⊥
memory_held status known is = grind (arith, known, is)

is_complete : (status : ℕ) → IsReplayStatus status → (status ≢ 7 → status ≡ 0) → (status ≡ 0) ⊎ (status ≡ 7)
is_complete status known complete = search (arith, known, complete)

pub replayed : (content : Option (List ℕ)) (files files' : ℕ) (left left' : Option (List ℕ)) (source source' : ℕ) (told told' : Option (List ℕ)) (sink sink' status : ℕ) (setup : Setup)
    → FileSays content (Ok setup) → RunsBy setup left left' source source' told told' sink sink' status
    → ReplaysBy content files files' left left' source source' told told' sink sink' status
replayed content files files' left left' source source' told told' sink sink' status setup f r = record {
  known = inr (inr r.known);
  configures = configures content files files' told told' sink sink' status setup f (is_done status r.known);
  replays = λ is. record { setup = setup; file = f; ends = r.ends };
  sink_cause = r.sink_cause;
  source_cause = r.source_cause;
  steady = r.steady;
  complete = λ other t held unhindered. is_complete status r.known (λ no. r.complete no unhindered);
}
