-- What follows of the statuses of a gateway between two links.
use Rattle.std.proofs.Common.{◌≡◌, ◌≢◌, ℕ, ◌⊎◌, List, refl, inl, inr, arith}
use Rattle.std.specs.Prelude.{Option, Ok}
use Rattle.gate_outside.specs.Faults.{Rose}
use Rattle.settings.specs.declared.setup.Setup.{Setup}
use Rattle.serving.specs.Served.{Outside}
use Rattle.config_check.specs.Configuring.{FileSays}
use Rattle.gateway_commands.specs.ServeCommand.{IsServeStatus, IsTurnsStatus, ServesBy, ServesWith, Unattached}
use Rattle.command_line.specs.Statuses.{IsEarly, SteadyBy}
use Rattle.config_check.proofs.ConfigLemmas.{IsDone, configures}
use Rattle.command_line.proofs.StatusLemmas.{steady_unread}

abbrev Known : ℕ → Type 0
Known status = (status ≡ 7) ⊎ ((status ≡ 9) ⊎ IsTurnsStatus status)

is_done : (status : ℕ) → Known status → IsDone status
is_done status known = (λ is. grind (arith, known, is), λ is. grind (arith, known, is))

-- of the statuses before the first event a gateway of settings has the one for want of memory, and none of a configuration that is refused
pub only_memory : (status : ℕ) → Known status → IsEarly status → status ≡ 7
only_memory status known early = grind (arith, known, early)

pub no_refusal : (status : ℕ) → Known status → status ≡ 3 → ⊥
no_refusal status known is = grind (arith, known, is)

is_complete : (status : ℕ) → Known status → (status ≢ 7 → status ≡ 0) → (status ≡ 0) ⊎ (status ≡ 7)
is_complete status known complete = search (arith, known, complete)

pub served : (turns : ℕ) (content : Option (List ℕ)) (files files' : ℕ) (clock clock' : Option (List ℕ)) (bus bus' net net' : ℕ) (old new : Outside) (status : ℕ)
    (setup : Setup) → FileSays content (Ok setup) → ServesWith setup turns clock clock' bus bus' net net' old new status
    → ServesBy turns content files files' clock clock' bus bus' net net' old new status
served turns content files files' clock clock' bus bus' net net' old new status setup f s = record {
  known = search (arith, s.known);
  configures = configures content files files' old.taken new.taken old.faults new.faults status setup f (is_done status s.known);
  serves = λ is. (setup, f, s.serves is);
  unattached = λ is. (setup, f, s.unattached is);
  sink_cause = s.sink_cause;
  complete = λ other told files_held bus_held net_held sink_held. is_complete status s.known (λ no. s.complete no bus_held net_held sink_held);
}

-- no status of a gateway between two links is that of a read
no_read : (status : ℕ) → IsServeStatus status → (status ≡ 5 → ⊥) × (status ≡ 8 → ⊥)
no_read status known = (λ is. grind (arith, known, is), λ is. grind (arith, known, is))

-- where all turns were taken, no write failed
pub serve_steady : (turns : ℕ) (content : Option (List ℕ)) (files files' : ℕ) (clock clock' : Option (List ℕ)) (bus bus' net net' : ℕ) (old new : Outside)
    (source status : ℕ) → ServesBy turns content files files' clock clock' bus bus' net net' old new status → SteadyBy source source old.faults new.faults status
serve_steady turns content files files' clock clock' bus bus' net net' old new source status s =
    let none = no_read status s.known in
    steady_unread source source old.faults new.faults status refl (λ is. ((s.serves (inl is)).2.ends.done is).passes.steady) none.0 none.1

-- a link that can't be attached has its cause in its count of faults
pub link_cause : (content : Option (List ℕ)) (bus bus' net net' : ℕ) (old new : Outside) → Unattached content bus bus' net net' old new → Rose bus bus' ⊎ Rose net net'
link_cause content bus bus' net net' old new (setup, file, inl of_bus) = inl of_bus.2
link_cause content bus bus' net net' old new (setup, file, inr of_net) = inr of_net.2
