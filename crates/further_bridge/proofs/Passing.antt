-- An event that can't complete a message completes none: what was overdue or lost is told, and nothing is said.
use Rattle.std.proofs.Common.{◌≡◌, ℕ, false, [], Option, None, option_map, ap, ◌∙◌, append-nil}
use Rattle.slot_views.specs.Traces.{unexpired}
use Rattle.quantities.specs.Told.{kind_of}
use Rattle.history.specs.Entries.{Entry, moment_of}
use Rattle.gate_model.specs.Machine.{Machine}
use Rattle.gate_model.specs.Said.{Complete}
use Rattle.gate_outbox.specs.Output.{Emitted, and_left, and_told}
use Rattle.parts.specs.SelectedMessage.{SelectedMessage}
use Rattle.bus_listener.specs.Kept.{may_complete}
use Rattle.bus_listener.specs.Steps.{by_keys}
use Rattle.bus_listener.proofs.Unheard.{completes_nothing}
use Rattle.further_bridge.specs.Kept.{FurtherKept, behind, followed, hearing_by, message_step, no_streams, said_of, step_by, streams_of}

module _ (g : Machine) (k : FurtherKept) where
  completes_none : (e : Entry) → may_complete kind_of e ≡ false → (hearing_by g k e).message ≡ None
  completes_none e never = completes_nothing by_keys.fast kind_of g.addresses (unexpired (moment_of e) k.slots) e never

  module _ (new : Option SelectedMessage) (e : Entry) (never : may_complete kind_of e ≡ false) where
    abbrev heard : FurtherKept
    heard = followed g new (record k { slots = (hearing_by g k e).slots })

    pub keeps : (step_by g new k e).after ≡ heard
    keeps = ap (λ (d : Option Complete). (message_step heard (option_map said_of d)).after) (completes_none e never)

    pub tells : (room : ℕ) (x : Emitted) → and_left room x (step_by g new k e).emits ≡ and_told room x (hearing_by g k e).told
    tells room x =
        ap (λ (d : Option Complete). and_left room x (behind (hearing_by g k e).told (message_step heard (option_map said_of d))).emits) (completes_none e never)
        ∙ ap (λ es. and_told room x es) (append-nil (hearing_by g k e).told)

    pub says_no_second : (step_by g new k e).second ≡ []
    says_no_second = ap (λ (d : Option Complete). (message_step heard (option_map said_of d)).second) (completes_none e never)

    pub says_no_third : (step_by g new k e).third ≡ []
    says_no_third = ap (λ (d : Option Complete). (message_step heard (option_map said_of d)).third) (completes_none e never)

  pub has_no_streams : (e : Entry) → may_complete kind_of e ≡ false → streams_of (option_map said_of (hearing_by g k e).message) ≡ no_streams
  has_no_streams e never = ap (λ (d : Option Complete). streams_of (option_map said_of d)) (completes_none e never)
