-- What further quantities give beside the gateway is what the definition over all that ever came says.
use Rattle.std.proofs.Common.{◌≡◌, ℕ, List, subst}
use Rattle.gate_events.specs.Emit.{Emit}
use Rattle.history.specs.AddressLaws.{AreSettings}
use Rattle.history.specs.Entries.{History}
use Rattle.history.specs.Settings.{Settings}
use Rattle.plain_out.specs.Pace.{Utterance}
use Rattle.parts.specs.Promises.{IsTaken}
use Rattle.further_bridge.specs.FurtherRule.{FurtherRule}
use Rattle.further_bridge.specs.Kept.{FurtherKept}
use Rattle.further_bridge.specs.Promises.{IsFurtherStep, IsFurtherTaken, StandsFurther}
use Rattle.parts.specs.PartSteps.{IsStepped, entry_at}
use Rattle.parts.specs.declared.part.Step.{Step}

pub quantities_taken : (t : Step) (before after : FurtherKept) (left : List Emit) (said : List Utterance) → IsFurtherStep t.gateway.now t.outbox.now (entry_at t) before after left said
    → (x : FurtherRule) (c : Settings) (s : ℕ) (h : History) → IsStepped c s h t → StandsFurther x c s h before → IsFurtherTaken x c s h (entry_at t) after left said
quantities_taken t before after left said is x c s h step stands =
    let same : t.gateway.now.settings ≡ c = step.taken.stands.settings in
    subst
    (λ c. AreSettings c → IsTaken c s h (entry_at t) t.gateway.now t.outbox.now → StandsFurther x c s h before → IsFurtherTaken x c s h (entry_at t) after left said)
    same (λ settings taken stood. is x s h settings step.could taken stood) step.settings step.taken stands
