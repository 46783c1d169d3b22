-- What an event that the bridge takes gives, with the command that it completes: it is what the definition says, whatever came before.
use Rattle.std.proofs.Common.{◌≡◌, ℕ, [], ◌∷◌, ◌++◌, refl, sym, ap, ◌∙◌}
use Rattle.std.specs.Prelude.{Result, Ok, Err}
use Rattle.gate_outside.specs.declared.Failed.{Failed}
use Rattle.gate_events.specs.Emit.{Emitted}
use Rattle.gate_events.specs.Event.{Seen}
use Rattle.bridge.specs.BridgeStands.{IsBridgeStep}
use Rattle.bridge.specs.Gate.{stepped}
use Rattle.bridge.specs.Kept.{Bridged, output_at}
use Rattle.bridge.specs.BridgeSettings.{BridgeSettings}
use Rattle.bridge.specs.Running.{Running, entry_of}
use Rattle.serving.specs.Handing.{Does, DoesAll, DoesSome, Hands, HandsAll, HandsSome, RunStands}
use Rattle.serving.specs.Served.{Outside, all_due}
use Rattle.serving.specs.Turns.{all_made, emitted_at}
use Rattle.serving.proofs.Passing.{front_as}

module _ (e : Seen) (before after : Bridged) (step : IsBridgeStep (entry_of e) before after) (m : ℕ) (is : m ≡ after.gateway.moment) where
  due_is : (p : BridgeSettings) (g : Running) → RunStands p g before → all_made (output_at m after) ≡ all_made (stepped p g.start g.history (entry_of e)).emits
  due_is p g stands = ap (λ (k : ℕ). all_made (output_at k after)) is ∙ ap all_made (step p g.start g.history stands.0 stands.1).emits

  -- all went out
  pub taken_all : (old new : Outside) → HandsAll old new (all_made (output_at m after)) → DoesAll RunStands (λ p g. emitted_at p e g) [] [] before after old new
  taken_all old new x = record {
    tried = x.tried;
    passes = x.passes;
    is_due = λ p g stands. x.is_due ∙ due_is p g stands;
    stands = λ p g stands. let r = step p g.start g.history stands.0 stands.1 in (r.could, r.stands);
  }

  -- a write failed
  pub taken_some : (old new : Outside) → HandsSome old new (all_made (output_at m after)) → DoesSome RunStands (λ p g. emitted_at p e g) [] [] before old new
  taken_some old new x = record {
    tried = x.tried;
    last = x.last;
    stops = x.stops;
    is_front = λ p g stands.
        let front = all_due (x.tried ++ x.last ∷ []) in
        front_as front front (all_made (output_at m after)) (all_made (stepped p g.start g.history (entry_of e)).emits) refl (due_is p g stands) x.is_front;
  }

  pub taken : (old new : Outside) (result : Result (Unit {0}) Failed) → Hands old new (all_made (output_at m after)) result
      → Does RunStands (λ p g. emitted_at p e g) [] [] before after old new result
  taken old new (Ok done) x = taken_all old new x
  taken old new (Err failed) x = taken_some old new x
