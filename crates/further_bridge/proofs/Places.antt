-- What is posted where nothing was.
use Rattle.std.proofs.Common.{◌≡◌, List, [], ◌∷◌, refl}
use Rattle.gate_events.specs.Emit.{Emit}
use Rattle.gate_outbox.specs.Output.{and_posted, no_emits}

pub placed : (posted : List Emit) → and_posted no_emits posted ≡ record { told = []; posted = posted }
placed [] = refl
placed (e ∷ es) = refl
