-- The recording of a run, and what a gateway made in it.
use Rattle.std.specs.Prelude.{ℕ, List, [], ◌∷◌}
use Rattle.gate_events.specs.Emit.{Emitted}
use Rattle.serving.specs.Turns.{Item, made, recorded, told}

-- the lines of the recording, in order, each without its line end
abbrev pub recorded_in : List Item → List (List ℕ)
recorded_in [] = []
recorded_in (made e ∷ items) = recorded_in items
recorded_in (told e ∷ items) = recorded_in items
recorded_in (recorded line ∷ items) = line ∷ recorded_in items

-- what the gateway emitted, in order, each as it was due
abbrev pub made_in : List Item → List Emitted
made_in [] = []
made_in (made e ∷ items) = e ∷ made_in items
made_in (told e ∷ items) = made_in items
made_in (recorded line ∷ items) = made_in items
