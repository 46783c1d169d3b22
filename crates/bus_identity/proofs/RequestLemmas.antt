-- A request that has to be answered, as a test and as a fact.
use Rattle.std.proofs.Common.{◌≡◌, ℕ, ◌↔◌, Bool, true, false, IsTrue, List, Option, Some, arith}
use Rattle.std.specs.Prelude.{IfSome}
use Rattle.n2k_id.specs.Frame.{BusFrame}
use Rattle.n2k_id.specs.Identifier.{parts_of}
use Rattle.n2k_id.specs.declared.identifier_parts.Parts.{Parts}
use Rattle.bus_identity.specs.Answers.{answered_by}
use Rattle.bus_identity.specs.Requests.{due_by, IsDue, IsDueBy}
use Rattle.bus_identity.specs.declared.identity.Answered.{Answered}
use Rattle.bus_identity.specs.declared.identity.Answered.TheVariants.{Nothing, Sent, NotReady}

pub due_tells : (own : Option ℕ) (parts : Parts) (held : List ℕ) → IsTrue (due_by own parts held) ↔ IsDueBy own parts held
due_tells own parts held = grind arith

tells : (due ready : Bool) (Due : Type 0) (answer : Answered) → IsTrue due ↔ Due → answer ≡ answered_by due ready
    → ((answer ≡ Nothing) ↔ (¬ Due)) × ((answer ≡ Sent) ↔ (Due × IsTrue ready)) × ((answer ≡ NotReady) ↔ (Due × (ready ≡ false)))
tells false ready Due answer h e = grind arith
tells true false Due answer h e = grind arith
tells true true Due answer h e = grind arith

-- what became of a frame tells whether it had to be answered
pub answer_tells : (own : Option ℕ) (ready : Bool) (e : BusFrame) {found : Option Parts} {parts : Parts} {held : List ℕ} (due : Bool) (answer : Answered)
    → found ≡ Some parts → IfSome found (λ p. p ≡ parts_of e.id) → held ≡ e.held → IsTrue due ↔ IsDueBy own parts held → answer ≡ answered_by due ready
    → ((answer ≡ Nothing) ↔ (¬ IsDue own e)) × ((answer ≡ Sent) ↔ (IsDue own e × IsTrue ready)) × ((answer ≡ NotReady) ↔ (IsDue own e × (ready ≡ false)))
answer_tells own ready e {parts = parts} due answer some of_frame is_held exactly is =
    let is_parts : parts ≡ parts_of e.id = rw some at of_frame in
    tells due ready (IsDue own e) answer (rw (is_parts, is_held) at exactly) is
