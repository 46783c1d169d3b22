use Rattle.gate_core.proofs.state.State.forget.Goals as goal

pub returns-in-Some : goal.returns-in-Some
returns-in-Some c = rw (← c.self.view_is, c.forget.ensures, c.in-Some.is)

pub forget-requires : goal.forget-requires
forget-requires c = rw c.in-Some.is at c.requires
