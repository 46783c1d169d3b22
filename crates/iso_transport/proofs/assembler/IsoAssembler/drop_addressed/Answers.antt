use Rattle.std.proofs.Common.{◌≡◌, true, ap, sym, ◌∙◌, option_map}
use Rattle.std.specs.List.{find}
use Rattle.slot_views.specs.Slots.{with_entries, is_between, without}
use Rattle.slot_views.proofs.Endings.{found_same, without_same}
use Rattle.iso_transport.specs.declared.key.IsoKey.{IsoKey}
use Rattle.iso_transport.specs.contracts.key.IsoKeyOrd as key
use Rattle.iso_transport.specs.Assembly.{is_addressed}
use Rattle.iso_transport.specs.Answers.{ended_of}
use Rattle.iso_transport.proofs.Sources.{addressed_all, without_sessions, session_ended, none_ended}
use Rattle.iso_transport.proofs.assembler.IsoAssembler.drop_addressed.Goals.{in-Some, in-None}
use Rattle.iso_transport.proofs.assembler.IsoAssembler.drop_addressed.Goals as goal

-- what is left, by whether a session is to this node
left : (c : goal.Joined-drop_between) → c.drop_between.new.self ≡ without c.self.inside.slots is_addressed
left c = c.drop_between.ensures.after ∙ ap (with_entries c.self.inside.slots) (without_same _ _ c.self.inside.slots.entries (addressed_all c.self.inside.slots.entries c.self.invariant.fit))

pub invariant_of-self : goal.invariant_of-self
invariant_of-self c = rw (left c) (without_sessions c.self.inside.slots is_addressed c.self.invariant)

pub returns-clause-after : goal.returns-clause-after
returns-clause-after c = rw (← c.self.view_is) (left c)

pub returns-clause-answer : goal.returns-clause-answer
returns-clause-answer c =
    let low : IsoKey = record { addressed = true; source = 0 } in
    let high : IsoKey = record { addressed = true; source = 255 } in
    let found = find (is_between key.TheImpl.ghosts.cmp low high) c.self.inside.slots.entries in
    let same : find is_addressed c.self.inside.slots.entries ≡ found = sym (found_same _ _ c.self.inside.slots.entries (addressed_all c.self.inside.slots.entries c.self.invariant.fit)) in
    let answered : c.match-drop_between.result ≡ option_map ended_of found = elim c.match-drop_between.branch [
      | in-Some w ↦ w.result-is ∙ session_ended found w.in-Some.ended w.of.result (sym w.in-Some.is ∙ c.drop_between.ensures.answer) w.of.ensures
      | in-None w ↦ w.result-is ∙ none_ended found (sym w.in-None.is ∙ c.drop_between.ensures.answer)
    ] in
    rw (← c.self.view_is) (answered ∙ ap (option_map ended_of) (sym same))
