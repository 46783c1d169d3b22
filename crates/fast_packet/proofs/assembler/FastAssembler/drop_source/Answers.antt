use Rattle.std.proofs.Common.{◌≡◌, ap, sym, ◌∙◌, option_map}
use Rattle.std.specs.List.{find}
use Rattle.slot_views.specs.Slots.{with_entries, is_between, without}
use Rattle.slot_views.proofs.Endings.{found_same, without_same}
use Rattle.fast_packet.specs.Assembly.{is_from}
use Rattle.fast_packet.specs.Answers.{ended_of}
use Rattle.fast_packet.specs.declared.key.FastKey.{FastKey}
use Rattle.fast_packet.specs.contracts.key.FastKeyOrd as key
use Rattle.fast_packet.proofs.Sources.{ranged_all, without_assemblies, key_ended, none_ended}
use Rattle.fast_packet.proofs.assembler.FastAssembler.drop_source.Goals.{in-Some, in-None}
use Rattle.fast_packet.proofs.assembler.FastAssembler.drop_source.Goals as goal

-- what is left, by the source alone
left : (c : goal.Joined-drop_between) → c.drop_between.new.self ≡ without c.self.inside.slots (is_from c.args.source)
left c = c.drop_between.ensures.after ∙ ap (with_entries c.self.inside.slots) (without_same _ _ c.self.inside.slots.entries (ranged_all c.args.source c.self.inside.slots.entries c.self.invariant.fit))

pub invariant_of-self : goal.invariant_of-self
invariant_of-self c = rw (left c) (without_assemblies c.self.inside.slots (is_from c.args.source) c.self.invariant)

pub returns-clause-after : goal.returns-clause-after
returns-clause-after c = rw (← c.self.view_is) (left c)

pub returns-clause-answer : goal.returns-clause-answer
returns-clause-answer c =
    let low : FastKey = record { source = c.args.source; pgn = 0 } in
    let high : FastKey = record { source = c.args.source; pgn = 4294967295 } in
    let found = find (is_between key.TheImpl.ghosts.cmp low high) c.self.inside.slots.entries in
    let same : find (is_from c.args.source) c.self.inside.slots.entries ≡ found = sym (found_same _ _ c.self.inside.slots.entries (ranged_all c.args.source c.self.inside.slots.entries c.self.invariant.fit)) in
    let told : c.match-drop_between.result ≡ option_map ended_of found = elim c.match-drop_between.branch [
      | in-Some w ↦ w.result-is ∙ key_ended found w.in-Some.ended (sym w.in-Some.is ∙ c.drop_between.ensures.answer)
      | in-None w ↦ w.result-is ∙ none_ended found (sym w.in-None.is ∙ c.drop_between.ensures.answer)
    ] in
    rw (← c.self.view_is) (told ∙ ap (option_map ended_of) (sym same))
