use Rattle.std.proofs.Common.{[], ◌∷◌, Some, refl, ap}
use Rattle.gate_events.specs.Emit.{net}
use Rattle.gate_outbox.specs.Output.{with_posted}
use Rattle.plain_out.specs.declared.stream.Stream.TheVariants as stream
use Rattle.parts.proofs.Empty.{none_emitted, placed_in_stream, said_in_stream}
use Rattle.joined_rmc.specs.RmcPart.{joining_gives, joining_stands}
use Rattle.joined_rmc.proofs.Joins.{rmc_said, rmc_silent}
use Rattle.joined_rmc.proofs.joining.JoiningPartRmcPlace.after.Goals as goal

pub returns-then-not-said-clause-takes : goal.returns-then-not-said-clause-takes
returns-then-not-said-clause-takes c =
    placed_in_stream joining_stands joining_gives c.args.step.now c.args.self.now (record { group = c.args.self.now.group; join = c.after-said.new.self })
    (record c.args.place.now { emits = c.clear.new.self; stream = Some stream.Rmc })
    (rmc_silent c.args.step.now c.args.self.now (record { group = c.args.self.now.group; join = c.after-said.new.self })
    c.after-said.result c.after-said.new.packet.items c.after-said.ensures.history refl c.clear.new.self c.clear.ensures c.if-not-said.true)

pub returns-else-not-said-clause-takes : goal.returns-else-not-said-clause-takes
returns-else-not-said-clause-takes c =
    placed_in_stream joining_stands joining_gives c.args.step.now c.args.self.now (record { group = c.args.self.now.group; join = c.after-said.new.self })
    (record c.args.place.now { emits = with_posted c.args.place.now.emits (net c.post-datagram.result.now.group c.after-said.new.packet.items ∷ []); stream = Some stream.Rmc })
    (rmc_said c.args.step.now c.args.self.now (record { group = c.args.self.now.group; join = c.after-said.new.self })
    c.after-said.result c.after-said.new.packet.items c.after-said.ensures.history refl c.args.place.now.emits c.post-datagram.result.now.group
    (none_emitted c.args.place.now.emits c.requires.empty) (ap (λ d. d.group) c.post-datagram.ensures.empty) c.if-not-said.false)
