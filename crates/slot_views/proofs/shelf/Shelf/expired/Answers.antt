use Rattle.std.proofs.Common.{refl, arith}
use Rattle.std.proofs.lemmas.Bool.{le-leb, lt-leb}
use Rattle.slot_views.proofs.Quiet.{quiet_all}
use Rattle.slot_views.proofs.shelf.Shelf.expired.Goals as goal

pub returns-then-moment-self-clause-quiet : goal.returns-then-moment-self-clause-quiet
returns-then-moment-self-clause-quiet g c = let known = le-leb c.args.moment c.args.self.now.quiet_until c.if-moment-self.true in rw known refl

pub returns-in-Err-clause-sound : goal.returns-in-Err-clause-sound
returns-in-Err-clause-sound g c = grind (arith, quiet_all)

pub returns-in-Err-clause-quiet : goal.returns-in-Err-clause-quiet
returns-in-Err-clause-quiet g c = let unknown = lt-leb c.args.moment c.args.self.now.quiet_until c.if-moment-self.false in rw unknown c.in-Err.ensures.quiet
