use Rattle.std.proofs.Common.{◌≡◌, true, sym, subst, arith}
use Rattle.std.proofs.lemmas.Bool.{le-leb}
use Rattle.iso_transport.specs.contracts.key.IsoKeyOrd as key
use Rattle.iso_transport.specs.Assembly.{AreSessions, key_fits}
use Rattle.iso_transport.proofs.Sources.{grown_sessions}
use Rattle.iso_transport.proofs.assembler.IsoAssembler.grow.Goals as goal

pub invariant_of-self : goal.invariant_of-self
invariant_of-self c =
    let fits : key_fits c.args.place.key ≡ true = le-leb c.args.place.key.source 255 (omega arith) in
    subst (AreSessions key.TheImpl.ghosts.cmp) (sym c.grow_at.follows.holds-at-none) (grown_sessions c.self.inside.slots c.args.place.key _ _ _ _ fits c.self.invariant)
