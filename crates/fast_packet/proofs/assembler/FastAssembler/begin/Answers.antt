use Rattle.std.proofs.Common.{◌≡◌, true, sym, subst, arith}
use Rattle.std.proofs.lemmas.Bool.{le-leb}
use Rattle.fast_packet.specs.contracts.key.FastKeyOrd as key
use Rattle.fast_packet.specs.Assembly.{AreAssemblies, key_fits}
use Rattle.fast_packet.proofs.Keys.{begun_assemblies}
use Rattle.fast_packet.proofs.assembler.FastAssembler.begin.Goals as goal

pub invariant_of-self : goal.invariant_of-self
invariant_of-self c =
    let fits : key_fits c.args.place.key ≡ true = le-leb c.args.place.key.pgn 4294967295 (omega arith) in
    subst (AreAssemblies key.TheImpl.ghosts.cmp) (sym c.begin_at.follows.holds-at-none) (begun_assemblies c.self.inside.slots c.args.place.key _ fits c.self.invariant)
