use Rattle.slot_views.specs.Slots.{entry_at, is_full}
use Rattle.iso_transport.specs.contracts.key.IsoKeyOrd as key
use Rattle.iso_transport.specs.Audience.{key_of}
use Rattle.iso_transport.specs.Assembly.{is_crowded}
use Rattle.iso_transport.proofs.Verdicts.{management_fits, packet_fits}
use Rattle.iso_transport.proofs.assembler.IsoAssembler.verdict.Goals as goal

pub returns-in-60416-clause-fits : goal.returns-in-60416-clause-fits
returns-in-60416-clause-fits c =
    let k = key_of c.args.parts.now in
    let fits = management_fits (is_crowded c.args.self.now) (entry_at key.TheImpl.ghosts.cmp c.args.self.now k) c.args.bytes.now k.addressed in
    rw (c.management_verdict.ensures, c.is_crowded-crowded.ensures.crowded, c.message_of-held.ensures, c.requires.key) fits

pub returns-in-60160-clause-fits : goal.returns-in-60160-clause-fits
returns-in-60160-clause-fits c =
    let k = key_of c.args.parts.now in
    let s = c.args.self.now in
    let fits = packet_fits (is_full key.TheImpl.ghosts.cmp s k) k.addressed (entry_at key.TheImpl.ghosts.cmp s k) c.args.bytes.now in
    rw (c.packet_verdict.ensures, c.requires.key) fits
