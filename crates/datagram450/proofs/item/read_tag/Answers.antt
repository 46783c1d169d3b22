use Rattle.datagram450.proofs.TagPlaces.{tag_place}
use Rattle.datagram450.proofs.item.read_tag.Goals as goal

pub returns-clause-place : goal.returns-clause-place
returns-clause-place c = tag_place c.args.line.now c.read.result c.read.ensures.exact
