use Rattle.slot_views.proofs.Endings.{ends_the_first}
use Rattle.iso_transport.specs.contracts.key.IsoKeyOrd as key
use Rattle.iso_transport.proofs.Joining.{keys_total, keys_apart, feeds_its_key, orders}
use Rattle.iso_transport.proofs.laws.frames_change_their_key_alone.Goals as goal

pub returns : goal.returns
returns c = record { feed = feeds_its_key key.TheImpl.ghosts.cmp keys_total; ends = ends_the_first keys_total keys_apart; keys = keys_apart; order = orders }
