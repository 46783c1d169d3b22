use Rattle.slot_views.proofs.Endings.{ends_the_first}
use Rattle.fast_packet.specs.contracts.key.FastKeyOrd as key
use Rattle.fast_packet.proofs.Keys.{feeds_its_key}
use Rattle.fast_packet.proofs.Sources.{keys_apart}
use Rattle.fast_packet.proofs.laws.frames_change_their_key_alone.Goals as goal

pub returns : goal.returns
returns c = record { feed = feeds_its_key key.TheImpl.Laws.total-law; ends = ends_the_first key.TheImpl.Laws.total-law keys_apart; keys = keys_apart }
