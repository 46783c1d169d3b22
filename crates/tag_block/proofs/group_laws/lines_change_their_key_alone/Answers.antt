use Rattle.slot_views.proofs.Endings.{ends_the_first}
use Rattle.tag_block.specs.contracts.group_key.GroupKeyOrd as key
use Rattle.tag_block.proofs.GroupKeys.{feeds_its_key, keys_apart}
use Rattle.tag_block.proofs.group_laws.lines_change_their_key_alone.Goals as goal

pub returns : goal.returns
returns c = record { feed = feeds_its_key key.TheImpl.Laws.total-law; ends = ends_the_first key.TheImpl.Laws.total-law keys_apart; keys = keys_apart }
