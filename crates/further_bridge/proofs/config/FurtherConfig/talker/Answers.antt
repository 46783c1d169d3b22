use Rattle.std.proofs.lemmas.List.Sums.{list_all-from_AllPass}
use Rattle.sentence_text.specs.Byte.{is_capital}
use Rattle.further_bridge.proofs.config.FurtherConfig.talker.Goals as goal

pub returns-clause-capitals : goal.returns-clause-capitals
returns-clause-capitals c =
    list_all-from_AllPass is_capital c.quantity.result.now.talker (c.quantity.ensures.valid c.requires).talker.letters
