use Rattle.std.proofs.lemmas.List.Sums.{list_all-from_AllPass}
use Rattle.sentence_text.specs.Byte.{is_capital}
use Rattle.row_traffic.proofs.rows.talker_of.Goals as goal

pub returns-clause-capitals : goal.returns-clause-capitals
returns-clause-capitals c =
    list_all-from_AllPass is_capital c.row_config.result.now.talker (c.row_config.ensures.valid c.requires).talker.letters
