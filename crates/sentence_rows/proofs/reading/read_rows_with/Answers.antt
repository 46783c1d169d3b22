use Rattle.sentence_profile.specs.Columns.{fields_in}
use Rattle.sentence_rows.proofs.Holding.{read_valid}
use Rattle.sentence_rows.proofs.reading.read_rows_with.Goals as goal

pub returns-then-is_wanted-clause-valid : goal.returns-then-is_wanted-clause-valid
returns-then-is_wanted-clause-valid c = read_valid c.in-Some.formatter (fields_in c.args.sentence.now) c.read_by.result c.read_by.new.out.items c.read_by.ensures
