use Rattle.std.proofs.Common.{◌∙◌, rules, tests}
use Rattle.std.proofs.lemmas.Iterator.{YieldsList-from_slice}
use Rattle.std.proofs.lemmas.Iterator.Search.{all_from_yields_List}
use Rattle.std.specs.Prelude.{is_some}
use Rattle.toml.specs.Data.{as_table}
use Rattle.toml.specs.View.{view}
use Rattle.toml.specs.declared.value.Value.{Value}
use Rattle.config_document.proofs.Lists.{are_tables-view}
use Rattle.config_document.proofs.values.are_tables.Goals as goal

pub returns : goal.returns
returns c =
    all_from_yields_List (λ (value : Value). is_some (as_table (view value))) _ _ c.all.result c.all.ensures.ran (YieldsList-from_slice c.args.items.now cc) (λ value b q called. search (rules, tests))
    ∙ are_tables-view c.args.items.now
