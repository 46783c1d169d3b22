use Rattle.std.proofs.Common.{◌∙◌, rules, tests}
use Rattle.std.proofs.lemmas.Iterator.{YieldsList-from_slice}
use Rattle.std.proofs.lemmas.Iterator.Search.{all_from_yields_List}
use Rattle.std.specs.Prelude.{is_some}
use Rattle.toml.specs.Data.{as_str}
use Rattle.toml.specs.View.{view}
use Rattle.toml.specs.declared.value.Value.{Value}
use Rattle.config_document.proofs.Lists.{are_texts-view}
use Rattle.config_document.proofs.values.are_texts.Goals as goal

pub returns : goal.returns
returns c =
    all_from_yields_List (λ (value : Value). is_some (as_str (view value))) _ _ c.all.result c.all.ensures.ran (YieldsList-from_slice c.args.items.now cc) (λ value b q called. search (rules, tests))
    ∙ are_texts-view c.args.items.now
