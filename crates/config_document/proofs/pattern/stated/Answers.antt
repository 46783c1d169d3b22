use Rattle.std.proofs.Common.{refl}
use Rattle.config_document.specs.Patterns.{stated}
use Rattle.config_document.proofs.pattern.stated.Goals as goal

pub returns-in-None-clause-behind : goal.returns-in-None-clause-behind
unfolding stated
returns-in-None-clause-behind c = rw (c.in-Left.is, ← c.cut_word.ensures.word, c.in-None.ensures.cases) refl
