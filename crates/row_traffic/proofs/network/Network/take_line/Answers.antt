-- The sentence of a line in no group is the line's own.
use Rattle.std.proofs.Common.{◌≡◌, Some, None, sym, ◌∙◌, append-nil}
use Rattle.sentence_text.specs.Reading.{parts}
use Rattle.history.specs.Heard.{several}
use Rattle.row_traffic.proofs.TakenLines.{says_its_row}
use Rattle.row_traffic.proofs.network.Network.take_line.Goals as goal

pub returns-in-Some : goal.returns-in-Some
returns-in-Some c =
    let is : several c.args.tag.now.group ≡ Some c.in-Some.part = sym c.several.ensures ∙ c.in-Some.is in
    record {
      after = λ s. rw (is, ← c.self.view_is, c.take_part.ensures.groups, c.take_part.ensures.after);
      emits = λ s. rw (is, ← c.self.view_is) c.take_part.ensures.emits;
    }

pub returns-in-None : goal.returns-in-None
returns-in-None c =
    let is : several c.args.tag.now.group ≡ None = sym c.several.ensures ∙ c.in-None.is in
    let says = says_its_row c.args.heard.optional (parts c.args.sentence.now) c.args.text.now c.requires.is.sentence in
    record {
      after = λ s. rw (is, ← c.self.view_is, says, c.take_sentence.ensures.after);
      emits = λ s. rw (is, ← c.self.view_is, says, append-nil) c.take_sentence.ensures.emits;
    }

pub take_part-requires-clause-source : goal.take_part-requires-clause-source
take_part-requires-clause-source c = rw (← c.self.view_is) at c.requires.source

pub take_sentence-requires : goal.take_sentence-requires
take_sentence-requires c = record { source = rw (← c.self.view_is) at c.requires.source }
