use Rattle.std.proofs.Common.{ap, sym, ◌∙◌}
use Rattle.tag_block.specs.Reading as tags
use Rattle.sentence_text.specs.Reading as sentences
use Rattle.datagram450.specs.declared.item.LineItem.{LineItem}
use Rattle.datagram450.specs.Datagram.{item_view}
use Rattle.datagram450.proofs.LineBytes.{line_alone}
use Rattle.datagram450.proofs.item.only_line.Goals as goal

pub returns-in-Line : goal.returns-in-Line
returns-in-Line c =
    let l = c.in-Line in
    let given = sym (ap (λ (i : LineItem). item_view i) l.is) ∙ c.read_line.ensures in
    (line_alone l.at c.args.at c.args.rest.now l.text.now (tags.said l.tag) (sentences.parts l.sentence) given, given)
