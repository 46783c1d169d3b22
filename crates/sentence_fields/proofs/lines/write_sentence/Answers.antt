-- What is begun, has its fields and is ended is their sentence, which is read back.
use Rattle.std.proofs.Common.{◌≡◌, length, rules}
use Rattle.sentence_text.proofs.Spelling.{written}
use Rattle.sentence_fields.specs.Field.{body_text}
use Rattle.sentence_fields.proofs.Bodies.{is_read_back}
use Rattle.sentence_fields.proofs.lines.write_sentence.Goals as goal

pub returns : goal.returns
returns c =
    let two : length c.args.talker ≡ 2 = search rules in
    let three : length c.args.formatter ≡ 3 = search rules in
    record {
      text = written c.args.talker c.args.formatter (body_text c.args.fields.now) _ _ _ c.begin.ensures c.append_fields.ensures.text c.end.ensures;
      again = is_read_back c.args.talker c.args.formatter c.args.fields.now two three c.requires.talker c.requires.formatter c.requires.printable c.requires.short;
    }
