use Rattle.std.proofs.Common.{List, ℕ, false, refl, subst}
use Rattle.std.specs.List.{flat_map}
use Rattle.sentence_fields.specs.Field.{texts_of}
use Rattle.sentence_profile.specs.Writing.{IsText}
use Rattle.readings.specs.Rows.{about_of}
use Rattle.line_commands.proofs.convert.send_reading.Goals as goal

pub returns-clause-sent : goal.returns-clause-sent
returns-clause-sent g c =
    let lines : List (List ℕ) = texts_of c.sentences.new.out in
    let said : IsText c.args.reading.now (about_of c.row.result).talker false lines =
    subst (λ (talker : List ℕ). IsText c.args.reading.now talker false lines) c.talker.ensures.talker c.sentences.ensures.said in (
      flat_map (λ (line : List ℕ). line) lines,
      (lines, subst (λ row. IsText c.args.reading.now (about_of row).talker false lines) c.row.ensures said, refl),
      c.send_lines.ensures.sent,
    )
