-- What is begun and ended behind a comma and the body is the sentence.
use Rattle.std.proofs.Common.{◌≡◌, ◌∷◌, ◌++◌, [], append_assoc, List, ℕ, length, length-append, refl, sym, ap, subst, ◌∙◌, arith, rules}
use Rattle.std.proofs.lemmas.Grind.{common_steps}
use Rattle.sentence_text.specs.Reading.{read}
use Rattle.sentence_text.specs.Sentence.{IsSentence, parts_of, sentence}
use Rattle.sentence_text.proofs.Fields.{is_body}
use Rattle.sentence_text.proofs.Spelling.{IsWritten, is_sentence, read_back, written}
use Rattle.sentence_text.proofs.writing.write.Goals as goal

text : (c : goal.After-end) → c.end.new.out.items ≡ sentence (parts_of c.args.talker c.args.formatter c.args.body.now)
text c =
    written c.args.talker c.args.formatter (44 ∷ c.args.body.now) _ _ _ c.begin.ensures
    (c.append.ensures ∙ ap (λ (x : List ℕ). x ++ c.args.body.now) c.push.ensures.items ∙ append_assoc c.begin.new.out.items (44 ∷ []) c.args.body.now) c.end.ensures

is_written : (c : goal.After-end) → IsWritten (parts_of c.args.talker c.args.formatter c.args.body.now)
is_written c =
    let two : length c.args.talker ≡ 2 = search rules in
    let three : length c.args.formatter ≡ 3 = search rules in
    record {
      starts = refl;
      two = two;
      three = three;
      talker_bytes = c.requires.talker;
      formatter_bytes = c.requires.formatter;
      body = is_body c.args.body.now c.requires.body;
      short = simp length-append (omega (arith, two, three));
    }

pub returns-clause-written : goal.returns-clause-written
returns-clause-written c = λ yes. text c

pub returns-clause-grammar : goal.returns-clause-grammar
returns-clause-grammar c = λ yes. subst (λ (bytes : List ℕ). IsSentence (parts_of c.args.talker c.args.formatter c.args.body.now) bytes) (sym (text c))
    (is_sentence (parts_of c.args.talker c.args.formatter c.args.body.now) (is_written c))

pub returns-clause-again : goal.returns-clause-again
returns-clause-again c = λ yes. ap read (text c) ∙ read_back (parts_of c.args.talker c.args.formatter c.args.body.now) (is_written c)

pub end-requires-clause-room : goal.end-requires-clause-room
end-requires-clause-room c = grind (arith, common_steps)

pub returns-clause-fits : goal.returns-clause-fits
returns-clause-fits c = grind (arith, common_steps)
