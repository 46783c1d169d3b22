-- The fields of the value's columns make its sentence.
use Rattle.std.proofs.Common.{◌≡◌, ◌≤◌, ◌∙◌, List, length, ap, subst, sym, rules}
use Rattle.std.specs.List.{AllByRecursion}
use Rattle.sentence_fields.specs.declared.field.Field.{Field}
use Rattle.sentence_fields.specs.Field.{IsPrintable, body_width, sentence_by}
use Rattle.quantities.proofs.Sayings.{address, few_columns, form, printable, same_sentence, short}
use Rattle.quantities.proofs.saying.sentence.Goals as goal

pub fields_of-fields-requires-clause-few : goal.fields_of-fields-requires-clause-few
fields_of-fields-requires-clause-few c = few_columns c.args.twin_engines c.args.value.now c.layout-layout.result.now c.layout-layout.ensures c.requires.range

pub fields_of-fields-requires-clause-printable : goal.fields_of-fields-requires-clause-printable
fields_of-fields-requires-clause-printable c = printable c.args.twin_engines c.args.value.now c.layout-layout.result.now c.layout-layout.ensures c.requires.range

pub write_sentence-requires-clause-formatter : goal.write_sentence-requires-clause-formatter
write_sentence-requires-clause-formatter c = address c.args.twin_engines c.args.value.now c.layout-layout.result.now c.layout-layout.ensures c.requires.range

pub write_sentence-requires-clause-printable : goal.write_sentence-requires-clause-printable
write_sentence-requires-clause-printable c =
    let said = printable c.args.twin_engines c.args.value.now c.layout-layout.result.now c.layout-layout.ensures c.requires.range in
    subst (λ (fs : List Field). AllByRecursion IsPrintable fs) (sym (c.deref.ensures.0 ∙ c.fields_of-fields.ensures)) said

pub write_sentence-requires-clause-short : goal.write_sentence-requires-clause-short
write_sentence-requires-clause-short c =
    let said = short c.args.twin_engines c.args.value.now c.layout-layout.result.now c.layout-layout.ensures c.requires.range in
    subst (λ (fs : List Field). body_width fs ≤ 71) (sym (c.deref.ensures.0 ∙ c.fields_of-fields.ensures)) said

pub returns-clause-said : goal.returns-clause-said
returns-clause-said c =
    c.write_sentence.ensures.text
    ∙ ap (λ (fs : List Field). sentence_by c.args.talker c.layout-layout.result.now.formatter fs) (c.deref.ensures.0 ∙ c.fields_of-fields.ensures)
    ∙ same_sentence c.args.twin_engines c.args.value.now c.layout-layout.result.now c.layout-layout.ensures c.args.talker

pub returns-clause-form : goal.returns-clause-form
returns-clause-form c =
    let two : length c.args.talker ≡ 2 = search rules in
    form c.args.twin_engines c.args.value.now c.args.talker two c.requires.talker c.requires.range
