use Rattle.std.proofs.Common.{List, rules, subst, sym}
use Rattle.std.specs.List.{AllByRecursion}
use Rattle.sentence_fields.specs.Field.{IsPrintable}
use Rattle.sentence_fields.specs.declared.field.Field.{Field}
use Rattle.navigation.proofs.Printable.{rmb_printable}
use Rattle.navigation.proofs.writing.rmb.Goals as goal

pub returns-clause-fields : goal.returns-clause-fields
returns-clause-fields c = search rules

pub returns-clause-printable : goal.returns-clause-printable
returns-clause-printable c = subst (λ (fields : List Field). AllByRecursion IsPrintable fields) (sym (returns-clause-fields c)) (rmb_printable c.args.leg.now c.args.error c.requires)
