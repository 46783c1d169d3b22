-- There are fewer than a thousand satellites.
use Rattle.std.proofs.Common.{◌≡◌, ◌<◌, ℤ, w64, FitsSigned, Option, Some, subst, ap, ◌∙◌, rules, arith}
use Rattle.std.specs.Prelude.{unsigned_abs}
use Rattle.std.proofs.lemmas.Int.{to_z-of_z}
use Rattle.sentence_fields.specs.declared.field.Field.TheVariants.{Satellites}
use Rattle.sentence_fields.specs.Field.{IsPrintable}
use Rattle.sentence_fields.proofs.field.append_satellites.Goals as goal

few_in : (raw : Option ℤ) (v : ℤ) → raw ≡ Some v → IsPrintable (Satellites raw) → unsigned_abs v < 1000
few_in raw v e h = let P : Option ℤ → Type 0 = λ o. IsPrintable (Satellites o) in subst P e h

pub append_few-requires-clause-below : goal.append_few-requires-clause-below
append_few-requires-clause-below c =
    let fits : FitsSigned w64 c.in-Some.raw = search rules in
    let value : c.unsigned_abs-number.result ≡ unsigned_abs c.in-Some.raw =
    c.unsigned_abs-number.ensures.value ∙ ap unsigned_abs (to_z-of_z w64 c.in-Some.raw fits) in
    omega (arith, value, few_in c.args.raw c.in-Some.raw c.in-Some.is c.requires.few)
