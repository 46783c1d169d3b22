-- The date that the library has is the one of these numbers.
use Rattle.std.proofs.Common.{◌∙◌, ap, refl, to_z, of_z, w8, w16, w64, FitsSigned, rules, arith}
use Rattle.std.proofs.lemmas.Bool.{false≢true}
use Rattle.std.proofs.lemmas.Int.{ints, to_z-of_z}
use Rattle.sentence_profile.specs.Columns.{day_within}
use Rattle.sentence_profile.proofs.Dates.{no_date_of, dated_of, inside, outside}
use Rattle.sentence_rows.proofs.clock.day_number.Goals as goal

pub returns-in-Err : goal.returns-in-Err
returns-in-Err c =
    let succeeds = c.in-Err.ensures.succeeds in
    no_date_of c.args.year c.args.month c.args.day (to_z w16 c.args.year) (to_z w8 c.args.month) (to_z w8 c.args.day) (omega (arith, ints)) (omega (arith, ints)) (omega (arith, ints)) (λ is. false≢true (succeeds.1 is))

pub returns-then-holds : goal.returns-then-holds
returns-then-holds c =
    let fits : FitsSigned w64 c.days_since_1970-day.result = search rules in
    let is = to_z-of_z w64 c.days_since_1970-day.result fits ∙ c.days_since_1970-day.ensures in
    let within = c.if-holds.ensures in
    inside (to_z w64 (of_z w64 c.days_since_1970-day.result)) (within.0 refl)
    ∙ ap day_within is
    ∙ dated_of c.args.year c.args.month c.args.day (to_z w16 c.args.year) (to_z w8 c.args.month) (to_z w8 c.args.day) c.in-Ok.date (omega (arith, ints)) (omega (arith, ints)) (omega (arith, ints)) c.in-Ok.ensures.value

pub returns-else-holds : goal.returns-else-holds
returns-else-holds c =
    let fits : FitsSigned w64 c.days_since_1970-day.result = search rules in
    let is = to_z-of_z w64 c.days_since_1970-day.result fits ∙ c.days_since_1970-day.ensures in
    let within = c.if-holds.ensures in
    outside (to_z w64 (of_z w64 c.days_since_1970-day.result)) (λ holds. false≢true (within.1 holds))
    ∙ ap day_within is
    ∙ dated_of c.args.year c.args.month c.args.day (to_z w16 c.args.year) (to_z w8 c.args.month) (to_z w8 c.args.day) c.in-Ok.date (omega (arith, ints)) (omega (arith, ints)) (omega (arith, ints)) c.in-Ok.ensures.value
