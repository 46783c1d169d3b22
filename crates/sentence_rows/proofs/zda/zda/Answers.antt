-- The date of the day is the one whose number the day is.
use Rattle.std.proofs.Common.{FitsSigned, w64, rules, ◌∙◌}
use Rattle.std.proofs.lemmas.Int.{to_z-of_z}
use Rattle.sentence_profile.proofs.Unique.{dated_zda}
use Rattle.sentence_rows.proofs.zda.zda.Goals as goal

pub returns-in-Some : goal.returns-in-Some
returns-in-Some c =
    let fits : FitsSigned w64 c.in-Some.day = search rules in
    let on = c.civil_date.ensures ∙ to_z-of_z w64 c.in-Some.day fits in
    dated_zda c.args.day c.args.time c.in-Some.day c.args.talker _ _ c.civil_date.result c.in-Some.is on c.append_date.ensures.said c.append_date.ensures.again
