-- Day, month and year are those of the date that is computed for the day.
use Rattle.std.proofs.Common.{FitsSigned, w64, rules, ◌∙◌}
use Rattle.std.proofs.lemmas.Int.{to_z-of_z}
use Rattle.sentence_profile.proofs.Unique.{same_number}
use Rattle.sentence_rows.proofs.rmc.date_number.Goals as goal

pub returns : goal.returns
returns c =
    let fits : FitsSigned w64 c.args.day = search rules in
    let on = c.civil_date-date.ensures ∙ to_z-of_z w64 c.args.day fits in
    rw c.year_of.ensures (same_number c.args.day c.civil_date-date.result c.requires on)
