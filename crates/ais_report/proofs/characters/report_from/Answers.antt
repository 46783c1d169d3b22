use Rattle.std.proofs.Common.{◌==◌, ap, ◌∙◌, FitsSigned, rules}
use Rattle.std.specs.Int.{w32}
use Rattle.std.proofs.lemmas.Int.{to_z-of_z}
use Rattle.ais_report.specs.Read.{report_from}
use Rattle.ais_report.proofs.ReadLemmas.{same_report}
use Rattle.ais_report.proofs.characters.report_from.Goals as goal

pub returns : goal.returns
unfolding report_from
returns c =
    let long : FitsSigned w32 c.signed_at.result = search rules in
    let wide : FitsSigned w32 c.signed_at-2.result = search rules in
    same_report (report_from c.args.bits.now) _ _ _ _ _ _ _ _ _ _ _ _ _ _
    c.number_at.ensures.number c.number_at-2.ensures.number c.number_at-3.ensures.number c.number_at-4.ensures.number c.number_at-5.ensures.number
    (ap (λ n. n == 1) c.number_at-6.ensures.number) (to_z-of_z w32 c.signed_at.result long ∙ c.signed_at.ensures) (to_z-of_z w32 c.signed_at-2.result wide ∙ c.signed_at-2.ensures)
    c.number_at-7.ensures.number c.number_at-8.ensures.number c.number_at-9.ensures.number c.number_at-10.ensures.number (ap (λ n. n == 1) c.number_at-11.ensures.number) c.number_at-12.ensures.number
