use Rattle.std.proofs.Common.{◌≡◌, Some, length, true, false, nat_eq, sym, ap, subst, ◌∙◌, arith, rules}
use Rattle.std.specs.Cmp.Lexicographic.{pointwise}
use Rattle.ais_report.specs.Armour.{armour_of}
use Rattle.ais_report.specs.Fields.{IsReport}
use Rattle.ais_report.specs.Read.{report_from, text_bits}
use Rattle.ais_report.proofs.ReadLemmas.{length_armour, report_read_again, same_list}
use Rattle.ais_report.proofs.SixLemmas.{length_text}
use Rattle.ais_report.proofs.characters.read_armour.Goals as goal

pub returns-else-eq-clause-only : goal.returns-else-eq-clause-only
returns-else-eq-clause-only c r valid e =
    let deref = c.deref.ensures in
    let bits : c.deref.result.now ≡ text_bits c.args.text.now = search (rules, deref, c.text_bits.ensures) in
    let same : c.report_from-report.result ≡ r =
    c.report_from-report.ensures ∙ (ap report_from bits ∙ report_read_again r c.args.text.now valid e) in
    let slice : c.as_slice.result.now ≡ c.args.text.now = c.as_slice.ensures ∙ (c.armour.ensures ∙ (ap armour_of same ∙ e)) in
    let equal : c.eq.result ≡ true =
    c.eq.ensures ∙ (ap (λ text. pointwise nat_eq text c.args.text.now) slice ∙ same_list c.args.text.now) in
    let never : true ≡ false = sym equal ∙ c.if-eq.false in
    cc

pub returns-then-text-ne-CHARACTERS-clause-only : goal.returns-then-text-ne-CHARACTERS-clause-only
returns-then-text-ne-CHARACTERS-clause-only c r valid e = absurd (omega (arith, length_armour r c.args.text.now e))

pub returns-then-not-is_valid-clause-only : goal.returns-then-not-is_valid-clause-only
returns-then-not-is_valid-clause-only c r valid e =
    let deref = c.deref.ensures in
    let bits : c.deref.result.now ≡ text_bits c.args.text.now = search (rules, deref, c.text_bits.ensures) in
    let same : c.report_from-report.result ≡ r =
    c.report_from-report.ensures ∙ (ap report_from bits ∙ report_read_again r c.args.text.now valid e) in
    let is = c.is_valid.ensures.1 (subst IsReport (sym same) valid) in
    absurd (search (rules, is))

pub returns-then-eq-clause-only : goal.returns-then-eq-clause-only
returns-then-eq-clause-only c r valid e =
    let deref = c.deref.ensures in
    let bits : c.deref.result.now ≡ text_bits c.args.text.now = search (rules, deref, c.text_bits.ensures) in
    let same : c.report_from-report.result ≡ r =
    c.report_from-report.ensures ∙ (ap report_from bits ∙ report_read_again r c.args.text.now valid e) in
    ap Some same

pub returns-then-eq-clause-found : goal.returns-then-eq-clause-found
returns-then-eq-clause-found c = search rules

pub report_from-report-requires : goal.report_from-report-requires
report_from-report-requires c =
    let deref = c.deref.ensures in
    let bits : c.deref.result.now ≡ text_bits c.args.text.now = search (rules, deref, c.text_bits.ensures) in
    ap length bits ∙ length_text c.args.text.now (search rules)
