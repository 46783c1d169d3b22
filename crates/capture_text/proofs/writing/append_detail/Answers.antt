use Rattle.std.proofs.Common.{◌≡◌, ℕ, true, List, ◌++◌, ap, refl, subst, sym, ◌∙◌}
use Rattle.std.specs.Prelude.{codes}
use Rattle.gate_events.specs.declared.emit.Detail.{Detail}
use Rattle.capture_text.specs.Lines.{is_one_line}
use Rattle.capture_text.specs.Writing.{detail_text, part}
use Rattle.capture_text.proofs.OneLine.{sfi_in_line}
use Rattle.capture_text.proofs.writing.append_detail.Goals as goal

pub returns-in-GroupKey-clause-one : goal.returns-in-GroupKey-clause-one
returns-in-GroupKey-clause-one c =
    let same = c.as_bytes-in-GroupKey.ensures.text in
    let code = c.from-in-GroupKey.result in
    subst (λ (d : Detail). is_one_line (detail_text d) ≡ true) (sym c.in-GroupKey.is)
    (ap (λ (sfi : List ℕ). is_one_line (codes " sfi=" ++ sfi ++ part (codes "group") c.in-GroupKey.code)) (sym same)
    ∙ ap (λ (k : ℕ). is_one_line (codes " sfi=" ++ c.as_bytes-in-GroupKey.result.now ++ part (codes "group") k)) (sym c.from-in-GroupKey.ensures)
    ∙ c.append_named-in-GroupKey.ensures.one refl (ap is_one_line same ∙ sfi_in_line c.in-GroupKey.sfi c.as_bytes-in-GroupKey.ensures.form) refl)
