use Rattle.std.proofs.Common.{◌≡◌, ◌-◌, true, length, drop, refl, sym, subst, arith}
use Rattle.std.specs.Char.{is_ascii_hexdigit}
use Rattle.std.specs.List.{list_all}
use Rattle.std.proofs.lemmas.List.{length-drop, take_all}
use Rattle.capture_text.proofs.UsualFront.{whole_no_controls}
use Rattle.capture_text.proofs.UsualLines.{usual_read}
use Rattle.capture_text.proofs.usual.usual_frame.Goals as goal

pub returns-in-Ok-clause-reads : goal.returns-in-Ok-clause-reads
returns-in-Ok-clause-reads c =
    let front = c.has_usual_front.ensures in
    let is = c.if-not-has_usual_front.false in
    usual_read c.args.line.now _ _ _ _ _ c.if-line-ne-USUAL_LINE.false refl c.usual_moment.ensures (front.bus is) (front.mark is)
    (sym c.in_ok-id.ensures) (c.put_eight_data.ensures.data c.if-not-put_eight_data.false) c.in-Ok.ensures.reads

pub returns-in-Ok-clause-no_controls : goal.returns-in-Ok-clause-no_controls
returns-in-Ok-clause-no_controls c =
    whole_no_controls c.args.line.now c.if-line-ne-USUAL_LINE.false (c.has_usual_front.ensures.no_controls c.if-not-has_usual_front.false)
    (subst (λ xs. list_all is_ascii_hexdigit xs ≡ true) (take_all (length c.args.line.now - 34) (drop 34 c.args.line.now) (omega (arith, length-drop 34 c.args.line.now))) (c.put_eight_data.ensures.digits c.if-not-put_eight_data.false))
