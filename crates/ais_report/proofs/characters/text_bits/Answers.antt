-- Each character is six bits more.
use Rattle.std.proofs.Common.{ℕ, ◌++◌, length, length-append, length-drop, append-nil, sym, ap, ◌∙◌, arith}
use Rattle.std.proofs.lemmas.List.{at_drop_all}
use Rattle.std.proofs.lemmas.Grind.{common_steps}
use Rattle.ais_report.specs.Read.{text_bits}
use Rattle.ais_report.proofs.characters.text_bits.Goals as goal

pub loop-character-preserved : goal.loop-character-preserved
unfolding text_bits
loop-character-preserved c = record {
  whole = grind (arith, common_steps);
  count = omega (arith, length-drop {A = ℕ}, simp length-append at (ap length c.append_character.ensures), c.loop-character.invariant.count);
}

pub returns : goal.returns
unfolding text_bits
returns c =
    let none = at_drop_all text_bits c.args.text.now c.loop-character.character-index (omega arith) in
    sym (append-nil c.loop-character.bits.items) ∙ (ap (λ rest. c.loop-character.bits.items ++ rest) (sym none) ∙ c.loop-character.invariant.whole)
