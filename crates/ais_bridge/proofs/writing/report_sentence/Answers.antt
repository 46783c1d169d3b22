use Rattle.std.proofs.Common.{◌≡◌, ℕ, ◌-◌, List, ◌∷◌, length, take, drop, refl, append_assoc, arith}
use Rattle.std.proofs.lemmas.Grind.{common_steps}
use Rattle.sentence_text.specs.Sentence.{content}
use Rattle.ais_bridge.specs.Reports.{report_parts}
use Rattle.ais_bridge.proofs.writing.report_sentence.Goals as goal

-- what stands behind the first byte
behind_first : (text : List ℕ) → take (length text - 1) (drop 1 text) ≡ drop 1 text
behind_first text = grind (arith, common_steps)

pub armour-requires : goal.armour-requires
armour-requires c = record { valid = c.requires.valid }

pub returns-clause-text : goal.returns-clause-text
returns-clause-text c =
    let parts = report_parts (c.args.report.now, c.args.channel) in
    let begun : c.append-5.new.line.items ≡ parts.start ∷ content parts
    = rw (c.append-5.ensures, c.append-4.ensures, c.append-3.ensures, c.append-2.ensures, c.append.ensures, c.new-line.ensures, c.armour.ensures) refl in
    rw (c.append-8.ensures, c.append-7.ensures, c.append-6.ensures, c.sum_digits.ensures, c.xor-sum.ensures, behind_first c.deref.result.now, c.deref.ensures.0, begun) (simp append_assoc)
