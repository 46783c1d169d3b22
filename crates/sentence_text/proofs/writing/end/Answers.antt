use Rattle.std.proofs.Common.{ℕ, List, drop, append_assoc, ap, ◌∙◌}
use Rattle.std.proofs.lemmas.List.{take_rest}
use Rattle.sentence_text.specs.Sentence.{xor_of}
use Rattle.sentence_text.proofs.writing.end.Goals as goal

pub returns : goal.returns
returns c =
    let sum = c.xor-sum.ensures ∙ (ap xor_of (take_rest c.deref.result.now 1) ∙ ap (λ (bytes : List ℕ). xor_of (drop 1 bytes)) c.deref.ensures.0) in
    rw (c.push-5.ensures.items, c.push-4.ensures.items, c.push-3.ensures.items, c.push-2.ensures.items, c.push.ensures.items, c.sum_digits.ensures, sum) (simp append_assoc)
