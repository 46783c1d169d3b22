use Rattle.std.proofs.Common.{◌≡◌, map, drop, Bor, List, ℕ}
use Rattle.config_document.specs.Unknown.{is_among}
use Rattle.config_document.proofs.unknown.is_among.Given as goal

abbrev pub invariant-loop-word : goal.invariant-loop-word
invariant-loop-word l =
    is_among l.name (map (λ (word : Bor (List ℕ)). word.now) (drop l.word-index l.known)) ≡ is_among l.name (map (λ (word : Bor (List ℕ)). word.now) l.known)
