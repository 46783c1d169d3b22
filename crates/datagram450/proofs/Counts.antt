-- The count of the line of a datagram of one sentence is that of the lines before it, modulo the greatest one.
use Rattle.std.proofs.Common.{◌≡◌, ℕ, ◌+◌, ◌%◌, List, ◌++◌, None, ap}
use Rattle.std.proofs.Math.Nat.{mod-mod}
use Rattle.tag_block.specs.Tag.{most_count}
use Rattle.datagram450.specs.Datagram.{header, line_text, sentence_datagram}

pub counted_modulo : (source : List ℕ) (before : ℕ) (sentence : List ℕ)
    → sentence_datagram source (before % most_count) sentence ≡ sentence_datagram source before sentence
unfolding sentence_datagram
counted_modulo source before sentence =
    ap (λ count. header ++ line_text (record { group = None; source = source; count = count + 1 }) sentence) (mod-mod before most_count)
