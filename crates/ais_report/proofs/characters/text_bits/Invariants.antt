-- What is written and what is left make up the whole.
use Rattle.std.proofs.Common.{◌≡◌, ◌+◌, ◌*◌, ◌++◌, length, drop}
use Rattle.ais_report.specs.Read.{text_bits}
use Rattle.ais_report.proofs.characters.text_bits.Given as goal

abbrev pub invariant-loop-character : goal.invariant-loop-character
invariant-loop-character l = record {
  whole : l.bits.items ++ text_bits (drop l.character-index l.text) ≡ text_bits l.text;
  count : length l.bits.items + 6 * length (drop l.character-index l.text) ≡ 168;
}
