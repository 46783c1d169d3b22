-- What is written and what is left make up the whole.
use Rattle.std.proofs.Common.{◌≡◌, ◌*◌, ◌++◌, length, drop}
use Rattle.ais_report.specs.Armour.{characters}
use Rattle.ais_report.proofs.characters.characters.Given as goal

abbrev pub invariant-loop-place : goal.invariant-loop-place
invariant-loop-place l = record {
  whole : l.text.items ++ characters (drop (6 * l.place) l.bits) ≡ characters l.bits;
  count : length l.text.items ≡ l.place;
}
