-- What was appended and what is still to be appended make up the whole.
use Rattle.std.proofs.Common.{◌≡◌, ◌+◌, ◌≤◌, ◌++◌, length}
use Rattle.std.specs.List.{flat_map}
use Rattle.arrayvec.specs.ArrayVec.{array_vec_len}
use Rattle.tag_block.specs.Writing.{longest_packet}
use Rattle.plain_out.specs.Plain.{sentence_of}
use Rattle.plain_out.proofs.sentences.push_all.Given as goal

abbrev pub invariant-loop-item : goal.invariant-loop-item
invariant-loop-item l = record {
  room : array_vec_len l.out + length (flat_map sentence_of l.items) ≤ longest_packet;
  whole : l.out.items ++ flat_map sentence_of l.items ≡ l.initial.out.items ++ flat_map sentence_of l.initial.items;
}

abbrev pub decreases-loop-item : goal.decreases-loop-item
decreases-loop-item l = length l.items
