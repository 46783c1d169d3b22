-- What follows from what a frame is.
use Rattle.std.specs.Prelude.{◌≡◌, ℕ, ◌+◌, ◌≤◌, min, List, length, Option, Some}
use Rattle.slot_views.specs.Slots.{Entry}
use Rattle.fast_packet.specs.declared.verdict.Verdict.{Verdict}
use Rattle.fast_packet.specs.declared.verdict.Verdict.TheVariants.{Short, Opens, Orphan, Again, OutOfOrder, Next}
use Rattle.fast_packet.specs.FastRuns.{longest, counter_of, length_of}
use Rattle.fast_packet.specs.Assembly.{left_of}

-- it has the counter that the assembly waits for, and its part of the message lies within it
pub record IsNext (o : Option Entry) (bytes : List ℕ) (end : ℕ) : Type 0 where
  pub entry : Entry
  pub held : o ≡ Some entry
  pub counter : counter_of bytes ≡ entry.next
  pub reach : end ≡ 1 + min 7 (left_of entry)
  pub enough : end ≤ length bytes

-- a frame that opens an assembly holds what it owes of a message of this length
pub record IsOpener (bytes : List ℕ) : Type 0 where
  pub least : 1 ≤ length_of bytes
  pub most : length_of bytes ≤ longest
  pub enough : 2 + min 6 (length_of bytes) ≤ length bytes

abbrev pub VerdictFits : Option Entry → List ℕ → Verdict → Type 0
VerdictFits o bytes Short = Unit {0}
VerdictFits o bytes Opens = IsOpener bytes
VerdictFits o bytes Orphan = Unit {0}
VerdictFits o bytes Again = Unit {0}
VerdictFits o bytes OutOfOrder = Unit {0}
VerdictFits o bytes (Next end) = IsNext o bytes end
