-- So many are there as were made.
use Rattle.std.proofs.Common.{◌≡◌, None, replicate}
use Rattle.plain_out.proofs.voice.Voice.new.Given as goal

abbrev pub invariant-loop : goal.invariant-loop
invariant-loop l = l.lasts.items ≡ replicate l.counter None
