-- The number so far is that of the bits so far.
use Rattle.std.proofs.Common.{◌≡◌, ◌^◌, ◌<◌, drop}
use Rattle.ais_report.specs.Bits.{number_after, number_of}
use Rattle.ais_report.proofs.bits.number_of.Given as goal

abbrev pub invariant-loop-bit : goal.invariant-loop-bit
invariant-loop-bit l = record {
  whole : number_after l.number (drop l.bit-index l.bits) ≡ number_of l.bits;
  below : l.number < 2 ^ l.bit-index;
}
