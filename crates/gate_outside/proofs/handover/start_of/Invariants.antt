use Rattle.std.proofs.Common.{◌≡◌, take}
use Rattle.gate_outside.specs.LinkMemory.{total_len}
use Rattle.gate_outside.proofs.handover.start_of.Given as goal

abbrev pub invariant-loop-parcel : goal.invariant-loop-parcel
invariant-loop-parcel l = record {
  items : l.parcel-items ≡ take l.place l.parcels;
  start : l.start ≡ total_len (take l.parcel-index l.parcel-items);
}
