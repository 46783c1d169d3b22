use Rattle.std.proofs.Common.{◌≡◌, ◌≤◌, vec_len, vec_capacity}
use Rattle.std.specs.List.{AllByRecursion}
use Rattle.slot_views.proofs.buffers.buffers.Given as goal

abbrev pub invariant-loop : goal.invariant-loop
invariant-loop l = record {
  made : vec_len l.all ≡ l.counter;
  room : l.count ≤ vec_capacity l.all;
  sizes : AllByRecursion (λ b. l.size ≤ vec_capacity b) l.all.items;
}
