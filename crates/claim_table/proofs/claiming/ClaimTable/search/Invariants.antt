use Rattle.claim_table.proofs.SearchLemmas.{IsHeldSoFar, IsNearestSoFar}
use Rattle.claim_table.proofs.claiming.ClaimTable.search.Given as goal

abbrev pub invariant-loop-place : goal.invariant-loop-place
invariant-loop-place l = record {
  held : IsHeldSoFar l.name.0 l.self.holders l.place l.held;
  nearest : IsNearestSoFar l.name.0 l.self.holders l.lost l.place l.fewest;
}
