use Rattle.std.proofs.Common.{◌∙◌, ap, sym}
use Rattle.claim_table.specs.Claims.{Claims}
use Rattle.claim_table.proofs.HandlingLemmas.{obeys, too_great}
use Rattle.claim_table.proofs.claiming.ClaimTable.is_obeyed.Goals.{then-address-lt-MOVE_PLACES, else-address-lt-MOVE_PLACES}
use Rattle.claim_table.proofs.claiming.ClaimTable.is_obeyed.Goals as goal

pub returns-then-ne : goal.returns-then-ne
returns-then-ne c = elim c.if-address-lt-MOVE_PLACES.branch [
  | then-address-lt-MOVE_PLACES w ↦
      obeys c.args.self.now c.self.inside.own c.args.address c.holder.result c.is_none.result (ap (λ (k : Claims). k.own) c.self.view_is) w.if-address-lt-MOVE_PLACES.true
      (sym w.ne.ensures ∙ sym w.value-is ∙ c.if-ne.true) c.holder.ensures c.is_none.ensures
  | else-address-lt-MOVE_PLACES w ↦ absurd (too_great c.args.address w.if-address-lt-MOVE_PLACES.false (sym w.value-is ∙ c.if-ne.true))
]
