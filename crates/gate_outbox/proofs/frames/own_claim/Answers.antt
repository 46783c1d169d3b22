use Rattle.std.proofs.Common.{◌≡◌, ℕ, Option, Some, None, refl, ◌∙◌}
use Rattle.std.specs.Option.{unwrap_or}
use Rattle.n2k_id.specs.Name.{name_bytes}
use Rattle.n2k_id.specs.Pgns as pgns
use Rattle.history.specs.Emits.{own_claim, sent}
use Rattle.gate_outbox.proofs.frames.own_claim.Goals as goal

of_none : (name : ℕ) (own : Option ℕ) → sent 6 pgns.address_claimed 255 (unwrap_or own 254) (name_bytes name) ≡ own_claim name own
of_none name None = refl
of_none name (Some address) = refl

pub returns-clause-frame : goal.returns-clause-frame
returns-clause-frame c =
    (rw (c.unwrap_or.ensures, c.write_name.ensures.bytes) at c.frame_of.ensures.frame) ∙ of_none c.args.name.0 c.args.own
