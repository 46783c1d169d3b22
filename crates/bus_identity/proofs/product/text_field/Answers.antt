use Rattle.std.proofs.lemmas.List.{drop-replicate}
use Rattle.std.proofs.Common.{ℕ, List, ◌++◌, length, drop, replicate, ap, ◌∙◌}
use Rattle.bus_identity.proofs.product.text_field.Goals as goal

pub returns : goal.returns
returns c =
    let text = c.args.text.now in
    ap {B = List ℕ} (λ l. l ++ drop (length text) (replicate 32 255)) c.copy_from_slice.ensures.after
    ∙ ap {B = List ℕ} (λ l. text ++ l) (drop-replicate {X = ℕ} (length text) 32 255)
