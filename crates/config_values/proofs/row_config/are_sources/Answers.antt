use Rattle.config_values.proofs.row_config.are_sources.Goals as goal

pub returns-then-are_valid : goal.returns-then-are_valid
returns-then-are_valid c =
    (λ holds. record { each = c.are_valid.ensures.0 c.if-are_valid.true; apart = c.are_apart.ensures.0 holds }, λ sources. c.are_apart.ensures.1 sources.apart)
