use Rattle.gate_config.specs.Keys.{texts}
use Rattle.gate_config.proofs.identity.text_keys.Goals as goal

pub returns-clause-said : goal.returns-clause-said
unfolding texts
returns-clause-said c =
    rw (
      ← (rw c.default_text.ensures at c.in_ok-model.ensures.said),
      ← (rw c.default_text-2.ensures at c.in_ok-software.ensures.said),
      ← (rw c.default_text-3.ensures at c.in_ok-version.ensures.said),
      ← (rw c.default_text-4.ensures at c.in_ok-serial.ensures.said),
    )
