-- Each field is what the words behind the one before state.
use Rattle.std.proofs.Common.{refl}
use Rattle.config_document.specs.Patterns.{stating_in}
use Rattle.config_document.proofs.pattern.stating.Goals as goal

pub returns-clause-value : goal.returns-clause-value
unfolding stating_in
returns-clause-value c =
    rw (
      c.ended.ensures.value,
      c.short.ensures,
      c.byte.ensures,
      c.byte-2.ensures,
      c.byte-3.ensures,
      c.byte-4.ensures,
      c.byte-5.ensures,
      c.byte-6.ensures,
      c.byte-7.ensures,
      c.flag.ensures,
      c.stated-unique.ensures.number,
      c.stated-manufacturer.ensures.number,
      c.stated-instance_lower.ensures.number,
      c.stated-instance_upper.ensures.number,
      c.stated-function.ensures.number,
      c.stated-reserved.ensures.number,
      c.stated-class.ensures.number,
      c.stated-system_instance.ensures.number,
      c.stated-industry.ensures.number,
      c.stated-arbitrary.ensures.number,
      c.stated-arbitrary.ensures.behind,
      c.stated-industry.ensures.behind,
      c.stated-system_instance.ensures.behind,
      c.stated-class.ensures.behind,
      c.stated-reserved.ensures.behind,
      c.stated-function.ensures.behind,
      c.stated-instance_upper.ensures.behind,
      c.stated-instance_lower.ensures.behind,
      c.stated-manufacturer.ensures.behind,
      c.stated-unique.ensures.behind,
    ) refl
