-- Computed: whose messages are said, by the places of their patterns and by their NAMEs.
use Rattle.std.proofs.Common.{refl}
use Rattle.history.specs.RankCases.{BySmallerName, NotListed, OthersByName, IgnoredByOneField, IgnoredThoughListed, AllIgnored}
use Rattle.history.proofs.Computed.{cases}

pub by_smaller_name : BySmallerName
unfolding cases
by_smaller_name = refl

pub not_listed : NotListed
unfolding cases
not_listed = refl

pub others_by_name : OthersByName
unfolding cases
others_by_name = refl

pub ignored_by_one_field : IgnoredByOneField
unfolding cases
ignored_by_one_field = refl

pub ignored_though_listed : IgnoredThoughListed
unfolding cases
ignored_though_listed = refl

pub all_ignored : AllIgnored
unfolding cases
all_ignored = refl
