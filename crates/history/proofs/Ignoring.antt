-- A device that a subject isn't taken from has no rank in it.
use Rattle.std.proofs.Common.{◌≡◌, ℕ, Bool, true, Option, Some, None, ap, ◌∙◌, arith}
use Rattle.std.specs.Prelude.{if◌then◌else◌}
use Rattle.claim_table.specs.declared.answer.Holder.{Holder}
use Rattle.source_choice.specs.declared.rank.Rank.{Rank}
use Rattle.source_choice.specs.SubjectRules.{SubjectRule, is_matched, rank_among, rank_of}
use Rattle.history.specs.Subjects.{holder_rank}
use Rattle.history.specs.IgnoringLaws.{IgnoredAreUnsaid, IgnoredAreUnnoted, IgnoredKeepNobodyBack, RanksWithoutIgnored}

none_there : (rule : SubjectRule) (name : ℕ) → is_matched rule.ignored name ≡ true → rank_of rule name ≡ None
none_there rule name e = ap (λ (b : Bool). let r : Option Rank = if b then None else rank_among rule name in r) e

none_held : (rule : SubjectRule) (x : Option Holder) (holder : Holder) → x ≡ Some holder → is_matched rule.ignored holder.name.0 ≡ true → holder_rank rule x ≡ None
none_held rule x holder held e = ap (holder_rank rule) held ∙ none_there rule holder.name.0 e

pub ignored_are_unsaid : IgnoredAreUnsaid
ignored_are_unsaid tells rules holders older d t e = grind (arith, none_there)

pub ignored_are_unnoted : IgnoredAreUnnoted
ignored_are_unnoted tells rule holders subject older a holder held e = grind (arith, none_held)

pub ignored_keep_nobody_back : IgnoredKeepNobodyBack
ignored_keep_nobody_back tells rule holders subject rank m older a holder held e = grind (arith, none_held)

pub ranks_without_ignored : RanksWithoutIgnored
ranks_without_ignored rule name e = grind arith
