-- What it means that a subject isn't taken from a device, by its NAME (ISO 11783-5).
use Rattle.std.specs.Prelude.{◌≡◌, ℕ, true, false, List, [], Option, Some, None}
use Rattle.claim_table.specs.Claims.{holder_at}
use Rattle.claim_table.specs.declared.answer.Holder.{Holder}
use Rattle.source_choice.specs.declared.rank.Rank.{Rank}
use Rattle.source_choice.specs.SubjectRules.{SubjectRule, is_matched, rank_among, rank_of}
use Rattle.history.specs.Messages.{Message}
use Rattle.source_choice.specs.declared.told.Told.{Told}
use Rattle.history.specs.Subjects.{is_chosen, outranks}
use Rattle.history.specs.ChoiceLaws.{kept_note}

-- none of its messages is selected, whatever else came
abbrev pub IgnoredAreUnsaid : Type 0
IgnoredAreUnsaid =
    (tells : Message → Option Told) (rules : ℕ → SubjectRule) (holders : List (Option Holder)) (older : List Message) (d : Message) (t : Told)
    → is_matched (rules t.subject).ignored d.name ≡ true → is_chosen tells rules holders older d t ≡ false

-- nothing is noted of the address that it holds
abbrev pub IgnoredAreUnnoted : Type 0
IgnoredAreUnnoted =
    (tells : Message → Option Told) (rule : SubjectRule) (holders : List (Option Holder)) (subject : ℕ) (older : List Message) (a : ℕ) (holder : Holder)
    → holder_at holders a ≡ Some holder → is_matched rule.ignored holder.name.0 ≡ true → kept_note tells rule holders subject older a ≡ None

-- and no other source is kept back by it
abbrev pub IgnoredKeepNobodyBack : Type 0
IgnoredKeepNobodyBack =
    (tells : Message → Option Told) (rule : SubjectRule) (holders : List (Option Holder)) (subject : ℕ) (rank : Rank) (m : ℕ) (older : List Message) (a : ℕ) (holder : Holder)
    → holder_at holders a ≡ Some holder → is_matched rule.ignored holder.name.0 ≡ true → outranks tells rule holders subject rank m older a ≡ false

-- where nobody is ignored, a rank is the place among the sources, and the NAME
abbrev pub RanksWithoutIgnored : Type 0
RanksWithoutIgnored = (rule : SubjectRule) (name : ℕ) → rule.ignored ≡ [] → rank_of rule name ≡ rank_among rule name
