-- Whose message is said of a subject: that of the best source that is fresh, by the NAME (ISO 11783-5) of the device that holds its address.
-- Whatever several devices may say is a subject, and goes by a number in its table; what a message tells, and from whom a subject is taken,
-- is a table's own. The rows are one.
use Rattle.std.specs.Prelude.{ℕ, ◌+◌, ◌*◌, Bool, ◌&&◌, not, ◌==◌, nat_le, List, find, Option, option_and_then}
use Rattle.std.specs.List.{list_any}
use Rattle.source_choice.specs.declared.rank.Rank.{Rank}
use Rattle.source_choice.specs.declared.told.Told.{Told}
use Rattle.source_choice.specs.Ranks.{is_before}
use Rattle.source_choice.specs.SubjectRules.{SubjectRule, rank_of}
use Rattle.claim_table.specs.Claims.{holder_at}
use Rattle.claim_table.specs.declared.answer.Holder.{Holder}
use Rattle.history.specs.Settings.{is_some_that}
use Rattle.history.specs.Known.{held_since}
use Rattle.history.specs.Messages.{Message}

-- ---- what a message tells: of which subject, and whether the values are there without which it says nothing of it

abbrev pub is_about : ℕ → Option Told → Bool
is_about subject told = is_some_that (λ t. t.subject == subject) told

abbrev pub is_usable : Option Told → Bool
is_usable told = is_some_that (λ t. t.usable) told

-- what was told at a moment says something, and isn't older than the timeout, which is in milliseconds
abbrev pub is_current : ℕ → ℕ → ℕ → Option Told → Bool
is_current timeout m told_at told = is_usable told && nat_le m (told_at + 1000 * timeout)

-- ---- the ranks of others

-- another rank is the smaller one
abbrev pub is_better : Rank → Option Rank → Bool
is_better rank other = is_some_that (λ x. is_before x rank) other

abbrev pub holder_rank : SubjectRule → Option Holder → Option Rank
holder_rank rule holder = option_and_then (λ x. rank_of rule x.name.0) holder

-- by what each message tells
module _ (tells : Message → Option Told) where
  -- ---- who is fresh

  -- the message is of the subject, from the source, since it holds its address
  abbrev pub is_of : ℕ → ℕ → ℕ → Message → Bool
  is_of subject source since d = (d.source == source) && (nat_le since d.index && is_about subject (tells d))

  -- the last one
  abbrev pub last_of : List (Option Holder) → ℕ → ℕ → List Message → Option Message
  last_of holders subject source older = option_and_then (λ since. find (is_of subject source since) older) (held_since holders source)

  -- a source is fresh where its last message of the subject is current
  abbrev pub still_counts : ℕ → ℕ → Option Message → Bool
  still_counts timeout m last = is_some_that (λ d. is_current timeout m d.moment (tells d)) last

  abbrev pub is_fresh : SubjectRule → List (Option Holder) → ℕ → ℕ → ℕ → List Message → Bool
  is_fresh rule holders subject source m older = still_counts rule.timeout m (last_of holders subject source older)

  -- ---- whose message is selected: a message that lacks its values is selected like any other, but its source is no longer fresh then

  -- the holder of the address by its NAME has a smaller rank, and is fresh
  abbrev pub outranks : SubjectRule → List (Option Holder) → ℕ → Rank → ℕ → List Message → ℕ → Bool
  outranks rule holders subject rank m older source =
      is_better rank (holder_rank rule (holder_at holders source)) && is_fresh rule holders subject source m older

  -- a message is selected where its NAME has a rank, and no source of a smaller rank is fresh just before; only one that has sent a message
  -- can be
  abbrev pub is_first : SubjectRule → List (Option Holder) → ℕ → ℕ → List Message → Option Rank → Bool
  is_first rule holders subject m older rank = is_some_that (λ x. not (list_any (λ d. outranks rule holders subject x m older d.source) older)) rank

  -- a message that tells this, among those before it
  abbrev pub is_chosen : (ℕ → SubjectRule) → List (Option Holder) → List Message → Message → Told → Bool
  is_chosen rules holders older d t = let rule = rules t.subject in
      is_first rule holders t.subject d.moment older (rank_of rule d.name)

  -- it is selected where it tells of a subject
  abbrev pub is_selected : (ℕ → SubjectRule) → List (Option Holder) → List Message → Message → Bool
  is_selected rules holders older d = is_some_that (is_chosen rules holders older d) (tells d)
