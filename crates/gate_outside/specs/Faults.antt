-- Counts of faults, and which numbered calls fail.
use Rattle.std.specs.Prelude.{◌≡◌, ℕ, ◌+◌, ◌-◌, ◌^◌, ◌<◌, ◌≤◌, ◌⊎◌, Bool, ◌==◌, if◌then◌else◌, min, List, Result, OnOk, OnErr}
use Rattle.std.specs.List.{list_any}

-- the last value of a count, where it stops
abbrev pub last_count : ℕ
last_count = 2 ^ 64 - 1

-- a count one higher, up to its last value
abbrev pub one_more : ℕ → ℕ
one_more count = min (count + 1) last_count

-- The count rose in a call. At its last value it counts as one that rose.
abbrev pub Rose : ℕ → ℕ → Type 0
Rose before after = (before < after) ⊎ (after ≡ last_count)

-- A failure has its cause in the count, which never falls and rises only by a failure.
pub record HasCause {T E : Type 0} (before after : ℕ) (result : Result T E) : Type 0 where
  pub never_falls : before ≤ after
  pub rose : OnErr result (Rose before after)
  pub steady : OnOk result (after ≡ before)

-- Which calls of a kind fail, by their numbers from 1, and how many calls and faults there were.
pub record Script : Type 0 where
  pub failing : List ℕ
  pub calls : ℕ
  pub faults : ℕ

-- whether the next call is one of those that fail
abbrev pub fails_next : Script → Bool
fails_next s = list_any (λ number. number == s.calls + 1) s.failing

-- the script after a call that failed or didn't
abbrev pub after_call : Script → Bool → Script
after_call s failed = record {
  failing = s.failing;
  calls = one_more s.calls;
  faults = if failed then one_more s.faults else s.faults;
}
