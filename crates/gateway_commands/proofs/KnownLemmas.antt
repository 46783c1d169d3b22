-- Which statuses a command has, as a list: those that it hasn't are then found by computing.
use Rattle.std.proofs.Common.{◌≡◌, ℕ, ◌⊎◌, List, [], ◌∷◌, sym, ◌∙◌, inl, inr, arith}
use Rattle.std.specs.Prelude.{Bool, true, false, ◌==◌, ◌||◌}
use Rattle.std.proofs.lemmas.Bool.{false≢true}
use Rattle.std.proofs.lemmas.Bool.Decides.{nat_tests}
use Rattle.config_check.specs.Check.{IsCheckStatus}
use Rattle.gateway_commands.specs.ReplayCommand.{IsReplayCommandStatus}
use Rattle.gateway_commands.specs.ServeCommand.{IsServeStatus}
use Rattle.command_line.specs.Statuses.{IsDemoStatus, IsEarly, IsStatus}

abbrev pub IsAmong : ℕ → List ℕ → Type 0
IsAmong status [] = ⊥
IsAmong status (n ∷ []) = status ≡ n
IsAmong status (n ∷ (m ∷ more)) = (status ≡ n) ⊎ IsAmong status (m ∷ more)

abbrev pub has : ℕ → List ℕ → Bool
has n [] = false
has n (m ∷ more) = (n == m) || has n more

has_it : (status n : ℕ) (known : List ℕ) → IsAmong status known → status ≡ n → has n known ≡ true
has_it status n [] none is = absurd none
has_it status n (m ∷ []) it is = grind (arith, nat_tests)
has_it status n (m ∷ (o ∷ more)) (inl it) is = grind (arith, nat_tests)
has_it status n (m ∷ (o ∷ more)) (inr it) is = let later = has_it status n (o ∷ more) it is in grind (arith, nat_tests)

-- a status that isn't among them
pub never : (status : ℕ) (known : List ℕ) → IsAmong status known → (n : ℕ) → has n known ≡ false → status ≡ n → ⊥
never status known among n other is = false≢true (sym other ∙ has_it status n known among is)

pub not_early : (status : ℕ) (known : List ℕ) → IsAmong status known → has 6 known ≡ false → has 7 known ≡ false → IsEarly status → ⊥
not_early status known among unread wanting (inl is) = never status known among 6 unread is
not_early status known among unread wanting (inr is) = never status known among 7 wanting is

-- of the statuses before the first event only the one for want of memory
pub only_memory : (status : ℕ) (known : List ℕ) → IsAmong status known → has 6 known ≡ false → IsEarly status → status ≡ 7
only_memory status known among unread (inl is) = absurd (never status known among 6 unread is)
only_memory status known among unread (inr is) = is

-- ---- each is one of the program's

pub of_check : (status : ℕ) → IsCheckStatus status → IsStatus status
of_check status known = search (arith, known)

pub of_replay : (status : ℕ) → IsReplayCommandStatus status → IsStatus status
of_replay status (inl is) = inr (inl is)
of_replay status (inr (inl is)) = inr (inr (inl is))
of_replay status (inr (inr known)) = inr (inr (inr (inr known)))

pub of_serve : (status : ℕ) → IsServeStatus status → IsStatus status
of_serve status known = search (arith, known)

pub of_demo : (status : ℕ) → IsDemoStatus status → IsStatus status
of_demo status known = search (arith, known)
