use Rattle.std.proofs.Common.{◌≡◌, ◌≢◌, ℕ, ◌≤◌, Bool, Option, None, Some, List, [], ◌∷◌, All, get_or, arith}
use Rattle.std.proofs.lemmas.Grind.{common_steps}
use Rattle.std.specs.List.{position}
use Rattle.std.proofs.lemmas.List.Elements.{All-set}
use Rattle.n2k_id.specs.declared.name.Name.{Name}
use Rattle.claim_table.specs.declared.answer.Holder.{Holder}
use Rattle.claim_table.specs.Cases.{IsCase}
use Rattle.claim_table.specs.Claims.{Claims, Claim, IsSinceBy, Outcome, claim, command, holder_by, is_held_by, is_obeyed, left_by, moved, moved_if, other_than, vacated, with_taken, without_left}
use Rattle.claim_table.specs.Laws.{HoldersAreDated, NameStays, WonIsNotLeft, claimed, commanded}
use Rattle.claim_table.proofs.CaseLemmas.{claim_case}

-- a claim leaves the holders as they were, or without the address left, or with the address taken
pub holders_after : (P : List (Option Holder) → Type 0) (c : Claims) (k : Claim) (o : Outcome) → IsCase c k o → P c.holders → P (without_left c k).holders → P (with_taken (without_left c k) k).holders → P o.after.holders
holders_after P c k o h p q r = grind arith

-- what holds of each holder and of nobody holds when an address is vacated
vacated_keeps : (P : Option Holder → Type 0) (holders : List (Option Holder)) (left : Option ℕ) → P None → All P holders → All P (vacated holders left)
vacated_keeps P holders left n all = grind (arith, common_steps, All-set)

pub latest_after_claim : (i : ℕ) (c : Claims) (k : Claim) → k.index ≤ i → All (IsSinceBy i) c.holders → All (IsSinceBy i) (claim c k).after.holders
latest_after_claim i c k l all =
    let left = vacated_keeps (IsSinceBy i) c.holders (left_by c k) tt all in
    holders_after (λ holders. All (IsSinceBy i) holders) c k (claim c k) (claim_case c k) all left (All-set (IsSinceBy i) (without_left c k).holders k.address (Some (holder_by k)) l left)

command_holders : (c : Claims) (a m : ℕ) (b : Bool) → (moved_if b c a m).holders ≡ c.holders
command_holders c a m b = grind arith

pub command_keeps_holders : (c : Claims) (a m : ℕ) → (command c a m).holders ≡ c.holders
unfolding command
command_keeps_holders c a m = command_holders c a m (is_obeyed c a)

pub holders_are_dated : HoldersAreDated
holders_are_dated i c [] all by = all
holders_are_dated i c (claimed k ∷ older) all by = grind (arith, holders_are_dated i c older all by.1, latest_after_claim)
holders_are_dated i c (commanded a m ∷ older) all by = grind (arith, holders_are_dated i c older all by, command_keeps_holders)

-- an index that was reached stays reached
since_grows_at : (i j : ℕ) (x : Option Holder) → i ≤ j → IsSinceBy i x → IsSinceBy j x
since_grows_at i j x l by = grind arith

pub since_grows : (i j : ℕ) (holders : List (Option Holder)) → i ≤ j → All (IsSinceBy i) holders → All (IsSinceBy j) holders
since_grows i j holders l all = λ k d within. since_grows_at i j (get_or holders k d) l (all k d within)

-- ---- what no claim and no command touches

left_elsewhere_of : (a : ℕ) (o : Option ℕ) → other_than a o ≢ Some a
left_elsewhere_of a o = grind arith

left_isnt_claimed : (c : Claims) (k : Claim) → left_by c k ≢ Some k.address
unfolding left_by
left_isnt_claimed c k = left_elsewhere_of k.address (position (is_held_by k.name) c.holders)

moved_loses_none : (c : Claims) (m : ℕ) (x : Option ℕ) → (moved c m x).step.lost ≡ None
moved_loses_none c m x = grind arith

case_won : (c : Claims) (k : Claim) (o : Outcome) → IsCase c k o → (w : ℕ × Name) → o.step.lost ≡ Some w → (w.0 ≡ k.address) × (o.step.released ≢ Some w.0)
case_won c k o h w f = grind (arith, moved_loses_none, left_isnt_claimed)

pub won_is_not_left : WonIsNotLeft
won_is_not_left c k w e = case_won c k (claim c k) (claim_case c k) w e

case_name : (c : Claims) (k : Claim) (o : Outcome) → IsCase c k o → o.after.name ≡ c.name
case_name c k o h = grind arith

command_name : (c : Claims) (a m : ℕ) (b : Bool) → (moved_if b c a m).name ≡ c.name
command_name c a m b = grind arith

pub command_keeps_name : (c : Claims) (a m : ℕ) → (command c a m).name ≡ c.name
unfolding command
command_keeps_name c a m = command_name c a m (is_obeyed c a)

pub claim_keeps_name : (c : Claims) (k : Claim) → (claim c k).after.name ≡ c.name
claim_keeps_name c k = case_name c k (claim c k) (claim_case c k)

pub name_stays : NameStays
name_stays c h = grind (arith, claim_keeps_name, command_keeps_name)
