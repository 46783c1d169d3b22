-- A claim and a command do the same to a table whose indices are numbered in another way.
use Rattle.std.proofs.Common.{◌≡◌, ℕ, zero, suc, min, Bool, true, false, List, [], ◌∷◌, length, map, refl, sym, ap, ◌∙◌, ◌==◌, nat_lt, arith}
use Rattle.std.specs.Prelude.{Option, Some, None, is_none, if◌then◌else◌}
use Rattle.std.specs.List.{position, position_or_len}
use Rattle.std.proofs.Math.ListN.{get_or-map}
use Rattle.std.proofs.lemmas.List.{map-set, length-map}
use Rattle.claim_table.specs.declared.answer.Holder.{Holder}
use Rattle.claim_table.specs.Claims.{Claims, Claim, Outcome, holder_at, is_held_by, other_than, left_by, vacated, without_left, holder_by, with_taken, following, free_from, next_free, next_own, moved, at_own, at_held, at_other, at_address, settled, with_released, by_name, claim, moved_if, is_obeyed, command}
use Rattle.claim_table.specs.Laws.{IndicesMayStop}

module _ (f : ℕ → ℕ) where
  abbrev pub holder_as : Option Holder → Option Holder
  holder_as None = None
  holder_as (Some h) = Some (record { name = h.name; since = f h.since })

  abbrev pub claims_as : Claims → Claims
  claims_as c = record c { holders = map holder_as c.holders }

  abbrev pub claim_as : Claim → Claim
  claim_as k = record k { index = f k.index }

  abbrev pub outcome_as : Outcome → Outcome
  outcome_as o = record { after = claims_as o.after; step = o.step }

  pub at_as : (holders : List (Option Holder)) (a : ℕ) → holder_at (map holder_as holders) a ≡ holder_as (holder_at holders a)
  at_as holders a = get_or-map holder_as holders a None

  held_as : (n : ℕ) (x : Option Holder) → is_held_by n (holder_as x) ≡ is_held_by n x
  held_as n x = grind arith

  run_as : (n : ℕ) (holders : List (Option Holder)) → position_or_len (is_held_by n) (map holder_as holders) ≡ position_or_len (is_held_by n) holders
  run_as n [] = refl
  run_as n (x ∷ holders) = rw (held_as n x, run_as n holders) refl

  position_as : (n : ℕ) (holders : List (Option Holder)) → position (is_held_by n) (map holder_as holders) ≡ position (is_held_by n) holders
  position_as n holders =
      ap (λ (k : ℕ). if nat_lt k (length (map holder_as holders)) then Some k else None) (run_as n holders)
      ∙ ap (λ (k : ℕ). if nat_lt (position_or_len (is_held_by n) holders) k then Some (position_or_len (is_held_by n) holders) else None) (length-map holders holder_as)

  left_as : (c : Claims) (k : Claim) → left_by (claims_as c) (claim_as k) ≡ left_by c k
  unfolding left_by
  left_as c k = ap (other_than k.address) (position_as k.name c.holders)

  vacated_as : (holders : List (Option Holder)) (left : Option ℕ) → vacated (map holder_as holders) left ≡ map holder_as (vacated holders left)
  vacated_as holders left = grind (arith, map-set)

  without_as : (c : Claims) (k : Claim) → without_left (claims_as c) (claim_as k) ≡ claims_as (without_left c k)
  without_as c k = grind (arith, left_as, vacated_as)

  taken_as : (c : Claims) (k : Claim) → with_taken (claims_as c) (claim_as k) ≡ claims_as (with_taken c k)
  taken_as c k = ap (λ (x : List (Option Holder)). record c { holders = x }) (sym (map-set holder_as c.holders k.address (Some (holder_by k))))

  free_as : (fuel : ℕ) (holders : List (Option Holder)) (b : ℕ) (x : Option Holder) → free_from fuel (map holder_as holders) b (holder_as x) ≡ free_from fuel holders b x
  unfolding free_from
  free_as zero holders b x = refl
  free_as (suc k) holders b None = refl
  free_as (suc k) holders b (Some h) = grind (arith, free_as k holders (following b) (holder_at holders (following b)), at_as)

  next_as : (c : Claims) (a : ℕ) → next_own (claims_as c) a ≡ next_own c a
  unfolding next_own next_free
  next_as c a = grind (arith, at_as, free_as)

  moved_as : (c : Claims) (m : ℕ) (next : Option ℕ) → moved (claims_as c) m next ≡ outcome_as (moved c m next)
  moved_as c m next = grind arith

  own_as : (c : Claims) (k : Claim) (b : Bool) → at_own (claims_as c) (claim_as k) b ≡ outcome_as (at_own c k b)
  own_as c k true = refl
  own_as c k false =
      ap (λ (x : Claims). moved x k.moment (next_own x k.address)) (taken_as c k)
      ∙ ap (moved (claims_as (with_taken c k)) k.moment) (next_as (with_taken c k) k.address)
      ∙ moved_as (with_taken c k) k.moment (next_own (with_taken c k) k.address)

  held_case : (c : Claims) (k : Claim) (h : Holder) (b : Bool) → at_held (claims_as c) (claim_as k) (record { name = h.name; since = f h.since }) b ≡ outcome_as (at_held c k h b)
  held_case c k h b = grind (arith, taken_as)

  other_case : (c : Claims) (k : Claim) (x : Option Holder) → at_other (claims_as c) (claim_as k) (holder_as x) ≡ outcome_as (at_other c k x)
  other_case c k x = grind (arith, taken_as, held_case)

  address_case : (c : Claims) (k : Claim) (b : Bool) → at_address (claims_as c) (claim_as k) b ≡ outcome_as (at_address c k b)
  address_case c k b = grind (arith, own_as, at_as, other_case)

  settled_case : (c : Claims) (k : Claim) (b : Bool) → settled (claims_as c) (claim_as k) b ≡ outcome_as (settled c k b)
  settled_case c k b = grind (arith, address_case)

  name_case : (c : Claims) (k : Claim) (b : Bool) → by_name (claims_as c) (claim_as k) b ≡ outcome_as (by_name c k b)
  name_case c k true = refl
  name_case c k false =
      ap (λ (left : Option ℕ). with_released left (settled (without_left (claims_as c) (claim_as k)) (claim_as k) (k.address == 254))) (left_as c k)
      ∙ ap (λ (x : Claims). with_released (left_by c k) (settled x (claim_as k) (k.address == 254))) (without_as c k)
      ∙ ap (with_released (left_by c k)) (settled_case (without_left c k) k (k.address == 254))

  pub claimed_as : (c : Claims) (k : Claim) → claim (claims_as c) (claim_as k) ≡ outcome_as (claim c k)
  unfolding claim
  claimed_as c k = name_case c k (k.name == c.name)

  -- ---- a command

  none_as : (x : Option Holder) → is_none (holder_as x) ≡ is_none x
  none_as x = grind arith

  if_as : (b : Bool) (c : Claims) (a m : ℕ) → moved_if b (claims_as c) a m ≡ claims_as (moved_if b c a m)
  if_as b c a m = grind arith

  pub obeyed_as : (c : Claims) (a : ℕ) → is_obeyed (claims_as c) a ≡ is_obeyed c a
  unfolding is_obeyed
  obeyed_as c a = rw (at_as c.holders a, none_as (holder_at c.holders a)) refl

  pub commanded_as : (c : Claims) (a m : ℕ) → command (claims_as c) a m ≡ claims_as (command c a m)
  unfolding command
  commanded_as c a m = ap (λ (b : Bool). moved_if b (claims_as c) a m) (obeyed_as c a) ∙ if_as (is_obeyed c a) c a m

-- counted no further than n
pub indices_may_stop : IndicesMayStop
indices_may_stop n c = record { claimed = claimed_as (min n) c; obeyed = obeyed_as (min n) c; commanded = commanded_as (min n) c }
