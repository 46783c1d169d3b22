-- A claim and a command do the same to a table whose indices are numbered in another way.
use Rattle.std.proofs.Common.{◌≡◌, ℕ, zero, suc, Bool, true, false, List, [], ◌∷◌, length, map, refl, sym, ap, ◌∙◌, ◌==◌, nat_lt}
use Rattle.std.specs.Prelude.{Option, Some, None, is_none, is_some, option_map, if◌then◌else◌}
use Rattle.std.specs.List.{position, position_or_len}
use Rattle.std.proofs.Math.ListN.{get_or-map}
use Rattle.std.proofs.lemmas.List.{map-set, length-map}
use Rattle.n2k_id.specs.Frame.{BusFrame}
use Rattle.n2k_id.specs.Name.{is_arbitrary}
use Rattle.claim_table.specs.declared.answer.Holder.{Holder}
use Rattle.claim_table.specs.declared.answer.OwnAnswer.TheVariants.{Silent}
use Rattle.claim_table.specs.Claims.{Claims, Claim, Outcome, outcome, holder_at, is_held_by, other_than, left_by, vacated, without_left, holder_by, with_taken, following, free_from, next_free, next_own, moved, when, at_own, at_held, at_other, at_address, settled, with_released, by_name, claim, is_at, moved_if, is_obeyed, command}
use Rattle.history.specs.Entries.{Entry, frame, datagram, tick}
use Rattle.history.specs.Entries as entry
use Rattle.history.specs.Known.{Known, known_after, followed_by, since_own, held_since, is_claim, claim_by}

module _ (f : ℕ → ℕ) where
  abbrev pub holder_as : Option Holder → Option Holder
  holder_as None = None
  holder_as (Some h) = Some (record { name = h.name; since = f h.since })

  abbrev pub claims_as : Claims → Claims
  claims_as c = record c { holders = map holder_as c.holders }

  abbrev pub claim_as : Claim → Claim
  claim_as k = record k { index = f k.index }

  abbrev pub outcome_as : Outcome → Outcome
  outcome_as o = record { after = claims_as o.after; step = o.step }

  pub at_as : (holders : List (Option Holder)) (a : ℕ) → holder_at (map holder_as holders) a ≡ holder_as (holder_at holders a)
  at_as holders a = get_or-map holder_as holders a None

  held_as : (n : ℕ) (x : Option Holder) → is_held_by n (holder_as x) ≡ is_held_by n x
  held_as n None = refl
  held_as n (Some h) = refl

  run_as : (n : ℕ) (holders : List (Option Holder)) → position_or_len (is_held_by n) (map holder_as holders) ≡ position_or_len (is_held_by n) holders
  run_as n [] = refl
  run_as n (x ∷ holders) = rw (held_as n x, run_as n holders) refl

  position_as : (n : ℕ) (holders : List (Option Holder)) → position (is_held_by n) (map holder_as holders) ≡ position (is_held_by n) holders
  position_as n holders =
      ap (λ (k : ℕ). if nat_lt k (length (map holder_as holders)) then Some k else None) (run_as n holders)
      ∙ ap (λ (k : ℕ). if nat_lt (position_or_len (is_held_by n) holders) k then Some (position_or_len (is_held_by n) holders) else None) (length-map holders holder_as)

  left_as : (c : Claims) (k : Claim) → left_by (claims_as c) (claim_as k) ≡ left_by c k
  unfolding left_by
  left_as c k = ap (other_than k.address) (position_as k.name c.holders)

  vacated_as : (holders : List (Option Holder)) (left : Option ℕ) → vacated (map holder_as holders) left ≡ map holder_as (vacated holders left)
  vacated_as holders None = refl
  vacated_as holders (Some b) = sym (map-set holder_as holders b None)

  without_as : (c : Claims) (k : Claim) → without_left (claims_as c) (claim_as k) ≡ claims_as (without_left c k)
  without_as c k =
      ap (λ (left : Option ℕ). record c { holders = vacated (map holder_as c.holders) left }) (left_as c k)
      ∙ ap (λ (x : List (Option Holder)). record c { holders = x }) (vacated_as c.holders (left_by c k))

  taken_as : (c : Claims) (k : Claim) → with_taken (claims_as c) (claim_as k) ≡ claims_as (with_taken c k)
  taken_as c k = ap (λ (x : List (Option Holder)). record c { holders = x }) (sym (map-set holder_as c.holders k.address (Some (holder_by k))))

  free_as : (fuel : ℕ) (holders : List (Option Holder)) (b : ℕ) (x : Option Holder) → free_from fuel (map holder_as holders) b (holder_as x) ≡ free_from fuel holders b x
  unfolding free_from
  free_as zero holders b x = refl
  free_as (suc k) holders b None = refl
  free_as (suc k) holders b (Some h) =
      ap (free_from k (map holder_as holders) (following b)) (at_as holders (following b)) ∙ free_as k holders (following b) (holder_at holders (following b))

  next_as : (c : Claims) (a : ℕ) → next_own (claims_as c) a ≡ next_own c a
  unfolding next_own next_free
  next_as c a =
      ap (when (is_arbitrary c.name))
      (ap (free_from 252 (map holder_as c.holders) (following a)) (at_as c.holders (following a)) ∙ free_as 252 c.holders (following a) (holder_at c.holders (following a)))

  moved_as : (c : Claims) (m : ℕ) (next : Option ℕ) → moved (claims_as c) m next ≡ outcome_as (moved c m next)
  moved_as c m None = refl
  moved_as c m (Some b) = refl

  own_as : (c : Claims) (k : Claim) (b : Bool) → at_own (claims_as c) (claim_as k) b ≡ outcome_as (at_own c k b)
  own_as c k true = refl
  own_as c k false =
      ap (λ (x : Claims). moved x k.moment (next_own x k.address)) (taken_as c k)
      ∙ ap (moved (claims_as (with_taken c k)) k.moment) (next_as (with_taken c k) k.address)
      ∙ moved_as (with_taken c k) k.moment (next_own (with_taken c k) k.address)

  held_case : (c : Claims) (k : Claim) (h : Holder) (b : Bool) → at_held (claims_as c) (claim_as k) (record { name = h.name; since = f h.since }) b ≡ outcome_as (at_held c k h b)
  held_case c k h true = ap (λ (x : Claims). outcome x (Some (k.address, h.name)) Silent) (taken_as c k)
  held_case c k h false = refl

  other_case : (c : Claims) (k : Claim) (x : Option Holder) → at_other (claims_as c) (claim_as k) (holder_as x) ≡ outcome_as (at_other c k x)
  other_case c k None = ap (λ (x : Claims). outcome x None Silent) (taken_as c k)
  other_case c k (Some h) = held_case c k h (nat_lt k.name h.name.0)

  address_case : (c : Claims) (k : Claim) (b : Bool) → at_address (claims_as c) (claim_as k) b ≡ outcome_as (at_address c k b)
  address_case c k true = own_as c k (nat_lt c.name k.name)
  address_case c k false = ap (at_other (claims_as c) (claim_as k)) (at_as c.holders k.address) ∙ other_case c k (holder_at c.holders k.address)

  settled_case : (c : Claims) (k : Claim) (b : Bool) → settled (claims_as c) (claim_as k) b ≡ outcome_as (settled c k b)
  settled_case c k true = refl
  settled_case c k false = address_case c k (is_at k.address c.own)

  name_case : (c : Claims) (k : Claim) (b : Bool) → by_name (claims_as c) (claim_as k) b ≡ outcome_as (by_name c k b)
  name_case c k true = refl
  name_case c k false =
      ap (λ (left : Option ℕ). with_released left (settled (without_left (claims_as c) (claim_as k)) (claim_as k) (k.address == 254))) (left_as c k)
      ∙ ap (λ (x : Claims). with_released (left_by c k) (settled x (claim_as k) (k.address == 254))) (without_as c k)
      ∙ ap (with_released (left_by c k)) (settled_case (without_left c k) k (k.address == 254))

  pub claimed_as : (c : Claims) (k : Claim) → claim (claims_as c) (claim_as k) ≡ outcome_as (claim c k)
  unfolding claim
  claimed_as c k = name_case c k (k.name == c.name)

  -- ---- a command

  none_as : (x : Option Holder) → is_none (holder_as x) ≡ is_none x
  none_as None = refl
  none_as (Some h) = refl

  if_as : (b : Bool) (c : Claims) (a m : ℕ) → moved_if b (claims_as c) a m ≡ claims_as (moved_if b c a m)
  if_as true c a m = refl
  if_as false c a m = refl

  pub obeyed_as : (c : Claims) (a : ℕ) → is_obeyed (claims_as c) a ≡ is_obeyed c a
  unfolding is_obeyed
  obeyed_as c a = rw (at_as c.holders a, none_as (holder_at c.holders a)) refl

  pub commanded_as : (c : Claims) (a m : ℕ) → command (claims_as c) a m ≡ claims_as (command c a m)
  unfolding command
  commanded_as c a m = ap (λ (b : Bool). moved_if b (claims_as c) a m) (obeyed_as c a) ∙ if_as (is_obeyed c a) c a m

  -- ---- what is known of the addresses

  abbrev pub known_as : Known → Known
  known_as k = record { claims = claims_as k.claims; own_since = f k.own_since }

  own_since_as : (index since : ℕ) (before after : Option ℕ) → since_own (f index) (f since) before after ≡ f (since_own index since before after)
  own_since_as index since (Some a) (Some b) = by (a == b)
    where
      by : (t : Bool) → (if t then f since else f index) ≡ f (if t then since else index)
      by true = refl
      by false = refl
  own_since_as index since None after = refl
  own_since_as index since (Some a) None = refl

  followed_as : (index : ℕ) (k : Known) (before after : Claims) → before ≡ claims_as after
      → followed_by (f index) (known_as k) before ≡ known_as (followed_by index k after)
  followed_as index k before after same =
      ap (followed_by (f index) (known_as k)) same
      ∙ ap (λ (x : ℕ). record { claims = claims_as after; own_since = x }) (own_since_as index k.own_since k.claims.own after.own)

  pub after_as : (index : ℕ) (k : Known) (e : Entry) → known_after (f index) (known_as k) e ≡ known_as (known_after index k e)
  after_as index k (frame m b) = by (is_claim b)
    where
      by : (t : Bool) → (if t then followed_by (f index) (known_as k) (claim (claims_as k.claims) (claim_by (f index) m b)).after else known_as k)
          ≡ known_as (if t then followed_by index k (claim k.claims (claim_by index m b)).after else k)
      by true =
          followed_as index k (claim (claims_as k.claims) (claim_by (f index) m b)).after (claim k.claims (claim_by index m b)).after
          (ap (λ (o : Outcome). o.after) (claimed_as k.claims (claim_by index m b)))
      by false = refl
  after_as index k (datagram m bytes) = refl
  after_as index k (tick m) = refl
  after_as index k (entry.command m source address) =
      followed_as index k (command (claims_as k.claims) address m) (command k.claims address m) (commanded_as k.claims address m)

  pub step_as : (index : ℕ) (k : Known) (m : ℕ) (b : BusFrame)
      → (claim (claims_as k.claims) (claim_by (f index) m b)).step ≡ (claim k.claims (claim_by index m b)).step
  step_as index k m b = ap (λ (o : Outcome). o.step) (claimed_as k.claims (claim_by index m b))

  -- since when an address is held, and by whom

  pub since_as : (holders : List (Option Holder)) (a : ℕ) → held_since (map holder_as holders) a ≡ option_map f (held_since holders a)
  since_as holders a = ap (option_map (λ (h : Holder). h.since)) (at_as holders a) ∙ by (holder_at holders a)
    where
      by : (x : Option Holder) → option_map (λ (h : Holder). h.since) (holder_as x) ≡ option_map f (option_map (λ (h : Holder). h.since) x)
      by None = refl
      by (Some h) = refl

  some_as : (x : Option Holder) → is_some (holder_as x) ≡ is_some x
  some_as None = refl
  some_as (Some h) = refl

  pub is_held_as : (holders : List (Option Holder)) (a : ℕ) → is_some (holder_at (map holder_as holders) a) ≡ is_some (holder_at holders a)
  is_held_as holders a = ap is_some (at_as holders a) ∙ some_as (holder_at holders a)
