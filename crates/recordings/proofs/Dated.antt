-- No index that is known of a history is beyond it: so what a history says stays as it is where a tick behind it is left out.
use Rattle.std.proofs.Common.{◌≡◌, ℕ, suc, ◌≤◌, true, false, List, [], ◌∷◌, length, map, refl, ap, ◌∙◌, ◌==◌, arith}
use Rattle.std.specs.Prelude.{Option, Some, None, All, if◌then◌else◌}
use Rattle.n2k_id.specs.Frame.{BusFrame}
use Rattle.claim_table.specs.declared.answer.Holder.{Holder}
use Rattle.claim_table.specs.Claims.{Claims, IsSinceBy, claim, command}
use Rattle.claim_table.specs.Laws.{Step, claimed, commanded}
use Rattle.claim_table.proofs.LawLemmas.{holders_are_dated, since_grows}
use Rattle.claim_table.proofs.OpenedLemmas.{opened_dated}
use Rattle.history.specs.Entries.{Entry, History, frame, datagram, tick}
use Rattle.history.specs.Entries as entry
use Rattle.history.specs.Known.{Known, known, known_after, since_own, followed_by, is_claim, claim_by}
use Rattle.history.specs.Settings.{Receiver}
use Rattle.recordings.proofs.Places.{closed, closed_before}
use Rattle.recordings.proofs.Renumbered.{holder_as, known_as}

record AreDated (k : Known) (n : ℕ) : Type 0 where
  holders : All (IsSinceBy n) k.claims.holders
  own : k.own_since ≤ n

own_by : (index since : ℕ) (before after : Option ℕ) → since ≤ index → since_own index since before after ≤ suc index
own_by index since (Some x) (Some y) h = elim (x == y) as (λ b. (if b then since else index) ≤ suc index) [ true ↦ omega (arith, h) | false ↦ omega arith ]
own_by index since None after h = omega arith
own_by index since (Some x) None h = omega (arith, h)

later : (n : ℕ) (k : Known) → AreDated k n → AreDated k (suc n)
later n k h = record { holders = since_grows n (suc n) k.claims.holders (omega arith) h.holders; own = omega (arith, h.own) }

followed : (n : ℕ) (k : Known) (after : Claims) → AreDated k n → All (IsSinceBy (suc n)) after.holders → AreDated (followed_by n k after) (suc n)
followed n k after h dated = record { holders = dated; own = own_by n k.own_since k.claims.own after.own h.own }

by_claim : (n : ℕ) (k : Known) (m : ℕ) (f : BusFrame) → AreDated k n → AreDated (followed_by n k (claim k.claims (claim_by n m f)).after) (suc n)
by_claim n k m f h =
    let step : List Step = claimed (claim_by n m f) ∷ [] in
    followed n k (claim k.claims (claim_by n m f)).after h
    (holders_are_dated (suc n) k.claims step (since_grows n (suc n) k.claims.holders (omega arith) h.holders) (omega arith, tt))

by_command : (n : ℕ) (k : Known) (m a : ℕ) → AreDated k n → AreDated (followed_by n k (command k.claims a m)) (suc n)
by_command n k m a h =
    let step : List Step = commanded a m ∷ [] in
    followed n k (command k.claims a m) h (holders_are_dated (suc n) k.claims step (since_grows n (suc n) k.claims.holders (omega arith) h.holders) tt)

dated_after : (n : ℕ) (k : Known) (e : Entry) → AreDated k n → AreDated (known_after n k e) (suc n)
dated_after n k (frame m f) h =
    elim (is_claim f) as (λ b. AreDated (if b then followed_by n k (claim k.claims (claim_by n m f)).after else k) (suc n)) [ true ↦ by_claim n k m f h | false ↦ later n k h ]
dated_after n k (datagram m bytes) h = later n k h
dated_after n k (tick m) h = later n k h
dated_after n k (entry.command m source address) h = by_command n k m address h

are_dated : (r : Receiver) (s : ℕ) (h : History) → AreDated (known r s h) (length h)
are_dated r s [] = record { holders = opened_dated r.name r.address r.presets; own = omega arith }
are_dated r s (e ∷ h) = dated_after (length h) (known r s h) e (are_dated r s h)

-- ---- what isn't beyond a place stays where the entry at it is left out

holder_stays : (n : ℕ) (x : Option Holder) → IsSinceBy n x → holder_as (closed n) x ≡ x
holder_stays n None by = refl
holder_stays n (Some h) by = ap (λ (since : ℕ). Some (record { name = h.name; since = since })) (closed_before n h.since by)

holders_stay : (n : ℕ) (holders : List (Option Holder)) → All (IsSinceBy n) holders → map (holder_as (closed n)) holders ≡ holders
holders_stay n [] all = refl
holders_stay n (x ∷ holders) all =
    ap (λ (y : Option Holder). y ∷ map (holder_as (closed n)) holders) (holder_stays n x (all 0 x (omega arith)))
    ∙ ap (λ (ys : List (Option Holder)). x ∷ ys) (holders_stay n holders (λ k d lt. all (suc k) d (omega (arith, lt))))

pub known_stays : (r : Receiver) (s : ℕ) (h : History) → known_as (closed (length h)) (known r s h) ≡ known r s h
known_stays r s h =
    let k = known r s h in
    let dated = are_dated r s h in
    ap (λ (x : List (Option Holder)). record { claims = record k.claims { holders = x }; own_since = closed (length h) k.own_since })
    (holders_stay (length h) k.claims.holders dated.holders)
    ∙ ap (λ (x : ℕ). record { claims = k.claims; own_since = x }) (closed_before (length h) k.own_since dated.own)
