-- What is kept of the addresses stands for the history from the start, and entry by entry.
use Rattle.std.proofs.Common.{◌≡◌, ℕ, suc, min, Bool, true, false, List, [], ◌∷◌, length, map, refl, sym, ap, ◌∙◌, arith}
use Rattle.std.specs.Prelude.{Option, Some, None, All, if◌then◌else◌}
use Rattle.n2k_id.specs.Frame.{BusFrame}
use Rattle.claim_table.specs.declared.answer.Holder.{Holder}
use Rattle.claim_table.specs.Claims.{Claims, Outcome, IsSinceBy, claim, command, claims_at_start}
use Rattle.claim_table.specs.Laws.{capped, capped_holder, capped_outcome}
use Rattle.claim_table.proofs.RenumberedLemmas.{indices_may_stop}
use Rattle.claim_table.proofs.OpenedLemmas.{opened_dated}
use Rattle.history.specs.Entries as entry
use Rattle.history.specs.Entries.{Entry, History}
use Rattle.history.specs.Settings.{Receiver}
use Rattle.history.specs.Known.{known, is_claim, claim_by}
use Rattle.gate_model.specs.Addresses.{AddressesKept, last_index, no_change, changed_by, counted, claimed, claims_after, changes_after, addresses_after}
use Rattle.gate_model.specs.AddressStands.{StandsAddresses, OpeningStandsAddresses, EntriesStandAddresses, changes_in}

-- ---- at the start nobody holds an address since a later entry

none_later : (n : ℕ) (x : Option Holder) → IsSinceBy 0 x → capped_holder n x ≡ x
none_later n None by = refl
none_later n (Some h) by =
    let least : min n h.since ≡ h.since = omega (arith, by) in
    ap (λ (since : ℕ). Some (made since)) least
  where
    made : ℕ → Holder
    made since = record { name = h.name; since = since }

none_counted : (n : ℕ) (holders : List (Option Holder)) → All (IsSinceBy 0) holders → map (capped_holder n) holders ≡ holders
none_counted n [] all = refl
none_counted n (x ∷ xs) all = rw (none_later n x (all 0 None (omega arith)), none_counted n xs (λ i d within. all (suc i) d (omega (arith, within)))) refl

pub opening_stands_addresses : OpeningStandsAddresses
opening_stands_addresses r s = record {
  claims =
      ap made
      (sym (none_counted last_index (claims_at_start r.name r.address r.presets).holders (opened_dated r.name r.address r.presets)));
  count = let least : 0 ≡ min last_index 0 = omega arith in least;
  changed = refl;
}
  where
    made : List (Option Holder) → Claims
    made holders = record (known r s []).claims { holders = holders }

-- ---- an entry

module _ (r : Receiver) (s : ℕ) (h : History) (k : AddressesKept) (stands : StandsAddresses r s h k) where
  -- a claim of the counted index does what one does of the index
  pub claimed_is : (m : ℕ) (f : BusFrame) → claimed k m f ≡ capped_outcome last_index (claim (known r s h).claims (claim_by (length h) m f))
  claimed_is m f =
      ap (λ (c : Claims). claim c (claim_by k.count m f)) stands.claims
      ∙ (ap (λ (n : ℕ). claim (capped last_index (known r s h).claims) (claim_by n m f)) stands.count
      ∙ (indices_may_stop last_index (known r s h).claims).claimed (claim_by (length h) m f))

  pub claims_are : (e : Entry) → claims_after k e ≡ capped last_index (known r s (e ∷ h)).claims
  claims_are (entry.frame m f) = by (is_claim f) refl
    where
      by : (b : Bool) → is_claim f ≡ b → claims_after k (entry.frame m f) ≡ capped last_index (known r s (entry.frame m f ∷ h)).claims
      by true e = rw e (ap (λ (o : Outcome). o.after) (claimed_is m f))
      by false e = rw e stands.claims
  claims_are (entry.datagram m bytes) = stands.claims
  claims_are (entry.tick m) = stands.claims
  claims_are (entry.command m source address) =
      ap (λ (c : Claims). command c address m) stands.claims ∙ (indices_may_stop last_index (known r s h).claims).commanded address m

  count_is : (e : Entry) → counted k.count ≡ min last_index (length (e ∷ h))
  count_is e = omega (arith, stands.count)

  changed_is : (e : Entry) → changes_after k e ≡ changes_in r s (e ∷ h)
  changed_is (entry.frame m f) =
      ap (λ (o : Outcome). if is_claim f then changed_by o.step else no_change) (claimed_is m f)
  changed_is (entry.datagram m bytes) = refl
  changed_is (entry.tick m) = refl
  changed_is (entry.command m source address) = refl

  entry_stands : (e : Entry) → StandsAddresses r s (e ∷ h) (addresses_after k e)
  entry_stands e = record { claims = claims_are e; count = count_is e; changed = changed_is e }

pub entries_stand_addresses : EntriesStandAddresses
entries_stand_addresses r s h e k stands = entry_stands r s h k stands e
