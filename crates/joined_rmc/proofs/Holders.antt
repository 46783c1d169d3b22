-- Who holds an address after one more entry (ISO 11783-5): as before, or nobody, or another NAME since this entry.
use Rattle.std.proofs.Common.{◌≡◌, ◌≢◌, ℕ, ◌<◌, inl, inr, Bool, true, false, List, [], ◌∷◌, length, refl, sym, ap, subst, ◌∙◌, arith}
use Rattle.std.specs.Prelude.{Option, Some, None}
use Rattle.claim_table.specs.declared.answer.Holder.{Holder}
use Rattle.claim_table.specs.Claims.{Claims, Claim, claim, holder_at, holder_by}
use Rattle.claim_table.specs.Laws.{IsSound}
use Rattle.claim_table.proofs.StepLemmas.{smaller_names_keep}
use Rattle.history.specs.AddressLaws.{IsReceiver}
use Rattle.history.specs.Entries.{Entry, History, frame, datagram, tick, command}
use Rattle.history.specs.Known.{Known, known, is_claim, claim_by}
use Rattle.history.specs.Settings.{Receiver}
use Rattle.history.proofs.Addresses.{addresses_are_sound}
use Rattle.history.proofs.Fates.{Fate, fate}
use Rattle.history.proofs.Fates as fates
use Rattle.history.proofs.KeySteps.{known_same}
use Rattle.history.proofs.TraceMoves.{commanded_holders, known_after_claim}

pub data Handed (i : ℕ) (before after : Option Holder) : Type 0 where
  stays : after ≡ before → Handed i before after
  gone : after ≡ None → Handed i before after
  new : (x : Holder) → after ≡ Some x → x.since ≡ i → ((y : Holder) → before ≡ Some y → x.name.0 ≢ y.name.0) → Handed i before after

module _ (c : Claims) (k : Claim) (sound : IsSound c) (a : ℕ) where
  abbrev before : Option Holder
  before = holder_at c.holders a

  abbrev after : Option Holder
  after = holder_at (claim c k).after.holders a

  less_isnt : (x y : ℕ) → x < y → x ≢ y
  less_isnt x y less = λ e. omega (arith, less, e)

  taken : after ≡ Some (holder_by k) → (b : Option Holder) → before ≡ b → Handed k.index before after
  taken is None nobody = new (holder_by k) is refl (λ y there. absurd (let no : None ≡ Some y = sym nobody ∙ there in cc))
  taken is (Some y) held = elim ((smaller_names_keep c [] k sound).holders a y (holder_by k) held is) [
    | inl same ↦ stays (is ∙ ap Some same ∙ sym held)
    | inr less ↦ new (holder_by k) is refl (λ z there. let one : Some y ≡ Some z = sym held ∙ there in
        let e : y ≡ z = cc in subst (λ (x : Holder). k.name ≢ x.name.0) e (less_isnt k.name y.name.0 less))
  ]

  by_fate : Fate c k (claim c k) a → Handed k.index before after
  by_fate (fates.stays kept same) = stays same
  by_fate (fates.begins (inr none) old) = gone none
  by_fate (fates.begins (inl is) old) = taken is before refl

  claimed : Handed k.index before after
  claimed = by_fate (fate c k sound a)

pub handed : (r : Receiver) (s : ℕ) (h : History) (e : Entry) → IsReceiver r → (a : ℕ)
    → Handed (length h) (holder_at (known r s h).claims.holders a) (holder_at (known r s (e ∷ h)).claims.holders a)
handed r s h (frame m f) are a = by (is_claim f) refl
  where
    by : (b : Bool) → is_claim f ≡ b → Handed (length h) (holder_at (known r s h).claims.holders a) (holder_at (known r s (frame m f ∷ h)).claims.holders a)
    by false other = stays (ap (λ (k : Known). holder_at k.claims.holders a) (known_same r s h m f other))
    by true claims =
        subst (λ (k : Known). Handed (length h) (holder_at (known r s h).claims.holders a) (holder_at k.claims.holders a)) (sym (known_after_claim r s h m f claims))
        (claimed (known r s h).claims (claim_by (length h) m f) (addresses_are_sound r s h are).sound a)
handed r s h (datagram m bytes) are a = stays refl
handed r s h (tick m) are a = stays refl
handed r s h (command m source address) are a = stays (ap (λ (x : List (Option Holder)). holder_at x a) (commanded_holders (known r s h).claims address m))
