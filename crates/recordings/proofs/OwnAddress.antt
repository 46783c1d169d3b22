-- A tick at which no change of the gateway's own address is told changes nothing that is told of it later.
use Rattle.std.proofs.Common.{◌≡◌, ℕ, Bool, true, false, [], ◌∷◌, ◌++◌, refl, sym, ap, ◌∙◌}
use Rattle.std.specs.Prelude.{nat_eq, Option, Some, None}
use Rattle.std.proofs.lemmas.Bool.{eq-eqb, eqb-true}
use Rattle.report_rules.specs.Rules as rules
use Rattle.gate_events.specs.declared.emit.Detail.TheVariants as detail
use Rattle.gate_events.specs.Emit.{Emit}
use Rattle.history.specs.Emits.{broken}
use Rattle.history.specs.Entries as entry
use Rattle.history.specs.Entries.{Entry, History, tick}
use Rattle.history.specs.Known.{Known}
use Rattle.history.specs.Settings.{Settings, receiver_of}
use Rattle.own_address.specs.AddressOut.{address_out, own_at, own_told, told}
use Rattle.recordings.proofs.Known.{known_without}

told_something : (e : Emit) → e ∷ [] ≡ [] → ⊥
told_something e is = cc

-- what is told of the same address is nothing, and where nothing is told it is the same
unchanged : (a : Option ℕ) → told a a ≡ []
unchanged None = refl
unchanged (Some n) = rw (eq-eqb n n refl) refl

same : (before now : Option ℕ) → told before now ≡ [] → before ≡ now
same None None none = refl
same None (Some n) none = absurd cc
same (Some b) None none = absurd cc
same (Some b) (Some n) none = by (nat_eq n b) refl
  where
    by : (x : Bool) → nat_eq n b ≡ x → Some b ≡ Some n
    by true is = ap Some (sym (eqb-true n b is))
    by false is = absurd (told_something (broken rules.own_address (detail.Own (Some n))) (rw is at none))

module _ (c : Settings) (s m : ℕ) (h : History) (none : address_out c s h (tick m) ≡ []) where
  own_without : (newer : History) → own_at c s (newer ++ h) ≡ own_at c s (newer ++ tick m ∷ h)
  own_without newer = ap (λ (k : Known). k.claims.own) (known_without (receiver_of c) s m h newer)

  told_without : (newer : History) → own_told c s (newer ++ h) ≡ own_told c s (newer ++ tick m ∷ h)
  told_without [] = same (own_told c s h) (own_at c s (tick m ∷ h)) none
  told_without (entry.frame t f ∷ newer) = own_without (entry.frame t f ∷ newer)
  told_without (entry.datagram t bytes ∷ newer) = own_without (entry.datagram t bytes ∷ newer)
  told_without (entry.tick t ∷ newer) = own_without (entry.tick t ∷ newer)
  told_without (entry.command t source address ∷ newer) = told_without newer

  pub address_without : (newer : History) (e : Entry) → address_out c s (newer ++ h) e ≡ address_out c s (newer ++ tick m ∷ h) e
  address_without newer e =
      ap (λ (x : Option ℕ). told x (own_at c s (e ∷ newer ++ h))) (told_without newer)
      ∙ ap (told (own_told c s (newer ++ tick m ∷ h))) (own_without (e ∷ newer))

-- at a tick before anything came it is that of the start
pub address_first : (c : Settings) (s : ℕ) → address_out c s [] (tick s) ≡ []
address_first c s = unchanged (own_at c s [])
