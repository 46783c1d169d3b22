-- The emit at a place: one of those that are told, or the datagram behind them.
use Rattle.std.proofs.Common.{◌≡◌, ◌≢◌, ℕ, zero, suc, ◌==◌, ◌<◌, ◌↔◌, Bool, true, false, ◌&&◌, List, [], ◌∷◌, ◌++◌, length, Option, Some, None, option_map, refl, sym, ap, append-nil, arith}
use Rattle.std.specs.Prelude.{slice_get, IsSome}
use Rattle.std.proofs.lemmas.Bool.{false≢true, eqb-true, eqb-false}
use Rattle.gate_events.specs.declared.emit.Emit.{Emit as Lent}
use Rattle.gate_events.specs.Emit.{Emit, net}
use Rattle.gate_outbox.specs.declared.datagram.Datagram.{Datagram}
use Rattle.gate_outbox.specs.Kept.{posted_emits}
use Rattle.gate_outbox.specs.Output.{emit_of}
use Rattle.history.specs.Emits.{is_there}

pub within : (o : Option Lent) (emits : List Emit) (place : ℕ) → option_map emit_of o ≡ slice_get emits place → IsSome o ↔ (place < length emits)
within None [] place is = (λ e. absurd (false≢true e), λ lt. absurd (omega (arith, lt)))
within None (x ∷ emits) zero is = cc
within None (x ∷ emits) (suc n) is = let less = within None emits n is in (λ e. absurd (false≢true e), λ lt. less.1 (omega (arith, lt)))
within (Some e) [] place is = cc
within (Some e) (x ∷ emits) zero is = (λ _. omega arith, λ _. refl)
within (Some e) (x ∷ emits) (suc n) is = let less = within (Some e) emits n is in (λ s. let lt = less.0 s in omega (arith, lt), λ _. refl)

-- ---- behind those that are told

before_end : (told : List Emit) (e : Emit) (place : ℕ) → place ≢ length told → slice_get told place ≡ slice_get (told ++ e ∷ []) place
before_end [] e zero apart = absurd (apart refl)
before_end [] e (suc n) apart = refl
before_end (x ∷ told) e zero apart = refl
before_end (x ∷ told) e (suc n) apart = before_end told e n (λ is. apart (ap suc is))

at_end : (told : List Emit) (e : Emit) (place : ℕ) → place ≡ length told → Some e ≡ slice_get (told ++ e ∷ []) place
at_end [] e zero is = refl
at_end [] e (suc n) is = cc
at_end (x ∷ told) e zero is = cc
at_end (x ∷ told) e (suc n) is = at_end told e n (omega (arith, is))

module _ (told : List Emit) (d : Datagram) (place : ℕ) where
  pub told_at : (posted : Bool) → (is_there (posted_emits posted d) && (place == length told)) ≡ false
      → slice_get told place ≡ slice_get (told ++ posted_emits posted d) place
  told_at true apart = before_end told (net d.group d.packet.items) place (eqb-false place (length told) apart)
  told_at false apart = ap (λ es. slice_get es place) (sym (append-nil told))

  pub posted_at : (posted : Bool) → (is_there (posted_emits posted d) && (place == length told)) ≡ true
      → Some (net d.group d.packet.items) ≡ slice_get (told ++ posted_emits posted d) place
  posted_at true here = at_end told (net d.group d.packet.items) place (eqb-true place (length told) here)
  posted_at false here = absurd (false≢true here)
