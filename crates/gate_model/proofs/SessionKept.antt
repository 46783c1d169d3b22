-- The map of sessions without those of addresses that change hands.
use Rattle.std.proofs.Common.{◌≡◌, ℕ, Bool, true, false, ◌&&◌, ◌||◌, not, List, [], ◌∷◌, refl, sym, ap, ◌∙◌}
use Rattle.std.specs.Prelude.{Option, Some, None, filter}
use Rattle.claim_table.specs.Claims.{is_at}
use Rattle.slot_views.specs.Slots.{Entry, SlotMap, remaining}
use Rattle.iso_transport.specs.declared.key.IsoKey.{IsoKey}
use Rattle.iso_transport.specs.Assembly.{is_from, is_addressed}
use Rattle.history.proofs.KeySteps.{eqb-sym}
use Rattle.gate_model.specs.Sessions.{without_source, without_addressed, is_given_up, sessions_kept}
use Rattle.gate_model.proofs.FastMaps.{filtered_twice}
use Rattle.gate_model.proofs.SessionTraces.{and_no}

and_yes : (x : Bool) → (x && true) ≡ x
and_yes true = refl
and_yes false = refl

filtered_same : {X : Type 0} (p q : X → Bool) → ((x : X) → p x ≡ q x) → (xs : List X) → filter p xs ≡ filter q xs
filtered_same p q same [] = refl
filtered_same p q same (x ∷ xs) = rw (same x, filtered_same p q same xs) refl

filtered_all : {X : Type 0} (xs : List X) → filter (λ x. not false) xs ≡ xs
filtered_all [] = refl
filtered_all (x ∷ xs) = ap (λ (ys : List _). x ∷ ys) (filtered_all xs)

pub filtered_none : {X : Type 0} (p : X → Bool) → ((x : X) → p x ≡ false) → (xs : List X) → filter p xs ≡ []
filtered_none p none [] = refl
filtered_none p none (x ∷ xs) = rw (none x) (filtered_none p none xs)

-- of an address that changes hands
abbrev pub at_source : Option ℕ → IsoKey × Entry → Bool
at_source o e = is_at e.0.source o

pub from_is : (a : ℕ) (e : IsoKey × Entry) → is_from a e ≡ at_source (Some a) e
from_is a e = eqb-sym e.0.source a

-- the entries without those of a source, and those of it
pub source_gone : (o : Option ℕ) (slots : SlotMap IsoKey) → (without_source o slots).entries ≡ filter (λ e. not (at_source o e)) slots.entries
source_gone None slots = sym (filtered_all slots.entries)
source_gone (Some a) slots = filtered_same (λ e. not (is_from a e)) (λ e. not (at_source (Some a) e)) (λ e. ap not (from_is a e)) slots.entries

addressed_gone : (moved : Bool) (slots : SlotMap IsoKey) → (without_addressed moved slots).entries ≡ filter (λ e. not (e.0.addressed && moved)) slots.entries
addressed_gone false slots = sym (filtered_same (λ e. not (e.0.addressed && false)) (λ e. not false) (λ e. ap not (and_no e.0.addressed)) slots.entries ∙ filtered_all slots.entries)
addressed_gone true slots = filtered_same (λ e. not (is_addressed e)) (λ e. not (e.0.addressed && true)) (λ e. ap not (sym (and_yes e.0.addressed))) slots.entries

neither : (a b : Bool) → not (a || b) ≡ (not a && not b)
neither true b = refl
neither false b = refl

source_limit : (o : Option ℕ) (slots : SlotMap IsoKey) → (without_source o slots).limit ≡ slots.limit
source_limit None slots = refl
source_limit (Some a) slots = refl

addressed_limit : (moved : Bool) (slots : SlotMap IsoKey) → (without_addressed moved slots).limit ≡ slots.limit
addressed_limit false slots = refl
addressed_limit true slots = refl

module _ (left won : Option ℕ) (moved : Bool) (slots : SlotMap IsoKey) where
  pub both_gone : (without_source won (without_source left slots)).entries ≡ filter (λ e. not (at_source left e || at_source won e)) slots.entries
  both_gone =
      source_gone won (without_source left slots)
      ∙ (ap (filter (λ (e : IsoKey × Entry). not (at_source won e))) (source_gone left slots)
      ∙ filtered_twice (λ e. not (at_source won e)) (λ e. not (at_source left e)) (λ e. not (at_source left e || at_source won e)) (λ e. neither (at_source left e) (at_source won e)) slots.entries)

  all_gone : (sessions_kept left won moved slots).entries ≡ filter (λ e. not (is_given_up left won moved e)) slots.entries
  all_gone =
      addressed_gone moved (without_source won (without_source left slots))
      ∙ (ap (filter (λ (e : IsoKey × Entry). not (e.0.addressed && moved))) both_gone
      ∙ filtered_twice (λ e. not (e.0.addressed && moved)) (λ e. not (at_source left e || at_source won e)) (λ e. not (is_given_up left won moved e))
      (λ e. neither (at_source left e || at_source won e) (e.0.addressed && moved)) slots.entries)

  same_limit : (sessions_kept left won moved slots).limit ≡ slots.limit
  same_limit = addressed_limit moved (without_source won (without_source left slots)) ∙ (source_limit won (without_source left slots) ∙ source_limit left slots)

  pub kept_is : sessions_kept left won moved slots ≡ remaining (is_given_up left won moved) slots
  kept_is = ap (λ (n : ℕ). made n (sessions_kept left won moved slots).entries) same_limit ∙ ap (made slots.limit) all_gone
    where
      made : ℕ → List (IsoKey × Entry) → SlotMap IsoKey
      made limit entries = record { limit = limit; entries = entries }
