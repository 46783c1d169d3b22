-- What is kept of the addresses tells what all that is known of them would tell.
use Rattle.std.proofs.Common.{◌≡◌, ℕ, min, length, refl, sym, ap, subst, ◌∙◌, arith, is_some}
use Rattle.std.specs.Prelude.{Option, Some, None, All, option_map}
use Rattle.std.proofs.lemmas.List.Elements.{All-map}
use lib.ListN.{get_or-map}
use Rattle.n2k_id.specs.declared.identifier_parts.Parts.{Parts}
use Rattle.pgn_profile.specs.declared.kinds.Kind.{Kind}
use Rattle.claim_table.specs.declared.answer.Holder.{Holder}
use Rattle.claim_table.specs.Claims.{Claims, Outcome, IsSinceBy, holder_at}
use Rattle.claim_table.specs.Laws.{capped, capped_holder}
use Rattle.claim_table.proofs.RenumberedLemmas.{indices_may_stop}
use Rattle.history.specs.Entries as entry
use Rattle.history.specs.Entries.{History}
use Rattle.history.specs.Known.{known}
use Rattle.history.specs.Meanings.{meaning_of}
use Rattle.history.specs.Messages.{Carried, said_by}
use Rattle.history.specs.FromBus.{own_answer}
use Rattle.history.proofs.Addresses.{addresses_are_sound}
use Rattle.gate_model.specs.Addresses.{last_index}
use Rattle.gate_model.specs.AddressStands.{TellsAlike, StandingTellsAlike, StandingFits, ClaimsAreTold, CommandsAreTold}
use Rattle.gate_model.proofs.AddressSteps.{claimed_is, claims_are}

-- ---- a table whose indices are counted no further

module _ (n : ℕ) (c : Claims) where
  pub at_capped : (a : ℕ) → holder_at (capped n c).holders a ≡ capped_holder n (holder_at c.holders a)
  at_capped a = get_or-map (capped_holder n) c.holders a None

  names_by : (o : Option Holder) → option_map (λ (x : Holder). x.name) (capped_holder n o) ≡ option_map (λ (x : Holder). x.name) o
  names_by None = refl
  names_by (Some x) = refl

  held_by : (o : Option Holder) → is_some (capped_holder n o) ≡ is_some o
  held_by None = refl
  held_by (Some x) = refl

  said_so : (index moment source : ℕ) (what : Option Carried) (o : Option Holder)
      → said_by index moment source (capped_holder n o) what ≡ said_by index moment source o what
  said_so index moment source what None = refl
  said_so index moment source what (Some x) = refl

  meant : (kinds : ℕ → Kind) (p : Parts) → meaning_of kinds (capped n c).own (capped n c).holders p ≡ meaning_of kinds c.own c.holders p
  meant kinds p =
      let held : is_some (holder_at (capped n c).holders p.source) ≡ is_some (holder_at c.holders p.source) =
      ap is_some (at_capped p.source) ∙ held_by (holder_at c.holders p.source) in rw held refl

  pub capped_tells : TellsAlike (capped n c) c
  capped_tells = record {
    name = refl;
    own = refl;
    names = λ a. ap (option_map (λ (x : Holder). x.name)) (at_capped a) ∙ names_by (holder_at c.holders a);
    ready = λ m. refl;
    obeyed = λ a. (indices_may_stop n c).obeyed a;
    meaning = meant;
    said = λ index moment source what.
        ap (λ (o : Option Holder). said_by index moment source o what) (at_capped source)
        ∙ said_so index moment source what (holder_at c.holders source);
  }

pub standing_tells_alike : StandingTellsAlike
standing_tells_alike r s h k stands =
    subst (λ (c : Claims). TellsAlike c (known r s h).claims) (sym stands.claims) (capped_tells last_index (known r s h).claims)

-- ---- the calls can be made

capped_since : (n i : ℕ) (x : Option Holder) → IsSinceBy i x → IsSinceBy (min n i) (capped_holder n x)
capped_since n i None by = tt
capped_since n i (Some h) by = omega (arith, by)

pub standing_fits : StandingFits
standing_fits r s h k are stands = record {
  count = omega (arith, stands.count);
  dated =
      subst (λ (c : Claims). All (IsSinceBy k.count) c.holders) (sym stands.claims)
      (subst (λ (i : ℕ). All (IsSinceBy i) (capped last_index (known r s h).claims).holders) (sym stands.count)
      (All-map (IsSinceBy (min last_index (length h))) (capped_holder last_index) (known r s h).claims.holders
      (λ i d within. capped_since last_index (length h) _ ((addresses_are_sound r s h are).dated i d within))));
}

-- ---- claims and commands

pub claims_are_told : ClaimsAreTold
claims_are_told r s h m f k claims stands = record {
  step = ap (λ (o : Outcome). o.step) (claimed_is r s h k stands m f);
  answer = ap (λ (o : Outcome). own_answer r.name o.step.own o.after.own) (claimed_is r s h k stands m f) ∙ rw claims refl;
}

pub commands_are_told : CommandsAreTold
commands_are_told r s h m source address k stands =
    let alike = standing_tells_alike r s h k stands in
    record {
      obeyed = alike.obeyed address;
      reports = rw (alike.obeyed address) refl;
      own = ap (λ (c : Claims). c.own) (claims_are r s h k stands (entry.command m source address));
    }
