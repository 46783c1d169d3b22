-- The parameter groups of further quantities can be heard beside the gateway.
use Rattle.std.specs.Prelude.{◌≡◌, ℕ, Bool, true, false, not, ◌||◌, ◌==◌, List, [], ◌∷◌, filter, slice_get, Option, Some, None, if◌then◌else◌, refl}
use Rattle.std.specs.List.{list_all}
use Rattle.std.proofs.Common.{subst, sym, ◌∙◌}
use Rattle.std.proofs.lemmas.Bool.{and_parts, eqb-true}
use Rattle.pgn_profile.specs.Profiled.{messages}
use Rattle.pgn_profile.specs.declared.kinds.Kind.{Kind}
use Rattle.pgn_profile.specs.declared.kinds.Kind.TheVariants.{Single, Fast, Outside}
use Rattle.quantities.specs.Told.{entries, kind_by, kind_of}
use Rattle.history.specs.Opens.{is_fast}
use Rattle.bus_listener.specs.Kinds.{AreHeard, is_told}

told_where_fast : (kind : Kind) (told : Bool) → kind ≡ Fast → (not (is_fast kind) || told) ≡ true → told ≡ true
told_where_fast Single told fast either = cc
told_where_fast Fast told fast either = either
told_where_fast Outside told fast either = cc

-- of a table, by the PGN of an entry and how it comes: where no entry of a fast packet is of a parameter group that the gateway assembles, none of
-- its parameter groups is
module _ {X : Type 0} (kind_by : Option X → Kind) (none : kind_by None ≡ Outside) (pgn_of : X → ℕ) where
  abbrev first : List X → Option X
  first group = slice_get group 0

  abbrev is_apart : X → Bool
  is_apart e = not (is_fast (kind_by (Some e))) || is_told (pgn_of e)

  told_in : (table : List X) → list_all is_apart table ≡ true → (pgn : ℕ) → kind_by (first (filter (λ e. pgn_of e == pgn) table)) ≡ Fast → is_told pgn ≡ true
  told_in [] apart pgn fast = let never : Outside ≡ Fast = sym none ∙ fast in cc
  told_in (e ∷ table) apart pgn fast =
      let both = and_parts (is_apart e) (list_all is_apart table) apart in
      by both.0 (pgn_of e == pgn) refl fast (told_in table both.1 pgn)
    where
      by : is_apart e ≡ true → (b : Bool) → (pgn_of e == pgn) ≡ b
          → kind_by (first (if b then e ∷ filter (λ e. pgn_of e == pgn) table else filter (λ e. pgn_of e == pgn) table)) ≡ Fast
          → (kind_by (first (filter (λ e. pgn_of e == pgn) table)) ≡ Fast → is_told pgn ≡ true) → is_told pgn ≡ true
      by here true is fast rest =
          subst (λ p. is_told p ≡ true) (eqb-true (pgn_of e) pgn is) (told_where_fast (kind_by (Some e)) (is_told (pgn_of e)) fast here)
      by here false is fast rest = rest fast

pub quantities_are_heard : AreHeard kind_of
unfolding entries messages
quantities_are_heard = record {
  claims = refl;
  requests = refl;
  management = refl;
  data_packets = refl;
  assembled = told_in kind_by refl (λ e. e.pgn) entries refl;
}
