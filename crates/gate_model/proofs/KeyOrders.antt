-- The keys of fast packets, of sessions and of groups of lines are compared in the order in which they are reported.
use Rattle.std.proofs.Common.{◌≡◌, ℕ, Bool, true, false, ◌&&◌, ◌||◌, not, nat_lt, List, [], ◌∷◌, refl, sym, ap, ◌∙◌, ◌==◌, arith}
use Rattle.std.specs.Prelude.{cond}
use Rattle.std.specs.Bool.{beq}
use Rattle.std.specs.Cmp.Lexicographic.{slice_cmp}
use Rattle.std.specs.Ordering.{is_lt, is_eq, nat_cmp, bool_cmp, ordering_then}
use Rattle.std.specs.declared.cmp.Ordering.{Ordering}
use Rattle.std.specs.declared.cmp.Ordering.TheVariants.{Less, Equal, Greater}
use Rattle.std.proofs.lemmas.Bool.{eqb-true, ltb-true}
use Rattle.fast_packet.specs.contracts.key.FastKeyOrd as fast
use Rattle.iso_transport.specs.contracts.key.IsoKeyOrd as iso
use Rattle.tag_block.specs.contracts.group_key.GroupKeyOrd as groups
use Rattle.history.specs.Heard.{precedes_text}
use Rattle.history.specs.Settings.{same_text}
use Rattle.gate_model.specs.Orders.{OrdersFast, OrdersIso, OrdersGroups}

-- ---- numbers

number_eq : (n m : ℕ) → is_eq (nat_cmp n m) ≡ (n == m)
number_eq n m = by (nat_lt n m) refl (n == m) refl
  where
    by : (l : Bool) → nat_lt n m ≡ l → (e : Bool) → (n == m) ≡ e → is_eq (cond l Less (cond e Equal Greater)) ≡ e
    by true l true e = let less = ltb-true n m l in let same = eqb-true n m e in absurd (omega (arith, less, same))
    by true l false e = refl
    by false l true e = refl
    by false l false e = refl

number_lt : (n m : ℕ) → nat_lt n m ≡ is_lt (nat_cmp n m)
number_lt n m = by (nat_lt n m) (n == m)
  where
    by : (l e : Bool) → l ≡ is_lt (cond l Less (cond e Equal Greater))
    by true e = refl
    by false true = refl
    by false false = refl

-- by something else first, and then by a number
both_eq : (n m : ℕ) (r : Ordering) → is_eq (ordering_then r (nat_cmp n m)) ≡ (is_eq r && (n == m))
both_eq n m Less = refl
both_eq n m Equal = number_eq n m
both_eq n m Greater = refl

both_lt : (n m : ℕ) (r : Ordering) → (is_lt r || (is_eq r && nat_lt n m)) ≡ is_lt (ordering_then r (nat_cmp n m))
both_lt n m Less = refl
both_lt n m Equal = number_lt n m
both_lt n m Greater = refl

-- where the first test says what another one does
module _ (n m : ℕ) (r : Ordering) {same before : Bool} (eq : is_eq r ≡ same) (lt : is_lt r ≡ before) where
  tells_by : is_eq (ordering_then r (nat_cmp n m)) ≡ (same && (n == m))
  tells_by = both_eq n m r ∙ ap (λ (b : Bool). b && (n == m)) eq

  precedes_by : (before || (same && nat_lt n m)) ≡ is_lt (ordering_then r (nat_cmp n m))
  precedes_by = sym (ap (λ (b : Bool). b || (is_eq r && nat_lt n m)) lt ∙ ap (λ (b : Bool). before || (b && nat_lt n m)) eq) ∙ both_lt n m r

-- ---- fast packets, by source and then by PGN

pub fast_in_order : OrdersFast fast.TheImpl.ghosts.cmp
fast_in_order = record {
  order = fast.TheImpl.Laws.total-law;
  tells = λ a b. tells_by a.pgn b.pgn (nat_cmp a.source b.source) (number_eq a.source b.source) (sym (number_lt a.source b.source));
  precedes_so = λ a b. precedes_by a.pgn b.pgn (nat_cmp a.source b.source) (number_eq a.source b.source) (sym (number_lt a.source b.source));
}

-- ---- sessions, those to all first, and each kind by source

kind_eq : (a b : Bool) → is_eq (bool_cmp a b) ≡ beq a b
kind_eq true true = refl
kind_eq true false = refl
kind_eq false true = refl
kind_eq false false = refl

kind_lt : (a b : Bool) → is_lt (bool_cmp a b) ≡ (not a && b)
kind_lt true true = refl
kind_lt true false = refl
kind_lt false true = refl
kind_lt false false = refl

pub iso_in_order : OrdersIso iso.TheImpl.ghosts.cmp
iso_in_order = record {
  order = iso.TheImpl.Laws.total-law;
  tells = λ a b. tells_by a.source b.source (bool_cmp a.addressed b.addressed) (kind_eq a.addressed b.addressed) (kind_lt a.addressed b.addressed);
  precedes_so = λ a b. precedes_by a.source b.source (bool_cmp a.addressed b.addressed) (kind_eq a.addressed b.addressed) (kind_lt a.addressed b.addressed);
}

-- ---- groups of lines, by source and then by code

text_eq : (a b : List ℕ) → is_eq (slice_cmp nat_cmp a b) ≡ same_text a b
text_eq [] [] = refl
text_eq [] (y ∷ b) = refl
text_eq (x ∷ a) [] = refl
text_eq (x ∷ a) (y ∷ b) = by (nat_lt x y) refl (x == y) refl (text_eq a b)
  where
    by : (l : Bool) → nat_lt x y ≡ l → (e : Bool) → (x == y) ≡ e → is_eq (slice_cmp nat_cmp a b) ≡ same_text a b
        → is_eq (ordering_then (cond l Less (cond e Equal Greater)) (slice_cmp nat_cmp a b)) ≡ (e && same_text a b)
    by true l true e rest = let less = ltb-true x y l in let same = eqb-true x y e in absurd (omega (arith, less, same))
    by true l false e rest = refl
    by false l true e rest = rest
    by false l false e rest = refl

text_lt : (a b : List ℕ) → is_lt (slice_cmp nat_cmp a b) ≡ precedes_text a b
text_lt [] [] = refl
text_lt [] (y ∷ b) = refl
text_lt (x ∷ a) [] = refl
text_lt (x ∷ a) (y ∷ b) = by (nat_lt x y) (x == y) (text_lt a b)
  where
    by : (l e : Bool) → is_lt (slice_cmp nat_cmp a b) ≡ precedes_text a b
        → is_lt (ordering_then (cond l Less (cond e Equal Greater)) (slice_cmp nat_cmp a b)) ≡ (l || (e && precedes_text a b))
    by true e rest = refl
    by false true rest = rest
    by false false rest = refl

pub groups_in_order : OrdersGroups groups.TheImpl.ghosts.cmp
groups_in_order = record {
  order = groups.TheImpl.Laws.total-law;
  tells = λ a b. tells_by a.code b.code (slice_cmp nat_cmp a.sfi b.sfi) (text_eq a.sfi b.sfi) (text_lt a.sfi b.sfi);
  precedes_so = λ a b. precedes_by a.code b.code (slice_cmp nat_cmp a.sfi b.sfi) (text_eq a.sfi b.sfi) (text_lt a.sfi b.sfi);
}
