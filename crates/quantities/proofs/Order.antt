-- The values of a message are of different quantities, in the order of the quantities.
use Rattle.std.proofs.Common.{◌≡◌, ◌≢◌, ℕ, ◌<◌, Bool, true, false, List, [], ◌∷◌, length, refl, sym, subst, ◌∙◌, arith}
use Rattle.std.specs.Prelude.{Option, Some, None, not, ◌&&◌, ◌==◌, nat_lt, if◌then◌else◌}
use Rattle.std.specs.List.{list_all}
use Rattle.std.proofs.lemmas.Bool.{and_parts, eq-eqb, eqb-true, ltb-true, ne_eqb}
use Rattle.quantities.specs.declared.payloads.Entry.{Entry}
use Rattle.quantities.specs.declared.value.Told.{Told}
use Rattle.quantities.specs.declared.value.Told.TheVariants as says
use Rattle.quantities.specs.declared.value.Value.{Value}
use Rattle.quantities.specs.About.{number_of}
use Rattle.quantities.specs.Layout.{layout_of}
use Rattle.quantities.specs.Laws.{EachIsInOrder}
use Rattle.quantities.specs.Part.{selects}
use Rattle.quantities.specs.Saying.{is_usable}
use Rattle.quantities.specs.Sound.{are_apart, excludes, is_beside, is_entry_sound, is_placed}
use Rattle.quantities.specs.Told.{IsBefore, IsInOrder, entries, entries_of, entry_at, first_of, given, given_by, told, told_by, value_at, value_by, values_in}
use Rattle.quantities.proofs.Found.{first_found, is_of}
use Rattle.quantities.proofs.OneEntry.{agree}
use Rattle.quantities.proofs.Sayings.{tables_are_sound}

-- ---- two entries of a group at different places

placed_before : (e f : Entry) → e.place ≢ f.place → is_placed e f ≡ true → (e.place < f.place) × (number_of e.quantity < number_of f.quantity)
placed_before e f other placed =
    let parts : nat_lt e.place f.place && nat_lt (number_of e.quantity) (number_of f.quantity) ≡ true =
    subst (λ (b : Bool). (if b then excludes e.selector f.selector else (nat_lt e.place f.place && nat_lt (number_of e.quantity) (number_of f.quantity))) ≡ true)
    (ne_eqb e.place f.place other) placed in
    let both = and_parts (nat_lt e.place f.place) (nat_lt (number_of e.quantity) (number_of f.quantity)) parts in
    (ltb-true e.place f.place both.0, ltb-true (number_of e.quantity) (number_of f.quantity) both.1)

module _ (pgn : ℕ) (payload : List ℕ) where
  abbrev at : ℕ → List Entry → Option Entry
  at place table = entry_at (entries_of table pgn) payload place

  -- what is known of an entry that is found at a place
  record IsFound (place : ℕ) (table : List Entry) (e : Entry) : Type 0 where
    pgn_is : e.pgn ≡ pgn
    place_is : e.place ≡ place
    beside : (x : Entry) → list_all (is_beside x) table ≡ true → is_beside x e ≡ true

  tested : (place : ℕ) (x : Entry) → is_of pgn payload place x ≡ true → (x.pgn ≡ pgn) × (x.place ≡ place)
  tested place x is =
      let outer = and_parts (x.pgn == pgn) ((x.place == place) && selects x.selector payload) is in
      let inner = and_parts (x.place == place) (selects x.selector payload) outer.1 in
      (eqb-true x.pgn pgn outer.0, eqb-true x.place place inner.0)

  found : (place : ℕ) (table : List Entry) (e : Entry) → at place table ≡ Some e → IsFound place table e
  found place [] e is = cc
  found place (x ∷ table) e is = by (is_of pgn payload place x) refl (sym (first_found pgn payload place x table) ∙ is) (λ later. found place table e later)
    where
      by : (b : Bool) → is_of pgn payload place x ≡ b → (if b then Some x else at place table) ≡ Some e → (at place table ≡ Some e → IsFound place table e)
          → IsFound place (x ∷ table) e
      by true test here rest =
          let same : x ≡ e = cc in
          let known = tested place x test in
          record {
            pgn_is = subst (λ (y : Entry). y.pgn ≡ pgn) same known.0;
            place_is = subst (λ (y : Entry). y.place ≡ place) same known.1;
            beside = λ y all. subst (λ (z : Entry). is_beside y z ≡ true) same ((and_parts (is_beside y x) (list_all (is_beside y) table) all).0);
          }
      by false test there rest =
          let later = rest there in
          record {
            pgn_is = later.pgn_is;
            place_is = later.place_is;
            beside = λ y all. later.beside y ((and_parts (is_beside y x) (list_all (is_beside y) table) all).1);
          }

  -- an entry stands before another one of its group
  stands_before : (i j : ℕ) (x : Entry) (table : List Entry) (e : Entry) → list_all (is_beside x) table ≡ true → (x.pgn ≡ pgn) × (x.place ≡ i) → i ≢ j
      → at j table ≡ Some e → (i < j) × (number_of x.quantity < number_of e.quantity)
  stands_before i j x table e all known other is =
      let f = found j table e is in
      let same : (x.pgn == e.pgn) ≡ true = eq-eqb x.pgn e.pgn (known.0 ∙ sym f.pgn_is) in
      let apart : x.place ≢ e.place = λ one. other (sym known.1 ∙ one ∙ f.place_is) in
      let before = placed_before x e apart ((agree x e (f.beside x all) same).placed) in
      let less = before.0 in
      let at_i = known.1 in
      let at_j = f.place_is in
      (omega (arith, less, at_i, at_j), before.1)

  ordered : (i j : ℕ) → i < j → (table : List Entry) → are_apart table ≡ true → (e f : Entry) → at i table ≡ Some e → at j table ≡ Some f
      → number_of e.quantity < number_of f.quantity
  ordered i j less [] apart e f first second = cc
  ordered i j less (x ∷ table) apart e f first second =
      by (is_of pgn payload i x) refl (is_of pgn payload j x) refl (sym (first_found pgn payload i x table) ∙ first) (sym (first_found pgn payload j x table) ∙ second)
      (λ one two. ordered i j less table both.1 e f one two)
    where
      both : (list_all (is_beside x) table ≡ true) × (are_apart table ≡ true)
      both = and_parts (list_all (is_beside x) table) (are_apart table) apart

      differ : i ≢ j
      differ = λ same. omega (arith, less, same)

      by : (b : Bool) → is_of pgn payload i x ≡ b → (d : Bool) → is_of pgn payload j x ≡ d → (if b then Some x else at i table) ≡ Some e
          → (if d then Some x else at j table) ≡ Some f → (at i table ≡ Some e → at j table ≡ Some f → number_of e.quantity < number_of f.quantity)
          → number_of e.quantity < number_of f.quantity
      by true here true there one two rest =
          let at_i = (tested i x here).1 in
          let at_j = (tested j x there).1 in
          absurd (omega (arith, less, at_i, at_j))
      by true here false there one two rest =
          let same : x ≡ e = cc in
          subst (λ (y : Entry). number_of y.quantity < number_of f.quantity) same ((stands_before i j x table f both.0 (tested i x here) differ two).1)
      by false here true there one two rest =
          let back = (stands_before j i x table e both.0 (tested j x there) (λ same. differ (sym same)) one).0 in
          absurd (omega (arith, less, back))
      by false here false there one two rest = rest one two

  -- ---- their values

  given_before : (e f : Entry) → number_of e.quantity < number_of f.quantity → IsBefore (given e payload) (given f payload)
  given_before e f less =
      by (e.only_usable && not (is_usable (value_by e payload))) (f.only_usable && not (is_usable (value_by f payload)))
    where
      by : (b d : Bool) → IsBefore (if b then None else Some (value_by e payload)) (if d then None else Some (value_by f payload))
      by true d = tt
      by false true = tt
      by false false = less

  nothing_before : (v : Option Value) → IsBefore v None
  nothing_before None = tt
  nothing_before (Some v) = tt

  values_before : (i j : ℕ) → i < j → (table : List Entry) → are_apart table ≡ true
      → IsBefore (value_at (entries_of table pgn) payload i) (value_at (entries_of table pgn) payload j)
  values_before i j less table apart = by (at i table) refl (at j table) refl
    where
      by : (o : Option Entry) → at i table ≡ o → (p : Option Entry) → at j table ≡ p → IsBefore (given_by o payload) (given_by p payload)
      by None first p second = tt
      by (Some e) first None second = nothing_before (given e payload)
      by (Some e) first (Some f) second = given_before e f (ordered i j less table apart e f first second)

  in_order : (table : List Entry) → are_apart table ≡ true → IsInOrder (told_by (first_of (entries_of table pgn)) (entries_of table pgn) payload)
  in_order table apart = by (first_of (entries_of table pgn))
    where
      by : (o : Option Entry) → IsInOrder (told_by o (entries_of table pgn) payload)
      by None = tt
      by (Some first) = short (nat_lt (length payload) first.least)
        where
          short : (b : Bool) → IsInOrder (if b then says.Short else says.Values (values_in (entries_of table pgn) payload))
          short true = tt
          short false = (
            (values_before 0 1 (omega arith) table apart, (values_before 0 2 (omega arith) table apart, tt)),
            ((values_before 1 2 (omega arith) table apart, tt), (tt, tt)),
          )

pub each_is_in_order : EachIsInOrder
each_is_in_order layouts table sound pgn payload =
    in_order pgn payload table ((and_parts (list_all (is_entry_sound layouts) table) (are_apart table) sound).1)

pub is_in_order : (t : Told) (pgn : ℕ) (payload : List ℕ) → t ≡ told pgn payload → IsInOrder t
is_in_order t pgn payload is = rw is (each_is_in_order (layout_of false) entries (tables_are_sound false) pgn payload)
