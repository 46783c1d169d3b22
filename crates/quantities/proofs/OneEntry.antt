-- At each place of a payload the value is of one entry of a sound table.
use Rattle.std.proofs.Common.{◌≡◌, ℕ, zero, suc, Bool, true, false, List, [], ◌∷◌, length, refl, ap, ◌∙◌, subst, arith}
use Rattle.std.specs.Prelude.{Option, Some, ◌&&◌, ◌||◌, ◌==◌, not, nat_lt, slice_get, if◌then◌else◌}
use Rattle.std.specs.List.{list_all}
use Rattle.std.proofs.lemmas.Bool.{and_from, and_parts, eq-eqb, eqb-true, le-ltb}
use Rattle.std.proofs.lemmas.Bool.Decides.{nat_tests}
use Rattle.pgn_profile.specs.declared.kinds.Kind.{Kind}
use Rattle.pgn_profile.specs.declared.kinds.Kind.TheVariants.{Single, Fast, Outside}
use Rattle.quantities.specs.declared.part.Selector.{Selector}
use Rattle.quantities.specs.declared.part.Selector.TheVariants.{Always, Bits}
use Rattle.quantities.specs.declared.payloads.Entry.{Entry}
use Rattle.quantities.specs.About.{number_of}
use Rattle.quantities.specs.Part.{selects}
use Rattle.quantities.specs.declared.value.Told.TheVariants as says
use Rattle.quantities.specs.Laws.{EachIsRead, IsReadBy, value_told}
use Rattle.quantities.specs.Sound.{are_apart, excludes, is_beside, is_entry_readable, is_entry_sound, is_placed, is_sayable, same_kind}
use Rattle.quantities.specs.declared.about.Quantity.{Quantity}
use Rattle.quantities.specs.Layout.{Layout}
use Rattle.quantities.specs.Told.{entries_of, entry_at, first_of, given_by, kind_by, most_told, told_by, value_at, values_in}
use Rattle.quantities.proofs.Found.{first_found, is_of}

kinds_agree : (k l : Kind) → same_kind k l ≡ true → k ≡ l
kinds_agree Single Single h = refl
kinds_agree Fast Fast h = refl
kinds_agree Outside Outside h = refl
kinds_agree Single Fast h = absurd (cc)
kinds_agree Single Outside h = absurd (cc)
kinds_agree Fast Single h = absurd (cc)
kinds_agree Fast Outside h = absurd (cc)
kinds_agree Outside Single h = absurd (cc)
kinds_agree Outside Fast h = absurd (cc)

-- no payload has two values in the same bits
one_value : (bits v w : ℕ) → (bits == v) ≡ true → not (v == w) ≡ true → (bits == w) ≡ false
one_value bits v w same differ = grind (arith, nat_tests)

excluded : (s t : Selector) (payload : List ℕ) → excludes s t ≡ true → selects t payload ≡ true → selects s payload ≡ false
excluded Always t payload h is = absurd (cc)
excluded (Bits p l c v) Always payload h is = absurd (cc)
excluded (Bits p l c v) (Bits p' l' c' v') payload h is = grind (arith, nat_tests)

-- what two entries of one group have in common
pub record Agree (e f : Entry) : Type 0 where
  pub kind : e.kind ≡ f.kind
  pub least : e.least ≡ f.least
  pub placed : is_placed e f ≡ true

pub agree : (e f : Entry) → is_beside e f ≡ true → (e.pgn == f.pgn) ≡ true → Agree e f
agree e f h same =
    let both : (same_kind e.kind f.kind && (e.least == f.least)) && is_placed e f ≡ true =
    subst (λ (b : Bool). (not b || (same_kind e.kind f.kind && (e.least == f.least) && is_placed e f)) ≡ true) same h in
    let outer = and_parts (same_kind e.kind f.kind && (e.least == f.least)) (is_placed e f) both in
    let inner = and_parts (same_kind e.kind f.kind) (e.least == f.least) outer.0 in
    record { kind = kinds_agree e.kind f.kind inner.0; least = eqb-true e.least f.least inner.1; placed = outer.1 }

beside_at : (x : Entry) (table : List Entry) (k : ℕ) (e : Entry) → list_all (is_beside x) table ≡ true → slice_get table k ≡ Some e → is_beside x e ≡ true
beside_at x [] k e all at = cc
beside_at x (f ∷ table) zero e all at =
    let same : f ≡ e = cc in
    subst (λ (g : Entry). is_beside x g ≡ true) same ((and_parts (is_beside x f) (list_all (is_beside x) table) all).0)
beside_at x (f ∷ table) (suc k) e all at = beside_at x table k e ((and_parts (is_beside x f) (list_all (is_beside x) table) all).1) at

-- the first entry of a group comes as each of it, and is as long
record First (table : List Entry) (e : Entry) : Type 0 where
  first : Entry
  is : first_of (entries_of table e.pgn) ≡ Some first
  kind : first.kind ≡ e.kind
  least : first.least ≡ e.least

first_of_group : (table : List Entry) (k : ℕ) (e : Entry) → are_apart table ≡ true → slice_get table k ≡ Some e → First table e
first_of_group [] k e apart at = cc
first_of_group (x ∷ table) zero e apart at =
    let same : x ≡ e = cc in
    let mine : (x.pgn == e.pgn) ≡ true = eq-eqb x.pgn e.pgn (ap (λ (f : Entry). f.pgn) same) in
    record { first = x; is = rw mine refl; kind = ap (λ (f : Entry). f.kind) same; least = ap (λ (f : Entry). f.least) same }
first_of_group (x ∷ table) (suc k) e apart at =
    let both = and_parts (list_all (is_beside x) table) (are_apart table) apart in
    by (x.pgn == e.pgn) refl (first_of_group table k e both.1 at) (beside_at x table k e both.0 at)
  where
    by : (b : Bool) → (x.pgn == e.pgn) ≡ b → First table e → is_beside x e ≡ true → First (x ∷ table) e
    by true mine rest beside =
        let a = agree x e beside mine in
        record { first = x; is = rw mine refl; kind = a.kind; least = a.least }
    by false mine rest beside = record { first = rest.first; is = (rw mine refl) ∙ rest.is; kind = rest.kind; least = rest.least }

-- at its place, the entry whose payload it is is found
found : (table : List Entry) (k : ℕ) (e : Entry) (payload : List ℕ) → are_apart table ≡ true → slice_get table k ≡ Some e → selects e.selector payload ≡ true
    → entry_at (entries_of table e.pgn) payload e.place ≡ Some e
found [] k e payload apart at selected = cc
found (x ∷ table) zero e payload apart at selected =
    let same : x ≡ e = cc in
    let mine : (x.pgn == e.pgn) ≡ true = eq-eqb x.pgn e.pgn (ap (λ (f : Entry). f.pgn) same) in
    let here : (x.place == e.place) ≡ true = eq-eqb x.place e.place (ap (λ (f : Entry). f.place) same) in
    let taken : selects x.selector payload ≡ true = ap (λ (f : Entry). selects f.selector payload) same ∙ selected in
    let test : is_of e.pgn payload e.place x ≡ true =
    and_from (x.pgn == e.pgn) ((x.place == e.place) && selects x.selector payload) mine (and_from (x.place == e.place) (selects x.selector payload) here taken) in
    first_found e.pgn payload e.place x table ∙ (rw test refl) ∙ ap (λ (f : Entry). Some f) same
found (x ∷ table) (suc k) e payload apart at selected =
    let both = and_parts (list_all (is_beside x) table) (are_apart table) apart in
    first_found e.pgn payload e.place x table
    ∙ (rw (passed (x.pgn == e.pgn) refl (x.place == e.place) refl (beside_at x table k e both.0 at)) refl) ∙ found table k e payload both.1 at selected
  where
    passed : (b : Bool) → (x.pgn == e.pgn) ≡ b → (p : Bool) → (x.place == e.place) ≡ p → is_beside x e ≡ true → is_of e.pgn payload e.place x ≡ false
    passed true mine true here beside =
        let apart : excludes x.selector e.selector ≡ true =
        subst (λ (b : Bool). (if b then excludes x.selector e.selector else (nat_lt x.place e.place && nat_lt (number_of x.quantity) (number_of e.quantity))) ≡ true) here
        ((agree x e beside mine).placed) in
        let other : selects x.selector payload ≡ false = excluded x.selector e.selector payload apart selected in
        rw (mine, here) other
    passed true mine false here beside = rw (mine, here) refl
    passed false mine p here beside = rw mine refl

-- the values of a message are those at its places
at_its_place : (group : List Entry) (payload : List ℕ) (place : ℕ) → nat_lt place most_told ≡ true
    → value_told place (says.Values (values_in group payload)) ≡ value_at group payload place
at_its_place group payload zero within = refl
at_its_place group payload (suc zero) within = refl
at_its_place group payload (suc (suc zero)) within = refl
at_its_place group payload (suc (suc (suc n))) within = absurd (grind (arith, nat_tests))

read_by : (table : List Entry) (k : ℕ) (e : Entry) → are_apart table ≡ true → slice_get table k ≡ Some e → nat_lt e.place most_told ≡ true → IsReadBy table e
read_by table k e apart at within =
    let f = first_of_group table k e apart at in
    record {
      kind = ap kind_by f.is ∙ f.kind;
      value = λ payload long selected.
          let enough : nat_lt (length payload) f.first.least ≡ false = le-ltb (length payload) f.first.least (omega (arith, long, f.least)) in
          ap (λ (o : Option Entry). value_told e.place (told_by o (entries_of table e.pgn) payload)) f.is
          ∙ (rw enough refl)
          ∙ at_its_place (entries_of table e.pgn) payload e.place within
          ∙ ap (λ (o : Option Entry). given_by o payload) (found table k e payload apart at selected);
    }

placed_within : (layouts : Quantity → Layout) (table : List Entry) (k : ℕ) (e : Entry) → list_all (is_entry_sound layouts) table ≡ true → slice_get table k ≡ Some e
    → nat_lt e.place most_told ≡ true
placed_within layouts [] k e all at = cc
placed_within layouts (f ∷ table) zero e all at =
    let same : f ≡ e = cc in
    let sound = (and_parts (is_entry_sound layouts f) (list_all (is_entry_sound layouts) table) all).0 in
    let readable = (and_parts (is_entry_readable f && nat_lt f.place most_told) (is_sayable (layouts f.quantity) f) sound).0 in
    subst (λ (g : Entry). nat_lt g.place most_told ≡ true) same ((and_parts (is_entry_readable f) (nat_lt f.place most_told) readable).1)
placed_within layouts (f ∷ table) (suc k) e all at =
    placed_within layouts table k e ((and_parts (is_entry_sound layouts f) (list_all (is_entry_sound layouts) table) all).1) at

pub each_is_read : EachIsRead
each_is_read layouts table sound k e at =
    let both = and_parts (list_all (is_entry_sound layouts) table) (are_apart table) sound in
    read_by table k e both.1 at (placed_within layouts table k e both.0 at)
