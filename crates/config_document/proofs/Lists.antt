-- The values of a list, one after another.
use Rattle.std.proofs.Common.{◌≡◌, ℕ, suc, ◌<◌, ◌≤◌, List, [], ◌∷◌, length, Option, Some, None, Ok, Err, true, false, map, refl, ap, le-leb}
use Rattle.std.specs.Prelude.{◌&&◌, is_some}
use Rattle.std.specs.List.{list_all}
use Rattle.std.proofs.lemmas.Bool.{lt-leb}
use Rattle.toml.specs.View.{items_view, view}
use Rattle.toml.specs.declared.value.Value.{Value}
use Rattle.config_document.specs.Kinds.{are_tables, are_texts, count, each_members, each_said, said_in, tables_in}
use Rattle.config_document.specs.Places.{members_seen}
use Rattle.config_document.specs.declared.fault.Flaw.TheVariants as flaw
use Rattle.toml.specs.Data.{Members, array, as_str, as_table}

pub count-view : (values : List Value) → count (items_view values) ≡ length values
count-view [] = refl
count-view (value ∷ values) = ap suc (count-view values)

pub are_texts-view : (values : List Value) → list_all (λ value. is_some (as_str (view value))) values ≡ are_texts (items_view values)
are_texts-view [] = refl
are_texts-view (value ∷ values) = ap (λ rest. is_some (as_str (view value)) && rest) (are_texts-view values)

pub are_tables-view : (values : List Value) → list_all (λ value. is_some (as_table (view value))) values ≡ are_tables (items_view values)
are_tables-view [] = refl
are_tables-view (value ∷ values) = ap (λ rest. is_some (as_table (view value)) && rest) (are_tables-view values)

-- more values than there is room for
pub said_many : {A : Type 0} (f : List ℕ → Option A) (most : ℕ) (values : List Value) → most < length values → None ≡ said_in f most (items_view values)
said_many f most values many = rw (count-view values, lt-leb (length values) most many) refl

pub said_few :
    {A : Type 0} (f : List ℕ → Option A) (most : ℕ) (values : List Value) (xs : List A) → length values ≤ most → each_said f (items_view values) ≡ Some xs
    → Some (record { items = xs }) ≡ said_in f most (items_view values)
said_few f most values xs few each = rw (count-view values, le-leb (length values) most few, each) refl

-- one that says nothing
pub said_none : {A : Type 0} (f : List ℕ → Option A) (most : ℕ) (values : List Value) → length values ≤ most → each_said f (items_view values) ≡ None
    → None ≡ said_in f most (items_view values)
said_none f most values few none = rw (count-view values, le-leb (length values) most few, none) refl

pub each_members-view : (values : List Value) → each_members (items_view values) ≡ map members_seen values
each_members-view [] = refl
each_members-view (value ∷ values) = ap (λ (t : List Members). members_seen value ∷ t) (each_members-view values)

-- lists of tables, by how many there are
pub tables_few : (most : ℕ) (values : List Value) → length values ≤ most → are_tables (items_view values) ≡ true
    → tables_in most (array (items_view values)) ≡ Ok (map members_seen values)
tables_few most values few all = rw (all, count-view values, le-leb (length values) most few, each_members-view values) refl

pub tables_many : (most : ℕ) (values : List Value) → most < length values → are_tables (items_view values) ≡ true
    → tables_in most (array (items_view values)) ≡ Err flaw.Range
tables_many most values many all = rw (all, count-view values, lt-leb (length values) most many) refl

pub tables_other : (most : ℕ) (values : List Value) → are_tables (items_view values) ≡ false → tables_in most (array (items_view values)) ≡ Err flaw.Kind
tables_other most values other = rw other refl
