-- What is promised of each table that passes the test, and of the tables as they are.
use Rattle.std.specs.Prelude.{◌≡◌, ℕ, ◌≤◌, Bool, IsTrue, List, length, Option, Some, None, slice_get, unwrap_or}
use Rattle.std.specs.List.{list_all}
use Rattle.sentence_text.specs.Byte.{is_capital}
use Rattle.quantities.specs.declared.about.Quantity.{Quantity}
use Rattle.quantities.specs.declared.payloads.Entry.{Entry}
use Rattle.quantities.specs.declared.value.Told.{Told}
use Rattle.quantities.specs.declared.value.Told.TheVariants as says
use Rattle.quantities.specs.declared.value.Value.{Value}
use Rattle.quantities.specs.Layout.{Layout, layout_of}
use Rattle.quantities.specs.Part.{selects}
use Rattle.quantities.specs.Saying.{AreSaid}
use Rattle.quantities.specs.Sound.{is_table_sound}
use Rattle.quantities.specs.Told.{GivesFrom, IsFrom, IsInOrder, entries, entries_of, first_of, given, kind_by, told_in}

-- the table of payloads and that of sentences pass the test, on a boat with two engines or not
abbrev pub TheTablesAreSound : Type 0
TheTablesAreSound = (twin : Bool) → IsTrue (is_table_sound (layout_of twin) entries)

-- each value that is read is in its range
abbrev pub EachIsInRange : Type 0
EachIsInRange = (table : List Entry) (pgn : ℕ) (payload : List ℕ) → GivesFrom table (told_in table pgn payload)

-- each value in its range is said in one sentence
abbrev pub EachIsSaid : Type 0
EachIsSaid = (layouts : Quantity → Layout) (table : List Entry) → IsTrue (is_table_sound layouts table) → (v : Value) → IsFrom table v
    → (talker : List ℕ) → length talker ≡ 2 → IsTrue (list_all is_capital talker) → AreSaid (layouts v.quantity) talker v.values

-- the value at a place of a message
abbrev pub value_told : ℕ → Told → Option Value
value_told place (says.Values values) = unwrap_or (slice_get values place) None
value_told place says.Outside = None
value_told place says.Short = None

-- an entry's payloads come as it says, and at its place they are read by it and by no other
pub record IsReadBy (table : List Entry) (e : Entry) : Type 0 where
  pub kind : kind_by (first_of (entries_of table e.pgn)) ≡ e.kind
  pub value : (payload : List ℕ) → e.least ≤ length payload → IsTrue (selects e.selector payload) → value_told e.place (told_in table e.pgn payload) ≡ given e payload

abbrev pub EachIsRead : Type 0
EachIsRead = (layouts : Quantity → Layout) (table : List Entry) → IsTrue (is_table_sound layouts table) → (k : ℕ) (e : Entry) → slice_get table k ≡ Some e → IsReadBy table e

-- the values of a message are of different quantities, in the order of the quantities
abbrev pub EachIsInOrder : Type 0
EachIsInOrder = (layouts : Quantity → Layout) (table : List Entry) → IsTrue (is_table_sound layouts table) → (pgn : ℕ) (payload : List ℕ) → IsInOrder (told_in table pgn payload)
