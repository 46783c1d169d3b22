-- The names of tables, and one more item of a list.
use Rattle.std.proofs.Common.{◌≡◌, ℕ, ◌+◌, ◌<◌, List, [], ◌∷◌, ◌++◌, length, length-append, get_or, drop, map, Ok, Err, refl, sym, ap, ◌∙◌, arith}
use Rattle.std.specs.Borrow.{Bor}
use Rattle.std.specs.BTreeMap.{BTreeMap}
use Rattle.std.specs.Prelude.{Option, Result, String, codes, option_map}
use Rattle.std.specs.declared.alloc.Global.{Global}
use Rattle.std.proofs.lemmas.Grind.{common_steps}
use Rattle.std.proofs.lemmas.List.{at_drop_more}
use Rattle.toml.specs.Data.{Data, Members, as_table}
use Rattle.toml.specs.View.{table_view}
use Rattle.toml.specs.declared.value.Value.{Value}
use Rattle.config_document.specs.Kinds.{members_in}
use Rattle.config_document.specs.declared.fault.ConfigFault.{ConfigFault}
use Rattle.config_document.specs.Places.{members_of, members_seen}
use Rattle.gate_config.specs.Keys.{further, preset, route, row, watched}
use Rattle.gate_config.specs.Reading.{◌>>=◌, Table, item_prefix, items_from, prefix_of}

-- the keys of a value that is seen as a table
pub table_seen : (value : Data) (table : Option (Bor (BTreeMap (String Global) Value))) → option_map (λ t. table_view t.now) table ≡ as_table value → members_of table ≡ members_in value
table_seen value table same = grind (arith, common_steps)

pub preset_name : prefix_of preset.name ≡ codes "preset."
unfolding preset
preset_name = refl

pub route_name : prefix_of route.name ≡ codes "route."
unfolding route
route_name = refl

pub row_name : row.name ≡ codes "row"
unfolding row
row_name = refl

pub watched_name : watched.name ≡ codes "row"
unfolding watched
watched_name = refl

pub further_name : further.name ≡ codes "further"
unfolding further
further_name = refl

pub one_more_item :
    {E A : Type 0} (t : Table (E × List A) A) (own : E) (earlier : List A) (values : List Value) (i : ℕ) (d : Value) (prefix : List ℕ) (members : Members) (x : A) → i < length values
    → prefix ≡ item_prefix (prefix_of t.name) (length earlier + 1) → members ≡ members_seen (get_or values i d) → Ok x ≡ t.read (own, earlier) (record { prefix = prefix; members = members })
    → items_from t own (length earlier + 1) earlier (map members_seen (drop i values))
    ≡ items_from t own (length (earlier ++ x ∷ []) + 1) (earlier ++ x ∷ []) (map members_seen (drop (i + 1) values))
one_more_item t own earlier values i d prefix keys x within word seen is =
    let longer : length earlier + 1 ≡ length (earlier ++ x ∷ []) = sym (length-append earlier (x ∷ [])) in
    let read : t.read (own, earlier) (record { prefix = item_prefix (prefix_of t.name) (length earlier + 1); members = members_seen (get_or values i d) }) ≡ Ok x =
    rw (sym word, sym seen) (sym is) in
    at_drop_more (λ rest. items_from t own (length earlier + 1) earlier (map members_seen rest)) values i d within
    ∙ ap (λ read. read >>= λ item. items_from t own (length earlier + 1 + 1) (earlier ++ item ∷ []) (map members_seen (drop (i + 1) values))) read
    ∙ ap (λ (n : ℕ). items_from t own (n + 1) (earlier ++ x ∷ []) (map members_seen (drop (i + 1) values))) longer

-- a table of one key says what its key says
pub alone : {A : Type 0} (read : Result A ConfigFault) → (read >>= λ x. Ok x) ≡ read
alone (Ok x) = refl
alone (Err fault) = refl
