-- Keys that aren't known, in every table: of all of them the one is told whose path comes first in the order of bytes.
use Rattle.std.specs.Prelude.{ℕ, ◌+◌, List, [], ◌∷◌, ◌++◌, codes, map, Option, Some, None}
use Rattle.toml.specs.Data.{Data, Items, no_items, item, Members, no_members, array, get_member}
use Rattle.readings.specs.declared.rows.Row.{Row}
use Rattle.readings.specs.Rows.{about_of, rows as all_rows}
use Rattle.quantities.specs.About.{about_of as about_quantity, quantities as all_quantities}
use Rattle.quantities.specs.declared.about.Quantity.{Quantity}
use Rattle.config_document.specs.Kinds.{members_in}
use Rattle.config_document.specs.Places.{Place}
use Rattle.config_document.specs.Unknown.{least_of, unknown_in}
use Rattle.gate_config.specs.Keys
use Rattle.gate_config.specs.Reading.{Table, item_prefix, key_prefix, prefix_of}

abbrev pub table_of : Option Data → Members
table_of None = no_members
table_of (Some value) = members_in value

-- the table at a key
abbrev pub place_under : Place → List ℕ → List ℕ → Place
place_under place name prefix = record { prefix = prefix; members = table_of (get_member name place.members) }

abbrev pub items_of : Option Data → Items
items_of (Some (array items)) = items
items_of value = no_items

-- the least path among this one, where there is one, and those of keys that the table doesn't have
abbrev pub noted : List (List ℕ) → Place → Option (List ℕ) → Option (List ℕ)
noted known place best = least_of best (unknown_in known place)

abbrev pub noted_items : List (List ℕ) → List ℕ → ℕ → Items → Option (List ℕ) → Option (List ℕ)
noted_items known word number no_items best = best
noted_items known word number (item value more) best =
    noted_items known word (number + 1) more (noted known (record { prefix = item_prefix word number; members = members_in value }) best)

-- the names of these rows, and of these further quantities
abbrev pub row_names : List Row → List (List ℕ)
row_names all = map (λ r. (about_of r).name) all

abbrev pub quantity_names : List Quantity → List (List ℕ)
quantity_names all = map (λ q. (about_quantity q).name) all

-- the tables at these keys
abbrev pub each_noted : List (List ℕ) → List ℕ → Place → List (List ℕ) → Option (List ℕ) → Option (List ℕ)
each_noted known word place [] best = best
each_noted known word place (name ∷ more) best = each_noted known word place more (noted known (place_under place name (key_prefix word name)) best)

-- the table of rows, and each row's table, some of whose keys are read behind those of other tables
unfoldable pub rows_noted : Place → Option (List ℕ) → Option (List ℕ)
rows_noted place best = each_noted (Keys.row.known ++ Keys.watched.known) (codes "row.") place (row_names all_rows) (noted (row_names all_rows) place best)

-- the table of further quantities, and each quantity's table
unfoldable pub quantities_noted : Place → Option (List ℕ) → Option (List ℕ)
quantities_noted place best =
    each_noted Keys.quantity.known (codes "further.") place (quantity_names all_quantities) (noted (Keys.further.known ++ quantity_names all_quantities) place best)

-- a table that stands once in the document, and one that stands as each item of a list
abbrev once : {E A : Type 0} → Table E A → Place → Option (List ℕ) → Option (List ℕ)
once t document best = noted t.known (place_under document t.name (prefix_of t.name)) best

abbrev items : {E A : Type 0} → Table E A → Place → Option (List ℕ) → Option (List ℕ)
items t document best = noted_items t.known (prefix_of t.name) 1 (items_of (get_member t.name document.members)) best

-- the document's own keys are the names of the tables
unfoldable pub tables : List (List ℕ)
tables =
    Keys.gateway.name ∷ Keys.preset.name ∷ Keys.row.name ∷ Keys.net.name ∷ Keys.bus.name ∷ Keys.route.name ∷ Keys.identity.name ∷ Keys.rmc.name ∷ Keys.ais.name
    ∷ Keys.further.name ∷ Keys.report.name ∷ Keys.plain.name ∷ Keys.serve.name ∷ Keys.heading.name ∷ Keys.nav.name ∷ Keys.alerts.name ∷ Keys.heartbeat.name ∷ []

-- the gateway itself, the devices that it knows, and its rows
unfoldable pub gateway_noted : Place → Option (List ℕ) → Option (List ℕ)
gateway_noted document best =
    rows_noted (place_under document Keys.row.name (prefix_of Keys.row.name)) (items Keys.preset document (once Keys.gateway document best))

-- the table bus, some of whose keys are read behind those of other tables
unfoldable pub bus_noted : Place → Option (List ℕ) → Option (List ℕ)
bus_noted document best = noted (Keys.bus.known ++ Keys.ignored.known) (place_under document Keys.bus.name (prefix_of Keys.bus.name)) best

-- the table net, some of whose keys are read behind those of other tables
unfoldable pub net_noted : Place → Option (List ℕ) → Option (List ℕ)
net_noted document best = noted (Keys.net.known ++ Keys.optional.known) (place_under document Keys.net.name (prefix_of Keys.net.name)) best

-- the links, and the routes between them
unfoldable pub links_noted : Place → Option (List ℕ) → Option (List ℕ)
links_noted document best = items Keys.route document (bus_noted document (net_noted document best))

-- what the gateway says of itself, and the parts beside it
unfoldable pub parts_noted : Place → Option (List ℕ) → Option (List ℕ)
parts_noted document best = once Keys.ais document (once Keys.rmc document (once Keys.identity document best))

-- the table plain, one of whose keys is read behind that of another table
unfoldable pub plain_noted : Place → Option (List ℕ) → Option (List ℕ)
plain_noted document best = noted (Keys.plain.known ++ Keys.pace.known) (place_under document Keys.plain.name (prefix_of Keys.plain.name)) best

-- further keys
unfoldable pub further_noted : Place → Option (List ℕ) → Option (List ℕ)
further_noted document best =
    once Keys.heartbeat document (once Keys.serve document (plain_noted document (once Keys.report document
    (quantities_noted (place_under document Keys.further.name (prefix_of Keys.further.name)) best))))

-- what is said to autopilots: joined headings, and the legs of plotters
unfoldable pub pilot_noted : Place → Option (List ℕ) → Option (List ℕ)
pilot_noted document best = once Keys.nav document (once Keys.heading document best)

-- every table
unfoldable pub first_unknown : Place → Option (List ℕ)
first_unknown document =
    once Keys.alerts document (pilot_noted document
    (further_noted document (parts_noted document (links_noted document (gateway_noted document (noted tables document None))))))
