-- What is read of tables of which no key stands, and what stands for a document without such keys.
use Rattle.std.proofs.Common.{◌≡◌, ℕ, Bool, true, false, List, [], ◌∷◌, ◌++◌, append_assoc, map, Option, Some, None, Ok, Err, inl, inr, refl, sym, ap, subst, ◌∙◌}
use Rattle.std.specs.Prelude.{Result, ◌||◌, codes, is_some, option_map, unwrap_or}
use Rattle.std.specs.List.{AllByRecursion}
use Rattle.std.proofs.lemmas.List.{append-nil}
use Rattle.claim_table.specs.declared.preset.Preset.{Preset}
use Rattle.toml.specs.Data as toml
use Rattle.toml.specs.Data.{Data, Members, as_table, get_member, no_members}
use Rattle.readings.specs.declared.rows.Row.{Row}
use Rattle.readings.specs.Rows.{about_of, rows as all_rows}
use Rattle.quantities.specs.About.{about_of as about_quantity, quantities as all_quantities}
use Rattle.quantities.specs.declared.about.Quantity.{Quantity}
use Rattle.arrayvec.specs.ArrayVec.{ArrayVec}
use Rattle.config_document.specs.Keys.{held, key_at, number_at, text_at, truth_at}
use Rattle.config_document.specs.Kinds.{kind, number_in, text_in, truth_in}
use Rattle.config_document.specs.Places.{Place, path_of}
use Rattle.config_document.specs.Texts.{group_in, talker_in}
use Rattle.config_document.specs.declared.texts.Talker.{Talker}
use Rattle.config_document.specs.declared.fault.ConfigFault.{ConfigFault}
use Rattle.config_document.specs.declared.fault.Flaw.{Flaw}
use Rattle.config_values.specs.declared.config.Ends.{Ends}
use Rattle.config_values.specs.Rows.{usual_timeout}
use Rattle.config_values.specs.declared.row_config.RowConfig.{RowConfig}
use Rattle.n2k_id.specs.declared.pattern.Pattern.{Pattern}
use Rattle.sentence_profile.specs.declared.optional.OptionalSentences.{OptionalSentences}
use Rattle.sentence_profile.specs.Reading.{usual as usual_sentences}
use Rattle.gate_config.specs.Alone.{FileAsksNothingFurther, AsksNothingFurther, FilesSaySettings, HasNone, IsTable, KeysSaySettings, Lacks, NoneHas, alone_of}
use Rattle.gate_config.specs.ConfigOf.{IsWholeConfigOf, config_in, document_place, known, settings_alone}
use Rattle.gate_config.specs.Keys.{alerts, any_asks, asks as asked_for, asks_as_quantity, asks_hbt, bus, devices, further, gateway, hbt, heading, heartbeat, ignored, is_asked, limit_at, limit_of, limits_in, links_in, nav, net, optional, own_group, own_group_at, pace, part_groups, plain, preset, quantities_in, quantity, quantity_at, quantity_of, report, row, row_at, row_of, rows_in, serve, settings_in, setup_in, stands_at, watch_in, watched}
use Rattle.gate_config.specs.Reading.{◌>>=◌, Table, default, each_from, items_in, key_prefix, prefix_of, section_at, table_in, unless}
use Rattle.gate_config.specs.Unknown.{first_unknown, place_under, quantity_names, row_names, table_of}
use Rattle.settings.specs.Heartbeat.{no_heartbeat}
use Rattle.settings.specs.Setup.{alone, heading_group, nav_group}
use Rattle.settings.specs.declared.heading.HeadingConfig.{HeadingConfig}
use Rattle.settings.specs.declared.heartbeat.HeartbeatConfig.{HeartbeatConfig}
use Rattle.settings.specs.declared.heartbeat.NetHeartbeat.{NetHeartbeat}
use Rattle.settings.specs.declared.nav.NavConfig.{NavConfig}
use Rattle.settings.specs.declared.quantity_config.Quantities.{Quantities}
use Rattle.settings.specs.declared.quantity_config.QuantityConfig.{QuantityConfig}
use Rattle.settings.specs.declared.settings.Settings.{Settings}
use Rattle.settings.specs.declared.setup.Setup.{Setup}
use Rattle.settings.specs.declared.watch.WatchConfig.{WatchConfig}
use Rattle.settings.specs.Watch.{alert_group, no_limits, no_watch}

-- ---- a key that doesn't stand

default_at : {A : Type 0} (other : A) (read : Data → Result A Flaw) (place : Place) (name : List ℕ) → get_member name place.members ≡ None
    → default other (key_at read) place name ≡ Ok other
unfolding default
default_at other read place name none = ap (λ found. held read (path_of place name) found >>= λ x. Ok (unwrap_or x other)) none

-- a group that nothing asks for
group_at : (rows : List RowConfig) (parts : List (Option (List ℕ))) (asks : Place → Bool) (place : Place) (name : List ℕ) → get_member name place.members ≡ None
    → asks place ≡ false → own_group_at rows parts asks place name ≡ Ok None
group_at rows parts asks place name none unasked =
    ap (λ found. own_group rows parts (asks place) place name (held (text_in group_in) (path_of place name) found)) none
    ∙ ap (λ asked. own_group rows parts asked place name (Ok None)) unasked

-- ---- tables

abbrev placed : List ℕ → Members → Place
placed prefix members = record { prefix = prefix; members = members }

section_of : (path prefix : List ℕ) (found : Option Data) → IsTable found
    → (held (λ value. kind (as_table value)) path found >>= λ x. Ok (placed prefix (unwrap_or x no_members))) ≡ Ok (placed prefix (table_of found))
section_of path prefix None is = refl
section_of path prefix (Some (toml.table keys)) is = refl
section_of path prefix (Some (toml.string text)) is = absurd is
section_of path prefix (Some (toml.integer n)) is = absurd is
section_of path prefix (Some (toml.float x)) is = absurd is
section_of path prefix (Some (toml.boolean b)) is = absurd is
section_of path prefix (Some (toml.datetime d)) is = absurd is
section_of path prefix (Some (toml.array items)) is = absurd is

section_there : (document : Place) (name prefix : List ℕ) → IsTable (get_member name document.members) → section_at document name prefix ≡ Ok (place_under document name prefix)
section_there document name prefix is = section_of (path_of document name) prefix (get_member name document.members) is

table_found : (path prefix : List ℕ) (found : Option Data) (place : Place) → (held (λ value. kind (as_table value)) path found >>= λ x. Ok (placed prefix (unwrap_or x no_members))) ≡ Ok place
    → IsTable found
table_found path prefix None place is = tt
table_found path prefix (Some (toml.table keys)) place is = tt
table_found path prefix (Some (toml.string text)) place is = absurd cc
table_found path prefix (Some (toml.integer n)) place is = absurd cc
table_found path prefix (Some (toml.float x)) place is = absurd cc
table_found path prefix (Some (toml.boolean b)) place is = absurd cc
table_found path prefix (Some (toml.datetime d)) place is = absurd cc
table_found path prefix (Some (toml.array items)) place is = absurd cc

-- a step that says something, and then the next one
then_says : {A B : Type 0} (read : Result A ConfigFault) (next : A → Result B ConfigFault) (x : A) (given : Result B ConfigFault) → read ≡ Ok x → next x ≡ given
    → (read >>= next) ≡ given
then_says read next x given is more = ap (λ r. r >>= next) is ∙ more

-- what a table says, where its keys say it
said_there : {E A : Type 0} (t : Table E A) (beside : E) (document : Place) (x : A) → IsTable (get_member t.name document.members)
    → t.read beside (place_under document t.name (prefix_of t.name)) ≡ Ok x → table_in t beside document ≡ Ok x
said_there t beside document x there said =
    then_says (section_at document t.name (prefix_of t.name)) (t.read beside) (place_under document t.name (prefix_of t.name)) (Ok x)
    (section_there document t.name (prefix_of t.name) there) said

one_key : {A B : Type 0} (make : A → B) (read : Result A ConfigFault) (x : A) → read ≡ Ok x → (read >>= λ y. Ok (make y)) ≡ Ok (make x)
one_key make read x is = ap (λ r. r >>= λ y. Ok (make y)) is

two_keys :
    {A B C : Type 0} (make : A → B → C) (first : Result A ConfigFault) (second : Result B ConfigFault) (x : A) (y : B) → first ≡ Ok x → second ≡ Ok y
    → ((first >>= λ a. Ok (make a)) >>= λ made. second >>= λ b. Ok (made b)) ≡ Ok (make x y)
two_keys make first second x y is_x is_y = ap (λ r. (r >>= λ a. Ok (make a)) >>= λ made. second >>= λ b. Ok (made b)) is_x ∙ one_key (make x) second y is_y

three_keys :
    {A B C D : Type 0} (make : A → B → C → D) (first : Result A ConfigFault) (second : Result B ConfigFault) (third : Result C ConfigFault) (x : A) (y : B) (z : C)
    → first ≡ Ok x → second ≡ Ok y → third ≡ Ok z
    → (((first >>= λ a. Ok (make a)) >>= λ made. second >>= λ b. Ok (made b)) >>= λ made. third >>= λ c. Ok (made c)) ≡ Ok (make x y z)
three_keys make first second third x y z is_x is_y is_z =
    ap (λ r. r >>= λ made. third >>= λ c. Ok (made c)) (two_keys make first second x y is_x is_y) ∙ one_key (make x y) third z is_z

-- ---- each part

abbrev NoneIn : Place → List (List ℕ) → Type 0
NoneIn place names = AllByRecursion (λ name. get_member name place.members ≡ None) names

ignored_read : (place : Place) → NoneIn place ignored.known → ignored.read tt place ≡ Ok (record { items = [] })
unfolding ignored unless
ignored_read place none = rw none.0 refl

reports_read : (place : Place) → NoneIn place report.known → report.read tt place ≡ Ok (false, false)
unfolding report
reports_read place none =
    two_keys (λ sources address. (sources, address)) (default false truth_at place (codes "sources")) (default false truth_at place (codes "address")) false false
    (default_at false truth_in place (codes "sources") none.0) (default_at false truth_in place (codes "address") none.1.0)

optional_read : (place : Place) → NoneIn place optional.known → optional.read tt place ≡ Ok usual_sentences
unfolding optional
optional_read place none =
    two_keys (λ rmc dbt. let x : OptionalSentences = record { rmc = rmc; dbt = dbt } in x) (default false truth_at place (codes "rmc"))
    (default true truth_at place (codes "dbt")) false true
    (default_at false truth_in place (codes "rmc") none.0) (default_at true truth_in place (codes "dbt") none.1.0)

recording_read : (place : Place) → NoneIn place serve.known → serve.read tt place ≡ Ok false
unfolding serve
recording_read place none =
    one_key (λ recording. recording) (default false truth_at place (codes "record")) false (default_at false truth_in place (codes "record") none.0)

plain_read : (rows : List RowConfig) (parts : List (Option (List ℕ))) (place : Place) → NoneIn place (plain.known ++ pace.known) → plain.read (rows, parts) place ≡ Ok None
unfolding plain pace
plain_read rows parts place none =
    let asks = stands_at (codes "every_ms") in
    one_key (λ group. group) (own_group_at rows parts asks place (codes "group")) None (group_at rows parts asks place (codes "group") none.0 (ap is_some none.1.0))

pace_read : (place : Place) → NoneIn place (plain.known ++ pace.known) → pace.read tt place ≡ Ok 0
unfolding plain pace
pace_read place none =
    one_key (λ every. every) (default 0 (number_at 0 60000) place (codes "every_ms")) 0 (default_at 0 (number_in 0 60000) place (codes "every_ms") none.1.0)

-- the table of both is one
plain_among : (document : Place) → Lacks plain.name (plain.known ++ pace.known) document → IsTable (get_member pace.name document.members)
unfolding plain pace
plain_among document lacks = lacks.is_table

plain_lacks : (document : Place) → Lacks plain.name (plain.known ++ pace.known) document
    → NoneIn (place_under document pace.name (prefix_of pace.name)) (plain.known ++ pace.known)
unfolding plain pace
plain_lacks document lacks = lacks.none

-- a key without a default that doesn't stand
nothing_at : {A : Type 0} (read : Data → Result A Flaw) (place : Place) (name : List ℕ) → get_member name place.members ≡ None → key_at read place name ≡ Ok None
nothing_at read place name none = ap (λ found. held read (path_of place name) found) none

hbt_unasked : (place : Place) → get_member (codes "every_s") place.members ≡ None → get_member (codes "talker") place.members ≡ None → asks_hbt place ≡ false
hbt_unasked place every talker = ap (λ found. is_some found || is_some (get_member (codes "talker") place.members)) every ∙ ap is_some talker

abbrev usual_talker : Talker
usual_talker = record { 0 = codes "II" }

abbrev hbt_by : Option (List ℕ) → ℕ → Talker → Option NetHeartbeat
hbt_by group every talker = option_map (λ g. record { group = g; every_s = every; talker = talker.0 }) group

hbt_read : (rows : List RowConfig) (parts : List (Option (List ℕ))) (place : Place) → NoneIn place hbt.known → hbt.read (rows, parts) place ≡ Ok None
unfolding hbt
hbt_read rows parts place none =
    three_keys hbt_by (own_group_at rows parts asks_hbt place (codes "group")) (default 60 (number_at 1 999) place (codes "every_s"))
    (default usual_talker (text_at talker_in) place (codes "talker")) None 60 usual_talker
    (group_at rows parts asks_hbt place (codes "group") none.0 (hbt_unasked place none.1.0 none.1.1.0))
    (default_at 60 (number_in 1 999) place (codes "every_s") none.1.0)
    (default_at usual_talker (text_in talker_in) place (codes "talker") none.1.1.0)

heartbeat_read : (rows : List RowConfig) (parts : List (Option (List ℕ))) (place : Place) → NoneIn place heartbeat.known
    → heartbeat.read (rows, parts) place ≡ Ok no_heartbeat
unfolding heartbeat hbt
heartbeat_read rows parts place none =
    two_keys (λ net bus_every. record { net = net; bus_every_s = bus_every }) (hbt.read (rows, parts) place) (number_at 1 60 place (codes "bus_every_s")) None None
    (hbt_read rows parts place (none.0, (none.1.0, (none.1.1.0, tt)))) (nothing_at (number_in 1 60) place (codes "bus_every_s") none.1.1.1.0)

-- ---- joined headings, and the legs of plotters

four_keys :
    {A B C D E : Type 0} (make : A → B → C → D → E) (first : Result A ConfigFault) (second : Result B ConfigFault) (third : Result C ConfigFault)
    (fourth : Result D ConfigFault) (x : A) (y : B) (z : C) (w : D) → first ≡ Ok x → second ≡ Ok y → third ≡ Ok z → fourth ≡ Ok w
    → ((((first >>= λ a. Ok (make a)) >>= λ made. second >>= λ b. Ok (made b)) >>= λ made. third >>= λ c. Ok (made c)) >>= λ made. fourth >>= λ d. Ok (made d))
    ≡ Ok (make x y z w)
four_keys make first second third fourth x y z w is_x is_y is_z is_w =
    ap (λ r. r >>= λ made. fourth >>= λ d. Ok (made d)) (three_keys make first second third x y z is_x is_y is_z) ∙ one_key (make x y z) fourth w is_w

devices_at : (place : Place) (name : List ℕ) → get_member name place.members ≡ None → devices place name ≡ Ok (record { items = [] })
unfolding unless
devices_at place name none = rw none refl

-- a quantity of which no key stands is configured as ever
abbrev usual : List ℕ → ℕ → QuantityConfig
usual talker timeout = record { sources = record { items = [] }; others = true; timeout_ms = timeout; talker = talker }

taken_read : (talker : List ℕ) (timeout : ℕ) (place : Place) → NoneIn place quantity.known → quantity.read (talker, timeout) place ≡ Ok (usual talker timeout)
unfolding quantity
taken_read talker timeout place none =
    let other : Talker = record { 0 = talker } in
    four_keys (λ sources others timeout talker. record { sources = sources; others = others; timeout_ms = timeout; talker = talker.0 })
    (devices place (codes "sources")) (default true truth_at place (codes "others")) (default timeout (number_at 100 60000) place (codes "timeout_ms"))
    (default other (text_at talker_in) place (codes "talker")) (record { items = [] }) true timeout other
    (devices_at place (codes "sources") none.0)
    (default_at true truth_in place (codes "others") none.1.0)
    (default_at timeout (number_in 100 60000) place (codes "timeout_ms") none.1.1.0)
    (default_at other (text_in talker_in) place (codes "talker") none.1.1.1.0)

unasked : (own : List ℕ) (place : Place) → get_member own place.members ≡ None → NoneIn place quantity.known → asks_as_quantity own place ≡ false
unfolding quantity
unasked own place none others = rw (none, others.0, others.1.0, others.1.1.0, others.1.1.1.0) refl

heading_read : (rows : List RowConfig) (parts : List (Option (List ℕ))) (place : Place) → NoneIn place heading.known → heading.read (rows, parts) place ≡ Ok None
unfolding heading quantity
heading_read rows parts place none =
    let taken : NoneIn place quantity.known = (none.1.0, (none.1.1.0, (none.1.1.1.0, (none.1.1.1.1.0, tt)))) in
    let asks = asks_as_quantity (codes "hdm") in
    three_keys (λ group taken hdm. option_map (λ g. record { group = g; variation = taken; hdm = hdm }) group)
    (own_group_at rows parts asks place (codes "group")) (quantity.read (codes "HC", usual_timeout) place) (default false truth_at place (codes "hdm"))
    None (usual (codes "HC") usual_timeout) false
    (group_at rows parts asks place (codes "group") none.0 (unasked (codes "hdm") place none.1.1.1.1.1.0 taken))
    (taken_read (codes "HC") usual_timeout place taken)
    (default_at false truth_in place (codes "hdm") none.1.1.1.1.1.0)

nav_read : (rows : List RowConfig) (parts : List (Option (List ℕ))) (place : Place) → NoneIn place nav.known → nav.read (rows, parts) place ≡ Ok None
unfolding nav quantity
nav_read rows parts place none =
    let asks = asks_as_quantity (codes "slots") in
    three_keys (λ group slots taken. option_map (λ g. record { group = g; slots = slots; legs = taken }) group)
    (own_group_at rows parts asks place (codes "group")) (default 16 (number_at 1 256) place (codes "slots")) (quantity.read (codes "GP", 2500) place)
    None 16 (usual (codes "GP") 2500)
    (group_at rows parts asks place (codes "group") none.0 (unasked (codes "slots") place none.1.0 none.1.1))
    (default_at 16 (number_in 1 256) place (codes "slots") none.1.0)
    (taken_read (codes "GP") 2500 place none.1.1)

-- ---- further quantities

any_unasked : (place : Place) (all : List Quantity) → NoneIn place (quantity_names all) → any_asks place all ≡ false
any_unasked place [] none = refl
any_unasked place (q ∷ all) none = ap (λ found. asked_for found || any_asks place all) none.0 ∙ any_unasked place all none.1

group_unasked : (place : Place) → get_member (codes "slots") place.members ≡ None → get_member (codes "twin_engines") place.members ≡ None
    → NoneIn place (quantity_names all_quantities) → is_asked place ≡ false
group_unasked place slots twin none =
    ap (λ found. is_some found || is_some (get_member (codes "twin_engines") place.members) || any_asks place all_quantities) slots
    ∙ ap (λ found. is_some found || any_asks place all_quantities) twin
    ∙ any_unasked place all_quantities none

further_read : (rows : List RowConfig) (parts : List (Option (List ℕ))) (place : Place) → NoneIn place (further.known ++ quantity_names all_quantities)
    → further.read (rows, parts) place ≡ Ok (None, 16, false)
unfolding further
further_read rows parts place none =
    three_keys (λ group slots twin. (group, slots, twin)) (own_group_at rows parts is_asked place (codes "group")) (default 16 (number_at 1 256) place (codes "slots"))
    (default false truth_at place (codes "twin_engines")) None 16 false
    (group_at rows parts is_asked place (codes "group") none.0 (group_unasked place none.1.0 none.1.1.0 none.1.1.1))
    (default_at 16 (number_in 1 256) place (codes "slots") none.1.0)
    (default_at false truth_in place (codes "twin_engines") none.1.1.0)

quantities_among : (document : Place) → Lacks further.name (further.known ++ quantity_names all_quantities) document
    → NoneIn (place_under document further.name (prefix_of further.name)) (quantity_names all_quantities)
unfolding further
quantities_among document lacks = lacks.none.1.1.1

quantity_read : (place : Place) (q : Quantity) → get_member (about_quantity q).name place.members ≡ None → quantity_of place q ≡ Ok (usual (about_quantity q).talker usual_timeout)
unfolding quantity_at quantity default unless
quantity_read place q none =
    let name = (about_quantity q).name in
    let prefix = key_prefix (codes "further.") name in
    ap (λ found. (held (λ value. kind (as_table value)) (path_of place name) found >>= λ x. Ok (placed prefix (unwrap_or x no_members))) >>= quantity.read ((about_quantity q).talker, usual_timeout)) none

each_read : (place : Place) (all : List Quantity) (earlier : List QuantityConfig) → NoneIn place (quantity_names all)
    → (each : List QuantityConfig) × (each_from (quantity_of place) earlier all ≡ Ok each)
each_read place [] earlier none = (earlier, refl)
each_read place (q ∷ all) earlier none =
    let x = usual (about_quantity q).talker usual_timeout in
    let more = each_read place all (earlier ++ x ∷ []) none.1 in
    (more.0, then_says (quantity_of place q) (λ x. each_from (quantity_of place) (earlier ++ x ∷ []) all) x (Ok more.0) (quantity_read place q none.0) more.1)

abbrev with_each : Option (List ℕ) × ℕ × Bool → List QuantityConfig → Result (Option Quantities) ConfigFault
with_each all each = Ok (option_map (λ group. record { group = group; slots = all.1; twin_engines = all.2; each = each }) all.0)

quantities_read : (rows : List RowConfig) (parts : List (Option (List ℕ))) (document : Place) → Lacks further.name (further.known ++ quantity_names all_quantities) document
    → quantities_in rows parts document ≡ Ok None
unfolding quantities_in
quantities_read rows parts document lacks =
    let name = further.name in
    let place = place_under document name (prefix_of name) in
    let each = each_read place all_quantities [] (quantities_among document lacks) in
    then_says (section_at document name (prefix_of name)) (λ at. further.read (rows, parts) at >>= λ all. each_from (quantity_of at) [] all_quantities >>= with_each all) place (Ok None)
    (section_there document name (prefix_of name) lacks.is_table)
    (then_says (further.read (rows, parts) place) (λ all. each_from (quantity_of place) [] all_quantities >>= with_each all) (None, 16, false) (Ok None)
    (further_read rows parts place lacks.none)
    (then_says (each_from (quantity_of place) [] all_quantities) (with_each (None, 16, false)) each.0 (Ok None) each.1 refl))

-- ---- rows under watch

-- the table of rows, and each row's
record AreRowTables (document : Place) : Type 0 where
  rows_table : IsTable (get_member watched.name document.members)
  each_table : AllByRecursion (λ name. IsTable (get_member name (table_of (get_member watched.name document.members)))) (row_names all_rows)

limit_read : (place : Place) (r : Row) → IsTable (get_member (about_of r).name place.members) → HasNone watched.known (get_member (about_of r).name place.members)
    → limit_of place r ≡ Ok None
unfolding limit_at watched
limit_read place r is none =
    let name = (about_of r).name in
    let prefix = key_prefix (codes "row.") name in
    then_says (section_at place name prefix) (watched.read tt) (place_under place name prefix) (Ok None) (section_there place name prefix is)
    (one_key (λ limit. limit) (number_at 1000 600000 (place_under place name prefix) (codes "watch_ms")) None
    (ap (λ found. held (number_in 1000 600000) (path_of (place_under place name prefix) (codes "watch_ms")) found) none.0))

limits_read : (place : Place) (all : List Row) (earlier : List (Option ℕ)) → AllByRecursion (λ name. IsTable (get_member name place.members)) (row_names all)
    → NoneHas watched.known (row_names all) place.members → each_from (limit_of place) earlier all ≡ Ok (earlier ++ map (λ r. None) all)
limits_read place [] earlier tables none = ap Ok (sym (append-nil earlier))
limits_read place (r ∷ all) earlier tables none =
    then_says (limit_of place r) (λ x. each_from (limit_of place) (earlier ++ x ∷ []) all) None (Ok (earlier ++ None ∷ map (λ r. None) all))
    (limit_read place r tables.0 none.0)
    (limits_read place all (earlier ++ None ∷ []) tables.1 none.1 ∙ ap Ok (append_assoc earlier (None ∷ []) (map (λ r. None) all)))

all_limits_read : (document : Place) → AreRowTables document → NoneHas watched.known (row_names all_rows) (table_of (get_member watched.name document.members))
    → limits_in document ≡ Ok no_limits
unfolding limits_in all_rows
all_limits_read document tables none =
    let name = watched.name in
    let place = place_under document name (prefix_of name) in
    then_says (section_at document name (prefix_of name)) (λ at. each_from (limit_of at) [] all_rows) place (Ok no_limits)
    (section_there document name (prefix_of name) tables.rows_table)
    (limits_read place all_rows [] tables.each_table none)

alerts_read : (rows : List RowConfig) (parts : List (Option (List ℕ))) (place : Place) → NoneIn place alerts.known → alerts.read (rows, parts) place ≡ Ok None
unfolding alerts
alerts_read rows parts place none =
    let other : Talker = record { 0 = codes "II" } in
    two_keys (λ group talker. option_map (λ g. record { group = g; talker = talker.0 }) group)
    (own_group_at rows parts (stands_at (codes "talker")) place (codes "group")) (default other (text_at talker_in) place (codes "talker")) None other
    (group_at rows parts (stands_at (codes "talker")) place (codes "group") none.0 (ap is_some none.1.0))
    (default_at other (text_in talker_in) place (codes "talker") none.1.0)

watch_read : (rows : List RowConfig) (parts : List (Option (List ℕ))) (document : Place) → AreRowTables document
    → NoneHas watched.known (row_names all_rows) (table_of (get_member watched.name document.members)) → Lacks alerts.name alerts.known document
    → watch_in rows parts document ≡ Ok no_watch
unfolding watch_in
watch_read rows parts document tables none lacks =
    then_says (limits_in document) (λ limits. table_in alerts (rows, parts) document >>= λ said. Ok (record { limits = limits; alerts = said })) no_limits (Ok no_watch)
    (all_limits_read document tables none)
    (then_says (table_in alerts (rows, parts) document) (λ said. Ok (record { limits = no_limits; alerts = said })) None (Ok no_watch)
    (said_there alerts (rows, parts) document None lacks.is_table (alerts_read rows parts _ lacks.none)) refl)

-- ---- all keys

bound : {A B : Type 0} (read : Result A ConfigFault) (next : A → Result B ConfigFault) (y : B) → (read >>= next) ≡ Ok y → (x : A) × ((read ≡ Ok x) × (next x ≡ Ok y))
bound (Ok x) next y is = (x, (refl, is))
bound (Err f) next y is = absurd cc

abbrev set_up : Settings → ArrayVec Pattern → Option Quantities → Bool × Bool → Option (List ℕ) → Bool → ℕ → OptionalSentences → Option HeadingConfig
    → Option NavConfig → WatchConfig → HeartbeatConfig → Setup
set_up settings devices quantities reports group recording every sentences joined legs watch beats = record {
  settings = settings;
  ignore = devices;
  optional_sentences = sentences;
  quantities = quantities;
  sources = reports.0;
  address = reports.1;
  plain = group;
  plain_every_ms = every;
  «record» = recording;
  heading = joined;
  nav = legs;
  watch = watch;
  heartbeat = beats;
}

module _ (document : Place) (settings : Settings) where
  abbrev rows : List RowConfig
  rows = settings.config.rows

  abbrev groups : List (Option (List ℕ))
  groups = part_groups settings

  abbrev from_heartbeat : ArrayVec Pattern → Option Quantities → Bool × Bool → Option (List ℕ) → Bool → ℕ → OptionalSentences → Option HeadingConfig → Option NavConfig
      → WatchConfig → Result Setup ConfigFault
  from_heartbeat devices quantities reports group recording every sentences joined legs watch =
      table_in heartbeat (rows, alert_group watch ∷ nav_group legs ∷ heading_group joined ∷ group ∷ option_map (λ q. q.group) quantities ∷ groups) document
      >>= λ beats. Ok (set_up settings devices quantities reports group recording every sentences joined legs watch beats)

  abbrev from_watch : ArrayVec Pattern → Option Quantities → Bool × Bool → Option (List ℕ) → Bool → ℕ → OptionalSentences → Option HeadingConfig → Option NavConfig
      → Result Setup ConfigFault
  from_watch devices quantities reports group recording every sentences joined legs =
      watch_in rows (nav_group legs ∷ heading_group joined ∷ group ∷ option_map (λ q. q.group) quantities ∷ groups) document
      >>= from_heartbeat devices quantities reports group recording every sentences joined legs

  abbrev from_nav : ArrayVec Pattern → Option Quantities → Bool × Bool → Option (List ℕ) → Bool → ℕ → OptionalSentences → Option HeadingConfig
      → Result Setup ConfigFault
  from_nav devices quantities reports group recording every sentences joined =
      table_in nav (rows, heading_group joined ∷ group ∷ option_map (λ q. q.group) quantities ∷ groups) document
      >>= from_watch devices quantities reports group recording every sentences joined

  abbrev from_heading : ArrayVec Pattern → Option Quantities → Bool × Bool → Option (List ℕ) → Bool → ℕ → OptionalSentences → Result Setup ConfigFault
  from_heading devices quantities reports group recording every sentences =
      table_in heading (rows, group ∷ option_map (λ q. q.group) quantities ∷ groups) document >>= from_nav devices quantities reports group recording every sentences

  abbrev from_optional : ArrayVec Pattern → Option Quantities → Bool × Bool → Option (List ℕ) → Bool → ℕ → Result Setup ConfigFault
  from_optional devices quantities reports group recording every = table_in optional tt document >>= from_heading devices quantities reports group recording every

  abbrev from_pace : ArrayVec Pattern → Option Quantities → Bool × Bool → Option (List ℕ) → Bool → Result Setup ConfigFault
  from_pace devices quantities reports group recording = table_in pace tt document >>= from_optional devices quantities reports group recording

  abbrev from_recording : ArrayVec Pattern → Option Quantities → Bool × Bool → Option (List ℕ) → Result Setup ConfigFault
  from_recording devices quantities reports group = table_in serve tt document >>= from_pace devices quantities reports group

  abbrev from_plain : ArrayVec Pattern → Option Quantities → Bool × Bool → Result Setup ConfigFault
  from_plain devices quantities reports =
      table_in plain (rows, option_map (λ q. q.group) quantities ∷ groups) document >>= from_recording devices quantities reports

  abbrev from_reports : ArrayVec Pattern → Option Quantities → Result Setup ConfigFault
  from_reports devices quantities = table_in report tt document >>= from_plain devices quantities

  abbrev from_quantities : ArrayVec Pattern → Result Setup ConfigFault
  from_quantities devices = quantities_in rows groups document >>= from_reports devices

  abbrev behind : Result Setup ConfigFault
  behind = table_in ignored tt document >>= from_quantities

  abbrev nobody : ArrayVec Pattern
  nobody = record { items = [] }

  nothing_behind : AsksNothingFurther document → IsTable (get_member ignored.name document.members) → IsTable (get_member optional.name document.members) → AreRowTables document
      → behind ≡ Ok (alone settings)
  nothing_behind asks bus network tables =
      let all = Ok (alone settings) in
      then_says (table_in ignored tt document) from_quantities nobody all (said_there ignored tt document nobody bus (ignored_read _ asks.ignored))
      (then_says (quantities_in rows groups document) (from_reports nobody) None all (quantities_read rows groups document asks.quantities)
      (then_says (table_in report tt document) (from_plain nobody None) (false, false) all
      (said_there report tt document (false, false) asks.reports.is_table (reports_read _ asks.reports.none))
      (then_says (table_in plain (rows, None ∷ groups) document) (from_recording nobody None (false, false)) None all
      (said_there plain (rows, None ∷ groups) document None asks.plain.is_table (plain_read rows (None ∷ groups) _ asks.plain.none))
      (then_says (table_in serve tt document) (from_pace nobody None (false, false) None) false all
      (said_there serve tt document false asks.recording.is_table (recording_read _ asks.recording.none))
      (then_says (table_in pace tt document) (from_optional nobody None (false, false) None false) 0 all
      (said_there pace tt document 0 (plain_among document asks.plain) (pace_read _ (plain_lacks document asks.plain)))
      (then_says (table_in optional tt document) (from_heading nobody None (false, false) None false 0) usual_sentences all
      (said_there optional tt document usual_sentences network (optional_read _ asks.optional))
      (then_says (table_in heading (rows, None ∷ None ∷ groups) document) (from_nav nobody None (false, false) None false 0 usual_sentences) None all
      (said_there heading (rows, None ∷ None ∷ groups) document None asks.heading.is_table (heading_read rows (None ∷ None ∷ groups) _ asks.heading.none))
      (then_says (table_in nav (rows, None ∷ None ∷ None ∷ groups) document) (from_watch nobody None (false, false) None false 0 usual_sentences None) None all
      (said_there nav (rows, None ∷ None ∷ None ∷ groups) document None asks.nav.is_table (nav_read rows (None ∷ None ∷ None ∷ groups) _ asks.nav.none))
      (then_says (watch_in rows (None ∷ None ∷ None ∷ None ∷ groups) document) (from_heartbeat nobody None (false, false) None false 0 usual_sentences None None) no_watch all
      (watch_read rows (None ∷ None ∷ None ∷ None ∷ groups) document tables asks.limits asks.alerts)
      (then_says (table_in heartbeat (rows, None ∷ None ∷ None ∷ None ∷ None ∷ groups) document)
      (λ beats. Ok (set_up settings nobody None (false, false) None false 0 usual_sentences None None no_watch beats)) no_heartbeat all
      (said_there heartbeat (rows, None ∷ None ∷ None ∷ None ∷ None ∷ groups) document no_heartbeat asks.heartbeat.is_table
      (heartbeat_read rows (None ∷ None ∷ None ∷ None ∷ None ∷ groups) _ asks.heartbeat.none))
      refl))))))))))

-- settings that were read had a table of the bus, or none, and one of the network, or none
table_among : (document : Place) (name prefix : List ℕ) (place : Place) → section_at document name prefix ≡ Ok place → IsTable (get_member name document.members)
table_among document name prefix place is = table_found (path_of document name) prefix (get_member name document.members) place is

links_among : (own : List ℕ) (document : Place) (links : ArrayVec (List ℕ) × Ends) → links_in own document ≡ Ok links → IsTable (get_member ignored.name document.members)
unfolding links_in bus ignored
links_among own document links said =
    let from_net = bound (table_in net own document) _ links said in
    let from_bus = bound (table_in bus tt document) _ links from_net.1.1 in
    let place = bound (section_at document (codes "bus") (codes "bus.")) (bus.read tt) from_bus.0 from_bus.1.0 in
    table_among document (codes "bus") (codes "bus.") place.0 place.1.0

net_among : (own : List ℕ) (document : Place) (links : ArrayVec (List ℕ) × Ends) → links_in own document ≡ Ok links → IsTable (get_member optional.name document.members)
unfolding links_in net optional
net_among own document links said =
    let from_net = bound (table_in net own document) _ links said in
    let place = bound (section_at document (codes "net") (codes "net.")) (net.read own) from_net.0 from_net.1.0 in
    table_among document (codes "net") (codes "net.") place.0 place.1.0

-- nor was another than a table at the name of a row
rows_among : (group : List ℕ) (place : Place) (all : List Row) (earlier found : List RowConfig) → each_from (row_of group place) earlier all ≡ Ok found
    → AllByRecursion (λ name. IsTable (get_member name place.members)) (row_names all)
unfolding row_at
rows_among group place [] earlier found said = tt
rows_among group place (r ∷ all) earlier found said =
    let name = (about_of r).name in
    let first = bound (row_of group place r) _ found said in
    let table = bound (section_at place name (key_prefix (codes "row.") name)) _ first.0 first.1.0 in
    (table_among place name (key_prefix (codes "row.") name) table.0 table.1.0, rows_among group place all (earlier ++ first.0 ∷ []) found first.1.1)

row_tables_in : (group : List ℕ) (document : Place) (found : List RowConfig) → rows_in group document ≡ Ok found → AreRowTables document
unfolding rows_in row watched
row_tables_in group document found said =
    let name = codes "row" in
    let prefix = codes "row." in
    let place = bound (section_at document name prefix) (λ at. each_from (row_of group at) [] all_rows) found said in
    let is = table_among document name prefix place.0 place.1.0 in
    let under : (section_at document name prefix >>= λ at. each_from (row_of group at) [] all_rows) ≡ each_from (row_of group (place_under document name prefix)) [] all_rows =
    ap (λ at. at >>= λ at. each_from (row_of group at) [] all_rows) (section_there document name prefix is) in
    record { rows_table = is; each_table = rows_among group (place_under document name prefix) all_rows [] found (sym under ∙ said) }

row_tables_among : (document : Place) (settings : Settings) → settings_in document ≡ Ok settings → AreRowTables document
unfolding settings_in
row_tables_among document settings said =
    let own = bound (table_in gateway tt document) _ settings said in
    let first : Preset = record { address = own.0.address; name = own.0.name } in
    let presets = bound (items_in preset 253 first document) _ settings own.1.1 in
    let all = bound (rows_in own.0.group document) _ settings presets.1.1 in
    row_tables_in own.0.group document all.0 all.1.0

bus_among : (document : Place) (settings : Settings) → settings_in document ≡ Ok settings → IsTable (get_member ignored.name document.members)
unfolding settings_in
bus_among document settings said =
    let own = bound (table_in gateway tt document) _ settings said in
    let first : Preset = record { address = own.0.address; name = own.0.name } in
    let presets = bound (items_in preset 253 first document) _ settings own.1.1 in
    let all = bound (rows_in own.0.group document) _ settings presets.1.1 in
    let links = bound (links_in own.0.sfi document) _ settings all.1.1 in
    links_among own.0.sfi document links.0 links.1.0

network_among : (document : Place) (settings : Settings) → settings_in document ≡ Ok settings → IsTable (get_member optional.name document.members)
unfolding settings_in
network_among document settings said =
    let own = bound (table_in gateway tt document) _ settings said in
    let first : Preset = record { address = own.0.address; name = own.0.name } in
    let presets = bound (items_in preset 253 first document) _ settings own.1.1 in
    let all = bound (rows_in own.0.group document) _ settings presets.1.1 in
    let links = bound (links_in own.0.sfi document) _ settings all.1.1 in
    net_among own.0.sfi document links.0 links.1.0

all_behind : (document : Place) → AsksNothingFurther document → (said : Result Settings ConfigFault) → settings_in document ≡ said
    → (said >>= behind document) ≡ alone_of said
all_behind document asks (Ok settings) is = nothing_behind document settings asks (bus_among document settings is) (network_among document settings is) (row_tables_among document settings is)
all_behind document asks (Err f) is = refl

pub keys_say_settings : KeysSaySettings
unfolding setup_in
keys_say_settings document asks = all_behind document asks (settings_in document) refl

-- ---- files

same_unknown : (said : Result Settings ConfigFault) (unknown : Option (List ℕ)) → (alone_of said >>= known unknown) ≡ alone_of (settings_alone (alone_of said >>= known unknown))
same_unknown (Ok settings) None = refl
same_unknown (Ok settings) (Some path) = refl
same_unknown (Err f) unknown = refl

document_alone : (document : Place) → AsksNothingFurther document → config_in document ≡ alone_of (settings_alone (config_in document))
unfolding config_in
document_alone document asks =
    let unknown = first_unknown document in
    subst (λ (said : Result Setup ConfigFault). (said >>= known unknown) ≡ alone_of (settings_alone (said >>= known unknown)))
    (sym (keys_say_settings document asks)) (same_unknown (settings_in document) unknown)

file_alone : (bytes : List ℕ) (all : Result Setup ConfigFault) → FileAsksNothingFurther bytes → IsWholeConfigOf bytes all → all ≡ alone_of (settings_alone all)
file_alone bytes all asks (inl x) = subst (λ (said : Result Setup ConfigFault). said ≡ alone_of (settings_alone said)) (sym x.1) refl
file_alone bytes all asks (inr x) =
    subst (λ (said : Result Setup ConfigFault). said ≡ alone_of (settings_alone said)) (sym x.2) (document_alone (document_place x.0) (asks x.0 x.1))

one_document : (given : Option Members) (a b : Members) → given ≡ Some a → given ≡ Some b → a ≡ b
one_document given a b is_a is_b = cc

says_one : (bytes : List ℕ) (a b : Result Setup ConfigFault) → IsWholeConfigOf bytes a → IsWholeConfigOf bytes b → a ≡ b
says_one bytes a b (inl x) (inl y) = x.1 ∙ sym y.1
says_one bytes a b (inl x) (inr y) = absurd (x.0 y.0 y.1)
says_one bytes a b (inr x) (inl y) = absurd (y.0 x.0 x.1)
says_one bytes a b (inr x) (inr y) =
    x.2 ∙ ap (λ members. config_in (document_place members)) (one_document _ x.0 y.0 x.1.parsed y.1.parsed) ∙ sym y.2

pub files_say_settings : FilesSaySettings
files_say_settings bytes all settings asks whole x =
    file_alone bytes all asks whole
    ∙ ap (λ said. alone_of (settings_alone said)) (says_one bytes all x.0 whole x.1)
    ∙ ap alone_of (sym x.2)
