-- The keys of a configuration, table by table in the order in which they are read: each with its kind of value, and with its default or that
-- it has to be there.
use Rattle.std.specs.Prelude.{⊤, ℕ, Bool, false, true, ◌==◌, List, [], ◌∷◌, codes, Option, Some, None, is_some, option_map, ◌||◌, Result, Ok, Err, if◌then◌else◌}
use Rattle.std.specs.List.{list_any}
use Rattle.arrayvec.specs.ArrayVec.{ArrayVec}
use Rattle.claim_table.specs.declared.preset.Preset.{Preset}
use Rattle.toml.specs.Data.{Data, Members, as_table, get_member}
use Rattle.n2k_id.specs.declared.name.Name.{Name}
use Rattle.n2k_id.specs.declared.pattern.Pattern.{Pattern}
use Rattle.readings.specs.declared.rows.Row.{Row}
use Rattle.readings.specs.Rows.{about_of, rows as all_rows}
use Rattle.quantities.specs.About.{about_of as about_quantity, quantities as all_quantities}
use Rattle.quantities.specs.declared.about.Quantity.{Quantity}
use Rattle.config_document.specs.declared.fault.ConfigFault.{ConfigFault}
use Rattle.config_document.specs.Keys.{list_at, number_at, text_at, truth_at}
use Rattle.config_document.specs.Faults.{fault_at, missing}
use Rattle.config_document.specs.Patterns.{pattern_in}
use Rattle.config_document.specs.Places.{Place, path_of}
use Rattle.config_document.specs.Twice.{repeats}
use Rattle.config_document.specs.declared.fault.Flaw.TheVariants as flaw
use Rattle.bus_identity.specs.declared.product.Product.{Product}
use Rattle.sentence_profile.specs.declared.optional.OptionalSentences.{OptionalSentences}
use Rattle.config_values.specs.declared.config.Ends.{Ends}
use Rattle.config_values.specs.declared.row_config.RowConfig.{RowConfig}
use Rattle.config_values.specs.Rows.{usual_timeout}
use Rattle.network_routes.specs.Routes.{most_routes}
use Rattle.network_routes.specs.declared.Route.{Route}
use Rattle.settings.specs.Watch.{alert_group}
use Rattle.settings.specs.declared.ais.AisConfig.{AisConfig}
use Rattle.settings.specs.Setup.{heading_group, nav_group}
use Rattle.settings.specs.declared.heading.HeadingConfig.{HeadingConfig}
use Rattle.settings.specs.declared.heartbeat.HeartbeatConfig.{HeartbeatConfig}
use Rattle.settings.specs.declared.heartbeat.NetHeartbeat.{NetHeartbeat}
use Rattle.settings.specs.declared.nav.NavConfig.{NavConfig}
use Rattle.settings.specs.declared.quantity_config.Quantities.{Quantities}
use Rattle.settings.specs.declared.quantity_config.QuantityConfig.{QuantityConfig}
use Rattle.settings.specs.declared.rmc.RmcConfig.{RmcConfig}
use Rattle.settings.specs.declared.settings.Settings.{Settings}
use Rattle.settings.specs.declared.setup.Setup.{Setup}
use Rattle.settings.specs.declared.watch.AlertConfig.{AlertConfig}
use Rattle.settings.specs.declared.watch.WatchConfig.{WatchConfig}
use Rattle.config_document.specs.declared.texts.ProductText.{ProductText}
use Rattle.config_document.specs.Texts.{group_in, name_in, product_text_in, sfi_in, talker_in}
use Rattle.gate_config.specs.declared.gateway.Own.{Own}
use Rattle.gate_config.specs.Texts.{endpoint_in, loopback, same_pattern, same_text}
use Rattle.gate_config.specs.Reading.{◌>>=◌, ◌&◌, Kind, Table, default, each_from, items_in, key, key_beside, key_prefix, keys, keys_beside, needed, prefix_of, section_at, table, table_in, unless}

-- gateway: how many fast packets, sessions and groups of lines may be in the making
unfoldable pub slots : Table ⊤ (ℕ × ℕ × ℕ)
slots =
    table (codes "gateway") (λ fast iso group. (fast, iso, group))
    & key (codes "fast_slots") (default 64 (number_at 1 256))
    & key (codes "iso_slots") (default 8 (number_at 1 32))
    & key (codes "group_slots") (default 8 (number_at 1 32))

-- gateway: its NAME, the address that it begins with, and how it is called on the network
unfoldable pub names : Table ⊤ (Name × ℕ × List ℕ)
names =
    table (codes "gateway") (λ name address sfi. (name, address, sfi))
    & key (codes "name") (needed (text_at name_in))
    & key (codes "address") (needed (number_at 0 251))
    & key (codes "sfi") (needed (text_at sfi_in))

unfoldable pub gateway : Table ⊤ Own
gateway =
    table (codes "gateway") (λ names group slots ths. record {
      name = names.0;
      address = names.1;
      sfi = names.2;
      group = group;
      fast_slots = slots.0;
      iso_slots = slots.1;
      group_slots = slots.2;
      ths = ths;
    })
    & keys names
    & key (codes "group") (default (codes "NAVD") (text_at group_in))
    & keys slots
    & key (codes "ths") (default false truth_at)

-- preset: the gateway's own address and NAME, and those of the presets before it, can't stand again
abbrev pub address_stands : Preset → List Preset → ℕ → Bool
address_stands own earlier address = list_any (λ p. p.address == address) (own ∷ earlier)

abbrev pub name_stands : Preset → List Preset → Name → Bool
name_stands own earlier name = list_any (λ p. p.name.0 == name.0) (own ∷ earlier)

unfoldable pub preset : Table (Preset × List Preset) Preset
preset =
    table (codes "preset") (λ address name. record { address = address; name = name })
    & key_beside (codes "address") (λ beside. unless (address_stands beside.0 beside.1) (needed (number_at 0 253)))
    & key_beside (codes "name") (λ beside. unless (name_stands beside.0 beside.1) (needed (text_at name_in)))

-- devices, none of them twice
abbrev pub devices : Kind (ArrayVec Pattern)
devices = unless (λ sources. repeats same_pattern sources.items) (list_at pattern_in 16)

-- whom a quantity is taken from and who says it, beside the talker and the timeout that it has by default
unfoldable pub quantity : Table (List ℕ × ℕ) QuantityConfig
quantity =
    table (codes "further") (λ sources others timeout talker. record { sources = sources; others = others; timeout_ms = timeout; talker = talker.0 })
    & key (codes "sources") devices
    & key (codes "others") (default true truth_at)
    & key_beside (codes "timeout_ms") (λ beside. default beside.1 (number_at 100 60000))
    & key_beside (codes "talker") (λ beside. default (record { 0 = beside.0 }) (text_at talker_in))

-- row.R: the same, and the group that it is sent to; beside the talker and the group that it has by default
unfoldable pub row : Table (List ℕ × List ℕ) RowConfig
row =
    table (codes "row") (λ taken group. record {
      sources = taken.sources;
      others = taken.others;
      timeout_ms = taken.timeout_ms;
      talker = taken.talker;
      group = group;
    })
    & keys_beside (λ beside. (beside.0, usual_timeout)) quantity
    & key_beside (codes "group") (λ beside. default beside.1 (text_at group_in))

unfoldable pub row_at : List ℕ → List ℕ → Place → List ℕ → List ℕ → Result RowConfig ConfigFault
row_at talker group rows name prefix = section_at rows name prefix >>= row.read (talker, group)

-- a row, by its name, and with the talker that it has by default
abbrev pub row_of : List ℕ → Place → Row → Result RowConfig ConfigFault
row_of group rows r = row_at (about_of r).talker group rows (about_of r).name (key_prefix (codes "row.") (about_of r).name)

-- row, in the order of the rows
unfoldable pub rows_in : List ℕ → Place → Result (List RowConfig) ConfigFault
rows_in group document = do
  place ← section_at document row.name (prefix_of row.name)
  each_from (row_of group place) [] all_rows

-- where a link listens or sends; by default a port of the machine itself
unfoldable pub link : ℕ → Kind (ArrayVec ℕ)
link port place name = do
  endpoint ← default (record { 0 = record { items = loopback port } }) (text_at endpoint_in) place name
  Ok endpoint.0

-- net: the gateway isn't its own source
unfoldable pub net : Table (List ℕ) (ArrayVec (List ℕ) × ArrayVec ℕ × ArrayVec ℕ)
net =
    table (codes "net") (λ sources listen send. (sources, listen, send))
    & key_beside (codes "sources") (λ own. unless (λ sources. repeats same_text (own ∷ sources.items)) (list_at sfi_in 32))
    & key (codes "listen") (link 60001)
    & key (codes "send") (link 60002)

-- bus
unfoldable pub bus : Table ⊤ (ArrayVec ℕ × ArrayVec ℕ)
bus =
    table (codes "bus") (λ listen send. (listen, send))
    & key (codes "listen") (link 60101)
    & key (codes "send") (link 60102)

-- route: no group has two
abbrev pub group_stands : List Route → List ℕ → Bool
group_stands earlier group = list_any (λ r. same_text r.group group) earlier

unfoldable pub route : Table (⊤ × List Route) Route
route =
    table (codes "route") (λ group address. record { group = group; address = address.0 })
    & key_beside (codes "group") (λ beside. unless (group_stands beside.1) (needed (text_at group_in)))
    & key (codes "address") (needed (text_at endpoint_in))

-- identity
abbrev pub product_text : List ℕ → Kind ProductText
product_text other = default (record { 0 = record { items = other } }) (text_at product_text_in)

-- the texts by which the device is known
unfoldable pub texts : Table ⊤ (ProductText × ProductText × ProductText × ProductText)
texts =
    table (codes "identity") (λ model software version serial. (model, software, version, serial))
    & key (codes "model") (product_text (codes "shipgate"))
    & key (codes "software") (product_text (codes "1"))
    & key (codes "version") (product_text (codes "1"))
    & key (codes "serial") (product_text (codes "1"))

unfoldable pub identity : Table ⊤ Product
identity =
    table (codes "identity") (λ code texts load. record {
      code = code;
      model = texts.0.0;
      software = texts.1.0;
      version = texts.2.0;
      serial = texts.3.0;
      load = load;
    })
    & key (codes "code") (default 0 (number_at 0 65535))
    & keys texts
    & key (codes "load") (default 1 (number_at 0 252))

-- something is sent to a group: a row, or one of the other parts, of those that have a group
abbrev pub is_group_of : List ℕ → Option (List ℕ) → Bool
is_group_of group None = false
is_group_of group (Some taken) = same_text taken group

abbrev pub is_taken : List RowConfig → List (Option (List ℕ)) → List ℕ → Bool
is_taken rows parts group = list_any (λ row. same_text row.group group) rows || list_any (is_group_of group) parts

-- something stands at a key
abbrev pub stands_at : List ℕ → Place → Bool
stands_at name place = is_some (get_member name place.members)

-- a transmission group of its own, which the part has only with it: what else is said of the part asks for it, and nothing else may be sent to it
abbrev pub own_group : List RowConfig → List (Option (List ℕ)) → Bool → Place → List ℕ → Result (Option (List ℕ)) ConfigFault → Result (Option (List ℕ)) ConfigFault
own_group rows parts asked place name (Err fault) = Err fault
own_group rows parts asked place name (Ok None) = if asked then Err (missing (path_of place name)) else Ok None
own_group rows parts asked place name (Ok (Some group)) =
    if is_taken rows parts group then Err (fault_at flaw.Twice (path_of place name)) else Ok (Some group)

abbrev pub own_group_at : List RowConfig → List (Option (List ℕ)) → (Place → Bool) → Kind (Option (List ℕ))
own_group_at rows parts asks place name = own_group rows parts (asks place) place name (text_at group_in place name)

-- rmc
unfoldable pub rmc : Table (List RowConfig) (Option RmcConfig)
rmc =
    table (codes "rmc") (λ group talker. option_map (λ g. record { group = g; talker = talker.0 }) group)
    & key_beside (codes "group") (λ rows. own_group_at rows [] (stands_at (codes "talker")))
    & key (codes "talker") (default (record { 0 = codes "GP" }) (text_at talker_in))

-- ais, beside the rows and the group of rmc
unfoldable pub ais : Table (List RowConfig × Option (List ℕ)) (Option AisConfig)
ais =
    table (codes "ais") (λ group slots. option_map (λ g. record { group = g; slots = slots }) group)
    & key_beside (codes "group") (λ beside. own_group_at beside.0 (beside.1 ∷ []) (stands_at (codes "slots")))
    & key (codes "slots") (default 16 (number_at 1 256))

-- bus again: a key that is checked behind all those above
unfoldable pub ignored : Table ⊤ (ArrayVec Pattern)
ignored = table (codes "bus") (λ devices. devices) & key (codes "ignore") devices

-- a quantity asks for the group of quantities by one of its keys, or by what is no table
abbrev pub asks_by : Option Members → Bool
asks_by None = true
asks_by (Some members) = list_any (λ name. is_some (get_member name members)) quantity.known

abbrev pub asks : Option Data → Bool
asks None = false
asks (Some value) = asks_by (as_table value)

-- these quantities, at their names
abbrev pub any_asks : Place → List Quantity → Bool
any_asks place all = list_any (λ q. asks (get_member (about_quantity q).name place.members)) all

abbrev pub is_asked : Place → Bool
is_asked place = stands_at (codes "slots") place || stands_at (codes "twin_engines") place || any_asks place all_quantities

-- further, beside the rows and the groups of the other parts
unfoldable pub further : Table (List RowConfig × List (Option (List ℕ))) (Option (List ℕ) × ℕ × Bool)
further =
    table (codes "further") (λ group slots twin. (group, slots, twin))
    & key_beside (codes "group") (λ beside. own_group_at beside.0 beside.1 is_asked)
    & key (codes "slots") (default 16 (number_at 1 256))
    & key (codes "twin_engines") (default false truth_at)

unfoldable pub quantity_at : List ℕ → Place → List ℕ → List ℕ → Result QuantityConfig ConfigFault
quantity_at talker place name prefix = section_at place name prefix >>= quantity.read (talker, usual_timeout)

-- a quantity, by its name, and with the talker that it has by default
abbrev pub quantity_of : Place → Quantity → Result QuantityConfig ConfigFault
quantity_of place q = quantity_at (about_quantity q).talker place (about_quantity q).name (key_prefix (codes "further.") (about_quantity q).name)

-- further with the quantities, in their order
unfoldable pub quantities_in : List RowConfig → List (Option (List ℕ)) → Place → Result (Option Quantities) ConfigFault
quantities_in rows parts document = do
  place ← section_at document further.name (prefix_of further.name)
  all ← further.read (rows, parts) place
  each ← each_from (quantity_of place) [] all_quantities
  Ok (option_map (λ group. record { group = group; slots = all.1; twin_engines = all.2; each = each }) all.0)

-- report: whether it is told that a row is taken from another device, and that the gateway has another address
unfoldable pub report : Table ⊤ (Bool × Bool)
report =
    table (codes "report") (λ sources address. (sources, address))
    & key (codes "sources") (default false truth_at)
    & key (codes "address") (default false truth_at)

-- plain, beside the rows and the groups of the other parts; its pace asks for its group
unfoldable pub plain : Table (List RowConfig × List (Option (List ℕ))) (Option (List ℕ))
plain = table (codes "plain") (λ group. group) & key_beside (codes "group") (λ beside. own_group_at beside.0 beside.1 (stands_at (codes "every_ms")))

-- plain again: how long plain sentences that say the same pause, in milliseconds
unfoldable pub pace : Table ⊤ ℕ
pace = table (codes "plain") (λ every. every) & key (codes "every_ms") (default 0 (number_at 0 60000))

-- net again: which of the sentences are read that a configuration decides on
unfoldable pub optional : Table ⊤ OptionalSentences
optional =
    table (codes "net") (λ rmc dbt. record { rmc = rmc; dbt = dbt })
    & key (codes "rmc") (default false truth_at)
    & key (codes "dbt") (default true truth_at)

-- serve
unfoldable pub serve : Table ⊤ Bool
serve = table (codes "serve") (λ recording. recording) & key (codes "record") (default false truth_at)

-- a part that is taken as a quantity: a key of its own asks for its group, and so does each of those of a quantity
abbrev pub asks_as_quantity : List ℕ → Place → Bool
asks_as_quantity own place = stands_at own place || list_any (λ name. stands_at name place) quantity.known

-- heading, beside the rows and the groups of the other parts
unfoldable pub heading : Table (List RowConfig × List (Option (List ℕ))) (Option HeadingConfig)
heading =
    table (codes "heading") (λ group taken hdm. option_map (λ g. record { group = g; variation = taken; hdm = hdm }) group)
    & key_beside (codes "group") (λ beside. own_group_at beside.0 beside.1 (asks_as_quantity (codes "hdm")))
    & keys_beside (λ beside. (codes "HC", usual_timeout)) quantity
    & key (codes "hdm") (default false truth_at)

-- nav, beside the same: a leg counts for half as long as usual, since a pilot steers by it
unfoldable pub nav : Table (List RowConfig × List (Option (List ℕ))) (Option NavConfig)
nav =
    table (codes "nav") (λ group slots taken. option_map (λ g. record { group = g; slots = slots; legs = taken }) group)
    & key_beside (codes "group") (λ beside. own_group_at beside.0 beside.1 (asks_as_quantity (codes "slots")))
    & key (codes "slots") (default 16 (number_at 1 256))
    & keys_beside (λ beside. (codes "GP", 2500)) quantity

-- row.R again: how long a row may stay unsaid, in milliseconds
unfoldable pub watched : Table ⊤ (Option ℕ)
watched = table (codes "row") (λ limit. limit) & key (codes "watch_ms") (number_at 1000 600000)

unfoldable pub limit_at : Place → List ℕ → List ℕ → Result (Option ℕ) ConfigFault
limit_at rows name prefix = section_at rows name prefix >>= watched.read tt

abbrev pub limit_of : Place → Row → Result (Option ℕ) ConfigFault
limit_of rows r = limit_at rows (about_of r).name (key_prefix (codes "row.") (about_of r).name)

-- row again, in the order of the rows
unfoldable pub limits_in : Place → Result (List (Option ℕ)) ConfigFault
limits_in document = do
  place ← section_at document watched.name (prefix_of watched.name)
  each_from (limit_of place) [] all_rows

-- watch, beside the rows and the groups of the other parts
unfoldable pub alerts : Table (List RowConfig × List (Option (List ℕ))) (Option AlertConfig)
alerts =
    table (codes "watch") (λ group talker. option_map (λ g. record { group = g; talker = talker.0 }) group)
    & key_beside (codes "group") (λ beside. own_group_at beside.0 beside.1 (stands_at (codes "talker")))
    & key (codes "talker") (default (record { 0 = codes "II" }) (text_at talker_in))

-- rows that have to be said, and how alerts are said
unfoldable pub watch_in : List RowConfig → List (Option (List ℕ)) → Place → Result WatchConfig ConfigFault
watch_in rows parts document = do
  limits ← limits_in document
  said ← table_in alerts (rows, parts) document
  Ok (record { limits = limits; alerts = said })

-- heartbeat: HBT, beside the rows and the groups of the other parts; its interval and its talker ask for its group
abbrev pub asks_hbt : Place → Bool
asks_hbt place = stands_at (codes "every_s") place || stands_at (codes "talker") place

unfoldable pub hbt : Table (List RowConfig × List (Option (List ℕ))) (Option NetHeartbeat)
hbt =
    table (codes "heartbeat") (λ group every talker. option_map (λ g. record { group = g; every_s = every; talker = talker.0 }) group)
    & key_beside (codes "group") (λ beside. own_group_at beside.0 beside.1 asks_hbt)
    & key (codes "every_s") (default 60 (number_at 1 999))
    & key (codes "talker") (default (record { 0 = codes "II" }) (text_at talker_in))

-- and frames of PGN 126993, which ask for no group
unfoldable pub heartbeat : Table (List RowConfig × List (Option (List ℕ))) HeartbeatConfig
heartbeat =
    table (codes "heartbeat") (λ net bus_every. record { net = net; bus_every_s = bus_every })
    & keys hbt
    & key (codes "bus_every_s") (number_at 1 60)

-- net, bus and route: whom the network is heard from, and where the links listen and send
unfoldable pub links_in : List ℕ → Place → Result (ArrayVec (List ℕ) × Ends) ConfigFault
links_in own document = do
  n ← table_in net own document
  b ← table_in bus tt document
  routes ← items_in route most_routes tt document
  Ok (n.0, record { bus_listen = b.0; bus_send = b.1; net_listen = n.1; net = record { list = routes; other = n.2 } })

-- identity, rmc and ais
unfoldable pub parts_in : List RowConfig → Place → Result (Product × Option RmcConfig × Option AisConfig) ConfigFault
parts_in rows document = do
  product ← table_in identity tt document
  joined ← table_in rmc rows document
  ships ← table_in ais (rows, option_map (λ r. r.group) joined) document
  Ok (product, joined, ships)

-- all of them, table by table
unfoldable pub settings_in : Place → Result Settings ConfigFault
settings_in document = do
  own ← table_in gateway tt document
  presets ← items_in preset 253 (record { address = own.address; name = own.name }) document
  rows ← rows_in own.group document
  links ← links_in own.sfi document
  parts ← parts_in rows document
  Ok (record {
    config = record {
      name = own.name;
      address = own.address;
      sfi = own.sfi;
      fast_slots = own.fast_slots;
      iso_slots = own.iso_slots;
      group_slots = own.group_slots;
      ths = own.ths;
      presets = presets;
      rows = rows;
      net_sources = links.0;
      ends = links.1;
    };
    product = parts.0;
    rmc = parts.1;
    ais = parts.2;
  })

-- the groups of joined sentences and of reports of ships around
abbrev pub part_groups : Settings → List (Option (List ℕ))
part_groups s = option_map (λ r. r.group) s.rmc ∷ option_map (λ a. a.group) s.ais ∷ []

-- all keys: those of the settings, and behind them what is read beside them
unfoldable pub setup_in : Place → Result Setup ConfigFault
setup_in document = do
  settings ← settings_in document
  devices ← table_in ignored tt document
  quantities ← quantities_in settings.config.rows (part_groups settings) document
  reports ← table_in report tt document
  group ← table_in plain (settings.config.rows, option_map (λ q. q.group) quantities ∷ part_groups settings) document
  recording ← table_in serve tt document
  every ← table_in pace tt document
  sentences ← table_in optional tt document
  joined ← table_in heading (settings.config.rows, group ∷ option_map (λ q. q.group) quantities ∷ part_groups settings) document
  legs ← table_in nav (settings.config.rows, heading_group joined ∷ group ∷ option_map (λ q. q.group) quantities ∷ part_groups settings) document
  watch ← watch_in settings.config.rows (nav_group legs ∷ heading_group joined ∷ group ∷ option_map (λ q. q.group) quantities ∷ part_groups settings) document
  beats ←
      table_in heartbeat
      (settings.config.rows, alert_group watch ∷ nav_group legs ∷ heading_group joined ∷ group ∷ option_map (λ q. q.group) quantities ∷ part_groups settings) document
  Ok (record {
    settings = settings;
    ignore = devices;
    optional_sentences = sentences;
    quantities = quantities;
    sources = reports.0;
    address = reports.1;
    plain = group;
    plain_every_ms = every;
    «record» = recording;
    heading = joined;
    nav = legs;
    watch = watch;
    heartbeat = beats;
  })
