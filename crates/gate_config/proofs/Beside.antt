-- What tests against what stands already tell, and what lists become by one more item that can stand there.
use Rattle.std.proofs.Common.{◌≡◌, ◌≢◌, ℕ, suc, ◌<◌, ◌==◌, false, List, [], ◌∷◌, ◌++◌, get_or, Option, Some, None, sym, ap, ◌∙◌, subst, arith}
use Rattle.std.specs.Prelude.{option_map}
use Rattle.std.specs.Int.{IsInRange}
use Rattle.std.specs.Option.{ForSome}
use Rattle.std.specs.List.{list_any}
use Rattle.std.proofs.lemmas.Bool.{eqb-false, false≢true, or_parts}
use Rattle.std.proofs.lemmas.List.Elements.{All-push}
use Rattle.std.proofs.lemmas.Option.{none-some, same_Some}
use Rattle.std.proofs.lemmas.List.Quantifiers.{all_pairs_push}
use Rattle.config_document.proofs.Apart.{none_of}
use Rattle.claim_table.specs.Claims.{places}
use Rattle.claim_table.specs.declared.preset.Preset.{Preset}
use Rattle.n2k_id.specs.declared.name.Name.{Name}
use Rattle.config_values.specs.Configs.{AreRoutes}
use Rattle.config_values.specs.Endpoints.{IsEndpoint}
use Rattle.config_values.specs.Presets.{AreApart, ArePresets}
use Rattle.config_values.specs.declared.row_config.RowConfig.{RowConfig}
use Rattle.network_routes.specs.declared.Route.{Route}
use Rattle.config_values.specs.Rows.{AreSources}
use Rattle.settings.specs.Heartbeat.{IsHeartbeat}
use Rattle.settings.specs.Setup.{AreQuantities, IsAlertGroup, IsFurtherGroup, IsHeading, IsHeadingGroup, IsHeartbeatGroup, IsNav, IsNavGroup, IsPlainGroup, IsSetup, heading_group, nav_group}
use Rattle.settings.specs.Settings.{IsAis, IsSettings}
use Rattle.settings.specs.declared.ais.AisConfig.{AisConfig}
use Rattle.settings.specs.declared.quantity_config.Quantities.{Quantities}
use Rattle.settings.specs.declared.rmc.RmcConfig.{RmcConfig}
use Rattle.settings.specs.declared.settings.Settings.{Settings}
use Rattle.settings.specs.declared.setup.Setup.{Setup}
use Rattle.settings.specs.declared.watch.WatchConfig.{WatchConfig}
use Rattle.settings.specs.Watch.{IsWatch, alert_group}
use Rattle.gate_config.specs.Beside.{AreQuantitiesBeside, IsAisBeside, IsGroupBeside, IsPresetBeside, IsRouteBeside}
use Rattle.gate_config.specs.Keys.{address_stands, group_stands, is_group_of, name_stands, part_groups}
use Rattle.gate_config.specs.Texts.{same_text}
use Rattle.gate_config.proofs.EndpointTexts.{same_itself}

-- texts that a test tells apart differ
pub other_text : (s t : List ℕ) → same_text s t ≡ false → s ≢ t
other_text s t test equal = false≢true (sym test ∙ ap (λ u. same_text u t) equal ∙ same_itself t)

other_name : (n m : Name) → (n.0 == m.0) ≡ false → n ≢ m
other_name n m test equal = eqb-false n.0 m.0 test (ap (λ (name : Name). name.0) equal)

pub preset_beside : (own : Preset) (earlier : List Preset) (address : ℕ) (name : Name) → address < places → address_stands own earlier address ≡ false → name_stands own earlier name ≡ false
    → IsPresetBeside own earlier (record { address = address; name = name })
preset_beside own earlier address name fits by_address by_name =
    let addresses = or_parts (own.address == address) (list_any (λ p. p.address == address) earlier) by_address in
    let names = or_parts (own.name.0 == name.0) (list_any (λ p. p.name.0 == name.0) earlier) by_name in
    record {
      place = fits;
      from_own = record { address = eqb-false own.address address addresses.0; name = other_name own.name name names.0 };
      from_earlier = λ k d within. record {
        address = eqb-false (get_or earlier k d).address address (none_of (λ p. p.address == address) earlier k d addresses.1 within);
        name = other_name (get_or earlier k d).name name (none_of (λ p. p.name.0 == name.0) earlier k d names.1 within);
      };
    }

pub no_presets : (own : Preset) → ArePresets own.name own.address []
no_presets own = record {
  addresses = λ k d within. absurd (omega arith);
  apart = λ i j d before within. absurd (omega arith);
  others = λ k d within. absurd (omega arith);
}

pub one_more_preset : (own : Preset) (earlier : List Preset) (preset : Preset) → ArePresets own.name own.address earlier → IsPresetBeside own earlier preset
    → ArePresets own.name own.address (earlier ++ preset ∷ [])
one_more_preset own earlier preset are beside = record {
  addresses = All-push (λ p. p.address < places) earlier preset are.addresses beside.place;
  apart = all_pairs_push AreApart earlier preset are.apart (λ k d within. beside.from_earlier k d within);
  others = All-push (λ p. AreApart own p) earlier preset are.others beside.from_own;
}

pub route_beside : (earlier : List Route) (route : Route) → group_stands earlier route.group ≡ false → IsEndpoint route.address.items → IsRouteBeside earlier route
route_beside earlier route by_group end = record {
  from_earlier = λ k d within. other_text (get_or earlier k d).group route.group (none_of (λ r. same_text r.group route.group) earlier k d by_group within);
  end = end;
}

pub no_routes : AreRoutes []
no_routes = record { groups = λ i j d before within. absurd (omega arith); addresses = λ k d within. absurd (omega arith) }

pub one_more_route : (earlier : List Route) (route : Route) → AreRoutes earlier → IsRouteBeside earlier route → AreRoutes (earlier ++ route ∷ [])
one_more_route earlier route are beside = record {
  groups = all_pairs_push (λ r q. r.group ≢ q.group) earlier route are.groups (λ k d within. beside.from_earlier k d within);
  addresses = All-push (λ r. IsEndpoint r.address.items) earlier route are.addresses beside.end;
}

other_group : (group : List ℕ) (taken : Option (List ℕ)) → is_group_of group taken ≡ false → ForSome taken (λ other. other ≢ group)
other_group group None test other is = absurd (none-some other is)
other_group group (Some text) test other is =
    subst (λ (t : List ℕ). t ≢ group) (same_Some text other is) (other_text text group test)

pub group_beside : (rows : List RowConfig) (parts : List (Option (List ℕ))) (group : List ℕ) → list_any (λ row. same_text row.group group) rows ≡ false
    → list_any (is_group_of group) parts ≡ false → IsGroupBeside rows parts group
group_beside rows parts group by_rows by_parts = record {
  from_rows = λ k d within. other_text (get_or rows k d).group group (none_of (λ row. same_text row.group group) rows k d by_rows within);
  from_parts = λ k d within. other_group group (get_or parts k d) (none_of (is_group_of group) parts k d by_parts within);
}

-- reports of ships around beside the rows and joined sentences, where there are such
pub ais_beside : (rows : List RowConfig) (rmc : Option RmcConfig) (ais : AisConfig) → IsAisBeside rows (option_map (λ r. r.group) rmc) ais → IsAis rows rmc ais
ais_beside rows rmc ais beside = record {
  group = beside.beside.from_rows;
  other = λ r is. beside.beside.from_parts 0 None (omega arith) r.group (ap (option_map (λ (r : RmcConfig). r.group)) is);
  slots = beside.most;
}

-- a group beside those of the rows and of the parts of the settings
further_group : (s : Settings) (group : List ℕ) → IsGroupBeside s.config.rows (part_groups s) group → IsFurtherGroup s group
further_group s group beside = record {
  from_rows = beside.from_rows;
  from_rmc = λ r is. beside.from_parts 0 None (omega arith) r.group (ap (option_map (λ (r : RmcConfig). r.group)) is);
  from_ais = λ a is. beside.from_parts 1 None (omega arith) a.group (ap (option_map (λ (a : AisConfig). a.group)) is);
}

pub quantities_beside : (s : Settings) (all : Quantities) → AreQuantitiesBeside s.config.rows (part_groups s) all → AreQuantities s all
quantities_beside s all beside = record { group = further_group s all.group beside.beside; slots = beside.most; each = beside.each }

pub plain_beside :
    (s : Settings) (quantities : Option Quantities) (group : List ℕ) → IsGroupBeside s.config.rows (option_map (λ q. q.group) quantities ∷ part_groups s) group
    → IsPlainGroup s quantities group
plain_beside s quantities group beside = record {
  beside = record {
    from_rows = beside.from_rows;
    from_rmc = λ r is. beside.from_parts 1 None (omega arith) r.group (ap (option_map (λ (r : RmcConfig). r.group)) is);
    from_ais = λ a is. beside.from_parts 2 None (omega arith) a.group (ap (option_map (λ (a : AisConfig). a.group)) is);
  };
  from_quantities = λ q is. beside.from_parts 0 None (omega arith) q.group (ap (option_map (λ (q : Quantities). q.group)) is);
}

-- a group beside these is beside all but the first of them
beside_fewer : (rows : List RowConfig) (part : Option (List ℕ)) (parts : List (Option (List ℕ))) (group : List ℕ) → IsGroupBeside rows (part ∷ parts) group
    → IsGroupBeside rows parts group
beside_fewer rows part parts group beside = record {
  from_rows = beside.from_rows;
  from_parts = λ k d within. beside.from_parts (suc k) d (omega (arith, within));
}

-- besides, beside the group of plain sentences
heading_beside :
    (s : Settings) (quantities : Option Quantities) (plain : Option (List ℕ)) (group : List ℕ)
    → IsGroupBeside s.config.rows (plain ∷ option_map (λ q. q.group) quantities ∷ part_groups s) group → IsHeadingGroup s quantities plain group
heading_beside s quantities plain group beside = record {
  beside = plain_beside s quantities group (beside_fewer s.config.rows plain (option_map (λ q. q.group) quantities ∷ part_groups s) group beside);
  from_plain = beside.from_parts 0 None (omega arith);
}

-- and beside that of joined headings
nav_beside :
    (s : Settings) (quantities : Option Quantities) (plain heading : Option (List ℕ)) (group : List ℕ)
    → IsGroupBeside s.config.rows (heading ∷ plain ∷ option_map (λ q. q.group) quantities ∷ part_groups s) group → IsNavGroup s quantities plain heading group
nav_beside s quantities plain heading group beside = record {
  beside =
      heading_beside s quantities plain group
      (beside_fewer s.config.rows heading (plain ∷ option_map (λ q. q.group) quantities ∷ part_groups s) group beside);
  from_heading = beside.from_parts 0 None (omega arith);
}

-- and beside that of legs
alerts_beside :
    (s : Settings) (quantities : Option Quantities) (plain heading nav : Option (List ℕ)) (group : List ℕ)
    → IsGroupBeside s.config.rows (nav ∷ heading ∷ plain ∷ option_map (λ q. q.group) quantities ∷ part_groups s) group
    → IsAlertGroup s quantities plain heading nav group
alerts_beside s quantities plain heading nav group beside = record {
  beside =
      nav_beside s quantities plain heading group
      (beside_fewer s.config.rows nav (heading ∷ plain ∷ option_map (λ q. q.group) quantities ∷ part_groups s) group beside);
  from_nav = beside.from_parts 0 None (omega arith);
}

watch_beside : (w : WatchConfig) (beside own : List ℕ → Type 0) → ((group : List ℕ) → beside group → own group) → IsWatch beside w → IsWatch own w
watch_beside w beside own is_own is = record {
  limits = is.limits;
  alerts = λ a there. let alerts = is.alerts a there in record { group = is_own a.group alerts.group; talker = alerts.talker };
}

-- and beside that of alerts
heartbeat_beside :
    (s : Settings) (quantities : Option Quantities) (plain heading nav alerts : Option (List ℕ)) (group : List ℕ)
    → IsGroupBeside s.config.rows (alerts ∷ nav ∷ heading ∷ plain ∷ option_map (λ q. q.group) quantities ∷ part_groups s) group
    → IsHeartbeatGroup s quantities plain heading nav alerts group
heartbeat_beside s quantities plain heading nav alerts group beside = record {
  beside =
      alerts_beside s quantities plain heading nav group
      (beside_fewer s.config.rows alerts (nav ∷ heading ∷ plain ∷ option_map (λ q. q.group) quantities ∷ part_groups s) group beside);
  from_alerts = beside.from_parts 0 None (omega arith);
}

pub setup_beside :
    (x : Setup) → IsSettings x.settings → AreSources x.ignore.items → ForSome x.quantities (AreQuantitiesBeside x.settings.config.rows (part_groups x.settings))
    → ForSome x.plain (IsGroupBeside x.settings.config.rows (option_map (λ q. q.group) x.quantities ∷ part_groups x.settings))
    → IsInRange 0 60000 x.plain_every_ms
    → ForSome x.heading (IsHeading (IsGroupBeside x.settings.config.rows (x.plain ∷ option_map (λ q. q.group) x.quantities ∷ part_groups x.settings)))
    → ForSome x.nav (IsNav (IsGroupBeside x.settings.config.rows (heading_group x.heading ∷ x.plain ∷ option_map (λ q. q.group) x.quantities ∷ part_groups x.settings)))
    → IsWatch
    (IsGroupBeside x.settings.config.rows (nav_group x.nav ∷ heading_group x.heading ∷ x.plain ∷ option_map (λ q. q.group) x.quantities ∷ part_groups x.settings)) x.watch
    → IsHeartbeat x.heartbeat
    → ForSome x.heartbeat.net (λ n. IsGroupBeside x.settings.config.rows
    (alert_group x.watch ∷ nav_group x.nav ∷ heading_group x.heading ∷ x.plain ∷ option_map (λ q. q.group) x.quantities ∷ part_groups x.settings) n.group)
    → IsSetup x
setup_beside x settings ignore quantities plain pace heading nav watch beats free = record {
  settings = settings;
  ignore = ignore;
  quantities = λ all is. quantities_beside x.settings all (quantities all is);
  plain = λ group is. plain_beside x.settings x.quantities group (plain group is);
  pace = pace;
  heading = λ j is. let asked = heading j is in
      record { group = heading_beside x.settings x.quantities x.plain j.group asked.group; variation = asked.variation };
  nav = λ n is. let asked = nav n is in
      record { group = nav_beside x.settings x.quantities x.plain (heading_group x.heading) n.group asked.group; slots = asked.slots; legs = asked.legs };
  watch =
      watch_beside x.watch
      (IsGroupBeside x.settings.config.rows (nav_group x.nav ∷ heading_group x.heading ∷ x.plain ∷ option_map (λ q. q.group) x.quantities ∷ part_groups x.settings))
      (IsAlertGroup x.settings x.quantities x.plain (heading_group x.heading) (nav_group x.nav))
      (alerts_beside x.settings x.quantities x.plain (heading_group x.heading) (nav_group x.nav)) watch;
  heartbeat = beats;
  heartbeat_group = λ n is. heartbeat_beside x.settings x.quantities x.plain (heading_group x.heading) (nav_group x.nav) (alert_group x.watch) n.group (free n is);
}
