-- The configuration of the gateway that takes the made-up input is valid.
use Rattle.std.proofs.Common.{◌≡◌, ℕ, ◌+◌, ◌<◌, List, [], ◌∷◌, ◌++◌, length, take, get_or, sym, ap, subst, ◌∙◌, arith}
use Rattle.std.specs.Prelude.{◌≢◌, false, All, codes, map, slice_index_or}
use Rattle.std.specs.List.{AllPairs}
use Rattle.std.proofs.lemmas.List.{map-append, map_more}
use Rattle.std.proofs.lemmas.List.Elements.{All-cons, All-nil}
use Rattle.claim_table.specs.Claims.{places}
use Rattle.claim_table.specs.declared.preset.Preset.{Preset}
use Rattle.n2k_id.specs.declared.name.Name.{Name}
use Rattle.readings.specs.declared.rows.Row.{Row}
use Rattle.readings.specs.Rows.{rows as all_rows}
use Rattle.history.specs.Settings.{RowRule, Settings, usual_sentences}
use Rattle.config_values.specs.declared.config.Config.{Config}
use Rattle.config_values.specs.Configs.{AreEnds, IsConfig}
use Rattle.config_values.specs.Presets.{AreApart, ArePresets}
use Rattle.config_values.specs.Rows.{IsRow}
use Rattle.config_values.specs.declared.row_config.RowConfig.{RowConfig}
use Rattle.config_values.specs.Settings.{rule_of_row, settings_ignoring, settings_of}
use Rattle.demo.specs.Setup.{demo_settings, row_said}

no_presets : (name : Name) (address : ℕ) (presets : List Preset) → presets ≡ [] → ArePresets name address presets
no_presets name address [] e = record {
  addresses = All-nil (λ p. p.address < places);
  apart = λ i j d before within. absurd (omega (arith, within));
  others = All-nil (AreApart (record { address = address; name = name }));
}
no_presets name address (p ∷ ps) e = absurd cc

one_source : AllPairs (λ s t. s ≢ t) (codes "II0002" ∷ [])
one_source i j d before within = absurd (omega (arith, before, within))

not_own : All (λ s. codes "II0001" ≢ s) (codes "II0002" ∷ [])
not_own = All-cons (λ s. codes "II0001" ≢ s) (codes "II0002") [] (λ same. other same) (All-nil (λ s. codes "II0001" ≢ s))
  where
    -- the last digits are others
    other : codes "II0001" ≡ codes "II0002" → ⊥
    other same = let e : 49 ≡ 50 = ap (λ (t : List ℕ). slice_index_or t 5 0) same in omega (arith, e)

pub is_config : (c : Config) → settings_of c ≡ demo_settings → All IsRow c.rows → AreEnds c.ends → IsConfig c
unfolding settings_ignoring demo_settings
is_config c same rows ends =
    let address : c.address ≡ 251 = ap (λ (s : Settings). s.address) same in
    let fast : c.fast_slots ≡ 256 = ap (λ (s : Settings). s.fast_slots) same in
    let iso : c.iso_slots ≡ 8 = ap (λ (s : Settings). s.iso_slots) same in
    let groups : c.group_slots ≡ 8 = ap (λ (s : Settings). s.group_slots) same in
    let sources : c.net_sources.items ≡ codes "II0002" ∷ [] = ap (λ (s : Settings). s.net_sources) same in
    let sfi : c.sfi ≡ codes "II0001" = ap (λ (s : Settings). s.sfi) same in
    record {
      address = omega (arith, address);
      fast_slots = (omega (arith, fast), omega (arith, fast));
      iso_slots = (omega (arith, iso), omega (arith, iso));
      group_slots = (omega (arith, groups), omega (arith, groups));
      presets = no_presets c.name c.address c.presets.items (ap (λ (s : Settings). s.presets) same);
      rows = rows;
      net_sources = subst (λ (xs : List (List ℕ)). AllPairs (λ s t. s ≢ t) xs) (sym sources) one_source;
      net_others = subst (λ (x : List ℕ). All (λ s. x ≢ s) c.net_sources.items) (sym sfi)
          (subst (λ (xs : List (List ℕ)). All (λ s. codes "II0001" ≢ s) xs) (sym sources) not_own);
      ends = ends;
    }

abbrev settings_with : List ℕ → List Preset → List RowRule → List (List ℕ) → Settings
settings_with sfi presets rows sources = record {
  name = 0xC0328200FFC00001;
  address = 251;
  sfi = sfi;
  fast_slots = 256;
  iso_slots = 8;
  group_slots = 8;
  ths = false;
  presets = presets;
  rows = rows;
  net_sources = sources;
  optional_sentences = usual_sentences;
}

-- the lists are those of the settings
pub same_settings : (sfi : List ℕ) (presets : List Preset) (rows : List RowRule) (sources : List (List ℕ)) → sfi ≡ codes "II0001" → presets ≡ []
    → rows ≡ map row_said all_rows → sources ≡ codes "II0002" ∷ [] → settings_with sfi presets rows sources ≡ demo_settings
unfolding demo_settings
same_settings sfi presets rows sources a b d e =
    ap (λ (x : List ℕ). settings_with x presets rows sources) a
    ∙ ap (λ (x : List Preset). settings_with (codes "II0001") x rows sources) b
    ∙ ap (λ (x : List RowRule). settings_with (codes "II0001") [] x sources) d
    ∙ ap (λ (x : List (List ℕ)). settings_with (codes "II0001") [] (map row_said all_rows) x) e

-- one more row is said by its talker
pub one_more_row :
    (configs : List RowConfig) (all : List Row) (i : ℕ) (d : Row) (config : RowConfig) → i < length all → map (rule_of_row []) configs ≡ map row_said (take i all)
    → rule_of_row [] config ≡ row_said (get_or all i d) → map (rule_of_row []) (configs ++ config ∷ []) ≡ map row_said (take (i + 1) all)
one_more_row configs all i d config within before is =
    map-append (rule_of_row []) configs (config ∷ [])
    ∙ ap (λ (rules : List RowRule). rules ++ rule_of_row [] config ∷ []) before
    ∙ ap (λ (rule : RowRule). map row_said (take i all) ++ rule ∷ []) is
    ∙ sym (map_more row_said all i d within)
