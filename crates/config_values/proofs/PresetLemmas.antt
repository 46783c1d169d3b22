-- Presets that are apart, in the tests of the table of claims.
use Rattle.std.proofs.Common.{◌≡◌, ◌≢◌, ℕ, suc, ◌==◌, ◌||◌, false, List, [], ◌∷◌, get_or, All, refl, sym, ap, arith, ne_eqb}
use Rattle.std.specs.List.{AllPairs, list_any}
use Rattle.std.proofs.lemmas.List.Folds.{list_any_none}
use Rattle.n2k_id.specs.declared.name.Name.{Name}
use Rattle.claim_table.specs.declared.preset.Preset.{Preset}
use Rattle.claim_table.specs.Claims.{repeats, shares, takes}
use Rattle.config_values.specs.Laws.{TablesOpen}
use Rattle.config_values.specs.Presets.{AreApart}

-- NAMEs that differ have other numbers
numbers : (n m : Name) → n ≢ m → n.0 ≢ m.0
numbers n m other same = other (ap (λ (x : ℕ). let name : Name = record { 0 = x } in name) same)

-- what is apart shares nothing
shares_nothing : (p q : Preset) → AreApart p q → shares p q ≡ false
shares_nothing p q apart = rw (ne_eqb p.address q.address apart.address, ne_eqb p.name.0 q.name.0 (numbers p.name q.name apart.name))

first_apart : (p : Preset) (ps : List Preset) → AllPairs AreApart (p ∷ ps) → list_any (shares p) ps ≡ false
first_apart p ps all = list_any_none (shares p) ps (λ k d within. shares_nothing p (get_or ps k d) (all 0 (suc k) d (omega arith) (omega arith)))

no_repeats : (ps : List Preset) → AllPairs AreApart ps → repeats ps ≡ false
no_repeats [] all = refl
no_repeats (p ∷ ps) all = rw (first_apart p ps all, no_repeats ps (λ i j d before within. all (suc i) (suc j) d (omega arith) (omega arith)))

-- nobody has the gateway's own address or NAME
takes_nothing : (name : Name) (address : ℕ) (ps : List Preset) → All (AreApart (record { address = address; name = name })) ps → takes name.0 address ps ≡ false
takes_nothing name address ps all =
    list_any_none (λ p. p.address == address || p.name.0 == name.0) ps (λ k d within. taken (get_or ps k d) (all k d within))
  where
    taken : (p : Preset) → AreApart (record { address = address; name = name }) p → (p.address == address || p.name.0 == name.0) ≡ false
    taken p apart = rw (
      ne_eqb p.address address (λ e. apart.address (sym e)),
      ne_eqb p.name.0 name.0 (λ e. numbers name p.name apart.name (sym e)),
    )

pub opens_table : TablesOpen
opens_table c valid = record {
  address = valid.address;
  presets = valid.presets.addresses;
  apart = no_repeats c.presets.items valid.presets.apart;
  others = takes_nothing c.name c.address c.presets.items valid.presets.others;
}
