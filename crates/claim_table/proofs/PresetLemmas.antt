use Rattle.std.proofs.Common.{◌≡◌, ℕ, ◌+◌, ◌<◌, ◌≤◌, true, false, Option, Some, List, ◌∷◌, length, get_or, set, drop, sym, ap, ◌∙◌, add-one}
use Rattle.std.specs.List.{list_any}
use Rattle.std.proofs.Math.Seq.{drop-cons}
use Rattle.std.proofs.lemmas.List.{drop_all}
use Rattle.claim_table.specs.declared.answer.Holder.{Holder}
use Rattle.claim_table.specs.declared.preset.Preset.{Preset}
use Rattle.claim_table.specs.Claims.{with_presets, preset_holder, repeats, shares}

-- the presets from one place on, one by one
next_from : (ps : List Preset) (i : ℕ) (d : Preset) → i < length ps → drop i ps ≡ get_or ps i d ∷ drop (i + 1) ps
next_from ps i d h = drop-cons ps i d h ∙ ap (λ n. get_or ps i d ∷ drop n ps) (sym (add-one i))

pub repeats_shared : (ps : List Preset) (i : ℕ) (d : Preset) → i < length ps → list_any (shares (get_or ps i d)) (drop (i + 1) ps) ≡ true → repeats (drop i ps) ≡ true
repeats_shared ps i d h e = rw (next_from ps i d h, e)

pub repeats_further : (ps : List Preset) (i : ℕ) (d : Preset) → i < length ps → list_any (shares (get_or ps i d)) (drop (i + 1) ps) ≡ false → repeats (drop i ps) ≡ repeats (drop (i + 1) ps)
repeats_further ps i d h e = rw (next_from ps i d h, e)

pub repeats_end : (ps : List Preset) (i : ℕ) → length ps ≤ i → repeats (drop i ps) ≡ false
repeats_end ps i h = rw (drop_all i ps h)

pub placed_further : (holders : List (Option Holder)) (ps : List Preset) (i : ℕ) (d : Preset) → i < length ps → with_presets holders (drop i ps) ≡ with_presets (set holders (get_or ps i d).address (Some (preset_holder (get_or ps i d)))) (drop (i + 1) ps)
placed_further holders ps i d h = rw (next_from ps i d h)

pub placed_end : (holders : List (Option Holder)) (ps : List Preset) (i : ℕ) → length ps ≤ i → with_presets holders (drop i ps) ≡ holders
placed_end holders ps i h = rw (drop_all i ps h)
