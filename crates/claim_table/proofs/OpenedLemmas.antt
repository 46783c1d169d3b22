use Rattle.std.proofs.Common.{◌≡◌, ◌≢◌, ◌⊎◌, inl, inr, ℕ, zero, suc, ◌<◌, ◌==◌, ◌||◌, Bool, false, Option, None, Some, List, [], ◌∷◌, replicate, set, All, refl, sym, ◌∙◌, arith}
use Rattle.std.proofs.lemmas.Bool.{or_parts}
use Rattle.std.specs.List.{list_any}
use Rattle.std.proofs.lemmas.List.{get_or-set_other, length-replicate}
use Rattle.claim_table.specs.declared.answer.Holder.{Holder}
use Rattle.claim_table.specs.declared.preset.Preset.{Preset}
use Rattle.std.proofs.lemmas.List.Elements.{All-set, All-replicate}
use Rattle.claim_table.specs.Claims.{Claims, Claim, IsSinceBy, holder_at, claims_at_start, with_presets, preset_holder, repeats, shares, takes}
use Rattle.claim_table.specs.Laws.{IsSound}
use Rattle.claim_table.proofs.CaseLemmas.{not_eqb}
use Rattle.claim_table.proofs.SoundLemmas.{taken_holder, taken_sound}

-- the NAME stands in none of the presets
abbrev lacks : ℕ → List Preset → Bool
lacks n ps = list_any (λ p. n == p.name.0) ps

unshared : (p : Preset) (ps : List Preset) → list_any (shares p) ps ≡ false → lacks p.name.0 ps ≡ false
unshared p [] e = refl
unshared p (q ∷ ps) e =
    let first = or_parts (shares p q) (list_any (shares p) ps) e in
    let names = or_parts (p.address == q.address) (p.name.0 == q.name.0) first.0 in
    rw (names.1) (unshared p ps first.1)

-- no holder has a NAME of the presets
Fresh : List (Option Holder) → List Preset → Type 0
Fresh holders ps = (a : ℕ) (h : Holder) → holder_at holders a ≡ Some h → lacks h.name.0 ps ≡ false

abbrev claim_of_preset : Preset → Claim
claim_of_preset p = record { address = p.address; name = p.name.0; index = 0; moment = 0 }

abbrev with_preset : List (Option Holder) → Preset → List (Option Holder)
with_preset holders p = set holders p.address (Some (preset_holder p))

-- a preset that shares nothing with the gateway or a holder keeps a table sound
with_preset_sound : (c : Claims) (p : Preset) (own : ℕ) → IsSound c → c.own ≡ Some own → ((a : ℕ) (h : Holder) → holder_at c.holders a ≡ Some h → h.name.0 ≢ p.name.0) → p.address ≢ own → p.name.0 ≢ c.name → IsSound (record c { holders = with_preset c.holders p })
with_preset_sound c p own sound at fresh address name =
    taken_sound c (claim_of_preset p) c.own c.counted_from sound (λ b h e n. absurd (fresh b h e n)) name free sound.own_within
  where
    free : (b : ℕ) → c.own ≡ Some b → holder_at (with_preset c.holders p) b ≡ None
    free b e =
        let same : own ≡ b = cc in
        let other : b ≢ p.address = λ f. address (sym f ∙ sym same) in
        get_or-set_other c.holders p.address b (Some (preset_holder p)) None other ∙ sound.own_free b e

fresh_first : (holders : List (Option Holder)) (p : Preset) (ps : List Preset) → Fresh holders (p ∷ ps) → (a : ℕ) (h : Holder) → holder_at holders a ≡ Some h → h.name.0 ≢ p.name.0
unfolding Fresh
fresh_first holders p ps fresh a h e =
    not_eqb h.name.0 p.name.0 (or_parts (h.name.0 == p.name.0) (lacks h.name.0 ps) (fresh a h e)).0

fresh_rest : (holders : List (Option Holder)) (p : Preset) (ps : List Preset) → Fresh holders (p ∷ ps) → list_any (shares p) ps ≡ false → Fresh (with_preset holders p) ps
unfolding Fresh
fresh_rest holders p ps fresh apart a h e = by (taken_holder holders p.address (preset_holder p) a h e)
  where
    by : ((a ≡ p.address) × (h ≡ preset_holder p)) ⊎ ((a ≢ p.address) × (holder_at holders a ≡ Some h)) → lacks h.name.0 ps ≡ false
    by (inl new) = rw new.1 (unshared p ps apart)
    by (inr old) = (or_parts (h.name.0 == p.name.0) (lacks h.name.0 ps) (fresh a h old.1)).1

placed_sound : (c : Claims) (ps : List Preset) (own : ℕ) → IsSound c → c.own ≡ Some own → Fresh c.holders ps → repeats ps ≡ false → takes c.name own ps ≡ false → IsSound (record c { holders = with_presets c.holders ps })
placed_sound c [] own sound at fresh r t = sound
placed_sound c (p ∷ ps) own sound at fresh r t =
    let apart = or_parts (list_any (shares p) ps) (repeats ps) r in
    let own_apart = or_parts (p.address == own || p.name.0 == c.name) (takes c.name own ps) t in
    let tests = or_parts (p.address == own) (p.name.0 == c.name) own_apart.0 in
    placed_sound (record c { holders = with_preset c.holders p }) ps own (with_preset_sound c p own sound at (fresh_first c.holders p ps fresh) (not_eqb p.address own tests.0) (not_eqb p.name.0 c.name tests.1)) at (fresh_rest c.holders p ps fresh apart.0) apart.1 own_apart.1

nobody_at : (n a : ℕ) → holder_at (replicate n None) a ≡ None
nobody_at zero a = refl
nobody_at (suc n) zero = refl
nobody_at (suc n) (suc a) = nobody_at n a

empty_sound : (name own n : ℕ) → n ≡ 254 → own < 252 → IsSound (record { name = name; holders = replicate n None; own = Some own; counted_from = 0 })
empty_sound name own n e within = grind (arith, length-replicate, nobody_at)

nobody_fresh : (n : ℕ) (ps : List Preset) → Fresh (replicate n None) ps
unfolding Fresh
nobody_fresh n ps a h e = let both : None ≡ Some h = sym (nobody_at n a) ∙ e in cc

-- what is known before the first event is sound, where `new` doesn't refuse it
pub opened_sound : (name own : ℕ) (ps : List Preset) → own < 252 → repeats ps ≡ false → takes name own ps ≡ false → IsSound (claims_at_start name own ps)
unfolding claims_at_start
opened_sound name own ps within r t =
    placed_sound (record { name = name; holders = replicate 254 None; own = Some own; counted_from = 0 }) ps own (empty_sound name own 254 refl within) refl (nobody_fresh 254 ps) r t

placed_dated : (holders : List (Option Holder)) (ps : List Preset) → All (IsSinceBy 0) holders → All (IsSinceBy 0) (with_presets holders ps)
placed_dated holders [] all = all
placed_dated holders (p ∷ ps) all =
    placed_dated (with_preset holders p) ps (All-set (IsSinceBy 0) holders p.address (Some (preset_holder p)) (omega arith) all)

-- every preset's device holds its address since index 0
pub opened_dated : (name own : ℕ) (ps : List Preset) → All (IsSinceBy 0) (claims_at_start name own ps).holders
unfolding claims_at_start
opened_dated name own ps = placed_dated (replicate 254 None) ps (All-replicate (IsSinceBy 0) 254 None tt)
