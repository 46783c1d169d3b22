-- Lists of what is told: of the keys that pass a test, and one behind another.
use Rattle.std.proofs.Common.{◌≡◌, Bool, true, false, List, [], ◌∷◌, ◌++◌, refl, ap, ap₂, ◌∙◌}
use Rattle.std.specs.Prelude.{filter, flat_map, if◌then◌else◌}
use Rattle.std.specs.List.{AllByRecursion}

-- the same of both tests, where both pass the same keys of the list and tell the same of each
pub gathered : {K A : Type 0} (u v : K → List A) (P Q : K → Bool) (keys : List K) → AllByRecursion (λ key. (P key ≡ Q key) × (u key ≡ v key)) keys
    → flat_map u (filter P keys) ≡ flat_map v (filter Q keys)
gathered u v P Q [] all = refl
gathered u v P Q (key ∷ keys) all = rw all.0.0 (by (Q key) (gathered u v P Q keys all.1))
  where
    by : (b : Bool) → flat_map u (filter P keys) ≡ flat_map v (filter Q keys)
        → flat_map u (if b then key ∷ filter P keys else filter P keys) ≡ flat_map v (if b then key ∷ filter Q keys else filter Q keys)
    by true rest = ap (λ x. x ++ flat_map u (filter P keys)) all.0.1 ∙ ap (λ x. v key ++ x) rest
    by false rest = rest

pub of_each : {K : Type 0} (R : K → Type 0) (keys : List K) → ((key : K) → R key) → AllByRecursion R keys
of_each R [] each = tt
of_each R (key ∷ keys) each = (each key, of_each R keys each)

pub weaker : {K : Type 0} (R S : K → Type 0) (keys : List K) → ((key : K) → R key → S key) → AllByRecursion R keys → AllByRecursion S keys
weaker R S [] to all = tt
weaker R S (key ∷ keys) to all = (to key all.0, weaker R S keys to all.1)

-- of no key a test passes, where something is told of each that passes and nothing is
pub none_passes : {K A : Type 0} (first : K → A) (rest : K → List A) (P : K → Bool) (keys : List K)
    → flat_map (λ key. first key ∷ rest key) (filter P keys) ≡ [] → AllByRecursion (λ key. P key ≡ false) keys
none_passes first rest P [] none = tt
none_passes first rest P (key ∷ keys) none = by (P key) refl none (λ told. none_passes first rest P keys told)
  where
    by : (b : Bool) → P key ≡ b → flat_map (λ x. first x ∷ rest x) (if b then key ∷ filter P keys else filter P keys) ≡ []
        → (flat_map (λ x. first x ∷ rest x) (filter P keys) ≡ [] → AllByRecursion (λ x. P x ≡ false) keys) → AllByRecursion (λ x. P x ≡ false) (key ∷ keys)
    by true is told more = absurd (cc)
    by false is told more = (is, more told)

pub joined : {A : Type 0} {a b c d : List A} → a ≡ b → c ≡ d → a ++ c ≡ b ++ d
joined p q = ap₂ (λ x y. x ++ y) p q

-- as `ap₂`, of three places
pub ap₃ : {A B C D : Type 0} (F : A → B → C → D) {a a' : A} {b b' : B} {c c' : C} → a ≡ a' → b ≡ b' → c ≡ c' → F a b c ≡ F a' b' c'
ap₃ F p q r = ap₂ (λ f x. f x) (ap₂ F p q) r

pub none_left : {A : Type 0} (a b : List A) → a ++ b ≡ [] → a ≡ []
none_left [] b none = refl
none_left (x ∷ a) b none = absurd (cc)

pub none_right : {A : Type 0} (a b : List A) → a ++ b ≡ [] → b ≡ []
none_right [] b none = none
none_right (x ∷ a) b none = absurd (cc)
