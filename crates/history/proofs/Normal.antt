-- Where every opener found room, a run hangs on the pieces but for whether there was room.
use Rattle.std.proofs.Common.{◌≡◌, ℕ, Bool, true, false, not, List, [], ◌∷◌, map, refl, sym, ap, subst, ◌∙◌, arith}
use Rattle.std.specs.Prelude.{Option, Some, None, if◌then◌else◌, option_map}
use Rattle.std.specs.List.{AllByRecursion}
use Rattle.std.proofs.lemmas.List.{length-map}
use Rattle.slot_views.specs.Runs.{Rules, opener_of, is_whole, is_admitted, in_time, if_open, if_whole, kept_at, open_of, open_at, run_of}
use Rattle.slot_views.specs.RunLaws.{fed, fed_later, finished, OneStep}

-- a change of pieces that the rules don't see, and after which all found room
pub record IsUnseen {X : Type 0} (r : Rules X) (norm : X → X) : Type 0 where
  pub moment : (x : X) → r.moment (norm x) ≡ r.moment x
  pub admits : (x : X) → r.admitted (norm x) ≡ true
  pub opens : (x : X) → r.opens (norm x) ≡ r.opens x
  pub need : (x : X) → r.need (norm x) ≡ r.need x
  pub is_next : (acc : List X) (x : X) → r.is_next (map norm acc) (norm x) ≡ r.is_next acc x
  pub is_repeat : (acc : List X) (x : X) → r.is_repeat (map norm acc) (norm x) ≡ r.is_repeat acc x
  pub gap : (acc : List X) → r.gap (map norm acc) ≡ r.gap acc

pub opener_map : {X : Type 0} (f : X → X) (x : X) (xs : List X) → opener_of (f x) (map f xs) ≡ f (opener_of x xs)
opener_map f x [] = refl
opener_map f x (y ∷ ys) = opener_map f y ys

module _ {X : Type 0} (r : Rules X) (norm : X → X) (u : IsUnseen r norm) where
  whole_map : (acc : List X) → is_whole r (map norm acc) ≡ is_whole r acc
  whole_map acc = grind (arith, opener_map, length-map)

  admitted_map : (x : X) (xs : List X) → is_admitted r (map norm (x ∷ xs)) ≡ true
  admitted_map x xs = rw (opener_map norm x xs) (u.admits (opener_of x xs))

  time_map : (acc : List X) (m : ℕ) → in_time r (map norm acc) m ≡ in_time r acc m
  time_map acc m = grind arith

  -- pieces of which the first found room
  open_map : (x : X) (xs : List X) → is_admitted r (x ∷ xs) ≡ true → if_open r (Some (map norm (x ∷ xs))) ≡ option_map (map norm) (if_open r (Some (x ∷ xs)))
  open_map x xs room = rw (admitted_map x xs, whole_map (x ∷ xs), room) (by (is_whole r (x ∷ xs)))
    where
      by : (b : Bool) → (if not b then Some (map norm (x ∷ xs)) else None) ≡ option_map (map norm) (if not b then Some (x ∷ xs) else None)
      by b = grind arith

  done_map : (x : X) (xs : List X) → is_admitted r (x ∷ xs) ≡ true → if_whole r (Some (map norm (x ∷ xs))) ≡ option_map (map norm) (if_whole r (Some (x ∷ xs)))
  done_map x xs room = rw (admitted_map x xs, whole_map (x ∷ xs), room) (by (is_whole r (x ∷ xs)))
    where
      by : (b : Bool) → (if b then Some (map norm (x ∷ xs)) else None) ≡ option_map (map norm) (if b then Some (x ∷ xs) else None)
      by b = grind arith

  -- what is open found room
  abbrev FoundRoom : Option (List X) → Type 0
  FoundRoom None = Unit {0}
  FoundRoom (Some acc) = is_admitted r acc ≡ true

  kept_map : (o : Option (List X)) (m : ℕ) → kept_at r (option_map (map norm) o) m ≡ option_map (map norm) (kept_at r o m)
  kept_map o m = grind (arith, time_map)

  kept_room : (o : Option (List X)) (m : ℕ) → FoundRoom o → FoundRoom (kept_at r o m)
  kept_room o m room = grind arith

  -- one more piece; where it opens, it found room
  HasRoom : X → Type 0
  HasRoom x = r.opens x ≡ true → r.admitted x ≡ true

  fed_map : (o : Option (List X)) (x : X) → FoundRoom o → HasRoom x → fed r (option_map (map norm) o) (norm x) ≡ option_map (map norm) (fed r o x)
  unfolding HasRoom
  fed_map o x room opening = by (r.opens x) refl o room
    where
      next : (acc : List X) → is_admitted r acc ≡ true → (a b : Bool) → (if a then if_open r (Some (norm x ∷ map norm acc)) else if b then Some (map norm acc) else None) ≡ option_map (map norm) (if a then if_open r (Some (x ∷ acc)) else if b then Some acc else None)
      next [] none a b = cc
      next (y ∷ ys) found true b = open_map x (y ∷ ys) found
      next (y ∷ ys) found false true = refl
      next (y ∷ ys) found false false = refl

      later : (p : Option (List X)) → FoundRoom p → fed_later r (option_map (map norm) p) (norm x) ≡ option_map (map norm) (fed_later r p x)
      later p found = grind (arith, next)

      by : (b : Bool) → r.opens x ≡ b → (p : Option (List X)) → FoundRoom p → fed r (option_map (map norm) p) (norm x) ≡ option_map (map norm) (fed r p x)
      by b e p found = grind (arith, later)

  fed_room : (o : Option (List X)) (x : X) → FoundRoom o → FoundRoom (fed r o x)
  fed_room o x room = grind arith

  finished_map : (o : Option (List X)) (x : X) → FoundRoom o → HasRoom x → finished r (option_map (map norm) o) (norm x) ≡ option_map (map norm) (finished r o x)
  unfolding HasRoom
  finished_map o x room opening = grind (arith, done_map)

  module _ (steps : OneStep r) where
    open_room : (t : List X) → FoundRoom (open_of r t)
    open_room [] = tt
    open_room (x ∷ t) = subst FoundRoom (sym (steps.prefix t x)) (fed_room (open_at r t (r.moment x)) x (kept_room (open_of r t) (r.moment x) (open_room t)))

    at_map : (t : List X) (x : X) → open_of r (map norm t) ≡ option_map (map norm) (open_of r t)
        → open_at r (map norm t) (r.moment (norm x)) ≡ option_map (map norm) (open_at r t (r.moment x))
    at_map t x e = rw (u.moment x) (ap (λ (o : Option (List X)). kept_at r o (r.moment x)) e ∙ kept_map (open_of r t) (r.moment x))

    pub open_of_map : (t : List X) → AllByRecursion (λ x. r.opens x ≡ true → r.admitted x ≡ true) t → open_of r (map norm t) ≡ option_map (map norm) (open_of r t)
    unfolding HasRoom
    open_of_map [] all = refl
    open_of_map (x ∷ t) all =
        steps.prefix (map norm t) (norm x)
        ∙ ap (λ (o : Option (List X)). fed r o (norm x)) (at_map t x (open_of_map t all.1))
        ∙ fed_map (open_at r t (r.moment x)) x (kept_room (open_of r t) (r.moment x) (open_room t)) all.0
        ∙ ap (option_map (map norm)) (sym (steps.prefix t x))

    pub run_of_map : (t : List X) → AllByRecursion (λ x. r.opens x ≡ true → r.admitted x ≡ true) t → run_of r (map norm t) ≡ option_map (map norm) (run_of r t)
    unfolding HasRoom
    run_of_map [] all = refl
    run_of_map (x ∷ t) all =
        steps.whole (map norm t) (norm x)
        ∙ ap (λ (o : Option (List X)). finished r o (norm x)) (at_map t x (open_of_map t all.1))
        ∙ finished_map (open_at r t (r.moment x)) x (kept_room (open_of r t) (r.moment x) (open_room t)) all.0
        ∙ ap (option_map (map norm)) (sym (steps.whole t x))

    pub open_at_map : (t : List X) (m : ℕ) → AllByRecursion (λ x. r.opens x ≡ true → r.admitted x ≡ true) t → open_at r (map norm t) m ≡ option_map (map norm) (open_at r t m)
    open_at_map t m all = ap (λ (o : Option (List X)). kept_at r o m) (open_of_map t all) ∙ kept_map (open_of r t) m
