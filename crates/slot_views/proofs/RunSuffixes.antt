-- There is one open prefix at most, and one run.
use Rattle.std.proofs.Common.{◌≡◌, ℕ, Bool, true, false, if◌then◌else◌, List, [], ◌∷◌, ◌++◌, Option, Some, None, refl, sym, ◌∙◌, ap, subst, arith}
use Rattle.slot_views.specs.Runs.{Rules, is_whole, is_admitted, in_time, accepted_more, accepted_after, accepted, IsOpen, IsRun, since_opener, if_open, if_whole, kept_at, open_at, run_of}
use Rattle.slot_views.specs.RunLaws.{IsLawful, OneSuffix}

module _ {X : Type 0} (r : Rules X) where
  -- the pieces before the newest opener
  older_of : List X → List X
  older_of [] = []
  older_of (x ∷ xs) = if r.opens x then xs else older_of xs

  parts_by : (x : X) (xs : List X) (b : Bool) → r.opens x ≡ b → xs ≡ since_opener r xs ++ older_of xs → x ∷ xs ≡ since_opener r (x ∷ xs) ++ older_of (x ∷ xs)
  unfolding older_of
  parts_by x xs b here rest = grind arith

  parts : (h : List X) → h ≡ since_opener r h ++ older_of h
  unfolding older_of
  parts [] = refl
  parts (x ∷ xs) = parts_by x xs (r.opens x) refl (parts xs)

  -- what is open was accepted, and so on
  kept_from : (acc a : List X) (m : ℕ) (t : Bool) → in_time r a m ≡ t → kept_at r (Some a) m ≡ Some acc → (a ≡ acc) × (in_time r a m ≡ true)
  kept_from acc a m t timely kept = grind arith

  open_from : (acc a : List X) (m : ℕ) (d w : Bool) → is_admitted r a ≡ d → is_whole r a ≡ w → kept_at r (if_open r (Some a)) m ≡ Some acc
      → (a ≡ acc) × (is_admitted r a ≡ true) × (is_whole r a ≡ false) × (in_time r a m ≡ true)
  open_from acc a m true false ed ew kept = let last = kept_from acc a m _ refl (simp (ed, ew) at kept) in (last.0, ed, ew, last.1)
  open_from acc a m true true ed ew kept = let none : None ≡ Some acc = simp (ed, ew) at kept in cc
  open_from acc a m false w ed ew kept = let none : None ≡ Some acc = simp ed at kept in cc

  whole_from : (acc a : List X) (d w : Bool) → is_admitted r a ≡ d → is_whole r a ≡ w → if_whole r (Some a) ≡ Some acc → (a ≡ acc) × (is_admitted r a ≡ true) × (is_whole r a ≡ true)
  whole_from acc a d w ed ew whole = grind arith

  open_given : (h acc : List X) (m : ℕ) (o : Option (List X)) → accepted r (since_opener r h) ≡ o → kept_at r (if_open r o) m ≡ Some acc → IsOpen r h m (since_opener r h) acc
  open_given h acc m None is kept = cc
  open_given h acc m (Some a) is kept =
      let facts = open_from acc a m _ _ refl refl kept in
      let same : a ≡ acc = facts.0 in
      record { older = older_of h; suffix = parts h; prefix = is ∙ ap Some same; admitted = rw same at facts.1; awaits = rw same at facts.2; timely = rw same at facts.3 }

  run_given : (h acc : List X) (o : Option (List X)) → accepted r (since_opener r h) ≡ o → if_whole r o ≡ Some acc → IsRun r h (since_opener r h) acc
  run_given h acc None is whole = cc
  run_given h acc (Some a) is whole =
      let facts = whole_from acc a _ _ refl refl whole in
      let same : a ≡ acc = facts.0 in
      record { older = older_of h; suffix = parts h; prefix = is ∙ ap Some same; admitted = rw same at facts.1; whole = rw same at facts.2 }

  module _ (law : IsLawful r) where
    -- an opener follows nothing
    never_more : (a : List X) (x : X) (t : Bool) → in_time r a (r.moment x) ≡ t → r.opens x ≡ true → accepted_more r a x ≡ None
    never_more a x t et opens = grind arith

    -- a prefix begins at its only opener
    begins_by : (x : X) (p older acc : List X) (o : Option (List X)) (b : Bool) → r.opens x ≡ b → accepted_after r o x ≡ Some acc → since_opener r (p ++ older) ≡ p → since_opener r (x ∷ (p ++ older)) ≡ x ∷ p
    begins_by x p older acc o b here prefix rest = grind (arith, never_more)

    first_by : (x : X) (older acc : List X) (b : Bool) → r.opens x ≡ b → accepted r (x ∷ []) ≡ Some acc → since_opener r (x ∷ older) ≡ x ∷ []
    first_by x older acc b here prefix = grind arith

    -- what a prefix of a prefix has accepted
    shorter : (x y : X) (ys acc : List X) (o : Option (List X)) → accepted r (y ∷ ys) ≡ o → accepted_after r o x ≡ Some acc → (a : List X) × (accepted r (y ∷ ys) ≡ Some a)
    shorter x y ys acc o is prefix = grind arith

    begins : (p older acc : List X) → accepted r p ≡ Some acc → since_opener r (p ++ older) ≡ p
    begins [] older acc prefix = cc
    begins (x ∷ []) older acc prefix = first_by x older acc (r.opens x) refl prefix
    begins (x ∷ y ∷ ys) older acc prefix =
        let (a, is) = shorter x y ys acc _ refl prefix in
        begins_by x (y ∷ ys) older acc (accepted r (y ∷ ys)) (r.opens x) refl prefix (begins (y ∷ ys) older a is)

    open_found : (h p acc : List X) (m : ℕ) → IsOpen r h m p acc → (p ≡ since_opener r h) × (open_at r h m ≡ Some acc)
    open_found h p acc m o =
        let same : p ≡ since_opener r h = sym (begins p o.older acc o.prefix) ∙ ap (since_opener r) (sym o.suffix) in
        let is : accepted r (since_opener r h) ≡ Some acc = subst (λ l. accepted r l ≡ Some acc) same o.prefix in
        (same, simp (is, o.admitted, o.awaits, o.timely))

    run_found : (h p acc : List X) → IsRun r h p acc → (p ≡ since_opener r h) × (run_of r h ≡ Some acc)
    run_found h p acc o = grind (arith, begins)

  pub one_suffix_of : IsLawful r → OneSuffix r
  one_suffix_of law = record {
    of_open = open_found law;
    is_open = λ h acc m kept. open_given h acc m _ refl kept;
    of_run = run_found law;
    is_run = λ h acc whole. run_given h acc _ refl whole;
  }
