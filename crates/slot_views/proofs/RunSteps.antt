-- The laws of runs.
use Rattle.std.proofs.Common.{◌≡◌, ℕ, ◌≤◌, Bool, true, false, List, ◌∷◌, Option, Some, None, refl, ◌∙◌, ap, arith}
use Rattle.std.proofs.lemmas.Bool.{leb-true, le-leb}
use Rattle.slot_views.specs.Runs.{Rules, is_whole, is_admitted, in_time, accepted_more, accepted_after, accepted, since_opener, if_open, if_whole, kept_at, open_of, open_at, run_of}
use Rattle.slot_views.specs.RunLaws.{fed_later, fed, finished_later, finished, IsLawful, OneStep}

module _ {X : Type 0} (r : Rules X) where
  -- one more piece keeps the opener; with none there is nothing
  kept_opener : (x : X) (acc : List X) → in_time r acc (r.moment x) ≡ true → is_admitted r (x ∷ acc) ≡ is_admitted r acc
  kept_opener x acc timely = grind arith

  module _ (law : IsLawful r) (acc : List X) (x : X) where
    -- what one more piece, which is no opener, does to the accepted ones
    open_by : (t a w n p : Bool) → in_time r acc (r.moment x) ≡ t → is_admitted r acc ≡ a → is_whole r acc ≡ w → r.is_next acc x ≡ n → r.is_repeat acc x ≡ p
        → if_open r (accepted_more r acc x) ≡ fed_later r (kept_at r (if_open r (Some acc)) (r.moment x)) x
    open_by false false w n p et ea ew en ep = simp (et, ea)
    open_by false true true n p et ea ew en ep = simp (et, ea, ew)
    open_by false true false n p et ea ew en ep = simp (et, ea, ew)
    open_by true a true true p et ea ew en ep = let no = (law.whole_ends acc x ew).0 in cc
    open_by true a true false true et ea ew en ep = let no = (law.whole_ends acc x ew).1 in cc
    open_by true false true false false et ea ew en ep = simp (et, en, ep, ea, ew)
    open_by true true true false false et ea ew en ep = simp (et, en, ep, ea, ew)
    open_by true false false true p et ea ew en ep = let more = kept_opener x acc et ∙ ea in simp (et, en, ea, more)
    open_by true false false false true et ea ew en ep = simp (et, en, ep, ea)
    open_by true false false false false et ea ew en ep = simp (et, en, ep, ea)
    open_by true true false true p et ea ew en ep = simp (et, en, ea, ew)
    open_by true true false false true et ea ew en ep = simp (et, en, ep, ea, ew)
    open_by true true false false false et ea ew en ep = simp (et, en, ep, ea, ew)

    whole_by : (t a w n p : Bool) → in_time r acc (r.moment x) ≡ t → is_admitted r acc ≡ a → is_whole r acc ≡ w → r.is_next acc x ≡ n → r.is_repeat acc x ≡ p
        → if_whole r (accepted_more r acc x) ≡ finished_later r (kept_at r (if_open r (Some acc)) (r.moment x)) x
    whole_by t a w n p et ea ew en ep = grind (arith, kept_opener)

  module _ (law : IsLawful r) where
    open_more : (acc : Option (List X)) (x : X) → if_open r (accepted_after r acc x) ≡ fed_later r (kept_at r (if_open r acc) (r.moment x)) x
    open_more None x = refl
    open_more (Some acc) x = open_by law acc x _ _ _ _ _ refl refl refl refl refl

    whole_more : (acc : Option (List X)) (x : X) → if_whole r (accepted_after r acc x) ≡ finished_later r (kept_at r (if_open r acc) (r.moment x)) x
    whole_more acc x = grind (arith, whole_by)

    -- the pieces back to the newest opener, with one more
    since_more : (x : X) (h : List X) → r.opens x ≡ false → accepted r (since_opener r (x ∷ h)) ≡ accepted_after r (accepted r (since_opener r h)) x
    since_more x h later = grind arith

    open_step : (h : List X) (x : X) (b : Bool) → r.opens x ≡ b → open_of r (x ∷ h) ≡ fed r (open_at r h (r.moment x)) x
    open_step h x true here = simp here
    open_step h x false here = let more = ap (if_open r) (since_more x h here) ∙ open_more (accepted r (since_opener r h)) x in rw here (rw here at more)

    whole_step : (h : List X) (x : X) (b : Bool) → r.opens x ≡ b → run_of r (x ∷ h) ≡ finished r (open_at r h (r.moment x)) x
    whole_step h x b here = grind (arith, since_more, whole_more)

  -- what is in time later is so before
  in_time_before : (acc : List X) (m n : ℕ) → m ≤ n → in_time r acc n ≡ true → in_time r acc m ≡ true
  in_time_before acc m n le timely = grind (arith, leb-true, le-leb)

  kept_by : (acc : List X) (m n : ℕ) → m ≤ n → (b c : Bool) → in_time r acc n ≡ b → in_time r acc m ≡ c → kept_at r (Some acc) n ≡ kept_at r (kept_at r (Some acc) m) n
  kept_by acc m n le b c later before = grind (arith, in_time_before)

  kept_twice : (o : Option (List X)) (m n : ℕ) → m ≤ n → kept_at r o n ≡ kept_at r (kept_at r o m) n
  kept_twice o m n le = grind (arith, kept_by)

  pub one_step_of : IsLawful r → OneStep r
  one_step_of law = record {
    prefix = λ h x. open_step law h x (r.opens x) refl;
    whole = λ h x. whole_step law h x (r.opens x) refl;
    later = λ h m n le. kept_twice (open_of r h) m n le;
  }
