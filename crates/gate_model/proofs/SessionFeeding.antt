-- What a frame leaves open is in time at the moment of the frame.
use Rattle.std.proofs.Common.{◌≡◌, ℕ, ◌+◌, Bool, true, false, ◌&&◌, not, List, [], ◌∷◌, refl, arith}
use Rattle.std.specs.Prelude.{Option, Some, None, if◌then◌else◌}
use Rattle.std.proofs.lemmas.Bool.{le-leb}
use Rattle.slot_views.specs.Runs.{in_time, is_admitted, is_whole, if_open, kept_at, open_of, open_at}
use Rattle.slot_views.specs.RunLaws.{fed, fed_later}
use Rattle.iso_transport.specs.IsoRuns.{IsoPiece, iso_rules}

module _ (a : Bool) where
  newest_timely : (x : IsoPiece) (acc : List IsoPiece) → in_time (iso_rules a) (x ∷ acc) x.moment ≡ true
  newest_timely x acc = le-leb x.moment (x.moment + (iso_rules a).gap (x ∷ acc)) (omega arith)

  opened_kept : (x : IsoPiece) (acc : List IsoPiece) (b : Bool)
      → kept_at (iso_rules a) (if b then Some (x ∷ acc) else None) x.moment ≡ (if b then Some (x ∷ acc) else None)
  opened_kept x acc true = rw (newest_timely x acc) refl
  opened_kept x acc false = refl

  fed_kept : (q : Option (List IsoPiece)) (x : IsoPiece) → kept_at (iso_rules a) q x.moment ≡ q → kept_at (iso_rules a) (fed (iso_rules a) q x) x.moment ≡ fed (iso_rules a) q x
  fed_kept q x kept = by_opens ((iso_rules a).opens x)
    where
      later : (o : Option (List IsoPiece)) → kept_at (iso_rules a) o x.moment ≡ o → kept_at (iso_rules a) (fed_later (iso_rules a) o x) x.moment ≡ fed_later (iso_rules a) o x
      later None same = refl
      later (Some acc) same = by ((iso_rules a).is_next acc x) ((iso_rules a).is_repeat acc x)
        where
          by : (n b : Bool) → kept_at (iso_rules a) (if n then if_open (iso_rules a) (Some (x ∷ acc)) else if b then Some acc else None) x.moment
              ≡ (if n then if_open (iso_rules a) (Some (x ∷ acc)) else if b then Some acc else None)
          by true b = opened_kept x acc (is_admitted (iso_rules a) (x ∷ acc) && not (is_whole (iso_rules a) (x ∷ acc)))
          by false true = same
          by false false = refl

      by_opens : (b : Bool) → kept_at (iso_rules a) (if b then if_open (iso_rules a) (Some (x ∷ [])) else fed_later (iso_rules a) q x) x.moment
          ≡ (if b then if_open (iso_rules a) (Some (x ∷ [])) else fed_later (iso_rules a) q x)
      by_opens true = opened_kept x [] (is_admitted (iso_rules a) (x ∷ []) && not (is_whole (iso_rules a) (x ∷ [])))
      by_opens false = later q kept

  kept_twice : (q : Option (List IsoPiece)) (m : ℕ) → kept_at (iso_rules a) (kept_at (iso_rules a) q m) m ≡ kept_at (iso_rules a) q m
  kept_twice None m = refl
  kept_twice (Some acc) m = by (in_time (iso_rules a) acc m) refl
    where
      by : (b : Bool) → in_time (iso_rules a) acc m ≡ b → kept_at (iso_rules a) (if b then Some acc else None) m ≡ (if b then Some acc else None)
      by true e = rw e refl
      by false e = refl

  pub fed_now : (t : List IsoPiece) (x : IsoPiece)
      → kept_at (iso_rules a) (fed (iso_rules a) (open_at (iso_rules a) t x.moment) x) x.moment ≡ fed (iso_rules a) (open_at (iso_rules a) t x.moment) x
  fed_now t x = fed_kept (open_at (iso_rules a) t x.moment) x (kept_twice (open_of (iso_rules a) t) x.moment)
