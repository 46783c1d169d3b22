-- What one more piece does to what is open, and what is promised of every kind of run.
use Rattle.std.specs.Prelude.{◌≡◌, ℕ, ◌≤◌, true, false, if◌then◌else◌, List, [], ◌∷◌, Option, Some, None}
use Rattle.slot_views.specs.Runs.{Rules, IsOpen, IsRun, is_whole, since_opener, if_open, if_whole, open_of, open_at, run_of, kept_at}

module _ {X : Type 0} (r : Rules X) where
  -- what one more piece leaves open, and what it makes whole
  abbrev pub fed_later : Option (List X) → X → Option (List X)
  fed_later None x = None
  fed_later (Some acc) x = if r.is_next acc x then if_open r (Some (x ∷ acc)) else if r.is_repeat acc x then Some acc else None

  abbrev pub fed : Option (List X) → X → Option (List X)
  fed o x = if r.opens x then if_open r (Some (x ∷ [])) else fed_later o x

  abbrev pub finished_later : Option (List X) → X → Option (List X)
  finished_later None x = None
  finished_later (Some acc) x = if r.is_next acc x then if_whole r (Some (x ∷ acc)) else None

  abbrev pub finished : Option (List X) → X → Option (List X)
  finished o x = if r.opens x then if_whole r (Some (x ∷ [])) else finished_later o x

  -- an opener is neither next nor a repeat, and nothing follows what is whole
  pub record IsLawful : Type 0 where
    pub opener_is_new : (acc : List X) (x : X) → r.opens x ≡ true → (r.is_next acc x ≡ false) × (r.is_repeat acc x ≡ false)
    pub whole_ends : (acc : List X) (x : X) → is_whole r acc ≡ true → (r.is_next acc x ≡ false) × (r.is_repeat acc x ≡ false)

  -- one more piece, or a later moment, does to the open prefix what `fed` and `kept_at` say
  pub record OneStep : Type 0 where
    pub prefix : (h : List X) (x : X) → open_of r (x ∷ h) ≡ fed (open_at r h (r.moment x)) x
    pub whole : (h : List X) (x : X) → run_of r (x ∷ h) ≡ finished (open_at r h (r.moment x)) x
    pub later : (h : List X) (m n : ℕ) → m ≤ n → open_at r h n ≡ kept_at r (open_at r h m) n

  -- there is at most one open suffix, and at most one that is a run, and they are what is found
  pub record OneSuffix : Type 0 where
    pub of_open : (h p acc : List X) (m : ℕ) → IsOpen r h m p acc → (p ≡ since_opener r h) × (open_at r h m ≡ Some acc)
    pub is_open : (h acc : List X) (m : ℕ) → open_at r h m ≡ Some acc → IsOpen r h m (since_opener r h) acc
    pub of_run : (h p acc : List X) → IsRun r h p acc → (p ≡ since_opener r h) × (run_of r h ≡ Some acc)
    pub is_run : (h acc : List X) → run_of r h ≡ Some acc → IsRun r h (since_opener r h) acc
