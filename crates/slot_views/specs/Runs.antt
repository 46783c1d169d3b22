-- What a run of pieces is: an opener and the pieces that follow it in their order, each in time, with pieces that came twice
-- passed over. Every list of pieces has the newest first.
use Rattle.std.specs.Prelude.{◌≡◌, ℕ, ◌+◌, Bool, true, false, ◌&&◌, not, ◌==◌, nat_le, if◌then◌else◌, List, [], ◌∷◌, ◌++◌, length, Option, Some, None}

-- how the pieces of one kind make runs; the lists are those accepted so far, which aren't repeats
pub record Rules (X : Type 0) : Type 0 where
  -- when the piece came, and whether there was room for a run that it opens
  pub moment : X → ℕ
  pub admitted : X → Bool
  -- the piece is an opener, and so many pieces, itself included, make the run that it opens
  pub opens : X → Bool
  pub need : X → ℕ
  -- the piece is the next one after these
  pub is_next : List X → X → Bool
  -- the piece is the last one of these again
  pub is_repeat : List X → X → Bool
  -- how long a piece may take after the last one of these
  pub gap : List X → ℕ

-- the oldest of some pieces
abbrev pub opener_of : {X : Type 0} → X → List X → X
opener_of x [] = x
opener_of x (y ∷ ys) = opener_of y ys

module _ {X : Type 0} (r : Rules X) where
  -- all pieces of the run are there
  abbrev pub is_whole : List X → Bool
  is_whole [] = false
  is_whole (x ∷ xs) = length (x ∷ xs) == r.need (opener_of x xs)

  -- there was room for the run when it opened
  abbrev pub is_admitted : List X → Bool
  is_admitted [] = false
  is_admitted (x ∷ xs) = r.admitted (opener_of x xs)

  -- the moment is within the gap after the last one of these
  abbrev pub in_time : List X → ℕ → Bool
  in_time [] m = false
  in_time (x ∷ xs) m = nat_le m (r.moment x + r.gap (x ∷ xs))

  -- the pieces accepted after one more, which is no opener
  abbrev pub accepted_more : List X → X → Option (List X)
  accepted_more acc x = if in_time acc (r.moment x) then (if r.is_next acc x then Some (x ∷ acc) else if r.is_repeat acc x then Some acc else None) else None

  abbrev pub accepted_after : Option (List X) → X → Option (List X)
  accepted_after None x = None
  accepted_after (Some acc) x = accepted_more acc x

  -- the pieces of a prefix that aren't repeats; a list that is no prefix has none
  abbrev pub accepted : List X → Option (List X)
  accepted [] = None
  accepted (x ∷ []) = if r.opens x then Some (x ∷ []) else None
  accepted (x ∷ y ∷ ys) = accepted_after (accepted (y ∷ ys)) x

  -- a prefix of h at its end, with these pieces accepted, whose opener was admitted, and that isn't whole; the moment is in time
  pub record IsOpen (h : List X) (m : ℕ) (p acc : List X) : Type 0 where
    pub older : List X
    pub suffix : h ≡ p ++ older
    pub prefix : accepted p ≡ Some acc
    pub admitted : is_admitted acc ≡ true
    pub awaits : is_whole acc ≡ false
    pub timely : in_time acc m ≡ true

  -- a whole prefix of h at its end, whose opener was admitted
  pub record IsRun (h : List X) (p acc : List X) : Type 0 where
    pub older : List X
    pub suffix : h ≡ p ++ older
    pub prefix : accepted p ≡ Some acc
    pub admitted : is_admitted acc ≡ true
    pub whole : is_whole acc ≡ true

  -- how the two are found: from the newest piece back to the newest opener
  abbrev pub since_opener : List X → List X
  since_opener [] = []
  since_opener (x ∷ xs) = if r.opens x then x ∷ [] else x ∷ since_opener xs

  -- what is open of these, and what is whole
  abbrev pub if_open : Option (List X) → Option (List X)
  if_open None = None
  if_open (Some acc) = if is_admitted acc && not (is_whole acc) then Some acc else None

  abbrev pub if_whole : Option (List X) → Option (List X)
  if_whole None = None
  if_whole (Some acc) = if is_admitted acc && is_whole acc then Some acc else None

  -- what is open still at the moment
  abbrev pub kept_at : Option (List X) → ℕ → Option (List X)
  kept_at None m = None
  kept_at (Some acc) m = if in_time acc m then Some acc else None

  -- the pieces accepted of the open prefix, whatever time has passed since; at the moment; and those of a run that ends with h
  abbrev pub open_of : List X → Option (List X)
  open_of h = if_open (accepted (since_opener h))

  abbrev pub open_at : List X → ℕ → Option (List X)
  open_at h m = kept_at (open_of h) m

  abbrev pub run_of : List X → Option (List X)
  run_of h = if_whole (accepted (since_opener h))
