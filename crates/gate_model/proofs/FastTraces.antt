-- What holds of the frames of a fast packet that count: they have at most 8 bytes, and what is fed at a moment is in time at it.
use Rattle.std.proofs.Common.{◌≡◌, ℕ, ◌+◌, ◌≤◌, Bool, true, false, ◌&&◌, not, List, [], ◌∷◌, length, map, refl, ◌==◌, arith}
use Rattle.std.specs.Prelude.{Option, Some, None, filter, if◌then◌else◌}
use Rattle.std.specs.List.{AllByRecursion}
use Rattle.std.proofs.lemmas.Bool.{le-leb}
use Rattle.slot_views.specs.Runs.{in_time, is_admitted, is_whole, if_open, kept_at, open_of, open_at}
use Rattle.slot_views.specs.RunLaws.{fed, fed_later}
use Rattle.fast_packet.specs.FastRuns.{gap, is_opener, FastPiece, is_next, is_repeat, fast_rules}
use Rattle.history.specs.Entries.{History, IsHistory, frame, datagram, tick, command}
use Rattle.history.specs.Settings.{Receiver}
use Rattle.history.specs.Traces.{NotedFrame, is_since, fast_piece, fast_trace_since}
use Rattle.history.specs.Opens.{notes_of}

-- ---- every frame of a history has at most 8 bytes

pub notes_short : (r : Receiver) (s : ℕ) (h : History) → IsHistory h → AllByRecursion (λ n. length n.bytes ≤ 8) (notes_of r s h)
notes_short r s [] is = tt
notes_short r s (frame m f ∷ h) is = (is.0.1, notes_short r s h is.2)
notes_short r s (datagram m bytes ∷ h) is = notes_short r s h is.2
notes_short r s (tick m ∷ h) is = notes_short r s h is.2
notes_short r s (command m source address ∷ h) is = notes_short r s h is.2

pub trace_short : (since : Option ℕ) (a p : ℕ) (notes : List NotedFrame) → AllByRecursion (λ n. length n.bytes ≤ 8) notes
    → AllByRecursion (λ x. length x.bytes ≤ 8) (fast_trace_since since a p notes)
trace_short None a p notes short = tt
trace_short (Some since) a p [] short = tt
trace_short (Some since) a p (n ∷ notes) short = by (is_since a since n && (n.parts.pgn == p)) (trace_short (Some since) a p notes short.1)
  where
    by : (b : Bool) → AllByRecursion (λ x. length x.bytes ≤ 8) (fast_trace_since (Some since) a p notes)
        → AllByRecursion (λ x. length x.bytes ≤ 8) (map fast_piece (if b then n ∷ filter (λ n. is_since a since n && (n.parts.pgn == p)) notes else filter (λ n. is_since a since n && (n.parts.pgn == p)) notes))
    by true rest = (short.0, rest)
    by false rest = rest

-- ---- what is fed at a moment is in time at that moment

opened_kept : (x : FastPiece) (acc : List FastPiece) (b : Bool)
    → kept_at fast_rules (if b then Some (x ∷ acc) else None) x.moment ≡ (if b then Some (x ∷ acc) else None)
opened_kept x acc true = rw (le-leb x.moment (x.moment + gap) (omega arith)) refl
opened_kept x acc false = refl

later_kept : (q : Option (List FastPiece)) (x : FastPiece) → kept_at fast_rules q x.moment ≡ q
    → kept_at fast_rules (fed_later fast_rules q x) x.moment ≡ fed_later fast_rules q x
later_kept None x same = refl
later_kept (Some acc) x same = by (is_next acc x) (is_repeat acc x)
  where
    by : (n b : Bool) → kept_at fast_rules (if n then if_open fast_rules (Some (x ∷ acc)) else if b then Some acc else None) x.moment
        ≡ (if n then if_open fast_rules (Some (x ∷ acc)) else if b then Some acc else None)
    by true b = opened_kept x acc (is_admitted fast_rules (x ∷ acc) && not (is_whole fast_rules (x ∷ acc)))
    by false true = same
    by false false = refl

fed_kept : (q : Option (List FastPiece)) (x : FastPiece) → kept_at fast_rules q x.moment ≡ q
    → kept_at fast_rules (fed fast_rules q x) x.moment ≡ fed fast_rules q x
fed_kept q x kept = by (is_opener x.bytes)
  where
    by : (b : Bool) → kept_at fast_rules (if b then if_open fast_rules (Some (x ∷ [])) else fed_later fast_rules q x) x.moment
        ≡ (if b then if_open fast_rules (Some (x ∷ [])) else fed_later fast_rules q x)
    by true = opened_kept x [] (is_admitted fast_rules (x ∷ []) && not (is_whole fast_rules (x ∷ [])))
    by false = later_kept q x kept

kept_twice : (q : Option (List FastPiece)) (m : ℕ) → kept_at fast_rules (kept_at fast_rules q m) m ≡ kept_at fast_rules q m
kept_twice None m = refl
kept_twice (Some acc) m = by (in_time fast_rules acc m) refl
  where
    by : (b : Bool) → in_time fast_rules acc m ≡ b → kept_at fast_rules (if b then Some acc else None) m ≡ (if b then Some acc else None)
    by true e = rw e refl
    by false e = refl

pub fed_now : (t : List FastPiece) (x : FastPiece)
    → kept_at fast_rules (fed fast_rules (open_at fast_rules t x.moment) x) x.moment ≡ fed fast_rules (open_at fast_rules t x.moment) x
fed_now t x = fed_kept (open_at fast_rules t x.moment) x (kept_twice (open_of fast_rules t) x.moment)
