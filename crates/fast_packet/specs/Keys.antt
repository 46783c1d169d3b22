-- What is promised of the frames of all keys together. A list of frames has each with its key, and the newest first.
use Rattle.std.specs.Prelude.{◌≡◌, ℕ, ◌≤◌, Bool, true, false, ◌&&◌, ◌||◌, if◌then◌else◌, is_some, IsSomeAnd, List, [], ◌∷◌, length, Option, Some, None}
use Rattle.std.specs.List.{AllByRecursion}
use Rattle.std.specs.declared.cmp.Ordering.{Ordering}
use Rattle.slot_views.specs.Runs.{opener_of, open_at, run_of}
use Rattle.slot_views.specs.Slots.{SlotMap, entry_at}
use Rattle.slot_views.specs.Traces.{unexpired, now_of, pieces_at, open_keys, IsNoted, map_after}
use Rattle.fast_packet.specs.declared.key.FastKey.{FastKey}
use Rattle.fast_packet.specs.declared.answers.FastFed.{FastFed}
use Rattle.fast_packet.specs.declared.answers.FastOutcome.{FastOutcome}
use Rattle.fast_packet.specs.declared.answers.FastOutcome.TheVariants.{Held, Complete, Repeat, Refused}
use Rattle.fast_packet.specs.declared.answers.FastRefusal.{FastRefusal}
use Rattle.fast_packet.specs.declared.answers.FastRefusal.TheVariants.{Order, Orphan, Length, Full}
use Rattle.fast_packet.specs.FastRuns.{length_of, is_opener, is_no_later, FastPiece, is_awaited, is_next, is_repeat, fast_rules, payload}
use Rattle.fast_packet.specs.Assembly.{fed_after}
use Rattle.fast_packet.specs.Answers.{FeedGives}
use Rattle.fast_packet.specs.RunAssemblies.{assembly_at, filling}

-- why a frame is refused, by the frames of its key that are open just before it: an opener for want of room alone; another frame
-- 0, or none, for its length; a later frame where nothing is open; and one that is neither a repeat nor the next, for its length
-- where it is the awaited one with too few bytes, else for its order
abbrev pub refused_later : Option (List FastPiece) → FastPiece → Option FastRefusal
refused_later None x = Some Orphan
refused_later (Some acc) x = if is_repeat acc x || is_next acc x then None else if is_awaited acc x then Some Length else Some Order

abbrev pub refused : Option (List FastPiece) → FastPiece → Option FastRefusal
refused o x = if is_opener x.bytes then (if x.admitted then None else Some Full) else if is_no_later x.bytes then Some Length else refused_later o x

-- the frame is a repeat
abbrev pub is_again : Option (List FastPiece) → FastPiece → Bool
is_again None x = false
is_again (Some acc) x = is_repeat acc x

-- the bytes are the payload of the run, as many as its opener says
abbrev pub Carries : List ℕ → List FastPiece → Type 0
Carries bytes [] = ⊥
Carries bytes (y ∷ ys) = (bytes ≡ payload (y ∷ ys)) × (length bytes ≡ length_of (opener_of y ys).bytes)

-- the answer to a frame, by the frames of its key that are open just before it, and the run that it completes
module _ (o : Option (List FastPiece)) (x : FastPiece) (done : Option (List FastPiece)) where
  abbrev pub OutcomeIs : FastOutcome → Type 0
  OutcomeIs Held = (refused o x ≡ None) × (is_again o x ≡ false) × (done ≡ None)
  OutcomeIs (Complete view) = (refused o x ≡ None) × IsSomeAnd done (Carries view.bytes.now)
  OutcomeIs Repeat = (refused o x ≡ None) × (is_again o x ≡ true) × (done ≡ None)
  OutcomeIs (Refused reason) = (refused o x ≡ Some reason) × (done ≡ None)

  abbrev pub AnswerIs : FastFed → Type 0
  AnswerIs fed = (fed.restarted ≡ (is_opener x.bytes && is_some o)) × OutcomeIs fed.outcome

-- the frames of a key are open at the moment
abbrev pub is_open_at : List FastPiece → ℕ → Bool
is_open_at p m = is_some (open_at fast_rules p m)

module _ (cmp : FastKey → FastKey → Ordering) (limit : ℕ) where
  -- frames that may come to an assembler with this limit: valid ones, none earlier than those before it, each noted as admitted
  -- exactly where fewer of the other keys than the limit are open at its moment
  pub record AreFed (h : List (FastKey × FastPiece)) : Type 0 where
    pub some : 1 ≤ limit
    pub valid : AllByRecursion (λ n. length n.1.bytes ≤ 8) h
    pub noted : IsNoted cmp (λ x. x.moment) (λ x. x.admitted) is_open_at limit h

  -- the assemblies after the frames, where all that is overdue ends before each; and what is left of them at a later moment
  abbrev pub fed_one : SlotMap FastKey → FastKey → FastPiece → SlotMap FastKey
  fed_one s k x = fed_after cmp s k x.bytes x.moment

  abbrev pub assemblies : List (FastKey × FastPiece) → ℕ → SlotMap FastKey
  assemblies h m = unexpired m (map_after cmp filling fed_one limit h)

  pub record FollowsRuns (h : List (FastKey × FastPiece)) : Type 0 where
    -- the assembly of each key is that of the frames that are open among its own, and there are as many as keys that are open
    pub entries : (k : FastKey) (m : ℕ) → now_of (λ x. x.moment) h ≤ m
        → entry_at cmp (assemblies h m) k ≡ assembly_at (open_at fast_rules (pieces_at cmp k h) m)
    pub count : (m : ℕ) → now_of (λ x. x.moment) h ≤ m → length (assemblies h m).entries ≡ length (open_keys cmp (λ p. is_open_at p m) h)

  -- the answer to one more frame is what the frames of its key say
  abbrev pub AnswersRuns : FastKey → FastPiece → List (FastKey × FastPiece) → FastFed → Type 0
  AnswersRuns k x h fed =
      FeedGives cmp (assemblies h x.moment) k x.bytes x.moment fed
      → AnswerIs (open_at fast_rules (pieces_at cmp k h) x.moment) x (run_of fast_rules (x ∷ pieces_at cmp k h)) fed
