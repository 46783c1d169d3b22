-- What is promised of the frames of all keys together. A list of frames has each with its key, and the newest first; frames that
-- concern nobody here aren't in it.
use Rattle.std.specs.Prelude.{◌≡◌, ℕ, ◌≤◌, Bool, true, false, ◌&&◌, not, nat_lt, if◌then◌else◌, is_some, List, [], ◌∷◌, length, Option, Some, None, option_map}
use Rattle.std.specs.List.{AllByRecursion, filter}
use Rattle.std.specs.BTreeMap.{is_at}
use Rattle.std.specs.declared.cmp.Ordering.{Ordering}
use Rattle.slot_views.specs.Runs.{open_at, run_of}
use Rattle.slot_views.specs.Slots.{SlotMap, entry_at}
use Rattle.slot_views.specs.Traces.{unexpired, now_of, pieces_at, keys_in}
use Rattle.n2k_id.specs.declared.identifier_parts.Parts.{Parts}
use Rattle.iso_transport.specs.declared.key.IsoKey.{IsoKey}
use Rattle.iso_transport.specs.declared.answers.IsoFed.{IsoFed}
use Rattle.iso_transport.specs.declared.answers.IsoRefusal.{IsoRefusal}
use Rattle.iso_transport.specs.declared.answers.IsoOutcome.{IsoOutcome}
use Rattle.iso_transport.specs.declared.answers.IsoOutcome.TheVariants as became
use Rattle.iso_transport.specs.declared.verdict.Verdict.{Verdict}
use Rattle.iso_transport.specs.declared.verdict.Verdict.TheVariants.{Ignored, Again, Refused, Ends, Opens, Next}
use Rattle.iso_transport.specs.Audience.{key_of}
use Rattle.iso_transport.specs.IsoRuns.{IsoPiece, is_opener, iso_rules, pgn_of}
use Rattle.iso_transport.specs.Verdicts.{frame_verdict}
use Rattle.iso_transport.specs.Assembly.{is_crowded, fed_by, fed_after}
use Rattle.iso_transport.specs.Answers.{FeedGives}
use Rattle.iso_transport.specs.RunVerdicts.{Message, run_verdict, message_of, assembly_at}
use Rattle.iso_transport.specs.Replies.{reply_to}
use Rattle.iso_transport.specs.Laws.{IsOfTrace}

-- the frames of the key are open at the moment
abbrev pub is_open_at : IsoKey → List IsoPiece → ℕ → Bool
is_open_at k p m = is_some (open_at (iso_rules k.addressed) p m)

-- ---- the answer to a frame, by what it is to the frames of its key that are open just before it

-- the frame opens a session or extends one
abbrev pub is_taken : Verdict → Bool
is_taken Ignored = false
is_taken Again = false
is_taken (Refused reason reply) = false
is_taken (Ends reason reply) = false
is_taken (Opens session old) = true
is_taken (Next session number end) = true

-- why it is refused
abbrev pub refusal_of : Verdict → Option IsoRefusal
refusal_of Ignored = None
refusal_of Again = None
refusal_of (Refused reason reply) = Some reason
refusal_of (Ends reason reply) = Some reason
refusal_of (Opens session old) = None
refusal_of (Next session number end) = None

-- the message that an opener gives up
abbrev pub given_up : Bool → Option (List IsoPiece) → IsoPiece → Option ℕ
given_up addressed q x = if is_opener addressed x then option_map pgn_of q else None

-- what became of it, with the message that it completes
abbrev pub OutcomeIs : Verdict → Option Message → IsoOutcome → Type 0
OutcomeIs v done became.Ignored = (v ≡ Ignored) × (done ≡ None)
OutcomeIs v done became.Held = (is_taken v ≡ true) × (done ≡ None)
OutcomeIs v done (became.Complete pgn view) = (is_taken v ≡ true) × (done ≡ Some (record { pgn = pgn; bytes = view.bytes.now }))
OutcomeIs v done became.Repeat = (v ≡ Again) × (done ≡ None)
OutcomeIs v done (became.Refused reason) = (refusal_of v ≡ Some reason) × (done ≡ None)

pub record AnswerIs (addressed : Bool) (q : Option (List IsoPiece)) (x : IsoPiece) (done : Option Message) (fed : IsoFed) : Type 0 where
  pub restarted : fed.restarted ≡ given_up addressed q x
  pub reply : fed.reply ≡ reply_to addressed q x
  pub outcome : OutcomeIs (run_verdict addressed q x) done fed.outcome

-- ---- the frames of all keys

module _ (cmp : IsoKey → IsoKey → Ordering) where
  -- the keys that are open at the moment, and those of them that are others than this one
  abbrev pub open_keys : List (IsoKey × IsoPiece) → ℕ → List IsoKey
  open_keys h m = filter (λ k. is_open_at k (pieces_at cmp k h) m) (keys_in cmp h)

  abbrev pub other_open_keys : IsoKey → List (IsoKey × IsoPiece) → ℕ → List IsoKey
  other_open_keys k h m = filter (λ j. not (is_at (cmp k) j) && is_open_at j (pieces_at cmp j h) m) (keys_in cmp h)

  -- each frame came no earlier than those before it, and is noted as admitted exactly where fewer of the other keys than the limit
  -- were open then
  unfoldable pub IsNoted : ℕ → List (IsoKey × IsoPiece) → Type 0
  IsNoted limit [] = Unit {0}
  IsNoted limit (n ∷ h) =
      (now_of (λ x. x.moment) h ≤ n.1.moment)
      × (n.1.admitted ≡ nat_lt (length (other_open_keys n.0 h n.1.moment)) limit)
      × IsNoted limit h

  -- the sessions after a frame of the key
  abbrev pub fed_one : SlotMap IsoKey → IsoKey → IsoPiece → SlotMap IsoKey
  fed_one s k x = fed_by cmp s k x.bytes x.moment (frame_verdict k.addressed (is_crowded s) (entry_at cmp s k) x.packet x.bytes)

  -- and after all frames, where all that is overdue ends before each
  unfoldable pub sessions_after : ℕ → List (IsoKey × IsoPiece) → SlotMap IsoKey
  sessions_after limit [] = record { limit = limit; entries = [] }
  sessions_after limit (n ∷ h) = fed_one (unexpired n.1.moment (sessions_after limit h)) n.0 n.1

  module _ (limit : ℕ) where
    -- frames that may come to an assembler with this limit
    pub record AreFed (h : List (IsoKey × IsoPiece)) : Type 0 where
      pub some : 1 ≤ limit
      pub valid : AllByRecursion (λ n. IsOfTrace n.0.addressed n.1) h
      pub noted : IsNoted limit h

    -- what is left of the sessions at a later moment
    abbrev pub sessions : List (IsoKey × IsoPiece) → ℕ → SlotMap IsoKey
    sessions h m = unexpired m (sessions_after limit h)

    pub record AllFollow (h : List (IsoKey × IsoPiece)) : Type 0 where
      -- the session of each key is that of the frames that are open among its own, and there are as many as keys that are open
      pub entries : (k : IsoKey) (m : ℕ) → now_of (λ x. x.moment) h ≤ m
          → entry_at cmp (sessions h m) k ≡ assembly_at k.addressed (open_at (iso_rules k.addressed) (pieces_at cmp k h) m)
      pub count : (m : ℕ) → now_of (λ x. x.moment) h ≤ m → length (sessions h m).entries ≡ length (open_keys h m)

    -- one more frame, with these parts
    pub record AllAnswered (own : Option ℕ) (parts : Parts) (x : IsoPiece) (h : List (IsoKey × IsoPiece)) : Type 0 where
      -- the call makes of the sessions what is said above
      pub after : fed_after cmp (sessions h x.moment) own parts x.bytes x.moment ≡ sessions_after limit ((key_of parts, x) ∷ h)
      -- its answer is what the frames of the key say
      pub answer : (fed : IsoFed) → FeedGives cmp (sessions h x.moment) own parts x.bytes x.moment fed
          → let addressed = (key_of parts).addressed in let p = pieces_at cmp (key_of parts) h in
          AnswerIs addressed (open_at (iso_rules addressed) p x.moment) x (message_of (run_of (iso_rules addressed) (x ∷ p))) fed
