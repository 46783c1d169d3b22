-- What the answers say of the assemblies before the frame.
use Rattle.std.specs.Prelude.{◌≡◌, ℕ, Bool, true, false, List, IsSomeAnd}
use Rattle.std.specs.declared.cmp.Ordering.{Ordering}
use Rattle.slot_views.specs.Slots.{Entry, SlotMap, entry_at, is_held, is_full, is_complete}
use Rattle.slot_views.specs.Answers.{Shows}
use Rattle.fast_packet.specs.declared.key.FastKey.{FastKey}
use Rattle.fast_packet.specs.declared.verdict.Verdict.{Verdict}
use Rattle.fast_packet.specs.declared.verdict.Verdict.TheVariants.{Short, Opens, Orphan, Again, OutOfOrder, Next}
use Rattle.fast_packet.specs.declared.answers.FastFed.{FastFed}
use Rattle.fast_packet.specs.declared.answers.FastOutcome.{FastOutcome}
use Rattle.fast_packet.specs.declared.answers.FastOutcome.TheVariants.{Held, Complete, Repeat, Refused}
use Rattle.fast_packet.specs.declared.answers.FastRefusal.TheVariants as refusal
use Rattle.fast_packet.specs.Assembly.{verdict, opening, extended}

-- a message is given up for another one of its key, where that is open
abbrev pub restarted_by : Bool → Verdict → Bool
restarted_by held Short = false
restarted_by held Opens = held
restarted_by held Orphan = false
restarted_by held Again = false
restarted_by held OutOfOrder = false
restarted_by held (Next end) = false

-- what the call answers of an assembly that was taken out
abbrev pub ended_of : FastKey × Entry → FastKey
ended_of e = e.0

module _ (cmp : FastKey → FastKey → Ordering) (s : SlotMap FastKey) (k : FastKey) where
  -- the answer to an opener, with the assembly that it opens
  abbrev pub OpensGives : Entry → FastOutcome → Type 0
  OpensGives e Held = (is_full cmp s k ≡ false) × (is_complete e ≡ false)
  OpensGives e (Complete view) = (is_full cmp s k ≡ false) × (is_complete e ≡ true) × Shows view e
  OpensGives e Repeat = ⊥
  OpensGives e (Refused reason) = (is_full cmp s k ≡ true) × (reason ≡ refusal.Full)

  -- the answer to the next frame, with what the assembly is with it
  abbrev pub NextGives : (Entry → Entry) → FastOutcome → Type 0
  NextGives more Held = IsSomeAnd (entry_at cmp s k) (λ e. is_complete (more e) ≡ false)
  NextGives more (Complete view) = IsSomeAnd (entry_at cmp s k) (λ e. (is_complete (more e) ≡ true) × Shows view (more e))
  NextGives more Repeat = ⊥
  NextGives more (Refused reason) = ⊥

  module _ (bytes : List ℕ) (moment : ℕ) where
    -- what became of a frame, by what it is
    abbrev pub OutcomeBy : Verdict → FastOutcome → Type 0
    OutcomeBy Short outcome = outcome ≡ Refused refusal.Length
    OutcomeBy Opens outcome = OpensGives (opening bytes moment) outcome
    OutcomeBy Orphan outcome = outcome ≡ Refused refusal.Orphan
    OutcomeBy Again outcome = outcome ≡ Repeat
    OutcomeBy OutOfOrder outcome = outcome ≡ Refused refusal.Order
    OutcomeBy (Next end) outcome = NextGives (λ e. extended end bytes moment e) outcome

    -- the answer to a frame, by what it is
    abbrev pub FeedGivesBy : Verdict → FastFed → Type 0
    FeedGivesBy v fed = (fed.restarted ≡ restarted_by (is_held cmp s k) v) × OutcomeBy v fed.outcome

    abbrev pub FeedGives : FastFed → Type 0
    FeedGives fed = FeedGivesBy (verdict (entry_at cmp s k) bytes) fed
