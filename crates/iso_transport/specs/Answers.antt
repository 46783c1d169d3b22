-- What the answers say of the sessions before the frame.
use Rattle.std.specs.Prelude.{◌≡◌, ℕ, Bool, true, false, List, Option, None, IsSomeAnd}
use Rattle.std.specs.declared.cmp.Ordering.{Ordering}
use Rattle.slot_views.specs.Slots.{Entry, SlotMap, entry_at, is_complete}
use Rattle.slot_views.specs.Answers.{Shows}
use Rattle.n2k_id.specs.declared.identifier_parts.Parts.{Parts}
use Rattle.iso_transport.specs.declared.key.IsoKey.{IsoKey}
use Rattle.iso_transport.specs.declared.reply.Reply.{Reply}
use Rattle.iso_transport.specs.declared.session.Session.{Session}
use Rattle.iso_transport.specs.declared.verdict.Verdict.{Verdict}
use Rattle.iso_transport.specs.declared.verdict.Verdict.TheVariants as what
use Rattle.iso_transport.specs.declared.answers.IsoFed.{IsoFed}
use Rattle.iso_transport.specs.declared.answers.IsoEnded.{IsoEnded}
use Rattle.iso_transport.specs.declared.answers.IsoOutcome.{IsoOutcome}
use Rattle.iso_transport.specs.declared.answers.IsoOutcome.TheVariants.{Ignored, Held, Complete, Repeat, Refused}
use Rattle.iso_transport.specs.Sessions.{reply_after}
use Rattle.iso_transport.specs.Audience.{key_of}
use Rattle.iso_transport.specs.Verdicts.{pgn_in}
use Rattle.iso_transport.specs.Assembly.{extended, verdict_of}

-- the message that is given up for another one of its sender
abbrev pub restarted_by : Verdict → Option ℕ
restarted_by what.Ignored = None
restarted_by what.Again = None
restarted_by (what.Refused reason reply) = None
restarted_by (what.Ends reason reply) = None
restarted_by (what.Opens session old) = old
restarted_by (what.Next session number end) = None

-- what the sender is told; an opener counts as packet 0
abbrev pub reply_by : Bool → Verdict → Option Reply
reply_by addressed what.Ignored = None
reply_by addressed what.Again = None
reply_by addressed (what.Refused reason reply) = reply
reply_by addressed (what.Ends reason reply) = reply
reply_by addressed (what.Opens session old) = reply_after addressed session 0
reply_by addressed (what.Next session number end) = reply_after addressed session number

-- the session that was taken out
abbrev pub ended_of : IsoKey × Entry → IsoEnded
ended_of e = record { addressed = e.0.addressed; source = e.0.source; pgn = pgn_in e.1 }

-- the answer to the next packet, with the message and the session with the packet
abbrev pub NextGives : Option Entry → Session → (Entry → Entry) → IsoOutcome → Type 0
NextGives o session more Ignored = ⊥
NextGives o session more Held = IsSomeAnd o (λ e. is_complete (more e) ≡ false)
NextGives o session more (Complete pgn view) = (pgn ≡ session.pgn) × IsSomeAnd o (λ e. (is_complete (more e) ≡ true) × Shows view (more e))
NextGives o session more Repeat = ⊥
NextGives o session more (Refused reason) = ⊥

module _ (addressed : Bool) (o : Option Entry) (bytes : List ℕ) (moment : ℕ) where
  -- the answer to a frame, by what it is
  abbrev pub OutcomeBy : Verdict → IsoOutcome → Type 0
  OutcomeBy what.Ignored outcome = outcome ≡ Ignored
  OutcomeBy what.Again outcome = outcome ≡ Repeat
  OutcomeBy (what.Refused reason reply) outcome = outcome ≡ Refused reason
  OutcomeBy (what.Ends reason reply) outcome = outcome ≡ Refused reason
  OutcomeBy (what.Opens session old) outcome = outcome ≡ Held
  OutcomeBy (what.Next session number end) outcome = NextGives o session (extended addressed session number end bytes moment) outcome

module _ (cmp : IsoKey → IsoKey → Ordering) (s : SlotMap IsoKey) (own : Option ℕ) (parts : Parts) (bytes : List ℕ) (moment : ℕ) where
  abbrev pub OutcomeIs : IsoOutcome → Type 0
  OutcomeIs outcome = OutcomeBy (key_of parts).addressed (entry_at cmp s (key_of parts)) bytes moment (verdict_of cmp s own parts bytes) outcome

  pub record FeedGives (fed : IsoFed) : Type 0 where
    pub restarted : fed.restarted ≡ restarted_by (verdict_of cmp s own parts bytes)
    pub reply : fed.reply ≡ reply_by (key_of parts).addressed (verdict_of cmp s own parts bytes)
    pub outcome : OutcomeIs fed.outcome
