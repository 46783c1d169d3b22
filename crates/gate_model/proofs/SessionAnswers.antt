-- The plain answer to a frame: that of each assembler, and the reports that follow from it.
use Rattle.std.proofs.Common.{◌≡◌, ℕ, Bool, true, false, ◌&&◌, ◌||◌, not, List, [], ◌∷◌, ◌++◌, length, refl, sym, ap, subst, ◌∙◌, ◌==◌, nat_le, nat_lt}
use Rattle.std.specs.Prelude.{Option, Some, None, option_map, slice_index, if◌then◌else◌}
use Rattle.std.proofs.lemmas.Bool.{ltb-false, le-leb}
use Rattle.report_rules.specs.Rules as rules
use Rattle.gate_events.specs.declared.emit.Report.{Report}
use Rattle.gate_events.specs.declared.emit.Detail.TheVariants as detail
use Rattle.claim_table.specs.declared.answer.Holder.{Holder}
use Rattle.slot_views.specs.Slots.{Entry, entry_at}
use Rattle.iso_transport.specs.declared.session.Session.{Session}
use Rattle.iso_transport.specs.declared.connection.Cm.{Cm}
use Rattle.iso_transport.specs.declared.connection.Cm.TheVariants.{Rts, Cts, EndAck, Bam, Abort}
use Rattle.iso_transport.specs.declared.verdict.Verdict.{Verdict}
use Rattle.iso_transport.specs.declared.verdict.Verdict.TheVariants as what
use Rattle.iso_transport.specs.declared.answers.IsoRefusal.{IsoRefusal}
use Rattle.iso_transport.specs.declared.answers.IsoRefusal.TheVariants as refusal
use Rattle.iso_transport.specs.declared.answers.IsoOutcome.{IsoOutcome}
use Rattle.iso_transport.specs.declared.answers.IsoOutcome.TheVariants.{Ignored, Held, Complete, Repeat, Refused}
use Rattle.iso_transport.specs.Connection.{control_at, size_at, packets_at, limit_at, pgn_at, cm_by, cm_of}
use Rattle.iso_transport.specs.IsoRuns.{opens, IsoPiece}
use Rattle.iso_transport.specs.Audience.{key_of}
use Rattle.iso_transport.specs.Verdicts.{bears, management_verdict, kind_verdict, frame_verdict, pgn_in}
use Rattle.iso_transport.specs.Assembly.{extended, verdict_of}
use Rattle.iso_transport.specs.Answers.{OutcomeBy, NextGives, restarted_by}
use Rattle.iso_transport.specs.Keys.{refusal_of}
use Rattle.iso_transport.specs.RunVerdicts.{Message, run_verdict, message_of}
use Rattle.iso_transport.specs.Replies.{is_request, reply_to}
use Rattle.iso_transport.specs.Joining.{piece_of}
use Rattle.history.specs.Traces.{NotedFrame, iso_piece}
use Rattle.history.specs.Messages.{Message as Said, Carried, said_by, iso_carried}
use Rattle.history.specs.Meanings.{transport}
use Rattle.history.specs.Emits.{breaks, broken_of}
use Rattle.history.specs.BusRules.{is_early, message_rule, frame_breaks}
use Rattle.history.specs.RuleLaws.{verdict_breaks}
use Rattle.history.proofs.SessionTable.{session_rules_are_verdicts, early_breaks_not_ready}
use Rattle.gate_model.specs.Sessions.{SessionAnswer, IsOutcome, answer_by, refused_reports, restarted_reports, early_report, answer_reports, carried_by}
use Rattle.gate_model.specs.SessionLaws.{AnswersAreTold}
use Rattle.gate_model.specs.Said.{short_reports}
use Rattle.gate_model.proofs.SaidTold.{message_said}

-- ---- what an assembler answers

abbrev message : ℕ → List ℕ → Message
message pgn bytes = record { pgn = pgn; bytes = bytes }

message_same : (p q : ℕ) (b c : List ℕ) → p ≡ q → b ≡ c → Some (message q c) ≡ Some (message p b)
message_same p q b c e f = rw (e, f) refl

module _ (a : Bool) (x : IsoPiece) where
  next_outcome : (o : Option Entry) (s : Session) (number end : ℕ) (out : IsoOutcome) → NextGives o s (extended a s number end x.bytes x.moment) out
      → IsOutcome (answer_by a (what.Next s number end) x o) out
  next_outcome o s number end Ignored gives = absurd gives
  next_outcome None s number end Held gives = absurd gives
  next_outcome (Some e) s number end Held gives = (refl, rw gives refl)
  next_outcome None s number end (Complete pgn view) gives = absurd gives.1
  next_outcome (Some e) s number end (Complete pgn view) gives =
      let (is, rest) = gives in
      let (whole, shows) = rest in
      (refl, rw whole (message_same pgn s.pgn view.bytes.now (extended a s number end x.bytes x.moment e).bytes is shows.bytes))
  next_outcome o s number end Repeat gives = absurd gives
  next_outcome o s number end (Refused reason) gives = absurd gives

  outcome_is : (o : Option Entry) (v : Verdict) (out : IsoOutcome) → OutcomeBy a o x.bytes x.moment v out → IsOutcome (answer_by a v x o) out
  outcome_is o what.Ignored out is = subst (IsOutcome (answer_by a what.Ignored x o)) (sym is) (refl, refl)
  outcome_is o what.Again out is = subst (IsOutcome (answer_by a what.Again x o)) (sym is) (refl, refl)
  outcome_is o (what.Refused reason reply) out is = subst (IsOutcome (answer_by a (what.Refused reason reply) x o)) (sym is) (refl, refl)
  outcome_is o (what.Ends reason reply) out is = subst (IsOutcome (answer_by a (what.Ends reason reply) x o)) (sym is) (refl, refl)
  outcome_is o (what.Opens s old) out is = subst (IsOutcome (answer_by a (what.Opens s old) x o)) (sym is) (refl, refl)
  outcome_is o (what.Next s number end) out gives = next_outcome o s number end out gives

pub answers_are_told : AnswersAreTold
answers_are_told cmp slots own parts bytes moment fed gives = record {
  restarted = gives.restarted;
  reply = gives.reply;
  outcome = outcome_is (key_of parts).addressed (piece_of cmp slots parts bytes moment) (entry_at cmp slots (key_of parts)) (verdict_of cmp slots own parts bytes) fed.outcome gives.outcome;
}

-- ---- what is reported

pub verdict_reports : (n : NotedFrame) (v : Verdict) (rest : List Report)
    → verdict_breaks n v ++ rest ≡ restarted_reports n.parts.source (restarted_by v) ++ (refused_reports n.parts (refusal_of v) ++ rest)
verdict_reports n what.Ignored rest = refl
verdict_reports n what.Again rest = refl
verdict_reports n (what.Refused refusal.Size reply) rest = refl
verdict_reports n (what.Refused refusal.Order reply) rest = refl
verdict_reports n (what.Refused refusal.Orphan reply) rest = refl
verdict_reports n (what.Refused (refusal.Full pgn) reply) rest = refl
verdict_reports n (what.Refused (refusal.Aborted pgn) reply) rest = refl
verdict_reports n (what.Ends refusal.Size reply) rest = refl
verdict_reports n (what.Ends refusal.Order reply) rest = refl
verdict_reports n (what.Ends refusal.Orphan reply) rest = refl
verdict_reports n (what.Ends (refusal.Full pgn) reply) rest = refl
verdict_reports n (what.Ends (refusal.Aborted pgn) reply) rest = refl
verdict_reports n (what.Opens s None) rest = refl
verdict_reports n (what.Opens s (Some old)) rest = refl
verdict_reports n (what.Next s number end) rest = refl

-- the rules that a frame breaks which is fed, by what it is to its session and the message that it completes
pub told_reports : (name : ℕ) (n : NotedFrame) (q : Option (List IsoPiece)) (d : Option Said) (v : Verdict) (answer : SessionAnswer) (given : List Report)
    → given ≡ frame_breaks name transport n None q d → (n.admitted ≡ false → q ≡ None)
    → is_early (key_of n.parts).addressed n.ready (iso_piece n) ≡ false → v ≡ run_verdict (key_of n.parts).addressed q (iso_piece n)
    → answer.restarted ≡ restarted_by v → answer.refusal ≡ refusal_of v
    → (index moment : ℕ) (x : Holder) (c : Option Carried) → d ≡ said_by index moment n.parts.source (Some x) c
    → given ≡ answer_reports n.parts answer c
told_reports name n q d v answer given broken alone early told restarted refused index moment x c is =
    broken
    ∙ (session_rules_are_verdicts name n q d alone early
    ∙ (ap (λ (w : Verdict). verdict_breaks n w ++ broken_of (message_rule d ∷ [])) (sym told)
    ∙ (ap (λ (rest : List Report). verdict_breaks n v ++ rest) (ap (λ (e : Option Said). broken_of (message_rule e ∷ [])) is ∙ message_said index moment n.parts.source x c)
    ∙ (verdict_reports n v (short_reports n.parts.source c)
    ∙ (ap (λ (o : Option ℕ). restarted_reports n.parts.source o ++ (refused_reports n.parts (refusal_of v) ++ short_reports n.parts.source c)) (sym restarted)
    ∙ ap (λ (o : Option IsoRefusal). restarted_reports n.parts.source answer.restarted ++ (refused_reports n.parts o ++ short_reports n.parts.source c)) (sym refused))))))

pub early_reports : (name : ℕ) (n : NotedFrame) (q : Option (List IsoPiece)) (d : Option Said) (given : List Report) → given ≡ frame_breaks name transport n None q d
    → is_early (key_of n.parts).addressed n.ready (iso_piece n) ≡ true → d ≡ None → given ≡ early_report n.parts ∷ []
early_reports name n q d given broken early none =
    broken
    ∙ (early_breaks_not_ready name n q d early
    ∙ ap (λ (e : Option Said). broken_of (message_rule e ∷ breaks true rules.not_ready (detail.Source n.parts.source n.parts.pgn) ∷ [])) none)

pub carried_is : (o : Option (List IsoPiece)) → carried_by (message_of o) ≡ iso_carried o
carried_is None = refl
carried_is (Some acc) = refl

-- ---- a frame that can neither open, extend nor end a session

module _ (P : Verdict → Type 0) (nothing : P what.Ignored) (refused : P (what.Refused refusal.Size None)) (bytes : List ℕ) where
  kind_idle : (addressed crowded : Bool) (o : Option ℕ) (a b c d e : Bool) → ((not addressed && d) || (addressed && (a || e))) ≡ false
      → P (kind_verdict addressed crowded o (if a then Some (Rts (size_at bytes) (packets_at bytes) (limit_at bytes) (pgn_at bytes)) else if b then Some (Cts (slice_index bytes 1) (slice_index bytes 2) (pgn_at bytes))
      else if c then Some (EndAck (size_at bytes) (packets_at bytes) (pgn_at bytes)) else if d then Some (Bam (size_at bytes) (packets_at bytes) (pgn_at bytes))
      else if e then Some (Abort (slice_index bytes 1) (pgn_at bytes)) else None))
  kind_idle true crowded o true b c d e idle = cc
  kind_idle false crowded o true b c d e idle = refused
  kind_idle addressed crowded o false true c d e idle = nothing
  kind_idle addressed crowded o false false true d e idle = nothing
  kind_idle true crowded o false false false true e idle = refused
  kind_idle false crowded o false false false true e idle = cc
  kind_idle true crowded o false false false false true idle = cc
  kind_idle false crowded o false false false false true idle = nothing
  kind_idle addressed crowded o false false false false false idle = nothing

  management_idle : (addressed crowded : Bool) (o : Option ℕ) (t : Bool) → nat_lt (length bytes) 8 ≡ t → (nat_le 8 (length bytes) && ((not addressed && (control_at bytes == 32)) || (addressed && ((control_at bytes == 16) || (control_at bytes == 255))))) ≡ false
      → P (management_verdict addressed crowded o bytes)
  management_idle addressed crowded o true short idle = rw short refused
  management_idle addressed crowded o false long idle =
      let enough : nat_le 8 (length bytes) ≡ true = le-leb 8 (length bytes) (ltb-false (length bytes) 8 long) in
      let whole : management_verdict addressed crowded o bytes ≡ kind_verdict addressed crowded o (cm_by (control_at bytes) bytes) = rw long refl in
      subst P (sym whole)
      (kind_idle addressed crowded o (control_at bytes == 16) (control_at bytes == 17) (control_at bytes == 19) (control_at bytes == 32) (control_at bytes == 255) (rw enough at idle))

  pub frame_idle : (addressed crowded : Bool) (o : Option Entry) (p : Bool) → bears addressed p bytes ≡ false → P (frame_verdict addressed crowded o p bytes)
  frame_idle addressed crowded o true idle = cc
  frame_idle addressed crowded o false idle = management_idle addressed crowded (option_map pgn_in o) _ refl idle

-- has no reply
unasked_by : (bytes : List ℕ) (a b c d e : Bool) → (a || e) ≡ false
    → is_request (if a then Some (Rts (size_at bytes) (packets_at bytes) (limit_at bytes) (pgn_at bytes)) else if b then Some (Cts (slice_index bytes 1) (slice_index bytes 2) (pgn_at bytes))
    else if c then Some (EndAck (size_at bytes) (packets_at bytes) (pgn_at bytes)) else if d then Some (Bam (size_at bytes) (packets_at bytes) (pgn_at bytes))
    else if e then Some (Abort (slice_index bytes 1) (pgn_at bytes)) else None) ≡ false
unasked_by bytes true b c d e idle = cc
unasked_by bytes false true c d e idle = refl
unasked_by bytes false false true d e idle = refl
unasked_by bytes false false false true e idle = refl
unasked_by bytes false false false false true idle = refl
unasked_by bytes false false false false false idle = refl

unasked_long : (bytes : List ℕ) (t : Bool) → nat_lt (length bytes) 8 ≡ t → bears true false bytes ≡ false → is_request (cm_of bytes) ≡ false
unasked_long bytes true short idle = rw short refl
unasked_long bytes false long idle =
    let enough : nat_le 8 (length bytes) ≡ true = le-leb 8 (length bytes) (ltb-false (length bytes) 8 long) in
    let whole : is_request (cm_of bytes) ≡ is_request (cm_by (control_at bytes) bytes) = rw long refl in
    whole ∙ unasked_by bytes (control_at bytes == 16) (control_at bytes == 17) (control_at bytes == 19) (control_at bytes == 32) (control_at bytes == 255) (rw enough at idle)

-- what asks for nothing opens nothing
unopened : (cm : Option Cm) → is_request cm ≡ false → opens true cm ≡ false
unopened None e = refl
unopened (Some (Rts size packets limit pgn)) e = cc
unopened (Some (Cts count next pgn)) e = refl
unopened (Some (EndAck size packets pgn)) e = refl
unopened (Some (Bam size packets pgn)) e = refl
unopened (Some (Abort reason pgn)) e = refl

pub no_reply : (a : Bool) (q : Option (List IsoPiece)) (x : IsoPiece) → bears a x.packet x.bytes ≡ false → reply_to a q x ≡ None
no_reply false q x idle = refl
no_reply true q x idle = by x.packet refl idle
  where
    by : (b : Bool) → x.packet ≡ b → bears true b x.bytes ≡ false → reply_to true q x ≡ None
    by true eb idle = cc
    by false eb idle =
        let unasked = unasked_long x.bytes (nat_lt (length x.bytes) 8) refl idle in
        rw (eb, unopened (cm_of x.bytes) unasked, unasked) refl
