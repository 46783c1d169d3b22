-- What a frame from the bus gives, and what a command does: the rules that it breaks, what it makes the gateway send on the bus, and
-- the datagram in which the message is said that it completes.
use Rattle.std.specs.Prelude.{ℕ, Bool, ◌&&◌, not, ◌==◌, nat_lt, List, [], ◌∷◌, ◌++◌, length, Option, Some, None, option_and_then, if◌then◌else◌}
use Rattle.n2k_id.specs.declared.identifier_parts.Parts.{Parts}
use Rattle.n2k_id.specs.Frame.{BusFrame}
use Rattle.n2k_id.specs.Identifier.{parts_of}
use Rattle.report_rules.specs.Rules as rules
use Rattle.claim_table.specs.Claims.{Claims, claim, is_obeyed}
use Rattle.claim_table.specs.declared.answer.ClaimStep.{ClaimStep}
use Rattle.claim_table.specs.declared.answer.Holder.{Holder}
use Rattle.claim_table.specs.declared.answer.OwnAnswer.{OwnAnswer}
use Rattle.claim_table.specs.declared.answer.OwnAnswer.TheVariants.{Silent, Defend, Move, CannotClaim, Duplicate}
use Rattle.readings.specs.declared.reading.Reading.{Reading}
use Rattle.readings.specs.Rows.{row_of}
use Rattle.sentence_profile.specs.Writing.{sentences_of}
use Rattle.fast_packet.specs.FastRuns.{FastPiece}
use Rattle.iso_transport.specs.declared.reply.Reply.{Reply}
use Rattle.iso_transport.specs.Audience.{key_of}
use Rattle.iso_transport.specs.IsoRuns.{IsoPiece}
use Rattle.iso_transport.specs.Replies.{reply_to}
use Rattle.gate_events.specs.declared.emit.Report.{Report}
use Rattle.gate_events.specs.declared.emit.Detail.TheVariants as detail
use Rattle.n2k_id.specs.Pgns as pgns
use Rattle.history.specs.Entries as entry
use Rattle.history.specs.Entries.{Entry, History}
use Rattle.pgn_profile.specs.declared.kinds.Kind.{Kind}
use Rattle.history.specs.Settings.{Settings, rule_of, Receiver, receiver_of}
use Rattle.history.specs.Known.{Known, known, known_after, is_claim, claim_by, address_left, address_won}
use Rattle.history.specs.Meanings.{Meaning, address_claim, request, transport, meaning_of, is_of_session, is_of_fast_packet}
use Rattle.history.specs.Traces.{NotedFrame, iso_piece}
use Rattle.history.specs.Opens.{fast_open, iso_open, note_of, notes_of}
use Rattle.history.specs.Messages.{Message, done, messages_of}
use Rattle.history.specs.Choice.{selected}
use Rattle.gate_events.specs.Emit.{Emit, net}
use Rattle.history.specs.Emits.{breaks, broken_of, reported, own_claim, replied, Spoken, datagram_of}
use Rattle.history.specs.Endings.{lost_at, lost_elsewhere, side}
use Rattle.history.specs.BusRules.{is_early, frame_breaks}

-- ---- a claim (ISO 11783-5): rule 17 for what ends, the address that was left before the one that was won; then the gateway's own
-- frame, after a defence, a move, or the loss of its address

abbrev pub own_answer : ℕ → OwnAnswer → Option ℕ → List Emit
own_answer name Silent own = []
own_answer name Defend own = own_claim name own ∷ []
own_answer name (Move address) own = own_claim name own ∷ []
own_answer name CannotClaim own = own_claim name own ∷ []
own_answer name Duplicate own = []

abbrev pub step_gives : (ℕ → Kind) → ℕ → Known → Known → List NotedFrame → ℕ → ClaimStep → List Emit
step_gives kinds name k after notes m step =
    lost_at (side k m) (side after m) notes kinds (address_left step)
    ++ lost_at (side k m) (side after m) notes kinds (address_won step)
    ++ lost_elsewhere (side k m) (side after m) notes (address_left step) (address_won step)
    ++ own_answer name step.own after.claims.own

abbrev pub claim_gives : (ℕ → Kind) → ℕ → ℕ → Known → List NotedFrame → ℕ → BusFrame → List Emit
claim_gives kinds name index k notes m f =
    if is_claim f then step_gives kinds name k (known_after index k (entry.frame m f)) notes m (claim k.claims (claim_by index m f)).step else []

-- ---- a request (ISO 11783-5): only one for a claim is answered here

abbrev pub request_gives : ℕ → Option ℕ → List ℕ → List Emit
request_gives name own held = if not (nat_lt (length held) 3) && (pgns.asked_of held == pgns.address_claimed) then own_claim name own ∷ [] else []

-- ---- a frame of the transport protocol (ISO 11783-3): the reply to its sender, by the frames of its session that are open

abbrev pub session_reply : Bool → Option (List IsoPiece) → NotedFrame → Option Reply
session_reply addressed packets n = if is_early addressed n.ready (iso_piece n) then None else reply_to addressed packets (iso_piece n)

abbrev pub session_gives : Option ℕ → Option (List IsoPiece) → NotedFrame → List Emit
session_gives own packets n = replied own n.parts.source (session_reply (key_of n.parts).addressed packets n)

-- ---- a message that is selected is said in one datagram

abbrev pub selected_in : Settings → List (Option Holder) → List Message → Option Message → Option Reading
selected_in c holders older d = option_and_then (selected c holders older) d

-- the reading of the message that an entry completes, where it is selected
abbrev pub said_at : Settings → ℕ → History → Entry → Option Reading
said_at c s h e = let r = receiver_of c in selected_in c (known r s h).claims.holders (messages_of r s h) (done r s h e)

abbrev pub said_in : Settings → List Spoken → Option Reading → List Emit
said_in c before None = []
said_in c before (Some r) = let rule = rule_of c (row_of r) in
    net rule.group (datagram_of c.sfi before rule.group (sentences_of rule.talker c.ths r)) ∷ []

-- ---- a frame, over the history before it

-- what is open of its fast packet, and of its session
abbrev pub frames_before : Meaning → List (Option Holder) → List NotedFrame → ℕ → Parts → Option (List FastPiece)
frames_before meaning holders notes m p = if is_of_fast_packet meaning then fast_open holders notes (record { source = p.source; pgn = p.pgn }) m else None

abbrev pub packets_before : Meaning → Known → List NotedFrame → ℕ → Parts → Option (List IsoPiece)
packets_before meaning k notes m p = if is_of_session meaning then iso_open k notes (key_of p) m else None

module _ (r : Receiver) (s : ℕ) (h : History) (m : ℕ) (f : BusFrame) where
  abbrev pub meaning_at : Meaning
  meaning_at = meaning_of r.kinds (known r s h).claims.own (known r s h).claims.holders (parts_of f.id)

  -- the rules that it breaks
  abbrev pub frame_refused : List Report
  frame_refused =
      let k = known r s h in
      let notes = notes_of r s h in
      let n = note_of r (length h) k notes m f in
      frame_breaks r.name meaning_at n (frames_before meaning_at k.claims.holders notes m n.parts) (packets_before meaning_at k notes m n.parts)
      (done r s h (entry.frame m f))

  -- what it makes the receiver send on the bus
  abbrev pub answers_by : Meaning → List Emit
  answers_by address_claim = claim_gives r.kinds r.name (length h) (known r s h) (notes_of r s h) m f
  answers_by request = request_gives r.name (known r s h).claims.own f.held
  answers_by transport =
      let k = known r s h in
      let notes = notes_of r s h in
      session_gives k.claims.own (packets_before transport k notes m (parts_of f.id)) (note_of r (length h) k notes m f)
  answers_by _ = []

-- its reports stand before its replies, and these before the datagram of the message that it completes
abbrev pub from_frame : Settings → ℕ → History → ℕ → BusFrame → List Spoken → List Emit
from_frame c s h m f before =
    let r = receiver_of c in
    reported (frame_refused r s h m f) ++ answers_by r s h m f (meaning_at r s h m f)
    ++ said_in c before (said_at c s h (entry.frame m f))

-- ---- a command to go to an address (ISO 11783-5), which is obeyed or is rule 26

abbrev pub command_breaks : Claims → ℕ → ℕ → List Report
command_breaks claims source address =
    broken_of (breaks (not (is_obeyed claims address)) rules.command_not_obeyed (detail.Source source pgns.commanded_address) ∷ [])

abbrev pub command_gives : ℕ → ℕ → Known → List NotedFrame → ℕ → ℕ → ℕ → List Emit
command_gives name index k notes m source address =
    let after = known_after index k (entry.command m source address) in
    if is_obeyed k.claims address then lost_elsewhere (side k m) (side after m) notes None None ++ own_claim name after.claims.own ∷ [] else []

abbrev pub from_command : Settings → ℕ → History → ℕ → ℕ → ℕ → List Emit
from_command c s h m source address = let k = known (receiver_of c) s h in
    reported (command_breaks k.claims source address) ++ command_gives c.name (length h) k (notes_of (receiver_of c) s h) m source address
