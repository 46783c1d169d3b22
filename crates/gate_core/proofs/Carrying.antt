-- What a frame of a fast packet (canboat) and of the transport protocol (ISO 11783-3) leaves in an outbox, with the message that it completes.
use Rattle.std.proofs.Common.{◌≡◌, ℕ, List, ◌++◌, Option, option_map, refl, ◌∙◌, append-nil, append_assoc}
use Rattle.n2k_id.specs.Frame.{BusFrame}
use Rattle.n2k_id.specs.Identifier.{parts_of}
use Rattle.n2k_id.specs.declared.identifier_parts.Parts.{Parts}
use Rattle.claim_table.specs.Claims.{holder_at}
use Rattle.gate_events.specs.Emit.{Emit}
use Rattle.gate_events.specs.declared.emit.Report.{Report}
use Rattle.history.specs.Emits.{reported, replied}
use Rattle.history.specs.Messages.{Carried}
use Rattle.history.specs.RuleLaws.{fast_refusal_breaks}
use Rattle.gate_model.specs.Machine.{Machine}
use Rattle.gate_model.specs.MachineSteps.{fast_frame}
use Rattle.gate_model.specs.FastPackets as fast
use Rattle.gate_model.specs.FastPackets.{FastAnswer, fast_answer, key_of, sender_of}
use Rattle.gate_model.specs.Sessions as sessions
use Rattle.gate_model.specs.Sessions.{SessionAnswer, answer_of, carried_by, fed_step}
use Rattle.gate_model.specs.Said.{Complete, complete_by, message_emits, ordered_by, short_reports}
use Rattle.bus_messages.specs.Heard.{heard_reports}
use Rattle.bus_messages.specs.SessionTold as told
use Rattle.gate_outbox.specs.Output.{Emitted, Output, and_posted, and_told, most_told}
use Rattle.gate_outbox.proofs.Telling.{reported_more, told_more}
use Rattle.gate_core.specs.Steps.{and_step, by_keys, command_of, done_of, first_there, selected_by}
use Rattle.gate_core.specs.Completing.{and_message, session_by}
use Rattle.gate_core.proofs.Completing.{posted_last}

module _ (g : Machine) (o : Output) (source : ℕ) (what : Option Carried) (d : Option Complete) where
  -- what is told, and the message behind it
  abbrev left : List Emit → Output
  left told = record {
    emits = and_posted (and_told most_told o.emits told) (message_emits g.settings g.said d);
    done = first_there (option_map done_of d) o.done;
    selected = selected_by d (message_emits g.settings g.said d) o.selected;
    command = first_there (option_map command_of (ordered_by g.settings.name d)) o.command;
  }

  -- behind the rules that the frame breaks by itself
  message_left : (first : List Report) (told' : Emitted) (out : Output) → told' ≡ and_told most_told o.emits (reported first)
      → out ≡ and_message g.settings g.said (record o { emits = told' }) source what d → out ≡ left (reported (first ++ short_reports source what))
  message_left first told' out tells is = rw (is, tells, reported_more most_told o.emits first (short_reports source what)) refl

  -- and before what the frame is answered
  replied_left : (rules replies : List Emit) (out out' : Output) → out ≡ left rules
      → out' ≡ record out { emits = and_told most_told out.emits replies } → out' ≡ left (rules ++ replies)
  replied_left rules replies out out' is is' =
      rw (
        is',
        is,
        posted_last most_told (and_told most_told o.emits rules) replies (message_emits g.settings g.said d),
        told_more most_told o.emits rules replies,
      ) refl

module _ (g : Machine) (m : ℕ) (f : BusFrame) (p : Parts) (o : Output) (is : p ≡ parts_of f.id) where
  abbrev from_holder : Option Carried → Option Complete
  from_holder what = complete_by m p.source (holder_at g.addresses.claims.holders p.source) what

  pub fast_output : (a : FastAnswer) (what : Option Carried) (told' : Emitted) (out : Output) → a ≡ fast_answer by_keys.fast g.fast (key_of p) f.held m
      → told' ≡ and_told most_told o.emits (reported (heard_reports p a)) → what ≡ fast.carried_by p.pgn a
      → out ≡ and_message g.settings g.said (record o { emits = told' }) p.source what (from_holder what)
      → out ≡ and_step g.settings.name o (fast_frame by_keys g m f)
  fast_output a what told' out answers tells says gives =
      message_left g o p.source what (from_holder what) (heard_reports p a) told' out tells gives
      ∙ rw (
        append_assoc (fast.restarted_reports p a.restarted) (fast_refusal_breaks (sender_of p) a.refused) (short_reports p.source what),
        says,
        ← append-nil (reported (fast.answer_reports p a (fast.carried_by p.pgn a))),
        answers,
        is,
      ) refl

  pub session_output : (a : SessionAnswer) (what : Option Carried) (told' : Emitted) (out out' : Output)
      → a ≡ answer_of by_keys.sessions g.sessions g.addresses.claims.own p f.held m
      → told' ≡ and_told most_told o.emits (reported (told.heard_reports p a)) → what ≡ carried_by a.message
      → out ≡ and_message g.settings g.said (record o { emits = told' }) p.source what (from_holder what)
      → out' ≡ record out { emits = and_told most_told out.emits (replied g.addresses.claims.own p.source a.reply) }
      → out' ≡ and_step g.settings.name o (session_by g m f (fed_step by_keys.sessions g.sessions g.addresses.claims.own p f.held m))
  session_output a what told' out out' answers tells says gives replies =
      replied_left g o p.source what (from_holder what) (reported (told.heard_reports p a ++ short_reports p.source what)) (replied g.addresses.claims.own p.source a.reply) out out'
      (message_left g o p.source what (from_holder what) (told.heard_reports p a) told' out tells gives) replies
      ∙ rw (
        append_assoc (sessions.restarted_reports p.source a.restarted) (sessions.refused_reports p a.refusal) (short_reports p.source what),
        says,
        answers,
        is,
      ) refl
