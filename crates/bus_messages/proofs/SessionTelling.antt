-- What the assembler of sessions (ISO 11783-3) answers, as plain values.
use Rattle.std.proofs.Common.{◌≡◌, ℕ, List, Option, ap, sym, ◌∙◌}
use Rattle.n2k_id.specs.declared.identifier_parts.Parts.{Parts}
use Rattle.slot_views.specs.Slots.{SlotMap}
use Rattle.iso_transport.specs.declared.key.IsoKey.{IsoKey}
use Rattle.iso_transport.specs.contracts.key.IsoKeyOrd as key
use Rattle.iso_transport.specs.declared.answers.IsoFed.{IsoFed}
use Rattle.iso_transport.specs.declared.answers.IsoOutcome.{IsoOutcome}
use Rattle.iso_transport.specs.declared.answers.IsoOutcome.TheVariants.{Ignored, Held, Complete, Repeat, Refused}
use Rattle.iso_transport.specs.declared.answers.IsoRefusal.{IsoRefusal}
use Rattle.iso_transport.specs.declared.reply.Reply.{Reply}
use Rattle.iso_transport.specs.Answers.{FeedGives}
use Rattle.iso_transport.specs.RunVerdicts.{Message}
use Rattle.gate_model.specs.Sessions.{SessionAnswer, IsAnswer, IsOutcome, answer_of}
use Rattle.gate_model.proofs.SessionAnswers.{answers_are_told}
use Rattle.bus_messages.specs.SessionTold.{answer_in, message_in, refusal_in}

outcome_is : (a : SessionAnswer) (outcome : IsoOutcome) → IsOutcome a outcome → (refusal_in outcome ≡ a.refusal) × (message_in outcome ≡ a.message)
outcome_is a Ignored is = (sym is.0, sym is.1)
outcome_is a Held is = (sym is.0, sym is.1)
outcome_is a (Complete pgn view) is = (sym is.0, sym is.1)
outcome_is a Repeat is = (sym is.0, sym is.1)
outcome_is a (Refused reason) is = (sym is.0, sym is.1)

abbrev made : Option ℕ → Option IsoRefusal → Option Reply → Option Message → SessionAnswer
made restarted refusal reply message = record { restarted = restarted; refusal = refusal; reply = reply; message = message }

answer_is : (a : SessionAnswer) (fed : IsoFed) → IsAnswer a fed → answer_in fed ≡ a
answer_is a fed is = let by = outcome_is a fed.outcome is.outcome in
    ap (λ r. made r (refusal_in fed.outcome) fed.reply (message_in fed.outcome)) is.restarted
    ∙ ap (λ r. made a.restarted r fed.reply (message_in fed.outcome)) by.0
    ∙ ap (λ r. made a.restarted a.refusal r (message_in fed.outcome)) is.reply
    ∙ ap (λ m. made a.restarted a.refusal a.reply m) by.1

-- by the order of the keys
pub answered : (slots : SlotMap IsoKey) (own : Option ℕ) (parts : Parts) (bytes : List ℕ) (moment : ℕ) (fed : IsoFed)
    → FeedGives key.TheImpl.ghosts.cmp slots own parts bytes moment fed → answer_in fed ≡ answer_of key.TheImpl.ghosts.cmp slots own parts bytes moment
answered slots own parts bytes moment fed gives = answer_is _ fed (answers_are_told key.TheImpl.ghosts.cmp slots own parts bytes moment fed gives)
