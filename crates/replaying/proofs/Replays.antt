-- What the lines of a capture give is the text of the definition over lines.
use Rattle.std.proofs.Common.{◌≡◌, ℕ, ◌+◌, List, [], ◌∷◌, ◌++◌, refl, sym, ap, subst, ◌∙◌, append_assoc}
use Rattle.std.specs.Prelude.{Option, Some, None, Ok, Err}
use Rattle.std.proofs.lemmas.Grind.{flat_map-append}
use Rattle.std.proofs.lemmas.List.{append-nil}
use Rattle.gate_events.specs.declared.emit.Detail.TheVariants as detail
use Rattle.gate_events.specs.declared.event.Event.{Event}
use Rattle.gate_events.specs.declared.event.Event.TheVariants as event
use Rattle.capture_text.specs.declared.line_rule.LineRule.{LineRule}
use Rattle.capture_text.specs.LineRule.{rule_number}
use Rattle.gate_events.specs.Event.{view}
use Rattle.capture_stream.specs.Answering.{LineGives}
use Rattle.capture_stream.specs.Lines.{AreTexts, IsTextFrom}
use Rattle.bridge.specs.Steps.{entry_of}
use Rattle.gate_model.specs.Machine.{Machine}
use Rattle.gate_events.specs.Emit.{Emit, Emitted}
use Rattle.history.specs.Emits.{at, broken}
use Rattle.history.specs.Entries.{Entry, moment_of, now}
use Rattle.replaying.specs.declared.replay.Replay.{Replay}
use Rattle.replaying.specs.Replayed.{IsReplayFrom, emitted_text, replayed_from, with_event, with_line}
use Rattle.capture_text.specs.Emitted.{line_of}
use Rattle.bridge.specs.BridgeStands.{BridgeStands, IsBridgeStep}
use Rattle.bridge.specs.Gate.{opening, stepped}
use Rattle.bridge.specs.Kept.{Bridged}
use Rattle.bridge.specs.BridgeSettings.{BridgeSettings}
use Rattle.bridge.specs.Running as running
use Rattle.bridge.specs.Running.{Running, RunningStands}
use Rattle.replaying.specs.Replaying.{GivesReplay, IsAnswer, IsOpening, IsReplayed, output_text}

-- ---- a line that says something

entry_same : (e : Event) → running.entry_of (view e) ≡ entry_of e
entry_same (event.Frame moment frame) = refl
entry_same (event.Datagram moment bytes) = refl
entry_same (event.Tick moment) = refl

-- behind what the start gives, where it was the first
from_start : (before xs : List Emitted) (first text : List ℕ) → first ≡ emitted_text before → text ≡ emitted_text xs
    → first ++ text ≡ emitted_text (before ++ xs)
from_start before xs first text start is =
    ap (λ (t : List ℕ). t ++ text) start
    ∙ ap (λ (t : List ℕ). emitted_text before ++ t) is
    ∙ sym (flat_map-append line_of before xs)

module _ (e : Entry) (number : ℕ) (before opened after : Bridged) (first : List ℕ) (opens : IsOpening (moment_of e) before first opened)
    (step : IsBridgeStep e opened after) where
  entry_given : (p : BridgeSettings) (g : Option Running) → RunningStands p g before
      → IsReplayed p (with_event p g e) (first ++ output_text after.gateway.moment after) after
  entry_given p None new =
      let s = moment_of e in
      let x = opens.first new.waits in
      let start = x.1 p new in
      let r = step p s [] tt start.stands in
      record {
        text_is =
            from_start (opening p s) (stepped p s [] e).emits first (output_text after.gateway.moment after)
            (x.0 ∙ ap (λ (es : List Emit). emitted_text (at s es)) start.emits) (ap emitted_text r.emits);
        stands = (r.could, r.stands);
      }
  entry_given p (Some g) stands =
      let s = g.start in
      let h = g.history in
      let x = opens.later stands.1.started in
      let here : BridgeStands p s h opened = subst (λ (z : Bridged). BridgeStands p s h z) (sym x.1) stands.1 in
      let r = step p s h stands.0 here in
      record {
        text_is = from_start [] (stepped p s h e).emits first (output_text after.gateway.moment after) x.0 (ap emitted_text r.emits);
        stands = (r.could, r.stands);
      }

pub gives_event : (e : Event) (number : ℕ) (before opened after : Bridged) (first : List ℕ) → IsOpening (moment_of (entry_of e)) before first opened
    → IsBridgeStep (entry_of e) opened after → GivesReplay before number (Ok (view e)) (first ++ output_text after.gateway.moment after) after
gives_event e number before opened after first opens step p g stands =
    subst (λ (x : Entry). IsReplayed p (with_event p g x) (first ++ output_text after.gateway.moment after) after) (sym (entry_same e))
    (entry_given (entry_of e) number before opened after first opens step p g stands)

-- ---- a line that breaks a rule

refusal_at : (number k m : ℕ) (rule : LineRule) → k ≡ m
    → line_of (record { moment = k; emit = broken (rule_number rule) (detail.Line number) }) ≡ emitted_text (at m (broken (rule_number rule) (detail.Line number) ∷ []))
refusal_at number k m rule same =
    ap (λ (x : ℕ). line_of (record { moment = x; emit = broken (rule_number rule) (detail.Line number) })) same
    ∙ sym (append-nil (line_of (record { moment = m; emit = broken (rule_number rule) (detail.Line number) })))

pub gives_refusal : (rule : LineRule) (number : ℕ) (b : Bridged)
    → GivesReplay b number (Err rule) (line_of (record { moment = b.gateway.moment; emit = broken (rule_number rule) (detail.Line number) })) b
gives_refusal rule number b p None new = record {
  text_is = refusal_at number b.gateway.moment 0 rule (ap (λ (x : Machine). x.moment) new.gateway);
  stands = new;
}
gives_refusal rule number b p (Some g) stands = record {
  text_is = refusal_at number b.gateway.moment (now g.history) rule stands.1.gateway.moment;
  stands = stands;
}

-- ---- all lines

line_given : (p : BridgeSettings) (g : Option Running) (n : ℕ) (line text : List ℕ) (r after : Replay) → RunningStands p g r.bridge.now → LineGives IsAnswer r n line text after
    → IsReplayed p (with_line p n g line) text after.bridge.now
unfolding LineGives
line_given p g n [] text r after stands gives =
    record { text_is = gives.0; stands = subst (λ (x : Replay). RunningStands p g x.bridge.now) (sym gives.1) stands }
line_given p g n (c ∷ bytes) text r after stands gives = gives p g stands

lines_given : (p : BridgeSettings) (g : Option Running) (n : ℕ) (lines : List (List ℕ)) (text : List ℕ) (r after : Replay) → RunningStands p g r.bridge.now
    → AreTexts (LineGives IsAnswer) r n lines text after → text ≡ emitted_text (replayed_from p n g lines)
lines_given p g n [] text r after stands a = a.0
lines_given p g n (line ∷ lines) text r after stands a =
    let y = with_line p n g line in
    let x : IsReplayed p y a.0 a.2.bridge.now = line_given p g n line a.0 r a.2 stands a.3 in
    let more = lines_given p y.after (n + 1) lines a.1 a.2 after x.stands a.4 in
    a.5 ∙ ap (λ (t : List ℕ). t ++ a.1) x.text_is ∙ ap (λ (t : List ℕ). emitted_text y.emits ++ t) more
    ∙ sym (flat_map-append line_of y.emits (replayed_from p (n + 1) y.after lines))

-- what a bridge that is lent gives of the lines of a capture
pub replays : (p : BridgeSettings) (g : Option Running) (r : Replay) → RunningStands p g r.bridge.now → (lines : List (List ℕ)) (text : List ℕ)
    → IsTextFrom (LineGives IsAnswer) r lines text → IsReplayFrom p g lines text
replays p g r stands lines text a = lines_given p g 1 lines text r a.0 stands a.1
