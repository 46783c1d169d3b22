-- A capture of events alone is replayed as the gateway takes its events.
use Rattle.std.proofs.Common.{◌≡◌, ℕ, ◌+◌, List, [], ◌∷◌, ◌++◌, refl, sym, ap, ◌∙◌}
use Rattle.std.specs.Prelude.{Some, None, Result}
use Rattle.std.proofs.lemmas.List.{append_assoc}
use Rattle.capture_text.specs.declared.line_rule.LineRule.{LineRule}
use Rattle.gate_events.specs.Event.{Seen}
use Rattle.gate_events.specs.Emit.{Emitted}
use Rattle.history.specs.Entries.{History, moment_of}
use Rattle.bridge.specs.Running.{entry_of}
use Rattle.replaying.specs.Replayed.{AreRead, EventsAreReplayed, Replayed, event_in, events_in, gate_of, emitted_text, replayed_from, with_read}
use Rattle.bridge.specs.Gate.{from_events, opening, stepped}
use Rattle.bridge.specs.BridgeSettings.{BridgeSettings}

module _ (p : BridgeSettings) where
  -- of a line that says an event, the same as of the event
  abbrev behind : ℕ → List (List ℕ) → Replayed → List Emitted
  behind number ls x = x.emits ++ replayed_from p (number + 1) x.after ls

  running : (number s : ℕ) (h : History) (ls : List (List ℕ)) → AreRead ls
      → replayed_from p number (Some (record { start = s; history = h })) ls ≡ from_events p s h (events_in ls)
  running number s h [] are = refl
  running number s h ([] ∷ ls) are = running (number + 1) s h ls are
  running number s h ((x ∷ xs) ∷ ls) are =
      let e = entry_of are.0.0 in
      ap (λ (r : Result Seen LineRule). behind number ls (with_read p number (Some (record { start = s; history = h })) r)) are.0.1
      ∙ ap (λ (es : List Emitted). (stepped p s h e).emits ++ es) (running (number + 1) s (stepped p s h e).after ls are.1)
      ∙ ap (λ (r : Result Seen LineRule). from_events p s h (event_in r ++ events_in ls)) (sym are.0.1)

  waiting : (number : ℕ) (ls : List (List ℕ)) → AreRead ls → replayed_from p number None ls ≡ gate_of p (events_in ls)
  waiting number [] are = refl
  waiting number ([] ∷ ls) are = waiting (number + 1) ls are
  waiting number ((x ∷ xs) ∷ ls) are =
      let e = entry_of are.0.0 in
      let s = moment_of e in
      ap (λ (r : Result Seen LineRule). behind number ls (with_read p number None r)) are.0.1
      ∙ ap (λ (es : List Emitted). (opening p s ++ (stepped p s [] e).emits) ++ es) (running (number + 1) s (stepped p s [] e).after ls are.1)
      ∙ append_assoc (opening p s) (stepped p s [] e).emits (from_events p s (stepped p s [] e).after (events_in ls))
      ∙ ap (λ (r : Result Seen LineRule). gate_of p (event_in r ++ events_in ls)) (sym are.0.1)

pub events_are_replayed : EventsAreReplayed
events_are_replayed p lines are = ap emitted_text (waiting p 1 lines are)
