-- An event's line is written in front of all that the event makes, where the bridge records and the event has a line.
use Rattle.std.proofs.Common.{◌≡◌, ℕ, Bool, true, false, List, [], ◌∷◌, ◌++◌, length, refl, sym, ap, ◌∙◌}
use Rattle.std.specs.Prelude.{◌&&◌, nat_lt, Result, Ok, Err}
use Rattle.std.proofs.lemmas.List.{length-map}
use Rattle.report_rules.specs.Rules as rules
use Rattle.gate_events.specs.declared.emit.Detail.TheVariants as detail
use Rattle.gate_events.specs.declared.event.Event.{Event}
use Rattle.gate_events.specs.declared.event.Event.TheVariants as event
use Rattle.gate_outside.specs.declared.Failed.{Failed}
use Rattle.bridge.specs.Steps as core
use Rattle.gate_events.specs.Emit.{Emit, Emitted}
use Rattle.gate_events.specs.Event as capture
use Rattle.gate_events.specs.Event.{Seen, view}
use Rattle.history.specs.Emits.{at, broken}
use Rattle.history.specs.Entries as entry
use Rattle.history.specs.Entries.{Entry, History, IsHistory, is_accepted, moment_of, now}
use Rattle.history.specs.Gate.{Stepped, command_in}
use Rattle.history.specs.Messages.{done}
use Rattle.history.specs.Settings.{receiver_of}
use Rattle.bridge.specs.BridgeStands.{BridgeStands, IsBridgeStep}
use Rattle.bridge.specs.Gate.{all_out, stepped, with_command}
use Rattle.bridge.specs.Kept.{Bridged, output_of}
use Rattle.bridge.specs.BridgeSettings.{BridgeSettings}
use Rattle.bridge.specs.Running.{Running, entry_of}
use Rattle.serving.specs.Handing.{Does, DoesAll, DoesSome, HandsAll, HandsSome, RunStands, passed}
use Rattle.serving.specs.Served.{Outside, all_due}
use Rattle.serving.specs.Turns.{Item, all_made, emitted_at, event_line, is_recorded, made, recorded_where, with_event}
use Rattle.serving.proofs.Passing.{due_append, front_as, front_before, front_then, passes_then, stops_then}

-- an event as an entry is its sight as one
pub same_entry : (e : Event) → core.entry_of e ≡ entry_of (view e)
same_entry (event.Frame moment frame) = refl
same_entry (event.Datagram moment bytes) = refl
same_entry (event.Tick moment) = refl

-- ---- whether the event has a line shows in what it left

made_counted : (k : ℕ) (emits : List Emit) → length emits ≡ length (all_made (at k emits))
made_counted k emits = sym (length-map (at k emits) made ∙ length-map emits (λ (e : Emit). record { moment = k; emit = e }))

module _ (p : BridgeSettings) (s : ℕ) (h : History) (before b : Bridged) (could : IsHistory h) (stands : BridgeStands p s h before) where
  kept : (e : Entry) → IsBridgeStep e before b → b.records ≡ p.records
  kept e step = (step p s h could stands).stands.records

  counted : (e : Entry) → IsBridgeStep e before b → length (output_of b) ≡ length (all_made (stepped p s h e).emits)
  counted e step =
      made_counted b.gateway.moment (output_of b) ∙ ap (λ (es : List Emitted). length (all_made es)) (step p s h could stands).emits

  has_line : (e : Seen) → IsBridgeStep (entry_of e) before b → is_recorded e (output_of b) ≡ is_recorded e (all_made (stepped p s h (entry_of e)).emits)
  has_line (capture.frame m f) step = refl
  has_line (capture.datagram m bytes) step = refl
  has_line (capture.tick m) step = ap (λ (n : ℕ). nat_lt 0 n) (counted (entry.tick m) step)

-- ---- in front of what the event makes

module _ (e : Seen) (before b : Bridged) (step : IsBridgeStep (entry_of e) before b) where
  -- the line of the event, where it has one
  abbrev pub line : List Item
  line = recorded_where (b.records && is_recorded e (output_of b)) (event_line e)

  line_is : (p : BridgeSettings) (g : Running) → RunStands p g before → line ++ (emitted_at p e g).due ≡ (with_event p e g).due
  line_is p g stands =
      let s = g.start in
      let h = g.history in
      let due = (emitted_at p e g).due in
      ap (λ (r : Bool). recorded_where (r && is_recorded e (output_of b)) (event_line e) ++ due)
      (kept p s h before b stands.0 stands.1 (entry_of e) step)
      ∙ ap (λ (there : Bool). recorded_where (p.records && there) (event_line e) ++ due) (has_line p s h before b stands.0 stands.1 e step)

  -- the line couldn't be written whole
  pub unrecorded : (old new : Outside) → HandsSome old new line → DoesSome RunStands (λ p g. with_event p e g) [] [] before old new
  unrecorded old new x = record {
    tried = x.tried;
    last = x.last;
    stops = x.stops;
    is_front = λ p g stands.
        let front = all_due (x.tried ++ x.last ∷ []) in
        front_as front front (line ++ (emitted_at p e g).due) (with_event p e g).due refl (line_is p g stands)
        (front_before front line (emitted_at p e g).due x.is_front);
  }

  pub recorded_all : (after : Bridged) (old between new : Outside) → HandsAll old between line
      → DoesAll RunStands (λ p g. emitted_at p e g) [] [] before after between new → DoesAll RunStands (λ p g. with_event p e g) [] [] before after old new
  recorded_all after old between new x y = record {
    tried = x.tried ++ y.tried;
    passes = passes_then old between new (passed [] [] x.tried) (passed [] [] y.tried) x.passes y.passes;
    is_due = λ p g stands.
        due_append x.tried y.tried
        ∙ ap (λ (z : List Item). z ++ all_due y.tried) x.is_due
        ∙ ap (λ (z : List Item). line ++ z) (y.is_due p g stands)
        ∙ line_is p g stands;
    stands = y.stands;
  }

  pub recorded_some : (old between new : Outside) → HandsAll old between line → DoesSome RunStands (λ p g. emitted_at p e g) [] [] before between new
      → DoesSome RunStands (λ p g. with_event p e g) [] [] before old new
  recorded_some old between new x y = record {
    tried = x.tried ++ y.tried;
    last = y.last;
    stops = stops_then old between new (passed [] [] x.tried) (passed [] [] y.tried) y.last x.passes y.stops;
    is_front = λ p g stands.
        let front = all_due ((x.tried ++ y.tried) ++ y.last ∷ []) in
        front_as front front (line ++ (emitted_at p e g).due) (with_event p e g).due refl (line_is p g stands)
        (front_then x.tried y.tried y.last line (emitted_at p e g).due x.is_due (y.is_front p g stands));
  }

  pub recorded_then : (after : Bridged) (old between new : Outside) (result : Result (Unit {0}) Failed) → HandsAll old between line
      → Does RunStands (λ p g. emitted_at p e g) [] [] before after between new result → Does RunStands (λ p g. with_event p e g) [] [] before after old new result
  recorded_then after old between new (Ok done) x y = recorded_all after old between new x y
  recorded_then after old between new (Err failed) x y = recorded_some old between new x y
