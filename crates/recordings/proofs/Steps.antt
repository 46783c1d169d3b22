-- An event of a run and its line in the recording: what the line gives when it is read is what the event gave.
use Rattle.std.proofs.Common.{◌≡◌, ℕ, ◌^◌, ◌<◌, ◌≤◌, Bool, true, false, List, [], ◌∷◌, ◌++◌, length, refl, sym, ap, subst, ◌∙◌, arith}
use Rattle.std.specs.Prelude.{◌&&◌, nat_lt, codes, Result, Ok}
use Rattle.std.specs.List.{AllByRecursion}
use Rattle.std.proofs.lemmas.Bool.{le-leb, lt-ltb}
use Rattle.gate_events.specs.Emit.{Emitted}
use Rattle.gate_events.specs.Event as capture
use Rattle.gate_events.specs.Event.{Seen, moment_in}
use Rattle.capture_text.specs.declared.line_rule.LineRule.{LineRule}
use Rattle.capture_text.specs.EventLaws.{Fits}
use Rattle.capture_text.specs.Reading.{read}
use Rattle.capture_text.specs.Writing.{datagram_text, frame_text}
use Rattle.capture_text.proofs.Again.{events_are_read_back}
use Rattle.unit_fraction.specs.Text.{decimal_text}
use Rattle.history.specs.Emits.{at}
use Rattle.history.specs.Entries.{History, moment_of, now, tick}
use Rattle.history.specs.Gate.{Stepped}
use Rattle.gateway_commands.specs.Gate.{all_out, from_events, stepped}
use Rattle.gateway_commands.specs.BridgeSettings.{BridgeSettings}
use Rattle.gateway_commands.specs.Running.{Running, entry_of}
use Rattle.gateway_commands.specs.Replayed.{AreRead, event_in, events_in}
use Rattle.recordings.specs.Idle.{BeginFrom}
use Rattle.recordings.proofs.Busy.{earlier, now_after}
use Rattle.recordings.proofs.Events.{idle_ticks}
use Rattle.gateway_commands.specs.Recorded.{made_in, recorded_in}
use Rattle.gateway_commands.specs.Turns.{Item, all_made, emitted_at, event_line, is_recorded, received, recorded, recorded_where, with_event}
use Rattle.recordings.proofs.Items.{made_behind, nothing_at, recorded_behind}
use Rattle.recordings.proofs.Plain.{IsPlain, plain_event}

-- ---- lines that give again what was emitted

-- They are read and plain, none of their events is earlier than a moment, and after a history they give these emits.
pub record IsAgain (p : BridgeSettings) (m s : ℕ) (h : History) (lines : List (List ℕ)) (emits : List Emitted) : Type 0 where
  pub are_read : AreRead lines
  pub are_plain : AllByRecursion IsPlain lines
  pub from : BeginFrom m (events_in lines)
  pub same : emits ≡ from_events p s h (events_in lines)

-- what is recorded in items gives what was made in them
abbrev pub Again : BridgeSettings → ℕ → Running → List Item → Type 0
Again p m g items = IsAgain p m g.start g.history (recorded_in items) (made_in items)

module _ (p : BridgeSettings) where
  restated : (m s : ℕ) (h : History) (lines lines' : List (List ℕ)) (emits emits' : List Emitted) → lines ≡ lines' → emits ≡ emits'
      → IsAgain p m s h lines emits → IsAgain p m s h lines' emits'
  restated m s h lines lines' emits emits' line emit x =
      subst (λ (z : List Emitted). IsAgain p m s h lines' z) emit (subst (λ (z : List (List ℕ)). IsAgain p m s h z emits) line x)

  pub weaker : (m n s : ℕ) (h : History) (lines : List (List ℕ)) (emits : List Emitted) → m ≤ n → IsAgain p n s h lines emits → IsAgain p m s h lines emits
  weaker m n s h lines emits le x = record { are_read = x.are_read; are_plain = x.are_plain; from = earlier m n (events_in lines) le x.from; same = x.same }

  -- ---- an event that has a line

  module _ (m s : ℕ) (h : History) (e : Seen) (c : ℕ) (cs : List ℕ) (says : read (c ∷ cs) ≡ Ok e) (plain : IsPlain (c ∷ cs)) (le : m ≤ moment_of (entry_of e)) where
    line_then : (n : ℕ) (lines : List (List ℕ)) (emits : List Emitted) → IsAgain p n s (stepped p s h (entry_of e)).after lines emits
        → IsAgain p m s h ((c ∷ cs) ∷ lines) ((stepped p s h (entry_of e)).emits ++ emits)
    line_then n lines emits x = record {
      are_read = ((e, says), x.are_read);
      are_plain = (plain, x.are_plain);
      from = subst (λ (r : Result Seen LineRule). BeginFrom m (event_in r ++ events_in lines)) (sym says) le;
      same =
          ap (λ (es : List Emitted). (stepped p s h (entry_of e)).emits ++ es) x.same
          ∙ ap (λ (r : Result Seen LineRule). from_events p s h (event_in r ++ events_in lines)) (sym says);
    }

    recorded_then : (n : ℕ) (items : List Item) → IsAgain p n s (stepped p s h (entry_of e)).after (recorded_in items) (made_in items)
        → IsAgain p m s h (recorded_in (recorded (c ∷ cs) ∷ (all_made (stepped p s h (entry_of e)).emits ++ items)))
        (made_in (recorded (c ∷ cs) ∷ (all_made (stepped p s h (entry_of e)).emits ++ items)))
    recorded_then n items x =
        let emits = (stepped p s h (entry_of e)).emits in
        restated m s h ((c ∷ cs) ∷ recorded_in items) ((c ∷ cs) ∷ recorded_in (all_made emits ++ items)) (emits ++ made_in items) (made_in (all_made emits ++ items))
        (ap (λ (lines : List (List ℕ)). (c ∷ cs) ∷ lines) (sym (recorded_behind emits items)))
        (sym (made_behind emits items))
        (line_then n (recorded_in items) (made_in items) x)

  -- ---- a tick

  module _ (s : ℕ) (h : History) (m : ℕ) (le : now h ≤ m) where
    abbrev pub ticked : Stepped p.gateway s
    ticked = record { emits = at m (all_out p s h (tick m)); after = tick m ∷ h }

    pub is_ticked : stepped p s h (tick m) ≡ ticked
    is_ticked = let accepts = le-leb (now h) m le in rw accepts refl

    -- at which nothing is emitted
    module _ (none : (stepped p s h (tick m)).emits ≡ []) where
      silent : all_out p s h (tick m) ≡ []
      silent = nothing_at m (all_out p s h (tick m)) (sym (ap (λ (x : Stepped p.gateway s). x.emits) is_ticked) ∙ none)

      unrecorded_then : (lines : List (List ℕ)) (emits : List Emitted) → IsAgain p m s (stepped p s h (tick m)).after lines emits → IsAgain p m s h lines emits
      unrecorded_then lines emits x =
          let y = subst (λ (z : Stepped p.gateway s). IsAgain p m s z.after lines emits) is_ticked x in
          record { are_read = y.are_read; are_plain = y.are_plain; from = y.from; same = y.same ∙ idle_ticks p s h m (events_in lines) le silent y.from }

  -- ---- any event of a run that is recorded

  -- what is due where what comes is recorded, and where it isn't
  abbrev due_by : Bool → Seen → Running → List Item
  due_by records e g = recorded_where (records && is_recorded e (emitted_at p e g).due) (event_line e) ++ (emitted_at p e g).due

  -- a line behind its first byte
  abbrev behind_time : ℕ → List ℕ → List ℕ
  behind_time m rest = (decimal_text false m 6 ++ codes ") ") ++ rest

  says_event : (e : Seen) → Fits e → moment_in e < 10 ^ 16 → read (event_line e) ≡ Ok e
  says_event e fits early = events_are_read_back received e (record { len = refl; bytes = refl }) fits early

  module _ (g : Running) (items : List Item) where
    tick_by : (m : ℕ) → m < 10 ^ 16 → now g.history ≤ m → (emits : List Emitted) → (stepped p g.start g.history (tick m)).emits ≡ emits
        → IsAgain p m g.start (stepped p g.start g.history (tick m)).after (recorded_in items) (made_in items)
        → Again p m g ((recorded_where (nat_lt 0 (length (all_made emits))) (event_line (capture.tick m)) ++ all_made emits) ++ items)
    tick_by m early le [] none x = unrecorded_then g.start g.history m le none (recorded_in items) (made_in items) x
    tick_by m early le (e ∷ emits) some x =
        subst (λ (there : Bool). Again p m g ((recorded_where there (event_line (capture.tick m)) ++ all_made (e ∷ emits)) ++ items))
        (sym (lt-ltb 0 (length (all_made (e ∷ emits))) (omega arith)))
        (subst (λ (given : List Emitted). Again p m g (recorded (event_line (capture.tick m)) ∷ (all_made given ++ items))) some
        (recorded_then m g.start g.history (capture.tick m) 40 (behind_time m (codes "tick")) (says_event (capture.tick m) tt early) (plain_event (capture.tick m) tt early) (omega arith) m items x))

    recorded_event : (e : Seen) → Fits e → moment_in e < 10 ^ 16 → now g.history ≤ moment_in e
        → Again p (moment_in e) (emitted_at p e g).after items → Again p (moment_in e) g (due_by true e g ++ items)
    recorded_event (capture.frame m f) fits early le x =
        recorded_then m g.start g.history (capture.frame m f) 40 (behind_time m (frame_text f)) (says_event (capture.frame m f) fits early) (plain_event (capture.frame m f) fits early) (omega arith) m items x
    recorded_event (capture.datagram m bytes) fits early le x =
        recorded_then m g.start g.history (capture.datagram m bytes) 40 (behind_time m (datagram_text received bytes)) (says_event (capture.datagram m bytes) fits early) (plain_event (capture.datagram m bytes) fits early) (omega arith) m items x
    recorded_event (capture.tick m) fits early le x = tick_by m early le (stepped p g.start g.history (tick m)).emits refl x

    pub event_again : p.records ≡ true → (e : Seen) → Fits e → moment_in e < 10 ^ 16 → now g.history ≤ moment_in e
        → Again p (moment_in e) (with_event p e g).after items → Again p (moment_in e) g ((with_event p e g).due ++ items)
    event_again records e fits early le x =
        subst (λ (r : Bool). Again p (moment_in e) g (due_by r e g ++ items)) (sym records) (recorded_event e fits early le x)

  -- ---- the moment that an event leaves

  same_moment : (e : Seen) → moment_of (entry_of e) ≡ moment_in e
  same_moment (capture.frame m f) = refl
  same_moment (capture.datagram m bytes) = refl
  same_moment (capture.tick m) = refl

  pub event_now : (e : Seen) (g : Running) → now g.history ≤ moment_in e → now (with_event p e g).after.history ≡ moment_in e
  event_now e g le = now_after p g.start g.history (entry_of e) (subst (λ (m : ℕ). now g.history ≤ m) (sym (same_moment e)) le) ∙ same_moment e
