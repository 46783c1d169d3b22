-- All ticks at which nothing is emitted can be left out at once; before anything came, a tick at the moment of the start is one of them.
use Rattle.std.proofs.Common.{◌≡◌, ℕ, ◌≤◌, Bool, true, false, not, List, [], ◌∷◌, ◌++◌, refl, sym, ap, subst, ◌∙◌, arith}
use Rattle.std.specs.Prelude.{Option, Some, None, option_map, if◌then◌else◌}
use Rattle.std.proofs.lemmas.Bool.{and_parts, le-leb}
use Rattle.gate_events.specs.Emit.{Emit, Emitted}
use Rattle.history.specs.Emits.{at, is_there}
use Rattle.history.specs.Entries.{Entry, History, frame, datagram, tick, command, is_accepted, moment_of, now}
use Rattle.history.specs.Gate.{command_in, opening}
use Rattle.history.specs.Messages.{Message, done, ordered_in}
use Rattle.history.specs.Settings.{receiver_of}
use Rattle.plain_out.specs.Pace.{Voice}
use Rattle.gateway_commands.specs.Gate.{all_out, from_events, plain_at, plain_of, stepped, voice_by, with_command}
use Rattle.gateway_commands.specs.BridgeSettings.{BridgeSettings}
use Rattle.recordings.specs.Idle.{AreFrom, BeginFrom, busy, is_idle}
use Rattle.recordings.specs.IdleLaws.{StartIsIdle, BusyEvents, BusyGate}
use Rattle.recordings.proofs.Events.{idle_ticks}
use Rattle.recordings.proofs.All.{beside_quiet, nothing_given}

-- ---- before anything came

plain_idle : (voice : Option Voice) (m : ℕ) → plain_of voice m [] ≡ []
plain_idle None m = refl
plain_idle (Some v) m = refl

pub start_is_idle : StartIsIdle
start_is_idle p s =
    let none = beside_quiet.gives.first p.parts p.gateway s in
    ap (λ (x : List Emit). x ++ plain_at p s [] (tick s)) none
    ∙ ap (plain_of (voice_by p.plain) s) (nothing_given p s [] (tick s) none)
    ∙ plain_idle (voice_by p.plain) s

-- ---- all of them

nothing_there : (es : List Emit) → not (is_there es) ≡ true → es ≡ []
nothing_there [] none = refl
nothing_there (e ∷ es) none = absurd (cc)

pub earlier : (m n : ℕ) (es : List Entry) → m ≤ n → BeginFrom n es → BeginFrom m es
earlier m n [] le from = tt
earlier m n (e ∷ es) le from = omega (arith, le, from)

module _ (p : BridgeSettings) (s : ℕ) where
  -- an event that is accepted is the last one then, or its command is, at the same moment
  now_is : (h : History) (e : Entry) (d : Option Message) → now (with_command p s h e (command_in p.gateway s d (moment_of e))).after ≡ moment_of e
  now_is h e None = refl
  now_is h e (Some d) = by (ordered_in p.gateway.name d.pgn d.payload)
    where
      by : (x : Option ℕ) → now (with_command p s h e (option_map (λ address. command (moment_of e) d.source address) x)).after ≡ moment_of e
      by None = refl
      by (Some address) = refl

  pub now_after : (h : History) (e : Entry) → now h ≤ moment_of e → now (stepped p s h e).after ≡ moment_of e
  now_after h e le = rw (le-leb (now h) (moment_of e) le) (now_is h e (done (receiver_of p.gateway) s h e))

  begins : (h : History) (m : ℕ) (es : List Entry) → AreFrom m es → BeginFrom m (busy p s h es)
  begins h m [] from = tt
  begins h m (e ∷ es) from = by (is_idle p s h e) (begins (stepped p s h e).after (moment_of e) es from.1)
    where
      by : (b : Bool) → BeginFrom (moment_of e) (busy p s (stepped p s h e).after es)
          → BeginFrom m (if b then busy p s (stepped p s h e).after es else e ∷ busy p s (stepped p s h e).after es)
      by true rest = earlier m (moment_of e) (busy p s (stepped p s h e).after es) from.0 rest
      by false rest = from.0

  -- an event that isn't left out
  kept : (h : History) (e : Entry) (es : List Entry)
      → from_events p s (stepped p s h e).after (busy p s (stepped p s h e).after es) ≡ from_events p s (stepped p s h e).after es
      → from_events p s h (e ∷ busy p s (stepped p s h e).after es) ≡ from_events p s h (e ∷ es)
  kept h e es rest = ap (λ (given : List Emitted). (stepped p s h e).emits ++ given) rest

  -- a tick that is
  left_out : (h : History) (m : ℕ) (es : List Entry) → now h ≤ m → AreFrom m es → all_out p s h (tick m) ≡ []
      → from_events p s (tick m ∷ h) (busy p s (tick m ∷ h) es) ≡ from_events p s (tick m ∷ h) es
      → from_events p s h (busy p s (stepped p s h (tick m)).after es) ≡ from_events p s h (tick m ∷ es)
  left_out h m es le from none rest =
      let accepts = le-leb (now h) m le in
      rw accepts
      (sym (idle_ticks p s h m (busy p s (tick m ∷ h) es) le none (begins (tick m ∷ h) m es from))
      ∙ rest
      ∙ ap (λ (given : List Emit). at m given ++ from_events p s (tick m ∷ h) es) (sym none))

  tick_case : (h : History) (m : ℕ) (es : List Entry) → now h ≤ m → AreFrom m es
      → from_events p s (stepped p s h (tick m)).after (busy p s (stepped p s h (tick m)).after es) ≡ from_events p s (stepped p s h (tick m)).after es
      → (b : Bool) → is_idle p s h (tick m) ≡ b
      → from_events p s h (if b then busy p s (stepped p s h (tick m)).after es else tick m ∷ busy p s (stepped p s h (tick m)).after es)
      ≡ from_events p s h (tick m ∷ es)
  tick_case h m es le from rest true idle =
      let none = nothing_there (all_out p s h (tick m)) (and_parts (is_accepted h (tick m)) (not (is_there (all_out p s h (tick m)))) idle).1 in
      left_out h m es le from none (rw (le-leb (now h) m le) at rest)
  tick_case h m es le from rest false idle = kept h (tick m) es rest

  one : (h : History) (e : Entry) (es : List Entry) → now h ≤ moment_of e → AreFrom (moment_of e) es
      → from_events p s (stepped p s h e).after (busy p s (stepped p s h e).after es) ≡ from_events p s (stepped p s h e).after es
      → from_events p s h (busy p s h (e ∷ es)) ≡ from_events p s h (e ∷ es)
  one h (frame m f) es le from rest = kept h (frame m f) es rest
  one h (datagram m bytes) es le from rest = kept h (datagram m bytes) es rest
  one h (tick m) es le from rest = tick_case h m es le from rest (is_idle p s h (tick m)) refl
  one h (command m source address) es le from rest = kept h (command m source address) es rest

  all : (h : History) (es : List Entry) → AreFrom (now h) es → from_events p s h (busy p s h es) ≡ from_events p s h es
  all h [] from = refl
  all h (e ∷ es) from =
      one h e es from.0 from.1 (all (stepped p s h e).after es (subst (λ (m : ℕ). AreFrom m es) (sym (now_after h e from.0)) from.1))

pub busy_events : BusyEvents
busy_events p s h es from = all p s h es from

pub busy_gate : BusyGate
busy_gate p s es from = ap (λ (given : List Emitted). opening p.gateway s ++ given) (all p s [] es from)
