-- What is sent behind what was sent before.
use Rattle.std.proofs.Common.{◌≡◌, ℕ, ◌+◌, ◌≤◌, zero, suc, List, [], ◌∷◌, ◌++◌, length, take, drop, refl, sym, ap, subst, ◌∙◌, append_assoc, add-one, arith}
use Rattle.std.specs.Prelude.{Option, Some, None, Result, Ok, Err}
use Rattle.std.specs.List.{slice_get}
use Rattle.std.proofs.lemmas.List.{append-nil}
use Rattle.gate_events.specs.declared.emit.Emit.{Emit as Lent}
use Rattle.gate_events.specs.declared.emit.Emit.TheVariants as lent
use Rattle.capture_text.specs.Writing.{emit_text, line_text, time_text}
use Rattle.gate_outside.specs.Faults.{HasCause}
use Rattle.capture_stream.specs.Answering.{Sent}
use Rattle.capture_stream.specs.Writer.{Sends, Writes}
use Rattle.capture_stream.proofs.WriterLemmas.{Sends-behind, Sends-none, Sends-then}
use Rattle.gate_outbox.specs.Output.{emit_of}
use Rattle.gate_events.specs.Emit.{Emit}
use Rattle.history.specs.Emits.{at}
use Rattle.capture_text.specs.Emitted.{emit_text as text_of, line_of}
use Rattle.replaying.specs.Replayed.{emitted_text}
use Rattle.replaying.specs.Replaying.{IsSent}

-- ---- the causes of failures, one call behind the other

pub same_cause : {E : Type 0} (a b : ℕ) (result : Result (Unit {0}) E) → b ≡ a → HasCause a a result → HasCause a b result
same_cause a b result same cause = subst (λ (x : ℕ). HasCause a x result) (sym same) cause

cause_then : {E : Type 0} (a b c : ℕ) (done : Unit {0}) (result : Result (Unit {0}) E) → HasCause {T = Unit {0}} {E = E} a b (Ok done) → HasCause b c result
    → HasCause a c result
cause_then a b c done result first next = subst (λ (x : ℕ). HasCause x c result) first.steady next

-- ---- texts, one behind the other

sends_behind : (a b c : Option (List ℕ)) (waiting before text waiting' left : List ℕ) → Sends a b (waiting ++ before) waiting' → Sends b c (waiting' ++ text) left
    → Sends a c (waiting ++ (before ++ text)) left
sends_behind a b c waiting before text waiting' left s t =
    subst (λ (x : List ℕ). Sends a c x left) (append_assoc waiting before text) (Sends-then a b c (waiting ++ before) text waiting' left s t)

pub writes_behind : {E : Type 0} (a b c : Option (List ℕ)) (waiting before text waiting' left : List ℕ) (result : Result (Unit {0}) E) → Sends a b (waiting ++ before) waiting'
    → Writes b c (waiting' ++ text) left result → Writes a c (waiting ++ (before ++ text)) left result
writes_behind a b c waiting before text waiting' left (Ok done) s t = sends_behind a b c waiting before text waiting' left s t
writes_behind a b c waiting before text waiting' left (Err e) s t = (t.0, sends_behind a b c waiting before text waiting' t.0 s t.1)

pub sent_more : {E : Type 0} (a b c : Option (List ℕ)) (faults faults' faults'' : ℕ) (waiting before text waiting' left : List ℕ) (done : Unit {0}) (result : Result (Unit {0}) E)
    → IsSent {E = E} a faults waiting before b faults' waiting' (Ok done) → Writes b c (waiting' ++ text) left result → HasCause faults' faults'' result
    → IsSent a faults waiting (before ++ text) c faults'' left result
sent_more a b c faults faults' faults'' waiting before text waiting' left done result s writes cause = record {
  writes = writes_behind a b c waiting before text waiting' left result s.writes writes;
  cause = cause_then faults faults' faults'' done result s.cause cause;
}

-- where it failed before, nothing more is written
pub sent_no_more : {E : Type 0} (a b : Option (List ℕ)) (faults faults' : ℕ) (waiting before text waiting' left : List ℕ) (e e' : E)
    → IsSent {E = E} a faults waiting before b faults' waiting' (Err e) → IsSent {E = E} a faults waiting (before ++ text) b faults' left (Err e')
sent_no_more a b faults faults' waiting before text waiting' left e e' s = record {
  writes = (
    s.writes.0 ++ text,
    subst (λ (x : List ℕ). Sends a b x (s.writes.0 ++ text)) (append_assoc waiting before text) (Sends-behind a b (waiting ++ before) s.writes.0 text s.writes.1),
  );
  cause = record { never_falls = s.cause.never_falls; rose = s.cause.rose; steady = tt };
}

-- nothing was sent
pub sent_none : {E : Type 0} (told : Option (List ℕ)) (faults : ℕ) (waiting : List ℕ) (done : Unit {0})
    → IsSent {E = E} told faults waiting [] told faults waiting (Ok done)
sent_none told faults waiting done = record {
  writes = subst (λ (x : List ℕ). Sends told told x waiting) (sym (append-nil waiting)) (Sends-none told waiting);
  cause = record { never_falls = omega arith; rose = tt; steady = refl };
}

pub sent_still : {E : Type 0} (a b : Option (List ℕ)) (faults faults' : ℕ) (waiting before waiting' : List ℕ) (result : Result (Unit {0}) E)
    → IsSent a faults waiting before b faults' waiting' result → IsSent a faults waiting (before ++ []) b faults' waiting' result
sent_still a b faults faults' waiting before waiting' result s =
    subst (λ (x : List ℕ). IsSent a faults waiting x b faults' waiting' result) (sym (append-nil before)) s

-- what was sent is what a line gives
pub is_sent : {A E : Type 0} (Gives : List ℕ → A → Type 0) (a b : Option (List ℕ)) (waiting text waiting' : List ℕ) (after : A) (result : Result (Unit {0}) E)
    → Gives text after → Writes a b (waiting ++ text) waiting' result → Sent Gives a b waiting waiting' after result
is_sent Gives a b waiting text waiting' after (Ok done) gives s = (text, gives, s)
is_sent Gives a b waiting text waiting' after (Err e) gives s = (text, after, gives, s.0, s.1)

-- ---- the line of an emit

same_text : (e : Lent) → emit_text e ≡ text_of (emit_of e)
same_text (lent.Can frame) = refl
same_text (lent.Net group bytes) = refl
same_text (lent.Report what) = refl

pub same_line : (m : ℕ) (e : Lent) → line_text e m ++ 10 ∷ [] ≡ line_of (record { moment = m; emit = emit_of e })
same_line m e = ap (λ (x : List ℕ). (time_text m ++ x) ++ 10 ∷ []) (same_text e)

-- ---- the lines of a list of emits, from a place on

abbrev pub lines_at : ℕ → ℕ → List Emit → List ℕ
lines_at m place emits = emitted_text (at m (drop place emits))

next_after : (m : ℕ) (emits : List Emit) (place : ℕ) → lines_at m place emits ≡ emitted_text (at m (take 1 (drop place emits))) ++ lines_at m (suc place) emits
next_after m [] zero = refl
next_after m [] (suc place) = refl
next_after m (e ∷ emits) zero =
    ap (λ (x : List ℕ). x ++ emitted_text (at m emits)) (sym (append-nil (line_of (record { moment = m; emit = e }))))
next_after m (e ∷ emits) (suc place) = next_after m emits place

pub next_line : (m : ℕ) (emits : List Emit) (place : ℕ) → lines_at m place emits ≡ emitted_text (at m (take 1 (drop place emits))) ++ lines_at m (place + 1) emits
next_line m emits place =
    subst (λ (k : ℕ). lines_at m place emits ≡ emitted_text (at m (take 1 (drop place emits))) ++ lines_at m k emits) (sym (add-one place))
    (next_after m emits place)

pub one_line : (m : ℕ) (emits : List Emit) (place : ℕ) (x : Emit) → slice_get emits place ≡ Some x
    → line_of (record { moment = m; emit = x }) ≡ emitted_text (at m (take 1 (drop place emits)))
one_line m [] place x is = absurd cc
one_line m (e ∷ emits) zero x is =
    let same : e ≡ x = cc in
    ap (λ (y : Emit). line_of (record { moment = m; emit = y })) (sym same) ∙ sym (append-nil (line_of (record { moment = m; emit = e })))
one_line m (e ∷ emits) (suc place) x is = one_line m emits place x is

pub nothing_there : (m : ℕ) (emits : List Emit) (place : ℕ) → slice_get emits place ≡ None → emitted_text (at m (take 1 (drop place emits))) ≡ []
nothing_there m [] zero is = refl
nothing_there m [] (suc place) is = refl
nothing_there m (e ∷ emits) zero is = absurd cc
nothing_there m (e ∷ emits) (suc place) is = nothing_there m emits place is

pub no_line : (m : ℕ) (emits : List Emit) (place : ℕ) → length emits ≤ place → lines_at m place emits ≡ []
no_line m [] zero le = refl
no_line m [] (suc place) le = refl
no_line m (e ∷ emits) zero le = absurd (omega (arith, le))
no_line m (e ∷ emits) (suc place) le = no_line m emits place (omega (arith, le))
