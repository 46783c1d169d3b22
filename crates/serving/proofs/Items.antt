-- What one item does to the outside.
use Rattle.std.proofs.Common.{◌≡◌, ◌≢◌, ℕ, ◌+◌, ◌-◌, ◌≤◌, zero, suc, Bool, true, false, List, [], ◌∷◌, ◌++◌, length, take, drop, refl, sym, ap, subst, ◌∙◌, append_assoc, add-one, arith}
use Rattle.std.specs.Prelude.{codes, OnErr, Option, Some, None, Result, Ok, Err}
use Rattle.std.specs.List.{slice_get}
use Rattle.std.proofs.lemmas.Bool.{eqb-true}
use Rattle.std.proofs.lemmas.List.{append-nil, take-append-drop, take_all, length-drop, length-take, nil_from_length}
use Rattle.n2k_id.specs.Frame.{BusFrame}
use Rattle.report_rules.specs.Rules as rules
use Rattle.gate_events.specs.declared.emit.Detail.TheVariants as detail
use Rattle.gate_events.specs.declared.emit.Report.{Report}
use Rattle.hex.specs.Hex.{IsBytes}
use Rattle.capture_text.specs.Writing.{frame_text, time_text}
use Rattle.gate_outside.specs.declared.Failed.{Failed}
use Rattle.gate_outside.specs.Faults.{HasCause}
use Rattle.gate_outside.specs.Link.{GoesOn, Handed, Outcome, Traffic, failed_also, handed_also, received_also}
use Rattle.gate_outside.specs.LinkMemory.{largest_arrival}
use Rattle.gate_outside.specs.Told.{Joins}
use Rattle.capture_stream.specs.Writer.{SendsPart, Writes}
use Rattle.capture_stream.proofs.WriterLemmas.{Joins-nil}
use Rattle.gate_events.specs.Emit as emits
use Rattle.gate_events.specs.Emit.{Emit}
use Rattle.history.specs.Emits.{at, report_of}
use Rattle.capture_text.specs.Emitted.{line_of}
use Rattle.serving.specs.Handing.{Broken, Hands, HandsAll, Takes, WritesReport, passed}
use Rattle.serving.specs.Served.{ItemHasLine, IsWritten, NetFits, Passes, Stops, Tried, item_of, outside, over_bus, over_net, to_text}
use Rattle.serving.specs.Turns as turns
use Rattle.serving.specs.Turns.{Item, all_made, made, recorded_where}
use Rattle.serving.proofs.Passing.{goes_as, goes_still, traffic_same, traffic_still}

-- ---- a receive

pub receives_by_bus : (outcome : Outcome) {b b' n : Option Traffic} {told : Option (List ℕ)} {faults : ℕ} → GoesOn (received_also outcome) b b'
    → Passes (outside b n told faults) (outside b' n told faults) (passed (outcome ∷ []) [] [])
receives_by_bus outcome {b} {b'} {n} {told} {faults} goes = record {
  bus = goes_as (received_also outcome) (over_bus (passed (outcome ∷ []) [] []))
      (λ t. let r = t.received ++ outcome ∷ [] in
      traffic_same t.attached r r t.handed (t.handed ++ []) t.sends (t.sends ++ []) refl (sym (append-nil t.handed)) (sym (append-nil t.sends))) b b' goes;
  net = goes_still (over_net (passed (outcome ∷ []) [] [])) traffic_still n;
  text = Joins-nil told;
  lines = tt;
  steady = refl;
}

pub receives_by_net : (outcome : Outcome) {b n n' : Option Traffic} {told : Option (List ℕ)} {faults : ℕ} → GoesOn (received_also outcome) n n'
    → Passes (outside b n told faults) (outside b n' told faults) (passed [] (outcome ∷ []) [])
receives_by_net outcome {b} {n} {n'} {told} {faults} goes = record {
  bus = goes_still (over_bus (passed [] (outcome ∷ []) [])) traffic_still b;
  net = goes_as (received_also outcome) (over_net (passed [] (outcome ∷ []) []))
      (λ t. let r = t.received ++ outcome ∷ [] in
      traffic_same t.attached r r t.handed (t.handed ++ []) t.sends (t.sends ++ []) refl (sym (append-nil t.handed)) (sym (append-nil t.sends))) n n' goes;
  text = Joins-nil told;
  lines = tt;
  steady = refl;
}

-- ---- what came over the network

bytes_front : (count : ℕ) (bytes : List ℕ) → IsBytes bytes → IsBytes (take count bytes)
bytes_front zero bytes are i = omega arith
bytes_front (suc count) [] are i = omega arith
bytes_front (suc count) (x ∷ bytes) are zero = are zero
bytes_front (suc count) (x ∷ bytes) are (suc i) = bytes_front count bytes (λ (k : ℕ). are (suc k)) i

-- what is at the front of a buffer of as many bytes as a link gives
pub net_fits : (count : ℕ) (buffer : List ℕ) → length buffer ≡ largest_arrival → IsBytes buffer → NetFits (Ok (Some (take count buffer)))
net_fits count buffer long are = (omega (arith, length-take count buffer, long), bytes_front count buffer are)

-- ---- a send

abbrev pub item : ℕ → Emit → Bool → Tried
item m e failed = record { due = made (record { moment = m; emit = e }); failed = failed }

sent_one : (pair : Handed) (t : Traffic) → handed_also pair t
    ≡ record { received = t.received ++ []; handed = t.handed ++ pair ∷ []; sends = t.sends ++ false ∷ []; attached = t.attached }
sent_one pair t =
    let h = t.handed ++ pair ∷ [] in
    let s = t.sends ++ false ∷ [] in
    traffic_same t.attached t.received (t.received ++ []) h h s s (sym (append-nil t.received)) refl refl

failed_one : (t : Traffic) → failed_also t
    ≡ record { received = t.received ++ []; handed = t.handed ++ []; sends = t.sends ++ true ∷ []; attached = t.attached }
failed_one t =
    let s = t.sends ++ true ∷ [] in
    traffic_same t.attached t.received (t.received ++ []) t.handed (t.handed ++ []) s s (sym (append-nil t.received)) (sym (append-nil t.handed)) refl

-- ---- a text is written

pub taken_so : (a b : Option (List ℕ)) (faults faults' : ℕ) (text : List ℕ) (result : Result (Unit {0}) Failed) → Writes a b text [] result → OnErr result (SendsPart a b text)
    → HasCause faults faults' result → Takes a b faults faults' text result
taken_so a b faults faults' text (Ok done) sends part cause = (
  subst (λ (x : List ℕ). Joins a b x) (sym (append-nil sends.sent) ∙ sends.whole) sends.joins,
  cause.steady,
)
taken_so a b faults faults' text (Err e) sends part cause = record {
  part = part.sends.sent;
  untaken = part.left;
  joins = part.sends.joins;
  front = part.sends.whole;
  some = part.some;
  rose = cause.rose;
}

-- ---- an item

abbrev pub due_now : ℕ → Emit → List Item
due_now m e = made (record { moment = m; emit = e }) ∷ []

abbrev pub told_now : ℕ → Emit → List Item
told_now m e = turns.told (record { moment = m; emit = e }) ∷ []

-- a frame or a datagram was sent
pub frame_sent : (m : ℕ) (f : BusFrame) (b b' n : Option Traffic) (told : Option (List ℕ)) (faults : ℕ)
    → GoesOn (handed_also (codes "CAN0", time_text m ++ frame_text f)) b b' → HandsAll (outside b n told faults) (outside b' n told faults) (due_now m (emits.can f))
frame_sent m f b b' n told faults goes = record {
  tried = item m (emits.can f) false ∷ [];
  passes = record {
    bus = goes_as (handed_also (codes "CAN0", time_text m ++ frame_text f)) (over_bus (passed [] [] (item m (emits.can f) false ∷ [])))
        (sent_one (codes "CAN0", time_text m ++ frame_text f)) b b' goes;
    net = goes_still (over_net (passed [] [] (item m (emits.can f) false ∷ []))) traffic_still n;
    text = Joins-nil told;
    lines = (tt, tt);
    steady = refl;
  };
  is_due = refl;
}

pub datagram_sent : (m : ℕ) (group bytes : List ℕ) (b n n' : Option Traffic) (told : Option (List ℕ)) (faults : ℕ)
    → GoesOn (handed_also (group, bytes)) n n' → HandsAll (outside b n told faults) (outside b n' told faults) (due_now m (emits.net group bytes))
datagram_sent m group bytes b n n' told faults goes = record {
  tried = item m (emits.net group bytes) false ∷ [];
  passes = record {
    bus = goes_still (over_bus (passed [] [] (item m (emits.net group bytes) false ∷ []))) traffic_still b;
    net = goes_as (handed_also (group, bytes)) (over_net (passed [] [] (item m (emits.net group bytes) false ∷ []))) (sent_one (group, bytes)) n n' goes;
    text = Joins-nil told;
    lines = (tt, tt);
    steady = refl;
  };
  is_due = refl;
}

-- The item is written, or the report in its place: its line was, or a part of it.
module _ (t : Tried) (line : List ℕ) (is : IsWritten (item_of t)) (one : ItemHasLine (item_of t)) (text : to_text t ≡ line) where
  pub written_passes : (bus net : List Outcome) (b b' n n' : Option Traffic) (told told' : Option (List ℕ)) (faults faults' : ℕ)
      → GoesOn (over_bus (passed bus net (t ∷ []))) b b' → GoesOn (over_net (passed bus net (t ∷ []))) n n'
      → Joins told told' line → faults' ≡ faults
      → Passes (outside b n told faults) (outside b' n' told' faults') (passed bus net (t ∷ []))
  written_passes bus net b b' n n' told told' faults faults' over_b over_n joins steady = record {
    bus = over_b;
    net = over_n;
    text = subst (λ (x : List ℕ). Joins told told' x) (sym (append-nil (to_text t) ∙ text)) joins;
    lines = (one, tt);
    steady = steady;
  }

  pub written_stops : (bus net : List Outcome) (b b' n n' : Option Traffic) (told told' : Option (List ℕ)) (faults faults' : ℕ)
      → GoesOn (over_bus (passed bus net (t ∷ []))) b b' → GoesOn (over_net (passed bus net (t ∷ []))) n n'
      → Broken told told' faults faults' line
      → Stops (outside b n told faults) (outside b' n' told' faults') (passed bus net []) t
  written_stops bus net b b' n n' told told' faults faults' over_b over_n x = record {
    bus = over_b;
    net = over_n;
    is_written = is;
    part = x.part;
    untaken = x.untaken;
    text = x.joins;
    front = x.front ∙ sym text;
    some = x.some;
    rose = x.rose;
  }

  pub written_hands : (b b' n n' : Option Traffic) (told told' : Option (List ℕ)) (faults faults' : ℕ) (result : Result (Unit {0}) Failed)
      → GoesOn (over_bus (passed [] [] (t ∷ []))) b b' → GoesOn (over_net (passed [] [] (t ∷ []))) n n' → Takes told told' faults faults' line result
      → Hands (outside b n told faults) (outside b' n' told' faults') (t.due ∷ []) result
  written_hands b b' n n' told told' faults faults' (Ok done) over_b over_n x = record {
    tried = t ∷ [];
    passes = written_passes [] [] b b' n n' told told' faults faults' over_b over_n x.0 x.1;
    is_due = refl;
  }
  written_hands b b' n n' told told' faults faults' (Err e) over_b over_n x = record {
    tried = [];
    last = t;
    stops = written_stops [] [] b b' n n' told told' faults faults' over_b over_n x;
    is_front = ([], refl);
  }

-- a report
pub report_written : (m : ℕ) (r : Report) (b n : Option Traffic) (told told' : Option (List ℕ)) (faults faults' : ℕ) (result : Result (Unit {0}) Failed)
    → WritesReport m r told told' faults faults' result
    → Hands (outside b n told faults) (outside b n told' faults') (due_now m (emits.report r)) result
report_written m r b n told told' faults faults' result x =
    let t = item m (emits.report r) false in
    written_hands t (line_of (record { moment = m; emit = emits.report r })) (r, refl) x.0 refl b b n n told told' faults faults' result
    (goes_still (over_bus (passed [] [] (t ∷ []))) traffic_still b) (goes_still (over_net (passed [] [] (t ∷ []))) traffic_still n) x.1

-- a report of what came and was no event
pub report_told : (m : ℕ) (r : Report) (b n : Option Traffic) (told told' : Option (List ℕ)) (faults faults' : ℕ) (result : Result (Unit {0}) Failed)
    → WritesReport m r told told' faults faults' result
    → Hands (outside b n told faults) (outside b n told' faults') (told_now m (emits.report r)) result
report_told m r b n told told' faults faults' result x =
    let t : Tried = record { due = turns.told (record { moment = m; emit = emits.report r }); failed = false } in
    written_hands t (line_of (record { moment = m; emit = emits.report r })) (r, refl) x.0 refl b b n n told told' faults faults' result
    (goes_still (over_bus (passed [] [] (t ∷ []))) traffic_still b) (goes_still (over_net (passed [] [] (t ∷ []))) traffic_still n) x.1

-- a line of what came
pub line_recorded : (line : List ℕ) (b n : Option Traffic) (told told' : Option (List ℕ)) (faults faults' : ℕ) (result : Result (Unit {0}) Failed)
    → Takes told told' faults faults' (line ++ 10 ∷ []) result
    → Hands (outside b n told faults) (outside b n told' faults') (recorded_where true line) result
line_recorded line b n told told' faults faults' result x =
    let t : Tried = record { due = turns.recorded line; failed = false } in
    written_hands t (line ++ 10 ∷ []) tt tt refl b b n n told told' faults faults' result
    (goes_still (over_bus (passed [] [] (t ∷ []))) traffic_still b) (goes_still (over_net (passed [] [] (t ∷ []))) traffic_still n) x

-- a frame or a datagram couldn't be sent, and a report was written in its place
pub frame_failed : (m : ℕ) (f : BusFrame) (b b' n : Option Traffic) (told told' : Option (List ℕ)) (faults faults' : ℕ) (result : Result (Unit {0}) Failed)
    → GoesOn failed_also b b' → WritesReport m (report_of rules.send_failed detail.Bus) told told' faults faults' result
    → Hands (outside b n told faults) (outside b' n told' faults') (due_now m (emits.can f)) result
frame_failed m f b b' n told told' faults faults' result goes x =
    let t = item m (emits.can f) true in
    let r = report_of rules.send_failed detail.Bus in
    written_hands t (line_of (record { moment = m; emit = emits.report r })) (r, refl) x.0 refl b b' n n told told' faults faults' result
    (goes_as failed_also (over_bus (passed [] [] (t ∷ []))) failed_one b b' goes) (goes_still (over_net (passed [] [] (t ∷ []))) traffic_still n) x.1

pub datagram_failed : (m : ℕ) (group bytes : List ℕ) (b n n' : Option Traffic) (told told' : Option (List ℕ)) (faults faults' : ℕ)
    (result : Result (Unit {0}) Failed)
    → GoesOn failed_also n n' → WritesReport m (report_of rules.send_failed detail.Net) told told' faults faults' result
    → Hands (outside b n told faults) (outside b n' told' faults') (due_now m (emits.net group bytes)) result
datagram_failed m group bytes b n n' told told' faults faults' result goes x =
    let t = item m (emits.net group bytes) true in
    let r = report_of rules.send_failed detail.Net in
    written_hands t (line_of (record { moment = m; emit = emits.report r })) (r, refl) x.0 refl b b n n' told told' faults faults' result
    (goes_still (over_bus (passed [] [] (t ∷ []))) traffic_still b) (goes_as failed_also (over_net (passed [] [] (t ∷ []))) failed_one n n' goes) x.1

-- ---- the items of a list, from a place on

abbrev pub due_at : ℕ → ℕ → List Emit → List Item
due_at m place emits = all_made (at m (drop place emits))

next_after : (m : ℕ) (emits : List Emit) (place : ℕ) → due_at m place emits ≡ all_made (at m (take 1 (drop place emits))) ++ due_at m (suc place) emits
next_after m [] zero = refl
next_after m [] (suc place) = refl
next_after m (e ∷ emits) zero = refl
next_after m (e ∷ emits) (suc place) = next_after m emits place

pub next_due : (m : ℕ) (emits : List Emit) (place : ℕ) → due_at m place emits ≡ all_made (at m (take 1 (drop place emits))) ++ due_at m (place + 1) emits
next_due m emits place =
    subst (λ (k : ℕ). due_at m place emits ≡ all_made (at m (take 1 (drop place emits))) ++ due_at m k emits) (sym (add-one place)) (next_after m emits place)

pub one_due : (m : ℕ) (emits : List Emit) (place : ℕ) (x : Emit) → slice_get emits place ≡ Some x → due_now m x ≡ all_made (at m (take 1 (drop place emits)))
one_due m [] place x is = absurd cc
one_due m (e ∷ emits) zero x is =
    let same : e ≡ x = cc in
    ap (λ (y : Emit). due_now m y) (sym same)
one_due m (e ∷ emits) (suc place) x is = one_due m emits place x is

pub none_due : (m : ℕ) (emits : List Emit) (place : ℕ) → slice_get emits place ≡ None → [] ≡ all_made (at m (take 1 (drop place emits)))
none_due m [] zero is = refl
none_due m [] (suc place) is = refl
none_due m (e ∷ emits) zero is = absurd cc
none_due m (e ∷ emits) (suc place) is = none_due m emits place is

pub no_due : (m : ℕ) (emits : List Emit) (place : ℕ) → length emits ≤ place → due_at m place emits ≡ []
no_due m [] zero le = refl
no_due m [] (suc place) le = refl
no_due m (e ∷ emits) zero le = absurd (omega (arith, le))
no_due m (e ∷ emits) (suc place) le = no_due m emits place (omega (arith, le))
