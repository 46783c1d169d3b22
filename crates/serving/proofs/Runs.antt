-- A run of turns, one behind the other.
use Rattle.std.proofs.Common.{◌≡◌, ℕ, ◌+◌, ◌<◌, suc, List, [], ◌∷◌, ◌++◌, length, map, refl, sym, ap, subst, ◌∙◌, append_assoc, arith, length-append}
use Rattle.std.specs.Prelude.{Option, Some, None}
use Rattle.std.specs.List.{AllByRecursion}
use Rattle.std.proofs.ByRecursion.{All-append}
use Rattle.std.proofs.lemmas.List.{append-nil, length-map, map-append}
use Rattle.gate_outside.specs.Faults.{Rose}
use Rattle.gate_outside.specs.Link.{Outcome}
use Rattle.gate_outside.specs.Told.{Joins}
use Rattle.capture_stream.proofs.WriterLemmas.{Joins-nil, Joins-then}
use Rattle.bridge.specs.Running.{Running, RunningStands}
use Rattle.bridge.specs.BridgeStands.{IsNew}
use Rattle.bridge.specs.Kept.{Bridged}
use Rattle.bridge.specs.BridgeSettings.{BridgeSettings}
use Rattle.serving.specs.Handing.{Ends, TurnsAll, TurnsSome, passed}
use Rattle.serving.specs.Served.{IsFront, NetFits, Outside, Passes, Tried, all_due}
use Rattle.serving.specs.Turns.{Item, Turned, due_from, due_of, turn}
use Rattle.serving.proofs.Passing.{due_append, front_as, front_then, passes_none, passes_then, stops_then}

-- what a turn read and received
pub record Heard : Type 0 where
  pub reading : ℕ
  pub bus : Outcome
  pub net : Outcome

abbrev pub readings : List Heard → List ℕ
readings heard = map (λ h. h.reading) heard

abbrev pub by_bus : List Heard → List Outcome
by_bus heard = map (λ h. h.bus) heard

abbrev pub by_net : List Heard → List Outcome
by_net heard = map (λ h. h.net) heard

module _ (p : BridgeSettings) where
  abbrev pub turn_of : ℕ → Heard → Option Running → Turned
  turn_of number h g = turn p number h.reading (h.bus ∷ []) (h.net ∷ []) g

  -- what was lived through after these turns
  abbrev pub after_turns : ℕ → Option Running → List Heard → Option Running
  after_turns number g [] = g
  after_turns number g (h ∷ heard) = after_turns (number + 1) (Some (turn_of number h g).after) heard

  -- one more turn, which may have come to its end or not
  pub due_then : (number : ℕ) (g : Option Running) (heard : List Heard) (reading : ℕ) (bus net : List Outcome)
      → due_from p number g (readings heard ++ reading ∷ []) (by_bus heard ++ bus) (by_net heard ++ net)
      ≡ due_from p number g (readings heard) (by_bus heard) (by_net heard)
      ++ (turn p (number + length heard) reading bus net (after_turns number g heard)).due
  due_then number g [] reading bus net =
      let here : number ≡ number + 0 = omega arith in
      append-nil (turn p number reading bus net g).due ∙ ap (λ (k : ℕ). (turn p k reading bus net g).due) here
  due_then number g (h ∷ heard) reading bus net =
      let x = turn_of number h g in
      let rest = due_from p (number + 1) (Some x.after) (readings heard) (by_bus heard) (by_net heard) in
      let after = after_turns (number + 1) (Some x.after) heard in
      let here : (number + 1) + length heard ≡ number + suc (length heard) = omega arith in
      ap (λ (z : List Item). x.due ++ z) (due_then (number + 1) (Some x.after) heard reading bus net)
      ∙ ap (λ (k : ℕ). x.due ++ (rest ++ (turn p k reading bus net after).due)) here
      ∙ sym (append_assoc x.due rest (turn p (number + suc (length heard)) reading bus net after).due)

  pub after_then : (number : ℕ) (g : Option Running) (heard : List Heard) (h : Heard)
      → after_turns number g (heard ++ h ∷ []) ≡ Some (turn_of (number + length heard) h (after_turns number g heard)).after
  after_then number g [] h =
      let here : number ≡ number + 0 = omega arith in
      ap (λ (k : ℕ). Some (turn_of k h g).after) here
  after_then number g (before ∷ heard) h =
      let x = turn_of number before g in
      let after = after_turns (number + 1) (Some x.after) heard in
      let here : (number + 1) + length heard ≡ number + suc (length heard) = omega arith in
      after_then (number + 1) (Some x.after) heard h ∙ ap (λ (k : ℕ). Some (turn_of k h after).after) here

-- ---- how far a run has come

-- So many turns were taken, and all that they make went out.
pub record Progress (count : ℕ) (first now : Bridged) (clock clock' : Option (List ℕ)) (old new : Outside) : Type 0 where
  pub heard : List Heard
  pub counted : length heard ≡ count
  pub tried : List Tried
  pub fits : AllByRecursion NetFits (by_net heard)
  pub reads : Joins clock clock' (readings heard)
  pub passes : Passes old new (passed (by_bus heard) (by_net heard) tried)
  pub is_due : (p : BridgeSettings) → IsNew p first → all_due tried ≡ due_of p (readings heard) (by_bus heard) (by_net heard)
  pub stands : (p : BridgeSettings) → IsNew p first → RunningStands p (after_turns p 1 None heard) now

pub progress_none : (first : Bridged) (clock : Option (List ℕ)) (old : Outside) → Progress 0 first first clock clock old old
progress_none first clock old = record {
  heard = [];
  counted = refl;
  tried = [];
  fits = tt;
  reads = Joins-nil clock;
  passes = passes_none old;
  is_due = λ p new. refl;
  stands = λ p new. new;
}

module _ (count : ℕ) (first now : Bridged) (a b c : Option (List ℕ)) (old between new : Outside) (x : Progress count first now a b old between) where
  number_is : count + 1 ≡ 1 + length x.heard
  number_is = omega (arith, x.counted)

  pub progress_more : (after : Bridged) → TurnsAll (count + 1) now after b c between new → Progress (count + 1) first after a c old new
  progress_more after t =
      let h : Heard = record { reading = t.reading; bus = t.bus; net = t.net } in
      let d = t.does in
      let all_readings : readings x.heard ++ t.reading ∷ [] ≡ readings (x.heard ++ h ∷ []) = sym (map-append (λ (k : Heard). k.reading) x.heard (h ∷ [])) in
      let all_bus : by_bus x.heard ++ t.bus ∷ [] ≡ by_bus (x.heard ++ h ∷ []) = sym (map-append (λ (k : Heard). k.bus) x.heard (h ∷ [])) in
      let all_net : by_net x.heard ++ t.net ∷ [] ≡ by_net (x.heard ++ h ∷ []) = sym (map-append (λ (k : Heard). k.net) x.heard (h ∷ [])) in
      record {
        heard = x.heard ++ h ∷ [];
        counted = omega (arith, length-append x.heard (h ∷ []), x.counted);
        tried = x.tried ++ d.tried;
        fits = subst (λ (ns : List Outcome). AllByRecursion NetFits ns) all_net (All-append NetFits (by_net x.heard) (t.net ∷ []) x.fits (t.fits, tt));
        reads = subst (λ (rs : List ℕ). Joins a c rs) all_readings (Joins-then a b c (readings x.heard) (t.reading ∷ []) x.reads t.reads);
        passes =
            subst (λ (bs : List Outcome). Passes old new (passed bs (by_net (x.heard ++ h ∷ [])) (x.tried ++ d.tried))) all_bus
            (subst (λ (ns : List Outcome). Passes old new (passed (by_bus x.heard ++ t.bus ∷ []) ns (x.tried ++ d.tried))) all_net
            (passes_then old between new (passed (by_bus x.heard) (by_net x.heard) x.tried) (passed (t.bus ∷ []) (t.net ∷ []) d.tried) x.passes d.passes));
        is_due = λ p is_new.
            let g = after_turns p 1 None x.heard in
            due_append x.tried d.tried
            ∙ ap (λ (z : List Item). z ++ all_due d.tried) (x.is_due p is_new)
            ∙ ap (λ (z : List Item). due_of p (readings x.heard) (by_bus x.heard) (by_net x.heard) ++ z)
            (d.is_due p g (x.stands p is_new) ∙ ap (λ (k : ℕ). (turn_of p k h g).due) number_is)
            ∙ sym (due_then p 1 None x.heard t.reading (t.bus ∷ []) (t.net ∷ []))
            ∙ ap (λ (rs : List ℕ). due_of p rs (by_bus x.heard ++ t.bus ∷ []) (by_net x.heard ++ t.net ∷ [])) all_readings
            ∙ ap (λ (bs : List Outcome). due_of p (readings (x.heard ++ h ∷ [])) bs (by_net x.heard ++ t.net ∷ [])) all_bus
            ∙ ap (λ (ns : List Outcome). due_of p (readings (x.heard ++ h ∷ [])) (by_bus (x.heard ++ h ∷ [])) ns) all_net;
        stands = λ p is_new.
            let g = after_turns p 1 None x.heard in
            subst (λ (r : Option Running). RunningStands p r after)
            (ap (λ (k : ℕ). Some (turn_of p k h g).after) number_is ∙ sym (after_then p 1 None x.heard h))
            (d.stands p g (x.stands p is_new));
      }

  -- a write failed in the turn that came next
  pub progress_breaks : (turns : ℕ) → count < turns → TurnsSome (count + 1) now b c between new → Ends turns first a c old new 4
  progress_breaks turns few t p is_new =
      let d = t.does in
      let g = after_turns p 1 None x.heard in
      let before = due_of p (readings x.heard) (by_bus x.heard) (by_net x.heard) in
      let front = all_due ((x.tried ++ d.tried) ++ d.last ∷ []) in
      record {
        done = λ other. absurd cc;
        sink_failed = λ same. record {
          readings = readings x.heard ++ t.reading ∷ [];
          passed = passed (by_bus x.heard ++ t.bus) (by_net x.heard ++ t.net) (x.tried ++ d.tried);
          last = d.last;
          reads = Joins-then a b c (readings x.heard) (t.reading ∷ []) x.reads t.reads;
          stops = stops_then old between new (passed (by_bus x.heard) (by_net x.heard) x.tried) (passed t.bus t.net d.tried) d.last x.passes d.stops;
          is_front =
              front_as front front (before ++ (turn p (1 + length x.heard) t.reading t.bus t.net g).due)
              (due_of p (readings x.heard ++ t.reading ∷ []) (by_bus x.heard ++ t.bus) (by_net x.heard ++ t.net)) refl
              (sym (due_then p 1 None x.heard t.reading t.bus t.net))
              (front_then x.tried d.tried d.last before (turn p (1 + length x.heard) t.reading t.bus t.net g).due (x.is_due p is_new)
              (subst (λ (k : ℕ). IsFront (all_due (d.tried ++ d.last ∷ [])) (turn p k t.reading t.bus t.net g).due) number_is
              (d.is_front p g (x.stands p is_new))));
          within = omega (arith, few, x.counted, length-append (readings x.heard) (t.reading ∷ []), length-map x.heard (λ h. h.reading));
          cut =
              let r : length (readings x.heard ++ t.reading ∷ []) ≡ length x.heard + 1 =
              omega (arith, length-append (readings x.heard) (t.reading ∷ []), length-map x.heard (λ h. h.reading)) in
              let b : length (by_bus x.heard ++ t.bus) ≡ length x.heard + length t.bus =
              omega (arith, length-append (by_bus x.heard) t.bus, length-map x.heard (λ h. h.bus)) in
              let n : length (by_net x.heard ++ t.net) ≡ length x.heard + length t.net =
              omega (arith, length-append (by_net x.heard) t.net, length-map x.heard (λ h. h.net)) in
              let few_net = t.cut.0 in
              let few_bus = t.cut.1 in
              let least = t.cut.2 in (omega (arith, b, n, few_net), omega (arith, r, b, few_bus), omega (arith, r, n, least));
        };
      }

  pub breaks_rose : TurnsSome (count + 1) now b c between new → Rose old.faults new.faults
  breaks_rose t = subst (λ (n : ℕ). Rose n new.faults) x.passes.steady t.does.stops.rose

-- all turns were taken
pub progress_ends : (turns count : ℕ) (first now : Bridged) (a b : Option (List ℕ)) (old new : Outside) → count ≡ turns → Progress count first now a b old new
    → Ends turns first a b old new 0
progress_ends turns count first now a b old new all x p is_new = record {
  done = λ same. record {
    readings = readings x.heard;
    passed = passed (by_bus x.heard) (by_net x.heard) x.tried;
    reads = x.reads;
    passes = x.passes;
    is_run = x.is_due p is_new;
    each_reading = length-map x.heard (λ h. h.reading) ∙ x.counted ∙ all;
    each_bus = length-map x.heard (λ h. h.bus) ∙ x.counted ∙ all;
    each_net = length-map x.heard (λ h. h.net) ∙ x.counted ∙ all;
    fits = x.fits;
  };
  sink_failed = λ other. absurd cc;
}
