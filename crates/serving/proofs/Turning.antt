-- What a turn makes of what came before, put together from its calls.
use Rattle.std.proofs.Common.{◌≡◌, ℕ, Bool, true, false, List, [], ◌∷◌, ◌++◌, refl, sym, ap, subst, ◌∙◌, arith}
use Rattle.std.specs.Prelude.{◌||◌, max, Option, Some, None, Result, Ok, Err}
use Rattle.gate_events.specs.declared.emit.Report.{Report}
use Rattle.gate_outside.specs.declared.Failed.{Failed}
use Rattle.gate_outside.specs.Link.{Outcome}
use Rattle.gate_outside.specs.Told.{Joins}
use Rattle.gate_events.specs.Emit as emits
use Rattle.gate_events.specs.Emit.{Emit}
use Rattle.history.specs.Emits.{at}
use Rattle.bridge.specs.Running.{Running, RunningStands}
use Rattle.gate_model.specs.Machine.{Machine}
use Rattle.bridge.specs.BridgeStands.{IsStart}
use Rattle.bridge.specs.Kept.{Bridged, output_of}
use Rattle.bridge.specs.BridgeSettings.{BridgeSettings}
use Rattle.serving.specs.Handing.{Does, DoesAll, DoesSome, Hands, HandsAll, HandsSome, RunStands, TakesTurn, passed}
use Rattle.serving.specs.Served.{IsFront, NetFits, Outside, Passes, all_due}
use Rattle.serving.specs.Turns.{Arrived, Item, Turned, all_made, came_in, from_bus, from_net, in_turn, is_event, moment_at, recorded_where, start_line, with_start, tick_behind, turn, with_all, with_came}
use Rattle.serving.proofs.Doing.{does_as, does_nothing, does_some_as, does_some_still, does_some_then, does_then, hands_some_then, hands_then}
use Rattle.serving.proofs.Items.{told_now}
use Rattle.serving.proofs.Passing.{front_as, front_before, passes_none, passes_then, stops_then}

-- ---- the start

module _ (m : ℕ) where
  started_due : (b : Bridged) → b.started ≡ true → (p : BridgeSettings) (g : Option Running) → RunningStands p g b → [] ≡ (with_start p m g).due
  started_due b is p None new = let never : true ≡ false = sym is ∙ new.waits in absurd cc
  started_due b is p (Some g) stands = refl

  started_stands : (b : Bridged) → b.started ≡ true → (p : BridgeSettings) (g : Option Running) → RunningStands p g b → RunStands p (with_start p m g).after b
  started_stands b is p None new = let never : true ≡ false = sym is ∙ new.waits in absurd cc
  started_stands b is p (Some g) stands = stands

  pub opens_started : (b : Bridged) (o : Outside) → b.started ≡ true → DoesAll RunningStands (λ p g. with_start p m g) [] [] b b o o
  opens_started b o is = record { tried = []; passes = passes_none o; is_due = started_due b is; stands = started_stands b is }

  module _ (before after : Bridged) (waits : before.started ≡ false) (start : IsStart m before after) where
    abbrev opening_items : List Item
    opening_items = recorded_where after.records (start_line m) ++ all_made (at m (output_of after))

    opening_due : (p : BridgeSettings) (g : Option Running) → RunningStands p g before → opening_items ≡ (with_start p m g).due
    opening_due p None new =
        let x = start p new in
        ap (λ (b : Bool). recorded_where b (start_line m) ++ all_made (at m (output_of after))) x.stands.records
        ∙ ap (λ (es : List Emit). recorded_where p.records (start_line m) ++ all_made (at m es)) x.emits
    opening_due p (Some g) stands = let never : true ≡ false = sym stands.1.started ∙ waits in absurd cc

    opening_stands : (p : BridgeSettings) (g : Option Running) → RunningStands p g before → RunStands p (with_start p m g).after after
    opening_stands p None new = (tt, (start p new).stands)
    opening_stands p (Some g) stands = let never : true ≡ false = sym stands.1.started ∙ waits in absurd cc

    -- the line of the start couldn't be written whole
    pub opens_unrecorded : (old new : Outside) → HandsSome old new (recorded_where after.records (start_line m))
        → DoesSome RunningStands (λ p g. with_start p m g) [] [] before old new
    opens_unrecorded old new h = record {
      tried = h.tried;
      last = h.last;
      stops = h.stops;
      is_front = λ p g stands.
          let front = all_due (h.tried ++ h.last ∷ []) in
          front_as front front opening_items (with_start p m g).due refl (opening_due p g stands)
          (front_before front (recorded_where after.records (start_line m)) (all_made (at m (output_of after))) h.is_front);
    }

    opens_all : (old new : Outside) → HandsAll old new opening_items → DoesAll RunningStands (λ p g. with_start p m g) [] [] before after old new
    opens_all old new h = record {
      tried = h.tried;
      passes = h.passes;
      is_due = λ p g stands. h.is_due ∙ opening_due p g stands;
      stands = opening_stands;
    }

    opens_some : (old new : Outside) → HandsSome old new opening_items → DoesSome RunningStands (λ p g. with_start p m g) [] [] before old new
    opens_some old new h = record {
      tried = h.tried;
      last = h.last;
      stops = h.stops;
      is_front = λ p g stands.
          let front = all_due (h.tried ++ h.last ∷ []) in front_as front front opening_items (with_start p m g).due refl (opening_due p g stands) h.is_front;
    }

    -- it was, and what the start left goes out behind it
    pub opens_new : (old between new : Outside) (result : Result (Unit {0}) Failed) → HandsAll old between (recorded_where after.records (start_line m))
        → Hands between new (all_made (at m (output_of after))) result → Does RunningStands (λ p g. with_start p m g) [] [] before after old new result
    opens_new old between new (Ok done) line h =
        opens_all old new (hands_then old between new (recorded_where after.records (start_line m)) (all_made (at m (output_of after))) line h)
    opens_new old between new (Err e) line h =
        opens_some old new (hands_some_then old between new (recorded_where after.records (start_line m)) (all_made (at m (output_of after))) line h)

-- ---- what came by one link

module _ (m : ℕ) {came came' : Arrived} (same : came ≡ came') {bus net : List Outcome} {before : Bridged} {old mid : Outside}
    (receives : Passes old mid (passed bus net [])) where
  pub hears_all : {heard : Bool} {after : Bridged} {new : Outside} → heard ≡ is_event came
      → DoesAll RunStands (λ p g. with_came p m came g) [] [] before after mid new
      → (heard ≡ is_event came') × DoesAll RunStands (λ p g. with_came p m came' g) (bus ++ []) (net ++ []) before after old new
  hears_all {heard} {after} {new} is x = (
    is ∙ ap is_event same,
    record {
      tried = x.tried;
      passes = passes_then old mid new (passed bus net []) (passed [] [] x.tried) receives x.passes;
      is_due = λ p g stands. x.is_due p g stands ∙ ap (λ (c : Arrived). (with_came p m c g).due) same;
      stands = λ p g stands. subst (λ (c : Arrived). RunStands p (with_came p m c g).after after) same (x.stands p g stands);
    },
  )

  pub hears_some : {new : Outside} → DoesSome RunStands (λ p g. with_came p m came g) [] [] before mid new
      → DoesSome RunStands (λ p g. with_came p m came' g) (bus ++ []) (net ++ []) before old new
  hears_some {new} x = record {
    tried = x.tried;
    last = x.last;
    stops = stops_then old mid new (passed bus net []) (passed [] [] x.tried) x.last receives x.stops;
    is_front = λ p g stands.
        subst (λ (c : Arrived). IsFront (all_due (x.tried ++ x.last ∷ [])) (with_came p m c g).due) same (x.is_front p g stands);
  }

-- a report of what couldn't be received or read
pub reports_all : {m : ℕ} {r : Report} {b : Bridged} {old new : Outside} → HandsAll old new (told_now m (emits.report r))
    → DoesAll RunStands (λ p g. with_came p m (Err r) g) [] [] b b old new
reports_all h = record {
  tried = h.tried;
  passes = h.passes;
  is_due = λ p g stands. h.is_due;
  stands = λ p g stands. stands;
}

pub reports_some : {m : ℕ} {r : Report} {b : Bridged} {old new : Outside} → HandsSome old new (told_now m (emits.report r))
    → DoesSome RunStands (λ p g. with_came p m (Err r) g) [] [] b old new
reports_some h = record {
  tried = h.tried;
  last = h.last;
  stops = h.stops;
  is_front = λ p g stands. h.is_front;
}

-- ---- the turn

abbrev start_at : ℕ → BridgeSettings → Option Running → Turned
start_at m p g = with_start p m g

abbrev stage : ℕ → Arrived → BridgeSettings → Running → Turned
stage m came p g = with_came p m came g

abbrev stages : ℕ → List Arrived → BridgeSettings → Running → Turned
stages m cames p g = with_all p m cames g

module _ (m reading number : ℕ) (before : Bridged) (is : m ≡ max reading before.gateway.moment) where
  same_moment : (p : BridgeSettings) (g : Option Running) → RunningStands p g before → m ≡ moment_at g reading
  same_moment p None new = is ∙ ap (λ (k : ℕ). max reading k) (ap (λ (x : Machine). x.moment) new.gateway)
  same_moment p (Some g) stands = is ∙ ap (λ (k : ℕ). max reading k) stands.1.gateway.moment

  as_turn : (bus net : List Outcome) (p : BridgeSettings) (g : Option Running) → RunningStands p g before
      → in_turn p m (came_in m number bus net) g ≡ turn p number reading bus net g
  as_turn bus net p g stands = ap (λ (k : ℕ). in_turn p k (came_in k number bus net) g) (same_moment p g stands)

  -- a write failed at the start
  pub stops_opening : (old new : Outside) → DoesSome RunningStands (start_at m) [] [] before old new
      → DoesSome RunningStands (λ p g. turn p number reading [] [] g) [] [] before old new
  stops_opening old new x =
      does_some_as RunningStands (λ p g. in_turn p m (came_in m number [] []) g) (λ p g. turn p number reading [] [] g) [] [] before old new (as_turn [] [])
      (does_some_still RunningStands (start_at m) (stages m []) [] [] before old new x)

  module _ (opened_b : Bridged) (old one : Outside) (opens : DoesAll RunningStands (start_at m) [] [] before opened_b old one) (b : Outcome) where
    abbrev bus_came : Arrived
    bus_came = from_bus m number b

    -- a write failed at what came by the bus
    pub stops_bus : (new : Outside) → DoesSome RunStands (stage m bus_came) (b ∷ []) [] opened_b one new
        → DoesSome RunningStands (λ p g. turn p number reading (b ∷ []) [] g) (b ∷ []) [] before old new
    stops_bus new x =
        does_some_as RunningStands (λ p g. in_turn p m (came_in m number (b ∷ []) []) g) (λ p g. turn p number reading (b ∷ []) [] g) (b ∷ []) [] before old new
        (as_turn (b ∷ []) [])
        (does_some_then RunningStands (start_at m) (stages m (bus_came ∷ [])) [] [] before old (b ∷ []) [] opened_b one new opens
        (does_some_still RunStands (stage m bus_came) (stages m []) (b ∷ []) [] opened_b one new x))

    module _ (bus_b : Bridged) (two : Outside) (hears : DoesAll RunStands (stage m bus_came) (b ∷ []) [] opened_b bus_b one two) (n : Outcome) where
      abbrev net_came : Arrived
      net_came = from_net m n

      abbrev tick_came : Arrived
      tick_came = tick_behind m (is_event bus_came || is_event net_came)

      -- a write failed at what came by the network
      pub stops_net : (new : Outside) → DoesSome RunStands (stage m net_came) [] (n ∷ []) bus_b two new
          → DoesSome RunningStands (λ p g. turn p number reading (b ∷ []) (n ∷ []) g) (b ∷ []) (n ∷ []) before old new
      stops_net new x =
          does_some_as RunningStands (λ p g. in_turn p m (came_in m number (b ∷ []) (n ∷ [])) g) (λ p g. turn p number reading (b ∷ []) (n ∷ []) g)
          (b ∷ []) (n ∷ []) before old new (as_turn (b ∷ []) (n ∷ []))
          (does_some_then RunningStands (start_at m) (stages m (bus_came ∷ net_came ∷ tick_came ∷ [])) [] [] before old (b ∷ []) (n ∷ []) opened_b one new opens
          (does_some_then RunStands (stage m bus_came) (stages m (net_came ∷ tick_came ∷ [])) (b ∷ []) [] opened_b one [] (n ∷ []) bus_b two new hears
          (does_some_still RunStands (stage m net_came) (stages m (tick_came ∷ [])) [] (n ∷ []) bus_b two new x)))

      module _ (net_b : Bridged) (three : Outside) (hears_too : DoesAll RunStands (stage m net_came) [] (n ∷ []) bus_b net_b two three) where
        stops_tick : (new : Outside) → DoesSome RunStands (stage m tick_came) [] [] net_b three new
            → DoesSome RunningStands (λ p g. turn p number reading (b ∷ []) (n ∷ []) g) (b ∷ []) (n ∷ []) before old new
        stops_tick new x =
            does_some_as RunningStands (λ p g. in_turn p m (came_in m number (b ∷ []) (n ∷ [])) g) (λ p g. turn p number reading (b ∷ []) (n ∷ []) g)
            (b ∷ []) (n ∷ []) before old new (as_turn (b ∷ []) (n ∷ []))
            (does_some_then RunningStands (start_at m) (stages m (bus_came ∷ net_came ∷ tick_came ∷ [])) [] [] before old (b ∷ []) (n ∷ []) opened_b one new opens
            (does_some_then RunStands (stage m bus_came) (stages m (net_came ∷ tick_came ∷ [])) (b ∷ []) [] opened_b one [] (n ∷ []) bus_b two new hears
            (does_some_then RunStands (stage m net_came) (stages m (tick_came ∷ [])) [] (n ∷ []) bus_b two [] [] net_b three new hears_too
            (does_some_still RunStands (stage m tick_came) (stages m []) [] [] net_b three new x))))

        does_turn : (after : Bridged) (new : Outside) → DoesAll RunStands (stage m tick_came) [] [] net_b after three new
            → DoesAll RunningStands (λ p g. turn p number reading (b ∷ []) (n ∷ []) g) (b ∷ []) (n ∷ []) before after old new
        does_turn after new x =
            does_as RunningStands (λ p g. in_turn p m (came_in m number (b ∷ []) (n ∷ [])) g) (λ p g. turn p number reading (b ∷ []) (n ∷ []) g)
            (b ∷ []) (n ∷ []) before after old new (as_turn (b ∷ []) (n ∷ []))
            (does_then RunningStands (start_at m) (stages m (bus_came ∷ net_came ∷ tick_came ∷ [])) [] [] before old (b ∷ []) (n ∷ []) opened_b after one new opens
            (does_then RunStands (stage m bus_came) (stages m (net_came ∷ tick_came ∷ [])) (b ∷ []) [] opened_b one [] (n ∷ []) bus_b after two new hears
            (does_then RunStands (stage m net_came) (stages m (tick_came ∷ [])) [] (n ∷ []) bus_b two [] [] net_b after three new hears_too
            (does_then RunStands (stage m tick_came) (stages m []) [] [] net_b three [] [] after after new new x (does_nothing after new)))))

        pub turns : (heard : Bool) (after : Bridged) (new : Outside) (result : Result (Unit {0}) Failed) → heard ≡ (is_event bus_came || is_event net_came)
            → Does RunStands (λ p g. with_came p m (tick_behind m heard) g) [] [] net_b after three new result
            → Does RunningStands (λ p g. turn p number reading (b ∷ []) (n ∷ []) g) (b ∷ []) (n ∷ []) before after old new result
        turns heard after new (Ok done) same x =
            does_turn after new (subst (λ (h : Bool). DoesAll RunStands (stage m (tick_behind m h)) [] [] net_b after three new) same x)
        turns heard after new (Err e) same x =
            stops_tick new (subst (λ (h : Bool). DoesSome RunStands (stage m (tick_behind m h)) [] [] net_b three new) same x)

pub any_event : (heard x y x' y' : Bool) → heard ≡ (x || y) → x ≡ x' → y ≡ y' → heard ≡ (x' || y')
any_event heard x y x' y' any is is' = any ∙ ap (λ (h : Bool). h || y) is ∙ ap (λ (h : Bool). x' || h) is'

pub turn_taken : (number reading : ℕ) (b n : Outcome) (before after : Bridged) (clock clock' : Option (List ℕ)) (old new : Outside)
    (result : Result (Unit {0}) Failed) → NetFits n → Joins clock clock' (reading ∷ [])
    → Does RunningStands (λ p g. turn p number reading (b ∷ []) (n ∷ []) g) (b ∷ []) (n ∷ []) before after old new result
    → TakesTurn number before after clock clock' old new result
turn_taken number reading b n before after clock clock' old new (Ok done) fits reads does =
    record { reading = reading; bus = b; net = n; fits = fits; reads = reads; does = does }
turn_taken number reading b n before after clock clock' old new (Err e) fits reads does =
    record { reading = reading; bus = b ∷ []; net = n ∷ []; reads = reads; cut = (omega arith, omega arith, omega arith); does = does }
