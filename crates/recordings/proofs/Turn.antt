-- A turn of a run that is recorded: what came is in the recording, and it ends at the moment of the turn.
use Rattle.std.proofs.Common.{◌≡◌, ℕ, ◌^◌, ◌<◌, ◌≤◌, Bool, true, false, List, [], ◌∷◌, ◌++◌, refl, sym, subst, ◌∙◌, append_assoc, arith}
use Rattle.std.specs.Prelude.{◌||◌, Some, None, Result, Ok, Err}
use Rattle.gate_events.specs.Event as capture
use Rattle.gate_events.specs.Event.{Seen, moment_in}
use Rattle.gate_outside.specs.Link.{Outcome}
use Rattle.capture_text.specs.declared.line_rule.LineRule.{LineRule}
use Rattle.capture_text.specs.EventLaws.{Fits}
use Rattle.capture_text.specs.Reading.{read}
use Rattle.capture_text.proofs.Again.{frames_fit}
use Rattle.history.specs.Entries.{now}
use Rattle.gateway_commands.specs.BridgeSettings.{BridgeSettings}
use Rattle.gateway_commands.specs.Running.{Running}
use Rattle.gateway_commands.specs.Served.{NetFits}
use Rattle.gateway_commands.specs.Turns.{Arrived, Item, all_came, from_bus, from_net, is_event, line_says, text_of, tick_behind, with_all, with_came, with_event}
use Rattle.recordings.proofs.Steps.{Again, event_again, event_now}

-- ---- what comes in a turn

-- an event of the moment of the turn that has a line
abbrev pub Comes : ℕ → Arrived → Type 0
Comes m (Ok (Some e)) = (moment_in e ≡ m) × Fits e
Comes m (Ok None) = Unit {0}
Comes m (Err r) = Unit {0}

abbrev AllCome : ℕ → List Arrived → Type 0
AllCome m [] = Unit {0}
AllCome m (came ∷ cames) = Comes m came × AllCome m cames

line_comes : (m number : ℕ) (line : List ℕ) (r : Result Seen LineRule) → read line ≡ r → Comes m (line_says m number r)
line_comes m number line (Ok (capture.frame own f)) says = (refl, frames_fit line own f says)
line_comes m number line (Ok (capture.datagram own bytes)) says = tt
line_comes m number line (Ok (capture.tick own)) says = tt
line_comes m number line (Err rule) says = tt

pub bus_comes : (m number : ℕ) (b : Outcome) → Comes m (from_bus m number b)
bus_comes m number (Ok (Some bytes)) = line_comes m number (text_of bytes) (read (text_of bytes)) refl
bus_comes m number (Ok None) = tt
bus_comes m number (Err e) = tt

pub net_comes : (m : ℕ) (n : Outcome) → NetFits n → Comes m (from_net m n)
net_comes m (Ok (Some bytes)) fits = (refl, fits)
net_comes m (Ok None) fits = tt
net_comes m (Err e) fits = tt

tick_comes : (m : ℕ) (heard : Bool) → Comes m (tick_behind m heard)
tick_comes m true = tt
tick_comes m false = (refl, tt)

-- ---- what is made of it

module _ (p : BridgeSettings) (m : ℕ) where
  -- it ends at the moment of the turn where there was an event, and where it began otherwise
  came_now : (e : Seen) (g : Running) → (moment_in e ≡ m) × Fits e → now g.history ≤ m → now (with_event p e g).after.history ≡ m
  came_now e g comes le = event_now p e g (subst (λ (k : ℕ). now g.history ≤ k) (sym comes.0) le) ∙ comes.0

  came_le : (came : Arrived) (g : Running) → Comes m came → now g.history ≤ m → now (with_came p m came g).after.history ≤ m
  came_le (Ok (Some e)) g comes le = omega (arith, came_now e g comes le)
  came_le (Ok None) g comes le = le
  came_le (Err r) g comes le = le

  stays : (came : Arrived) (g : Running) → Comes m came → now g.history ≡ m → now (with_came p m came g).after.history ≡ m
  stays (Ok (Some e)) g comes is = came_now e g comes (omega (arith, is))
  stays (Ok None) g comes is = is
  stays (Err r) g comes is = is

  -- time passes where nothing came from the bus
  ends_by_net : (n : Arrived) (g : Running) → Comes m n → now g.history ≤ m
      → now (with_came p m (tick_behind m (is_event n)) (with_came p m n g).after).after.history ≡ m
  ends_by_net (Ok (Some e)) g comes le = came_now e g comes le
  ends_by_net (Ok None) g comes le = came_now (capture.tick m) g (refl, tt) le
  ends_by_net (Err r) g comes le = came_now (capture.tick m) g (refl, tt) le

  pub turn_ends : (b n : Arrived) (g : Running) → Comes m b → Comes m n → now g.history ≤ m → now (with_all p m (all_came m b n) g).after.history ≡ m
  turn_ends (Ok (Some e)) n g bus net le = stays n (with_event p e g).after net (came_now e g bus le)
  turn_ends (Ok None) n g bus net le = ends_by_net n g net le
  turn_ends (Err r) n g bus net le = ends_by_net n g net le

  -- ---- what is recorded of it

  module _ (records : p.records ≡ true) (early : m < 10 ^ 16) where
    came_again : (came : Arrived) (g : Running) (items : List Item) → Comes m came → now g.history ≤ m
        → Again p m (with_came p m came g).after items → Again p m g ((with_came p m came g).due ++ items)
    came_again (Ok (Some e)) g items comes le x =
        let is = sym comes.0 in
        subst (λ (k : ℕ). Again p k g ((with_event p e g).due ++ items)) comes.0
        (event_again p g items records e comes.1
        (subst (λ (k : ℕ). k < 10 ^ 16) is early)
        (subst (λ (k : ℕ). now g.history ≤ k) is le)
        (subst (λ (k : ℕ). Again p k (with_event p e g).after items) is x))
    came_again (Ok None) g items comes le x = x
    came_again (Err r) g items comes le x = x

    all_again : (cames : List Arrived) (g : Running) (items : List Item) → AllCome m cames → now g.history ≤ m
        → Again p m (with_all p m cames g).after items → Again p m g ((with_all p m cames g).due ++ items)
    all_again [] g items come le x = x
    all_again (came ∷ cames) g items come le x =
        let one = with_came p m came g in
        let rest = with_all p m cames one.after in
        subst (λ (all : List Item). Again p m g all) (sym (append_assoc one.due rest.due items))
        (came_again came g (rest.due ++ items) come.0 le (all_again cames one.after items come.1 (came_le came g come.0 le) x))

    pub turn_again : (b n : Arrived) (g : Running) (items : List Item) → Comes m b → Comes m n → now g.history ≤ m
        → Again p m (with_all p m (all_came m b n) g).after items → Again p m g ((with_all p m (all_came m b n) g).due ++ items)
    turn_again b n g items bus net le x =
        all_again (all_came m b n) g items (bus, (net, (tick_comes m (is_event b || is_event n), tt))) le x
