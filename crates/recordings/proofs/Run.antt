-- A run that is recorded: turn by turn, and its start.
use Rattle.std.proofs.Common.{◌≡◌, ℕ, ◌+◌, ◌-◌, ◌^◌, ◌<◌, ◌≤◌, Bool, true, List, [], ◌∷◌, ◌++◌, length, refl, sym, ap, subst, ◌∙◌, append_assoc, arith}
use Rattle.std.specs.Prelude.{max, Option, Some, None, Result}
use Rattle.std.specs.List.{AllByRecursion}
use Rattle.std.proofs.Math.Nat.{le-max_right, max-le}
use Rattle.gate_events.specs.Emit.{Emit, Emitted}
use Rattle.gate_events.specs.Event as capture
use Rattle.gate_events.specs.Event.{Seen}
use Rattle.gate_outside.specs.Link.{Outcome}
use Rattle.capture_text.specs.declared.line_rule.LineRule.{LineRule}
use Rattle.capture_text.proofs.Again.{starts_are_ticks}
use Rattle.history.specs.Emits.{at}
use Rattle.history.specs.Entries.{now, tick}
use Rattle.history.specs.Gate.{Stepped}
use Rattle.gateway_commands.specs.Gate.{from_events, opening}
use Rattle.gateway_commands.specs.BridgeSettings.{BridgeSettings}
use Rattle.gateway_commands.specs.Running.{Running}
use Rattle.gateway_commands.specs.Replayed.{AreRead, IsReplay, emitted_text, event_in, events_in, gate_of}
use Rattle.gateway_commands.proofs.Events.{events_are_replayed}
use Rattle.recordings.proofs.Busy.{start_is_idle}
use Rattle.recordings.proofs.Events.{idle_ticks}
use Rattle.gateway_commands.specs.Recorded.{made_in, recorded_in}
use Rattle.gateway_commands.specs.Served.{NetFits, Outside, Serves, all_due}
use Rattle.gateway_commands.specs.Turns.{Item, all_came, all_made, due_from, due_of, from_bus, from_net, moment_at, received, recorded_where, start_line, with_all}
use Rattle.recordings.specs.Laws.{AreEarly, RecordingsReplay}
use Rattle.recordings.proofs.Items.{made_behind, recorded_behind}
use Rattle.recordings.proofs.Plain.{IsPlain, plain_start}
use Rattle.recordings.proofs.Steps.{Again, IsAgain, is_ticked, weaker}
use Rattle.recordings.proofs.Turn.{bus_comes, net_comes, turn_again, turn_ends}

below_both : (a b n : ℕ) → a < n → b < n → max a b < n
below_both a b n first second =
    let le : max a b ≤ n - 1 = max-le {a = a} {b = b} {k = n - 1} (omega (arith, first)) (omega (arith, second)) in
    omega (arith, le, first)

module _ (p : BridgeSettings) (records : p.records ≡ true) where
  -- ---- the turns of a gateway that runs

  turns_again : (number : ℕ) (readings : List ℕ) (bus net : List Outcome) (g : Running) → length bus ≡ length readings → length net ≡ length readings
      → AreEarly readings → AllByRecursion NetFits net → now g.history < 10 ^ 16
      → Again p (now g.history) g (due_from p number (Some g) readings bus net)
  turns_again number [] bus net g each_bus each_net early fits reached = record { are_read = tt; are_plain = tt; from = tt; same = refl }
  turns_again number (reading ∷ readings) [] net g each_bus each_net early fits reached = absurd (omega (arith, each_bus))
  turns_again number (reading ∷ readings) (b ∷ bus) [] g each_bus each_net early fits reached = absurd (omega (arith, each_net))
  turns_again number (reading ∷ readings) (b ∷ bus) (n ∷ net) g each_bus each_net early fits reached =
      let m = moment_at (Some g) reading in
      let le : now g.history ≤ m = le-max_right reading (now g.history) in
      let below : m < 10 ^ 16 = below_both reading (now g.history) (10 ^ 16) early.0 reached in
      let from_b = from_bus m number b in
      let from_n = from_net m n in
      let after = (with_all p m (all_came m from_b from_n) g).after in
      let rest = due_from p (number + 1) (Some after) readings bus net in
      let ends = turn_ends p m from_b from_n g (bus_comes m number b) (net_comes m n fits.0) le in
      let more = turns_again (number + 1) readings bus net after (omega (arith, each_bus)) (omega (arith, each_net)) early.1 fits.1 (subst (λ (k : ℕ). k < 10 ^ 16) (sym ends) below) in
      let items = (with_all p m (all_came m from_b from_n) g).due ++ rest in
      weaker p (now g.history) m g.start g.history (recorded_in items) (made_in items) le
      (turn_again p m records below from_b from_n g rest (bus_comes m number b) (net_comes m n fits.0) le (subst (λ (k : ℕ). Again p k after rest) ends more))

  -- ---- the start

  -- what is recorded in items gives what was made in them, from the start of a gateway
  record IsWhole (lines : List (List ℕ)) (emits : List Emitted) : Type 0 where
    pub are_read : AreRead lines
    pub are_plain : AllByRecursion IsPlain lines
    pub same : emits ≡ gate_of p (events_in lines)

  abbrev Whole : List Item → Type 0
  Whole items = IsWhole (recorded_in items) (made_in items)

  -- the tick of the start changes nothing
  first_tick : (m : ℕ) (lines : List (List ℕ)) (emits : List Emitted) → IsAgain p m m [] lines emits → emits ≡ from_events p m [] (tick m ∷ events_in lines)
  first_tick m lines emits x =
      let none = start_is_idle p m in
      let es = events_in lines in
      x.same
      ∙ sym (idle_ticks p m [] m es (omega arith) none x.from)
      ∙ ap (λ (given : List Emit). at m given ++ from_events p m (tick m ∷ []) es) (sym none)
      ∙ ap (λ (y : Stepped p.gateway m). y.emits ++ from_events p m y.after es) (sym (is_ticked p m [] m (omega arith)))

  abbrev behind_start : ℕ → Bool → List Item → List Item
  behind_start m r items = (recorded_where r (start_line m) ++ all_made (opening p m)) ++ items

  start_again : (m : ℕ) (items : List Item) → m < 10 ^ 16 → Again p m (record { start = m; history = [] }) items → Whole (behind_start m true items)
  start_again m items early x =
      let says = starts_are_ticks received m early in
      let lines = recorded_in items in
      subst (λ (z : List (List ℕ)). IsWhole (start_line m ∷ z) (made_in (all_made (opening p m) ++ items))) (sym (recorded_behind (opening p m) items))
      (record {
        are_read = ((capture.tick m, says), x.are_read);
        are_plain = (plain_start m early, x.are_plain);
        same =
            made_behind (opening p m) items
            ∙ ap (λ (es : List Emitted). opening p m ++ es) (first_tick m lines (made_in items) x)
            ∙ ap (λ (r : Result Seen LineRule). gate_of p (event_in r ++ events_in lines)) (sym says);
      })

  run_again : (readings : List ℕ) (bus net : List Outcome) → length bus ≡ length readings → length net ≡ length readings
      → AreEarly readings → AllByRecursion NetFits net → Whole (due_of p readings bus net)
  run_again [] bus net each_bus each_net early fits = record { are_read = tt; are_plain = tt; same = refl }
  run_again (reading ∷ readings) [] net each_bus each_net early fits = absurd (omega (arith, each_bus))
  run_again (reading ∷ readings) (b ∷ bus) [] each_bus each_net early fits = absurd (omega (arith, each_net))
  run_again (reading ∷ readings) (b ∷ bus) (n ∷ net) each_bus each_net early fits =
      let m = moment_at None reading in
      let g : Running = record { start = m; history = [] } in
      let below : m < 10 ^ 16 = below_both reading 0 (10 ^ 16) early.0 (omega arith) in
      let from_b = from_bus m 1 b in
      let from_n = from_net m n in
      let turn = with_all p m (all_came m from_b from_n) g in
      let rest = due_from p 2 (Some turn.after) readings bus net in
      let ends = turn_ends p m from_b from_n g (bus_comes m 1 b) (net_comes m n fits.0) (omega arith) in
      let more = turns_again 2 readings bus net turn.after (omega (arith, each_bus)) (omega (arith, each_net)) early.1 fits.1 (subst (λ (k : ℕ). k < 10 ^ 16) (sym ends) below) in
      let items = turn.due ++ rest in
      let again = turn_again p m records below from_b from_n g rest (bus_comes m 1 b) (net_comes m n fits.0) (omega arith) (subst (λ (k : ℕ). Again p k turn.after rest) ends more) in
      subst (λ (all : List Item). Whole all)
      (sym (append_assoc (recorded_where p.records (start_line m) ++ all_made (opening p m)) turn.due rest))
      (subst (λ (r : Bool). Whole (behind_start m r items)) (sym records) (start_again m items below again))

  whole_replays : (items : List Item) → Whole items → IsReplay p (recorded_in items) (emitted_text (made_in items))
  whole_replays items x = ap emitted_text x.same ∙ sym (events_are_replayed p (recorded_in items) x.are_read)

served_again : (p : BridgeSettings) (records : p.records ≡ true) (turns : ℕ) (clock clock' : Option (List ℕ)) (old new : Outside)
    (x : Serves p turns clock clock' old new) → AreEarly x.readings → Whole p records (all_due x.passed.tried)
served_again p records turns clock clock' old new x early =
    subst (λ (items : List Item). Whole p records items) (sym x.is_run)
    (run_again p records x.readings x.passed.from_bus x.passed.from_net (x.each_bus ∙ sym x.each_reading) (x.each_net ∙ sym x.each_reading) early x.fits)

pub recordings_replay : RecordingsReplay
recordings_replay p turns clock clock' old new records x early =
    whole_replays p records (all_due x.passed.tried) (served_again p records turns clock clock' old new x early)

pub served_plain : (p : BridgeSettings) (records : p.records ≡ true) (turns : ℕ) (clock clock' : Option (List ℕ)) (old new : Outside)
    (x : Serves p turns clock clock' old new) → AreEarly x.readings → AllByRecursion IsPlain (recorded_in (all_due x.passed.tried))
served_plain p records turns clock clock' old new x early = (served_again p records turns clock clock' old new x early).are_plain
