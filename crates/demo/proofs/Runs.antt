-- What an event makes of the gateway and of what is counted, and then what many make of them.
use Rattle.std.proofs.Common.{inl, inr, ◌≡◌, ℕ, suc, ◌+◌, ◌<◌, Bool, true, false, List, [], ◌∷◌, ◌++◌, refl, sym, ap, subst, ◌∙◌, append_assoc, arith}
use Rattle.std.specs.Prelude.{Some, None, option_map, if◌then◌else◌}
use Rattle.std.proofs.lemmas.Bool.{cases_Bool, leb-true}
use Rattle.std.proofs.lemmas.List.{append-nil, length-take, map-append}
use Rattle.std.proofs.lemmas.List.Sums.{fold-append}
use Rattle.gate_events.specs.declared.emit.Detail.TheVariants as detail
use Rattle.gate_events.specs.declared.event.Event.{Event}
use Rattle.gate_events.specs.declared.event.Event.TheVariants as event
use Rattle.report_rules.specs.Rules as rules
use Rattle.gate_events.specs.Emit.{Emit, Emitted}
use Rattle.history.specs.Emits.{at, broken, own_claim, request_for_claims}
use Rattle.history.specs.Entries.{Entry, History, IsHistory, IsOffered, IsTimely, is_accepted, moment_of, now}
use Rattle.history.specs.Gate.{Stepped, command_in, gate, from_events, opening, out, stepped, with_command}
use Rattle.history.specs.Messages.{done}
use Rattle.history.specs.Settings.{receiver_of, Settings}
use Rattle.gate_model.specs.Machine.{Machine, opened_machine, started_at}
use Rattle.gate_model.specs.Stands.{Stands}
use Rattle.gate_outbox.specs.declared.done.Command.{Command}
use Rattle.gate_outbox.specs.Output.{Output, emits_of}
use Rattle.gate_core.specs.Promises.{IsCommandStep, IsStep, IsTaken, IsTooEarly, entry_by}
use Rattle.gate_core.specs.Steps.{IsEventValid, by_keys, entry_of}
use Rattle.demo.specs.declared.input.Input.{Input}
use Rattle.demo.specs.declared.tally.Tally.{Tally}
use Rattle.demo.specs.Demo.{IsOrdered, IsRun, IsRunTo, lived}
use Rattle.demo.specs.Input.{IsBefore, IsNext, event_at, events}
use Rattle.demo.specs.Setup.{demo_settings}
use Rattle.demo.specs.Tally.{and_all, and_one, tally_of}

-- ---- an event may follow

offered : (e : Event) → IsEventValid e → IsOffered (entry_of e)
offered (event.Frame moment frame) valid = (valid.identifier, omega (arith, length-take frame.len frame.bytes, valid.fits))
offered (event.Datagram moment bytes) valid = tt
offered (event.Tick moment) valid = tt

in_time : (e : Event) (h : History) → is_accepted h (entry_of e) ≡ true → IsTimely h (entry_of e)
in_time (event.Frame moment frame) h accepted = leb-true (now h) moment accepted
in_time (event.Datagram moment bytes) h accepted = leb-true (now h) moment accepted
in_time (event.Tick moment) h accepted = leb-true (now h) moment accepted

goes_on : (e : Event) (h : History) → IsEventValid e → IsHistory h → is_accepted h (entry_of e) ≡ true → IsHistory (entry_of e ∷ h)
goes_on e h valid could accepted = (offered e valid, in_time e h accepted, could)

-- ---- the command

pub ordered : (o : Command) (g g' : Machine) (left : Output) (before after : Tally) (m : ℕ) → o.source < 256 → IsCommandStep o.source o.address g g' left
    → m ≡ g'.moment → after ≡ and_all before (at m (emits_of left.emits)) → IsOrdered o g g' before after
ordered o g g' left before after m from step moment counted c s h could stands =
    let here : Stands by_keys g.settings s h g = subst (λ (z : Settings). Stands by_keys z s h g) (sym stands.settings) stands in
    let taken : IsTaken c s h (entry_by (now h) o) g' left =
    subst (λ (z : Settings). IsTaken z s h (entry_by (now h) o) g' left) stands.settings (step s h could here) in
    record {
      could = (from, refl, could);
      stands = taken.stands;
      counted = counted ∙ ap (λ (n : ℕ). and_all before (at n (emits_of left.emits))) (moment ∙ taken.stands.moment)
          ∙ ap (λ (es : List Emit). and_all before (at (now h) es)) taken.emits;
    }

-- ---- an event

taken_so : (c : Settings) (s : ℕ) (h : History) (e : Entry) → is_accepted h e ≡ true
    → with_command c s h e (command_in c s (done (receiver_of c) s h e) (moment_of e)) ≡ stepped c s h e
taken_so c s h e accepted =
    ap (λ (b : Bool). if b then with_command c s h e (command_in c s (done (receiver_of c) s h e) (moment_of e))
    else record { emits = at (now h) (broken rules.moment_back detail.Nothing ∷ []); after = h }) (sym accepted)

refused_so : (c : Settings) (s : ℕ) (h : History) (e : Entry) → is_accepted h e ≡ false
    → record { emits = at (now h) (broken rules.moment_back detail.Nothing ∷ []); after = h } ≡ stepped c s h e
refused_so c s h e refused =
    ap (λ (b : Bool). if b then with_command c s h e (command_in c s (done (receiver_of c) s h e) (moment_of e))
    else record { emits = at (now h) (broken rules.moment_back detail.Nothing ∷ []); after = h }) (sym refused)

module _ (e : Event) (g g' : Machine) (left : Output) (before between : Tally) (m : ℕ) (valid : IsEventValid e) (step : IsStep (entry_of e) g g' left)
    (moment : m ≡ g'.moment) (counted : between ≡ and_all before (at m (emits_of left.emits))) where
  abbrev next : Entry
  next = entry_of e

  here : (c : Settings) (s : ℕ) (h : History) → Stands by_keys c s h g → Stands by_keys g.settings s h g
  here c s h stands = subst (λ (z : Settings). Stands by_keys z s h g) (sym stands.settings) stands

  taken : (c : Settings) (s : ℕ) (h : History) → IsHistory h → Stands by_keys c s h g → is_accepted h next ≡ true → IsTaken c s h next g' left
  taken c s h could stands accepted =
      subst (λ (z : Settings). IsTaken z s h next g' left) stands.settings ((step s h could (here c s h stands)).0 accepted)

  early : (c : Settings) (s : ℕ) (h : History) → IsHistory h → Stands by_keys c s h g → is_accepted h next ≡ false → IsTooEarly g g' left
  early c s h could stands refused = (step s h could (here c s h stands)).1 refused

  -- what is counted of it, where it was taken
  of_taken : (c : Settings) (s : ℕ) (h : History) → IsTaken c s h next g' left → between ≡ and_all before (at (moment_of next) (out c s h next))
  of_taken c s h t =
      counted ∙ ap (λ (n : ℕ). and_all before (at n (emits_of left.emits))) (moment ∙ t.stands.moment)
      ∙ ap (λ (es : List Emit). and_all before (at (moment_of next) es)) t.emits

  alone : (c : Settings) (s : ℕ) (h : History) → left.command ≡ None → IsHistory h → Stands by_keys c s h g → is_accepted h next ≡ true
      → IsRunTo c s (stepped c s h next) g' before between
  alone c s h none could stands accepted =
      let t = taken c s h could stands accepted in
      let no : None ≡ command_in c s (done (receiver_of c) s h next) (moment_of next) =
      ap (option_map (entry_by (moment_of next))) (sym none) ∙ t.ordered in
      subst (λ (x : Stepped c s). IsRunTo c s x g' before between) (ap (with_command c s h next) no ∙ taken_so c s h next accepted)
      (record { could = goes_on e h valid could accepted; stands = t.stands; counted = of_taken c s h t })

  refused : (c : Settings) (s : ℕ) (h : History) → IsHistory h → Stands by_keys c s h g → is_accepted h next ≡ false
      → IsRunTo c s (stepped c s h next) g' before between
  refused c s h could stands late =
      let x = early c s h could stands late in
      subst (λ (z : Stepped c s). IsRunTo c s z g' before between) (refused_so c s h next late)
      (record {
        could = could;
        stands = subst (λ (z : Machine). Stands by_keys c s h z) (sym x.unchanged) stands;
        counted = counted ∙ ap (λ (n : ℕ). and_all before (at n (emits_of left.emits))) (moment ∙ ap (λ (z : Machine). z.moment) x.unchanged ∙ stands.moment)
            ∙ ap (λ (o : Output). and_all before (at (now h) (emits_of o.emits))) x.reported;
      })

  pub run_alone : left.command ≡ None → IsRun next g g' before between
  run_alone none c s h could stands =
      elim (cases_Bool (is_accepted h next)) [
        | inl accepted ↦ alone c s h none could stands accepted
        | inr late ↦ refused c s h could stands late
      ]

  pub run_ordered : (o : Command) (g'' : Machine) (after : Tally) → left.command ≡ Some o → IsOrdered o g' g'' between after → IsRun next g g'' before after
  run_ordered o g'' after some obeyed c s h could stands =
      elim (cases_Bool (is_accepted h next)) [
        | inl accepted ↦ both accepted
        | inr late ↦ never late
      ]
    where
      never : is_accepted h next ≡ false → IsRunTo c s (stepped c s h next) g'' before after
      never late = let none : None ≡ Some o = sym (ap (λ (x : Output). x.command) (early c s h could stands late).reported) ∙ some in absurd cc

      both : is_accepted h next ≡ true → IsRunTo c s (stepped c s h next) g'' before after
      both accepted =
          let t = taken c s h could stands accepted in
          let m' = moment_of next in
          let is : Some (entry_by m' o) ≡ command_in c s (done (receiver_of c) s h next) m' =
          ap (option_map (entry_by m')) (sym some) ∙ t.ordered in
          let x = obeyed c s (next ∷ h) (goes_on e h valid could accepted) t.stands in
          subst (λ (z : Stepped c s). IsRunTo c s z g'' before after) (ap (with_command c s h next) is ∙ taken_so c s h next accepted)
          (record {
            could = x.could;
            stands = x.stands;
            counted = x.counted ∙ ap (λ (y : Tally). and_all y (at m' (out c s (next ∷ h) (entry_by m' o)))) (of_taken c s h t)
                ∙ sym (fold-append and_one before (at m' (out c s h next)) (at m' (out c s (next ∷ h) (entry_by m' o))))
                ∙ ap (and_all before) (sym (map-append (λ (z : Emit). record { moment = m'; emit = z }) (out c s h next) (out c s (next ∷ h) (entry_by m' o))));
          })

-- ---- many events

module _ (c : Settings) (s : ℕ) where
  pub lived_more : (h : History) (es : List Entry) (e : Entry) → lived c s h (es ++ e ∷ []) ≡ (stepped c s (lived c s h es) e).after
  lived_more h [] e = refl
  lived_more h (x ∷ es) e = lived_more (stepped c s h x).after es e

  from_more : (h : History) (es : List Entry) (e : Entry)
      → from_events c s h (es ++ e ∷ []) ≡ from_events c s h es ++ (stepped c s (lived c s h es) e).emits
  from_more h [] e = append-nil (stepped c s h e).emits
  from_more h (x ∷ es) e =
      ap (λ (ys : List Emitted). (stepped c s h x).emits ++ ys) (from_more (stepped c s h x).after es e)
      ∙ sym (append_assoc (stepped c s h x).emits (from_events c s (stepped c s h x).after es) (stepped c s (lived c s h (x ∷ es)) e).emits)

  pub gate_more : (es : List Entry) (e : Entry) → gate c s (es ++ e ∷ []) ≡ gate c s es ++ (stepped c s (lived c s [] es) e).emits
  gate_more es e =
      ap (λ (ys : List Emitted). opening c s ++ ys) (from_more [] es e)
      ∙ sym (append_assoc (opening c s) (from_events c s [] es) (stepped c s (lived c s [] es) e).emits)

-- ---- the events of a seed

pub record HasRun (seed k : ℕ) (gateway : Machine) (tally : Tally) : Type 0 where
  pub could : IsHistory (lived demo_settings 0 [] (events seed k))
  pub stands : Stands by_keys demo_settings 0 (lived demo_settings 0 [] (events seed k)) gateway
  pub counted : tally ≡ and_all (tally_of []) (gate demo_settings 0 (events seed k))

pub started_run : (seed : ℕ) (g g' : Machine) (left : Output) (before after : Tally) → g ≡ opened_machine demo_settings → g' ≡ started_at 0 g
    → Stands by_keys g'.settings 0 [] g'
    → emits_of left.emits ≡ own_claim g.settings.name (Some g.settings.address) ∷ request_for_claims g.settings.address ∷ []
    → before ≡ tally_of [] → after ≡ and_all before (at 0 (emits_of left.emits)) → HasRun seed 0 g' after
started_run seed g g' left before after new started stands emitted none counted =
    let was : g.settings ≡ demo_settings = ap (λ (z : Machine). z.settings) new in
    let is : g'.settings ≡ demo_settings = ap (λ (z : Machine). z.settings) started ∙ was in
    record {
      could = tt;
      stands = subst (λ (z : Settings). Stands by_keys z 0 [] g') is stands;
      counted = counted ∙ ap (λ (y : Tally). and_all y (at 0 (emits_of left.emits))) none
          ∙ ap (λ (es : List Emit). and_all (tally_of []) (at 0 es)) emitted
          ∙ ap (λ (z : Settings). and_all (tally_of []) (at 0 (own_claim z.name (Some z.address) ∷ request_for_claims z.address ∷ []))) was
          ∙ ap (and_all (tally_of [])) (sym (append-nil (opening demo_settings 0)));
    }

suc_is : (k : ℕ) → suc k ≡ k + 1
suc_is k = omega arith

pub next_run : (seed k : ℕ) (e : Entry) (g g' : Machine) (before after : Tally) (x x' : Input) → HasRun seed k g before → IsBefore seed k x → IsNext x e x'
    → IsRun e g g' before after → HasRun seed (k + 1) g' after × IsBefore seed (k + 1) x'
next_run seed k e g g' before after x x' has stood next run =
    let gives = next seed k stood in
    let es = events seed k in
    let h = lived demo_settings 0 [] es in
    let here = stepped demo_settings 0 h (event_at seed k) in
    let r : IsRunTo demo_settings 0 here g' before after =
    subst (λ (y : Entry). IsRunTo demo_settings 0 (stepped demo_settings 0 h y) g' before after) gives.event (run demo_settings 0 h has.could has.stands) in
    let more : lived demo_settings 0 [] (events seed (suc k)) ≡ here.after = lived_more demo_settings 0 [] es (event_at seed k) in
    let ran : HasRun seed (suc k) g' after = record {
      could = subst IsHistory (sym more) r.could;
      stands = subst (λ (z : History). Stands by_keys demo_settings 0 z g') (sym more) r.stands;
      counted = r.counted ∙ ap (λ (y : Tally). and_all y here.emits) has.counted
          ∙ sym (fold-append and_one (tally_of []) (gate demo_settings 0 es) here.emits)
          ∙ ap (and_all (tally_of [])) (sym (gate_more demo_settings 0 es (event_at seed k)));
    } in
    (subst (λ (n : ℕ). HasRun seed n g' after) (suc_is k) ran, subst (λ (n : ℕ). IsBefore seed n x') (suc_is k) gives.goes_on)
