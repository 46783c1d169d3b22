-- What an event makes of heartbeats is what the definitions over all that ever came say.
use Rattle.std.proofs.Common.{◌≡◌, ℕ, ◌+◌, ◌≤◌, Bool, true, false, List, [], ◌∷◌, ◌++◌, refl, sym, ap, ap₂, subst, ◌∙◌}
use Rattle.std.specs.Prelude.{◌&&◌, not, nat_lt, Option, Some, None, is_some, if◌then◌else◌}
use Rattle.std.proofs.lemmas.List.{append-nil}
use Rattle.claim_table.specs.Claims.{Claims, is_ready}
use Rattle.gate_events.specs.declared.event.Event.{Event}
use Rattle.gate_outbox.specs.Output.{emits_of}
use Rattle.parts.specs.Steps.{entry_of}
use Rattle.gate_model.specs.AddressStands.{TellsAlike}
use Rattle.gate_model.proofs.AddressTells.{standing_tells_alike}
use Rattle.history.specs.Entries.{Entry, History, moment_of, now}
use Rattle.history.specs.Settings.{Settings, receiver_of}
use Rattle.parts.specs.Lanes.{given_output}
use Rattle.parts.specs.PartSteps.{entry_at}
use Rattle.parts.specs.declared.given.Given.{Given}
use Rattle.parts.specs.declared.part.Step.{Step}
use Rattle.settings.specs.declared.heartbeat.NetHeartbeat.{NetHeartbeat}
use Rattle.heartbeats.specs.BeatOut.{beat_from, beat_out, beats_before, claims_after, hbt_before, hbt_emit, hbt_out, is_beat, is_well}
use Rattle.heartbeats.specs.Beats.{BeatsTake, BusTakes, NetTakes, Silence}
use Rattle.heartbeats.specs.declared.heartbeats.Heartbeats.{Heartbeats}
use Rattle.heartbeats.specs.Due.{due_by, is_due, last_due}
use Rattle.heartbeats.specs.Kept.{BusKept, NetKept, bus_after, bus_kept, bus_tells, net_after, net_kept, net_posts}
use Rattle.heartbeats.proofs.DueLemmas.{event_due, event_timely, same_due}

-- ---- on the network

abbrev net_at : NetHeartbeat → List ℕ → ℕ → ℕ → NetKept
net_at n sfi due count = record { config = n; sfi = sfi; due = due; count = count }

net_counted : (b : Bool) (n : NetHeartbeat) (sfi : List ℕ) (before after count : ℕ) → (b ≡ false → before ≡ after)
    → (if b then net_at n sfi after (count + 1) else net_at n sfi before count) ≡ net_at n sfi after (if b then count + 1 else count)
net_counted true n sfi before after count same = refl
net_counted false n sfi before after count same = ap (λ due. net_at n sfi due count) (same refl)

module _ (n : NetHeartbeat) (c : Settings) (s : ℕ) (h : History) (x : Event) where
  abbrev e : Entry
  e = entry_of x

  abbrev grew : Bool
  grew = nat_lt (due_by n.every_s s (now h)) (due_by n.every_s s (moment_of e))

  net_stood : now h ≤ moment_of e → net_after s (moment_of e) (net_kept n c s h) ≡ net_kept n c s (e ∷ h)
  net_stood le =
      net_counted grew n c.sfi (due_by n.every_s s (now h)) (due_by n.every_s s (moment_of e)) (hbt_before n c s h)
      (same_due n.every_s s (now h) (moment_of e) le)
      ∙ ap (λ b. net_at n c.sfi (due_by n.every_s s (moment_of e)) (if b then hbt_before n c s h + 1 else hbt_before n c s h)) (sym (event_due n.every_s s h x))

  net_said : (silent : Silence) → net_posts s (moment_of e) (is_well silent c s h e) (net_kept n c s h) ≡ hbt_out silent n c s h e
  net_said silent =
      ap (λ b. if b then hbt_emit n c.sfi (is_well silent c s h e) (hbt_before n c s h) ∷ [] else []) (sym (event_due n.every_s s h x))

-- all is well by what the gateway tells
well_alike : (claims known : Claims) → claims.own ≡ known.own → (is_silent silent : Bool) → is_silent ≡ silent
    → (is_some claims.own && not is_silent) ≡ (is_some known.own && not silent)
well_alike claims known own is_silent silent is = ap (λ o. is_some o && not is_silent) own ∙ ap (λ b. is_some known.own && not b) is

pub no_net : (t : Step) (is_silent : Bool) (place : Given 0) → given_output place ≡ [] → NetTakes t is_silent None None place
no_net t is_silent place empty silent None c s h step stands is = record { stood = tt; emits = empty }
no_net t is_silent place empty silent (Some n) c s h step stands is = absurd stands

net_said_so : (t : Step) (is_silent : Bool) (before after : NetKept) (place : Given 0)
    → after ≡ net_after t.start (moment_of (entry_at t)) before
    → given_output place ≡ net_posts t.start (moment_of (entry_at t)) (is_some t.gateway.now.addresses.claims.own && not is_silent) before
    → NetTakes t is_silent (Some before) (Some after) place
net_said_so t is_silent before after place kept given silent None c s h step stands is = absurd stands
net_said_so t is_silent before after place kept given silent (Some n) c s h step stands is =
    let x = t.event.now in
    let m = moment_of (entry_at t) in
    let claims = t.gateway.now.addresses.claims in
    let own = (standing_tells_alike (receiver_of c) s (entry_at t ∷ h) t.gateway.now.addresses step.taken.stands.addresses).own in
    record {
      stood = kept ∙ ap (λ start. net_after start m before) step.start ∙ ap (net_after s m) stands ∙ net_stood n c s h x (event_timely h x step.could.1);
      emits = given ∙ ap (λ start. net_posts start m (is_some claims.own && not is_silent) before) step.start
          ∙ ap (λ well. net_posts s m well before) (well_alike claims (claims_after c s (entry_at t ∷ h)) own is_silent (silent h (entry_at t)) is)
          ∙ ap (net_posts s m (is_well silent c s h (entry_at t))) stands ∙ net_said n c s h x silent;
    }

pub net_takes : (t : Step) (is_silent : Bool) (start : Option NetKept) (before after : NetKept) (place : Given 0) (m : ℕ) (is_well : Bool) → start ≡ Some before
    → m ≡ moment_of (entry_at t) → is_well ≡ (is_some t.gateway.now.addresses.claims.own && not is_silent) → after ≡ net_after t.start m before
    → place.emits ≡ record { told = []; posted = net_posts t.start m is_well before } → NetTakes t is_silent start (Some after) place
net_takes t is_silent start before after place m is_well there now_is well kept given =
    subst (λ (k : Option NetKept). NetTakes t is_silent k (Some after) place) (sym there)
    (net_said_so t is_silent before after place (kept ∙ ap (λ moment. net_after t.start moment before) now_is)
    (ap emits_of given ∙ ap (λ moment. net_posts t.start moment is_well before) now_is ∙ ap (λ b. net_posts t.start (moment_of (entry_at t)) b before) well))

-- ---- on the bus

abbrev bus_at : ℕ → ℕ → ℕ → BusKept
bus_at every due count = record { every = every; due = due; count = count }

bus_counted : (b ready : Bool) (every before after count : ℕ) → (b ≡ false → before ≡ after)
    → (if b then bus_at every after (if ready then count + 1 else count) else bus_at every before count)
    ≡ bus_at every after (if b && ready then count + 1 else count)
bus_counted true ready every before after count same = refl
bus_counted false ready every before after count same = ap (λ due. bus_at every due count) (same refl)

module _ (every : ℕ) (c : Settings) (s : ℕ) (h : History) (x : Event) (claims : Claims) (alike : TellsAlike claims (claims_after c s (entry_of x ∷ h))) where
  abbrev now_is : Entry
  now_is = entry_of x

  abbrev ready : Bool
  ready = is_ready claims (last_due every s (moment_of now_is))

  beat_alike : (nat_lt (due_by every s (now h)) (due_by every s (moment_of now_is)) && ready) ≡ is_beat every c s h now_is
  beat_alike =
      ap (λ b. b && ready) (sym (event_due every s h x)) ∙ ap (λ b. is_due every s h now_is && b) (alike.ready (last_due every s (moment_of now_is)))

  bus_stood : now h ≤ moment_of now_is → bus_after claims s (moment_of now_is) (bus_kept every c s h) ≡ bus_kept every c s (now_is ∷ h)
  bus_stood le =
      bus_counted (nat_lt (due_by every s (now h)) (due_by every s (moment_of now_is))) ready every (due_by every s (now h)) (due_by every s (moment_of now_is))
      (beats_before every c s h) (same_due every s (now h) (moment_of now_is) le)
      ∙ ap (λ b. bus_at every (due_by every s (moment_of now_is)) (if b then beats_before every c s h + 1 else beats_before every c s h)) beat_alike

  bus_sent : bus_tells claims s (moment_of now_is) (bus_kept every c s h) ≡ beat_out every c s h now_is
  bus_sent =
      ap (λ b. if b then beat_from claims.own (beats_before every c s h) else []) beat_alike
      ∙ ap (λ own. if is_beat every c s h now_is then beat_from own (beats_before every c s h) else []) alike.own

pub no_bus : (t : Step) (place : Given 1) → given_output place ≡ [] → BusTakes t None None place
no_bus t place empty None c s h step stands = record { stood = tt; emits = empty }
no_bus t place empty (Some every) c s h step stands = absurd stands

bus_sent_so : (t : Step) (before after : BusKept) (place : Given 1)
    → after ≡ bus_after t.gateway.now.addresses.claims t.start (moment_of (entry_at t)) before
    → given_output place ≡ bus_tells t.gateway.now.addresses.claims t.start (moment_of (entry_at t)) before
    → BusTakes t (Some before) (Some after) place
bus_sent_so t before after place kept given None c s h step stands = absurd stands
bus_sent_so t before after place kept given (Some every) c s h step stands =
    let x = t.event.now in
    let m = moment_of (entry_at t) in
    let claims = t.gateway.now.addresses.claims in
    let alike = standing_tells_alike (receiver_of c) s (entry_at t ∷ h) t.gateway.now.addresses step.taken.stands.addresses in
    record {
      stood = kept ∙ ap (λ start. bus_after claims start m before) step.start ∙ ap (bus_after claims s m) stands
          ∙ bus_stood every c s h x claims alike (event_timely h x step.could.1);
      emits = given ∙ ap (λ start. bus_tells claims start m before) step.start ∙ ap (bus_tells claims s m) stands ∙ bus_sent every c s h x claims alike;
    }

pub bus_takes : (t : Step) (start : Option BusKept) (before after : BusKept) (place : Given 1) (m : ℕ) → start ≡ Some before → m ≡ moment_of (entry_at t)
    → after ≡ bus_after t.gateway.now.addresses.claims t.start m before
    → place.emits ≡ record { told = bus_tells t.gateway.now.addresses.claims t.start m before; posted = [] } → BusTakes t start (Some after) place
bus_takes t start before after place m there now_is kept given =
    let claims = t.gateway.now.addresses.claims in
    subst (λ (k : Option BusKept). BusTakes t k (Some after) place) (sym there)
    (bus_sent_so t before after place (kept ∙ ap (λ moment. bus_after claims t.start moment before) now_is)
    (ap emits_of given ∙ append-nil (bus_tells claims t.start m before) ∙ ap (λ moment. bus_tells claims t.start moment before) now_is))

-- ---- both

pub beats_take : (t : Step) (is_silent : Bool) (before : Heartbeats) (net : Option NetKept) (bus : Option BusKept) (said : Given 0) (sent : Given 1)
    → NetTakes t is_silent before.net net said → BusTakes t before.bus bus sent
    → BeatsTake t is_silent before (record { net = net; bus = bus }) (said, sent)
beats_take t is_silent before net bus said sent on_net on_bus silent b c s h step stands is =
    let n = on_net silent b.net c s h step stands.0 is in
    let u = on_bus b.bus_every_s c s h step stands.1 in
    record { stood = (n.stood, u.stood); emits = ap₂ (λ x y. x ++ y) n.emits u.emits }
