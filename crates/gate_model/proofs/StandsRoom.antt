-- What was reached is reached again by every event and command, and all that is emitted finds room.
use Rattle.std.proofs.Common.{◌≡◌, ℕ, ◌<◌, ◌≤◌, Bool, true, false, List, [], ◌∷◌, length, length-append, refl, sym, ap, subst, ◌∙◌, arith}
use Rattle.std.specs.Prelude.{Option, Some, None, option_map, IfSome, nat_le}
use Rattle.std.proofs.lemmas.Bool.{leb-true}
use Rattle.n2k_id.specs.Frame.{BusFrame}
use Rattle.claim_table.specs.Claims.{places, is_ready}
use Rattle.datagram450.specs.Datagram as datagrams
use Rattle.history.specs.Settings.{Settings, receiver_of}
use Rattle.history.specs.Messages.{Message, done}
use Rattle.history.specs.Entries as entry
use Rattle.history.specs.Entries.{Entry, History, IsHistory, IsOffered, IsTimely, moment_of, now}
use Rattle.history.specs.EntryLaws.{IsEvent}
use Rattle.history.specs.FromNet.{items_in}
use Rattle.history.specs.Meanings.{Meaning}
use Rattle.history.specs.Meanings as meanings
use Rattle.history.specs.Known.{is_claim}
use Rattle.gate_events.specs.Emit.{Emit}
use Rattle.history.specs.AddressLaws.{AreSettings}
use Rattle.history.specs.FitLaws.{IsWithinLimits}
use Rattle.history.proofs.FitRoom.{room_suffices}
use Rattle.gate_model.specs.NetLaws.{AreSequences}
use Rattle.gate_model.specs.Said.{Complete, complete_of}
use Rattle.gate_model.specs.Machine.{Compared, Machine, Step, opened_machine, started_at, later}
use Rattle.gate_model.specs.MachineSteps.{claim_frame, frame_step, handled, entered, commanded}
use Rattle.gate_model.specs.Stands.{AreOrders, Stands, IsReached}
use Rattle.gate_model.specs.StandsLaws.{IsStepOf, OpeningIsReached, StepFits, StepsFit, CommandsFit}
use Rattle.gate_model.proofs.NetFits.{sequences_fit}
use Rattle.gate_model.proofs.SaidMessages.{messages_fit}
use Rattle.gate_model.proofs.StandsTimes.{opening_stands}
use Rattle.gate_model.proofs.StandsEntries.{entries_stand, commands_stand}
use Rattle.gate_model.proofs.StandsSequences.{of_items}

-- ---- the start

started_reached : (o : Compared) (c : Settings) (s : ℕ) → AreSettings c → IsWithinLimits c → IsReached o (started_at s (opened_machine c))
started_reached o c s are limits = record {
  start = s;
  past = [];
  settings = are;
  limits = limits;
  could = tt;
  stands = opening_stands o c s are;
  sequences = sequences_fit.opening c;
}

pub opening_is_reached : OpeningIsReached
opening_is_reached o c are limits = record {
  started = λ s. started_reached o c s are limits;
  opened = started_reached o c 0 are limits;
}

-- ---- a frame leaves what is kept of the network, and a datagram keeps its numbers in range

module _ (o : Compared) (g : Machine) (m : ℕ) (f : BusFrame) (are : AreSequences g.network.readings) where
  of_claim : (b : Bool) → is_claim f ≡ b → AreSequences (claim_frame o g m f).after.network.readings
  of_claim true e = rw e are
  of_claim false e = rw e are

  of_meaning : (meaning : Meaning) → AreSequences (frame_step o g m f meaning).after.network.readings
  of_meaning meanings.address_claim = of_claim (is_claim f) refl
  of_meaning meanings.own_source = are
  of_meaning meanings.request = are
  of_meaning meanings.from_nobody = are
  of_meaning meanings.transport = are
  of_meaning meanings.single = are
  of_meaning meanings.fast_packet = are
  of_meaning meanings.passed = are

of_entry : (o : Compared) (g : Machine) (e : Entry) → AreSequences g.network.readings → AreSequences (handled o g e).after.network.readings
of_entry o g (entry.frame m f) are = of_meaning o g m f are _
of_entry o g (entry.datagram m bytes) are =
    of_items o.groups g.settings m (is_ready g.addresses.claims m) (items_in (datagrams.read bytes)) g.network are
of_entry o g (entry.tick m) are = are
of_entry o g (entry.command m source address) are = are

-- ---- a message is from an address that can be held

of_message : (d : Option Message) → IfSome d (λ d. d.source < places) → IfSome (option_map complete_of d) (λ d. d.source < places)
of_message None fits = tt
of_message (Some d) fits = fits

done_fits : (c : Settings) (s : ℕ) (h : History) (e : Entry) → AreSettings c → IfSome (done (receiver_of c) s h e) (λ d. d.source < places)
done_fits c s h (entry.frame m f) are = messages_fit c s h m f are
done_fits c s h (entry.datagram m bytes) are = tt
done_fits c s h (entry.tick m) are = tt
done_fits c s h (entry.command m source address) are = tt

-- ---- an event

pub timely : (h : History) (e : Entry) → IsEvent e → now h ≤ moment_of e → IsTimely h e
timely h (entry.frame m f) event le = le
timely h (entry.datagram m bytes) event le = le
timely h (entry.tick m) event le = le
timely h (entry.command m source address) event le = absurd event

module _ (o : Compared) (g : Machine) (orders : AreOrders o) (it : IsReached o g) where
  -- by an entry that could be the next
  reached_by : (e : Entry) (x : Step) → IsHistory (e ∷ it.past) → IsStepOf o g.settings it.start it.past e x → AreSequences x.after.network.readings
      → IsReached o x.after
  reached_by e x could is small = record {
    start = it.start;
    past = e ∷ it.past;
    settings = subst AreSettings (sym is.stands.settings) it.settings;
    limits = subst IsWithinLimits (sym is.stands.settings) it.limits;
    could = could;
    stands = subst (λ (c : Settings). Stands o c it.start (e ∷ it.past) x.after) (sym is.stands.settings) is.stands;
    sequences = small;
  }

  room_by : (e : Entry) (x : Step) → now it.past ≤ moment_of e → IsStepOf o g.settings it.start it.past e x → length x.told ≤ 4095
  room_by e x le is =
      let both = length-append x.told x.posted in
      let given = ap (λ (emits : List Emit). length emits) is.emits in
      let most = room_suffices g.settings it.start it.past e it.settings it.limits it.could le in
      omega (arith, both, given, most)

  -- what it completes is from an address that can be held
  source_by : (e : Entry) (x : Step) → IsStepOf o g.settings it.start it.past e x → IfSome x.complete (λ d. d.source < places)
  source_by e x is =
      subst (λ (d : Option Complete). IfSome d (λ d. d.source < places)) (sym is.complete)
      (of_message (done (receiver_of g.settings) it.start it.past e) (done_fits g.settings it.start it.past e it.settings))

  entered_fits : (e : Entry) → IsEvent e → IsOffered e → now it.past ≤ moment_of e
      → IsReached o (entered o g e).after × (length (entered o g e).told ≤ 4095) × IfSome (entered o g e).complete (λ d. d.source < places)
  entered_fits e event offered le =
      let could : IsHistory (e ∷ it.past) = (offered, timely it.past e event le, it.could) in
      let is : IsStepOf o g.settings it.start it.past e (entered o g e) =
      entries_stand o g.settings it.start it.past e g orders it.settings could it.stands in (
        reached_by e (entered o g e) could is (of_entry o (later (moment_of e) g) e it.sequences),
        room_by e (entered o g e) le is,
        source_by e (entered o g e) is,
      )

  step_fits : (e : Entry) → IsEvent e → IsOffered e → (b : Bool) → nat_le g.moment (moment_of e) ≡ b → StepFits o g e
  step_fits e event offered true le =
      let in_time : now it.past ≤ moment_of e = leb-true (now it.past) (moment_of e) (ap (λ (m : ℕ). nat_le m (moment_of e)) (sym it.stands.moment) ∙ le) in
      let fits = entered_fits e event offered in_time in
      record { reached = rw le fits.0; room = rw le fits.1; source = rw le fits.2 }
  step_fits e event offered false early = record { reached = rw early it; room = rw early (omega arith); source = rw early tt }

pub steps_fit : StepsFit
steps_fit o g e orders it event offered = step_fits o g orders it e event offered (nat_le g.moment (moment_of e)) refl

-- ---- a command

pub commands_fit : CommandsFit
commands_fit o g source address orders it from =
    let e : Entry = entry.command (now it.past) source address in
    let could : IsHistory (e ∷ it.past) = (from, refl, it.could) in
    let is = commands_stand o g.settings it.start it.past source address g orders it.settings could it.stands in
    record {
      reached = reached_by o g orders it e (commanded g source address) could is it.sequences;
      room = room_by o g orders it e (commanded g source address) (omega arith) is;
    }
