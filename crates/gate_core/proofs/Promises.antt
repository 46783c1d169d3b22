-- A step of the gateway gives what the definition over the whole history says, and finds room.
use Rattle.std.proofs.Common.{◌≡◌, ℕ, ◌<◌, ◌≤◌, true, false, List, [], ◌∷◌, Option, Some, None, option_map, length, refl, sym, ap, subst, ◌∙◌, arith}
use Rattle.std.specs.Prelude.{if◌then◌else◌, is_some}
use Rattle.std.proofs.lemmas.Bool.{leb-true}
use Rattle.std.proofs.lemmas.List.{length-take}
use Rattle.n2k_id.specs.declared.frame.Frame.{Frame}
use Rattle.n2k_id.specs.declared.pattern.Pattern.{Pattern}
use Rattle.n2k_id.specs.Frame.{IsFrame, held_bytes}
use Rattle.gate_events.specs.declared.event.Event.{Event}
use Rattle.gate_events.specs.declared.event.Event.TheVariants as event
use Rattle.report_rules.specs.Rules as rules
use Rattle.gate_events.specs.declared.emit.Detail.TheVariants as detail
use Rattle.history.specs.Entries as entry
use Rattle.history.specs.Entries.{Entry, History, IsHistory, IsOffered, is_accepted, moment_of, now}
use Rattle.history.specs.EntryLaws.{IsEvent}
use Rattle.claim_table.specs.Claims.{is_ready}
use Rattle.claim_table.specs.declared.answer.Holder.{Holder}
use Rattle.history.specs.Known.{known}
use Rattle.history.specs.Messages.{Message, done, messages_of}
use Rattle.history.specs.Emits.{broken, is_there}
use Rattle.history.specs.FromBus.{selected_in}
use Rattle.gate_events.specs.Emit.{Emit}
use Rattle.gate_model.specs.AddressStands.{TellsAlike, name_held}
use Rattle.gate_model.specs.Said.{Complete, Ordered, complete_of, ordered_by}
use Rattle.gate_model.specs.Machine.{Machine, Step, opened_machine, started_at}
use Rattle.gate_model.specs.MachineSteps.{stepped, entered, commanded}
use Rattle.gate_model.specs.Stands.{AreOrders, Stands, IsReached}
use Rattle.gate_model.specs.StandsLaws.{IsStepOf, StepFits, CommandFits}
use Rattle.gate_model.proofs.AddressTells.{standing_tells_alike}
use Rattle.gate_model.proofs.KeyOrders.{fast_in_order, iso_in_order, groups_in_order}
use Rattle.gate_model.proofs.SaidTold.{messages_are_told}
use Rattle.gate_model.proofs.StandsTimes.{opening_stands}
use Rattle.gate_model.proofs.StandsEntries.{entries_stand, commands_stand, too_early_is_told}
use Rattle.gate_model.proofs.StandsRoom.{timely, opening_is_reached, steps_fit, commands_fit}
use Rattle.gate_model.proofs.StandsReached.{all_reached_fits}
use Rattle.config_values.specs.declared.config.Config.{Config}
use Rattle.config_values.specs.Configs.{IsConfig}
use Rattle.history.specs.Settings.{SentenceChoice, Settings, receiver_of}
use Rattle.config_values.specs.Settings.{settings_ignoring}
use Rattle.config_values.proofs.SettingsLemmas.{are_settings}
use Rattle.gate_outbox.specs.Output.{Output, nothing}
use Rattle.gate_core.specs.Steps.{by_keys, entry_of, IsEventValid, Stays, done_of, command_of, and_step, output_of, selected_by}
use Rattle.gate_core.proofs.Entering.{output_fits}
use Rattle.gate_core.specs.Promises.{done_told, entry_by, IsTaken, IsTooEarly, IsStep, IsCommandStep}

pub orders : AreOrders by_keys
orders = record { fast = fast_in_order; sessions = iso_in_order; groups = groups_in_order }

-- ---- what was reached

pub stays_of : (g : Machine) → IsReached by_keys g → Stays g
stays_of g it =
    let fits = all_reached_fits by_keys g it in
    record { holders = fits.sound.room; listed = fits.net.sources }

is_event : (e : Event) → IsEvent (entry_of e)
is_event (event.Frame moment frame) = tt
is_event (event.Datagram moment bytes) = tt
is_event (event.Tick moment) = tt

held_few : (frame : Frame) → IsFrame frame → length (held_bytes frame) ≤ 8
held_few frame valid = omega (arith, length-take frame.len frame.bytes, valid.fits)

is_offered : (e : Event) → IsEventValid e → IsOffered (entry_of e)
is_offered (event.Frame moment frame) valid = (valid.identifier, held_few frame valid)
is_offered (event.Datagram moment bytes) valid = tt
is_offered (event.Tick moment) valid = tt

pub step_fits : (g : Machine) (e : Event) → IsReached by_keys g → IsEventValid e → StepFits by_keys g (entry_of e)
step_fits g e it valid = steps_fit by_keys g (entry_of e) orders it (is_event e) (is_offered e valid)

pub command_fits : (g : Machine) (source address : ℕ) → IsReached by_keys g → source < 256 → CommandFits by_keys g source address
command_fits g source address it from = commands_fit by_keys g source address orders it from

-- by an outbox in which there was nothing, all that is told finds room
pub step_left : (g : Machine) (e : Event) → IsReached by_keys g → IsEventValid e → (o left : Output) → o ≡ nothing
    → left ≡ and_step g.settings.name o (stepped by_keys g (entry_of e)) → left ≡ output_of g.settings.name (stepped by_keys g (entry_of e))
step_left g e it valid o left empty gives =
    output_fits g.settings.name o left (stepped by_keys g (entry_of e)) empty (step_fits g e it valid).room gives

pub command_left : (g : Machine) (source address : ℕ) → IsReached by_keys g → source < 256 → (o left : Output) → o ≡ nothing
    → left ≡ and_step g.settings.name o (commanded g source address) → left ≡ output_of g.settings.name (commanded g source address)
command_left g source address it from o left empty gives =
    output_fits g.settings.name o left (commanded g source address) empty (command_fits g source address it from).room gives

pub opened_reached : (ignored : List Pattern) (optional : SentenceChoice) (config : Config) → IsConfig config
    → IsReached by_keys (opened_machine (settings_ignoring ignored optional config))
opened_reached ignored optional config valid =
    let are = are_settings ignored optional config valid in (opening_is_reached by_keys (settings_ignoring ignored optional config) are.settings are.limits).opened

pub started_reached : (g : Machine) (moment : ℕ) → IsReached by_keys g → g ≡ opened_machine g.settings → IsReached by_keys (started_at moment g)
started_reached g moment it is =
    subst (λ z. IsReached by_keys (started_at moment z)) (sym is) ((opening_is_reached by_keys g.settings it.settings it.limits).started moment)

pub start_stands : (g : Machine) (moment : ℕ) → IsReached by_keys g → g ≡ opened_machine g.settings → Stands by_keys g.settings moment [] (started_at moment g)
start_stands g moment it is =
    subst (λ z. Stands by_keys g.settings moment [] (started_at moment z)) (sym is) (opening_stands by_keys g.settings moment it.settings)

-- ---- what is left

told_same : (d : Option Message) → option_map done_of (option_map complete_of d) ≡ option_map done_told d
told_same None = refl
told_same (Some d) = refl

-- no message is none that is selected
selected_same : (c : Settings) (holders : List (Option Holder)) (older : List Message) (posted : List Emit) (d : Option Message)
    → is_there posted ≡ is_some (selected_in c holders older d)
    → selected_by (option_map complete_of d) posted false ≡ is_some (selected_in c holders older d)
selected_same c holders older posted None said = refl
selected_same c holders older posted (Some d) said = said

entries_same : (m : ℕ) (d : Option Ordered) → option_map (entry_by m) (option_map command_of d) ≡ option_map (λ o. entry.command m o.source o.address) d
entries_same m None = refl
entries_same m (Some d) = refl

module _ (g : Machine) (s : ℕ) (h : History) where
  taken_by : (e : Entry) (x : Step) → IsStepOf by_keys g.settings s h e x → IsTaken g.settings s h e x.after (output_of g.settings.name x)
  taken_by e x is = record {
    stands = is.stands;
    emits = is.emits;
    posted = is.selected;
    told = ap (option_map done_of) is.complete ∙ told_same (done (receiver_of g.settings) s h e);
    selected =
        ap (λ (d : Option Complete). selected_by d x.posted false) is.complete
        ∙ selected_same g.settings (known (receiver_of g.settings) s h).claims.holders (messages_of (receiver_of g.settings) s h) x.posted
        (done (receiver_of g.settings) s h e) is.selected;
    ordered =
        ap (λ (d : Option Complete). option_map (entry_by (moment_of e)) (option_map command_of (ordered_by g.settings.name d))) is.complete
        ∙ entries_same (moment_of e) (ordered_by g.settings.name (option_map complete_of (done (receiver_of g.settings) s h e)))
        ∙ sym ((messages_are_told g.settings s).ordered (done (receiver_of g.settings) s h e) (moment_of e));
  }

  in_time : (e : Entry) → is_accepted h e ≡ true → now h ≤ moment_of e
  in_time e accepted = leb-true (now h) (moment_of e) accepted

pub is_step : (g : Machine) (e : Event) → IsReached by_keys g → IsEventValid e
    → IsStep (entry_of e) g (stepped by_keys g (entry_of e)).after (output_of g.settings.name (stepped by_keys g (entry_of e)))
is_step g e it valid s h could stands = (taken, early)
  where
    next : Entry
    next = entry_of e

    told : stepped by_keys g next
        ≡ (if is_accepted h next then entered by_keys g next
        else record { after = g; told = broken rules.moment_back detail.Nothing ∷ []; posted = []; complete = None })
    told = too_early_is_told by_keys g.settings s h next g stands

    taken : is_accepted h next ≡ true
        → IsTaken g.settings s h next (stepped by_keys g next).after (output_of g.settings.name (stepped by_keys g next))
    taken accepted =
        let all : IsHistory (next ∷ h) = (is_offered e valid, timely h next (is_event e) (in_time g s h next accepted), could) in
        let is = entries_stand by_keys g.settings s h next g orders it.settings all stands in
        let so : stepped by_keys g next ≡ entered by_keys g next = told ∙ rw accepted refl in
        subst (λ x. IsTaken g.settings s h next x.after (output_of g.settings.name x)) (sym so) (taken_by g s h next (entered by_keys g next) is)

    early : is_accepted h next ≡ false → IsTooEarly g (stepped by_keys g next).after (output_of g.settings.name (stepped by_keys g next))
    early refused =
        let x : Step = record { after = g; told = broken rules.moment_back detail.Nothing ∷ []; posted = []; complete = None } in
        let so : stepped by_keys g next ≡ x = told ∙ rw refused refl in
        subst (λ y. IsTooEarly g y.after (output_of g.settings.name y)) (sym so) (record { unchanged = refl; reported = refl })

pub is_command_step : (g : Machine) (source address : ℕ) → IsReached by_keys g → source < 256
    → IsCommandStep source address g (commanded g source address).after (output_of g.settings.name (commanded g source address))
is_command_step g source address it from s h could stands =
    let e : Entry = entry.command (now h) source address in
    taken_by g s h e (commanded g source address) (commands_stand by_keys g.settings s h source address g orders it.settings (from, refl, could) stands)

-- ---- what is told at any time

module _ (g : Machine) (s : ℕ) (h : History) (stands : Stands by_keys g.settings s h g) where
  abbrev tells : TellsAlike g.addresses.claims (known (receiver_of g.settings) s h).claims
  tells = standing_tells_alike (receiver_of g.settings) s h g.addresses stands.addresses

  pub own_is_known : g.addresses.claims.own ≡ (known (receiver_of g.settings) s h).claims.own
  own_is_known = tells.own

  pub holder_is_known : (address : ℕ) → name_held g.addresses.claims.holders address ≡ name_held (known (receiver_of g.settings) s h).claims.holders address
  holder_is_known address = tells.names address

  pub ready_at_is_known : (m : ℕ) → is_ready g.addresses.claims m ≡ is_ready (known (receiver_of g.settings) s h).claims m
  ready_at_is_known m = tells.ready m

  pub ready_is_known : is_ready g.addresses.claims g.moment ≡ is_ready (known (receiver_of g.settings) s h).claims (now h)
  ready_is_known = ap (is_ready g.addresses.claims) stands.moment ∙ ready_at_is_known (now h)
