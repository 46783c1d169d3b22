-- The command that an entry gives is taken behind what is told of that entry, and finds room; and an entry that gives one says nothing.
use Rattle.std.proofs.Common.{◌≡◌, ℕ, ◌<◌, ◌≤◌, List, ◌∷◌, ◌++◌, length, sym, ap, subst, ◌∙◌, length-append, arith}
use Rattle.std.proofs.lemmas.List.{append-nil}
use Rattle.gate_events.specs.Emit.{Emit}
use Rattle.history.specs.AddressLaws.{AreSettings}
use Rattle.history.specs.Entries as entry
use Rattle.history.specs.Entries.{Entry, History, IsHistory, IsTimely, moment_of, now}
use Rattle.history.specs.FitLaws.{IsWithinLimits}
use Rattle.history.specs.Gate.{out}
use Rattle.history.specs.Settings.{Settings}
use Rattle.history.proofs.Fits.{all_entries_fit}
use Rattle.history.proofs.FitRoom.{datagrams_fit}
use Rattle.gate_model.specs.Machine.{Machine, Step}
use Rattle.gate_model.specs.MachineSteps.{commanded}
use Rattle.gate_model.specs.Stands.{IsReached}
use Rattle.gate_outbox.specs.Output.{Output, emits_of, most_told}
use Rattle.gate_outbox.proofs.Telling.{told_fits}
use Rattle.gate_core.specs.Promises.{IsOrderStep, IsTaken}
use Rattle.gate_core.specs.Steps.{and_step, by_keys, output_of}
use Rattle.gate_core.proofs.Promises.{is_command_step}

-- ---- two entries find room together

timely : (h : History) (e : Entry) → IsTimely h e → now h ≤ moment_of e
timely h (entry.frame m f) in_time = in_time
timely h (entry.datagram m bytes) in_time = in_time
timely h (entry.tick m) in_time = in_time
timely h (entry.command m source address) in_time = omega (arith, in_time)

module _ (c : Settings) (s : ℕ) (h : History) (are : AreSettings c) (limits : IsWithinLimits c) (could : IsHistory h) where
  few : (e : Entry) → now h ≤ moment_of e → length (out c s h e) ≤ 2795
  few (entry.frame m f) le = let fit = (all_entries_fit c s h m are could le).at_frame f in omega (arith, fit, limits.fast, limits.iso, limits.groups)
  few (entry.datagram m bytes) le = let fit = datagrams_fit c s h m bytes are could le in omega (arith, fit, limits.fast, limits.iso, limits.groups)
  few (entry.tick m) le = let fit = (all_entries_fit c s h m are could le).at_tick in omega (arith, fit, limits.fast, limits.iso, limits.groups)
  few (entry.command m source address) le =
      let fit = (all_entries_fit c s h m are could le).at_command source address in omega (arith, fit, limits.fast, limits.iso, limits.groups)

  few_at_command : (source address : ℕ) → length (out c s h (entry.command (now h) source address)) ≤ 386
  few_at_command source address =
      let fit = (all_entries_fit c s h (now h) are could (omega arith)).at_command source address in omega (arith, fit, limits.fast, limits.iso, limits.groups)

-- ---- a command behind what is told

pub is_order_step : (g : Machine) (source address : ℕ) → IsReached by_keys g → source < 256 → (outbox left : Output)
    → left ≡ and_step g.settings.name outbox (commanded g source address)
    → IsOrderStep (record { source = source; address = address }) g (commanded g source address).after outbox left
is_order_step g source address it from outbox left gives s h e could taken =
    let x : Step = commanded g source address in
    let next : Entry = entry.command (now (e ∷ h)) source address in
    let is : IsTaken g.settings s (e ∷ h) next x.after (output_of g.settings.name x) = is_command_step g source address it from s (e ∷ h) could taken.stands in
    let told_is : x.told ≡ out g.settings s (e ∷ h) next = sym (append-nil x.told) ∙ is.emits in
    let before = few g.settings s h it.settings it.limits could.2 e (timely h e could.1) in
    let behind = few_at_command g.settings s (e ∷ h) it.settings it.limits could source address in
    let all = length-append outbox.emits.told outbox.emits.posted in
    let both : length (emits_of outbox.emits) ≤ 2795 = subst (λ (es : List Emit). length es ≤ 2795) (sym taken.emits) before in
    let more : length x.told ≤ 386 = subst (λ (es : List Emit). length es ≤ 386) (sym told_is) behind in
    record {
      stands = is.stands;
      told = ap (λ (y : Output). y.emits.told) gives ∙ told_fits most_told outbox.emits.told x.told (omega (arith, all, both, more))
          ∙ ap (λ (es : List Emit). outbox.emits.told ++ es) told_is;
      posted = ap (λ (y : Output). y.emits.posted) gives;
    }
