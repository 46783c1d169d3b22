-- An entry when what was overdue has ended, and one that is taken by an outbox in which there is nothing.
use Rattle.std.proofs.Common.{◌≡◌, ℕ, ◌≤◌, Bool, length, Option, Some, None, option_map, refl, ap}
use Rattle.gate_events.specs.Event.{moment_in, view}
use Rattle.gate_events.specs.declared.event.Event.{Event}
use Rattle.gate_events.specs.declared.event.Event.TheVariants as event
use Rattle.history.specs.Entries.{Entry, moment_of}
use Rattle.gate_model.specs.Addresses.{Changed, changes_after}
use Rattle.gate_model.specs.Machine.{Machine, Step, counted_in, later, overdue}
use Rattle.gate_model.specs.MachineSteps.{entered, handled}
use Rattle.gate_model.specs.Said.{ordered_by}
use Rattle.gate_outbox.specs.declared.done.Done.{Done}
use Rattle.gate_outbox.specs.declared.done.Command.{Command}
use Rattle.gate_outbox.specs.Output.{Emitted, Output, and_told, most_told, nothing}
use Rattle.gate_outbox.proofs.Telling.{left_behind, left_first}
use Rattle.gate_core.specs.Steps.{by_keys, entry_of, and_step, output_of, first_there, done_of, command_of, selected_by}

-- the moment of an event is that of its entry
pub same_moment : (x : Event) → moment_in (view x) ≡ moment_of (entry_of x)
same_moment (event.Frame moment frame) = refl
same_moment (event.Datagram moment bytes) = refl
same_moment (event.Tick moment) = refl

module _ (g g₁ : Machine) (e : Entry) (m : ℕ) (now : m ≡ moment_of e) (passed : g₁ ≡ later m g) where
  pub entered_after : (g₂ g₃ : Machine) (changed : Changed) → g₂ ≡ (handled by_keys g₁ e).after → changed ≡ changes_after g₁.addresses e → g₃ ≡ counted_in changed g₂
      → g₃ ≡ (entered by_keys g e).after
  entered_after g₂ g₃ changed handles changes counts = rw (counts, handles, changes, passed, now) refl

  pub entered_output : (told told' : Emitted) (done : Option Done) (selected : Bool) (command : Option Command) (o o' : Output)
      → (let before : Output = record { emits = told; done = done; selected = selected; command = command } in before ≡ o) → told' ≡ and_told most_told told (overdue m g)
      → o' ≡ and_step g₁.settings.name (record { emits = told'; done = done; selected = selected; command = command }) (handled by_keys g₁ e)
      → o' ≡ and_step g.settings.name o (entered by_keys g e)
  entered_output told told' done selected command o o' view tells gives =
      let h : Step = handled by_keys (later (moment_of e) g) e in
      rw (gives, tells, passed, now, ← view)
      (ap (λ x. let all : Output = record {
        emits = x;
        done = first_there (option_map done_of h.complete) done;
        selected = selected_by h.complete h.posted selected;
        command = first_there (option_map command_of (ordered_by g.settings.name h.complete)) command;
      } in all) (left_behind most_told told (record { told = h.told; posted = h.posted }) (overdue (moment_of e) g)))

-- ---- where nothing was in the outbox, there is room for what a step leaves

first_alone : {T : Type 0} (o : Option T) → first_there o None ≡ o
first_alone None = refl
first_alone (Some there) = refl

pub output_fits : (name : ℕ) (o left : Output) (x : Step) → o ≡ nothing → length x.told ≤ 4095 → left ≡ and_step name o x → left ≡ output_of name x
output_fits name o left x empty room gives =
    rw (
      gives,
      empty,
      left_first most_told (record { told = x.told; posted = x.posted }) room,
      first_alone (option_map done_of x.complete),
      first_alone (option_map command_of (ordered_by name x.complete)),
    ) refl
