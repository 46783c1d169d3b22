-- The message that a step of the gateway selected, picked from what the step left: it is the one of the history.
use Rattle.std.specs.Prelude.{◌≡◌, ℕ, Option, Some, None, IfSome, option_map, if◌then◌else◌}
use Rattle.readings.specs.declared.reading.Reading.{Reading}
use Rattle.readings.specs.Rows.{IsValid}
use Rattle.history.specs.Entries.{Entry, History}
use Rattle.history.specs.Settings.{Settings}
use Rattle.gate_model.specs.Machine.{Machine}
use Rattle.gate_outbox.specs.declared.done.Done.{Done}
use Rattle.gate_outbox.specs.Output.{Output}
use Rattle.gate_core.specs.Promises.{IsTaken}
use Rattle.gate_core.specs.declared.selected_message.SelectedMessage.{SelectedMessage}
use Rattle.gate_core.specs.Selected.{Selected, selected_at}

-- without the entry by which it was complete
abbrev pub message_of : Selected → SelectedMessage
message_of x = record { source = x.source; name = record { 0 = x.name }; moment = x.moment; reading = x.reading }

abbrev pub read_at : ℕ → Done → Option Reading → Option SelectedMessage
read_at m d None = None
read_at m d (Some r) = Some (record { source = d.source; name = d.name; moment = m; reading = r })

abbrev pub done_at : ℕ → Option Done → Option SelectedMessage
done_at m None = None
done_at m (Some d) = read_at m d d.reading

-- what was complete at the moment, where it was selected
abbrev pub picked_at : ℕ → Output → Option SelectedMessage
picked_at m left = if left.selected then done_at m left.done else None

-- at the moment of the gateway's last entry
abbrev pub last_picked : Machine → Output → Option SelectedMessage
last_picked gateway left = picked_at gateway.moment left

-- for every configuration, start moment, history and entry that the gateway took
abbrev pub IsPicked : Machine → Output → Option SelectedMessage → Type 0
IsPicked gateway left picked =
    (c : Settings) (s : ℕ) (h : History) (e : Entry) → IsTaken c s h e gateway left → picked ≡ option_map message_of (selected_at c s h e)

-- what is printed has its range
abbrev pub IsMessageValid : Option SelectedMessage → Type 0
IsMessageValid message = IfSome message (λ k. IsValid k.reading)
