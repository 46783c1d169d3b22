-- What a message leaves that a frame completes, by who holds its source (ISO 11783-5): from an address that nobody holds there is none.
use Rattle.std.specs.Prelude.{ℕ, Option, option_map}
use Rattle.n2k_id.specs.Frame.{BusFrame}
use Rattle.readings.specs.declared.reading.Reading.{Reading}
use Rattle.history.specs.Emits.{reported, replied}
use Rattle.history.specs.Messages.{Carried}
use Rattle.history.specs.Settings.{Settings}
use Rattle.gate_model.specs.Machine.{Machine, Step}
use Rattle.gate_model.specs.MachineSteps.{complete_here, own_here, parts_here, with_message}
use Rattle.gate_model.specs.Said.{Complete, SaidKept, message_emits, ordered_by, short_reports}
use Rattle.gate_model.specs.Sessions.{SessionStep}
use Rattle.gate_outbox.specs.declared.done.Done.{Done}
use Rattle.gate_outbox.specs.Output.{Output, and_posted, and_told, most_told}
use Rattle.row_traffic.specs.declared.said.Sender.{Sender}
use Rattle.gate_core.specs.Steps.{by_keys, command_of, done_of, first_there, selected_by}

-- the message of a sender that carries this
abbrev pub whole : Sender → Carried → Complete
whole sender what = record { moment = sender.moment; source = sender.source; name = sender.name.0; pgn = what.pgn; payload = what.payload }

-- what is told of it, with its reading
abbrev pub done_with : Sender → ℕ → Option Reading → Done
done_with sender pgn reading = record { source = sender.source; name = sender.name; pgn = pgn; reading = reading }

module _ (c : Settings) (k : SaidKept) where
  -- an outbox with the datagram in which a message is said, the message, whether it is selected, and the command that it gives
  abbrev pub and_complete : Output → Option Complete → Output
  and_complete o d = record {
    emits = and_posted o.emits (message_emits c k d);
    done = first_there (option_map done_of d) o.done;
    selected = selected_by d (message_emits c k d) o.selected;
    command = first_there (option_map command_of (ordered_by c.name d)) o.command;
  }

  -- behind the rule that is broken by what a frame from this source completes
  abbrev pub and_message : Output → ℕ → Option Carried → Option Complete → Output
  and_message o source what d = and_complete (record o { emits = and_told most_told o.emits (reported (short_reports source what)) }) d

-- what a frame of the transport protocol (ISO 11783-3) makes of a gateway, by what it makes of the sessions
abbrev pub session_by : Machine → ℕ → BusFrame → SessionStep → Step
session_by g m f x =
    with_message (record g { sessions = x.slots }) x.reports (replied (own_here by_keys g m f) (parts_here by_keys g m f).source x.reply)
    (complete_here by_keys g m f x.done)
