-- A listener that stands for a history stands for it with a command as well, and no more is open than there is room for.
use Rattle.history.specs.Entries.{now}
use Rattle.history.proofs.FastLimits.{fast_within_limit}
use Rattle.gate_model.proofs.FastLosses.{commands_leave_fast}
use Rattle.gate_core.specs.Steps.{by_keys}
use Rattle.bus_listener.specs.Heard.{listener}
use Rattle.bus_listener.specs.Promises.{CommandsLeaveListening, MessagesKeepTheLimit}
use Rattle.bus_listener.proofs.KnownLemmas.{is_receiver}

pub commands_leave_listening : CommandsLeaveListening
commands_leave_listening kinds limit c s h source address slots are settings it =
    commands_leave_fast by_keys.fast (listener kinds limit c) s h (now h) (now h) source address slots (is_receiver kinds limit c are settings) it

pub messages_keep_the_limit : MessagesKeepTheLimit
messages_keep_the_limit kinds limit c s h m are settings could later =
    fast_within_limit (listener kinds limit c) s h m (is_receiver kinds limit c are settings) could later
