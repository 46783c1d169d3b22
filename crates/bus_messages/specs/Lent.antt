-- A message that is complete, while its payload is lent, as plain values.
use Rattle.std.specs.Prelude.{Option, option_map}
use Rattle.history.specs.Messages.{Carried, carried}
use Rattle.bus_messages.specs.declared.messages.Message.{Message}

abbrev pub carried_in : Message → Carried
carried_in message = carried message.pgn message.payload.now

abbrev pub lent_message : Option Message → Option Carried
lent_message lent = option_map carried_in lent
