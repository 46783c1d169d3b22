-- A message that is heard, while its payload is lent, as plain values; and what becomes of the listener once it has ended.
use Rattle.std.specs.Prelude.{◌≡◌, ⊤, Option, option_map}
use Rattle.std.specs.Borrow.{Fml, MutBor, follows_so}
use mathlib.Core.Option.{none}
use Rattle.slot_views.specs.Slots.{SlotMap}
use Rattle.fast_packet.specs.declared.key.FastKey.{FastKey}
use Rattle.gate_model.specs.Said.{Complete}
use Rattle.bus_listener.specs.declared.message.HeardMessage.{HeardMessage}
use Rattle.bus_listener.specs.contracts.listener.BusListener.{the_row}

abbrev pub complete_in : HeardMessage → Complete
complete_in message = record {
  moment = message.moment;
  source = message.source;
  name = message.name.0;
  pgn = message.pgn;
  payload = message.payload.now;
}

abbrev pub heard_message : Option HeardMessage → Option Complete
heard_message lent = option_map complete_in lent

-- the listener behind b ends with these slots
abbrev pub ends_with : MutBor (SlotMap FastKey) → SlotMap FastKey → Fml
ends_with b slots = follows_so the_row the_row b.ghost_name none (λ _ _. ⊤) (λ n. n ≡ slots)
