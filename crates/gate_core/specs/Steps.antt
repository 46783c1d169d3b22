-- What a step of the gateway takes, and what it leaves (the bus: ISO 11783-3; the network: IEC 61162-450).
use Rattle.std.specs.Prelude.{◌≡◌, ℕ, Bool, false, List, [], length, Option, Some, None, option_map}
use Rattle.n2k_id.specs.Frame.{IsFrame, bus_frame}
use Rattle.gate_events.specs.declared.event.Event.{Event}
use Rattle.gate_events.specs.declared.event.Event.TheVariants as event
use Rattle.fast_packet.specs.contracts.key.FastKeyOrd as fast_key
use Rattle.iso_transport.specs.contracts.key.IsoKeyOrd as iso_key
use Rattle.tag_block.specs.contracts.group_key.GroupKeyOrd as group_key
use Rattle.claim_table.specs.Claims.{places}
use Rattle.history.specs.Entries as entry
use Rattle.history.specs.Emits.{is_there}
use Rattle.history.specs.Entries.{Entry}
use Rattle.gate_model.specs.Said.{Complete, Ordered, reading_by, ordered_by}
use Rattle.gate_model.specs.Machine.{Compared, Machine, Step}
use Rattle.gate_events.specs.Emit.{Emit}
use Rattle.gate_outbox.specs.Output.{Output, and_left, most_told}
use Rattle.gate_outbox.specs.declared.done.Done.{Done}
use Rattle.gate_outbox.specs.declared.done.Command.{Command}

-- the keys of what is in the making are compared as the code compares them
abbrev pub by_keys : Compared
by_keys = record { fast = fast_key.TheImpl.ghosts.cmp; sessions = iso_key.TheImpl.ghosts.cmp; groups = group_key.TheImpl.ghosts.cmp }

-- an event as an entry of a history
abbrev pub entry_of : Event → Entry
entry_of (event.Frame moment frame) = entry.frame moment (bus_frame frame)
entry_of (event.Datagram moment bytes) = entry.datagram moment bytes.now
entry_of (event.Tick moment) = entry.tick moment

-- its frame is valid
abbrev pub IsEventValid : Event → Type 0
IsEventValid (event.Frame moment frame) = IsFrame frame
IsEventValid (event.Datagram moment bytes) = Unit {0}
IsEventValid (event.Tick moment) = Unit {0}

-- what stays so from one entry to the next: each address that a device can have has its place, and of the network each source that is listed
pub record Stays (g : Machine) : Type 0 where
  pub holders : length g.addresses.claims.holders ≡ places
  pub listed : g.network.readings.choices.sources ≡ length g.settings.net_sources

-- ---- what is left in the outbox

abbrev pub done_of : Complete → Done
done_of d = record { source = d.source; name = record { 0 = d.name }; pgn = d.pgn; reading = reading_by d }

abbrev pub command_of : Ordered → Command
command_of o = record { source = o.source; address = o.address }

-- the first of the two that is there
abbrev pub first_there : {T : Type 0} → Option T → Option T → Option T
first_there None before = before
first_there (Some there) before = Some there

-- whether the message is selected that a step completes: then its datagram is posted. Without a message it is as before
abbrev pub selected_by : Option Complete → List Emit → Bool → Bool
selected_by None posted before = before
selected_by (Some d) posted before = is_there posted

-- an outbox with all that a step leaves behind what was in it, as far as there is room
abbrev pub and_step : ℕ → Output → Step → Output
and_step name o x = record {
  emits = and_left most_told o.emits (record { told = x.told; posted = x.posted });
  done = first_there (option_map done_of x.complete) o.done;
  selected = selected_by x.complete x.posted o.selected;
  command = first_there (option_map command_of (ordered_by name x.complete)) o.command;
}

-- one in which there was nothing, by the NAME of the gateway
abbrev pub output_of : ℕ → Step → Output
output_of name x = record {
  emits = record { told = x.told; posted = x.posted };
  done = option_map done_of x.complete;
  selected = selected_by x.complete x.posted false;
  command = option_map command_of (ordered_by name x.complete);
}

-- one that completes no message
abbrev pub only_told : List Emit → Output
only_told told = record { emits = record { told = told; posted = [] }; done = None; selected = false; command = None }
