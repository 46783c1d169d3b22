-- What an event makes of the fast packets (canboat) that a listener keeps, what is told then, and the message that is complete, as plain
-- values. Nothing here speaks of what came before.
use Rattle.std.specs.Prelude.{ℕ, Bool, false, List, [], ◌∷◌, ◌++◌, Option, Some, None, option_map, if◌then◌else◌}
use Rattle.std.specs.declared.cmp.Ordering.{Ordering}
use Rattle.n2k_id.specs.declared.name.Name.{Name}
use Rattle.n2k_id.specs.declared.identifier_parts.Parts.{Parts}
use Rattle.n2k_id.specs.Frame.{BusFrame}
use Rattle.n2k_id.specs.Identifier.{parts_of}
use Rattle.report_rules.specs.Rules as rules
use Rattle.slot_views.specs.Slots.{SlotMap}
use Rattle.slot_views.specs.Traces.{unexpired}
use Rattle.fast_packet.specs.Assembly.{fed_after}
use Rattle.fast_packet.specs.declared.key.FastKey.{FastKey}
use Rattle.pgn_profile.specs.declared.kinds.Kind.{Kind}
use Rattle.pgn_profile.specs.declared.kinds.Kind.TheVariants.{Single, Fast, Outside}
use Rattle.history.specs.Entries as entry
use Rattle.history.specs.Entries.{Entry, moment_of}
use Rattle.gate_events.specs.Emit.{Emit}
use Rattle.history.specs.Emits.{of_source, reported}
use Rattle.gate_model.specs.Addresses.{AddressesKept, Changed}
use Rattle.gate_model.specs.AddressStands.{name_held}
use Rattle.gate_model.specs.Endings.{fast_overdue}
use Rattle.gate_model.specs.FastPackets.{FastAnswer, fast_answer, fast_kept, key_of, lost_of_source, without_source}
use Rattle.gate_model.specs.Said.{Complete}
use Rattle.bus_messages.specs.Heard.{heard_reports}
use Rattle.bus_listener.specs.Heard.{is_heard}
use Rattle.bus_listener.specs.Kinds.{is_message, is_told}

-- what an event leaves, what is told of it, and the message that it completes
pub record Hearing : Type 0 where
  pub slots : SlotMap FastKey
  pub told : List Emit
  pub message : Option Complete

abbrev pub no_message : SlotMap FastKey → Hearing
no_message slots = record { slots = slots; told = []; message = None }

-- behind what was told before
abbrev pub behind : List Emit → Hearing → Hearing
behind told x = record { slots = x.slots; told = told ++ x.told; message = x.message }

-- ---- a frame that is heard

abbrev pub complete_from : ℕ → Parts → Name → List ℕ → Complete
complete_from m p name payload = record { moment = m; source = p.source; name = name.0; pgn = p.pgn; payload = payload }

-- from an address that nobody holds
abbrev pub unclaimed_told : Parts → List Emit
unclaimed_told p = if is_told p.pgn then of_source rules.unclaimed p.source p.pgn ∷ [] else []

module _ (cmp : FastKey → FastKey → Ordering) (slots : SlotMap FastKey) (p : Parts) (bytes : List ℕ) (m : ℕ) where
  abbrev pub answer_here : FastAnswer
  answer_here = fast_answer cmp slots (key_of p) bytes m

  -- from an address that this NAME holds
  abbrev pub taken_as : Kind → Name → Hearing
  taken_as Single name = record { slots = slots; told = []; message = Some (complete_from m p name bytes) }
  taken_as Fast name = record {
    slots = fed_after cmp slots (key_of p) bytes m;
    told = reported (heard_reports p answer_here);
    message = option_map (complete_from m p name) answer_here.payload;
  }
  taken_as Outside name = no_message slots

  abbrev pub taken_from : Kind → Option Name → Hearing
  taken_from kind None = record { slots = slots; told = unclaimed_told p; message = None }
  taken_from kind (Some name) = taken_as kind name

-- ---- addresses that change hands: what is open of them ends, of the one that was left before the one that was won

module _ (changed : Changed) (slots : SlotMap FastKey) where
  abbrev pub given_up : SlotMap FastKey
  given_up = fast_kept changed.left changed.won slots

  abbrev pub lost : List Emit
  lost = lost_of_source changed.left slots ++ lost_of_source changed.won (without_source changed.left slots)

-- ---- an event, by what the gateway keeps of the addresses after it

module _ (cmp : FastKey → FastKey → Ordering) (kinds : ℕ → Kind) (g : AddressesKept) where
  abbrev pub heard : SlotMap FastKey → Parts → List ℕ → ℕ → Hearing
  heard slots p bytes m =
      if is_heard kinds g.claims.own p then taken_from cmp slots p bytes m (kinds p.pgn) (name_held g.claims.holders p.source) else no_message slots

  abbrev pub framed : SlotMap FastKey → ℕ → BusFrame → Hearing
  framed slots m f = behind (lost g.changed slots) (heard (given_up g.changed slots) (parts_of f.id) f.held m)

  unfoldable pub entered : SlotMap FastKey → Entry → Hearing
  entered slots (entry.frame m f) = framed slots m f
  entered slots (entry.datagram m bytes) = no_message slots
  entered slots (entry.tick m) = no_message slots
  entered slots (entry.command m source address) = no_message slots

  -- when time has passed
  abbrev pub heard_step : SlotMap FastKey → Entry → Hearing
  heard_step slots e = behind (fast_overdue slots (moment_of e)) (entered (unexpired (moment_of e) slots) e)

-- ---- an event that completes no message: only a frame of one may

abbrev pub may_complete : (ℕ → Kind) → Entry → Bool
may_complete kinds (entry.frame m f) = is_message (kinds (parts_of f.id).pgn)
may_complete kinds (entry.datagram m bytes) = false
may_complete kinds (entry.tick m) = false
may_complete kinds (entry.command m source address) = false

-- then a frame changes only what is open of addresses that change hands
abbrev pub unheard : AddressesKept → SlotMap FastKey → Entry → Hearing
unheard g slots (entry.frame m f) = record { slots = given_up g.changed slots; told = lost g.changed slots; message = None }
unheard g slots (entry.datagram m bytes) = no_message slots
unheard g slots (entry.tick m) = no_message slots
unheard g slots (entry.command m source address) = no_message slots
