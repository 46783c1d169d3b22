-- What is told of the messages that end before they are complete: what is overdue at a moment, and all of an address that changes
-- hands (ISO 11783-5).
use Rattle.std.specs.Prelude.{ℕ, List, ◌∷◌, ◌++◌, Option}
use Rattle.report_rules.specs.Rules as rules
use Rattle.slot_views.specs.Slots.{SlotMap}
use Rattle.fast_packet.specs.declared.key.FastKey.{FastKey}
use Rattle.fast_packet.specs.Assembly.{is_from as is_fast_from}
use Rattle.iso_transport.specs.declared.key.IsoKey.{IsoKey}
use Rattle.iso_transport.specs.Assembly.{is_from}
use Rattle.iso_transport.specs.declared.answers.IsoEnded.{IsoEnded}
use Rattle.gate_events.specs.Emit.{Emit}
use Rattle.history.specs.Emits.{of_source, replied}
use Rattle.history.specs.Endings.{abort_reply}
use Rattle.gate_model.specs.Endings.{fast_lost, sessions_lost}

-- of one session that was overdue: the report, and the abort (ISO 11783-3) to the sender of an addressed one
abbrev pub overdue_session : Option ℕ → IsoEnded → List Emit
overdue_session own ended = of_source rules.expired ended.source ended.pgn ∷ replied own ended.source (abort_reply ended.addressed ended.pgn)

-- fast packets, then the sessions
abbrev pub lost_of : ℕ → SlotMap FastKey → SlotMap IsoKey → List Emit
lost_of source fast sessions = fast_lost (is_fast_from source) fast ++ sessions_lost (is_from source) sessions
