-- Which frames are of the transport protocol (ISO 11783-3), and of which session.
use Rattle.std.specs.Prelude.{Bool, not, ◌==◌}
use Rattle.n2k_id.specs.declared.identifier_parts.Parts.{Parts}
use Rattle.n2k_id.specs.Pgns.{connection_management, data_transfer}
use Rattle.iso_transport.specs.declared.key.IsoKey.{IsoKey}

abbrev pub key_of : Parts → IsoKey
key_of parts = record { addressed = not (parts.destination == 255); source = parts.source }

-- connection management (TP.CM), and data (TP.DT)
abbrev pub is_management : Parts → Bool
is_management parts = parts.pgn == connection_management

abbrev pub is_data : Parts → Bool
is_data parts = parts.pgn == data_transfer
