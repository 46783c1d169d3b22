-- Which rules a frame from the bus breaks: a table for each kind of frame, in the order of the rules' numbers. Each row is a condition on
-- the frame and on what is open of its key just before it. A repeat breaks none. What a frame leaves of the message that is open is no
-- part of the tables: the rules of its run say that.
use Rattle.std.specs.Prelude.{ℕ, Bool, true, false, ◌&&◌, ◌||◌, not, ◌==◌, nat_le, nat_lt, List, [], ◌∷◌, length, Option, Some, None, is_some, is_none}
use Rattle.n2k_id.specs.Name.{name_at}
use Rattle.report_rules.specs.Rules as rules
use Rattle.pgn_profile.specs.Profiled.{profiled}
use Rattle.pgn_profile.specs.declared.profiled.Profiled.{Profiled}
use Rattle.pgn_profile.specs.declared.profiled.Profiled.TheVariants as says
use Rattle.fast_packet.specs.FastRuns as fast
use Rattle.fast_packet.specs.FastRuns.{FastPiece, is_awaited}
use Rattle.iso_transport.specs.Audience.{key_of}
use Rattle.iso_transport.specs.Connection as control
use Rattle.iso_transport.specs.Connection.{control_at}
use Rattle.iso_transport.specs.IsoRuns as iso_runs
use Rattle.iso_transport.specs.IsoRuns.{IsoPiece, end_of, session_of, left_of_run}
use Rattle.gate_events.specs.declared.emit.Report.{Report}
use Rattle.gate_events.specs.declared.emit.Detail.{Detail}
use Rattle.gate_events.specs.declared.emit.Detail.TheVariants as detail
use Rattle.history.specs.Meanings.{Meaning, address_claim, own_source, request, from_nobody, transport, single, fast_packet, passed}
use Rattle.history.specs.Traces.{NotedFrame, fast_piece, iso_piece}
use Rattle.history.specs.Opens.{open_pgn}
use Rattle.history.specs.Messages.{Message}
use Rattle.history.specs.Emits.{Rule, breaks, broken_of}
use Rattle.history.specs.Settings.{is_some_that}

-- ---- claims and requests (ISO 11783-5)

-- the bytes are no NAME, or the address is none that can be claimed
abbrev pub is_malformed_claim : NotedFrame → Bool
is_malformed_claim n = nat_lt (length n.bytes) 8 || (n.parts.source == 255)

abbrev pub is_duplicate : ℕ → NotedFrame → Bool
is_duplicate name n = not (is_malformed_claim n) && (name_at n.bytes == name)

-- what is asked for has three bytes
abbrev pub is_malformed_request : NotedFrame → Bool
is_malformed_request n = nat_lt (length n.bytes) 3

-- ---- a frame of a fast packet (canboat), by the frames of its message that are open

abbrev pub is_later_frame : FastPiece → Bool
is_later_frame x = nat_lt 0 (fast.counter_of x.bytes)

-- the frame that is awaited, but with fewer bytes than it owes
abbrev pub is_cut_off : Option (List FastPiece) → FastPiece → Bool
is_cut_off frames x = is_some_that (λ acc. is_awaited acc x && not (fast.is_next acc x)) frames

-- it has no byte; it is a frame 0 that opens nothing; or it is cut off
abbrev pub is_wrong_length : Option (List FastPiece) → FastPiece → Bool
is_wrong_length open_frames x =
    (length x.bytes == 0) || ((fast.counter_of x.bytes == 0) && not (fast.is_opener x.bytes)) || is_cut_off open_frames x

-- a later frame that is neither a repeat nor the awaited one
abbrev pub is_out_of_order : Option (List FastPiece) → FastPiece → Bool
is_out_of_order frames x = is_some_that (λ acc. is_later_frame x && (not (fast.is_repeat acc x) && not (is_awaited acc x))) frames

-- ---- a frame of the transport protocol (ISO 11783-3), by the frames of its session that are open

-- a connection management frame of 8 bytes with this control byte: an RTS, a BAM, an abort
abbrev pub has_control : ℕ → IsoPiece → Bool
has_control kind x = not x.packet && (nat_le 8 (length x.bytes) && (control_at x.bytes == kind))

abbrev pub is_rts : IsoPiece → Bool
is_rts x = has_control control.rts x

abbrev pub is_bam : IsoPiece → Bool
is_bam x = has_control control.bam x

abbrev pub is_abort : IsoPiece → Bool
is_abort x = has_control control.abort x

-- an RTS to the gateway before it is ready opens nothing, and has no reply
abbrev pub is_early : Bool → Bool → IsoPiece → Bool
is_early addressed ready x = addressed && (is_rts x && not ready)

abbrev pub opens_session : Bool → Bool → IsoPiece → Bool
opens_session addressed ready x = iso_runs.is_opener addressed x && not (is_early addressed ready x)

-- an RTS to all, or a BAM to the gateway
abbrev pub is_wrong_kind : Bool → IsoPiece → Bool
is_wrong_kind addressed x = (not addressed && is_rts x) || (addressed && is_bam x)

-- a BAM or an RTS of a size that no message has, or with another number of packets than the size needs
abbrev pub is_wrong_size : Bool → Bool → IsoPiece → Bool
is_wrong_size addressed ready x =
    ((not addressed && is_bam x) || (addressed && is_rts x)) && (not (is_early addressed ready x) && not (iso_runs.is_opener addressed x))

-- a packet of an open session with fewer bytes than it owes
abbrev pub is_short_packet : Option (List IsoPiece) → IsoPiece → Bool
is_short_packet packets x = is_some_that (λ acc. x.packet && nat_lt (length x.bytes) (end_of (left_of_run acc))) packets

-- one that holds what it owes, and is neither a repeat nor the next
abbrev pub is_packet_out_of_order : Option (List IsoPiece) → IsoPiece → Bool
is_packet_out_of_order packets x =
    is_some_that (λ acc. x.packet && (not (nat_lt (length x.bytes) (end_of (left_of_run acc))) && (not (iso_runs.is_repeat acc x) && not (iso_runs.is_next acc x)))) packets

-- a connection management frame of fewer than 8 bytes
abbrev pub is_cut_management : IsoPiece → Bool
is_cut_management x = not x.packet && nat_lt (length x.bytes) 8

-- ---- a message

abbrev pub is_short : Profiled → Bool
is_short says.Short = true
is_short (says.Reading r) = false
is_short says.Outside = false

abbrev pub message_rule : Option Message → Rule
message_rule None = breaks false rules.short_message detail.Nothing
message_rule (Some d) = breaks (is_short (profiled d.pgn d.payload)) rules.short_message (detail.Source d.source d.pgn)

-- ---- the tables: by the gateway's NAME, what is open of the frame's fast packet or of its session, and the message that it completes

module _ (name : ℕ) (n : NotedFrame) (frames : Option (List FastPiece)) (packets : Option (List IsoPiece)) (message : Option Message) where
  -- the sender, with the frame's PGN, or with that of a message
  abbrev pub of_frame : Detail
  of_frame = detail.Source n.parts.source n.parts.pgn

  abbrev pub of_message : ℕ → Detail
  of_message pgn = detail.Source n.parts.source pgn

  -- a frame of a fast packet, and the message that it completes
  abbrev pub fast_table : FastPiece → List Rule
  fast_table x =
      breaks (is_out_of_order frames x) rules.fast_order of_frame
      ∷ breaks (is_later_frame x && is_none frames) rules.fast_orphan of_frame
      ∷ breaks (is_wrong_length frames x) rules.fast_length of_frame
      ∷ breaks (fast.is_opener x.bytes && is_some frames) rules.restarted of_frame
      ∷ breaks (fast.is_opener x.bytes && not x.admitted) rules.slots_full of_frame
      ∷ message_rule message
      ∷ []

  -- a frame of the transport protocol, and the message that it completes
  abbrev pub session_table : Bool → IsoPiece → List Rule
  session_table addressed x =
      breaks (opens_session addressed n.ready x && is_some packets) rules.restarted (of_message (open_pgn packets))
      ∷ breaks (opens_session addressed n.ready x && not x.admitted) rules.slots_full (of_message (session_of (x ∷ [])).pgn)
      ∷ breaks (is_cut_management x || is_wrong_kind addressed x || is_wrong_size addressed n.ready x || is_short_packet packets x) rules.iso_size of_frame
      ∷ breaks (is_packet_out_of_order packets x) rules.iso_order of_frame
      ∷ breaks (x.packet && is_none packets) rules.iso_orphan of_frame
      ∷ breaks (addressed && (is_abort x && is_some packets)) rules.iso_aborted (of_message (open_pgn packets))
      ∷ message_rule message
      ∷ breaks (is_early addressed n.ready x) rules.not_ready of_frame
      ∷ []

  -- by what the frame is
  abbrev pub table_of : Meaning → List Rule
  table_of address_claim =
      breaks (is_duplicate name n) rules.duplicate_name (detail.Address n.parts.source)
      ∷ breaks (is_malformed_claim n) rules.claim_or_request_malformed of_frame
      ∷ []
  table_of own_source = breaks true rules.own_address_used of_frame ∷ []
  table_of request = breaks (is_malformed_request n) rules.claim_or_request_malformed of_frame ∷ []
  table_of from_nobody = breaks true rules.unclaimed of_frame ∷ []
  table_of transport = session_table (key_of n.parts).addressed (iso_piece n)
  table_of single = message_rule message ∷ []
  table_of fast_packet = fast_table (fast_piece n)
  table_of passed = []

abbrev pub frame_breaks : ℕ → Meaning → NotedFrame → Option (List FastPiece) → Option (List IsoPiece) → Option Message → List Report
frame_breaks name meaning n frames packets message = broken_of (table_of name n frames packets message meaning)
