-- The frames of one sender that belong together, those since it holds its address: of fast packets, as canboat describes them, and of
-- the transport protocol (ISO 11783-3, 5.10).
use Rattle.std.specs.Prelude.{ℕ, Bool, true, false, ◌&&◌, ◌||◌, ◌==◌, nat_le, List, [], length, map, filter, Option, Some, None}
use Rattle.n2k_id.specs.declared.identifier_parts.Parts.{Parts}
use Rattle.fast_packet.specs.FastRuns.{FastPiece}
use Rattle.iso_transport.specs.IsoRuns.{IsoPiece}
use Rattle.iso_transport.specs.Audience.{is_data, is_management}
use Rattle.iso_transport.specs.Connection as control
use Rattle.iso_transport.specs.Connection.{control_at}
use Rattle.history.specs.Known.{Known, held_since}
use Rattle.claim_table.specs.declared.answer.Holder.{Holder}

-- a frame, with what the history before it says of it
pub record NotedFrame : Type 0 where
  pub index : ℕ
  pub moment : ℕ
  pub parts : Parts
  pub bytes : List ℕ
  -- the gateway was ready to answer
  pub ready : Bool
  -- there was room for a message that it opens
  pub admitted : Bool

-- the frames of a source from an entry on
abbrev pub is_since : ℕ → ℕ → NotedFrame → Bool
is_since source since n = (n.parts.source == source) && nat_le since n.index

-- ---- fast packets: by source and PGN

abbrev pub fast_piece : NotedFrame → FastPiece
fast_piece n = record { moment = n.moment; bytes = n.bytes; admitted = n.admitted }

abbrev pub fast_trace_since : Option ℕ → ℕ → ℕ → List NotedFrame → List FastPiece
fast_trace_since None source pgn notes = []
fast_trace_since (Some since) source pgn notes = map fast_piece (filter (λ n. is_since source since n && (n.parts.pgn == pgn)) notes)

abbrev pub fast_trace : List (Option Holder) → ℕ → ℕ → List NotedFrame → List FastPiece
fast_trace holders source pgn notes = fast_trace_since (held_since holders source) source pgn notes

-- ---- the transport protocol: by source, to all or to the gateway

-- a transport frame
abbrev pub is_transport : Parts → Bool
is_transport p = is_management p || is_data p

-- a connection management frame of this kind can open or end a session: to all a BAM; to the gateway an abort, and an RTS that came
-- while it was ready
abbrev pub bears_upon : Bool → Bool → ℕ → Bool
bears_upon false ready kind = kind == control.bam
bears_upon true ready kind = (kind == control.abort) || ((kind == control.rts) && ready)

-- a frame bears on a session of its kind where it can open, extend or end one: any packet, and such a frame of 8 bytes
abbrev pub is_bearing : Bool → NotedFrame → Bool
is_bearing addressed n = is_transport n.parts && (is_data n.parts || (nat_le 8 (length n.bytes) && bears_upon addressed n.ready (control_at n.bytes)))

abbrev pub iso_piece : NotedFrame → IsoPiece
iso_piece n = record { moment = n.moment; packet = is_data n.parts; bytes = n.bytes; admitted = n.admitted }

abbrev pub broadcast_since : Option ℕ → ℕ → List NotedFrame → List IsoPiece
broadcast_since None source notes = []
broadcast_since (Some since) source notes = map iso_piece (filter (λ n. is_since source since n && ((n.parts.destination == 255) && is_bearing false n)) notes)

-- to the own address, since the gateway has it
abbrev pub addressed_since : Option ℕ → Option ℕ → ℕ → ℕ → List NotedFrame → List IsoPiece
addressed_since None own own_since source notes = []
addressed_since (Some since) None own_since source notes = []
addressed_since (Some since) (Some own) own_since source notes =
    map iso_piece (filter (λ n. is_since source since n && ((n.parts.destination == own) && (nat_le own_since n.index && is_bearing true n))) notes)

abbrev pub iso_trace : Known → Bool → ℕ → List NotedFrame → List IsoPiece
iso_trace k false source notes = broadcast_since (held_since k.claims.holders source) source notes
iso_trace k true source notes = addressed_since (held_since k.claims.holders source) k.claims.own k.own_since source notes
