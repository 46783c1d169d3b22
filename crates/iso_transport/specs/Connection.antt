-- The connection management frames (TP.CM) of the transport protocol (ISO 11783-3): their control bytes, where their numbers lie in their
-- 8 bytes, and what each says.
use Rattle.std.specs.Prelude.{ℕ, ◌+◌, ◌*◌, ◌%◌, ◌^◌, List, slice_index, ◌≡◌, ◌≤◌, ◌⊎◌, ◌==◌, nat_lt, if◌then◌else◌, length, Option, Some, None}
use Rattle.iso_transport.specs.declared.connection.Cm.{Cm}
use Rattle.iso_transport.specs.declared.connection.Cm.TheVariants.{Rts, Cts, EndAck, Bam, Abort}

-- a request to send, a clearance to send, the acknowledgement of the end of a message, an announcement to all, an abort
abbrev pub rts : ℕ
rts = 16

abbrev pub cts : ℕ
cts = 17

abbrev pub end_ack : ℕ
end_ack = 19

abbrev pub bam : ℕ
bam = 32

abbrev pub abort : ℕ
abort = 255

-- the kind of the frame
abbrev pub control_at : List ℕ → ℕ
control_at bytes = slice_index bytes 0

-- the size of the message, low byte first, and the number of its packets
abbrev pub size_at : List ℕ → ℕ
size_at bytes = slice_index bytes 1 + 256 * slice_index bytes 2

abbrev pub packets_at : List ℕ → ℕ
packets_at bytes = slice_index bytes 3

-- how many packets the sender of an RTS takes a grant of
abbrev pub limit_at : List ℕ → ℕ
limit_at bytes = slice_index bytes 4

-- the message's PGN: 24 bits, low byte first
abbrev pub pgn_at : List ℕ → ℕ
pgn_at bytes = (slice_index bytes 5 + 256 * slice_index bytes 6 + 65536 * slice_index bytes 7) % 2 ^ 24

abbrev pub cm_by : ℕ → List ℕ → Option Cm
cm_by kind bytes = if kind == rts then Some (Rts (size_at bytes) (packets_at bytes) (limit_at bytes) (pgn_at bytes))
    else if kind == cts then Some (Cts (slice_index bytes 1) (slice_index bytes 2) (pgn_at bytes))
    else if kind == end_ack then Some (EndAck (size_at bytes) (packets_at bytes) (pgn_at bytes))
    else if kind == bam then Some (Bam (size_at bytes) (packets_at bytes) (pgn_at bytes))
    else if kind == abort then Some (Abort (slice_index bytes 1) (pgn_at bytes))
    else None

abbrev pub cm_of : List ℕ → Option Cm
cm_of bytes = if nat_lt (length bytes) 8 then None else cm_by (control_at bytes) bytes

-- the bytes are a connection management frame of one of these kinds
pub record IsCm (bytes : List ℕ) : Type 0 where
  pub enough : 8 ≤ length bytes
  pub kind : (control_at bytes ≡ rts) ⊎ (control_at bytes ≡ cts) ⊎ (control_at bytes ≡ end_ack) ⊎ (control_at bytes ≡ bam) ⊎ (control_at bytes ≡ abort)
