-- What a message of the transport protocol (ISO 11783-3) is: what its opener announces, and a run of frames of one sender, all to this
-- node (addressed) or all to all.
use Rattle.std.specs.Cmp.Lexicographic.{pointwise}
use Rattle.std.specs.Prelude.{ℕ, ◌+◌, ◌-◌, ◌*◌, ◌/◌, ◌%◌, Bool, false, ◌&&◌, not, ◌==◌, nat_eq, nat_le, nat_lt, min, max, if◌then◌else◌, List, [], ◌∷◌, ◌++◌, length, take, drop, slice_index, Option, Some, None}
use Rattle.iso_transport.specs.declared.connection.Cm.{Cm}
use Rattle.iso_transport.specs.declared.connection.Cm.TheVariants.{Rts, Cts, EndAck, Bam, Abort}
use Rattle.slot_views.specs.Runs.{Rules, opener_of}
use Rattle.iso_transport.specs.declared.session.Session.{Session}
use Rattle.iso_transport.specs.Connection.{cm_of}

-- ---- what an opener announces

-- the sizes of messages, in bytes: a shorter one goes in one frame, and the longest has 255 packets of 7 bytes
abbrev pub shortest : ℕ
shortest = 9

abbrev pub longest : ℕ
longest = 1785

-- how many packets are granted at once at most
abbrev pub greatest_window : ℕ
greatest_window = 8

-- how long a packet may take after the one before it, and after a grant, in microseconds
abbrev pub gap : ℕ
gap = 750000

abbrev pub granted_gap : ℕ
granted_gap = 1250000

-- how many packets a message has: 7 bytes are in each, the last one filled up
abbrev pub packets_of : ℕ → ℕ
packets_of size = (size + 6) / 7

-- a size that a message may have, with its number of packets
abbrev pub is_size : ℕ → ℕ → Bool
is_size size packets = nat_le shortest size && (nat_le size longest && (packets == packets_of size))

-- how many packets are granted at once, by the limit of the RTS
abbrev pub window_of : ℕ → ℕ
window_of limit = max 1 (min greatest_window limit)

-- a frame opens a session: to this node an RTS, to all a BAM, with a size that a message may have
abbrev pub opens : Bool → Option Cm → Bool
opens addressed None = false
opens addressed (Some (Rts size packets limit pgn)) = addressed && is_size size packets
opens addressed (Some (Cts count next pgn)) = false
opens addressed (Some (EndAck size packets pgn)) = false
opens addressed (Some (Bam size packets pgn)) = not addressed && is_size size packets
opens addressed (Some (Abort reason pgn)) = false

-- what it announces
abbrev pub announced : Option Cm → Session
announced None = record { pgn = 0; size = 0; window = 1 }
announced (Some (Rts size packets limit pgn)) = record { pgn = pgn; size = size; window = window_of limit }
announced (Some (Cts count next pgn)) = record { pgn = pgn; size = 0; window = 1 }
announced (Some (EndAck size packets pgn)) = record { pgn = pgn; size = size; window = 1 }
announced (Some (Bam size packets pgn)) = record { pgn = pgn; size = size; window = 1 }
announced (Some (Abort reason pgn)) = record { pgn = pgn; size = 0; window = 1 }

-- the sender of a message to this node waits for a grant: after its RTS, which counts as packet 0, and after each packet whose
-- number is a multiple of the window and isn't the last
abbrev pub waits_after : Bool → Session → ℕ → Bool
waits_after addressed s number = addressed && ((number % s.window == 0) && nat_lt number (packets_of s.size))

-- how long the next packet may take, in microseconds
abbrev pub gap_after : Bool → Session → ℕ → ℕ
gap_after addressed s number = if waits_after addressed s number then granted_gap else gap

-- ---- a message is a run of frames

-- a frame, as it is to its run: a packet (TP.DT) or a connection management frame
pub record IsoPiece : Type 0 where
  pub moment : ℕ
  pub packet : Bool
  pub bytes : List ℕ
  pub admitted : Bool

-- what a packet holds: its number, and from byte 1 on 7 bytes of the message or what is left of it
abbrev pub number_of : List ℕ → ℕ
number_of bytes = slice_index bytes 0

abbrev pub end_of : ℕ → ℕ
end_of left = 1 + min 7 left

abbrev pub part_of : ℕ → List ℕ → List ℕ
part_of left bytes = take (min 7 left) (drop 1 bytes)

-- how many bytes of the message are left after so many packets
abbrev pub left_after : ℕ → ℕ → ℕ
left_after size packets = size - 7 * packets

abbrev pub is_opener : Bool → IsoPiece → Bool
is_opener addressed x = not x.packet && opens addressed (cm_of x.bytes)

-- the message that the opener of these announces
abbrev pub session_of : List IsoPiece → Session
session_of [] = announced (cm_of [])
session_of (y ∷ ys) = announced (cm_of (opener_of y ys).bytes)

-- the message of the run
abbrev pub pgn_of : List IsoPiece → ℕ
pgn_of acc = (session_of acc).pgn

-- how many bytes of it are still to come
abbrev pub left_of_run : List IsoPiece → ℕ
left_of_run acc = left_after (session_of acc).size (length acc - 1)

-- as many frames as the message has packets, and its opener
abbrev pub need_of : IsoPiece → ℕ
need_of x = packets_of (announced (cm_of x.bytes)).size + 1

-- the next packet has the number of frames so far, the opener counted, and holds what it owes
abbrev pub is_next : List IsoPiece → IsoPiece → Bool
is_next [] x = false
is_next (y ∷ ys) x =
    let k = length (y ∷ ys) in
    x.packet && ((number_of x.bytes == k) && (nat_lt k (need_of (opener_of y ys))
    && nat_le (end_of (left_after (session_of (y ∷ ys)).size (k - 1))) (length x.bytes)))

-- a repeat is the last packet again, of 8 bytes, where that isn't the last one of the message
abbrev pub is_repeat : List IsoPiece → IsoPiece → Bool
is_repeat [] x = false
is_repeat (y ∷ ys) x =
    let k = length (y ∷ ys) in
    x.packet && ((length x.bytes == 8) && (nat_le 2 k && (nat_lt k (need_of (opener_of y ys)) && pointwise nat_eq x.bytes y.bytes)))

abbrev pub iso_rules : Bool → Rules IsoPiece
iso_rules addressed = record {
  moment = λ x. x.moment;
  admitted = λ x. x.admitted;
  opens = is_opener addressed;
  need = need_of;
  is_next = is_next;
  is_repeat = is_repeat;
  gap = λ acc. gap_after addressed (session_of acc) (length acc - 1);
}

-- the bytes of a message of this size in its packets, in order; the oldest frame is the opener, which has none
abbrev pub joined : ℕ → List IsoPiece → List ℕ
joined size [] = []
joined size (x ∷ []) = []
joined size (x ∷ y ∷ ys) = joined size (y ∷ ys) ++ part_of (left_after size (length (y ∷ ys) - 1)) x.bytes

-- the payload of a run
abbrev pub payload : List IsoPiece → List ℕ
payload acc = joined (session_of acc).size acc
