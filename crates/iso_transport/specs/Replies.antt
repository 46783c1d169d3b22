-- The replies to the sender of a message to this node (ISO 11783-3): their bytes, where what stands in no field is 255; and which it is
-- told at each of its frames, by the frames accepted so far of the run that is open.
use Rattle.std.specs.Prelude.{ℕ, ◌/◌, ◌%◌, ◌^◌, ◌<◌, List, [], ◌∷◌, Option, IfSome, ◌+◌, ◌-◌, Bool, true, false, ◌==◌, min, if◌then◌else◌, Some, None}
use Rattle.iso_transport.specs.declared.connection.Cm.{Cm}
use Rattle.iso_transport.specs.declared.connection.Cm.TheVariants as cm
use Rattle.iso_transport.specs.AbortReasons.{cannot_support_another, resources_needed}
use Rattle.iso_transport.specs.Connection as control
use Rattle.iso_transport.specs.declared.reply.Reply.{Reply}
use Rattle.iso_transport.specs.declared.session.Session.{Session}
use Rattle.iso_transport.specs.declared.reply.Reply.TheVariants as reply
use Rattle.iso_transport.specs.Connection.{cm_of}
use Rattle.iso_transport.specs.IsoRuns.{packets_of, IsoPiece, number_of, pgn_of, session_of, is_opener, is_next, is_repeat}

-- the PGN, low byte first
abbrev pub pgn_bytes : ℕ → List ℕ
pgn_bytes pgn = pgn % 256 ∷ pgn / 256 % 256 ∷ pgn / 65536 ∷ []

abbrev pub reply_bytes : Reply → List ℕ
reply_bytes (reply.Cts count next pgn) = control.cts ∷ count ∷ next ∷ 255 ∷ 255 ∷ pgn_bytes pgn
reply_bytes (reply.EndAck size packets pgn) = control.end_ack ∷ size % 256 ∷ size / 256 ∷ packets ∷ 255 ∷ pgn_bytes pgn
reply_bytes (reply.Abort reason pgn) = control.abort ∷ reason ∷ 255 ∷ 255 ∷ 255 ∷ pgn_bytes pgn

-- what a reply says, as a connection management frame
abbrev pub as_cm : Reply → Cm
as_cm (reply.Cts count next pgn) = cm.Cts count next pgn
as_cm (reply.EndAck size packets pgn) = cm.EndAck size packets pgn
as_cm (reply.Abort reason pgn) = cm.Abort reason pgn

-- the message that it names
abbrev pub named_pgn : Reply → ℕ
named_pgn (reply.Cts count next pgn) = pgn
named_pgn (reply.EndAck size packets pgn) = pgn
named_pgn (reply.Abort reason pgn) = pgn

-- it has 24 bits
abbrev pub NamesPgn : Option Reply → Type 0
NamesPgn reply = IfSome reply (λ r. named_pgn r < 2 ^ 24)

-- ---- which reply a frame has

-- the reply to the next packet: the acknowledgement after the last one, and a grant after each multiple of the window
abbrev pub reply_to_next : Session → ℕ → Option Reply
reply_to_next s number = if number == packets_of s.size then Some (reply.EndAck s.size (packets_of s.size) s.pgn)
    else if number % s.window == 0 then Some (reply.Cts (min s.window (packets_of s.size - number)) (number + 1) s.pgn) else None

-- to any packet of an open session: nothing to a repeat, and an abort to one that is short or out of order
abbrev pub reply_to_packet : Option (List IsoPiece) → IsoPiece → Option Reply
reply_to_packet None x = None
reply_to_packet (Some acc) x = if is_next acc x then reply_to_next (session_of acc) (number_of x.bytes)
    else if is_repeat acc x then None else Some (reply.Abort resources_needed (pgn_of acc))

-- to an opener: the first grant, or an abort where there is no room
abbrev pub reply_to_opener : Session → Bool → Reply
reply_to_opener s admitted = if admitted then reply.Cts (min s.window (packets_of s.size)) 1 s.pgn else reply.Abort cannot_support_another s.pgn

-- the frame is an RTS
abbrev pub is_request : Option Cm → Bool
is_request None = false
is_request (Some (cm.Rts size packets limit pgn)) = true
is_request (Some (cm.Cts count next pgn)) = false
is_request (Some (cm.EndAck size packets pgn)) = false
is_request (Some (cm.Bam size packets pgn)) = false
is_request (Some (cm.Abort why pgn)) = false

-- to any frame of a trace: only the sender of a message to this node has a reply
abbrev pub reply_to : Bool → Option (List IsoPiece) → IsoPiece → Option Reply
reply_to false o x = None
reply_to true o x = if x.packet then reply_to_packet o x
    else if is_opener true x then Some (reply_to_opener (session_of (x ∷ [])) x.admitted)
    else if is_request (cm_of x.bytes) then Some (reply.Abort resources_needed (pgn_of (x ∷ []))) else None
