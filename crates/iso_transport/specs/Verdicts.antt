-- What a frame is to the session of its key.
use Rattle.std.specs.Cmp.Lexicographic.{pointwise}
use Rattle.std.specs.Prelude.{◌≡◌, ℕ, ◌-◌, ◌^◌, ◌<◌, ◌≤◌, Bool, false, ◌&&◌, ◌==◌, nat_eq, nat_le, nat_lt, if◌then◌else◌, List, ◌∷◌, length, drop, Option, Some, None, option_map, ◌||◌, not}
use Rattle.slot_views.specs.Slots.{Entry}
use Rattle.n2k_id.specs.declared.identifier_parts.Parts.{Parts}
use Rattle.iso_transport.specs.declared.connection.Cm.{Cm}
use Rattle.iso_transport.specs.declared.connection.Cm.TheVariants.{Rts, Cts, EndAck, Bam, Abort}
use Rattle.iso_transport.specs.declared.answers.IsoRefusal.TheVariants as refusal
use Rattle.iso_transport.specs.declared.session.Session.{Session}
use Rattle.iso_transport.specs.declared.verdict.Verdict.{Verdict}
use Rattle.iso_transport.specs.declared.verdict.Verdict.TheVariants.{Ignored, Again, Refused, Ends, Opens, Next}
use Rattle.iso_transport.specs.AbortReasons.{cannot_support_another, resources_needed}
use Rattle.iso_transport.specs.Connection as control
use Rattle.iso_transport.specs.Connection.{cm_of, control_at}
use Rattle.iso_transport.specs.Sessions.{abort_to, session_at}
use Rattle.iso_transport.specs.IsoRuns.{longest, shortest, is_size, announced, number_of, end_of}
use Rattle.iso_transport.specs.Replies.{NamesPgn}
use Rattle.n2k_id.specs.Identifier.{is_to}
use Rattle.iso_transport.specs.Audience.{is_data, is_management, key_of}

-- a frame can open, extend or end a session of its kind: a packet; to all a BAM, and to this node an RTS or an abort, of 8 bytes
abbrev pub bears : Bool → Bool → List ℕ → Bool
bears addressed packet bytes = packet
    || (nat_le 8 (length bytes) && ((not addressed && (control_at bytes == control.bam)) || (addressed && ((control_at bytes == control.rts) || (control_at bytes == control.abort)))))

-- a frame of the transport protocol to this node or to all
abbrev pub concerns : Option ℕ → Parts → Bool
concerns own parts = is_to own parts.destination && (is_management parts || is_data parts)

-- the message of a session, and how many of its bytes are still to come
abbrev pub session_in : Entry → Session
session_in e = session_at e.mark

abbrev pub pgn_in : Entry → ℕ
pgn_in e = (session_in e).pgn

abbrev pub left_of : Entry → ℕ
left_of e = (session_in e).size - length e.bytes

-- ---- a connection management frame, by the message whose session is open

-- an opener finds room where its key's session is open, which it replaces, or fewer are than the limit
abbrev pub opener_verdict : Bool → Bool → Option ℕ → Session → Verdict
opener_verdict addressed crowded (Some old) s = Opens s (Some old)
opener_verdict addressed crowded None s = if crowded then Refused (refusal.Full s.pgn) (abort_to addressed cannot_support_another s.pgn) else Opens s None

abbrev pub sized_verdict : Bool → Bool → Option ℕ → Session → ℕ → Verdict
sized_verdict addressed crowded pgn s packets =
    if is_size s.size packets then opener_verdict addressed crowded pgn s else Ends refusal.Size (abort_to addressed resources_needed s.pgn)

abbrev pub abort_verdict : Option ℕ → Verdict
abort_verdict None = Ignored
abort_verdict (Some pgn) = Ends (refusal.Aborted pgn) None

abbrev pub kind_verdict : Bool → Bool → Option ℕ → Option Cm → Verdict
kind_verdict addressed crowded pgn None = Ignored
kind_verdict addressed crowded pgn (Some (Rts size packets limit p)) =
    if addressed then sized_verdict addressed crowded pgn (announced (Some (Rts size packets limit p))) packets else Refused refusal.Size None
kind_verdict addressed crowded pgn (Some (Cts count next p)) = Ignored
kind_verdict addressed crowded pgn (Some (EndAck size packets p)) = Ignored
kind_verdict addressed crowded pgn (Some (Bam size packets p)) =
    if addressed then Refused refusal.Size None else sized_verdict addressed crowded pgn (announced (Some (Bam size packets p))) packets
kind_verdict addressed crowded pgn (Some (Abort reason p)) = if addressed then abort_verdict pgn else Ignored

abbrev pub management_verdict : Bool → Bool → Option ℕ → List ℕ → Verdict
management_verdict addressed crowded pgn bytes = if nat_lt (length bytes) 8 then Refused refusal.Size None else kind_verdict addressed crowded pgn (cm_of bytes)

-- ---- a packet

-- the last packet that was added
abbrev pub last_packet : Entry → List ℕ
last_packet e = (e.next - 1) ∷ drop (length e.bytes - 7) e.bytes

abbrev pub is_again : Entry → List ℕ → Bool
is_again e bytes = (length bytes == 8) && (nat_le 2 e.next && (nat_lt e.next e.need && pointwise nat_eq bytes (last_packet e)))

abbrev pub packet_verdict : Bool → Option Entry → List ℕ → Verdict
packet_verdict addressed None bytes = Refused refusal.Orphan None
packet_verdict addressed (Some e) bytes =
    if nat_lt (length bytes) (end_of (left_of e)) then Ends refusal.Size (abort_to addressed resources_needed (pgn_in e))
    else if is_again e bytes then Again
    else if number_of bytes == e.next then Next (session_in e) (number_of bytes) (end_of (left_of e))
    else Ends refusal.Order (abort_to addressed resources_needed (pgn_in e))

-- ---- any frame, in the order in which it is tried

abbrev pub frame_verdict : Bool → Bool → Option Entry → Bool → List ℕ → Verdict
frame_verdict addressed crowded o packet bytes =
    if packet then packet_verdict addressed o bytes else management_verdict addressed crowded (option_map pgn_in o) bytes

abbrev pub verdict : Option ℕ → Parts → Bool → Option Entry → List ℕ → Verdict
verdict own parts crowded o bytes = if concerns own parts
    then frame_verdict (key_of parts).addressed crowded o (is_data parts) bytes else Ignored

-- ---- what follows from what a frame is

-- a session whose numbers fit a reply
pub record IsSmall (s : Session) : Type 0 where
  pub pgn : s.pgn < 2 ^ 24
  pub size : s.size ≤ longest
  pub window : 1 ≤ s.window

-- there is room for the session that opens, which has two packets or more
pub record IsOpening (full : Bool) (s : Session) : Type 0 where
  pub small : IsSmall s
  pub size : shortest ≤ s.size
  pub room : full ≡ false

-- the session waits for the packet, whose part of the message lies within it
pub record IsNext (o : Option Entry) (bytes : List ℕ) (s : Session) (number : ℕ) (end : ℕ) : Type 0 where
  pub small : IsSmall s
  pub entry : Entry
  pub held : o ≡ Some entry
  pub number_is : number ≡ number_of bytes
  pub awaited : number ≡ entry.next
  pub some : 1 ≤ end
  pub most : end ≤ 8
  pub enough : end ≤ length bytes

abbrev pub VerdictFits : Bool → Option Entry → List ℕ → Verdict → Type 0
VerdictFits full o bytes Ignored = Unit {0}
VerdictFits full o bytes Again = Unit {0}
VerdictFits full o bytes (Refused reason reply) = NamesPgn reply
VerdictFits full o bytes (Ends reason reply) = NamesPgn reply
VerdictFits full o bytes (Opens s old) = IsOpening full s
VerdictFits full o bytes (Next s number end) = IsNext o bytes s number end

-- what is replied, or the session that a reply is about, has such numbers
abbrev pub TellsSmall : Verdict → Type 0
TellsSmall Ignored = Unit {0}
TellsSmall Again = Unit {0}
TellsSmall (Refused reason reply) = NamesPgn reply
TellsSmall (Ends reason reply) = NamesPgn reply
TellsSmall (Opens s old) = IsSmall s
TellsSmall (Next s number end) = IsSmall s
