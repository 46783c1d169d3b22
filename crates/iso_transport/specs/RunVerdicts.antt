-- What a frame is to its key, said twice: by the frames of the run that is open, and by the session that stands for it.
use Rattle.std.specs.Prelude.{ℕ, ◌+◌, ◌-◌, Bool, not, nat_lt, if◌then◌else◌, List, [], ◌∷◌, length, Option, Some, None, option_map}
use Rattle.slot_views.specs.Slots.{Entry, is_complete}
use Rattle.slot_views.specs.Traces.{if_incomplete}
use Rattle.iso_transport.specs.declared.answers.IsoRefusal.TheVariants as refusal
use Rattle.iso_transport.specs.declared.session.Session.{Session}
use Rattle.iso_transport.specs.declared.verdict.Verdict.{Verdict}
use Rattle.iso_transport.specs.declared.verdict.Verdict.TheVariants.{Ignored, Again, Refused, Ends, Opens, Next}
use Rattle.iso_transport.specs.AbortReasons.{resources_needed}
use Rattle.iso_transport.specs.Sessions.{abort_to, mark_of}
use Rattle.iso_transport.specs.IsoRuns.{packets_of, gap_after, IsoPiece, number_of, end_of, session_of, pgn_of, left_of_run, is_next, is_repeat, joined, payload}
use Rattle.iso_transport.specs.Verdicts.{management_verdict, frame_verdict}
use Rattle.iso_transport.specs.Assembly.{opening, extended}

-- ---- by the frames accepted so far of the run that is open

-- a packet is too short, or else a repeat, or the next one, or out of order
abbrev pub packet_run_verdict : Bool → Option (List IsoPiece) → IsoPiece → Verdict
packet_run_verdict addressed None x = Refused refusal.Orphan None
packet_run_verdict addressed (Some acc) x =
    if nat_lt (length x.bytes) (end_of (left_of_run acc)) then Ends refusal.Size (abort_to addressed resources_needed (pgn_of acc))
    else if is_repeat acc x then Again
    else if is_next acc x then Next (session_of acc) (number_of x.bytes) (end_of (left_of_run acc))
    else Ends refusal.Order (abort_to addressed resources_needed (pgn_of acc))

-- a frame that is no packet is told by what it says and the message that is open
abbrev pub run_verdict : Bool → Option (List IsoPiece) → IsoPiece → Verdict
run_verdict addressed o x = if x.packet then packet_run_verdict addressed o x else management_verdict addressed (not x.admitted) (option_map pgn_of o) x.bytes

-- a message, by its PGN and its bytes
pub record Message : Type 0 where
  pub pgn : ℕ
  pub bytes : List ℕ

-- the message that a run carries
abbrev pub message_of : Option (List IsoPiece) → Option Message
message_of None = None
message_of (Some acc) = Some (record { pgn = pgn_of acc; bytes = payload acc })

-- ---- by the session that is open

-- what a frame is to its key's session
abbrev pub verdict_on : Bool → Option Entry → IsoPiece → Verdict
verdict_on addressed o x = frame_verdict addressed (not x.admitted) o x.packet x.bytes

-- what it leaves of it
abbrev pub extended_by : Bool → Session → ℕ → ℕ → IsoPiece → Option Entry → Option Entry
extended_by addressed s number end x None = None
extended_by addressed s number end x (Some e) = if_incomplete (extended addressed s number end x.bytes x.moment e)

abbrev pub left_by : Bool → Verdict → IsoPiece → Option Entry → Option Entry
left_by addressed Ignored x o = o
left_by addressed Again x o = o
left_by addressed (Refused reason reply) x o = o
left_by addressed (Ends reason reply) x o = None
left_by addressed (Opens s old) x o = if x.admitted then if_incomplete (opening addressed s x.moment) else None
left_by addressed (Next s number end) x o = extended_by addressed s number end x o

-- the message that it completes
abbrev pub completed_entry : Session → Entry → Option Message
completed_entry s e = if is_complete e then Some (record { pgn = s.pgn; bytes = e.bytes }) else None

abbrev pub completed_with : Bool → Session → ℕ → ℕ → IsoPiece → Option Entry → Option Message
completed_with addressed s number end x None = None
completed_with addressed s number end x (Some e) = completed_entry s (extended addressed s number end x.bytes x.moment e)

abbrev pub completed_by : Bool → Verdict → IsoPiece → Option Entry → Option Message
completed_by addressed Ignored x o = None
completed_by addressed Again x o = None
completed_by addressed (Refused reason reply) x o = None
completed_by addressed (Ends reason reply) x o = None
completed_by addressed (Opens s old) x o = None
completed_by addressed (Next s number end) x o = completed_with addressed s number end x o

-- ---- the session that stands for the frames accepted so far

abbrev pub assembly_of : Bool → List IsoPiece → Option Entry
assembly_of addressed [] = None
assembly_of addressed (x ∷ xs) =
    let s = session_of (x ∷ xs) in
    Some (record {
      bytes = joined s.size (x ∷ xs);
      next = length (x ∷ xs);
      need = packets_of s.size + 1;
      last = x.moment;
      gap = gap_after addressed s (length (x ∷ xs) - 1);
      mark = mark_of s;
    })

abbrev pub assembly_at : Bool → Option (List IsoPiece) → Option Entry
assembly_at addressed None = None
assembly_at addressed (Some acc) = assembly_of addressed acc
