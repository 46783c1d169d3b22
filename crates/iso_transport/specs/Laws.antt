-- What is promised of messages of the transport protocol.
use Rattle.std.specs.Prelude.{◌≡◌, ℕ, ◌≤◌, Bool, true, false, List, ◌∷◌, length, Option, Some, None}
use Rattle.std.specs.List.{AllByRecursion}
use Rattle.slot_views.specs.Slots.{Entry}
use Rattle.slot_views.specs.Traces.{Filling, left_at, entry_after}
use Rattle.slot_views.specs.Runs.{open_of, open_at, run_of}
use Rattle.iso_transport.specs.Verdicts.{bears}
use Rattle.iso_transport.specs.IsoRuns.{IsoPiece, iso_rules, session_of, payload}
use Rattle.iso_transport.specs.Answers.{reply_by}
use Rattle.iso_transport.specs.RunVerdicts.{run_verdict, message_of, verdict_on, left_by, completed_by, assembly_at}
use Rattle.iso_transport.specs.Replies.{reply_to}

-- a frame of a trace: one of at most 8 bytes that can open, extend or end a session
pub record IsOfTrace (addressed : Bool) (x : IsoPiece) : Type 0 where
  pub bearing : bears addressed x.packet x.bytes ≡ true
  pub valid : length x.bytes ≤ 8

abbrev pub IsTrace : Bool → List IsoPiece → Type 0
IsTrace addressed h = AllByRecursion (IsOfTrace addressed) h

-- frames fill sessions
abbrev pub filling : Bool → Filling IsoPiece
filling addressed = record { moment = λ x. x.moment; admitted = λ x. x.admitted; step = λ o x. left_by addressed (verdict_on addressed o x) x o }

-- the session of a key after the frames of its trace
abbrev pub assembly_after : Bool → List IsoPiece → Option Entry
assembly_after addressed h = entry_after (filling addressed) h

-- the session of a trace is that of the prefix that is open in it: one more frame, or a later moment, does to the one what it does
-- to the other
pub record FollowsRuns (addressed : Bool) : Type 0 where
  -- what a frame is
  pub run_verdict : (h : List IsoPiece) (x : IsoPiece) → IsTrace addressed h → let q = open_at (iso_rules addressed) h x.moment in
      verdict_on addressed (assembly_at addressed q) x ≡ run_verdict addressed q x
  -- what its sender is told, where an opener finds room in the place of the session that is open
  pub replies : (h : List IsoPiece) (x : IsoPiece) → IsTrace addressed (x ∷ h) → let q = open_at (iso_rules addressed) h x.moment in
      (x.admitted ≡ false → q ≡ None) → reply_by addressed (verdict_on addressed (assembly_at addressed q) x) ≡ reply_to addressed q x
  -- what it leaves
  pub left : (h : List IsoPiece) (x : IsoPiece) → IsTrace addressed (x ∷ h) → let o = assembly_at addressed (open_at (iso_rules addressed) h x.moment) in
      left_by addressed (verdict_on addressed o x) x o ≡ assembly_at addressed (open_of (iso_rules addressed) (x ∷ h))
  -- what it completes
  pub completed : (h : List IsoPiece) (x : IsoPiece) → IsTrace addressed (x ∷ h) → let o = assembly_at addressed (open_at (iso_rules addressed) h x.moment) in
      completed_by addressed (verdict_on addressed o x) x o ≡ message_of (run_of (iso_rules addressed) (x ∷ h))
  -- what a later moment leaves, to the microsecond
  pub later : (h : List IsoPiece) (m : ℕ)
      → left_at (assembly_at addressed (open_of (iso_rules addressed) h)) m ≡ assembly_at addressed (open_at (iso_rules addressed) h m)
  -- so after all frames
  pub all : (h : List IsoPiece) → IsTrace addressed h → assembly_after addressed h ≡ assembly_at addressed (open_of (iso_rules addressed) h)

-- a message has as many bytes as its opener announced
abbrev pub HasItsSize : Bool → Type 0
HasItsSize addressed = (h acc : List IsoPiece) → IsTrace addressed h → run_of (iso_rules addressed) h ≡ Some acc → length (payload acc) ≡ (session_of acc).size
