-- What an opener announces, and that it is read back from a session's mark.
use Rattle.std.proofs.Common.{◌≡◌, ℕ, ◌^◌, ◌<◌, ◌≤◌, ◌==◌, nat_lt, if◌then◌else◌, Bool, true, false, List, length, slice_index, Option, Some, None, refl, arith}
use Rattle.std.proofs.lemmas.Bool.{and_parts, leb-true}
use Rattle.iso_transport.specs.declared.connection.Cm.{Cm}
use Rattle.iso_transport.specs.declared.connection.Cm.TheVariants.{Rts, Cts, EndAck, Bam, Abort}
use Rattle.iso_transport.specs.declared.session.Session.{Session}
use Rattle.iso_transport.specs.Connection.{control_at, size_at, packets_at, limit_at, pgn_at, cm_of}
use Rattle.iso_transport.specs.Sessions.{mark_of, session_at}
use Rattle.iso_transport.specs.IsoRuns.{greatest_window, longest, shortest, is_size, opens, announced}

-- the numbers of a session that was opened
pub record Opened (s : Session) : Type 0 where
  pub least : shortest ≤ s.size
  pub most : s.size ≤ longest
  pub some : 1 ≤ s.window
  pub few : s.window ≤ greatest_window
  pub pgn : s.pgn < 2 ^ 24

sized : (s : Session) (packets : ℕ) → is_size s.size packets ≡ true → 1 ≤ s.window → s.window ≤ greatest_window → s.pgn < 2 ^ 24 → Opened s
sized s packets is some few pgn =
    let one = and_parts _ _ is in
    let two = and_parts _ _ one.1 in
    record { least = leb-true _ _ one.0; most = leb-true _ _ two.0; some = some; few = few; pgn = pgn }

pub opened_by : (addressed : Bool) (cm : Option Cm) → opens addressed cm ≡ true → (announced cm).pgn < 2 ^ 24 → Opened (announced cm)
opened_by addressed None opens pgn = cc
opened_by addressed (Some (Rts size packets limit p)) opens pgn = sized (announced (Some (Rts size packets limit p))) packets (and_parts _ _ opens).1 (omega arith) (omega arith) pgn
opened_by addressed (Some (Cts count next p)) opens pgn = cc
opened_by addressed (Some (EndAck size packets p)) opens pgn = cc
opened_by addressed (Some (Bam size packets p)) opens pgn = sized (announced (Some (Bam size packets p))) packets (and_parts _ _ opens).1 (omega arith) (omega arith) pgn
opened_by addressed (Some (Abort reason p)) opens pgn = cc

-- a PGN has 24 bits
pgn_by : (t a b c d e : Bool) (bytes : List ℕ)
    → (announced (if t then None else if a then Some (Rts (size_at bytes) (packets_at bytes) (limit_at bytes) (pgn_at bytes)) else if b then Some (Cts (slice_index bytes 1) (slice_index bytes 2) (pgn_at bytes))
    else if c then Some (EndAck (size_at bytes) (packets_at bytes) (pgn_at bytes)) else if d then Some (Bam (size_at bytes) (packets_at bytes) (pgn_at bytes))
    else if e then Some (Abort (slice_index bytes 1) (pgn_at bytes)) else None)).pgn < 2 ^ 24
pgn_by true a b c d e bytes = omega arith
pgn_by false true b c d e bytes = omega arith
pgn_by false false true c d e bytes = omega arith
pgn_by false false false true d e bytes = omega arith
pgn_by false false false false true e bytes = omega arith
pgn_by false false false false false true bytes = omega arith
pgn_by false false false false false false bytes = omega arith

pub pgn_small : (bytes : List ℕ) → (announced (cm_of bytes)).pgn < 2 ^ 24
pgn_small bytes = pgn_by (nat_lt (length bytes) 8) (control_at bytes == 16) (control_at bytes == 17) (control_at bytes == 19) (control_at bytes == 32) (control_at bytes == 255) bytes

pub opened_from : (addressed : Bool) (bytes : List ℕ) → opens addressed (cm_of bytes) ≡ true → Opened (announced (cm_of bytes))
opened_from addressed bytes opens = opened_by addressed (cm_of bytes) opens (pgn_small bytes)

-- a mark gives its session back
abbrev session : ℕ → ℕ → ℕ → Session
session p z w = record { pgn = p; size = z; window = w }

session_same : (p z w q y v : ℕ) → p ≡ q → z ≡ y → w ≡ v → session p z w ≡ session q y v
session_same p z w q y v e f g = rw (e, f, g) refl

pub session_kept : (s : Session) → Opened s → session_at (mark_of s) ≡ s
session_kept s o =
    let most = o.most in
    let some = o.some in
    let few = o.few in
    let pgn = o.pgn in
    session_same _ _ _ s.pgn s.size s.window (omega arith) (omega arith) (omega arith)
