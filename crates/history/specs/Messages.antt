-- The messages that were complete: single frames, fast packets (canboat) and sessions of the transport protocol (ISO 11783-3).
use Rattle.std.specs.Prelude.{ℕ, Bool, ◌&&◌, ◌||◌, not, ◌==◌, nat_le, List, [], ◌∷◌, length, slice_index, Option, Some, None, option_map, if◌then◌else◌}
use Rattle.n2k_id.specs.Name.{name_at}
use Rattle.n2k_id.specs.Pgns as pgns
use Rattle.claim_table.specs.Claims.{is_at, holder_at}
use Rattle.claim_table.specs.declared.answer.Holder.{Holder}
use Rattle.pgn_profile.specs.declared.kinds.Kind.{Kind}
use Rattle.pgn_profile.specs.declared.kinds.Kind.TheVariants.{Single, Fast, Outside}
use Rattle.slot_views.specs.Runs.{run_of}
use Rattle.fast_packet.specs.FastRuns as fast
use Rattle.fast_packet.specs.FastRuns.{FastPiece, fast_rules}
use Rattle.iso_transport.specs.IsoRuns as iso
use Rattle.iso_transport.specs.IsoRuns.{IsoPiece, iso_rules, session_of}
use Rattle.iso_transport.specs.Audience.{key_of}
use Rattle.history.specs.Entries as entry
use Rattle.history.specs.Entries.{Entry, History}
use Rattle.history.specs.Settings.{Receiver}
use Rattle.history.specs.Known.{Known, known}
use Rattle.history.specs.Traces.{NotedFrame, fast_trace, iso_trace, is_transport, is_bearing}
use Rattle.history.specs.Opens.{note_of, notes_of}

-- a complete message: by which entry, when, from whom, and what it carries
pub record Message : Type 0 where
  pub index : ℕ
  pub moment : ℕ
  pub source : ℕ
  pub name : ℕ
  pub pgn : ℕ
  pub payload : List ℕ

-- a PGN with its payload
pub record Carried : Type 0 where
  pub pgn : ℕ
  pub payload : List ℕ

abbrev pub carried : ℕ → List ℕ → Carried
carried pgn payload = record { pgn = pgn; payload = payload }

abbrev pub fast_carried : ℕ → Option (List FastPiece) → Option Carried
fast_carried pgn run = option_map (λ r. carried pgn (fast.payload r)) run

abbrev pub iso_carried : Option (List IsoPiece) → Option Carried
iso_carried run = option_map (λ r. carried (session_of r).pgn (iso.payload r)) run

-- what a frame completes that is no transport frame: it is a message, or ends a run
abbrev pub by_kind : Kind → NotedFrame → List FastPiece → Option Carried
by_kind Single n trace = Some (carried n.parts.pgn n.bytes)
by_kind Fast n trace = fast_carried n.parts.pgn (run_of fast_rules trace)
by_kind Outside n trace = None

-- and what a transport frame to all or to the gateway completes, where it bears on a session
abbrev pub by_session : Known → NotedFrame → List NotedFrame → Option Carried
by_session k n older = let addressed = (key_of n.parts).addressed in
    if (not addressed || is_at n.parts.destination k.claims.own) && is_bearing addressed n
    then iso_carried (run_of (iso_rules addressed) (iso_trace k addressed n.parts.source (n ∷ older)))
    else None

abbrev pub completed_by : (ℕ → Kind) → Known → NotedFrame → List NotedFrame → Option Carried
completed_by kinds k n older =
    if is_transport n.parts then by_session k n older
    else by_kind (kinds n.parts.pgn) n (fast_trace k.claims.holders n.parts.source n.parts.pgn (n ∷ older))

abbrev pub said_by : ℕ → ℕ → ℕ → Option Holder → Option Carried → Option Message
said_by index moment source None what = None
said_by index moment source (Some holder) what =
    option_map (λ x. record { index = index; moment = moment; source = source; name = holder.name.0; pgn = x.pgn; payload = x.payload }) what

-- the message that an entry completes, of a source that holds its address
abbrev pub done : Receiver → ℕ → History → Entry → Option Message
done r s h (entry.frame m f) =
    let k = known r s h in
    let older = notes_of r s h in
    let n = note_of r (length h) k older m f in
    said_by (length h) m n.parts.source (holder_at k.claims.holders n.parts.source) (completed_by r.kinds k n older)
done r s h (entry.datagram m bytes) = None
done r s h (entry.tick m) = None
done r s h (entry.command m source address) = None

abbrev pub with_message : Option Message → List Message → List Message
with_message None older = older
with_message (Some d) older = d ∷ older

-- all messages that were ever complete
abbrev pub messages_of : Receiver → ℕ → History → List Message
messages_of r s [] = []
messages_of r s (e ∷ h) = with_message (done r s h e) (messages_of r s h)

-- ---- a message that tells a device to go to an address (ISO 11783-5, commanded address)

-- its first 8 bytes are this NAME, and an address follows
abbrev pub is_for : ℕ → List ℕ → Bool
is_for name payload = nat_le 9 (length payload) && (name_at payload == name)

-- where it tells the device of this NAME to go
abbrev pub ordered_in : ℕ → ℕ → List ℕ → Option ℕ
ordered_in name pgn payload = if (pgn == pgns.commanded_address) && is_for name payload then Some (slice_index payload 8) else None
