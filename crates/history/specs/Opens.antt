-- Which messages are open, fast packets (canboat) and sessions of the transport protocol (ISO 11783-3), and which openers find room.
-- Whether an opener finds room hangs on what is open just before it, and that on which openers found room: so it is noted of each frame
-- by the history before it, and a note says no more than that history does.
use Rattle.std.specs.Prelude.{ℕ, Bool, true, false, ◌&&◌, ◌||◌, not, ◌==◌, nat_lt, List, [], ◌∷◌, length, filter, Option, Some, None, is_some, if◌then◌else◌}
use Rattle.std.specs.Bool.{beq}
use Rattle.std.specs.List.{list_any}
use Rattle.n2k_id.specs.declared.identifier_parts.Parts.{Parts}
use Rattle.n2k_id.specs.Frame.{BusFrame}
use Rattle.n2k_id.specs.Identifier.{parts_of}
use Rattle.claim_table.specs.Claims.{is_ready}
use Rattle.pgn_profile.specs.declared.kinds.Kind.{Kind}
use Rattle.pgn_profile.specs.declared.kinds.Kind.TheVariants.{Single, Fast, Outside}
use Rattle.slot_views.specs.Runs.{open_at}
use Rattle.fast_packet.specs.FastRuns.{FastPiece, fast_rules}
use Rattle.iso_transport.specs.IsoRuns.{IsoPiece, iso_rules, session_of}
use Rattle.fast_packet.specs.declared.key.FastKey.{FastKey}
use Rattle.iso_transport.specs.declared.key.IsoKey.{IsoKey}
use Rattle.iso_transport.specs.Audience.{key_of}
use Rattle.history.specs.Entries as entry
use Rattle.history.specs.Entries.{Entry, History}
use Rattle.history.specs.Settings.{Receiver}
use Rattle.history.specs.Known.{Known, known}
use Rattle.history.specs.Traces.{NotedFrame, fast_trace, iso_trace, is_transport}
use Rattle.claim_table.specs.declared.answer.Holder.{Holder}

-- the message comes as a fast packet
abbrev pub is_fast : Kind → Bool
is_fast Single = false
is_fast Fast = true
is_fast Outside = false

-- ---- keys, in the order in which they are reported

abbrev pub same_fast : FastKey → FastKey → Bool
same_fast a b = (a.source == b.source) && (a.pgn == b.pgn)

-- by source, then by PGN
abbrev pub precedes_fast : FastKey → FastKey → Bool
precedes_fast a b = nat_lt a.source b.source || ((a.source == b.source) && nat_lt a.pgn b.pgn)

abbrev pub same_iso : IsoKey → IsoKey → Bool
same_iso a b = beq a.addressed b.addressed && (a.source == b.source)

-- broadcast sessions before addressed ones, each by source
abbrev pub precedes_iso : IsoKey → IsoKey → Bool
precedes_iso a b = (not a.addressed && b.addressed) || (beq a.addressed b.addressed && nat_lt a.source b.source)

-- a key among others in their order, once
abbrev pub inserted : {K : Type 0} → (K → K → Bool) → K → List K → List K
inserted precedes key [] = key ∷ []
inserted precedes key (x ∷ xs) = if precedes key x then key ∷ x ∷ xs else x ∷ inserted precedes key xs

abbrev pub with_key : {K : Type 0} → (K → K → Bool) → (K → K → Bool) → K → List K → List K
with_key same precedes key xs = if list_any (same key) xs then xs else inserted precedes key xs

abbrev pub fast_keys : (ℕ → Kind) → List NotedFrame → List FastKey
fast_keys kinds [] = []
fast_keys kinds (n ∷ notes) =
    if is_fast (kinds n.parts.pgn)
    then with_key same_fast precedes_fast (record { source = n.parts.source; pgn = n.parts.pgn }) (fast_keys kinds notes)
    else fast_keys kinds notes

abbrev pub iso_keys : List NotedFrame → List IsoKey
iso_keys [] = []
iso_keys (n ∷ notes) =
    if is_transport n.parts then with_key same_iso precedes_iso (key_of n.parts) (iso_keys notes) else iso_keys notes

-- ---- what is open at a moment

abbrev pub fast_open : List (Option Holder) → List NotedFrame → FastKey → ℕ → Option (List FastPiece)
fast_open holders notes key m = open_at fast_rules (fast_trace holders key.source key.pgn notes) m

abbrev pub iso_open : Known → List NotedFrame → IsoKey → ℕ → Option (List IsoPiece)
iso_open k notes key m = open_at (iso_rules key.addressed) (iso_trace k key.addressed key.source notes) m

-- the message of the session
abbrev pub open_pgn : Option (List IsoPiece) → ℕ
open_pgn None = 0
open_pgn (Some acc) = (session_of acc).pgn

abbrev pub open_fast_keys : (ℕ → Kind) → List (Option Holder) → List NotedFrame → ℕ → List FastKey
open_fast_keys kinds holders notes m = filter (λ key. is_some (fast_open holders notes key m)) (fast_keys kinds notes)

abbrev pub open_iso_keys : Known → List NotedFrame → ℕ → List IsoKey
open_iso_keys k notes m = filter (λ key. is_some (iso_open k notes key m)) (iso_keys notes)

-- ---- which openers find room: fewer of the other keys of the kind are open than the limit

abbrev pub is_fast_admitted : (ℕ → Kind) → ℕ → List (Option Holder) → List NotedFrame → FastKey → ℕ → Bool
is_fast_admitted kinds limit holders notes key m = nat_lt (length (filter (λ other. not (same_fast other key)) (open_fast_keys kinds holders notes m))) limit

abbrev pub is_iso_admitted : ℕ → Known → List NotedFrame → IsoKey → ℕ → Bool
is_iso_admitted limit k notes key m = nat_lt (length (filter (λ other. not (same_iso other key)) (open_iso_keys k notes m))) limit

abbrev pub is_frame_admitted : Receiver → Known → List NotedFrame → Parts → ℕ → Bool
is_frame_admitted r k notes p m =
    if is_transport p then is_iso_admitted r.iso_slots k notes (key_of p) m
    else is_fast_admitted r.kinds r.fast_slots k.claims.holders notes (record { source = p.source; pgn = p.pgn }) m

abbrev pub note_of : Receiver → ℕ → Known → List NotedFrame → ℕ → BusFrame → NotedFrame
note_of r index k notes m f = let p = parts_of f.id in record {
  index = index;
  moment = m;
  parts = p;
  bytes = f.held;
  ready = is_ready k.claims m;
  admitted = is_frame_admitted r k notes p m;
}

abbrev pub noted : Receiver → ℕ → Known → List NotedFrame → Entry → List NotedFrame
noted r index k notes (entry.frame m f) = note_of r index k notes m f ∷ notes
noted r index k notes (entry.datagram m bytes) = notes
noted r index k notes (entry.tick m) = notes
noted r index k notes (entry.command m source address) = notes

-- the frames of a history, each with what the history before it says of it
abbrev pub notes_of : Receiver → ℕ → History → List NotedFrame
notes_of r s [] = []
notes_of r s (e ∷ h) = noted r (length h) (known r s h) (notes_of r s h) e
