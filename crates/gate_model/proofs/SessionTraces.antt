-- What the frames of a history are to the sessions that stand for them.
use Rattle.std.proofs.Common.{◌≡◌, ℕ, ◌≤◌, Bool, true, false, ◌&&◌, ◌||◌, List, [], ◌∷◌, length, map, refl, sym, ap, ◌∙◌, ◌==◌, nat_le, is_some}
use Rattle.std.specs.Prelude.{Option, Some, None, filter, if◌then◌else◌, option_map}
use Rattle.std.specs.List.{AllByRecursion}
use Rattle.std.proofs.lemmas.Bool.{and_parts}
use Rattle.slot_views.specs.Runs.{in_time, kept_at, open_of, open_at}
use Rattle.slot_views.specs.Slots.{Entry}
use Rattle.iso_transport.specs.declared.key.IsoKey.{IsoKey}
use Rattle.iso_transport.specs.declared.session.Session.{Session}
use Rattle.iso_transport.specs.Audience.{is_data}
use Rattle.iso_transport.specs.Connection.{control_at}
use Rattle.iso_transport.specs.Verdicts.{bears, pgn_in}
use Rattle.iso_transport.specs.IsoRuns.{IsoPiece, iso_rules, session_of}
use Rattle.iso_transport.specs.RunVerdicts.{assembly_at}
use Rattle.iso_transport.specs.Laws.{IsTrace}
use Rattle.iso_transport.proofs.Sessions.{session_kept}
use Rattle.iso_transport.proofs.Following.{Standing, standing_by}
use Rattle.history.specs.Entries.{History, IsHistory, frame, datagram, tick, command}
use Rattle.history.specs.Settings.{Receiver}
use Rattle.history.specs.Known.{Known, held_since}
use Rattle.history.specs.Traces.{NotedFrame, is_since, iso_piece, iso_trace, broadcast_since, addressed_since, is_transport, is_bearing}
use Rattle.history.specs.Opens.{iso_open, notes_of, open_pgn}
use Rattle.history.specs.Endings.{session_pgn, side}

-- ---- the frames of a trace have at most 8 bytes, and bear on a session

abbrev pub IsShort : NotedFrame → Type 0
IsShort n = length n.bytes ≤ 8

pub notes_short : (r : Receiver) (s : ℕ) (h : History) → IsHistory h → AllByRecursion IsShort (notes_of r s h)
notes_short r s [] is = tt
notes_short r s (frame m f ∷ h) is = (is.0.1, notes_short r s h is.2)
notes_short r s (datagram m bytes ∷ h) is = notes_short r s h is.2
notes_short r s (tick m ∷ h) is = notes_short r s h is.2
notes_short r s (command m source address ∷ h) is = notes_short r s h is.2

upon_all : (packet large bam : Bool) → (packet || (large && bam)) ≡ true → (packet || (large && (bam || false))) ≡ true
upon_all true large bam e = refl
upon_all false false bam e = e
upon_all false true true e = refl
upon_all false true false e = e

upon_one : (packet large rts ends ready : Bool) → (packet || (large && (ends || (rts && ready)))) ≡ true → (packet || (large && (rts || ends))) ≡ true
upon_one true large rts ends ready e = refl
upon_one false false rts ends ready e = e
upon_one false true true ends ready e = refl
upon_one false true false true ready e = refl
upon_one false true false false ready e = e

pub bears_of : (addressed : Bool) (n : NotedFrame) → is_bearing addressed n ≡ true → bears addressed (is_data n.parts) n.bytes ≡ true
bears_of true n e =
    upon_one (is_data n.parts) (nat_le 8 (length n.bytes)) (control_at n.bytes == 16) (control_at n.bytes == 255) n.ready (and_parts (is_transport n.parts) _ e).1
bears_of false n e = upon_all (is_data n.parts) (nat_le 8 (length n.bytes)) (control_at n.bytes == 32) (and_parts (is_transport n.parts) _ e).1

of_trace : (addressed : Bool) (q : NotedFrame → Bool) → ((n : NotedFrame) → q n ≡ true → is_bearing addressed n ≡ true) → (notes : List NotedFrame) → AllByRecursion IsShort notes
    → IsTrace addressed (map iso_piece (filter q notes))
of_trace addressed q bearing [] short = tt
of_trace addressed q bearing (n ∷ notes) short = by (q n) refl (of_trace addressed q bearing notes short.1)
  where
    by : (b : Bool) → q n ≡ b → IsTrace addressed (map iso_piece (filter q notes)) → IsTrace addressed (map iso_piece (if b then n ∷ filter q notes else filter q notes))
    by true e rest = (record { bearing = bears_of addressed n (bearing n e); valid = short.0 }, rest)
    by false e rest = rest

broadcast_traced : (since : Option ℕ) (a : ℕ) (notes : List NotedFrame) → AllByRecursion IsShort notes → IsTrace false (broadcast_since since a notes)
broadcast_traced None a notes short = tt
broadcast_traced (Some since) a notes short =
    of_trace false (λ n. is_since a since n && ((n.parts.destination == 255) && is_bearing false n))
    (λ n e. (and_parts (n.parts.destination == 255) (is_bearing false n) (and_parts (is_since a since n) _ e).1).1) notes short

addressed_traced : (since own : Option ℕ) (own_since a : ℕ) (notes : List NotedFrame) → AllByRecursion IsShort notes → IsTrace true (addressed_since since own own_since a notes)
addressed_traced None own own_since a notes short = tt
addressed_traced (Some since) None own_since a notes short = tt
addressed_traced (Some since) (Some own) own_since a notes short =
    of_trace true (λ n. is_since a since n && ((n.parts.destination == own) && (nat_le own_since n.index && is_bearing true n)))
    (λ n e. (and_parts (nat_le own_since n.index) (is_bearing true n) (and_parts (n.parts.destination == own) _ (and_parts (is_since a since n) _ e).1).1).1) notes short

pub traced : (k : Known) (addressed : Bool) (a : ℕ) (notes : List NotedFrame) → AllByRecursion IsShort notes → IsTrace addressed (iso_trace k addressed a notes)
traced k false a notes short = broadcast_traced (held_since k.claims.holders a) a notes short
traced k true a notes short = addressed_traced (held_since k.claims.holders a) k.claims.own k.own_since a notes short

-- ---- no frame makes no trace, and one that isn't of the transport protocol leaves it

pub no_trace : (k : Known) (addressed : Bool) (a : ℕ) → iso_trace k addressed a [] ≡ []
no_trace k false a = to_all (held_since k.claims.holders a)
  where
    to_all : (since : Option ℕ) → broadcast_since since a [] ≡ []
    to_all None = refl
    to_all (Some since) = refl
no_trace k true a = to_own (held_since k.claims.holders a) k.claims.own
  where
    to_own : (since own : Option ℕ) → addressed_since since own k.own_since a [] ≡ []
    to_own None own = refl
    to_own (Some since) None = refl
    to_own (Some since) (Some own) = refl

pub and_no : (x : Bool) → (x && false) ≡ false
and_no true = refl
and_no false = refl

idle : (n : NotedFrame) (addressed : Bool) → is_transport n.parts ≡ false → is_bearing addressed n ≡ false
idle n addressed e = rw e refl

pub past : (k : Known) (addressed : Bool) (a : ℕ) (n : NotedFrame) (notes : List NotedFrame) → is_transport n.parts ≡ false → iso_trace k addressed a (n ∷ notes) ≡ iso_trace k addressed a notes
past k false a n notes e = to_all (held_since k.claims.holders a)
  where
    to_all : (since : Option ℕ) → broadcast_since since a (n ∷ notes) ≡ broadcast_since since a notes
    to_all None = refl
    to_all (Some since) = rw (idle n false e, and_no (n.parts.destination == 255), and_no (is_since a since n)) refl
past k true a n notes e = to_own (held_since k.claims.holders a) k.claims.own
  where
    to_own : (since own : Option ℕ) → addressed_since since own k.own_since a (n ∷ notes) ≡ addressed_since since own k.own_since a notes
    to_own None own = refl
    to_own (Some since) None = refl
    to_own (Some since) (Some own) = rw (idle n true e, and_no (nat_le k.own_since n.index), and_no (n.parts.destination == own), and_no (is_since a since n)) refl

-- ---- what is open, and the entry that stands for it

module _ (addressed : Bool) where
  kept_held : (q : Option (List IsoPiece)) (m : ℕ) → is_some (assembly_at addressed (kept_at (iso_rules addressed) q m)) ≡ is_some (kept_at (iso_rules addressed) q m)
  kept_held None m = refl
  kept_held (Some []) m = refl
  kept_held (Some (y ∷ ys)) m = by (in_time (iso_rules addressed) (y ∷ ys) m)
    where
      by : (b : Bool) → is_some (assembly_at addressed (if b then Some (y ∷ ys) else None)) ≡ is_some (if b then Some (y ∷ ys) else None)
      by true = refl
      by false = refl

  -- there is an entry exactly where something is open
  pub is_held : (t : List IsoPiece) (m : ℕ) → is_some (assembly_at addressed (open_at (iso_rules addressed) t m)) ≡ is_some (open_at (iso_rules addressed) t m)
  is_held t m = kept_held (open_of (iso_rules addressed) t) m

  -- it is of the message that is open
  pgn_by : (q : Option (List IsoPiece)) (e : Entry) → Standing addressed q → assembly_at addressed q ≡ Some e → pgn_in e ≡ open_pgn q
  pgn_by None e stands is = cc
  pgn_by (Some []) e stands is = absurd stands
  pgn_by (Some (y ∷ ys)) e stands is =
      let same : Some (pgn_in e) ≡ Some (session_of (y ∷ ys)).pgn = sym (ap (option_map pgn_in) is) ∙ ap (λ (s : Session). Some s.pgn) (session_kept (session_of (y ∷ ys)) stands.0.opened) in
      cc

pub message_is : (r : Receiver) (s : ℕ) (h : History) → IsHistory h → (k : Known) (key : IsoKey) (m : ℕ) (e : Entry)
    → assembly_at key.addressed (iso_open k (notes_of r s h) key m) ≡ Some e → pgn_in e ≡ session_pgn (side k m) (notes_of r s h) key
message_is r s h is k key m e there =
    pgn_by key.addressed (iso_open k (notes_of r s h) key m) e
    (standing_by key.addressed (iso_trace k key.addressed key.source (notes_of r s h)) m _ (traced k key.addressed key.source (notes_of r s h) (notes_short r s h is)) refl) there
