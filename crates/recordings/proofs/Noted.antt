-- The frames of a history, and the messages that they complete, are the same with a tick and without it, but for the places of entries.
use Rattle.std.proofs.Common.{◌≡◌, ◌≢◌, ℕ, ◌<◌, Bool, ◌&&◌, ◌||◌, not, List, [], ◌∷◌, ◌++◌, length, map, refl, sym, ap, ◌∙◌, arith}
use Rattle.std.specs.Prelude.{Option, Some, None, option_map, if◌then◌else◌}
use Rattle.std.specs.List.{AllByRecursion}
use Rattle.n2k_id.specs.Frame.{BusFrame}
use Rattle.n2k_id.specs.Identifier.{parts_of}
use Rattle.claim_table.specs.Claims.{holder_at, is_at}
use Rattle.claim_table.specs.declared.answer.Holder.{Holder}
use Rattle.pgn_profile.specs.declared.kinds.Kind.{Kind}
use Rattle.pgn_profile.specs.declared.kinds.Kind.TheVariants.{Single, Fast, Outside}
use Rattle.slot_views.specs.Runs.{run_of}
use Rattle.fast_packet.specs.FastRuns.{FastPiece}
use Rattle.iso_transport.specs.Audience.{key_of}
use Rattle.iso_transport.specs.IsoRuns.{IsoPiece, iso_rules}
use Rattle.history.specs.Entries.{Entry, History, frame, datagram, tick}
use Rattle.history.specs.Entries as entry
use Rattle.history.specs.Known.{Known, known}
use Rattle.history.specs.Settings.{Receiver}
use Rattle.history.specs.Traces.{NotedFrame, fast_trace, is_transport, is_bearing}
use Rattle.history.specs.Opens.{note_of, noted, notes_of}
use Rattle.history.specs.Messages.{Carried, Message, by_kind, by_session, completed_by, done, iso_carried, said_by}
use Rattle.history.proofs.Moves.{notes_below}
use Rattle.recordings.proofs.Places.{closed, closed_before, place_of, apart_from}
use Rattle.recordings.proofs.Renumbered.{holder_as, known_as, at_as}
use Rattle.recordings.proofs.Known.{known_without}
use Rattle.recordings.proofs.Traces.{AreApart, note_as, fast_trace_as, iso_trace_as, room_as}
use Rattle.recordings.proofs.Gathered.{ap₃}

-- ---- notes

module _ (n : ℕ) (r : Receiver) (index : ℕ) (k : Known) (notes : List NotedFrame) (apart : AreApart n notes) where
  pub the_note_as : (m : ℕ) (f : BusFrame)
      → note_of r (closed n index) (known_as (closed n) k) (map (note_as (closed n)) notes) m f ≡ note_as (closed n) (note_of r index k notes m f)
  the_note_as m f =
      ap (λ (room : Bool). record (note_as (closed n) (note_of r index k notes m f)) { admitted = room }) (room_as n notes apart r k (parts_of f.id) m)

  noted_as : (e : Entry) → noted r (closed n index) (known_as (closed n) k) (map (note_as (closed n)) notes) e ≡ map (note_as (closed n)) (noted r index k notes e)
  noted_as (frame m f) = ap (λ (x : NotedFrame). x ∷ map (note_as (closed n)) notes) (the_note_as m f)
  noted_as (datagram m bytes) = refl
  noted_as (tick m) = refl
  noted_as (entry.command m source address) = refl

  noted_apart : (e : Entry) → index ≢ n → AreApart n (noted r index k notes e)
  noted_apart (frame m f) other = (other, apart)
  noted_apart (datagram m bytes) other = apart
  noted_apart (tick m) other = apart
  noted_apart (entry.command m source address) other = apart

below_apart : (n : ℕ) (notes : List NotedFrame) → AllByRecursion (λ x. x.index < n) notes → AreApart n notes
below_apart n [] all = tt
below_apart n (x ∷ notes) all = ((λ same. omega (arith, all.0, same)), below_apart n notes all.1)

notes_stay : (n : ℕ) (notes : List NotedFrame) → AllByRecursion (λ x. x.index < n) notes → map (note_as (closed n)) notes ≡ notes
notes_stay n [] all = refl
notes_stay n (x ∷ notes) all =
    ap (λ (i : ℕ). record x { index = i } ∷ map (note_as (closed n)) notes) (closed_before n x.index (omega (arith, all.0)))
    ∙ ap (λ (xs : List NotedFrame). x ∷ xs) (notes_stay n notes all.1)

module _ (r : Receiver) (s m : ℕ) (h : History) where
  pub notes_apart : (newer : History) → AreApart (length h) (notes_of r s (newer ++ tick m ∷ h))
  notes_apart [] = below_apart (length h) (notes_of r s h) (notes_below r s h)
  notes_apart (e ∷ newer) =
      noted_apart (length h) r (length (newer ++ tick m ∷ h)) (known r s (newer ++ tick m ∷ h)) (notes_of r s (newer ++ tick m ∷ h)) (notes_apart newer) e (apart_from newer m h)

  pub notes_without : (newer : History) → notes_of r s (newer ++ h) ≡ map (note_as (closed (length h))) (notes_of r s (newer ++ tick m ∷ h))
  notes_without [] = sym (notes_stay (length h) (notes_of r s h) (notes_below r s h))
  notes_without (e ∷ newer) =
      ap₃ (λ (i : ℕ) (k : Known) (notes : List NotedFrame). noted r i k notes e) (sym (place_of newer m h)) (known_without r s m h newer) (notes_without newer)
      ∙ noted_as (length h) r (length (newer ++ tick m ∷ h)) (known r s (newer ++ tick m ∷ h)) (notes_of r s (newer ++ tick m ∷ h)) (notes_apart newer) e

-- ---- messages

abbrev pub message_as : (ℕ → ℕ) → Message → Message
message_as f d = record d { index = f d.index }

by_kind_as : (f : ℕ → ℕ) (kind : Kind) (x : NotedFrame) (trace : List FastPiece) → by_kind kind (note_as f x) trace ≡ by_kind kind x trace
by_kind_as f Single x trace = refl
by_kind_as f Fast x trace = refl
by_kind_as f Outside x trace = refl

said_as : (f : ℕ → ℕ) (index m source : ℕ) (holder : Option Holder) (what : Option Carried)
    → said_by (f index) m source (holder_as f holder) what ≡ option_map (message_as f) (said_by index m source holder what)
said_as f index m source None what = refl
said_as f index m source (Some holder) None = refl
said_as f index m source (Some holder) (Some x) = refl

module _ (n : ℕ) (k : Known) (x : NotedFrame) (older : List NotedFrame) (apart : AreApart n (x ∷ older)) where
  by_session_as : by_session (known_as (closed n) k) (note_as (closed n) x) (map (note_as (closed n)) older) ≡ by_session k x older
  by_session_as =
      ap (λ (t : List IsoPiece). let addressed = (key_of x.parts).addressed in
      if (not addressed || is_at x.parts.destination k.claims.own) && is_bearing addressed x then iso_carried (run_of (iso_rules addressed) t) else None)
      (iso_trace_as n k (key_of x.parts).addressed x.parts.source (x ∷ older) apart)

  by_frames_as : (kinds : ℕ → Kind)
      → by_kind (kinds x.parts.pgn) (note_as (closed n) x) (fast_trace (map (holder_as (closed n)) k.claims.holders) x.parts.source x.parts.pgn (map (note_as (closed n)) (x ∷ older)))
      ≡ by_kind (kinds x.parts.pgn) x (fast_trace k.claims.holders x.parts.source x.parts.pgn (x ∷ older))
  by_frames_as kinds =
      ap (by_kind (kinds x.parts.pgn) (note_as (closed n) x)) (fast_trace_as n k.claims.holders x.parts.source x.parts.pgn (x ∷ older) apart)
      ∙ by_kind_as (closed n) (kinds x.parts.pgn) x (fast_trace k.claims.holders x.parts.source x.parts.pgn (x ∷ older))

  pub completed_as : (kinds : ℕ → Kind)
      → completed_by kinds (known_as (closed n) k) (note_as (closed n) x) (map (note_as (closed n)) older) ≡ completed_by kinds k x older
  completed_as kinds =
      ap (λ (what : Option Carried). if is_transport x.parts then what
      else by_kind (kinds x.parts.pgn) (note_as (closed n) x) (fast_trace (map (holder_as (closed n)) k.claims.holders) x.parts.source x.parts.pgn (map (note_as (closed n)) (x ∷ older))))
      by_session_as
      ∙ ap (λ (what : Option Carried). if is_transport x.parts then by_session k x older else what) (by_frames_as kinds)

-- what an entry at this place completes, by what is known before it
abbrev pub done_at : Receiver → ℕ → Known → List NotedFrame → Entry → Option Message
done_at r index k older (frame m f) =
    let x = note_of r index k older m f in said_by index m x.parts.source (holder_at k.claims.holders x.parts.source) (completed_by r.kinds k x older)
done_at r index k older (datagram m bytes) = None
done_at r index k older (tick m) = None
done_at r index k older (entry.command m source address) = None

pub done_is : (r : Receiver) (s : ℕ) (h : History) (e : Entry) → done r s h e ≡ done_at r (length h) (known r s h) (notes_of r s h) e
done_is r s h (frame m f) = refl
done_is r s h (datagram m bytes) = refl
done_is r s h (tick m) = refl
done_is r s h (entry.command m source address) = refl

module _ (n : ℕ) (r : Receiver) (index : ℕ) (k : Known) (notes : List NotedFrame) (apart : AreApart n notes) (other : index ≢ n) where
  frame_done_as : (m : ℕ) (f : BusFrame)
      → done_at r (closed n index) (known_as (closed n) k) (map (note_as (closed n)) notes) (frame m f) ≡ option_map (message_as (closed n)) (done_at r index k notes (frame m f))
  frame_done_as m f =
      ap (λ (y : NotedFrame). said_by (closed n index) m (parts_of f.id).source (holder_at (map (holder_as (closed n)) k.claims.holders) (parts_of f.id).source)
      (completed_by r.kinds (known_as (closed n) k) y (map (note_as (closed n)) notes)))
      (the_note_as n r index k notes apart m f)
      ∙ ap (λ (what : Option Carried). said_by (closed n index) m (parts_of f.id).source (holder_at (map (holder_as (closed n)) k.claims.holders) (parts_of f.id).source) what)
      (completed_as n k (note_of r index k notes m f) notes (other, apart) r.kinds)
      ∙ ap (λ (holder : Option Holder). said_by (closed n index) m (parts_of f.id).source holder (completed_by r.kinds k (note_of r index k notes m f) notes))
      (at_as (closed n) k.claims.holders (parts_of f.id).source)
      ∙ said_as (closed n) index m (parts_of f.id).source (holder_at k.claims.holders (parts_of f.id).source) (completed_by r.kinds k (note_of r index k notes m f) notes)

  pub done_as : (e : Entry)
      → done_at r (closed n index) (known_as (closed n) k) (map (note_as (closed n)) notes) e ≡ option_map (message_as (closed n)) (done_at r index k notes e)
  done_as (frame m f) = frame_done_as m f
  done_as (datagram m bytes) = refl
  done_as (tick m) = refl
  done_as (entry.command m source address) = refl
