-- The rules of fast packets and of the transport protocol don't see whether there was room.
use Rattle.std.proofs.Common.{◌≡◌, ℕ, ◌-◌, Bool, true, List, [], ◌∷◌, ◌++◌, length, map, refl, ap, ◌∙◌}
use Rattle.std.specs.Prelude.{Option, Some, None, option_map}
use Rattle.std.proofs.lemmas.List.{length-map}
use Rattle.slot_views.specs.Runs.{opener_of}
use Rattle.fast_packet.specs.FastRuns.{length_of, left_after, later_piece, FastPiece, fast_rules}
use Rattle.fast_packet.specs.FastRuns as fast
use Rattle.iso_transport.specs.IsoRuns as iso
use Rattle.iso_transport.specs.IsoRuns.{IsoPiece, iso_rules, session_of}
use Rattle.history.specs.Messages.{Carried, fast_carried, iso_carried, carried}
use Rattle.history.proofs.Normal.{IsUnseen, opener_map}

abbrev pub fast_norm : FastPiece → FastPiece
fast_norm x = record { moment = x.moment; bytes = x.bytes; admitted = true }

abbrev pub iso_norm : IsoPiece → IsoPiece
iso_norm x = record { moment = x.moment; packet = x.packet; bytes = x.bytes; admitted = true }

pub fast_unseen : IsUnseen fast_rules fast_norm
fast_unseen = record {
  moment = λ x. refl;
  admits = λ x. refl;
  opens = λ x. refl;
  need = λ x. refl;
  is_next = next;
  is_repeat = again;
  gap = λ acc. refl;
}
  where
    next : (acc : List FastPiece) (x : FastPiece) → fast.is_next (map fast_norm acc) (fast_norm x) ≡ fast.is_next acc x
    next [] x = refl
    next (y ∷ ys) x = rw (opener_map fast_norm y ys, length-map ys fast_norm) refl

    again : (acc : List FastPiece) (x : FastPiece) → fast.is_repeat (map fast_norm acc) (fast_norm x) ≡ fast.is_repeat acc x
    again [] x = refl
    again (y ∷ ys) x = rw (next ys y, opener_map fast_norm y ys, length-map ys fast_norm) refl

pub iso_unseen : (addressed : Bool) → IsUnseen (iso_rules addressed) iso_norm
iso_unseen addressed = record {
  moment = λ x. refl;
  admits = λ x. refl;
  opens = λ x. refl;
  need = λ x. refl;
  is_next = next;
  is_repeat = again;
  gap = gap;
}
  where
    next : (acc : List IsoPiece) (x : IsoPiece) → iso.is_next (map iso_norm acc) (iso_norm x) ≡ iso.is_next acc x
    next [] x = refl
    next (y ∷ ys) x = rw (opener_map iso_norm y ys, length-map ys iso_norm) refl

    again : (acc : List IsoPiece) (x : IsoPiece) → iso.is_repeat (map iso_norm acc) (iso_norm x) ≡ iso.is_repeat acc x
    again [] x = refl
    again (y ∷ ys) x = rw (opener_map iso_norm y ys, length-map ys iso_norm) refl

    gap : (acc : List IsoPiece) → (iso_rules addressed).gap (map iso_norm acc) ≡ (iso_rules addressed).gap acc
    gap [] = refl
    gap (y ∷ ys) = rw (opener_map iso_norm y ys, length-map ys iso_norm) refl

-- ---- nor does what they carry

fast_joined : (len : ℕ) (acc : List FastPiece) → fast.joined len (map fast_norm acc) ≡ fast.joined len acc
fast_joined len [] = refl
fast_joined len (x ∷ []) = refl
fast_joined len (x ∷ y ∷ ys) = rw (length-map ys fast_norm) (ap (λ (front : List ℕ). front ++ later_piece (left_after len (length (y ∷ ys))) x.bytes) (fast_joined len (y ∷ ys)))

fast_payload : (acc : List FastPiece) → fast.payload (map fast_norm acc) ≡ fast.payload acc
fast_payload [] = refl
fast_payload (x ∷ xs) = ap (λ (o : FastPiece). fast.joined (length_of o.bytes) (map fast_norm (x ∷ xs))) (opener_map fast_norm x xs) ∙ fast_joined (length_of (opener_of x xs).bytes) (x ∷ xs)

pub fast_carries : (pgn : ℕ) (o : Option (List FastPiece)) → fast_carried pgn (option_map (map fast_norm) o) ≡ fast_carried pgn o
fast_carries pgn None = refl
fast_carries pgn (Some acc) = ap (λ (x : List ℕ). made (carried pgn x)) (fast_payload acc)
  where
    made : Carried → Option Carried
    made x = Some x

iso_joined : (size : ℕ) (acc : List IsoPiece) → iso.joined size (map iso_norm acc) ≡ iso.joined size acc
iso_joined size [] = refl
iso_joined size (x ∷ []) = refl
iso_joined size (x ∷ y ∷ ys) = rw (length-map ys iso_norm) (ap (λ (front : List ℕ). front ++ iso.part_of (iso.left_after size (length (y ∷ ys) - 1)) x.bytes) (iso_joined size (y ∷ ys)))

session_same : (acc : List IsoPiece) → session_of (map iso_norm acc) ≡ session_of acc
session_same [] = refl
session_same (y ∷ ys) = rw (opener_map iso_norm y ys) refl

pub iso_carries : (o : Option (List IsoPiece)) → iso_carried (option_map (map iso_norm) o) ≡ iso_carried o
iso_carries None = refl
iso_carries (Some acc) = rw (session_same acc, iso_joined (session_of acc).size acc) refl
