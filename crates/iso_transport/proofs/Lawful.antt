-- Messages of the transport protocol are runs, so what is promised of runs holds of them.
use Rattle.std.proofs.Common.{◌≡◌, ℕ, nat_lt, Bool, true, false, List, [], ◌∷◌, length, refl, arith}
use Rattle.std.proofs.lemmas.Bool.{and_parts, eqb-true, le-ltb, not-true}
use Rattle.std.proofs.Math.Bool.{and-false}
use Rattle.slot_views.specs.Runs.{is_whole, opener_of}
use Rattle.slot_views.specs.RunLaws.{IsLawful}
use Rattle.iso_transport.specs.IsoRuns.{IsoPiece, need_of, is_opener, is_next, is_repeat, iso_rules}

-- what is no packet is neither next nor a repeat
pub no_next : (acc : List IsoPiece) (x : IsoPiece) → x.packet ≡ false → is_next acc x ≡ false
no_next [] x none = refl
no_next (y ∷ ys) x none = simp none

pub no_repeat : (acc : List IsoPiece) (x : IsoPiece) → x.packet ≡ false → is_repeat acc x ≡ false
no_repeat [] x none = refl
no_repeat (y ∷ ys) x none = simp none

-- nothing follows what is whole
none_past : (k n : ℕ) → k ≡ n → nat_lt k n ≡ false
none_past k n same = le-ltb k n (omega arith)

pub lawful : (addressed : Bool) → IsLawful (iso_rules addressed)
lawful addressed = record { opener_is_new = new; whole_ends = ends }
  where
    new : (acc : List IsoPiece) (x : IsoPiece) → is_opener addressed x ≡ true → (is_next acc x ≡ false) × (is_repeat acc x ≡ false)
    new acc x opens = let none = not-true x.packet (and_parts _ _ opens).0 in (no_next acc x none, no_repeat acc x none)

    ends : (acc : List IsoPiece) (x : IsoPiece) → is_whole (iso_rules addressed) acc ≡ true → (is_next acc x ≡ false) × (is_repeat acc x ≡ false)
    ends [] x whole = (refl, refl)
    ends (y ∷ ys) x whole =
        let past = none_past (length (y ∷ ys)) (need_of (opener_of y ys)) (eqb-true _ _ whole) in
        (simp (past, and-false), simp (past, and-false))
