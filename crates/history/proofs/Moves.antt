-- What counts for a source after a claim or a command.
use Rattle.std.proofs.Common.{◌≡◌, ℕ, suc, ◌<◌, Bool, true, false, ◌&&◌, List, [], ◌∷◌, ◌⊎◌, length, map, refl, ◌==◌, nat_le, arith}
use Rattle.std.specs.Prelude.{Option, Some, None, filter, if◌then◌else◌}
use Rattle.std.specs.List.{AllByRecursion}
use Rattle.std.proofs.lemmas.Bool.{lt-leb}
use Rattle.history.specs.Entries.{Entry, History}
use Rattle.history.specs.Settings.{Receiver}
use Rattle.history.specs.Known.{Known, known}
use Rattle.history.specs.Traces.{NotedFrame, is_since}
use Rattle.history.specs.Opens.{noted, notes_of}

-- each note has the index of an entry of the history
abbrev pub AreBelow : ℕ → List NotedFrame → Type 0
AreBelow n notes = AllByRecursion (λ x. x.index < n) notes

later : (n : ℕ) (notes : List NotedFrame) → AreBelow n notes → AreBelow (suc n) notes
later n [] h = tt
later n (x ∷ notes) h = (omega (arith, h.0), later n notes h.1)

noted_below : (c : Receiver) (n : ℕ) (k : Known) (notes : List NotedFrame) (e : Entry) → AreBelow n notes → AreBelow (suc n) (noted c n k notes e)
noted_below c n k notes e h = grind (arith, later)

pub notes_below : (c : Receiver) (s : ℕ) (h : History) → AreBelow (length h) (notes_of c s h)
notes_below c s [] = tt
notes_below c s (e ∷ h) = noted_below c (length h) (known c s h) (notes_of c s h) e (notes_below c s h)

-- ---- the frames of a source since an entry, of which a kind counts

abbrev pub trace : {X : Type 0} → (NotedFrame → X) → (NotedFrame → Bool) → ℕ → Option ℕ → List NotedFrame → List X
trace g q a None notes = []
trace g q a (Some since) notes = map g (filter (λ n. is_since a since n && q n) notes)

pub and_no : (b : Bool) → (b && false) ≡ false
and_no b = grind arith

-- a note that isn't of the kind
pub passed_over : {X : Type 0} (g : NotedFrame → X) (q : NotedFrame → Bool) (a since : ℕ) (n : NotedFrame) (notes : List NotedFrame) → q n ≡ false
    → trace g q a (Some since) (n ∷ notes) ≡ trace g q a (Some since) notes
passed_over g q a since n notes e = rw (e, and_no (is_since a since n)) refl

not_since : (i index : ℕ) → index < i → nat_le i index ≡ false
not_since i index h = lt-leb i index h

pub none_of : (a i : ℕ) (q : NotedFrame → Bool) (n : NotedFrame) → n.index < i → (is_since a i n && q n) ≡ false
none_of a i q n h = rw (not_since i n.index h, and_no (n.parts.source == a)) refl

-- none is since an entry that comes after all
nothing_since : (a i : ℕ) (q : NotedFrame → Bool) (notes : List NotedFrame) → AreBelow i notes → filter (λ n. is_since a i n && q n) notes ≡ []
nothing_since a i q [] h = refl
nothing_since a i q (n ∷ notes) h = rw (none_of a i q n h.0) (nothing_since a i q notes h.1)

-- since which entry a source holds its address, before and after an entry of this index
pub data Moved (lost : Bool) (i : ℕ) (before after : Option ℕ) : Type 0 where
  stays : lost ≡ false → after ≡ before → Moved lost i before after
  begins : (after ≡ Some i) ⊎ (after ≡ None) → (lost ≡ true) ⊎ (before ≡ None) → Moved lost i before after

module _ {X : Type 0} (g : NotedFrame → X) (q : NotedFrame → Bool) (a i : ℕ) (n : NotedFrame) (notes : List NotedFrame) (below : AreBelow i notes) (other : q n ≡ false) where
  nothing_after : (after : Option ℕ) → (after ≡ Some i) ⊎ (after ≡ None) → trace g q a after (n ∷ notes) ≡ []
  nothing_after after h = grind (arith, passed_over, nothing_since)

  same_after : (since : Option ℕ) → trace g q a since (n ∷ notes) ≡ trace g q a since notes
  same_after since = grind (arith, passed_over)

  nothing_before : (lost : Bool) (before : Option ℕ) → (lost ≡ true) ⊎ (before ≡ None) → (if lost then [] else trace g q a before notes) ≡ []
  nothing_before lost before h = grind arith

  pub moved_trace : (lost : Bool) (before after : Option ℕ) → Moved lost i before after → trace g q a after (n ∷ notes) ≡ (if lost then [] else trace g q a before notes)
  moved_trace lost before after h = grind (arith, same_after, nothing_after, nothing_before)
