-- What is noted of a frame.
use Rattle.std.proofs.Common.{◌≡◌, ℕ, ◌<◌, [], ◌∷◌, ◌++◌, length, refl, ◌==◌, arith}
use Rattle.std.specs.Prelude.{find, Some}
use Rattle.std.proofs.lemmas.Bool.{eq-eqb, ne_eqb}
use Rattle.n2k_id.specs.Frame.{BusFrame}
use Rattle.history.specs.Entries.{Entry, History, frame, datagram, tick, command}
use Rattle.history.specs.Settings.{Receiver}
use Rattle.history.specs.Known.{known}
use Rattle.history.specs.Traces.{NotedFrame}
use Rattle.history.specs.Opens.{note_of, notes_of}
use Rattle.history.specs.NoteLaws.{FramesAreNoted}

longer : (newer : History) (e : Entry) (older : History) → length older < length (newer ++ e ∷ older)
longer [] e older = omega arith
longer (x ∷ newer) e older = let more = longer newer e older in omega (arith, more)

module _ (r : Receiver) (s : ℕ) (older : History) (m : ℕ) (f : BusFrame) where
  abbrev one : NotedFrame
  one = note_of r (length older) (known r s older) (notes_of r s older) m f

  there : (newer : History) → find (λ n. n.index == length older) (notes_of r s (newer ++ frame m f ∷ older)) ≡ Some one
  there [] = rw (eq-eqb (length older) (length older) refl) refl
  there (frame i g ∷ newer) = grind (arith, there newer, ne_eqb, longer)
  there (datagram i bytes ∷ newer) = there newer
  there (tick i ∷ newer) = there newer
  there (command i source address ∷ newer) = there newer

pub frames_are_noted : FramesAreNoted
frames_are_noted r s newer older m f = record {
  note = one r s older m f;
  there = there r s older m f newer;
  moment = refl;
  parts = refl;
  bytes = refl;
  ready = refl;
  admitted = refl;
}
