-- What is noted of a frame is what the history before it says.
use Rattle.std.specs.Prelude.{◌≡◌, ℕ, ◌==◌, ◌∷◌, ◌++◌, length, find, Some}
use Rattle.n2k_id.specs.Frame.{BusFrame}
use Rattle.n2k_id.specs.Identifier.{parts_of}
use Rattle.claim_table.specs.Claims.{is_ready}
use Rattle.history.specs.Entries.{History, frame}
use Rattle.history.specs.Settings.{Receiver}
use Rattle.history.specs.Known.{known}
use Rattle.history.specs.Traces.{NotedFrame}
use Rattle.history.specs.Opens.{is_frame_admitted, notes_of}

-- of a frame among the entries of a history, the notes hold one of its index, whatever came later: whether the receiver was ready, and
-- whether the frame found room, by the history before it
pub record IsNoted (r : Receiver) (s : ℕ) (newer older : History) (m : ℕ) (f : BusFrame) : Type 0 where
  pub note : NotedFrame
  pub there : find (λ n. n.index == length older) (notes_of r s (newer ++ frame m f ∷ older)) ≡ Some note
  pub moment : note.moment ≡ m
  pub parts : note.parts ≡ parts_of f.id
  pub bytes : note.bytes ≡ f.held
  pub ready : note.ready ≡ is_ready (known r s older).claims m
  pub admitted : note.admitted ≡ is_frame_admitted r (known r s older) (notes_of r s older) (parts_of f.id) m

abbrev pub FramesAreNoted : Type 0
FramesAreNoted = (r : Receiver) (s : ℕ) (newer older : History) (m : ℕ) (f : BusFrame) → IsNoted r s newer older m f
