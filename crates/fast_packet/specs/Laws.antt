-- What is promised of the frames of one message.
use Rattle.std.specs.Prelude.{◌≡◌, ℕ, true, List, length, map, reverse, Some}
use Rattle.std.specs.List.{AllByRecursion}
use Rattle.slot_views.specs.Runs.{is_whole, accepted}
use Rattle.fast_packet.specs.FastRuns.{sequence_of, FastPiece, fast_rules, payload}

-- the frames as they come one after another within a moment, the newest first
abbrev pub pieces_of : List (List ℕ) → List FastPiece
pieces_of frames = reverse (map (λ f. record { moment = 0; bytes = f; admitted = true }) frames)

-- the frames are a run of the payload, none of them a repeat, each of 8 bytes, with that sequence
pub record IsRunOf (sequence : ℕ) (p : List ℕ) (frames : List (List ℕ)) : Type 0 where
  pub run : accepted fast_rules (pieces_of frames) ≡ Some (pieces_of frames)
  pub whole : is_whole fast_rules (pieces_of frames) ≡ true
  pub carries : payload (pieces_of frames) ≡ p
  pub sequence_is : AllByRecursion (λ f. (sequence_of f ≡ sequence) × (length f ≡ 8)) frames
