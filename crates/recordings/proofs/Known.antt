-- What is known of the addresses is the same with a tick and without it, but for the places of entries.
use Rattle.std.proofs.Common.{◌≡◌, ℕ, [], ◌∷◌, ◌++◌, length, sym, ap, ◌∙◌}
use Rattle.history.specs.Entries.{History, tick}
use Rattle.history.specs.Known.{Known, known, known_after}
use Rattle.history.specs.Settings.{Receiver}
use Rattle.recordings.proofs.Places.{closed, place_of}
use Rattle.recordings.proofs.Renumbered.{known_as, after_as}
use Rattle.recordings.proofs.Dated.{known_stays}

module _ (r : Receiver) (s m : ℕ) (h : History) where
  pub known_without : (newer : History) → known r s (newer ++ h) ≡ known_as (closed (length h)) (known r s (newer ++ tick m ∷ h))
  known_without [] = sym (known_stays r s h)
  known_without (e ∷ newer) =
      ap (λ (k : Known). known_after (length (newer ++ h)) k e) (known_without newer)
      ∙ ap (λ (i : ℕ). known_after i (known_as (closed (length h)) (known r s (newer ++ tick m ∷ h))) e) (sym (place_of newer m h))
      ∙ after_as (closed (length h)) (length (newer ++ tick m ∷ h)) (known r s (newer ++ tick m ∷ h)) e
