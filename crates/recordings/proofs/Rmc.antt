-- RMC, and a change of the device that a row is taken from, are the same with a tick before an entry and without it.
use Rattle.std.proofs.Common.{◌≡◌, ℕ, ◌+◌, [], ◌∷◌, ◌++◌, length, refl, ap, ◌∙◌}
use Rattle.std.specs.Prelude.{Bool, Option, Some, None, option_map, if◌then◌else◌}
use Rattle.readings.specs.Rows.{row_of}
use Rattle.readings.specs.declared.reading.Reading.{Reading}
use Rattle.readings.specs.declared.rows.Row.TheVariants as row
use Rattle.history.specs.Entries.{Entry, History, moment_of, tick}
use Rattle.history.specs.Settings.{Settings}
use Rattle.gate_core.specs.Selected.{Selected, last_of, selected_at}
use Rattle.joined_rmc.specs.Lasting.{is_due}
use Rattle.joined_rmc.specs.RmcOut.{RmcRule, datagram_by, joined_in, lines_before, minimum, minimum_of, rmc_datagram, rmc_out, sent_to, timeout_of}
use Rattle.source_changes.specs.SourceOut.{change_from, changed, source_out, told}
use Rattle.recordings.proofs.Places.{closed}
use Rattle.recordings.proofs.Lasting.{last_without, lasting_without, selected_as, selected_without}
use Rattle.recordings.proofs.Gathered.{ap₃}

-- ---- RMC

due_as : (f : ℕ → ℕ) (x : Option Selected) → is_due (option_map (selected_as f) x) ≡ is_due x
due_as f None = refl
due_as f (Some x) = refl

module _ (r : RmcRule) (c : Settings) (s m : ℕ) (h : History) where
  due_without : (newer : History) (e : Entry) → is_due (selected_at c s (newer ++ h) e) ≡ is_due (selected_at c s (newer ++ tick m ∷ h) e)
  due_without newer e = ap is_due (selected_without c s m h newer e) ∙ due_as (closed (length h)) (selected_at c s (newer ++ tick m ∷ h) e)

  lines_without : (newer : History) → lines_before r c s (newer ++ h) ≡ lines_before r c s (newer ++ tick m ∷ h)
  lines_without [] = refl
  lines_without (e ∷ newer) =
      ap (λ (b : Bool). if b then lines_before r c s (newer ++ h) + 1 else lines_before r c s (newer ++ h)) (due_without newer e)
      ∙ ap (λ (before : ℕ). if is_due (selected_at c s (newer ++ tick m ∷ h) e) then before + 1 else before) (lines_without newer)

  minimum_without : (newer : History) (t : ℕ) → minimum r c s (newer ++ h) t ≡ minimum r c s (newer ++ tick m ∷ h) t
  minimum_without newer t =
      let with_it = newer ++ tick m ∷ h in
      ap₃ (λ (time position motion : Option Reading). minimum_of time position motion (joined_in r c s row.HeadingMagnetic (newer ++ h) t))
      (lasting_without c s m h newer (timeout_of r.timeouts row.Time) row.Time t)
      (lasting_without c s m h newer (timeout_of r.timeouts row.Position) row.Position t)
      (lasting_without c s m h newer (timeout_of r.timeouts row.CourseSpeed) row.CourseSpeed t)
      ∙ ap (λ (heading : Option Reading).
      minimum_of (joined_in r c s row.Time with_it t) (joined_in r c s row.Position with_it t) (joined_in r c s row.CourseSpeed with_it t) heading)
      (lasting_without c s m h newer (timeout_of r.timeouts row.HeadingMagnetic) row.HeadingMagnetic t)

  datagram_without : (newer : History) (e : Entry) → rmc_datagram r c s (newer ++ h) e ≡ rmc_datagram r c s (newer ++ tick m ∷ h) e
  datagram_without newer e =
      let with_it = newer ++ tick m ∷ h in
      ap (λ (b : Bool). if b then Some (datagram_by r.sfi r.talker (lines_before r c s (newer ++ h)) (minimum r c s (e ∷ newer ++ h) (moment_of e))) else None)
      (due_without newer e)
      ∙ ap (λ (before : ℕ). if is_due (selected_at c s with_it e) then Some (datagram_by r.sfi r.talker before (minimum r c s (e ∷ newer ++ h) (moment_of e))) else None)
      (lines_without newer)
      ∙ ap (λ x. if is_due (selected_at c s with_it e) then Some (datagram_by r.sfi r.talker (lines_before r c s with_it) x) else None) (minimum_without (e ∷ newer) (moment_of e))

  pub rmc_without : (newer : History) (e : Entry) → rmc_out r c s (newer ++ h) e ≡ rmc_out r c s (newer ++ tick m ∷ h) e
  rmc_without newer e = ap (sent_to r c s r.group) (datagram_without newer e)

-- ---- a change of the device

change_as : (f : ℕ → ℕ) (before : Option Selected) (x : Selected) → change_from (option_map (selected_as f) before) (selected_as f x) ≡ change_from before x
change_as f None x = refl
change_as f (Some y) x = refl

module _ (c : Settings) (s m : ℕ) (h newer : History) where
  changed_without : (x : Option Selected) → changed c s (newer ++ h) (option_map (selected_as (closed (length h))) x) ≡ changed c s (newer ++ tick m ∷ h) x
  changed_without None = refl
  changed_without (Some x) =
      ap (λ (before : Option Selected). change_from before (selected_as (closed (length h)) x)) (last_without c s m h (row_of x.reading) newer)
      ∙ change_as (closed (length h)) (last_of c s (row_of x.reading) (newer ++ tick m ∷ h)) x

  pub source_without : (e : Entry) → source_out c s (newer ++ h) e ≡ source_out c s (newer ++ tick m ∷ h) e
  source_without e =
      ap (λ (x : Option Selected). told (changed c s (newer ++ h) x)) (selected_without c s m h newer e)
      ∙ ap told (changed_without (selected_at c s (newer ++ tick m ∷ h) e))
