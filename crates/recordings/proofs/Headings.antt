-- Joined headings are the same with a tick before an entry and without it, where what is overdue at it is.
use Rattle.std.proofs.Common.{◌≡◌, ◌≢◌, ℕ, ◌+◌, suc, ◌<◌, List, [], ◌∷◌, ◌++◌, length, map, refl, sym, ap, ◌∙◌, arith}
use Rattle.std.specs.Prelude.{Option, Some, None, option_map, if◌then◌else◌}
use Rattle.claim_table.specs.declared.answer.Holder.{Holder}
use Rattle.source_choice.specs.declared.told.Told.{Told}
use Rattle.readings.specs.declared.reading.Reading.{Reading}
use Rattle.readings.specs.declared.rows.Row.TheVariants as row
use Rattle.history.specs.Choice.{is_usable}
use Rattle.history.specs.Entries.{Entry, History, moment_of, tick}
use Rattle.history.specs.Known.{Known, known}
use Rattle.history.specs.Messages.{Message, messages_of}
use Rattle.history.specs.Settings.{Receiver, Settings, is_some_that, receiver_of, rule_of}
use Rattle.history.specs.Subjects.{is_chosen, is_selected}
use Rattle.gate_core.specs.Selected.{Selected, newer as newest, selected_at, selected_with}
use Rattle.joined_rmc.specs.Lasting.{said_within, still_held}
use Rattle.joined_rmc.specs.RmcOut.{variation_in}
use Rattle.bus_listener.specs.Heard.{heard_expired}
use Rattle.joined_heading.specs.HeadingOut.{heading_out, is_measured, lines_said, magnetic_in, message_breaks, texts_at, texts_of}
use Rattle.counted_lines.specs.CountedLines.{posted_of}
use Rattle.joined_heading.specs.HeadingRule.{HeadingRule}
use Rattle.joined_heading.specs.Variations.{chosen_variation, kind_of, last_variation, lasting_variation, variation_alone, variation_at, variation_done, variation_of, variation_receiver, variation_told}
use Rattle.recordings.proofs.Places.{apart_from, closed}
use Rattle.recordings.proofs.Renumbered.{holder_as}
use Rattle.recordings.proofs.Known.{known_without}
use Rattle.recordings.proofs.Lasting.{IsWhere, done_where, last_stays, lasting_without, newer_as, newer_where, selected_as, selected_without, still_as, weaker, with_as, within_as}
use Rattle.recordings.proofs.Noted.{message_as}
use Rattle.recordings.proofs.Messages.{MessagesApart, chosen_as, done_without, messages_apart, messages_without}
use Rattle.recordings.proofs.Gathered.{ap₃, joined}
use Rattle.recordings.proofs.Listened.{heard_out_without}

-- ---- what a message says, where it is selected

abbrev chosen_by : HeadingRule → List (Option Holder) → List Message → Option Message → Option Reading
chosen_by x holders older None = None
chosen_by x holders older (Some d) =
    if is_selected variation_told (λ subject. x.taken) holders older d then Some (variation_alone (variation_of d.payload)) else None

chosen_is : (x : HeadingRule) (c : Settings) (s : ℕ) (h : History) (d : Option Message)
    → chosen_variation x c s h d ≡ chosen_by x (known (variation_receiver c) s h).claims.holders (messages_of (variation_receiver c) s h) d
chosen_is x c s h None = refl
chosen_is x c s h (Some d) = refl

module _ (x : HeadingRule) (n : ℕ) (holders : List (Option Holder)) (older : List Message) (apart : MessagesApart n older) where
  selected_of : (d : Message) (t : Option Told)
      → is_some_that (is_chosen variation_told (λ subject. x.taken) (map (holder_as (closed n)) holders) (map (message_as (closed n)) older) (message_as (closed n) d)) t
      ≡ is_some_that (is_chosen variation_told (λ subject. x.taken) holders older d) t
  selected_of d None = refl
  selected_of d (Some t) = chosen_as variation_told n (λ y. refl) (λ subject. x.taken) holders older d t apart

  chosen_by_as : (d : Option Message)
      → chosen_by x (map (holder_as (closed n)) holders) (map (message_as (closed n)) older) (option_map (message_as (closed n)) d) ≡ chosen_by x holders older d
  chosen_by_as None = refl
  chosen_by_as (Some d) = ap (λ b. if b then Some (variation_alone (variation_of d.payload)) else None) (selected_of d (variation_told d))

breaks_as : (f : ℕ → ℕ) (d : Option Message) → message_breaks (option_map (message_as f) d) ≡ message_breaks d
breaks_as f None = refl
breaks_as f (Some d) = refl

magnetic_as : (f : ℕ → ℕ) (y : Option Selected) → magnetic_in (option_map (selected_as f) y) ≡ magnetic_in y
magnetic_as f None = refl
magnetic_as f (Some y) = refl

-- the last variation of a history is by one of its entries
last_under : (x : HeadingRule) (c : Settings) (s : ℕ) (h : History) → IsWhere (λ i. i < length h) (last_variation x c s h)
last_under x c s [] = tt
last_under x c s (e ∷ h) =
    newer_where (λ i. i < suc (length h)) row.HeadingMagnetic (variation_at x c s h e) (last_variation x c s h)
    (done_where (λ i. i < suc (length h)) (variation_receiver c) s h e (chosen_variation x c s h (variation_done x c s h e)) (omega arith))
    (weaker (λ i. i < length h) (λ i. i < suc (length h)) (last_variation x c s h) (λ i lt. omega (arith, lt)) (last_under x c s h))

module _ (x : HeadingRule) (c : Settings) (s m : ℕ) (h : History) where
  abbrev r : Receiver
  r = variation_receiver c

  chosen_without : (newer : History) (e : Entry)
      → chosen_variation x c s (newer ++ h) (variation_done x c s (newer ++ h) e)
      ≡ chosen_variation x c s (newer ++ tick m ∷ h) (variation_done x c s (newer ++ tick m ∷ h) e)
  chosen_without newer e =
      let with_it = newer ++ tick m ∷ h in
      chosen_is x c s (newer ++ h) (variation_done x c s (newer ++ h) e)
      ∙ ap₃ (λ (k : Known) (older : List Message) (d : Option Message). chosen_by x k.claims.holders older d)
      (known_without r s m h newer) (messages_without r s m h newer) (done_without r s m h newer e)
      ∙ chosen_by_as x (length h) (known r s with_it).claims.holders (messages_of r s with_it) (messages_apart r s m h newer) (variation_done x c s with_it e)
      ∙ sym (chosen_is x c s with_it (variation_done x c s with_it e))

  at_without : (newer : History) (e : Entry) → variation_at x c s (newer ++ h) e ≡ option_map (selected_as (closed (length h))) (variation_at x c s (newer ++ tick m ∷ h) e)
  at_without newer e =
      let with_it = newer ++ tick m ∷ h in
      ap (selected_with (variation_done x c s (newer ++ h) e)) (chosen_without newer e)
      ∙ ap (λ d. selected_with d (chosen_variation x c s with_it (variation_done x c s with_it e))) (done_without r s m h newer e)
      ∙ with_as (closed (length h)) (variation_done x c s with_it e) (chosen_variation x c s with_it (variation_done x c s with_it e))

  last_without : (newer : History) → last_variation x c s (newer ++ h) ≡ option_map (selected_as (closed (length h))) (last_variation x c s (newer ++ tick m ∷ h))
  last_without [] = sym (last_stays (length h) (last_variation x c s h) (last_under x c s h))
  last_without (e ∷ newer) =
      ap (λ (y : Option Selected). newest row.HeadingMagnetic y (last_variation x c s (newer ++ h))) (at_without newer e)
      ∙ ap (newest row.HeadingMagnetic (option_map (selected_as (closed (length h))) (variation_at x c s (newer ++ tick m ∷ h) e))) (last_without newer)
      ∙ newer_as (closed (length h)) row.HeadingMagnetic (variation_at x c s (newer ++ tick m ∷ h) e) (last_variation x c s (newer ++ tick m ∷ h))

  last_apart : (newer : History) → IsWhere (λ i. i ≢ length h) (last_variation x c s (newer ++ tick m ∷ h))
  last_apart [] = weaker (λ i. i < length h) (λ i. i ≢ length h) (last_variation x c s h) (λ i lt same. omega (arith, lt, same)) (last_under x c s h)
  last_apart (e ∷ newer) =
      let with_it = newer ++ tick m ∷ h in
      newer_where (λ i. i ≢ length h) row.HeadingMagnetic (variation_at x c s with_it e) (last_variation x c s with_it)
      (done_where (λ i. i ≢ length h) r s with_it e (chosen_variation x c s with_it (variation_done x c s with_it e)) (apart_from newer m h)) (last_apart newer)

  variation_without : (newer : History) (t : ℕ) → lasting_variation x c s (newer ++ h) t ≡ lasting_variation x c s (newer ++ tick m ∷ h) t
  variation_without newer t =
      let with_it = newer ++ tick m ∷ h in
      let timeout = x.taken.timeout in
      ap (λ (k : Known). said_within timeout t (still_held k.claims.holders (last_variation x c s (newer ++ h)))) (known_without (receiver_of c) s m h newer)
      ∙ ap (λ (y : Option Selected). said_within timeout t (still_held (map (holder_as (closed (length h))) (known (receiver_of c) s with_it).claims.holders) y))
      (last_without newer)
      ∙ ap (said_within timeout t) (still_as (length h) (known (receiver_of c) s with_it).claims.holders (last_variation x c s with_it) (last_apart newer))
      ∙ within_as (closed (length h)) timeout t (still_held (known (receiver_of c) s with_it).claims.holders (last_variation x c s with_it))

  -- ---- what is said

  measured_without : (newer : History) (t : ℕ) → is_measured c s (newer ++ h) t ≡ is_measured c s (newer ++ tick m ∷ h) t
  measured_without newer t = ap is_usable (lasting_without c s m h newer (rule_of c row.HeadingTrue).timeout row.HeadingTrue t)

  texts_without : (newer : History) (e : Entry) → texts_at x c s (newer ++ h) e ≡ texts_at x c s (newer ++ tick m ∷ h) e
  texts_without newer e =
      ap₃ (texts_of x) (measured_without (e ∷ newer) (moment_of e)) (ap variation_in (variation_without (e ∷ newer) (moment_of e)))
      (ap magnetic_in (selected_without c s m h newer e) ∙ magnetic_as (closed (length h)) (selected_at c s (newer ++ tick m ∷ h) e))

  lines_without : (newer : History) → lines_said x c s (newer ++ h) ≡ lines_said x c s (newer ++ tick m ∷ h)
  lines_without [] = by (lines_said x c s h)
    where
      by : (n : ℕ) → n ≡ n + 0
      by n = omega arith
  lines_without (e ∷ newer) =
      ap (λ (texts : List (List ℕ)). lines_said x c s (newer ++ h) + length texts) (texts_without newer e)
      ∙ ap (λ (before : ℕ). before + length (texts_at x c s (newer ++ tick m ∷ h) e)) (lines_without newer)

  pub heading_without : (newer : History) (e : Entry)
      → heard_expired kind_of 0 c s (newer ++ h) (moment_of e) ≡ heard_expired kind_of 0 c s (newer ++ tick m ∷ h) (moment_of e)
      → heading_out x c s (newer ++ h) e ≡ heading_out x c s (newer ++ tick m ∷ h) e
  heading_without newer e overdue =
      let with_it = newer ++ tick m ∷ h in
      joined (heard_out_without kind_of 0 c s m h newer e overdue)
      (joined (ap message_breaks (done_without r s m h newer e) ∙ breaks_as (closed (length h)) (variation_done x c s with_it e))
      (ap (λ (before : ℕ). posted_of x.group c.sfi before (texts_at x c s (newer ++ h) e)) (lines_without newer)
      ∙ ap (posted_of x.group c.sfi (lines_said x c s with_it)) (texts_without newer e)))
