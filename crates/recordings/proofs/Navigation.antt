-- The legs of plotters are said the same with a tick before an entry and without it, where what is overdue at it is.
use Rattle.std.proofs.Common.{◌≡◌, ◌≢◌, ℕ, ◌+◌, ◌*◌, ℤ, Bool, true, false, ◌&&◌, not, List, [], ◌∷◌, ◌++◌, length, map, refl, sym, ap, ◌∙◌, ◌==◌, nat_le, nat_lt, arith}
use Rattle.std.specs.Prelude.{Option, Some, None, filter, is_some, option_map, if◌then◌else◌}
use Rattle.claim_table.specs.Claims.{holder_at}
use Rattle.claim_table.specs.declared.answer.Holder.{Holder}
use Rattle.source_choice.specs.declared.rank.Rank.{Rank}
use Rattle.source_choice.specs.declared.told.Told.{Told}
use Rattle.history.specs.Entries.{Entry, History, moment_of, tick}
use Rattle.history.specs.Known.{Known, held_since, known}
use Rattle.history.specs.Messages.{Message, messages_of}
use Rattle.history.specs.Settings.{Receiver, Settings, is_some_that}
use Rattle.history.specs.Subjects.{holder_rank, is_chosen, is_fresh, is_selected}
use Rattle.bus_listener.specs.Heard.{heard_expired}
use Rattle.navigation.specs.declared.leg.Goal.{Goal}
use Rattle.navigation.specs.Courses.{error_of_stretch, error_said, first_index, from_since, fresh_error, is_any, is_from, is_named_again, last_error, legs_in, stretch, that_hold}
use Rattle.navigation.specs.Legs.{error_in, goal_in, is_error, is_leg, is_same, kind_of, leg_in}
use Rattle.navigation.specs.NavOut.{error_beside, has_voice, is_other_fresh, is_usable, leg_told, lines_said, message_breaks, nav_done, nav_out, nav_receiver, texts_at, texts_in, texts_of}
use Rattle.navigation.specs.NavRule.{NavRule}
use Rattle.navigation.specs.Sentences.{leg_texts}
use Rattle.counted_lines.specs.CountedLines.{posted_of}
use Rattle.recordings.proofs.Places.{closed, closed_order}
use Rattle.recordings.proofs.Renumbered.{holder_as, since_as}
use Rattle.recordings.proofs.Known.{known_without}
use Rattle.recordings.proofs.Noted.{message_as}
use Rattle.recordings.proofs.Messages.{IsApart, MessagesApart, any_as, chosen_as, done_apart, done_without, fresh_as, messages_apart, messages_without, rank_as}
use Rattle.recordings.proofs.Gathered.{ap₃, joined}
use Rattle.recordings.proofs.Listened.{heard_out_without}

-- what is said of a message, or of none
abbrev texts_by : NavRule → List (Option Holder) → List Message → Option Message → List (List ℕ)
texts_by x holders older None = []
texts_by x holders older (Some d) = texts_of x holders older d

other_way : (a b : ℕ) → nat_lt a b ≡ not (nat_le b a)
other_way a b = grind arith

module _ (n : ℕ) where
  abbrev moved : Message → Message
  moved d = message_as (closed n) d

  behind_as : (i j : ℕ) → i ≢ n → nat_lt (closed n i) (closed n j) ≡ nat_lt i j
  behind_as i j apart = other_way (closed n i) (closed n j) ∙ ap not (closed_order n j i apart) ∙ sym (other_way i j)

  -- ---- the messages of an address that hold

  since_of : (source since : ℕ) (older : List Message) → MessagesApart n older
      → filter (is_from source (closed n since)) (map moved older) ≡ map moved (filter (is_from source since) older)
  since_of source since [] apart = refl
  since_of source since (d ∷ older) apart =
      ap (λ b. if (d.source == source) && b then moved d ∷ filter (is_from source (closed n since)) (map moved older) else filter (is_from source (closed n since)) (map moved older))
      (closed_order n since d.index apart.0)
      ∙ by (is_from source since d) (since_of source since older apart.1)
    where
      by : (b : Bool) → filter (is_from source (closed n since)) (map moved older) ≡ map moved (filter (is_from source since) older)
          → (if b then moved d ∷ filter (is_from source (closed n since)) (map moved older) else filter (is_from source (closed n since)) (map moved older))
          ≡ map moved (if b then d ∷ filter (is_from source since) older else filter (is_from source since) older)
      by true rest = ap (λ ds. moved d ∷ ds) rest
      by false rest = rest

  from_as : (source : ℕ) (older : List Message) (since : Option ℕ) → MessagesApart n older
      → from_since source (map moved older) (option_map (closed n) since) ≡ map moved (from_since source older since)
  from_as source older None apart = refl
  from_as source older (Some since) apart = since_of source since older apart

  hold_as : (holders : List (Option Holder)) (older : List Message) (source : ℕ) → MessagesApart n older
      → that_hold (map (holder_as (closed n)) holders) (map moved older) source ≡ map moved (that_hold holders older source)
  hold_as holders older source apart =
      ap (from_since source (map moved older)) (since_as (closed n) holders source) ∙ from_as source older (held_since holders source) apart

  chosen_apart : (p : Message → Bool) (ds : List Message) → MessagesApart n ds → MessagesApart n (filter p ds)
  chosen_apart p [] apart = tt
  chosen_apart p (d ∷ ds) apart = by (p d) (chosen_apart p ds apart.1)
    where
      by : (b : Bool) → MessagesApart n (filter p ds) → MessagesApart n (if b then d ∷ filter p ds else filter p ds)
      by true rest = (apart.0, rest)
      by false rest = rest

  from_apart : (source : ℕ) (older : List Message) (since : Option ℕ) → MessagesApart n older → MessagesApart n (from_since source older since)
  from_apart source older None apart = tt
  from_apart source older (Some since) apart = chosen_apart (is_from source since) older apart

  -- ---- a stretch

  legs_as : (ds : List Message) → legs_in (map moved ds) ≡ map moved (legs_in ds)
  legs_as [] = refl
  legs_as (d ∷ ds) = by (is_leg d) (legs_as ds)
    where
      by : (b : Bool) → legs_in (map moved ds) ≡ map moved (legs_in ds)
          → (if b then moved d ∷ legs_in (map moved ds) else legs_in (map moved ds)) ≡ map moved (if b then d ∷ legs_in ds else legs_in ds)
      by true rest = ap (λ ds. moved d ∷ ds) rest
      by false rest = rest

  stretch_as : (aim : Goal) (legs : List Message) → stretch aim (map moved legs) ≡ map moved (stretch aim legs)
  stretch_as aim [] = refl
  stretch_as aim (d ∷ legs) = by (is_same (goal_in d.payload) aim) (stretch_as aim legs)
    where
      by : (b : Bool) → stretch aim (map moved legs) ≡ map moved (stretch aim legs)
          → (if b then moved d ∷ stretch aim (map moved legs) else []) ≡ map moved (if b then d ∷ stretch aim legs else [])
      by true rest = ap (λ ds. moved d ∷ ds) rest
      by false rest = refl

  stretch_apart : (aim : Goal) (legs : List Message) → MessagesApart n legs → MessagesApart n (stretch aim legs)
  stretch_apart aim [] apart = tt
  stretch_apart aim (d ∷ legs) apart = by (is_same (goal_in d.payload) aim) (stretch_apart aim legs apart.1)
    where
      by : (b : Bool) → MessagesApart n (stretch aim legs) → MessagesApart n (if b then d ∷ stretch aim legs else [])
      by true rest = (apart.0, rest)
      by false rest = tt

  first_as : (i : ℕ) (legs : List Message) → first_index (closed n i) (map moved legs) ≡ closed n (first_index i legs)
  first_as i [] = refl
  first_as i (d ∷ legs) = first_as d.index legs

  first_apart : (i : ℕ) (legs : List Message) → i ≢ n → MessagesApart n legs → first_index i legs ≢ n
  first_apart i [] here apart = here
  first_apart i (d ∷ legs) here apart = first_apart d.index legs apart.0 apart.1

  any_is : (ds : List Message) → is_any (map moved ds) ≡ is_any ds
  any_is [] = refl
  any_is (d ∷ ds) = refl

  named_as : (ds : List Message) (payload : List ℕ) → is_named_again (map moved ds) payload ≡ is_named_again ds payload
  named_as ds payload =
      let aim = goal_in payload in
      ap (λ legs. is_any (stretch aim legs)) (legs_as ds) ∙ ap is_any (stretch_as aim (legs_in ds)) ∙ any_is (stretch aim (legs_in ds))

  -- ---- the error

  error_as : (i : ℕ) (ds : List Message) → i ≢ n → last_error (closed n i) (map moved ds) ≡ option_map moved (last_error i ds)
  error_as i [] apart = refl
  error_as i (d ∷ ds) apart =
      ap (λ b. if is_error d && b then Some (moved d) else last_error (closed n i) (map moved ds)) (behind_as i d.index apart)
      ∙ by (is_error d && nat_lt i d.index) (error_as i ds apart)
    where
      by : (b : Bool) → last_error (closed n i) (map moved ds) ≡ option_map moved (last_error i ds)
          → (if b then Some (moved d) else last_error (closed n i) (map moved ds)) ≡ option_map moved (if b then Some d else last_error i ds)
      by true rest = refl
      by false rest = rest

  of_stretch_as : (ds : List Message) (i : ℕ) (payload : List ℕ) → i ≢ n → MessagesApart n ds
      → error_of_stretch (map moved ds) (closed n i) payload ≡ option_map moved (error_of_stretch ds i payload)
  of_stretch_as ds i payload here apart =
      let aim = goal_in payload in
      let legs = stretch aim (legs_in ds) in
      ap (λ legs. last_error (first_index (closed n i) (stretch aim legs)) (map moved ds)) (legs_as ds)
      ∙ ap (λ legs. last_error (first_index (closed n i) legs) (map moved ds)) (stretch_as aim (legs_in ds))
      ∙ ap (λ i. last_error i (map moved ds)) (first_as i legs)
      ∙ error_as (first_index i legs) ds (first_apart i legs here (stretch_apart aim (legs_in ds) (chosen_apart is_leg ds apart)))

  said_as : (timeout m : ℕ) (o : Option Message) → error_said (fresh_error timeout m (option_map moved o)) ≡ error_said (fresh_error timeout m o)
  said_as timeout m None = refl
  said_as timeout m (Some d) = by (nat_le m (d.moment + 1000 * timeout))
    where
      by : (b : Bool) → error_said (if b then Some (moved d) else None) ≡ error_said (if b then Some d else None)
      by true = refl
      by false = refl

  -- ---- what is said of a message

  module _ (x : NavRule) (holders : List (Option Holder)) (older : List Message) (apart : MessagesApart n older) where
    abbrev holders_then : List (Option Holder)
    holders_then = map (holder_as (closed n)) holders

    abbrev older_then : List Message
    older_then = map moved older

    selected_of : (d : Message) (t : Option Told)
        → is_some_that (is_chosen leg_told (λ subject. x.taken) holders_then older_then (moved d)) t ≡ is_some_that (is_chosen leg_told (λ subject. x.taken) holders older d) t
    selected_of d None = refl
    selected_of d (Some t) = chosen_as leg_told n (λ y. refl) (λ subject. x.taken) holders older d t apart

    other_as : (d : Message) → is_other_fresh x holders_then older_then (moved d) ≡ is_other_fresh x holders older d
    other_as d =
        any_as leg_told n (λ y. refl)
        (λ a. not (a == d.source) && (is_some (holder_rank x.taken (holder_at holders_then a)) && is_fresh leg_told x.taken holders_then 0 a d.moment older_then))
        (λ a. not (a == d.source) && (is_some (holder_rank x.taken (holder_at holders a)) && is_fresh leg_told x.taken holders 0 a d.moment older))
        older
        (λ a.
        ap (λ (rank : Option Rank). not (a == d.source) && (is_some rank && is_fresh leg_told x.taken holders_then 0 a d.moment older_then)) (rank_as leg_told n (λ y. refl) x.taken holders a)
        ∙ ap (λ fresh. not (a == d.source) && (is_some (holder_rank x.taken (holder_at holders a)) && fresh)) (fresh_as leg_told n (λ y. refl) x.taken holders 0 a d.moment older apart))

    voice_as : (d : Message) → has_voice x holders_then older_then (moved d) ≡ has_voice x holders older d
    voice_as d =
        ap (λ ds. if is_usable (leg_in d.payload) then is_named_again ds d.payload else not (is_other_fresh x holders_then older_then (moved d))) (hold_as holders older d.source apart)
        ∙ ap (λ b. if is_usable (leg_in d.payload) then b else not (is_other_fresh x holders_then older_then (moved d))) (named_as (that_hold holders older d.source) d.payload)
        ∙ ap (λ b. if is_usable (leg_in d.payload) then is_named_again (that_hold holders older d.source) d.payload else not b) (other_as d)

    beside_as : (d : Message) → d.index ≢ n → error_said (error_beside x holders_then older_then (moved d)) ≡ error_said (error_beside x holders older d)
    beside_as d here =
        let held = that_hold holders older d.source in
        ap (λ ds. error_said (fresh_error x.taken.timeout d.moment (error_of_stretch ds (closed n d.index) d.payload))) (hold_as holders older d.source apart)
        ∙ ap (λ o. error_said (fresh_error x.taken.timeout d.moment o)) (of_stretch_as held d.index d.payload here (from_apart d.source older (held_since holders d.source) apart))
        ∙ said_as x.taken.timeout d.moment (error_of_stretch held d.index d.payload)

    texts_as : (o : Option Message) → IsApart n o → texts_by x holders_then older_then (option_map moved o) ≡ texts_by x holders older o
    texts_as None here = refl
    texts_as (Some d) here =
        ap₃ (λ (selected voice : Bool) (error : Option ℤ). if selected && voice then leg_texts x.talker (leg_in d.payload) error else [])
        (selected_of d (leg_told d)) (voice_as d) (beside_as d here)

-- ---- over all that came

breaks_as : (f : ℕ → ℕ) (d : Option Message) → message_breaks (option_map (message_as f) d) ≡ message_breaks d
breaks_as f None = refl
breaks_as f (Some d) = refl

module _ (x : NavRule) (c : Settings) (s : ℕ) where
  texts_is : (h : History) (o : Option Message) → texts_in x c s h o ≡ texts_by x (known (nav_receiver x c) s h).claims.holders (messages_of (nav_receiver x c) s h) o
  texts_is h None = refl
  texts_is h (Some d) = refl

module _ (x : NavRule) (c : Settings) (s m : ℕ) (h : History) where
  abbrev r : Receiver
  r = nav_receiver x c

  texts_without : (newer : History) (e : Entry) → texts_at x c s (newer ++ h) e ≡ texts_at x c s (newer ++ tick m ∷ h) e
  texts_without newer e =
      let with_it = newer ++ tick m ∷ h in
      texts_is x c s (newer ++ h) (nav_done x c s (newer ++ h) e)
      ∙ ap₃ (λ (k : Known) (older : List Message) (d : Option Message). texts_by x k.claims.holders older d)
      (known_without r s m h newer) (messages_without r s m h newer) (done_without r s m h newer e)
      ∙ texts_as (length h) x (known r s with_it).claims.holders (messages_of r s with_it) (messages_apart r s m h newer) (nav_done x c s with_it e) (done_apart r s m h newer e)
      ∙ sym (texts_is x c s with_it (nav_done x c s with_it e))

  lines_without : (newer : History) → lines_said x c s (newer ++ h) ≡ lines_said x c s (newer ++ tick m ∷ h)
  lines_without [] = by (lines_said x c s h)
    where
      by : (n : ℕ) → n ≡ n + 0
      by n = omega arith
  lines_without (e ∷ newer) =
      ap (λ (texts : List (List ℕ)). lines_said x c s (newer ++ h) + length texts) (texts_without newer e)
      ∙ ap (λ (before : ℕ). before + length (texts_at x c s (newer ++ tick m ∷ h) e)) (lines_without newer)

  pub nav_without : (newer : History) (e : Entry)
      → heard_expired kind_of x.slots c s (newer ++ h) (moment_of e) ≡ heard_expired kind_of x.slots c s (newer ++ tick m ∷ h) (moment_of e)
      → nav_out x c s (newer ++ h) e ≡ nav_out x c s (newer ++ tick m ∷ h) e
  nav_without newer e overdue =
      let with_it = newer ++ tick m ∷ h in
      joined (heard_out_without kind_of x.slots c s m h newer e overdue)
      (joined (ap message_breaks (done_without r s m h newer e) ∙ breaks_as (closed (length h)) (nav_done x c s with_it e))
      (ap (λ (before : ℕ). posted_of x.group c.sfi before (texts_at x c s (newer ++ h) e)) (lines_without newer)
      ∙ ap (posted_of x.group c.sfi (lines_said x c s with_it)) (texts_without newer e)))
