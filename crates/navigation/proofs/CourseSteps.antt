-- The courses of all addresses stand for one more entry: a claim forgets those of the addresses that it takes away, and a message is taken into its source's.
use Rattle.std.proofs.Common.{◌≡◌, ◌≢◌, ℕ, ◌<◌, ◌≤◌, Bool, true, false, ◌&&◌, ◌||◌, List, [], ◌∷◌, ◌⊎◌, inl, inr, length, length-set, Option, Some, None, option_map, refl, sym, ap, subst, ◌∙◌, ◌==◌}
use Rattle.std.specs.Prelude.{IfSome, filter, nat_le, slice_set, if◌then◌else◌}
use Rattle.std.proofs.lemmas.Bool.{eqb-false, eqb-true, le-leb, lt-leb, lt-ltb}
use Rattle.std.proofs.lemmas.List.{get_or-set_other, get_or-set_same}
use Rattle.n2k_id.specs.Frame.{BusFrame}
use Rattle.claim_table.specs.Claims.{claim, holder_at, is_at, places}
use Rattle.claim_table.specs.declared.answer.ClaimStep.{ClaimStep}
use Rattle.claim_table.specs.declared.answer.Holder.{Holder}
use Rattle.gate_core.proofs.Completed.{IsDoneBy, done_by}
use Rattle.gate_model.specs.Addresses.{Changed, changed_by, no_change}
use Rattle.gate_model.specs.AddressStands.{changes_in}
use Rattle.gate_model.proofs.ChoiceClaims.{silent}
use Rattle.gate_model.proofs.SaidAddresses.{claims_fit}
use Rattle.history.specs.AddressLaws.{AreSettings, IsReceiver}
use Rattle.history.specs.Entries.{Entry, History, command, datagram, frame, tick}
use Rattle.history.specs.Known.{Known, address_left, address_won, claim_by, followed_by, held_since, is_claim, known}
use Rattle.history.specs.Messages.{Message, done, messages_of, with_message}
use Rattle.history.specs.Settings.{Receiver, Settings}
use Rattle.history.specs.TraceLaws.{is_lost}
use Rattle.history.proofs.Addresses.{addresses_are_sound}
use Rattle.history.proofs.FreshSteps.{AreBelow, below}
use Rattle.history.proofs.KeySteps.{dated_at, known_same}
use Rattle.history.proofs.Moves.{Moved, begins, stays}
use Rattle.history.proofs.TraceMoves.{commanded_holders, known_after_claim, moved_since}
use Rattle.bus_listener.proofs.KnownLemmas.{is_receiver}
use Rattle.navigation.specs.declared.course.Course.{Course}
use Rattle.navigation.specs.Courses.{from_since, is_from, that_hold}
use Rattle.navigation.specs.Kept.{course_at, course_forgotten, courses_forgotten, no_course, with_error, with_leg}
use Rattle.navigation.specs.Legs.{goal_in, is_error, is_leg, kind_of}
use Rattle.navigation.specs.NavKinds.{plotters_are_heard}
use Rattle.navigation.specs.NavOut.{holders_at, nav_receiver}
use Rattle.navigation.specs.NavRule.{NavRule}
use Rattle.navigation.specs.Promises.{StandsCourses, as_error, course_of}
use Rattle.navigation.proofs.CourseLists.{after_error, after_leg, after_other}

-- ---- the messages of an address that hold

none_from : (source i : ℕ) (older : List Message) → AreBelow i older → filter (is_from source i) older ≡ []
none_from source i [] below = refl
none_from source i (d ∷ older) below =
    ap (λ b. if (d.source == source) && b then d ∷ filter (is_from source i) older else filter (is_from source i) older) (lt-leb i d.index below.0)
    ∙ by (d.source == source) ∙ none_from source i older below.1
  where
    by : (b : Bool) → (if b && false then d ∷ filter (is_from source i) older else filter (is_from source i) older) ≡ filter (is_from source i) older
    by true = refl
    by false = refl

abbrev nothing : List Message
nothing = []

either_nothing : (b : Bool) → nothing ≡ (if b then nothing else nothing)
either_nothing true = refl
either_nothing false = refl

moved_from : (source i : ℕ) (older : List Message) → AreBelow i older → (lost : Bool) (before after : Option ℕ) → Moved lost i before after
    → from_since source older after ≡ (if lost then [] else from_since source older before)
moved_from source i older below lost before after (stays kept same) =
    ap (from_since source older) same ∙ sym (ap (λ b. if b then [] else from_since source older before) kept)
moved_from source i older below lost before after (begins new gone) = from_new after new ∙ to_gone gone
  where
    from_new : (after : Option ℕ) → (after ≡ Some i) ⊎ (after ≡ None) → from_since source older after ≡ nothing
    from_new after (inl some) = ap (from_since source older) some ∙ none_from source i older below
    from_new after (inr none) = ap (from_since source older) none

    to_gone : (lost ≡ true) ⊎ (before ≡ None) → nothing ≡ (if lost then [] else from_since source older before)
    to_gone (inl is) = sym (ap (λ b. if b then [] else from_since source older before) is)
    to_gone (inr none) = either_nothing lost ∙ sym (ap (λ o. if lost then [] else from_since source older o) none)

-- those of an address are below an index where all are
from_below : (n source : ℕ) (older : List Message) (since : Option ℕ) → AreBelow n older → AreBelow n (from_since source older since)
from_below n source older None all = tt
from_below n source [] (Some since) all = tt
from_below n source (d ∷ older) (Some since) all = by (is_from source since d) (from_below n source older (Some since) all.1)
  where
    by : (b : Bool) → AreBelow n (filter (is_from source since) older) → AreBelow n (if b then d ∷ filter (is_from source since) older else filter (is_from source since) older)
    by true rest = (all.0, rest)
    by false rest = rest

pub held_below : (n : ℕ) (holders : List (Option Holder)) (older : List Message) (source : ℕ) → AreBelow n older → AreBelow n (that_hold holders older source)
held_below n holders older source all = from_below n source older (held_since holders source) all

-- one message more, of the holder of its source
module _ (holders : List (Option Holder)) (older : List Message) (d : Message) (holder : Holder) (held : holder_at holders d.source ≡ Some holder)
    (dated : holder.since ≤ d.index) where
  newest_of : (a : ℕ) → (d.source == a) ≡ true → that_hold holders (d ∷ older) a ≡ d ∷ that_hold holders older a
  newest_of a same =
      let since : held_since holders a ≡ Some holder.since =
      ap (held_since holders) (sym (eqb-true d.source a same)) ∙ ap (option_map (λ (x : Holder). x.since)) held in
      ap (from_since a (d ∷ older)) since
      ∙ ap (λ b. if b && nat_le holder.since d.index then d ∷ filter (is_from a holder.since) older else filter (is_from a holder.since) older) same
      ∙ ap (λ b. if b then d ∷ filter (is_from a holder.since) older else filter (is_from a holder.since) older) (le-leb holder.since d.index dated)
      ∙ sym (ap (λ o. d ∷ from_since a older o) since)

  others_of : (a : ℕ) → (d.source == a) ≡ false → that_hold holders (d ∷ older) a ≡ that_hold holders older a
  others_of a other = by (held_since holders a)
    where
      by : (since : Option ℕ) → from_since a (d ∷ older) since ≡ from_since a older since
      by None = refl
      by (Some since) = ap (λ b. if b && nat_le since d.index then d ∷ filter (is_from a since) older else filter (is_from a since) older) other

-- ---- the courses of all addresses

abbrev course_with : Message → Course → Course
course_with d course = if is_leg d then with_leg (goal_in d.payload) course else if is_error d then with_error (as_error d) course else course

abbrev pub courses_with : Message → List Course → List Course
courses_with d courses =
    if is_leg d then slice_set courses d.source (with_leg (goal_in d.payload) (course_at courses d.source))
    else if is_error d then slice_set courses d.source (with_error (as_error d) (course_at courses d.source)) else courses

abbrev pub courses_after : Option Message → List Course → List Course
courses_after None courses = courses
courses_after (Some d) courses = courses_with d courses

with_count : (d : Message) (courses : List Course) → length (courses_with d courses) ≡ length courses
with_count d courses = by (is_leg d) (is_error d)
  where
    by : (leg error : Bool) → length (if leg then slice_set courses d.source (with_leg (goal_in d.payload) (course_at courses d.source))
        else if error then slice_set courses d.source (with_error (as_error d) (course_at courses d.source)) else courses) ≡ length courses
    by true error = length-set courses d.source _
    by false true = length-set courses d.source _
    by false false = refl

with_here : (d : Message) (courses : List Course) → d.source < length courses → course_at (courses_with d courses) d.source ≡ course_with d (course_at courses d.source)
with_here d courses within = by (is_leg d) (is_error d)
  where
    by : (leg error : Bool) → course_at (if leg then slice_set courses d.source (with_leg (goal_in d.payload) (course_at courses d.source))
        else if error then slice_set courses d.source (with_error (as_error d) (course_at courses d.source)) else courses) d.source
        ≡ (if leg then with_leg (goal_in d.payload) (course_at courses d.source)
        else if error then with_error (as_error d) (course_at courses d.source) else course_at courses d.source)
    by true error = get_or-set_same courses d.source _ no_course within
    by false true = get_or-set_same courses d.source _ no_course within
    by false false = refl

with_elsewhere : (d : Message) (courses : List Course) (a : ℕ) → a ≢ d.source → course_at (courses_with d courses) a ≡ course_at courses a
with_elsewhere d courses a other = by (is_leg d) (is_error d)
  where
    by : (leg error : Bool) → course_at (if leg then slice_set courses d.source (with_leg (goal_in d.payload) (course_at courses d.source))
        else if error then slice_set courses d.source (with_error (as_error d) (course_at courses d.source)) else courses) a ≡ course_at courses a
    by true error = get_or-set_other courses d.source a _ no_course other
    by false true = get_or-set_other courses d.source a _ no_course other
    by false false = refl

-- the course by messages, with one more
course_more : (n : ℕ) (messages : List Message) → AreBelow n messages → (d : Message) → d.index ≡ n → course_of (d ∷ messages) ≡ course_with d (course_of messages)
course_more n messages all d newest = by (is_leg d) refl (is_error d) refl
  where
    by : (leg : Bool) → is_leg d ≡ leg → (error : Bool) → is_error d ≡ error
        → course_of (d ∷ messages) ≡ (if leg then with_leg (goal_in d.payload) (course_of messages)
        else if error then with_error (as_error d) (course_of messages) else course_of messages)
    by true leg error is = after_leg n messages all d newest leg
    by false isnt true is = after_error n messages all d newest isnt is
    by false isnt false is = after_other n messages all d newest isnt is

-- ---- addresses that change hands

forgotten_count : (o : Option ℕ) (courses : List Course) → IfSome o (λ a. a < places) → length (course_forgotten o courses) ≡ length courses
forgotten_count None courses fits = refl
forgotten_count (Some b) courses fits =
    ap (λ t. length (if t then slice_set courses b no_course else courses)) (lt-ltb b places fits) ∙ length-set courses b no_course

forgotten_at : (o : Option ℕ) (courses : List Course) (a : ℕ) → IfSome o (λ b. b < places) → length courses ≡ places
    → course_at (course_forgotten o courses) a ≡ (if is_at a o then no_course else course_at courses a)
forgotten_at None courses a fits count = refl
forgotten_at (Some b) courses a fits count =
    ap (λ t. course_at (if t then slice_set courses b no_course else courses) a) (lt-ltb b places fits) ∙ by (b == a) refl
  where
    by : (t : Bool) → (b == a) ≡ t → course_at (slice_set courses b no_course) a ≡ (if t then no_course else course_at courses a)
    by true same =
        subst (λ x. course_at (slice_set courses b no_course) x ≡ no_course) (eqb-true b a same)
        (get_or-set_same courses b no_course no_course (subst (λ n. b < n) (sym count) fits))
    by false other = get_or-set_other courses b a no_course no_course (λ same. eqb-false b a other (sym same))

either_way : (left won : Bool) (course : Course) → (if won then no_course else if left then no_course else course) ≡ (if left || won then no_course else course)
either_way true true course = refl
either_way true false course = refl
either_way false true course = refl
either_way false false course = refl

-- ---- an entry

module _ (x : NavRule) (c : Settings) (s : ℕ) (h : History) (settings : AreSettings c) where
  abbrev r : Receiver
  r = nav_receiver x c

  are : IsReceiver r
  are = is_receiver kind_of x.slots c plotters_are_heard settings

  abbrev older : List Message
  older = messages_of r s h

  abbrev Stand : History → List Course → Type 0
  Stand h courses = StandsCourses x c s h courses

  -- what the courses are before the message of an entry
  record StandsBefore (e : Entry) (courses : List Course) : Type 0 where
    count : length courses ≡ places
    each : (a : ℕ) → a < places → course_at courses a ≡ course_of (that_hold (holders_at x c s (e ∷ h)) older a)

  module _ (e : Entry) (courses : List Course) (it : StandsBefore e courses) where
    without : done r s h e ≡ None → messages_of r s (e ∷ h) ≡ with_message (done r s h e) older → Stand (e ∷ h) courses
    without none messages = record {
      count = it.count;
      each = λ a within. it.each a within ∙ ap (λ o. course_of (that_hold (holders_at x c s (e ∷ h)) o a)) (sym (messages ∙ ap (λ o. with_message o older) none));
    }

  -- what is known of the message of a frame that is no claim
  module _ (m : ℕ) (f : BusFrame) (other : is_claim f ≡ false) (courses : List Course) (it : Stand h courses) where
    abbrev e : Entry
    e = frame m f

    same_holders : holders_at x c s (e ∷ h) ≡ holders_at x c s h
    same_holders = ap (λ (k : Known). k.claims.holders) (known_same r s h m f other)

    of_message : (d : Message) → done r s h e ≡ Some d → d.source < places → Stand (e ∷ h) (courses_with d courses)
    of_message d is fits = record {
      count = with_count d courses ∙ it.count;
      each = λ a within. by a within (d.source == a) refl ∙ ap (λ holders. course_of (that_hold holders (d ∷ older) a)) (sym same_holders)
          ∙ ap (λ o. course_of (that_hold (holders_at x c s (e ∷ h)) (with_message o older) a)) (sym is);
    }
      where
        holders : List (Option Holder)
        holders = holders_at x c s h

        by_done : IsDoneBy holders (length h) m d
        by_done = done_by r s h e d is

        dated : by_done.holder.since ≤ d.index
        dated =
            let since = dated_at (length h) holders d.source by_done.holder (addresses_are_sound r s h are).dated by_done.held in
            subst (λ i. by_done.holder.since ≤ i) (sym by_done.index) since

        by : (a : ℕ) → a < places → (t : Bool) → (d.source == a) ≡ t → course_at (courses_with d courses) a ≡ course_of (that_hold holders (d ∷ older) a)
        by a within true same =
            let is_a = eqb-true d.source a same in
            subst (λ b. course_at (courses_with d courses) b ≡ course_with d (course_at courses b)) is_a
            (with_here d courses (subst (λ n. d.source < n) (sym it.count) fits))
            ∙ ap (course_with d) (it.each a within)
            ∙ sym (course_more (length h) (that_hold holders older a) (held_below (length h) holders older a (below r s h)) d by_done.index)
            ∙ ap course_of (sym (newest_of holders older d by_done.holder by_done.held dated a same))
        by a within false differs =
            with_elsewhere d courses a (λ same. eqb-false d.source a differs (sym same))
            ∙ it.each a within
            ∙ ap course_of (sym (others_of holders older d by_done.holder by_done.held dated a differs))

    of_frame : (o : Option Message) → done r s h e ≡ o → IfSome o (λ d. d.source < places) → Stand (e ∷ h) (courses_after o courses)
    of_frame None none fits =
        without e courses (record { count = it.count; each = λ a within. it.each a within ∙ ap (λ holders. course_of (that_hold holders older a)) (sym same_holders) }) none refl
    of_frame (Some d) is fits = of_message d is fits

  module _ (m : ℕ) (f : BusFrame) (claims : is_claim f ≡ true) (courses : List Course) (it : Stand h courses) where
    abbrev step : ClaimStep
    step = (claim (known r s h).claims (claim_by (length h) m f)).step

    abbrev before : List (Option Holder)
    before = holders_at x c s h

    abbrev after : List (Option Holder)
    after = (followed_by (length h) (known r s h) (claim (known r s h).claims (claim_by (length h) m f)).after).claims.holders

    held_then : (a : ℕ) → that_hold after older a ≡ (if is_lost step a then [] else that_hold before older a)
    held_then a =
        moved_from a (length h) older (below r s h) (is_lost step a) (held_since before a) (held_since after a) (moved_since r s h m f are a)

    by_loss : (a : ℕ) (lost : Bool) → course_of (if lost then [] else that_hold before older a) ≡ (if lost then no_course else course_of (that_hold before older a))
    by_loss a true = refl
    by_loss a false = refl

    of_claim : Stand (frame m f ∷ h) (courses_forgotten (changed_by step) courses)
    of_claim =
        let fits = claims_fit (known r s h).claims (claim_by (length h) m f) (addresses_are_sound r s h are).sound.room in
        let left = address_left step in
        let won = address_won step in
        let count : length (course_forgotten left courses) ≡ places = forgotten_count left courses fits.left ∙ it.count in
        without (frame m f) (courses_forgotten (changed_by step) courses) (record {
          count = forgotten_count won (course_forgotten left courses) fits.won ∙ count;
          each = λ a within.
              forgotten_at won (course_forgotten left courses) a fits.won count
              ∙ ap (λ course. if is_at a won then no_course else course) (forgotten_at left courses a fits.left it.count)
              ∙ either_way (is_at a left) (is_at a won) (course_at courses a)
              ∙ ap (λ course. if is_lost step a then no_course else course) (it.each a within)
              ∙ sym (by_loss a (is_lost step a))
              ∙ ap course_of (sym (held_then a))
              ∙ ap (λ (k : Known). course_of (that_hold k.claims.holders older a)) (sym (known_after_claim r s h m f claims));
        }) (silent r s h m f are claims) refl

  -- a command to go to an address leaves them as they are
  pub courses_commanded : (m source address : ℕ) (courses : List Course) → Stand h courses → Stand (command m source address ∷ h) courses
  courses_commanded m source address courses it = record {
    count = it.count;
    each = λ a within. it.each a within ∙ ap (λ holders. course_of (that_hold holders older a)) (sym (commanded_holders (known r s h).claims address m));
  }

  abbrev changed_at : Bool → ℕ → BusFrame → Changed
  changed_at b m f = if b then changed_by (claim (known r s h).claims (claim_by (length h) m f)).step else no_change

  -- with the message that the entry completes, or none, by the addresses that change hands at it
  pub courses_stand : (e : Entry) (courses : List Course) → Stand h courses → (o : Option Message) → done r s h e ≡ o → IfSome o (λ d. d.source < places)
      → Stand (e ∷ h) (courses_after o (courses_forgotten (changes_in r s (e ∷ h)) courses))
  courses_stand (frame m f) courses it o is fits = by (is_claim f) refl
    where
      by : (b : Bool) → is_claim f ≡ b → Stand (frame m f ∷ h) (courses_after o (courses_forgotten (changed_at b m f) courses))
      by true claims =
          let none : None ≡ o = sym (silent r s h m f are claims) ∙ is in
          subst (λ o. Stand (frame m f ∷ h) (courses_after o (courses_forgotten (changed_at true m f) courses))) none (of_claim m f claims courses it)
      by false other = of_frame m f other courses it o is fits
  courses_stand (datagram m bytes) courses it o is fits =
      subst (λ o. Stand (datagram m bytes ∷ h) (courses_after o courses)) is (record { count = it.count; each = it.each })
  courses_stand (tick m) courses it o is fits =
      subst (λ o. Stand (tick m ∷ h) (courses_after o courses)) is (record { count = it.count; each = it.each })
  courses_stand (command m source address) courses it o is fits =
      subst (λ o. Stand (command m source address ∷ h) (courses_after o courses)) is (courses_commanded m source address courses it)
