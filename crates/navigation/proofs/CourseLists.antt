-- The course of an address by its messages, with one message more, and what a leg behind them says.
use Rattle.std.proofs.Common.{◌≡◌, ℕ, ℤ, ◌+◌, ◌*◌, ◌<◌, Bool, true, false, ◌&&◌, List, [], ◌∷◌, length, Option, Some, None, option_map, refl, sym, ap, subst, ◌∙◌, ◌==◌, arith}
use Rattle.std.specs.Prelude.{nat_le, nat_lt, if◌then◌else◌}
use Rattle.std.proofs.lemmas.Bool.{and_parts, eqb-true, le-ltb, lt-ltb}
use Rattle.history.specs.Messages.{Message}
use Rattle.history.proofs.FreshSteps.{AreBelow}
use Rattle.navigation.specs.declared.course.Course.{Course}
use Rattle.navigation.specs.declared.leg.Goal.{Goal}
use Rattle.navigation.specs.Courses.{error_of_stretch, error_said, first_index, fresh_error, is_any, is_named_again, last_error, legs_in, stretch}
use Rattle.navigation.specs.Kept.{error_with, fresh_distance, is_named, with_error, with_leg}
use Rattle.navigation.specs.Legs.{error_in, error_pgn, goal_in, is_error, is_leg, is_same, least_leg, leg_pgn}
use Rattle.navigation.specs.Promises.{as_error, course_of, course_of_legs}

-- ---- indexes

-- what is chosen of messages that are below an index is below it
legs_below : (n : ℕ) (messages : List Message) → AreBelow n messages → AreBelow n (legs_in messages)
legs_below n [] below = tt
legs_below n (d ∷ messages) below = by (is_leg d) (legs_below n messages below.1)
  where
    by : (b : Bool) → AreBelow n (legs_in messages) → AreBelow n (if b then d ∷ legs_in messages else legs_in messages)
    by true rest = (below.0, rest)
    by false rest = rest

stretch_below : (n : ℕ) (goal : Goal) (legs : List Message) → AreBelow n legs → AreBelow n (stretch goal legs)
stretch_below n goal [] below = tt
stretch_below n goal (d ∷ legs) below = by (is_same (goal_in d.payload) goal) (stretch_below n goal legs below.1)
  where
    by : (b : Bool) → AreBelow n (stretch goal legs) → AreBelow n (if b then d ∷ stretch goal legs else [])
    by true rest = (below.0, rest)
    by false rest = tt

first_below : (n index : ℕ) (legs : List Message) → index < n → AreBelow n legs → first_index index legs < n
first_below n index [] less below = less
first_below n index (d ∷ legs) less below = first_below n d.index legs below.0 below.1

-- nothing that is below an index is behind it
pub none_behind : (n : ℕ) (messages : List Message) → AreBelow n messages → last_error n messages ≡ None
none_behind n [] below = refl
none_behind n (d ∷ messages) below =
    ap (λ b. if is_error d && b then Some d else last_error n messages) (le-ltb n d.index (omega (arith, below.0)))
    ∙ by (is_error d) ∙ none_behind n messages below.1
  where
    by : (b : Bool) → (if b && false then Some d else last_error n messages) ≡ last_error n messages
    by true = refl
    by false = refl

-- ---- goals

pub same_goal : (a b : Goal) → is_same a b ≡ true → a ≡ b
same_goal a b same =
    let both = and_parts (a.waypoints == b.waypoints) (a.position == b.position) same in
    ap (λ n. record { waypoints = n; position = a.position }) (eqb-true a.waypoints b.waypoints both.0)
    ∙ ap (λ n. record { waypoints = b.waypoints; position = n }) (eqb-true a.position b.position both.1)

-- a leg is no error
leg_no_error : (d : Message) → is_leg d ≡ true → is_error d ≡ false
leg_no_error d leg =
    let is = eqb-true d.pgn leg_pgn (and_parts (d.pgn == leg_pgn) (nat_le least_leg (length d.payload)) leg).0 in
    ap (λ pgn. (pgn == error_pgn) && nat_le 6 (length d.payload)) is

passes_by : (index : ℕ) (d : Message) (messages : List Message) → is_error d ≡ false → last_error index (d ∷ messages) ≡ last_error index messages
passes_by index d messages isnt = ap (λ b. if b && nat_lt index d.index then Some d else last_error index messages) isnt

-- ---- one message more, behind all others

module _ (n : ℕ) (messages : List Message) (below : AreBelow n messages) (d : Message) (newest : d.index ≡ n) where
  abbrev goal : Goal
  goal = goal_in d.payload

  no_error_yet : is_leg d ≡ true → last_error d.index (d ∷ messages) ≡ None
  no_error_yet leg =
      passes_by d.index d messages (leg_no_error d leg) ∙ ap (λ index. last_error index messages) newest ∙ none_behind n messages below

  leg_behind : is_leg d ≡ true → (legs : List Message) → course_of_legs (d ∷ messages) (d ∷ legs) ≡ with_leg goal (course_of_legs messages legs)
  leg_behind leg [] = ap (λ e. record { goal = Some goal; error = option_map as_error e }) (no_error_yet leg)
  leg_behind leg (l ∷ legs) = by (is_same (goal_in l.payload) goal) refl
    where
      kept : Course
      kept = course_of_legs messages (l ∷ legs)

      by : (b : Bool) → is_same (goal_in l.payload) goal ≡ b
          → record { goal = Some goal; error = option_map as_error (last_error (first_index d.index (if b then l ∷ stretch goal legs else [])) (d ∷ messages)) }
          ≡ (if b then kept else record { goal = Some goal; error = None })
      by true same =
          ap (λ e. record { goal = Some goal; error = option_map as_error e }) (passes_by (first_index l.index (stretch goal legs)) d messages (leg_no_error d leg))
          ∙ ap (λ (g : Goal). record { goal = Some g; error = option_map as_error (last_error (first_index l.index (stretch g legs)) messages) })
          (sym (same_goal (goal_in l.payload) goal same))
      by false other = ap (λ e. record { goal = Some goal; error = option_map as_error e }) (no_error_yet leg)

  pub after_leg : is_leg d ≡ true → course_of (d ∷ messages) ≡ with_leg goal (course_of messages)
  after_leg leg =
      ap (λ b. course_of_legs (d ∷ messages) (if b then d ∷ legs_in messages else legs_in messages)) leg ∙ leg_behind leg (legs_in messages)

  error_behind : is_error d ≡ true → (legs : List Message) → AreBelow n legs → course_of_legs (d ∷ messages) legs ≡ with_error (as_error d) (course_of_legs messages legs)
  error_behind error [] less = refl
  error_behind error (l ∷ legs) less =
      let g = goal_in l.payload in
      let index = first_index l.index (stretch g legs) in
      let first : index < d.index = subst (λ i. index < i) (sym newest) (first_below n l.index (stretch g legs) less.0 (stretch_below n g legs less.1)) in
      ap (λ b. record { goal = Some g; error = option_map as_error (if b && nat_lt index d.index then Some d else last_error index messages) }) error
      ∙ ap (λ b. record { goal = Some g; error = option_map as_error (if b then Some d else last_error index messages) }) (lt-ltb index d.index first)

  pub after_error : is_leg d ≡ false → is_error d ≡ true → course_of (d ∷ messages) ≡ with_error (as_error d) (course_of messages)
  after_error no_leg error =
      ap (λ b. course_of_legs (d ∷ messages) (if b then d ∷ legs_in messages else legs_in messages)) no_leg
      ∙ error_behind error (legs_in messages) (legs_below n messages below)

  other_behind : is_error d ≡ false → (legs : List Message) → course_of_legs (d ∷ messages) legs ≡ course_of_legs messages legs
  other_behind isnt [] = refl
  other_behind isnt (l ∷ legs) =
      ap (λ e. record { goal = Some (goal_in l.payload); error = option_map as_error e })
      (passes_by (first_index l.index (stretch (goal_in l.payload) legs)) d messages isnt)

  pub after_other : is_leg d ≡ false → is_error d ≡ false → course_of (d ∷ messages) ≡ course_of messages
  after_other no_leg isnt =
      ap (λ b. course_of_legs (d ∷ messages) (if b then d ∷ legs_in messages else legs_in messages)) no_leg ∙ other_behind isnt (legs_in messages)

-- ---- what a leg behind the messages says, whose index is above theirs

module _ (n : ℕ) (messages : List Message) (below : AreBelow n messages) (payload : List ℕ) where
  abbrev aim : Goal
  aim = goal_in payload

  named_of : (legs : List Message) → is_named aim (course_of_legs messages legs) ≡ is_any (stretch aim legs)
  named_of [] = refl
  named_of (l ∷ legs) = by (is_same (goal_in l.payload) aim)
    where
      by : (b : Bool) → b ≡ is_any (if b then l ∷ stretch aim legs else [])
      by true = refl
      by false = refl

  pub names_again : is_named aim (course_of messages) ≡ is_named_again messages payload
  names_again = named_of (legs_in messages)

  module _ (timeout m : ℕ) where
    said_fresh : (o : Option Message) → fresh_distance timeout m (option_map as_error o) ≡ error_said (fresh_error timeout m o)
    said_fresh None = refl
    said_fresh (Some d) = by (nat_le m (d.moment + 1000 * timeout))
      where
        by : (b : Bool) → (if b then error_in d.payload else None) ≡ error_said (if b then Some d else None)
        by true = refl
        by false = refl

    abbrev said_of : List Message → Option ℤ
    said_of legs = error_said (fresh_error timeout m (last_error (first_index n (stretch aim legs)) messages))

    none_said : None ≡ error_said (fresh_error timeout m (last_error n messages))
    none_said = sym (ap (λ o. error_said (fresh_error timeout m o)) (none_behind n messages below))

    error_of : (legs : List Message) → error_with aim timeout m (course_of_legs messages legs) ≡ said_of legs
    error_of [] = none_said
    error_of (l ∷ legs) = by (is_same (goal_in l.payload) aim) refl
      where
        kept : Goal → Option Message
        kept g = last_error (first_index l.index (stretch g legs)) messages

        by : (b : Bool) → is_same (goal_in l.payload) aim ≡ b
            → (if b then fresh_distance timeout m (option_map as_error (kept (goal_in l.payload))) else None)
            ≡ error_said (fresh_error timeout m (last_error (first_index n (if b then l ∷ stretch aim legs else [])) messages))
        by true same =
            ap (λ g. fresh_distance timeout m (option_map as_error (kept g))) (same_goal (goal_in l.payload) aim same) ∙ said_fresh (kept aim)
        by false other = none_said

    pub error_is : error_with aim timeout m (course_of messages) ≡ error_said (fresh_error timeout m (error_of_stretch messages n payload))
    error_is = error_of (legs_in messages)
