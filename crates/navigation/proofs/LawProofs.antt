-- All that stands in one datagram is of one device.
use Rattle.std.proofs.Common.{◌≡◌, ℕ, ◌+◌, ◌*◌, ◌<◌, ◌≤◌, ℤ, Bool, true, false, ◌&&◌, not, ◌⊎◌, inl, inr, List, [], ◌∷◌, Option, Some, None, option_map, refl, sym, ap, subst, ◌∙◌, ◌==◌}
use Rattle.std.specs.Prelude.{IfSome, filter, find, is_some, nat_le, nat_lt, if◌then◌else◌}
use Rattle.std.specs.List.{AllByRecursion}
use Rattle.std.proofs.lemmas.Bool.{and_parts, eqb-true, false≢true, leb-true, ltb-true}
use Rattle.claim_table.specs.Claims.{holder_at}
use Rattle.claim_table.specs.declared.answer.Holder.{Holder}
use Rattle.gate_core.proofs.Completed.{done_by}
use Rattle.gate_model.proofs.ChoiceMessages.{IsHeldBy, is_held}
use Rattle.history.specs.AddressLaws.{AreSettings}
use Rattle.history.specs.ChoiceLaws.{IsOfHolder}
use Rattle.history.specs.Entries.{Entry, History, command, datagram, frame, tick}
use Rattle.history.specs.Known.{held_since}
use Rattle.history.specs.Messages.{Message, messages_of}
use Rattle.history.specs.Settings.{Receiver, Settings, is_some_that}
use Rattle.history.specs.Subjects.{is_chosen, is_selected}
use Rattle.history.proofs.ChoiceSteps.{messages_are_of_holders}
use Rattle.history.proofs.FreshSteps.{AreBelow, below}
use Rattle.bus_listener.proofs.KnownLemmas.{is_receiver}
use Rattle.navigation.specs.declared.leg.Goal.{Goal}
use Rattle.navigation.specs.Courses.{error_of_stretch, error_said, first_index, from_since, fresh_error, is_any, is_error_behind, is_from, is_named_again, last_error, legs_in, stretch, that_hold}
use Rattle.navigation.specs.Legs.{goal_in, is_error, is_leg, is_same, kind_of, leg_in}
use Rattle.navigation.specs.NavKinds.{plotters_are_heard}
use Rattle.navigation.specs.NavLaws.{IsBeside, IsNamedTwice, IsOfItsDevice, IsOfOneDevice, OneDevice, held_beside}
use Rattle.navigation.specs.NavOut.{error_beside, has_voice, holders_at, is_other_fresh, is_said, is_usable, leg_told, nav_done, nav_receiver, texts_at, texts_in, told_by}
use Rattle.navigation.specs.NavRule.{NavRule}
use Rattle.navigation.specs.Sentences.{is_whole, leg_texts}
use Rattle.navigation.proofs.CourseLists.{none_behind, same_goal}
use Rattle.navigation.proofs.CourseSteps.{held_below}

-- ---- what holds of each message of a list holds of the one that is found

module _ (P : Message → Type 0) where
  found_holds : (p : Message → Bool) (ds : List Message) (d : Message) → AllByRecursion P ds → find p ds ≡ Some d → P d × (p d ≡ true)
  found_holds p [] d all is = cc
  found_holds p (z ∷ ds) d all is = by (p z) refl is (λ rest. found_holds p ds d all.1 rest)
    where
      by : (b : Bool) → p z ≡ b → (if b then Some z else find p ds) ≡ Some d → (find p ds ≡ Some d → P d × (p d ≡ true)) → P d × (p d ≡ true)
      by true passes is rest = let same : z ≡ d = cc in subst (λ d. P d × (p d ≡ true)) same (all.0, passes)
      by false passes is rest = rest is

  chosen_hold : (p : Message → Bool) (ds : List Message) → AllByRecursion P ds → AllByRecursion (λ d. P d × (p d ≡ true)) (filter p ds)
  chosen_hold p [] all = tt
  chosen_hold p (d ∷ ds) all = by (p d) refl (chosen_hold p ds all.1)
    where
      by : (b : Bool) → p d ≡ b → AllByRecursion (λ d. P d × (p d ≡ true)) (filter p ds)
          → AllByRecursion (λ d. P d × (p d ≡ true)) (if b then d ∷ filter p ds else filter p ds)
      by true passes rest = ((all.0, passes), rest)
      by false passes rest = rest

  stretch_holds : (aim : Goal) (legs : List Message) → AllByRecursion P legs → AllByRecursion (λ d. P d × (goal_in d.payload ≡ aim)) (stretch aim legs)
  stretch_holds aim [] all = tt
  stretch_holds aim (d ∷ legs) all = by (is_same (goal_in d.payload) aim) refl (stretch_holds aim legs all.1)
    where
      by : (b : Bool) → is_same (goal_in d.payload) aim ≡ b → AllByRecursion (λ d. P d × (goal_in d.payload ≡ aim)) (stretch aim legs)
          → AllByRecursion (λ d. P d × (goal_in d.payload ≡ aim)) (if b then d ∷ stretch aim legs else [])
      by true same rest = ((all.0, same_goal (goal_in d.payload) aim same), rest)
      by false same rest = tt

  -- the first one of legs that aren't none
  record IsFirst (index : ℕ) : Type 0 where
    leg : Message
    holds : P leg
    at : leg.index ≡ index

  first_of : (d : Message) (legs : List Message) → P d → AllByRecursion P legs → IsFirst (first_index d.index legs)
  first_of d [] here all = record { leg = d; holds = here; at = refl }
  first_of d (l ∷ legs) here all = first_of l legs all.0 all.1

-- the first that is chosen is the first that is found
first_chosen : (p : Message → Bool) (ds : List Message) (d : Message) (more : List Message) → filter p ds ≡ d ∷ more → find p ds ≡ Some d
first_chosen p [] d more is = cc
first_chosen p (z ∷ ds) d more is = by (p z) is (λ rest. first_chosen p ds d more rest)
  where
    by : (b : Bool) → (if b then z ∷ filter p ds else filter p ds) ≡ d ∷ more → (filter p ds ≡ d ∷ more → find p ds ≡ Some d)
        → (if b then Some z else find p ds) ≡ Some d
    by true is rest = cc
    by false is rest = rest is

-- ---- a leg, and the messages of its sender that hold

module _ (x : NavRule) (c : Settings) (s : ℕ) (h : History) (settings : AreSettings c) (leg : Message) (holder : Holder)
    (held : holder_at (holders_at x c s h) leg.source ≡ Some holder) (named : leg.name ≡ holder.name.0) (newest : AreBelow leg.index (messages_of (nav_receiver x c) s h)) where
  abbrev r : Receiver
  r = nav_receiver x c

  abbrev older : List Message
  older = messages_of r s h

  abbrev messages : List Message
  messages = held_beside x c s h leg

  since_is : held_since (holders_at x c s h) leg.source ≡ Some holder.since
  since_is = ap (option_map (λ (z : Holder). z.since)) held

  abbrev IsOurs : Message → Type 0
  IsOurs d = IsOfItsDevice x c s h leg d

  ours : (d : Message) → IsOfHolder leg.source holder d → is_from leg.source holder.since d ≡ true → IsOurs d
  ours d of_holder from =
      let both = and_parts (d.source == leg.source) (nat_le holder.since d.index) from in
      let ever = leb-true holder.since d.index both.1 in
      record {
        since = holder.since;
        held = since_is;
        source = eqb-true d.source leg.source both.0;
        name = of_holder both.0 ever ∙ sym named;
        ever = ever;
      }

  all_of : (ds : List Message) → AllByRecursion (λ d. IsOfHolder leg.source holder d × (is_from leg.source holder.since d ≡ true)) ds → AllByRecursion IsOurs ds
  all_of [] all = tt
  all_of (d ∷ ds) all = (ours d all.0.0 all.0.1, all_of ds all.1)

  all_ours : AllByRecursion IsOurs messages
  all_ours =
      subst (λ o. AllByRecursion IsOurs (from_since leg.source older o)) (sym since_is)
      (all_of (filter (is_from leg.source holder.since) older)
      (chosen_hold (IsOfHolder leg.source holder) (is_from leg.source holder.since) older
      (messages_are_of_holders r s h leg.source holder (is_receiver kind_of x.slots c plotters_are_heard settings) held)))

  all_below : AreBelow leg.index messages
  all_below = held_below leg.index (holders_at x c s h) older leg.source newest

  abbrev aim : Goal
  aim = goal_in leg.payload

  -- ---- the error

  of_stretch : (d : Message) → leg.moment ≤ d.moment + 1000 * x.taken.timeout → (legs : List Message)
      → AllByRecursion (λ z. (IsOurs z × (is_leg z ≡ true)) × (goal_in z.payload ≡ aim)) legs
      → last_error (first_index leg.index legs) messages ≡ Some d → IsBeside x c s h leg d
  of_stretch d fresh [] all is = let none : None ≡ Some d = sym (none_behind leg.index messages all_below) ∙ is in cc
  of_stretch d fresh (l ∷ legs) all is =
      let first = first_of (λ z. (IsOurs z × (is_leg z ≡ true)) × (goal_in z.payload ≡ aim)) l legs all.0 all.1 in
      let index = first_index l.index legs in
      let found = found_holds IsOurs (is_error_behind index) messages d all_ours is in
      let both = and_parts (is_error d) (nat_lt index d.index) found.1 in
      record {
        an_error = both.0;
        device = found.0;
        fresh = fresh;
        first = first.leg;
        a_leg = first.holds.0.1;
        first_device = first.holds.0.0;
        goal = first.holds.1;
        behind = subst (λ i. i < d.index) (sym first.at) (ltb-true index d.index both.1);
        last = subst (λ i. last_error i messages ≡ Some d) (sym first.at) is;
      }

  stretch_all : AllByRecursion (λ z. (IsOurs z × (is_leg z ≡ true)) × (goal_in z.payload ≡ aim)) (stretch aim (legs_in messages))
  stretch_all = stretch_holds (λ z. IsOurs z × (is_leg z ≡ true)) aim (legs_in messages) (chosen_hold IsOurs is_leg messages all_ours)

  beside : (d : Message) → (o : Option Message) → error_of_stretch messages leg.index leg.payload ≡ o → fresh_error x.taken.timeout leg.moment o ≡ Some d → IsBeside x c s h leg d
  beside d None is fresh = cc
  beside d (Some z) is fresh = by (nat_le leg.moment (z.moment + 1000 * x.taken.timeout)) refl fresh
    where
      by : (b : Bool) → nat_le leg.moment (z.moment + 1000 * x.taken.timeout) ≡ b → (if b then Some z else None) ≡ Some d → IsBeside x c s h leg d
      by true young is_d =
          let same : z ≡ d = cc in
          subst (λ d. IsBeside x c s h leg d) same
          (of_stretch z (leb-true leg.moment (z.moment + 1000 * x.taken.timeout) young) (stretch aim (legs_in messages)) stretch_all is)
      by false young is_d = cc

  -- ---- the goal that is named again

  named_twice : (legs : List Message) → legs_in messages ≡ legs → is_any (stretch aim legs) ≡ true → IsNamedTwice x c s h leg
  named_twice [] is any = absurd (false≢true any)
  named_twice (l ∷ legs) is any = by (is_same (goal_in l.payload) aim) refl any
    where
      by : (b : Bool) → is_same (goal_in l.payload) aim ≡ b → is_any (if b then l ∷ stretch aim legs else []) ≡ true → IsNamedTwice x c s h leg
      by true same any =
          let found = first_chosen is_leg messages l legs is in
          record {
            before = l;
            last = found;
            device = (found_holds IsOurs is_leg messages l all_ours found).0;
            goal = same_goal (goal_in l.payload) aim same;
          }
      by false same any = absurd (false≢true any)

  whole_is_usable : (error : Option ℤ) → is_whole (leg_in leg.payload) error ≡ true → is_usable (leg_in leg.payload) ≡ true
  whole_is_usable error whole =
      let l = leg_in leg.payload in
      let a = and_parts (is_some error) (is_some l.distance && (is_some l.bearing && (is_some l.latitude && is_some l.longitude))) whole in
      let b = and_parts (is_some l.distance) (is_some l.bearing && (is_some l.latitude && is_some l.longitude)) a.1 in
      (and_parts (is_some l.bearing) (is_some l.latitude && is_some l.longitude) b.1).0

  named_if : has_voice x (holders_at x c s h) older leg ≡ true → (error : Option ℤ) → is_whole (leg_in leg.payload) error ≡ true → IsNamedTwice x c s h leg
  named_if voice error whole =
      named_twice (legs_in messages) refl
      (sym (ap (λ b. if b then is_named_again messages leg.payload else not (is_other_fresh x (holders_at x c s h) older leg)) (whole_is_usable error whole)) ∙ voice)

-- ---- an entry

module _ (x : NavRule) (c : Settings) (s : ℕ) (h : History) (settings : AreSettings c) where
  abbrev receiver : Receiver
  receiver = nav_receiver x c

  abbrev holders : List (Option Holder)
  holders = holders_at x c s h

  abbrev before : List Message
  before = messages_of receiver s h

  -- a message is of the holder of its source
  of_holder : (e : Entry) (d : Message) → nav_done x c s h e ≡ Some d → IsHeldBy holders d
  of_holder (frame m f) d is =
      subst (λ o. IfSome o (IsHeldBy holders)) is (is_held receiver s h m f (is_receiver kind_of x.slots c plotters_are_heard settings))
  of_holder (datagram m bytes) d is = cc
  of_holder (tick m) d is = cc
  of_holder (command m source address) d is = cc

  chosen_leg : (d : Message) → is_selected leg_told (λ subject. x.taken) holders before d ≡ true → is_leg d ≡ true
  chosen_leg d selected = by (is_leg d) refl selected
    where
      by : (b : Bool) → is_leg d ≡ b
          → is_some_that (is_chosen leg_told (λ subject. x.taken) holders before d) (if b then Some (told_by (leg_in d.payload)) else None) ≡ true → is_leg d ≡ true
      by true is selected = is
      by false is selected = absurd (false≢true selected)

  of_message : (e : Entry) (d : Message) → nav_done x c s h e ≡ Some d → (b : Bool) → is_said x holders before d ≡ b
      → (texts_at x c s h e ≡ []) ⊎ IsOfOneDevice x c s h e
  of_message e d is true said =
      let both = and_parts (is_selected leg_told (λ subject. x.taken) holders before d) (has_voice x holders before d) said in
      let here = of_holder e d is in
      let newest = subst (λ n. AreBelow n before) (sym (done_by receiver s h e d is).index) (below receiver s h) in
      let error = error_beside x holders before d in
      inr (record {
        leg = d;
        completes = is;
        a_leg = chosen_leg d both.0;
        error = error;
        says = ap (texts_in x c s h) is ∙ ap (λ b. if b then leg_texts x.talker (leg_in d.payload) (error_said error) else []) said;
        beside = λ z beside_it.
            beside x c s h settings d here.holder here.at here.named newest z (error_of_stretch (that_hold holders before d.source) d.index d.payload) refl beside_it;
        named = λ whole. named_if x c s h settings d here.holder here.at here.named newest both.1 (error_said error) whole;
      })
  of_message e d is false said =
      inl (ap (texts_in x c s h) is ∙ ap (λ b. if b then leg_texts x.talker (leg_in d.payload) (error_said (error_beside x holders before d)) else []) said)

  of_entry : (e : Entry) (o : Option Message) → nav_done x c s h e ≡ o → (texts_at x c s h e ≡ []) ⊎ IsOfOneDevice x c s h e
  of_entry e None is = inl (ap (texts_in x c s h) is)
  of_entry e (Some d) is = of_message e d is (is_said x holders before d) refl

pub one_device : OneDevice
one_device x c s h e settings = of_entry x c s h settings e (nav_done x c s h e) refl
