-- What is promised of what a pilot steers by: all that stands in one datagram is of one device, of the leg that it is on, and fresh; and where RMB is valid, the
-- goal was named twice.
use Rattle.std.specs.Prelude.{◌≡◌, ◌⊎◌, ℕ, ◌+◌, ◌*◌, ◌<◌, ◌≤◌, true, List, [], find, Option, Some}
use Rattle.history.specs.AddressLaws.{AreSettings}
use Rattle.history.specs.Entries.{Entry, History}
use Rattle.history.specs.Known.{held_since}
use Rattle.history.specs.Messages.{Message, messages_of}
use Rattle.history.specs.Settings.{Settings}
use Rattle.navigation.specs.Courses.{error_said, last_error, that_hold}
use Rattle.navigation.specs.Legs.{goal_in, is_error, is_leg, leg_in}
use Rattle.navigation.specs.NavOut.{holders_at, nav_done, nav_receiver, texts_at}
use Rattle.navigation.specs.NavRule.{NavRule}
use Rattle.navigation.specs.Sentences.{is_whole, leg_texts}

module _ (x : NavRule) (c : Settings) (s : ℕ) (h : History) where
  -- the messages of the sender of a leg that hold, the last first
  abbrev pub held_beside : Message → List Message
  held_beside leg = that_hold (holders_at x c s h) (messages_of (nav_receiver x c) s h) leg.source

  -- a message of the same device under the same claim
  pub record IsOfItsDevice (leg d : Message) : Type 0 where
    pub since : ℕ
    pub held : held_since (holders_at x c s h) leg.source ≡ Some since
    pub source : d.source ≡ leg.source
    pub name : d.name ≡ leg.name
    pub ever : since ≤ d.index

  -- the error beside a leg: the last one of the device behind a leg of the same goal, and not older than the timeout
  pub record IsBeside (leg d : Message) : Type 0 where
    pub an_error : is_error d ≡ true
    pub device : IsOfItsDevice leg d
    pub fresh : leg.moment ≤ d.moment + 1000 * x.taken.timeout
    pub first : Message
    pub a_leg : is_leg first ≡ true
    pub first_device : IsOfItsDevice leg first
    pub goal : goal_in first.payload ≡ goal_in leg.payload
    pub behind : first.index < d.index
    pub last : last_error first.index (held_beside leg) ≡ Some d

  -- the last leg of the device before this one has its goal
  pub record IsNamedTwice (leg : Message) : Type 0 where
    pub before : Message
    pub last : find is_leg (held_beside leg) ≡ Some before
    pub device : IsOfItsDevice leg before
    pub goal : goal_in before.payload ≡ goal_in leg.payload

  -- the sentences are of the leg that completes at the entry, and of the error beside it
  pub record IsOfOneDevice (e : Entry) : Type 0 where
    pub leg : Message
    pub completes : nav_done x c s h e ≡ Some leg
    pub a_leg : is_leg leg ≡ true
    pub error : Option Message
    pub says : texts_at x c s h e ≡ leg_texts x.talker (leg_in leg.payload) (error_said error)
    pub beside : (d : Message) → error ≡ Some d → IsBeside leg d
    pub named : is_whole (leg_in leg.payload) (error_said error) ≡ true → IsNamedTwice leg

abbrev pub OneDevice : Type 0
OneDevice = (x : NavRule) (c : Settings) (s : ℕ) (h : History) (e : Entry) → AreSettings c → (texts_at x c s h e ≡ []) ⊎ IsOfOneDevice x c s h e
