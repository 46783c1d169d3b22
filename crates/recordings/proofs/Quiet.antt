-- A tick at which a part beside the gateway gives nothing changes nothing that it gives later; and parts that are put together keep that.
use Rattle.std.proofs.Common.{◌≡◌, ℕ, ◌≤◌, [], ◌∷◌, ◌++◌, refl, ap}
use Rattle.std.specs.Prelude.{List, Option, Some, None}
use Rattle.gate_events.specs.Emit.{Emit}
use Rattle.history.specs.Entries.{Entry, History, moment_of, now, tick}
use Rattle.history.specs.Settings.{Settings}
use Rattle.plain_out.specs.Pace.{Utterance, uttered}
use Rattle.plain_out.specs.declared.stream.Stream.{Stream}
use Rattle.parts.specs.Utterances.{utters_of}
use Rattle.parts.specs.Forms.{Form, PartForm, both, lane, nothing}
use Rattle.recordings.proofs.Gathered.{joined, none_left, none_right}

-- of an entry and those before it up to a tick, the first one after the tick isn't earlier than it
abbrev pub Follows : ℕ → History → Entry → Type 0
Follows m [] e = m ≤ moment_of e
Follows m (x ∷ newer) e = Follows m newer x

pub record GivesQuietly {R : Type 0} (gives : R → Settings → ℕ → History → Entry → List Emit) : Type 0 where
  -- a tick at the moment of the start gives nothing
  pub first : (r : R) (c : Settings) (s : ℕ) → gives r c s [] (tick s) ≡ []
  -- and one that gives nothing changes nothing later, where what came right after it isn't earlier than it
  pub later : (r : R) (c : Settings) (s m : ℕ) (h : History) → now h ≤ m → gives r c s h (tick m) ≡ []
      → (newer : History) (e : Entry) → Follows m newer e → gives r c s (newer ++ h) e ≡ gives r c s (newer ++ tick m ∷ h) e

-- nor does it change anything that is said later
pub record UttersQuietly {R : Type 0} (gives : R → Settings → ℕ → History → Entry → List Emit) (utters : R → Settings → ℕ → History → Entry → List Utterance) : Type 0 where
  pub later : (r : R) (c : Settings) (s m : ℕ) (h : History) → now h ≤ m → gives r c s h (tick m) ≡ []
      → (newer : History) (e : Entry) → Follows m newer e → utters r c s (newer ++ h) e ≡ utters r c s (newer ++ tick m ∷ h) e

-- where all datagrams are of one stream, or of none
pub in_stream : {R : Type 0} (stream : Option Stream) (gives : R → Settings → ℕ → History → Entry → List Emit) → GivesQuietly gives
    → UttersQuietly gives (utters_of stream gives)
in_stream stream gives q = record { later = λ r c s m h le none newer e follow. ap (uttered stream) (q.later r c s m h le none newer e follow) }

-- a part, and parts that are put together
pub record IsQuiet (a : PartForm) : Type 0 where
  pub gives : GivesQuietly a.give
  pub says : UttersQuietly a.give a.utter

pub record AreQuiet (a : Form) : Type 0 where
  pub gives : GivesQuietly a.give
  pub says : UttersQuietly a.give a.utter

-- ---- a part that is there exactly if it is asked for, and others behind it

module _ (a : PartForm) (q : IsQuiet a) where
  first_lane : (r : Option a.rule) (c : Settings) (s : ℕ) → (lane a).give r c s [] (tick s) ≡ []
  first_lane None c s = refl
  first_lane (Some r) c s = q.gives.first r c s

  later_lane : (r : Option a.rule) (c : Settings) (s m : ℕ) (h : History) → now h ≤ m → (lane a).give r c s h (tick m) ≡ []
      → (newer : History) (e : Entry) → Follows m newer e → (lane a).give r c s (newer ++ h) e ≡ (lane a).give r c s (newer ++ tick m ∷ h) e
  later_lane None c s m h le none newer e follow = refl
  later_lane (Some r) c s m h le none newer e follow = q.gives.later r c s m h le none newer e follow

  says_lane : (r : Option a.rule) (c : Settings) (s m : ℕ) (h : History) → now h ≤ m → (lane a).give r c s h (tick m) ≡ []
      → (newer : History) (e : Entry) → Follows m newer e → (lane a).utter r c s (newer ++ h) e ≡ (lane a).utter r c s (newer ++ tick m ∷ h) e
  says_lane None c s m h le none newer e follow = refl
  says_lane (Some r) c s m h le none newer e follow = q.says.later r c s m h le none newer e follow

pub before : (a : PartForm) (b : Form) → IsQuiet a → AreQuiet b → AreQuiet (both (lane a) b)
before a b q r = record {
  gives = record {
    first = λ x c s. joined (first_lane a q x.0 c s) (r.gives.first x.1 c s);
    later = λ x c s m h le none newer e follow.
        joined
        (later_lane a q x.0 c s m h le (none_left ((lane a).give x.0 c s h (tick m)) (b.give x.1 c s h (tick m)) none) newer e follow)
        (r.gives.later x.1 c s m h le (none_right ((lane a).give x.0 c s h (tick m)) (b.give x.1 c s h (tick m)) none) newer e follow);
  };
  says = record {
    later = λ x c s m h le none newer e follow.
        joined
        (says_lane a q x.0 c s m h le (none_left ((lane a).give x.0 c s h (tick m)) (b.give x.1 c s h (tick m)) none) newer e follow)
        (r.says.later x.1 c s m h le (none_right ((lane a).give x.0 c s h (tick m)) (b.give x.1 c s h (tick m)) none) newer e follow);
  };
}

pub nothing_quiet : AreQuiet nothing
nothing_quiet = record {
  gives = record { first = λ r c s. refl; later = λ r c s m h le none newer e follow. refl };
  says = record { later = λ r c s m h le none newer e follow. refl };
}
