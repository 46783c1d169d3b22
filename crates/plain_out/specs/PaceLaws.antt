-- What is promised of plain sentences that pause, whatever is said and whenever.
use Rattle.std.specs.Prelude.{◌≡◌, ◌<◌, ℕ, ◌-◌, Bool, true, false, ◌==◌, List, [], ◌∷◌, slice_get, Option, Some, None, option_map, if◌then◌else◌}
use Rattle.plain_out.specs.Pace.{Utterance, Voice, last_at, opened_voice, passing, places_in}
use Rattle.plain_out.specs.Streams.{stream_number}
use Rattle.plain_out.specs.declared.stream.Stream.{Stream}

-- ---- a field of a datagram says something

abbrev pub IsGoodAt : List Bool → ℕ → Type 0
IsGoodAt places place = slice_get places place ≡ Some true

-- and one that did says nothing any more
pub record IsLost (before after : List Bool) : Type 0 where
  pub place : ℕ
  pub was : IsGoodAt before place
  pub gone : IsGoodAt after place → ⊥

abbrev pub SaysAll : List Bool → List Bool → Type 0
SaysAll before after = (place : ℕ) → IsGoodAt before place → IsGoodAt after place

-- ---- datagrams and the moments at which they were said, the newest first

pub record Spoken : Type 0 where
  pub moment : ℕ
  pub said : Utterance

module _ (group : List ℕ) (every : ℕ) where
  -- what is kept after them
  abbrev pub voice_of : List Spoken → Voice
  voice_of [] = opened_voice group every
  voice_of (x ∷ run) = (passing (voice_of run) x.moment x.said.stream x.said.datagram).after

  -- one more is passed on
  abbrev pub is_passed : List Spoken → Spoken → Bool
  is_passed run x = (passing (voice_of run) x.moment x.said.stream x.said.datagram).passes

  -- those that were passed on
  abbrev pub passed_on : List Spoken → List Spoken
  passed_on [] = []
  passed_on (x ∷ run) = if is_passed run x then x ∷ passed_on run else passed_on run

abbrev pub is_number : ℕ → Option Stream → Bool
is_number number None = false
is_number number (Some stream) = stream_number stream == number

-- the last one of a stream
abbrev pub last_in : ℕ → List Spoken → Option Spoken
last_in number [] = None
last_in number (x ∷ run) = if is_number number x.said.stream then Some x else last_in number run

-- ---- the laws

-- what is kept of a stream is of the last datagram of it that was passed on
abbrev pub LastIsKept : Type 0
LastIsKept =
    (group : List ℕ) (every : ℕ) (run : List Spoken) (stream : Stream) → (every == 0) ≡ false
    → slice_get (voice_of group every run).lasts (stream_number stream)
    ≡ Some (option_map (λ x. last_at x.moment (places_in x.said.datagram)) (last_in (stream_number stream) (passed_on group every run)))

-- of two that are passed on within the pause, with none between, the later one lacks something that the earlier one said
abbrev pub StreamsPause : Type 0
StreamsPause =
    (group : List ℕ) (every : ℕ) (run : List Spoken) (x last : Spoken) (stream : Stream) → x.said.stream ≡ Some stream
    → last_in (stream_number stream) (passed_on group every run) ≡ Some last → is_passed group every run x ≡ true → x.moment - last.moment < every
    → IsLost (places_in last.said.datagram) (places_in x.said.datagram)

-- after each datagram of a stream it says all that the last one said that was passed on
pub record IsTold (number : ℕ) (passed : List Spoken) (datagram : List ℕ) : Type 0 where
  pub last : Spoken
  pub is : last_in number passed ≡ Some last
  pub says : SaysAll (places_in last.said.datagram) (places_in datagram)

abbrev pub LossesAreTold : Type 0
LossesAreTold =
    (group : List ℕ) (every : ℕ) (run : List Spoken) (x : Spoken) (stream : Stream) → (every == 0) ≡ false → x.said.stream ≡ Some stream
    → IsTold (stream_number stream) (passed_on group every (x ∷ run)) x.said.datagram
