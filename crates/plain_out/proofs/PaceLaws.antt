-- Plain sentences that pause keep to their pause, and tell each loss.
use Rattle.std.proofs.Common.{◌≡◌, ◌<◌, ◌≤◌, ℕ, zero, suc, ◌-◌, Bool, true, false, not, ◌&&◌, ◌||◌, ◌==◌, nat_le, List, [], ◌∷◌, drop, replicate, Option, Some, None, option_map, if◌then◌else◌, refl, sym, ap, subst, ◌∙◌, arith}
use Rattle.std.specs.Prelude.{slice_get, slice_set}
use Rattle.std.proofs.lemmas.Bool.{eqb-true, eqb-false, leb-true}
use Rattle.readings.specs.declared.rows.Row.{Row}
use Rattle.readings.specs.declared.rows.Row.TheVariants as row
use Rattle.readings.specs.Rows.{row_number}
use Rattle.quantities.specs.About.{number_of as quantity_number}
use Rattle.quantities.specs.declared.about.Quantity.{Quantity}
use Rattle.quantities.specs.declared.about.Quantity.TheVariants as quantity
use Rattle.plain_out.specs.Pace.{Passing, Voice, is_due, last_at, loses, opened_voice, pass_behind, pass_if, passing, places_in}
use Rattle.plain_out.specs.PaceLaws.{IsGoodAt, IsLost, IsTold, LastIsKept, LossesAreTold, SaysAll, Spoken, StreamsPause, is_number, is_passed, last_in, passed_on, voice_of}
use Rattle.plain_out.specs.Streams.{stream_number, streams_count}
use Rattle.plain_out.specs.declared.stream.Stream.{Stream}
use Rattle.plain_out.specs.declared.stream.Stream.TheVariants as stream
use Rattle.plain_out.specs.declared.voice.Last.{Last}

-- ---- what is lost

later : (w b : Bool) (before after : List Bool) → IsLost before after → IsLost (w ∷ before) (b ∷ after)
later w b before after lost = record { place = suc lost.place; was = lost.was; gone = lost.gone }

later_none : (w : Bool) (before : List Bool) → IsLost before [] → IsLost (w ∷ before) []
later_none w before lost = record { place = suc lost.place; was = lost.was; gone = λ good. absurd cc }

is_lost : (before after : List Bool) → loses before after ≡ true → IsLost before after
is_lost [] after is = absurd cc
is_lost (true ∷ before) [] is = record { place = 0; was = refl; gone = λ good. absurd cc }
is_lost (true ∷ before) (false ∷ after) is = record { place = 0; was = refl; gone = λ good. absurd cc }
is_lost (true ∷ before) (true ∷ after) is = later true true before after (is_lost before after is)
is_lost (false ∷ before) [] is = later_none false before (is_lost before [] is)
is_lost (false ∷ before) (b ∷ after) is = later false b before after (is_lost before after is)

none_good : (place : ℕ) → IsGoodAt [] place → ⊥
none_good place good = cc

says_all : (before after : List Bool) → loses before after ≡ false → SaysAll before after
says_all [] after is place good = absurd (none_good place good)
says_all (true ∷ before) [] is place good = absurd cc
says_all (true ∷ before) (false ∷ after) is place good = absurd cc
says_all (true ∷ before) (true ∷ after) is zero good = refl
says_all (true ∷ before) (true ∷ after) is (suc place) good = says_all before after is place good
says_all (false ∷ before) [] is zero good = absurd cc
says_all (false ∷ before) [] is (suc place) good = absurd (none_good place (says_all before [] is place good))
says_all (false ∷ before) (b ∷ after) is zero good = absurd cc
says_all (false ∷ before) (b ∷ after) is (suc place) good = says_all before after is place good

-- ---- one place of a list

get_set : {X : Type 0} (xs : List X) (n : ℕ) (x y : X) → slice_get xs n ≡ Some y → slice_get (slice_set xs n x) n ≡ Some x
get_set [] n x y is = absurd cc
get_set (z ∷ xs) zero x y is = refl
get_set (z ∷ xs) (suc n) x y is = get_set xs n x y is

get_other : {X : Type 0} (xs : List X) (n k : ℕ) (x : X) → (n ≡ k → ⊥) → slice_get (slice_set xs n x) k ≡ slice_get xs k
get_other [] n k x other = refl
get_other (z ∷ xs) zero zero x other = absurd (other refl)
get_other (z ∷ xs) zero (suc k) x other = refl
get_other (z ∷ xs) (suc n) zero x other = refl
get_other (z ∷ xs) (suc n) (suc k) x other = get_other xs n k x (λ same. other (ap suc same))

get_replicated : {X : Type 0} (x : X) (n k : ℕ) → k < n → slice_get (replicate n x) k ≡ Some x
get_replicated x zero k within = absurd (omega (arith, within))
get_replicated x (suc n) zero within = refl
get_replicated x (suc n) (suc k) within = get_replicated x n k (omega (arith, within))

row_small : (r : Row) → row_number r < 17
row_small row.HeadingTrue = omega arith
row_small _ = omega arith

quantity_small : (q : Quantity) → quantity_number q < 16
quantity_small quantity.Attitude = omega arith
quantity_small _ = omega arith

number_small : (s : Stream) → stream_number s < streams_count
number_small (stream.Row r) = omega (arith, row_small r)
number_small stream.Rmc = omega arith
number_small (stream.Quantity q) = omega (arith, quantity_small q)
number_small stream.MagneticCourse = omega arith
number_small stream.MagneticWind = omega arith
number_small stream.MagneticDrift = omega arith
number_small stream.JoinedHeading = omega arith

-- ---- one more datagram

passes_if : (b : Bool) (v : Voice) (number : ℕ) (last : Last) → (pass_if b v number last).passes ≡ b
passes_if true v number last = refl
passes_if false v number last = refl

-- what is kept of a stream of which this was kept
kept_by : (v : Voice) (number m : ℕ) (places : List Bool) (o : Option Last) → slice_get v.lasts number ≡ Some o
    → slice_get (pass_behind (slice_get v.lasts number) v number m places).after.lasts number
    ≡ Some (if (pass_behind (slice_get v.lasts number) v number m places).passes then Some (last_at m places) else o)
kept_by v number m places o is =
    subst (λ (x : Option (Option Last)). slice_get (pass_behind x v number m places).after.lasts number
    ≡ Some (if (pass_behind x v number m places).passes then Some (last_at m places) else o)) (sym is) (by (is_due v.every m places o))
  where
    by : (b : Bool) → slice_get (pass_if b v number (last_at m places)).after.lasts number
        ≡ Some (if (pass_if b v number (last_at m places)).passes then Some (last_at m places) else o)
    by true = get_set v.lasts number (Some (last_at m places)) o is
    by false = is

-- nothing else of other streams
other_kept : (x : Option (Option Last)) (v : Voice) (number k m : ℕ) (places : List Bool) → (number ≡ k → ⊥)
    → slice_get (pass_behind x v number m places).after.lasts k ≡ slice_get v.lasts k
other_kept None v number k m places other = refl
other_kept (Some o) v number k m places other = by (is_due v.every m places o)
  where
    by : (b : Bool) → slice_get (pass_if b v number (last_at m places)).after.lasts k ≡ slice_get v.lasts k
    by true = get_other v.lasts number k (Some (last_at m places)) other
    by false = refl

abbrev kept_of : Spoken → Last
kept_of x = last_at x.moment (places_in x.said.datagram)

module _ (group : List ℕ) (every : ℕ) (pauses : (every == 0) ≡ false) where
  abbrev IsKept : ℕ → List Spoken → Type 0
  IsKept number run = slice_get (voice_of group every run).lasts number ≡ Some (option_map kept_of (last_in number (passed_on group every run)))

  -- a datagram of no stream, or of another one
  passed_over : (number : ℕ) (run : List Spoken) (x : Spoken) → is_number number x.said.stream ≡ false
      → last_in number (passed_on group every (x ∷ run)) ≡ last_in number (passed_on group every run)
  passed_over number run x other = by (is_passed group every run x)
    where
      by : (b : Bool) → last_in number (if b then x ∷ passed_on group every run else passed_on group every run) ≡ last_in number (passed_on group every run)
      by true = ap (λ (b : Bool). if b then Some x else last_in number (passed_on group every run)) other
      by false = refl

  -- one of the stream
  passed_last : (number : ℕ) (run : List Spoken) (x : Spoken) → is_number number x.said.stream ≡ true
      → last_in number (passed_on group every (x ∷ run)) ≡ (if is_passed group every run x then Some x else last_in number (passed_on group every run))
  passed_last number run x same = by (is_passed group every run x)
    where
      by : (b : Bool) → last_in number (if b then x ∷ passed_on group every run else passed_on group every run)
          ≡ (if b then Some x else last_in number (passed_on group every run))
      by true = ap (λ (b : Bool). if b then Some x else last_in number (passed_on group every run)) same
      by false = refl

  mapped_if : (b : Bool) (x : Spoken) (o : Option Spoken) → (if b then Some (kept_of x) else option_map kept_of o) ≡ option_map kept_of (if b then Some x else o)
  mapped_if true x o = refl
  mapped_if false x o = refl

  keep : (number : ℕ) → number < streams_count → (run : List Spoken) → IsKept number run
  keep number within [] =
      ap (λ (b : Bool). slice_get (if b then [] else replicate streams_count None) number) pauses ∙ get_replicated None streams_count number within
  keep number within (x ∷ run) = by x.said.stream refl (keep number within run)
    where
      by : (o : Option Stream) → x.said.stream ≡ o → IsKept number run → IsKept number (x ∷ run)
      by None none kept =
          ap (λ (o : Option Stream). slice_get (passing (voice_of group every run) x.moment o x.said.datagram).after.lasts number) none
          ∙ kept
          ∙ ap (λ (o : Option Spoken). Some (option_map kept_of o)) (sym (passed_over number run x (ap (is_number number) none)))
      by (Some s) some kept = by_number (stream_number s == number) refl
        where
          v : Voice
          v = voice_of group every run

          places : List Bool
          places = places_in x.said.datagram

          as_stream : passing v x.moment x.said.stream x.said.datagram ≡ pass_behind (slice_get v.lasts (stream_number s)) v (stream_number s) x.moment places
          as_stream = ap (λ (o : Option Stream). passing v x.moment o x.said.datagram) some

          by_number : (b : Bool) → (stream_number s == number) ≡ b → IsKept number (x ∷ run)
          by_number false other =
              ap (λ (y : Passing). slice_get y.after.lasts number) as_stream
              ∙ other_kept (slice_get v.lasts (stream_number s)) v (stream_number s) number x.moment places (eqb-false (stream_number s) number other)
              ∙ kept
              ∙ ap (λ (o : Option Spoken). Some (option_map kept_of o)) (sym (passed_over number run x (ap (is_number number) some ∙ other)))
          by_number true same =
              let is : stream_number s ≡ number = eqb-true (stream_number s) number same in
              let here : slice_get v.lasts (stream_number s) ≡ Some (option_map kept_of (last_in number (passed_on group every run))) =
              ap (slice_get v.lasts) is ∙ kept in
              let last = last_in number (passed_on group every run) in
              ap (λ (y : Passing). slice_get y.after.lasts number) as_stream
              ∙ ap (slice_get (pass_behind (slice_get v.lasts (stream_number s)) v (stream_number s) x.moment places).after.lasts) (sym is)
              ∙ kept_by v (stream_number s) x.moment places (option_map kept_of last) here
              ∙ ap (λ (y : Passing). Some (if y.passes then Some (kept_of x) else option_map kept_of last)) (sym as_stream)
              ∙ ap Some (mapped_if (is_passed group every run x) x last)
              ∙ ap (λ (o : Option Spoken). Some (option_map kept_of o)) (sym (passed_last number run x (ap (is_number number) some ∙ same)))

pub last_is_kept : LastIsKept
last_is_kept group every run s pauses = keep group every pauses (stream_number s) (number_small s) run

-- ---- the pause

-- a stream whose last datagram is kept
module _ (v : Voice) (m : ℕ) (s : Stream) (datagram : List ℕ) (o : Option Last) (is : slice_get v.lasts (stream_number s) ≡ Some o) where
  passes_by : (passing v m (Some s) datagram).passes ≡ is_due v.every m (places_in datagram) o
  passes_by =
      ap (λ (x : Option (Option Last)). (pass_behind x v (stream_number s) m (places_in datagram)).passes) is
      ∙ passes_if (is_due v.every m (places_in datagram) o) v (stream_number s) (last_at m (places_in datagram))

every_if : (b : Bool) (v : Voice) (number : ℕ) (last : Last) → (pass_if b v number last).after.every ≡ v.every
every_if true v number last = refl
every_if false v number last = refl

every_behind : (x : Option (Option Last)) (v : Voice) (number m : ℕ) (places : List Bool) → (pass_behind x v number m places).after.every ≡ v.every
every_behind None v number m places = refl
every_behind (Some o) v number m places = every_if (is_due v.every m places o) v number (last_at m places)

every_stays : (v : Voice) (m : ℕ) (o : Option Stream) (datagram : List ℕ) → (passing v m o datagram).after.every ≡ v.every
every_stays v m None datagram = refl
every_stays v m (Some s) datagram = every_behind (slice_get v.lasts (stream_number s)) v (stream_number s) m (places_in datagram)

every_is : (group : List ℕ) (every : ℕ) (run : List Spoken) → (voice_of group every run).every ≡ every
every_is group every [] = refl
every_is group every (x ∷ run) = every_stays (voice_of group every run) x.moment x.said.stream x.said.datagram ∙ every_is group every run

lost_or : (b : Bool) (before after : List Bool) → (b || loses before after) ≡ true → b ≡ false → IsLost before after
lost_or true before after is none = absurd cc
lost_or false before after is none = is_lost before after is

not_over : (every pause : ℕ) → pause < every → (b : Bool) → nat_le every pause ≡ b → b ≡ false
not_over every pause short false is = refl
not_over every pause short true is = absurd (omega (arith, short, leb-true every pause is))

pub streams_pause : StreamsPause
streams_pause group every run x last s some is passes short = by (every == 0) refl
  where
    by : (b : Bool) → (every == 0) ≡ b → IsLost (places_in last.said.datagram) (places_in x.said.datagram)
    by true none = absurd (omega (arith, short, eqb-true every 0 none))
    by false pauses =
        let v = voice_of group every run in
        let places = places_in x.said.datagram in
        let kept : slice_get v.lasts (stream_number s) ≡ Some (Some (kept_of last)) =
        last_is_kept group every run s pauses ∙ ap (λ (o : Option Spoken). Some (option_map kept_of o)) is in
        let due : is_due every x.moment places (Some (kept_of last)) ≡ true =
        ap (λ (n : ℕ). is_due n x.moment places (Some (kept_of last))) (sym (every_is group every run))
        ∙ sym (passes_by v x.moment s x.said.datagram (Some (kept_of last)) kept)
        ∙ ap (λ (o : Option Stream). (passing v x.moment o x.said.datagram).passes) (sym some)
        ∙ passes in
        lost_or (nat_le every (x.moment - last.moment)) (places_in last.said.datagram) places due
        (not_over every (x.moment - last.moment) short (nat_le every (x.moment - last.moment)) refl)

-- ---- losses

kept_or : (a : Bool) (before after : List Bool) → (a || loses before after) ≡ false → SaysAll before after
kept_or true before after is = absurd cc
kept_or false before after is = says_all before after is

pub losses_are_told : LossesAreTold
losses_are_told group every run x s pauses some = by (is_passed group every run x) refl
  where
    number : ℕ
    number = stream_number s

    v : Voice
    v = voice_of group every run

    same : is_number number x.said.stream ≡ true
    same = ap (is_number number) some ∙ equal number
      where
        equal : (n : ℕ) → (n == n) ≡ true
        equal n = grind arith

    last_is : last_in number (passed_on group every (x ∷ run)) ≡ (if is_passed group every run x then Some x else last_in number (passed_on group every run))
    last_is = passed_last group every pauses number run x same

    by_last : (o : Option Spoken) → last_in number (passed_on group every run) ≡ o → is_passed group every run x ≡ false
        → IsTold number (passed_on group every (x ∷ run)) x.said.datagram
    by_last o lasts held =
        let kept : slice_get v.lasts number ≡ Some (option_map kept_of o) =
        last_is_kept group every run s pauses ∙ ap (λ (z : Option Spoken). Some (option_map kept_of z)) lasts in
        let undue : is_due v.every x.moment (places_in x.said.datagram) (option_map kept_of o) ≡ false =
        sym (passes_by v x.moment s x.said.datagram (option_map kept_of o) kept)
        ∙ ap (λ (z : Option Stream). (passing v x.moment z x.said.datagram).passes) (sym some)
        ∙ held in
        before o lasts undue
      where
        before : (o : Option Spoken) → last_in number (passed_on group every run) ≡ o
            → is_due v.every x.moment (places_in x.said.datagram) (option_map kept_of o) ≡ false → IsTold number (passed_on group every (x ∷ run)) x.said.datagram
        before None lasts undue = absurd cc
        before (Some y) lasts undue = record {
          last = y;
          is = last_is ∙ ap (λ (b : Bool). if b then Some x else last_in number (passed_on group every run)) held ∙ lasts;
          says = kept_or (nat_le v.every (x.moment - y.moment)) (places_in y.said.datagram) (places_in x.said.datagram) undue;
        }

    by : (b : Bool) → is_passed group every run x ≡ b → IsTold number (passed_on group every (x ∷ run)) x.said.datagram
    by true passed = record {
      last = x;
      is = last_is ∙ ap (λ (b : Bool). if b then Some x else last_in number (passed_on group every run)) passed;
      says = λ place good. good;
    }
    by false held = by_last (last_in number (passed_on group every run)) refl held
