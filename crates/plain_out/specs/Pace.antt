-- The pace of plain sentences. A datagram that says too soon what was said is held back, but not one in which something is lost.
use Rattle.std.proofs.Common.{inr}
use Rattle.std.specs.Prelude.{◌≡◌, ◌⊎◌, ℕ, ◌-◌, Bool, true, false, not, ◌&&◌, ◌||◌, ◌==◌, nat_le, nat_lt, List, [], ◌∷◌, ◌++◌, drop, length, replicate, slice_get, slice_set, Option, Some, None, Result, Ok, Err, if◌then◌else◌}
use Rattle.sentence_text.specs.Fields.{fields_of}
use Rattle.datagram450.specs.Datagram.{Item, line, bad, read}
use Rattle.datagram450.specs.declared.fault.DatagramFault.{DatagramFault}
use Rattle.gate_events.specs.Emit.{Emit, can, net, report}
use Rattle.plain_out.specs.Plain.{sentences_in}
use Rattle.plain_out.specs.Streams.{stream_number, streams_count}
use Rattle.plain_out.specs.declared.stream.Stream.{Stream}
use Rattle.plain_out.specs.declared.voice.Last.{Last}

-- ---- what is said: a datagram (IEC 61162-450), and its stream if it has one

pub record Utterance : Type 0 where
  pub stream : Option Stream
  pub datagram : List ℕ

-- the datagrams among some emits, all of one stream
abbrev pub uttered : Option Stream → List Emit → List Utterance
uttered stream [] = []
uttered stream (can frame ∷ emits) = uttered stream emits
uttered stream (net group bytes ∷ emits) = record { stream = stream; datagram = bytes } ∷ uttered stream emits
uttered stream (report what ∷ emits) = uttered stream emits

-- ---- the places of a datagram: the fields of its sentences (IEC 61162-1), in order

-- A field is good if it says something: an empty one doesn't, nor do the letters of a status and of a mode that isn't valid, and the 0 of no fix.
abbrev pub is_good : List ℕ → Bool
is_good [] = false
is_good (c ∷ []) = not (c == 86 || c == 78 || c == 48)
is_good (c ∷ d ∷ more) = true

-- at most so many places are kept, which is more than a datagram of any stream has
abbrev pub most_places : ℕ
most_places = 32

abbrev pub with_place : List Bool → Bool → List Bool
with_place places good = if nat_lt (length places) most_places then places ++ good ∷ [] else places

abbrev pub with_fields : List Bool → List (List ℕ) → List Bool
with_fields places [] = places
with_fields places (field ∷ fields) = with_fields (with_place places (is_good field)) fields

abbrev pub with_item : List Bool → Item → List Bool
with_item places (line at said text parts) = with_fields places (fields_of parts.body)
with_item places (bad rule at) = places

abbrev pub with_items : List Bool → List Item → List Bool
with_items places [] = places
with_items places (item ∷ items) = with_items (with_item places item) items

abbrev pub places_of : Result (List Item) DatagramFault → List Bool
places_of (Ok items) = with_items [] items
places_of (Err fault) = []

-- of each place whether its field is good
abbrev pub places_in : List ℕ → List Bool
places_in datagram = places_of (read datagram)

-- a place that isn't there isn't good
abbrev pub first_place : List Bool → Bool
first_place [] = false
first_place (good ∷ places) = good

-- a good place of the former datagram isn't one of the latter
abbrev pub loses : List Bool → List Bool → Bool
loses [] after = false
loses (was ∷ before) after = (was && not (first_place after)) || loses before (drop 1 after)

-- ---- who says plain sentences

pub record Voice : Type 0 where
  -- the transmission group that they are sent to
  pub group : List ℕ
  -- how long a stream pauses, in microseconds
  pub every : ℕ
  -- of each stream, by its number, the last datagram that was passed on; of none where no stream pauses
  pub lasts : List (Option Last)

-- before anything was said
abbrev pub no_lasts : ℕ → List (Option Last)
no_lasts every = if every == 0 then [] else replicate streams_count None

abbrev pub opened_voice : List ℕ → ℕ → Voice
opened_voice group every = record { group = group; every = every; lasts = no_lasts every }

-- a datagram is passed on at a moment where it is the first, where the pause is over, and where something is lost
abbrev pub is_due : ℕ → ℕ → List Bool → Option Last → Bool
is_due every m places None = true
is_due every m places (Some last) = nat_le every (m - last.moment) || loses last.places places

-- whether it is passed on, and what is kept then
pub record Passing : Type 0 where
  pub after : Voice
  pub passes : Bool

abbrev pub last_at : ℕ → List Bool → Last
last_at m places = record { moment = m; places = places }

abbrev pub pass_if : Bool → Voice → ℕ → Last → Passing
pass_if true v number last = record { after = record v { lasts = slice_set v.lasts number (Some last) }; passes = true }
pass_if false v number last = record { after = v; passes = false }

-- what is kept of its stream, if anything is
abbrev pub pass_behind : Option (Option Last) → Voice → ℕ → ℕ → List Bool → Passing
pass_behind None v number m places = record { after = v; passes = true }
pass_behind (Some last) v number m places = pass_if (is_due v.every m places last) v number (last_at m places)

abbrev pub passing : Voice → ℕ → Option Stream → List ℕ → Passing
passing v m None datagram = record { after = v; passes = true }
passing v m (Some stream) datagram = pass_behind (slice_get v.lasts (stream_number stream)) v (stream_number stream) m (places_in datagram)

-- ---- what is said once more, and what is kept then

pub record Saying : Type 0 where
  pub after : Voice
  pub plain : List Emit

abbrev pub plain_if : Bool → List ℕ → List ℕ → List Emit
plain_if true group datagram = net group (sentences_in datagram) ∷ []
plain_if false group datagram = []

abbrev pub said_one : Voice → ℕ → Utterance → Saying
said_one v m u = let x = passing v m u.stream u.datagram in record { after = x.after; plain = plain_if x.passes v.group u.datagram }

abbrev pub and_said : Saying → Saying → Saying
and_said x y = record { after = y.after; plain = x.plain ++ y.plain }

-- at one moment, in order
abbrev pub said_all : Voice → ℕ → List Utterance → Saying
said_all v m [] = record { after = v; plain = [] }
said_all v m (u ∷ us) = and_said (said_one v m u) (said_all (said_one v m u).after m us)

-- ---- some of these, in their order

abbrev pub AreAmong : {X : Type 0} → List X → List X → Type 0
AreAmong [] ys = Unit {0}
AreAmong (x ∷ xs) [] = ⊥
AreAmong (x ∷ xs) (y ∷ ys) = ((x ≡ y) × AreAmong xs ys) ⊎ AreAmong (x ∷ xs) ys

pub among_behind : {X : Type 0} (y : X) (xs ys : List X) → AreAmong xs ys → AreAmong xs (y ∷ ys)
among_behind y [] ys are = tt
among_behind y (x ∷ xs) ys are = inr are
