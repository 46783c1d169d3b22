-- What is emitted of plotters, over everything that ever came: a datagram for a leg that is selected, once its goal was named twice. All in it is of the
-- leg that completes at the event, or of the error of the same device on the same stretch.
use Rattle.std.specs.Prelude.{ℕ, ◌+◌, Bool, ◌&&◌, not, ◌==◌, List, [], ◌∷◌, ◌++◌, length, is_some, Option, Some, None, if◌then◌else◌}
use Rattle.std.specs.List.{list_any}
use Rattle.report_rules.specs.Rules as rules
use Rattle.gate_events.specs.Emit.{Emit}
use Rattle.claim_table.specs.Claims.{holder_at}
use Rattle.claim_table.specs.declared.answer.Holder.{Holder}
use Rattle.source_choice.specs.declared.told.Told.{Told}
use Rattle.history.specs.Emits.{of_source}
use Rattle.history.specs.Entries.{Entry, History}
use Rattle.history.specs.Known.{known}
use Rattle.history.specs.Messages.{Message, done, messages_of}
use Rattle.history.specs.Settings.{Receiver, Settings}
use Rattle.history.specs.Subjects.{holder_rank, is_fresh, is_selected}
use Rattle.parts.specs.Voices.{Spoken}
use Rattle.bus_listener.specs.Heard.{heard_out, listener}
use Rattle.counted_lines.specs.CountedLines.{posted_of, spoken_of}
use Rattle.navigation.specs.Courses.{error_of_stretch, error_said, fresh_error, is_named_again, that_hold}
use Rattle.navigation.specs.Legs.{is_leg, is_short_leg, kind_of, leg_in}
use Rattle.navigation.specs.NavRule.{NavRule}
use Rattle.navigation.specs.Sentences.{leg_texts}
use Rattle.navigation.specs.declared.leg.Leg.{Leg}

-- a leg is the one subject of its choice, and usable where the bearing of the destination is there
abbrev pub is_usable : Leg → Bool
is_usable leg = is_some leg.bearing

abbrev pub told_by : Leg → Told
told_by leg = record { subject = 0; usable = is_usable leg }

abbrev pub leg_told : Message → Option Told
leg_told d = if is_leg d then Some (told_by (leg_in d.payload)) else None

abbrev pub nav_receiver : NavRule → Settings → Receiver
nav_receiver x c = listener kind_of x.slots c

-- ---- a message behind those that came before it, while these hold the addresses

module _ (x : NavRule) (holders : List (Option Holder)) (older : List Message) where
  -- a message of another address whose NAME has a rank, and which is fresh
  abbrev pub is_of_fresh_other : Message → Message → Bool
  is_of_fresh_other d other =
      not (other.source == d.source) && (is_some (holder_rank x.taken (holder_at holders other.source)) && is_fresh leg_told x.taken holders 0 other.source d.moment older)

  abbrev pub is_other_fresh : Message → Bool
  is_other_fresh d = list_any (is_of_fresh_other d) older

  -- a usable leg is said where it is named again; that the navigation ends is said at once, but not by an idle device beside one that navigates
  abbrev pub has_voice : Message → Bool
  has_voice d = if is_usable (leg_in d.payload) then is_named_again (that_hold holders older d.source) d.payload else not (is_other_fresh d)

  abbrev pub is_said : Message → Bool
  is_said d = is_selected leg_told (λ subject. x.taken) holders older d && has_voice d

  -- the error that stands beside it
  abbrev pub error_beside : Message → Option Message
  error_beside d = fresh_error x.taken.timeout d.moment (error_of_stretch (that_hold holders older d.source) d.index d.payload)

  abbrev pub texts_of : Message → List (List ℕ)
  texts_of d = if is_said d then leg_texts x.talker (leg_in d.payload) (error_said (error_beside d)) else []

-- ---- rule 22

abbrev pub short_told : Message → List Emit
short_told d = if is_short_leg d then of_source rules.short_message d.source d.pgn ∷ [] else []

abbrev pub message_breaks : Option Message → List Emit
message_breaks None = []
message_breaks (Some d) = short_told d

-- ---- over all that came

module _ (x : NavRule) (c : Settings) (s : ℕ) where
  -- the message that an entry completes
  abbrev pub nav_done : History → Entry → Option Message
  nav_done h e = done (nav_receiver x c) s h e

  abbrev pub holders_at : History → List (Option Holder)
  holders_at h = (known (nav_receiver x c) s h).claims.holders

  abbrev pub texts_in : History → Option Message → List (List ℕ)
  texts_in h None = []
  texts_in h (Some d) = texts_of x (holders_at h) (messages_of (nav_receiver x c) s h) d

  abbrev pub texts_at : History → Entry → List (List ℕ)
  texts_at h e = texts_in h (nav_done h e)

  -- how many lines were said in a history
  abbrev pub lines_said : History → ℕ
  lines_said [] = 0
  lines_said (e ∷ h) = lines_said h + length (texts_at h e)

  -- what is told of legs in the making and of frames, and the datagram
  abbrev pub nav_out : History → Entry → List Emit
  nav_out h e =
      heard_out kind_of x.slots c s h e ++ (message_breaks (nav_done h e) ++ posted_of x.group c.sfi (lines_said h) (texts_at h e))

  -- what is said on the network
  abbrev pub nav_says : History → Entry → Spoken
  nav_says h e = spoken_of (texts_at h e)
