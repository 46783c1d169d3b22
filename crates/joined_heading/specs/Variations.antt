-- The variation of PGN 127258 (canboat), over everything that ever came: what a message says of it, from whom it is taken, and what was selected last.
use Rattle.std.specs.Prelude.{ℕ, ℤ, Bool, ◌==◌, nat_lt, List, [], ◌∷◌, length, is_some, Option, Some, None, if◌then◌else◌}
use Rattle.readings.specs.Ranges as ranges
use Rattle.readings.specs.declared.reading.Reading.{Reading}
use Rattle.readings.specs.declared.reading.Reading.TheVariants as reading
use Rattle.readings.specs.declared.rows.Row.TheVariants as row
use Rattle.pgn_profile.specs.Part.{signed_value}
use Rattle.pgn_profile.specs.declared.kinds.Kind.{Kind}
use Rattle.pgn_profile.specs.declared.kinds.Kind.TheVariants.{Single, Outside}
use Rattle.source_choice.specs.declared.told.Told.{Told}
use Rattle.history.specs.Entries.{Entry, History}
use Rattle.history.specs.Known.{known}
use Rattle.history.specs.Messages.{Message, done, messages_of}
use Rattle.history.specs.Settings.{Receiver, Settings, receiver_of}
use Rattle.history.specs.Subjects.{is_selected}
use Rattle.parts.specs.Selected.{Selected, newer, selected_with}
use Rattle.joined_rmc.specs.Lasting.{said_within, still_held}
use Rattle.bus_listener.specs.Heard.{listener}
use Rattle.joined_heading.specs.HeadingRule.{HeadingRule}

-- ---- what a message says

abbrev pub variation_pgn : ℕ
variation_pgn = 127258

-- it comes in single frames
abbrev pub kind_of : ℕ → Kind
kind_of pgn = if pgn == variation_pgn then Single else Outside

-- a message has at least six bytes
abbrev pub is_short : List ℕ → Bool
is_short payload = nat_lt (length payload) 6

-- the variation, in 1e-4 radian, positive to the east, where it is available
abbrev pub variation_of : List ℕ → Option ℤ
variation_of payload = signed_value 4 2 ranges.deviation payload

-- as a reading that says nothing else
abbrev pub variation_alone : Option ℤ → Reading
variation_alone variation = reading.HeadingMagnetic None None variation

-- it is the one subject of its choice, and is usable where it is there
abbrev pub told_by : Option ℤ → Told
told_by variation = record { subject = 0; usable = is_some variation }

abbrev pub variation_told : Message → Option Told
variation_told d = if is_short d.payload then None else Some (told_by (variation_of d.payload))

-- ---- the bus as it is heard of it

abbrev pub variation_receiver : Settings → Receiver
variation_receiver c = listener kind_of 0 c

module _ (x : HeadingRule) (c : Settings) (s : ℕ) where
  -- the message that an entry completes
  abbrev pub variation_done : History → Entry → Option Message
  variation_done h e = done (variation_receiver c) s h e

  -- where it is selected among those before it, what it says
  abbrev pub chosen_variation : History → Option Message → Option Reading
  chosen_variation h None = None
  chosen_variation h (Some d) =
      let r = variation_receiver c in
      if is_selected variation_told (λ subject. x.taken) (known r s h).claims.holders (messages_of r s h) d
      then Some (variation_alone (variation_of d.payload)) else None

  abbrev pub variation_at : History → Entry → Option Selected
  variation_at h e = selected_with (variation_done h e) (chosen_variation h (variation_done h e))

  -- the last one that was selected
  abbrev pub last_variation : History → Option Selected
  last_variation [] = None
  last_variation (e ∷ h) = newer row.HeadingMagnetic (variation_at h e) (last_variation h)

  -- what it says, where its sender holds its address ever since, and it isn't older at this moment than the timeout
  abbrev pub lasting_variation : History → ℕ → Option Reading
  lasting_variation h m = said_within x.taken.timeout m (still_held (known (receiver_of c) s h).claims.holders (last_variation h))
