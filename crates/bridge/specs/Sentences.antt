-- What is said on the network at an entry, over everything that ever came: the sentences (IEC 61162-1) of each datagram, in the order of the
-- datagrams, without a word of how they are written into them.
use Rattle.std.specs.Prelude.{ℕ, [], ◌∷◌, ◌++◌, Option, Some, None, option_map, if◌then◌else◌}
use Rattle.readings.specs.declared.reading.Reading.{Reading}
use Rattle.readings.specs.Rows.{row_of}
use Rattle.sentence_profile.specs.Writing.{sentences_of}
use Rattle.history.specs.Entries.{Entry, History}
use Rattle.history.specs.FromBus.{said_at}
use Rattle.history.specs.Settings.{Settings, rule_of}
use Rattle.parts.specs.Voices.{Spoken}
use Rattle.bridge.specs.Beside.{beside}
use Rattle.plain_out.specs.Streams.{reading_stream}
use Rattle.bridge.specs.BridgeSettings.{BridgeSettings}
use Rattle.bridge.specs.Gate.{is_replaced}

-- ---- the reading of a selected message, in one sentence or two

abbrev pub reading_says : Settings → Option Reading → Spoken
reading_says c None = []
reading_says c (Some r) = sentences_of (rule_of c (row_of r)).talker c.ths r ∷ []

abbrev pub rows_say : Settings → ℕ → History → Entry → Spoken
rows_say c s h e = reading_says c (said_at c s h e)

-- once more as a plain sentence, where no part is said in its place
abbrev pub rows_said_again : BridgeSettings → ℕ → History → Entry → Spoken
rows_said_again p s h e = if is_replaced p.replaced (option_map reading_stream (said_at p.gateway s h e)) then [] else rows_say p.gateway s h e

-- ---- then what the parts say

abbrev pub all_say : BridgeSettings → ℕ → History → Entry → Spoken
all_say p s h e = rows_say p.gateway s h e ++ beside.say p.parts p.gateway s h e

-- of that, what plain sentences say, where they don't pause
abbrev pub said_again : BridgeSettings → ℕ → History → Entry → Spoken
said_again p s h e = rows_said_again p s h e ++ beside.say p.parts p.gateway s h e
