-- What the calls take of what is heard from the network (IEC 61162-450), as the plain values of the gateway's model.
use Rattle.std.specs.Prelude.{◌≡◌, ◌<◌, ◌≤◌, ℕ, false, List, [], ◌∷◌, length, Result, replicate}
use Rattle.readings.specs.Rows.{rows_count}
use Rattle.std.specs.declared.cmp.Ordering.{Ordering}
use Rattle.source_choice.specs.Choices.{opened}
use Rattle.tag_block.specs.declared.group_key.GroupKey.{GroupKey}
use Rattle.tag_block.specs.Tag.{Said}
use Rattle.datagram450.specs.declared.fault.DatagramFault.{DatagramFault}
use Rattle.datagram450.specs.Datagram.{Item, cut}
use Rattle.gate_events.specs.Emit.{Emit}
use Rattle.history.specs.Heard.{place_of}
use Rattle.history.specs.Settings.{Settings}
use Rattle.gate_model.specs.Net.{LineHeard}
use Rattle.gate_model.specs.NetLines.{NetKept, line_after, line_emits, item_after, item_emits, items_after, items_emit, datagram_after, datagram_emits}
use Rattle.row_traffic.specs.declared.network.heard.Heard.{Heard}
use Rattle.row_traffic.specs.declared.network.hearing.Hearing.{Hearing}

abbrev pub line_of : Heard → LineHeard
line_of h = record { moment = h.came.moment; ready = h.came.ready; place = h.place; source = h.source; optional = h.optional }

-- settings in which all that isn't read of the network is nothing
abbrev pub heard_by : Hearing → Settings
heard_by h = record {
  name = 0;
  address = 0;
  sfi = h.sfi;
  fast_slots = 0;
  iso_slots = 0;
  group_slots = 0;
  ths = false;
  presets = [];
  rows = [];
  net_sources = h.sources.now;
  optional_sentences = h.optional;
}

-- settings that say of whom is heard what the call is told
pub record IsHeardBy (c : Settings) (h : Hearing) : Type 0 where
  pub sfi : c.sfi ≡ h.sfi
  pub sources : c.net_sources ≡ h.sources.now
  pub optional : c.optional_sentences ≡ h.optional

-- none of the fast packets of any row was sent
abbrev pub none_sent : List ℕ
none_sent = replicate rows_count 0

-- with nothing kept, where so many groups may be open, so many sources are listed, and a source counts so long in each row
abbrev pub opened_net : ℕ → ℕ → List ℕ → NetKept
opened_net group_slots listed timeouts = record {
  groups = record { limit = group_slots; entries = [] };
  readings = record { choices = opened listed timeouts; sequences = none_sent };
}

-- the first of the lines of these bytes, where they have one, and what follows it
pub record IsLineBefore (line behind bytes : List ℕ) : Type 0 where
  pub lines : (cut bytes).lines ≡ line ∷ (cut behind).lines
  pub fewer : length behind < length bytes

-- what is kept is of the sources that are heard: they are those that are listed, and few enough to be numbered
pub record Hears (h : Hearing) (k : NetKept) : Type 0 where
  pub few : length h.sources.now ≤ 254
  pub listed : k.readings.choices.sources ≡ length h.sources.now

-- what a line, an item, items and a datagram leave and give, with what is heard
module _ (cmp : GroupKey → GroupKey → Ordering) (h : Hearing) (k : NetKept) where
  abbrev pub after_line : ℕ → Said → List ℕ → NetKept
  after_line place said sentence = line_after cmp (heard_by h) h.came.moment h.came.ready k place said sentence (place_of (heard_by h) said.source)

  abbrev pub line_gives : ℕ → Said → List ℕ → List Emit
  line_gives place said sentence =
      line_emits cmp (heard_by h) h.came.moment h.came.ready h.came.own k place said sentence (place_of (heard_by h) said.source)

  abbrev pub after_item : Item → NetKept
  after_item i = item_after cmp (heard_by h) h.came.moment h.came.ready k i

  abbrev pub item_gives : Item → List Emit
  item_gives i = item_emits cmp (heard_by h) h.came.moment h.came.ready h.came.own k i

  abbrev pub after_items : List Item → NetKept
  after_items items = items_after cmp (heard_by h) h.came.moment h.came.ready k items

  abbrev pub items_give : List Item → List Emit
  items_give items = items_emit cmp (heard_by h) h.came.moment h.came.ready h.came.own k items

  abbrev pub after_datagram : Result (List Item) DatagramFault → NetKept
  after_datagram read = datagram_after cmp (heard_by h) h.came.moment h.came.ready k read

  abbrev pub datagram_gives : Result (List Item) DatagramFault → List Emit
  datagram_gives read = datagram_emits cmp (heard_by h) h.came.moment h.came.ready h.came.own k read
