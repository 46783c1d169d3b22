-- When what a gateway keeps of the network (IEC 61162-450) stands for all that came from it.
use Rattle.std.specs.Prelude.{◌≡◌, ℕ, true, List, length}
use Rattle.std.specs.List.{AllByRecursion}
use Rattle.std.specs.declared.cmp.Ordering.{Ordering}
use Rattle.readings.specs.declared.rows.Row.{Row}
use Rattle.pgn_profile.specs.Profiled.{pgn_of}
use Rattle.slot_views.specs.Slots.{SlotMap, IsMap, entry_at}
use Rattle.tag_block.specs.declared.group_key.GroupKey.{GroupKey}
use Rattle.tag_block.specs.GroupLaws.{group_at}
use Rattle.datagram450.specs.Datagram.{IsItem}
use Rattle.history.specs.Settings.{Settings}
use Rattle.history.specs.Heard.{HeardItem, Taken, group_open, taken_lines}
use Rattle.history.specs.NetReadings.{NetReading, readings_of, is_fast_row, next_sequence}
use Rattle.history.specs.ChoiceLaws.{HoldsNetNotes}
use Rattle.gate_model.specs.Net.{ReadingsKept, row_at, sequence_at, row_numbers}
use Rattle.gate_model.specs.NetLines.{NetKept}

-- what is kept of the readings stands for those that were heard: the notes of each row are of them, for all sources that are listed, and
-- the next sequence of each row that goes as fast packets counts those that were sent
pub record StandsReadings (c : Settings) (older : List NetReading) (k : ReadingsKept) : Type 0 where
  pub sources : k.choices.sources ≡ length c.net_sources
  pub rows : length k.choices.subjects ≡ length row_numbers
  pub numbers : length k.sequences ≡ length row_numbers
  pub each_row : (row : Row) → (row_at k.choices row).sources ≡ length c.net_sources
  pub notes : (row : Row) → HoldsNetNotes c row older (row_at k.choices row)
  pub counts : (row : Row) → is_fast_row row ≡ true → sequence_at k row ≡ next_sequence c older (pgn_of row)

-- the open groups stand for the lines that were taken: the entry of every key is what the lines of its open prefix make
pub record StandsGroups (cmp : GroupKey → GroupKey → Ordering) (limit : ℕ) (lines : List Taken) (m : ℕ) (s : SlotMap GroupKey) : Type 0 where
  pub limited : s.limit ≡ limit
  pub map : IsMap cmp s
  pub entries : (key : GroupKey) → entry_at cmp s key ≡ group_at (group_open lines key m)

-- over the items that came, each of which is one of a datagram, at a moment
pub record StandsNet (cmp : GroupKey → GroupKey → Ordering) (c : Settings) (older : List HeardItem) (m : ℕ) (k : NetKept) : Type 0 where
  pub items : AllByRecursion (λ x. IsItem x.item) older
  pub groups : StandsGroups cmp c.group_slots (taken_lines c older) m k.groups
  pub readings : StandsReadings c (readings_of c.optional_sentences (taken_lines c older)) k.readings
