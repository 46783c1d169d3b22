-- What the calls need that are made of all that a gateway keeps: at what was reached they can be made.
use Rattle.std.specs.Prelude.{◌≡◌, ℕ, ◌<◌, ◌≤◌, length, Some}
use Rattle.std.specs.declared.cmp.Ordering.{Ordering}
use Rattle.readings.specs.declared.rows.Row.{Row}
use Rattle.claim_table.specs.declared.answer.Holder.{Holder}
use Rattle.claim_table.specs.Claims.{places, holder_at}
use Rattle.claim_table.specs.Laws.{IsSound}
use Rattle.slot_views.specs.Slots.{SlotMap, IsMap}
use Rattle.source_choice.specs.Choices.{Choices}
use Rattle.gate_model.specs.AddressStands.{AddressesFit}
use Rattle.gate_model.specs.Net.{row_at, row_numbers}
use Rattle.gate_model.specs.NetLaws.{AreSequences}
use Rattle.gate_model.specs.SaidFits.{AreCounts}
use Rattle.gate_model.specs.Machine.{Compared, Machine}
use Rattle.gate_model.specs.Stands.{IsReached}

-- messages in the making, of one kind: as many as are configured find room, which are no more than this, and no more are open; they are in the
-- order of their keys
pub record SlotsFit {K : Type 0} (cmp : K → K → Ordering) (slots : SlotMap K) (configured most : ℕ) : Type 0 where
  pub limit : slots.limit ≡ configured
  pub few : configured ≤ most
  pub map : IsMap cmp slots
  pub within : length slots.entries ≤ configured

-- what is noted of each row, of so many sources
pub record ChoicesFit (choices : Choices) (many : ℕ) : Type 0 where
  pub sources : choices.sources ≡ many
  pub rows : length choices.subjects ≡ length row_numbers
  pub each_row : (row : Row) → (row_at choices row).sources ≡ many

pub record ReachedFits (o : Compared) (g : Machine) : Type 0 where
  -- the index of the next entry has 64 bits, and no address is held since a later one
  pub addresses : AddressesFit g.addresses
  -- there are 254 places for holders, no NAME has two addresses, and the own address is from 0 to 251 and has no holder
  pub sound : IsSound g.addresses.claims
  pub name : g.addresses.claims.name ≡ g.settings.name
  -- an address that is held is one that has a place
  pub held : (a : ℕ) (h : Holder) → holder_at g.addresses.claims.holders a ≡ Some h → a < places
  pub fast : SlotsFit o.fast g.fast g.settings.fast_slots 256
  pub sessions : SlotsFit o.sessions g.sessions g.settings.iso_slots 32
  pub groups : SlotsFit o.groups g.network.groups g.settings.group_slots 32
  -- of the bus each address can be noted, and of the network each source that is listed
  pub bus : ChoicesFit g.said.choices places
  pub net : ChoicesFit g.network.readings.choices (length g.settings.net_sources)
  -- one count of lines for each row, below the greatest one, and the groups of lines are below the greatest code
  pub lines : length g.said.lines ≡ length row_numbers
  pub counts : AreCounts g.said
  -- one sequence for each row, from 0 to 7
  pub numbers : length g.network.readings.sequences ≡ length row_numbers
  pub sequences : AreSequences g.network.readings

abbrev pub AllReachedFits : Type 0
AllReachedFits = (o : Compared) (g : Machine) → IsReached o g → ReachedFits o g
