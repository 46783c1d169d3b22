-- How many keys are open is how many places of a map are taken that holds what is open.
use Rattle.std.specs.Prelude.{Option, ◌≡◌, ℕ, ◌≤◌, ◌&&◌, not, List, length, is_some}
use Rattle.std.specs.Cmp.{IsTotalOrder}
use Rattle.std.specs.BTreeMap.{is_at}
use Rattle.std.specs.declared.cmp.Ordering.{Ordering}
use Rattle.slot_views.specs.Slots.{SlotMap, IsOrdered, entry_at, is_full}
use Rattle.fast_packet.specs.declared.key.FastKey.{FastKey}
use Rattle.pgn_profile.specs.declared.kinds.Kind.{Kind}
use Rattle.iso_transport.specs.declared.key.IsoKey.{IsoKey}
use Rattle.tag_block.specs.declared.group_key.GroupKey.{GroupKey}
use Rattle.claim_table.specs.Laws.{IsSound}
use Rattle.history.specs.Known.{Known}
use Rattle.history.specs.Heard.{Taken, same_group, group_open, open_groups, is_group_admitted}
use Rattle.history.specs.Traces.{NotedFrame}
use Rattle.history.specs.Opens.{is_fast, same_fast, same_iso, fast_open, iso_open, open_fast_keys, open_iso_keys, is_fast_admitted, is_iso_admitted}
use Rattle.claim_table.specs.declared.answer.Holder.{Holder}

-- the map holds a key exactly where it is one of fast packets and is open
module _ (kinds : ℕ → Kind) (cmp : FastKey → FastKey → Ordering) (holders : List (Option Holder)) (notes : List NotedFrame) (m : ℕ) (slots : SlotMap FastKey) where
  pub record HoldsFast : Type 0 where
    pub order : IsTotalOrder cmp
    pub tells : (a b : FastKey) → is_at (cmp a) b ≡ same_fast a b
    pub ordered : IsOrdered cmp slots.entries
    pub within : length slots.entries ≤ slots.limit
    pub holds : (key : FastKey) → is_some (entry_at cmp slots key) ≡ (is_fast (kinds key.pgn) && is_some (fast_open holders notes key m))

  -- as many places are taken as keys are open, and an opener finds room exactly where the map isn't full for its key
  pub record CountsFast : Type 0 where
    pub count : length slots.entries ≡ length (open_fast_keys kinds holders notes m)
    pub room : (key : FastKey) → is_fast_admitted kinds slots.limit holders notes key m ≡ not (is_full cmp slots key)

abbrev pub SlotsCountFast : Type 0
SlotsCountFast =
    (kinds : ℕ → Kind) (cmp : FastKey → FastKey → Ordering) (holders : List (Option Holder)) (notes : List NotedFrame) (m : ℕ) (slots : SlotMap FastKey)
    → HoldsFast kinds cmp holders notes m slots → CountsFast kinds cmp holders notes m slots

-- the same of sessions of the transport protocol, of a gateway whose addresses are sound
module _ (cmp : IsoKey → IsoKey → Ordering) (k : Known) (notes : List NotedFrame) (m : ℕ) (slots : SlotMap IsoKey) where
  pub record HoldsIso : Type 0 where
    pub sound : IsSound k.claims
    pub order : IsTotalOrder cmp
    pub tells : (a b : IsoKey) → is_at (cmp a) b ≡ same_iso a b
    pub ordered : IsOrdered cmp slots.entries
    pub within : length slots.entries ≤ slots.limit
    pub holds : (key : IsoKey) → is_some (entry_at cmp slots key) ≡ is_some (iso_open k notes key m)

  pub record CountsIso : Type 0 where
    pub count : length slots.entries ≡ length (open_iso_keys k notes m)
    pub room : (key : IsoKey) → is_iso_admitted slots.limit k notes key m ≡ not (is_full cmp slots key)

abbrev pub SlotsCountIso : Type 0
SlotsCountIso =
    (cmp : IsoKey → IsoKey → Ordering) (k : Known) (notes : List NotedFrame) (m : ℕ) (slots : SlotMap IsoKey)
    → HoldsIso cmp k notes m slots → CountsIso cmp k notes m slots

-- and of groups of lines
module _ (cmp : GroupKey → GroupKey → Ordering) (taken : List Taken) (m : ℕ) (slots : SlotMap GroupKey) where
  pub record HoldsGroups : Type 0 where
    pub order : IsTotalOrder cmp
    pub tells : (a b : GroupKey) → is_at (cmp a) b ≡ same_group a b
    pub ordered : IsOrdered cmp slots.entries
    pub within : length slots.entries ≤ slots.limit
    pub holds : (key : GroupKey) → is_some (entry_at cmp slots key) ≡ is_some (group_open taken key m)

  pub record CountsGroups : Type 0 where
    pub count : length slots.entries ≡ length (open_groups taken m)
    pub room : (key : GroupKey) → is_group_admitted slots.limit taken key m ≡ not (is_full cmp slots key)

abbrev pub SlotsCountGroups : Type 0
SlotsCountGroups =
    (cmp : GroupKey → GroupKey → Ordering) (taken : List Taken) (m : ℕ) (slots : SlotMap GroupKey)
    → HoldsGroups cmp taken m slots → CountsGroups cmp taken m slots
