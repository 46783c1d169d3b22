-- A map that holds what is open of a kind, in the order of the reports, lists it in that order: its keys that pass a test, and those that
-- end, by time or after a claim or a command.
use Rattle.std.specs.Prelude.{Option, ◌≡◌, ℕ, Bool, ◌&&◌, List, map, filter, is_some, is_none, Some}
use Rattle.std.specs.Ordering.{is_lt}
use Rattle.std.specs.declared.cmp.Ordering.{Ordering}
use Rattle.slot_views.specs.Slots.{Entry, SlotMap, entry_at}
use Rattle.fast_packet.specs.declared.key.FastKey.{FastKey}
use Rattle.pgn_profile.specs.declared.kinds.Kind.{Kind}
use Rattle.iso_transport.specs.declared.key.IsoKey.{IsoKey}
use Rattle.tag_block.specs.declared.group_key.GroupKey.{GroupKey}
use Rattle.history.specs.Known.{Known}
use Rattle.history.specs.Heard.{Taken, precedes_group, group_keys, group_open, open_groups}
use Rattle.history.specs.Traces.{NotedFrame}
use Rattle.history.specs.Opens.{precedes_fast, precedes_iso, fast_keys, iso_keys, fast_open, iso_open, open_fast_keys, open_iso_keys}
use Rattle.history.specs.Endings.{iso_ended, group_ended, side}
use Rattle.history.specs.CountLaws.{HoldsFast, HoldsIso, HoldsGroups}
use Rattle.claim_table.specs.declared.answer.Holder.{Holder}

-- a test of entries says of each entry of the map what one of keys says
abbrev pub Tests : {K : Type 0} → (K → K → Ordering) → SlotMap K → (K × Entry → Bool) → (K → Bool) → Type 0
Tests {K = K} cmp slots q p = (key : K) (e : Entry) → entry_at cmp slots key ≡ Some e → q (key, e) ≡ p key

-- the keys of the entries that pass it, in the map's order
abbrev pub keys_that : {K : Type 0} → (K × Entry → Bool) → SlotMap K → List K
keys_that q slots = map (λ e. e.0) (filter q slots.entries)

module _ (kinds : ℕ → Kind) (cmp : FastKey → FastKey → Ordering) (holders : List (Option Holder)) (notes : List NotedFrame) (m : ℕ) (slots : SlotMap FastKey) where
  pub record ListsFast : Type 0 where
    pub passing : (p : FastKey → Bool) (q : FastKey × Entry → Bool) → Tests cmp slots q p → keys_that q slots ≡ filter p (open_fast_keys kinds holders notes m)
    pub ending : (is_meant : FastKey → Bool) (after : List (Option Holder)) (n : ℕ) (q : FastKey × Entry → Bool)
        → Tests cmp slots q (λ key. is_meant key && is_none (fast_open after notes key n))
        → keys_that q slots ≡ filter (λ key. is_meant key && (is_some (fast_open holders notes key m) && is_none (fast_open after notes key n))) (fast_keys kinds notes)

abbrev pub SlotsListFast : Type 0
SlotsListFast =
    (kinds : ℕ → Kind) (cmp : FastKey → FastKey → Ordering) (holders : List (Option Holder)) (notes : List NotedFrame) (m : ℕ) (slots : SlotMap FastKey)
    → HoldsFast kinds cmp holders notes m slots → ((a b : FastKey) → precedes_fast a b ≡ is_lt (cmp a b)) → ListsFast kinds cmp holders notes m slots

module _ (cmp : IsoKey → IsoKey → Ordering) (k : Known) (notes : List NotedFrame) (m : ℕ) (slots : SlotMap IsoKey) where
  pub record ListsIso : Type 0 where
    pub passing : (p : IsoKey → Bool) (q : IsoKey × Entry → Bool) → Tests cmp slots q p → keys_that q slots ≡ filter p (open_iso_keys k notes m)
    pub ending : (is_meant : IsoKey → Bool) (after : Known) (n : ℕ) (q : IsoKey × Entry → Bool)
        → Tests cmp slots q (λ key. is_meant key && is_none (iso_open after notes key n))
        → keys_that q slots ≡ filter (λ key. is_meant key && iso_ended (side k m) (side after n) notes key) (iso_keys notes)

abbrev pub SlotsListIso : Type 0
SlotsListIso =
    (cmp : IsoKey → IsoKey → Ordering) (k : Known) (notes : List NotedFrame) (m : ℕ) (slots : SlotMap IsoKey)
    → HoldsIso cmp k notes m slots → ((a b : IsoKey) → precedes_iso a b ≡ is_lt (cmp a b)) → ListsIso cmp k notes m slots

module _ (cmp : GroupKey → GroupKey → Ordering) (lines : List Taken) (m : ℕ) (slots : SlotMap GroupKey) where
  pub record ListsGroups : Type 0 where
    pub passing : (p : GroupKey → Bool) (q : GroupKey × Entry → Bool) → Tests cmp slots q p → keys_that q slots ≡ filter p (open_groups lines m)
    pub ending : (n : ℕ) (q : GroupKey × Entry → Bool)
        → Tests cmp slots q (λ key. is_none (group_open lines key n)) → keys_that q slots ≡ filter (group_ended lines m n) (group_keys lines)

abbrev pub SlotsListGroups : Type 0
SlotsListGroups =
    (cmp : GroupKey → GroupKey → Ordering) (lines : List Taken) (m : ℕ) (slots : SlotMap GroupKey)
    → HoldsGroups cmp lines m slots → ((a b : GroupKey) → precedes_group a b ≡ is_lt (cmp a b)) → ListsGroups cmp lines m slots
