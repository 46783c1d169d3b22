-- What a map lists of fast packets, of sessions and of groups of lines.
use Rattle.std.proofs.Common.{◌≡◌, ℕ, Bool, true, false, List, [], ◌∷◌}
use Rattle.std.specs.Prelude.{Option, Some, None, is_none, if◌then◌else◌}
use Rattle.std.specs.Ordering.{is_lt}
use Rattle.std.specs.declared.cmp.Ordering.{Ordering}
use Rattle.slot_views.specs.Slots.{SlotMap}
use Rattle.fast_packet.specs.declared.key.FastKey.{FastKey}
use Rattle.pgn_profile.specs.declared.kinds.Kind.{Kind}
use Rattle.iso_transport.specs.declared.key.IsoKey.{IsoKey}
use Rattle.iso_transport.specs.Audience.{key_of}
use Rattle.tag_block.specs.declared.group_key.GroupKey.{GroupKey}
use Rattle.tag_block.specs.declared.group_part.GroupPart.{GroupPart}
use Rattle.history.specs.Known.{Known}
use Rattle.history.specs.Heard.{Taken, same_group, precedes_group, several, key_with, group_keys, group_open}
use Rattle.history.specs.Traces.{NotedFrame, is_transport}
use Rattle.history.specs.Opens.{is_fast, same_fast, same_iso, precedes_fast, precedes_iso, with_key, fast_keys, iso_keys, fast_open, iso_open}
use Rattle.history.specs.CountLaws.{HoldsFast, HoldsIso, HoldsGroups}
use Rattle.history.specs.ListLaws.{SlotsListFast, SlotsListIso, SlotsListGroups}
use Rattle.history.proofs.KeyLists.{IsSorted, sorted_placed, listed, ended}
use Rattle.history.proofs.FastCounts as fast
use Rattle.history.proofs.IsoCounts as iso
use Rattle.history.proofs.GroupCounts as groups
use Rattle.claim_table.specs.declared.answer.Holder.{Holder}

module _ (kinds : ℕ → Kind) (cmp : FastKey → FastKey → Ordering) (holders : List (Option Holder)) (notes : List NotedFrame) (m : ℕ) (slots : SlotMap FastKey) (h : HoldsFast kinds cmp holders notes m slots)
    (sorts : (a b : FastKey) → precedes_fast a b ≡ is_lt (cmp a b)) where
  fast_sorted : (ns : List NotedFrame) → IsSorted cmp h.order (fast_keys kinds ns)
  fast_sorted [] = tt
  fast_sorted (n ∷ ns) = by (is_fast (kinds n.parts.pgn)) (fast_sorted ns)
    where
      by : (b : Bool) → IsSorted cmp h.order (fast_keys kinds ns)
          → IsSorted cmp h.order (if b then with_key same_fast precedes_fast (record { source = n.parts.source; pgn = n.parts.pgn }) (fast_keys kinds ns) else fast_keys kinds ns)
      by true rest = sorted_placed cmp h.order same_fast precedes_fast h.tells sorts (record { source = n.parts.source; pgn = n.parts.pgn }) (fast_keys kinds ns) rest
      by false rest = rest

pub slots_list_fast : SlotsListFast
slots_list_fast kinds cmp holders notes m slots h sorts = record {
  passing = λ p q tests. listed (fast.held kinds cmp holders notes m slots h) (fast_sorted kinds cmp holders notes m slots h sorts notes) p q tests;
  ending = λ is_meant after n q tests.
      ended (fast.held kinds cmp holders notes m slots h) (fast_sorted kinds cmp holders notes m slots h sorts notes) is_meant (λ key. is_none (fast_open after notes key n)) q tests;
}

module _ (cmp : IsoKey → IsoKey → Ordering) (k : Known) (notes : List NotedFrame) (m : ℕ) (slots : SlotMap IsoKey) (h : HoldsIso cmp k notes m slots)
    (sorts : (a b : IsoKey) → precedes_iso a b ≡ is_lt (cmp a b)) where
  iso_sorted : (ns : List NotedFrame) → IsSorted cmp h.order (iso_keys ns)
  iso_sorted [] = tt
  iso_sorted (n ∷ ns) = by (is_transport n.parts) (iso_sorted ns)
    where
      by : (b : Bool) → IsSorted cmp h.order (iso_keys ns) → IsSorted cmp h.order (if b then with_key same_iso precedes_iso (key_of n.parts) (iso_keys ns) else iso_keys ns)
      by true rest = sorted_placed cmp h.order same_iso precedes_iso h.tells sorts (key_of n.parts) (iso_keys ns) rest
      by false rest = rest

pub slots_list_iso : SlotsListIso
slots_list_iso cmp k notes m slots h sorts = record {
  passing = λ p q tests. listed (iso.held cmp k notes m slots h) (iso_sorted cmp k notes m slots h sorts notes) p q tests;
  ending = λ is_meant after n q tests.
      ended (iso.held cmp k notes m slots h) (iso_sorted cmp k notes m slots h sorts notes) is_meant (λ key. is_none (iso_open after notes key n)) q tests;
}

module _ (cmp : GroupKey → GroupKey → Ordering) (lines : List Taken) (m : ℕ) (slots : SlotMap GroupKey) (h : HoldsGroups cmp lines m slots)
    (sorts : (a b : GroupKey) → precedes_group a b ≡ is_lt (cmp a b)) where
  groups_sorted : (ts : List Taken) → IsSorted cmp h.order (group_keys ts)
  groups_sorted [] = tt
  groups_sorted (t ∷ ts) = by (several t.group) (groups_sorted ts)
    where
      by : (part : Option GroupPart) → IsSorted cmp h.order (group_keys ts) → IsSorted cmp h.order (key_with t.source part (group_keys ts))
      by None rest = rest
      by (Some part) rest = sorted_placed cmp h.order same_group precedes_group h.tells sorts (record { sfi = t.source; code = part.code }) (group_keys ts) rest

pub slots_list_groups : SlotsListGroups
slots_list_groups cmp lines m slots h sorts = record {
  passing = λ p q tests. listed (groups.held cmp lines m slots h) (groups_sorted cmp lines m slots h sorts lines) p q tests;
  ending = λ n q tests.
      ended (groups.held cmp lines m slots h) (groups_sorted cmp lines m slots h sorts lines) (λ key. true) (λ key. is_none (group_open lines key n)) q tests;
}
