-- How the keys of the maps are compared: so that each map lists its keys in the order in which they are reported.
use Rattle.std.specs.Prelude.{◌≡◌, Bool}
use Rattle.std.specs.Cmp.{IsTotalOrder}
use Rattle.std.specs.Ordering.{is_lt}
use Rattle.std.specs.BTreeMap.{is_at}
use Rattle.std.specs.declared.cmp.Ordering.{Ordering}
use Rattle.fast_packet.specs.declared.key.FastKey.{FastKey}
use Rattle.iso_transport.specs.declared.key.IsoKey.{IsoKey}
use Rattle.tag_block.specs.declared.group_key.GroupKey.{GroupKey}
use Rattle.history.specs.Opens.{same_fast, precedes_fast, same_iso, precedes_iso}
use Rattle.history.specs.Heard.{same_group, precedes_group}

-- an order of keys that tells them apart as one test does, and is the one in which another puts them
pub record Orders {K : Type 0} (same precedes : K → K → Bool) (cmp : K → K → Ordering) : Type 0 where
  pub order : IsTotalOrder cmp
  pub tells : (a b : K) → is_at (cmp a) b ≡ same a b
  pub precedes_so : (a b : K) → precedes a b ≡ is_lt (cmp a b)

abbrev pub OrdersFast : (FastKey → FastKey → Ordering) → Type 0
OrdersFast cmp = Orders same_fast precedes_fast cmp

abbrev pub OrdersIso : (IsoKey → IsoKey → Ordering) → Type 0
OrdersIso cmp = Orders same_iso precedes_iso cmp

abbrev pub OrdersGroups : (GroupKey → GroupKey → Ordering) → Type 0
OrdersGroups cmp = Orders same_group precedes_group cmp
