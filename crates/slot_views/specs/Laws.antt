-- What is promised of entries that end.
use Rattle.std.specs.Prelude.{◌≡◌, Bool, true, false, Some, None}
use Rattle.std.specs.List.{find}
use Rattle.std.specs.BTreeMap.{is_at}
use Rattle.std.specs.declared.cmp.Ordering.{Ordering}
use Rattle.slot_views.specs.Slots.{Entry, SlotMap, IsMap, Changes, entry_at, released, without}

module _ {K : Type 0} where
  -- keys that stand at one place are one key
  pub record TellsApart (cmp : K → K → Ordering) : Type 0 where
    pub same : (k j : K) → is_at (cmp k) j ≡ true → j ≡ k

  -- the first entry that passes a test is taken out, and no other changes; where none passes, nothing changes
  pub record EndsTheFirst (cmp : K → K → Ordering) : Type 0 where
    pub ended : (s : SlotMap K) (p : K × Entry → Bool) (e : K × Entry) → IsMap cmp s → find p s.entries ≡ Some e
        → (p e ≡ true) × (entry_at cmp s e.0 ≡ Some e.1) × Changes cmp s (without s p) e.0 None
    pub none : (s : SlotMap K) (p : K × Entry → Bool) → find p s.entries ≡ None
        → (without s p ≡ s) × ((k : K) (e : Entry) → entry_at cmp s k ≡ Some e → p (k, e) ≡ false)
    -- so it is with a key that is given up
    pub released : (s : SlotMap K) (k : K) → IsMap cmp s → Changes cmp s (released cmp s k) k None
