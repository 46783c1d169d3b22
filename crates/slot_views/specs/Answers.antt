-- What the answers say of the map before the call.
use Rattle.std.specs.Prelude.{◌≡◌, ◌≢◌, ℕ, true, false, List, length, None, IsSomeAnd}
use Rattle.std.specs.declared.cmp.Ordering.{Ordering}
use Rattle.slot_views.specs.declared.answers.Begun.{Begun}
use Rattle.slot_views.specs.declared.answers.Begun.TheVariants.{Full, Held as BegunHeld, Complete as BegunComplete}
use Rattle.slot_views.specs.declared.answers.Grown.{Grown}
use Rattle.slot_views.specs.declared.answers.Grown.TheVariants.{Absent, NotNext, Held as GrownHeld, Complete as GrownComplete}
use Rattle.slot_views.specs.declared.answers.View.{View}
use Rattle.slot_views.specs.declared.answers.Kept.{Kept}
use Rattle.slot_views.specs.declared.answers.Ended.{Ended}
use Rattle.slot_views.specs.Slots.{Entry, SlotMap, entry_at, is_held, is_full, is_complete}

-- the view lends the bytes of the finished entry, and has its mark
pub record Shows (view : View) (e : Entry) : Type 0 where
  pub bytes : view.bytes.now ≡ e.bytes
  pub mark : view.mark ≡ e.mark

-- the entry that was taken out
abbrev pub ended_of : {K : Type 0} → K × Entry → Ended K
ended_of e = record { key = e.0; mark = e.1.mark }

-- what `kept` tells of an entry
abbrev pub kept_of : Entry → Kept
kept_of e = record { next = e.next; need = e.need; length = length e.bytes; mark = e.mark }

-- an entry by what `kept` tells of it and its bytes; when its last piece came plays no part in what the next one is to it
abbrev pub as_entry : Kept → List ℕ → Entry
as_entry kept held = record { bytes = held; next = kept.next; need = kept.need; last = 0; gap = 0; mark = kept.mark }

module _ {K : Type 0} (cmp : K → K → Ordering) (s : SlotMap K) (k : K) where
  -- `begin`, with the entry as it opens
  abbrev pub BeginGives : Entry → Begun → Type 0
  BeginGives e Full = is_full cmp s k ≡ true
  BeginGives e (BegunHeld replaced) = (is_full cmp s k ≡ false) × (is_complete e ≡ false) × (replaced ≡ is_held cmp s k)
  BeginGives e (BegunComplete replaced view) = (is_full cmp s k ≡ false) × (is_complete e ≡ true) × (replaced ≡ is_held cmp s k) × Shows view e

  -- `grow`, with what the entry is with the piece
  abbrev pub GrowGives : ℕ → (Entry → Entry) → Grown → Type 0
  GrowGives next more Absent = entry_at cmp s k ≡ None
  GrowGives next more (NotNext n) = IsSomeAnd (entry_at cmp s k) (λ e. (n ≡ e.next) × (e.next ≢ next))
  GrowGives next more GrownHeld = IsSomeAnd (entry_at cmp s k) (λ e. (e.next ≡ next) × (is_complete (more e) ≡ false))
  GrowGives next more (GrownComplete view) = IsSomeAnd (entry_at cmp s k) (λ e. (e.next ≡ next) × (is_complete (more e) ≡ true) × Shows view (more e))
