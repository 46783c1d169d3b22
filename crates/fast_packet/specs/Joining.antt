-- What each call does to the assemblies of single keys.
use Rattle.std.specs.Prelude.{◌≡◌, ◌≤◌, not, List, ◌∷◌, length}
use Rattle.std.specs.List.{AllByRecursion}
use Rattle.std.specs.declared.cmp.Ordering.{Ordering}
use Rattle.slot_views.specs.Runs.{open_at}
use Rattle.slot_views.specs.RunLaws.{fed, finished}
use Rattle.slot_views.specs.Slots.{SlotMap, IsMap, Changes, entry_at, is_full}
use Rattle.fast_packet.specs.declared.key.FastKey.{FastKey}
use Rattle.fast_packet.specs.declared.answers.FastFed.{FastFed}
use Rattle.fast_packet.specs.FastRuns.{FastPiece, fast_rules}
use Rattle.fast_packet.specs.Assembly.{verdict, fed_after}
use Rattle.fast_packet.specs.Answers.{FeedGives}
use Rattle.fast_packet.specs.RunAssemblies.{assembly_at, left_by}
use Rattle.fast_packet.specs.Keys.{AnswerIs}

module _ (cmp : FastKey → FastKey → Ordering) where
  -- an opener is noted as admitted where there is room for its assembly
  abbrev pub IsNotedBy : SlotMap FastKey → FastKey → FastPiece → Type 0
  IsNotedBy s k x = x.admitted ≡ not (is_full cmp s k)

  -- a frame changes the assembly of its key alone, by what it is to it
  pub record FeedsItsKey : Type 0 where
    pub changes : (s : SlotMap FastKey) (k : FastKey) (x : FastPiece) → IsMap cmp s → IsNotedBy s k x
        → let o = entry_at cmp s k in Changes cmp s (fed_after cmp s k x.bytes x.moment) k (left_by (verdict o x.bytes) x o)

  -- where the key's assembly is that of the frames h of the key that are open just before one more frame, the answer to that is
  -- what they say, it leaves what they leave, and all else stays
  pub record StepsWithRuns : Type 0 where
    pub answer : (s : SlotMap FastKey) (k : FastKey) (h : List FastPiece) (x : FastPiece) (result : FastFed) → AllByRecursion (λ x. length x.bytes ≤ 8) (x ∷ h)
        → let q = open_at fast_rules h x.moment in entry_at cmp s k ≡ assembly_at q → IsNotedBy s k x
        → FeedGives cmp s k x.bytes x.moment result → AnswerIs q x (finished fast_rules q x) result
    pub changes : (s : SlotMap FastKey) (k : FastKey) (h : List FastPiece) (x : FastPiece) → AllByRecursion (λ x. length x.bytes ≤ 8) (x ∷ h)
        → let q = open_at fast_rules h x.moment in entry_at cmp s k ≡ assembly_at q → IsNotedBy s k x
        → IsMap cmp s → Changes cmp s (fed_after cmp s k x.bytes x.moment) k (assembly_at (fed fast_rules q x))
