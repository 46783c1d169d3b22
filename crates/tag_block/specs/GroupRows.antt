-- What becomes of the assembler once a view has ended.
use Rattle.std.specs.Prelude.{◌≡◌, ⊤}
use Rattle.std.specs.Borrow.{Fml, MutBor, follows_so}
use mathlib.Core.Option.{none}
use Rattle.slot_views.specs.Slots.{SlotMap}
use Rattle.tag_block.specs.declared.group_key.GroupKey.{GroupKey}
use Rattle.tag_block.specs.contracts.group_assembler.GroupAssembler.{the_row}

-- the assembler behind s ends as this map
abbrev pub ends_as : MutBor (SlotMap GroupKey) → SlotMap GroupKey → Fml
ends_as s m = follows_so the_row the_row s.ghost_name none (λ _ _. ⊤) (λ n. n ≡ m)
