-- The table of the classes of bytes says what the definitions say of each.
use Rattle.std.proofs.Common.{◌≡◌, ℕ, ◌<◌, eqb, get_or}
use Rattle.std.specs.Prelude.{nat_le}
use Rattle.sentence_text.proofs.Classes.{same_below}
use Rattle.tag_block.specs.Tag.{is_code_byte, is_value_byte}
use Rattle.tag_block.specs.declared.byte.TheConstants.{CLASSES}

pub code_is : (c : ℕ) → c < 256 → eqb (get_or CLASSES c 0) 99 ≡ is_code_byte c
code_is c below = same_below (λ b. eqb (get_or CLASSES b 0) 99) is_code_byte 256 c tt below

pub value_is : (c : ℕ) → c < 256 → nat_le 99 (get_or CLASSES c 0) ≡ is_value_byte c
value_is c below = same_below (λ b. nat_le 99 (get_or CLASSES b 0)) is_value_byte 256 c tt below
