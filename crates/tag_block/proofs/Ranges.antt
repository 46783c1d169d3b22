-- What blocks say is in its ranges.
use Rattle.std.proofs.Common.{◌≡◌, ℕ, ◌≤◌, List, take, Option, Some, None, Result, Ok, Err, subst, sym, arith}
use Rattle.std.specs.Prelude.{IfSome, IfOk}
use Rattle.std.proofs.lemmas.Str.Parse.{digits_value_short}
use Rattle.tag_block.specs.declared.fault.TagFault.{TagFault}
use Rattle.tag_block.specs.declared.tag.Tag.{Tag}
use Rattle.tag_block.specs.declared.group_part.GroupPart.{GroupPart}
use Rattle.tag_block.specs.Tag.{IsNumber, IsGroupText, IsGroupRead, most_count, Said, IsTag, IsGroupOf, IsCountOf, IsSaid, standing}
use Rattle.tag_block.specs.Reading.{read, said, seen}
use Rattle.tag_block.proofs.Laws.{fronts}
use Rattle.tag_block.proofs.Written.{own}

group_range : (part : GroupPart) (text : List ℕ) → IsGroupText part text → IsGroupRead part
group_range part text h = record {
  first = h.first;
  within = h.within;
  most = h.most;
  positive = h.positive;
  small = omega (arith, h.code.value, digits_value_short own h.digits 4 h.code.digits h.code.few);
}

group_ranges : (text : Option (List ℕ)) (group : Option GroupPart) → IsGroupOf text group → IfSome group IsGroupRead
group_ranges None group h = subst (λ (g : Option GroupPart). IfSome g IsGroupRead) (sym h) tt
group_ranges (Some text) group h = subst (λ (g : Option GroupPart). IfSome g IsGroupRead) (sym h.1) (group_range h.0 text h.2)

abbrev IsSmall : ℕ → Type 0
IsSmall n = n ≤ most_count

count_range : (n : ℕ) (text : List ℕ) → IsNumber 3 n text → IsSmall n
count_range n text h = omega (arith, h.value, digits_value_short own text 3 h.digits h.few)

count_ranges : (text : Option (List ℕ)) (count : Option ℕ) → IsCountOf text count → IfSome count IsSmall
count_ranges None count h = subst (λ (k : Option ℕ). IfSome k IsSmall) (sym h) tt
count_ranges (Some text) count h = subst (λ (k : Option ℕ). IfSome k IsSmall) (sym h.1) (count_range h.0 text h.2)

pub said_ranges : (said : Said) (bytes : List ℕ) → IsTag said bytes → IsSaid said
said_ranges said bytes h = record {
  source = h.is_sfi;
  group = group_ranges (standing h.blocks).group said.group h.group;
  count = count_ranges (standing h.blocks).count said.count h.count;
}

pub are_ranges : (line : List ℕ) (result : Result (Tag × ℕ) TagFault) → seen result ≡ read line → IfOk result (λ t. IsSaid (said t.0))
are_ranges line (Ok t) e = said_ranges (said t.0) (take t.1 line) (fronts line (said t.0) t.1 (sym e)).is
are_ranges line (Err f) e = tt
