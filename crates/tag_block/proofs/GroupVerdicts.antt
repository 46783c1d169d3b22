-- What follows from what a line is.
use Rattle.std.proofs.Common.{◌≡◌, ◌+◌, ◌==◌, Bool, true, false, Option, Some, None, refl, sym}
use Rattle.std.proofs.lemmas.Bool.{eqb-true, and_parts}
use Rattle.slot_views.specs.Slots.{Entry}
use Rattle.tag_block.specs.declared.group_part.GroupPart.{GroupPart}
use Rattle.tag_block.specs.declared.group_verdict.GroupVerdict.{GroupVerdict}
use Rattle.tag_block.specs.declared.group_verdict.GroupVerdict.TheVariants.{Opens, Follows, Breaks}
use Rattle.tag_block.specs.Groups.{follows, verdict, IsNext, VerdictFits}

next_from : (o : Option Entry) (part : GroupPart) → Follows ≡ verdict o part → IsNext o part
next_from o part is = by o (part.number == 1) refl refl
  where
    held : (e : Entry) (f : Bool) → o ≡ Some e → (part.number == 1) ≡ false → follows e part ≡ f → IsNext o part
    held e true eo en ef =
        let number = (and_parts (e.need == part.total) ((e.next + 1) == part.number) ef).1 in
        record { entry = e; held = eo; number = sym (eqb-true (e.next + 1) part.number number) }
    held e false eo en ef = let other : Follows ≡ Breaks = rw (eo, en, ef) at is in cc

    by : (q : Option Entry) (n : Bool) → o ≡ q → (part.number == 1) ≡ n → IsNext o part
    by q true eo en = let other : Follows ≡ Opens = rw en at is in cc
    by None false eo en = let other : Follows ≡ Breaks = rw (eo, en) at is in cc
    by (Some e) false eo en = held e (follows e part) eo en refl

pub fits_from : (o : Option Entry) (part : GroupPart) (r : GroupVerdict) → r ≡ verdict o part → VerdictFits o part r
fits_from o part Opens is = tt
fits_from o part Follows is = next_from o part is
fits_from o part Breaks is = tt
