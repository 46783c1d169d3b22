-- The readings that are held are valid, as those that are found are.
use Rattle.std.proofs.Common.{◌≡◌, ℕ, List, [], ◌∷◌, refl, sym, subst, arith, All}
use Rattle.std.specs.Prelude.{Result, Ok, Err, Option, Some, None, option_to_list, IfOk, IfSome}
use Rattle.std.proofs.lemmas.List.Elements.{All-cons}
use Rattle.readings.specs.declared.reading.Reading.{Reading}
use Rattle.readings.specs.Rows.{IsValid}
use Rattle.sentence_profile.specs.declared.fault.FieldFault.{FieldFault}
use Rattle.sentence_profile.specs.declared.formatter.Formatter.{Formatter}
use Rattle.sentence_profile.specs.Reading.{AreValid, Found, listed, read_as}
use Rattle.sentence_profile.proofs.Valid.{valid_result}
use Rattle.sentence_rows.specs.Held.{IsHeld}

none_valid : All IsValid []
none_valid k d below = absurd (omega (arith, below))

rest_valid : (second : Option Reading) → IfSome second IsValid → All IsValid (option_to_list second)
rest_valid None is = none_valid
rest_valid (Some r) is = All-cons IsValid r [] is none_valid

found_valid : (done : Unit {0}) (readings : List Reading) (found : Result Found FieldFault) → IfOk found AreValid → listed found ≡ Ok readings → All IsValid readings
found_valid done readings (Err f) valid is = cc
found_valid done readings (Ok found) valid is =
    let same : found.0 ∷ option_to_list found.1 ≡ readings = cc in
    subst (All IsValid) same (All-cons IsValid found.0 (option_to_list found.1) valid.0 (rest_valid found.1 valid.1))

held_valid : (result : Result (Unit {0}) FieldFault) (readings : List Reading) (found : Result Found FieldFault) → IfOk found AreValid → IsHeld result readings found → All IsValid readings
held_valid (Ok done) readings found valid is = found_valid done readings found valid is
held_valid (Err f) readings found valid is = subst (All IsValid) (sym is.1) none_valid

pub read_valid : (formatter : Formatter) (f : List (List ℕ)) (result : Result (Unit {0}) FieldFault) (readings : List Reading)
    → IsHeld result readings (read_as formatter f) → All IsValid readings
read_valid formatter f result readings is = held_valid result readings (read_as formatter f) (valid_result formatter f (read_as formatter f) refl) is
