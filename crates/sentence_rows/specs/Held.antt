-- Where the readings of a sentence lie once it is read.
use Rattle.std.specs.Prelude.{◌≡◌, List, [], Result, Ok, Err}
use Rattle.readings.specs.declared.reading.Reading.{Reading}
use Rattle.sentence_profile.specs.declared.fault.FieldFault.{FieldFault}
use Rattle.sentence_profile.specs.Reading.{Found, listed}

-- the list holds the readings that are found; or the answer is the fault, and the list is empty
abbrev pub IsHeld : Result (Unit {0}) FieldFault → List Reading → Result Found FieldFault → Type 0
IsHeld (Ok done) held found = listed found ≡ Ok held
IsHeld (Err f) held found = (listed found ≡ Err f) × (held ≡ [])
