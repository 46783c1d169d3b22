-- What the keys of a table hold: a value of a kind or none, or the fault with the key's path.
use Rattle.std.specs.Prelude.{◌≡◌, ℕ, Bool, List, [], Option, Some, None, Result, Ok, Err}
use Rattle.arrayvec.specs.ArrayVec.{ArrayVec}
use Rattle.toml.specs.Data.{Data, Members, as_table, get_member}
use Rattle.config_document.specs.declared.fault.Flaw.{Flaw}
use Rattle.config_document.specs.declared.fault.ConfigFault.{ConfigFault}
use Rattle.config_document.specs.Faults.{fault_at, missing}
use Rattle.config_document.specs.Kinds.{kind, list_in, number_in, tables_in, text_in, truth_in}
use Rattle.config_document.specs.Places.{Place, path_of}

-- What a function returned, seen by view, is what the definition gives.
abbrev pub Sees : {X Y : Type 0} → (X → Y) → Result X ConfigFault → Result Y ConfigFault → Type 0
Sees view (Ok x) given = given ≡ Ok (view x)
Sees view (Err fault) given = given ≡ Err fault

-- the fault of a value is one of its key
abbrev pub at_path : {A : Type 0} → List ℕ → Result A Flaw → Result A ConfigFault
at_path path (Ok x) = Ok x
at_path path (Err f) = Err (fault_at f path)

abbrev pub some : {A : Type 0} → Result A ConfigFault → Result (Option A) ConfigFault
some (Ok x) = Ok (Some x)
some (Err f) = Err f

abbrev pub held : {A : Type 0} → (Data → Result A Flaw) → List ℕ → Option Data → Result (Option A) ConfigFault
held read path None = Ok None
held read path (Some value) = some (at_path path (read value))

-- what a key holds, of the kind that is read so
abbrev pub key_at : {A : Type 0} → (Data → Result A Flaw) → Place → List ℕ → Result (Option A) ConfigFault
key_at read place name = held read (path_of place name) (get_member name place.members)

abbrev pub required : {A : Type 0} → Place → List ℕ → Option A → Result A ConfigFault
required place name (Some x) = Ok x
required place name None = Err (missing (path_of place name))

abbrev pub number_at : ℕ → ℕ → Place → List ℕ → Result (Option ℕ) ConfigFault
number_at least most place name = key_at (number_in least most) place name

abbrev pub truth_at : Place → List ℕ → Result (Option Bool) ConfigFault
truth_at place name = key_at truth_in place name

abbrev pub text_at : {A : Type 0} → (List ℕ → Option A) → Place → List ℕ → Result (Option A) ConfigFault
text_at said_by place name = key_at (text_in said_by) place name

-- a list that isn't there has no items
abbrev listed : {A : Type 0} → Result (Option (ArrayVec A)) ConfigFault → Result (ArrayVec A) ConfigFault
listed (Ok None) = Ok (record { items = [] })
listed (Ok (Some list)) = Ok list
listed (Err f) = Err f

abbrev pub list_at : {A : Type 0} → (List ℕ → Option A) → ℕ → Place → List ℕ → Result (ArrayVec A) ConfigFault
list_at said_by most place name = listed (key_at (list_in said_by most) place name)

abbrev pub table_at : Place → List ℕ → Result (Option Members) ConfigFault
table_at place name = key_at (λ value. kind (as_table value)) place name

-- a list that isn't there has no tables
abbrev each : Result (Option (List Members)) ConfigFault → Result (List Members) ConfigFault
each (Ok None) = Ok []
each (Ok (Some tables)) = Ok tables
each (Err f) = Err f

abbrev pub tables_at : ℕ → Place → List ℕ → Result (List Members) ConfigFault
tables_at most place name = each (key_at (tables_in most) place name)
