-- The tables of a configuration, and one key after another: what is read is kept, and the first fault ends it.
use Rattle.std.specs.Prelude.{ℕ, ◌+◌, Bool, List, [], ◌∷◌, ◌++◌, codes, decimal, Option, unwrap_or, Result, Ok, Err, if◌then◌else◌}
use Rattle.arrayvec.specs.ArrayVec.{ArrayVec}
use Rattle.toml.specs.Data.{Members, no_members}
use Rattle.config_document.specs.declared.fault.Flaw.TheVariants as flaw
use Rattle.config_document.specs.declared.fault.ConfigFault.{ConfigFault}
use Rattle.config_document.specs.Faults.{fault_at}
use Rattle.config_document.specs.Keys.{required, table_at, tables_at}
use Rattle.config_document.specs.Places.{Place, path_of}

infixl 10 ◌>>=◌
abbrev pub ◌>>=◌ : {A B : Type 0} → Result A ConfigFault → (A → Result B ConfigFault) → Result B ConfigFault
(Ok x) >>= f = f x
(Err fault) >>= f = Err fault

-- the value of a key
abbrev pub Kind : Type 0 → Type 0
Kind A = Place → List ℕ → Result A ConfigFault

-- a key that has to be there
unfoldable pub needed : {A : Type 0} → Kind (Option A) → Kind A
needed kind place name = kind place name >>= λ found. required place name found

-- a key with a default
unfoldable pub default : {A : Type 0} → A → Kind (Option A) → Kind A
default other kind place name = kind place name >>= λ found. Ok (unwrap_or found other)

-- a value that may not stand a second time
unfoldable pub unless : {A : Type 0} → (A → Bool) → Kind A → Kind A
unless stands kind place name = kind place name >>= λ x. if stands x then Err (fault_at flaw.Twice (path_of place name)) else Ok x

-- A table: its name, the keys that it may have, and what they say beside what is read already.
pub record Table (E A : Type 0) : Type 0 where
  pub name : List ℕ
  pub known : List (List ℕ)
  pub read : E → Place → Result A ConfigFault

-- the table of this name, before its keys
abbrev pub table : {E A : Type 0} → List ℕ → A → Table E A
table name make = record { name = name; known = []; read = λ beside place. Ok make }

-- An entry: its names, what it reads beside what is read already, and by the order of the entries its place among the settings.
infixl 5 ◌&◌
abbrev pub ◌&◌ : {E A B : Type 0} → Table E (A → B) → List (List ℕ) × (E → Place → Result A ConfigFault) → Table E B
t & entry = record {
  name = t.name;
  known = t.known ++ entry.0;
  read = λ beside place. t.read beside place >>= λ make. entry.1 beside place >>= λ x. Ok (make x);
}

-- a key whose kind goes by what is read already
abbrev pub key_beside : {E A : Type 0} → List ℕ → (E → Kind A) → List (List ℕ) × (E → Place → Result A ConfigFault)
key_beside name kind = (name ∷ [], λ beside place. kind beside place name)

-- a key whose kind is the same beside all
abbrev pub key : {E A : Type 0} → List ℕ → Kind A → List (List ℕ) × (E → Place → Result A ConfigFault)
key name kind = key_beside name (λ beside. kind)

-- several keys, which stand in the table as they do in one of their own
abbrev pub keys_beside : {E D A : Type 0} → (E → D) → Table D A → List (List ℕ) × (E → Place → Result A ConfigFault)
keys_beside part_of part = (part.known, λ beside place. part.read (part_of beside) place)

abbrev pub keys : {E A : Type 0} → Table E A → List (List ℕ) × (E → Place → Result A ConfigFault)
keys part = keys_beside (λ beside. beside) part

-- what stands before the keys of a table of the document
abbrev pub prefix_of : List ℕ → List ℕ
prefix_of name = name ++ codes "."

-- the table at a key; one that isn't there has no keys
abbrev pub section_at : Place → List ℕ → List ℕ → Result Place ConfigFault
section_at place name prefix = table_at place name >>= λ found. Ok (record { prefix = prefix; members = unwrap_or found no_members })

-- what a table of the document says
abbrev pub table_in : {E A : Type 0} → Table E A → E → Place → Result A ConfigFault
table_in t beside document = section_at document t.name (prefix_of t.name) >>= t.read beside

-- what stands before the keys of a table within a table
abbrev pub key_prefix : List ℕ → List ℕ → List ℕ
key_prefix word name = word ++ name ++ codes "."

-- what is read of each of these, one after another
abbrev pub each_from : {X A : Type 0} → (X → Result A ConfigFault) → List A → List X → Result (List A) ConfigFault
each_from read earlier [] = Ok earlier
each_from read earlier (x ∷ more) = do
  value ← read x
  each_from read (earlier ++ value ∷ []) more

-- what stands before the keys of an item
abbrev pub item_prefix : List ℕ → ℕ → List ℕ
item_prefix word number = word ++ decimal number ++ codes "."

-- what the items of a list say, each beside those before it
abbrev pub items_from : {E A : Type 0} → Table (E × List A) A → E → ℕ → List A → List Members → Result (List A) ConfigFault
items_from t own number earlier [] = Ok earlier
items_from t own number earlier (members ∷ more) = do
  item ← t.read (own, earlier) (record { prefix = item_prefix (prefix_of t.name) number; members = members })
  items_from t own (number + 1) (earlier ++ item ∷ []) more

abbrev pub items_in : {E A : Type 0} → Table (E × List A) A → ℕ → E → Place → Result (ArrayVec A) ConfigFault
items_in t most own document = do
  tables ← tables_at most document t.name
  items ← items_from t own 1 [] tables
  Ok (record { items = items })
