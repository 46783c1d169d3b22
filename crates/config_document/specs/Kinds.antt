-- The kinds of values: what a value of TOML says, or what is wrong with it.
use Rattle.std.specs.Prelude.{ℕ, suc, ℤ, pos, negsuc, Bool, true, ◌&&◌, nat_le, List, [], ◌∷◌, Option, Some, None, is_some, ok_or, Result, Ok, Err, if◌then◌else◌}
use Rattle.arrayvec.specs.ArrayVec.{ArrayVec}
use Rattle.toml.specs.Data.{Data, Items, no_items, item, as_array, as_bool, as_integer, as_str, as_table, table, Members, no_members}
use Rattle.config_document.specs.declared.fault.Flaw.{Flaw}
use Rattle.config_document.specs.declared.fault.Flaw.TheVariants as flaw

infixl 10 ◌>>=◌
abbrev pub ◌>>=◌ : {A B : Type 0} → Result A Flaw → (A → Result B Flaw) → Result B Flaw
(Ok x) >>= f = f x
(Err e) >>= f = Err e

-- a value of this type of TOML
abbrev pub kind : {A : Type 0} → Option A → Result A Flaw
kind found = ok_or found flaw.Kind

-- a value that its key may have
abbrev pub range : {A : Type 0} → Option A → Result A Flaw
range found = ok_or found flaw.Range

-- a whole number from the least to the most
abbrev pub within : ℕ → ℕ → ℤ → Option ℕ
within least most (pos n) = if nat_le least n && nat_le n most then Some n else None
within least most (negsuc n) = None

abbrev pub number_in : ℕ → ℕ → Data → Result ℕ Flaw
number_in least most value = do
  n ← kind (as_integer value)
  range (within least most n)

abbrev pub truth_in : Data → Result Bool Flaw
truth_in value = kind (as_bool value)

-- a text, by what texts say
abbrev pub text_in : {A : Type 0} → (List ℕ → Option A) → Data → Result A Flaw
text_in said_by value = do
  text ← kind (as_str value)
  range (said_by text)

-- texts, and nothing else
abbrev pub are_texts : Items → Bool
are_texts no_items = true
are_texts (item value more) = is_some (as_str value) && are_texts more

infixl 10 ◌>>?◌
abbrev pub ◌>>?◌ : {A B : Type 0} → Option A → (A → Option B) → Option B
None >>? f = None
(Some x) >>? f = f x

-- what each of the texts says
abbrev pub each_said : {A : Type 0} → (List ℕ → Option A) → Items → Option (List A)
each_said said_by no_items = Some []
each_said said_by (item value more) = as_str value >>? λ text. said_by text >>? λ said. each_said said_by more >>? λ others. Some (said ∷ others)

-- how many values stand in a list
abbrev pub count : Items → ℕ
count no_items = 0
count (item value more) = suc (count more)

abbrev pub said_in : {A : Type 0} → (List ℕ → Option A) → ℕ → Items → Option (ArrayVec A)
said_in said_by most values =
    if nat_le (count values) most then (each_said said_by values >>? λ list. Some (record { items = list })) else None

-- at most so many texts: a value of another type comes before all else that may be wrong
abbrev pub list_in : {A : Type 0} → (List ℕ → Option A) → ℕ → Data → Result (ArrayVec A) Flaw
list_in said_by most value = do
  values ← kind (as_array value)
  if are_texts values then range (said_in said_by most values) else Err flaw.Kind

-- tables, and nothing else
abbrev pub are_tables : Items → Bool
are_tables no_items = true
are_tables (item value more) = is_some (as_table value) && are_tables more

-- the keys of a table
abbrev pub members_in : Data → Members
members_in (table members) = members
members_in value = no_members

abbrev pub each_members : Items → List Members
each_members no_items = []
each_members (item value more) = members_in value ∷ each_members more

-- a list of at most so many tables
abbrev pub tables_in : ℕ → Data → Result (List Members) Flaw
tables_in most value = do
  values ← kind (as_array value)
  if are_tables values then (if nat_le (count values) most then Ok (each_members values) else Err flaw.Range) else Err flaw.Kind
