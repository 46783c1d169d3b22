-- A table of the document, and the paths of its keys.
use Rattle.std.specs.Prelude.{◌≡◌, ℕ, List, ◌++◌, map, Option, Some, None, Result, Ok, Err, String}
use Rattle.std.specs.Borrow.{Bor}
use Rattle.std.specs.BTreeMap.{BTreeMap}
use Rattle.std.specs.declared.alloc.Global.{Global}
use Rattle.toml.specs.Data.{Members, no_members}
use Rattle.toml.specs.View.{table_view, view}
use Rattle.toml.specs.declared.value.Value.{Value}
use Rattle.config_document.specs.Kinds.{members_in}
use Rattle.config_document.specs.declared.fault.Flaw.{Flaw}
use Rattle.config_document.specs.declared.section.Section.{Section}

pub record Place : Type 0 where
  -- the path of the table and a point
  pub prefix : List ℕ
  pub members : Members

-- the path of a key
abbrev pub path_of : Place → List ℕ → List ℕ
path_of place name = place.prefix ++ name

-- a table that isn't there has no keys
abbrev pub members_of : Option (Bor (BTreeMap (String Global) Value)) → Members
members_of None = no_members
members_of (Some table) = table_view table.now

-- what code sees as a section
abbrev pub place_of : Section → Place
place_of section = record { prefix = section.prefix.now; members = members_of section.table }

-- the keys of a value that is a table
abbrev pub members_seen : Value → Members
members_seen value = members_in (view value)

-- what code sees as a list of tables
abbrev pub SeesTables : Result (Bor (List Value)) Flaw → Result (List Members) Flaw → Type 0
SeesTables (Ok values) given = given ≡ Ok (map members_seen values.now)
SeesTables (Err flaw) given = given ≡ Err flaw
