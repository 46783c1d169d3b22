-- What can be wrong with a configuration, with the key by its path, and the line that says it.
use Rattle.std.specs.Prelude.{ℕ, List, ◌++◌, take, codes, Option, Some, None}
use Rattle.arrayvec.specs.ArrayVec.{ArrayVec}
use Rattle.config_document.specs.declared.fault.Flaw.{Flaw}
use Rattle.config_document.specs.declared.fault.Flaw.TheVariants as flaw
use Rattle.config_document.specs.declared.fault.ConfigFault.{ConfigFault}
use Rattle.config_document.specs.declared.fault.ConfigFault.TheVariants as fault

-- as much of a path as is shown
unfoldable pub cut : List ℕ → List ℕ
cut path = take 128 path

abbrev pub key_of : List ℕ → ArrayVec ℕ
key_of path = record { items = cut path }

abbrev pub fault_at : Flaw → List ℕ → ConfigFault
fault_at flaw.Kind path = fault.Kind (key_of path)
fault_at flaw.Range path = fault.Range (key_of path)
fault_at flaw.Twice path = fault.Twice (key_of path)

abbrev said : List ℕ → ArrayVec ℕ → Option (List ℕ)
said wrong key = Some (codes "config: " ++ wrong ++ key.items)

abbrev pub line_of : ConfigFault → Option (List ℕ)
line_of fault.NotToml = Some (codes "config: not toml")
line_of (fault.Missing key) = said (codes "missing ") key
line_of (fault.Kind key) = said (codes "kind ") key
line_of (fault.Range key) = said (codes "range ") key
line_of (fault.Twice key) = said (codes "twice ") key
line_of (fault.Unknown key) = said (codes "unknown ") key
line_of fault.Memory = None

-- a key that has to be there isn't
abbrev pub missing : List ℕ → ConfigFault
missing path = fault.Missing (key_of path)
