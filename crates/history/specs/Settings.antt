-- How a gateway is configured, as plain values.
use Rattle.std.specs.Cmp.Lexicographic.{pointwise}
use Rattle.std.specs.Prelude.{nat_eq, ℕ, zero, suc, Bool, false, ◌==◌, List, [], ◌∷◌, Option, Some, None}
use Rattle.n2k_id.specs.declared.pattern.Pattern.{Pattern}
use Rattle.claim_table.specs.declared.preset.Preset.{Preset}
use Rattle.readings.specs.declared.rows.Row.{Row}
use Rattle.readings.specs.Rows.{row_number}
use Rattle.pgn_profile.specs.Profiled.{kind_of}
use Rattle.sentence_profile.specs.declared.optional.OptionalSentences.{OptionalSentences}
use Rattle.sentence_profile.specs.Reading.{usual}
use Rattle.pgn_profile.specs.declared.kinds.Kind.{Kind}

-- there is something that passes a test
abbrev pub is_some_that : {A : Type 0} → (A → Bool) → Option A → Bool
is_some_that passes None = false
is_some_that passes (Some x) = passes x

-- which of the sentences are read that a configuration decides on, and what it decides where it says nothing
abbrev pub SentenceChoice : Type 0
SentenceChoice = OptionalSentences

abbrev pub usual_sentences : SentenceChoice
usual_sentences = usual

-- whom a row is taken from, and to whom it is said
pub record RowRule : Type 0 where
  -- the devices in their order of preference, and whether others are taken after them
  pub sources : List Pattern
  pub others : Bool
  -- the devices that it isn't taken from, though they be listed or others be taken
  pub ignored : List Pattern
  -- how long a source counts after its last usable message, in milliseconds
  pub timeout : ℕ
  pub talker : List ℕ
  -- the transmission group
  pub group : List ℕ

pub record Settings : Type 0 where
  -- the gateway's NAME, the address that it begins with, and its system function identifier
  pub name : ℕ
  pub address : ℕ
  pub sfi : List ℕ
  -- how many assemblies of each kind may be open
  pub fast_slots : ℕ
  pub iso_slots : ℕ
  pub group_slots : ℕ
  -- true heading is said in THS besides
  pub ths : Bool
  -- the devices whose addresses are known before they claim
  pub presets : List Preset
  -- one rule for each row, by the row's number
  pub rows : List RowRule
  -- whom the network is heard from, in order of preference
  pub net_sources : List (List ℕ)
  pub optional_sentences : SentenceChoice

-- two system function identifiers, or two transmission groups
abbrev pub same_text : List ℕ → List ℕ → Bool
same_text a b = pointwise nat_eq a b

abbrev pub same_row : Row → Row → Bool
same_row a b = row_number a == row_number b

-- a row without a rule is taken from nobody
abbrev pub no_rule : RowRule
no_rule = record { sources = []; others = false; ignored = []; timeout = 0; talker = []; group = [] }

abbrev pub rule_at : List RowRule → ℕ → RowRule
rule_at [] number = no_rule
rule_at (rule ∷ rules) zero = rule
rule_at (rule ∷ rules) (suc number) = rule_at rules number

abbrev pub rule_of : Settings → Row → RowRule
rule_of c row = rule_at c.rows (row_number row)

-- what a device is that takes messages from the bus: its NAME and address, whose addresses it knows at first, which PGNs are messages,
-- and how many may be open at once; the gateway is one
pub record Receiver : Type 0 where
  pub name : ℕ
  pub address : ℕ
  pub presets : List Preset
  -- how the messages of a PGN come: in one frame, as a fast packet, or not at all
  pub kinds : ℕ → Kind
  -- how many fast packets, and how many sessions of the transport protocol
  pub fast_slots : ℕ
  pub iso_slots : ℕ

abbrev pub receiver_of : Settings → Receiver
receiver_of c = record {
  name = c.name;
  address = c.address;
  presets = c.presets;
  kinds = kind_of;
  fast_slots = c.fast_slots;
  iso_slots = c.iso_slots;
}
