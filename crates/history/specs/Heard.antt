-- What is heard from the network (IEC 61162-450): the items of all datagrams, the lines that are taken of them, and the groups that
-- these make. Every list has the newest first.
use Rattle.std.specs.Prelude.{ℕ, Bool, true, false, ◌&&◌, ◌||◌, not, ◌==◌, nat_le, nat_lt, List, [], ◌∷◌, length, map, reverse, filter, filter_map, position, Option, Some, None, option_and_then, is_some, if◌then◌else◌}
use Rattle.slot_views.specs.Runs.{open_at, run_of}
use Rattle.tag_block.specs.declared.group_part.GroupPart.{GroupPart}
use Rattle.tag_block.specs.declared.group_key.GroupKey.{GroupKey}
use Rattle.tag_block.specs.Tag.{Said}
use Rattle.tag_block.specs.GroupRuns.{GroupLine, group_rules}
use Rattle.datagram450.specs.Datagram.{Item, line, bad}
use Rattle.history.specs.Settings.{Settings, same_text, is_some_that}
use Rattle.history.specs.Opens.{with_key}

-- of two texts the one whose first byte that differs is smaller, or that ends first
abbrev pub precedes_text : List ℕ → List ℕ → Bool
precedes_text [] [] = false
precedes_text [] (y ∷ ys) = true
precedes_text (x ∷ xs) [] = false
precedes_text (x ∷ xs) (y ∷ ys) = nat_lt x y || ((x == y) && precedes_text xs ys)

-- an item of a datagram, its place in it included: when it came, and whether the gateway was ready then
pub record HeardItem : Type 0 where
  pub moment : ℕ
  pub ready : Bool
  pub item : Item

-- the items of a datagram, in its order
abbrev pub heard_items : ℕ → Bool → List Item → List HeardItem
heard_items m ready items = map (λ i. record { moment = m; ready = ready; item = i }) items

-- with these too, which came one after another
abbrev pub with_each : {A : Type 0} → List A → List A → List A
with_each older [] = older
with_each older (x ∷ more) = with_each (x ∷ older) more

-- a line that is taken: when it came, and whether the gateway was ready then; its place in its datagram, its source, its place in a
-- group where it has one, its sentence, and whether there was room for a group that it opens
pub record Taken : Type 0 where
  pub moment : ℕ
  pub ready : Bool
  pub place : ℕ
  pub source : List ℕ
  pub group : Option GroupPart
  pub sentence : List ℕ
  pub admitted : Bool

-- ---- groups of lines (IEC 61162-450), by source and code

abbrev pub same_group : GroupKey → GroupKey → Bool
same_group a b = same_text a.sfi b.sfi && (a.code == b.code)

abbrev pub precedes_group : GroupKey → GroupKey → Bool
precedes_group a b = precedes_text a.sfi b.sfi || (same_text a.sfi b.sfi && nat_lt a.code b.code)

-- the place in a group of two lines or more
abbrev pub several : Option GroupPart → Option GroupPart
several part = option_and_then (λ x. if nat_le 2 x.total then Some x else None) part

abbrev pub group_line : Taken → GroupPart → GroupLine
group_line t part = record { moment = t.moment; part = part; sentence = t.sentence; admitted = t.admitted }

-- the line, where it is of the group
abbrev pub line_in : GroupKey → Taken → Option GroupPart → Option GroupLine
line_in key t part = option_and_then (λ x. if same_group key (record { sfi = t.source; code = x.code }) then Some (group_line t x) else None) part

-- the lines of a group
abbrev pub group_trace : GroupKey → List Taken → List GroupLine
group_trace key lines = filter_map (λ t. line_in key t (several t.group)) lines

abbrev pub key_with : List ℕ → Option GroupPart → List GroupKey → List GroupKey
key_with source None keys = keys
key_with source (Some part) keys = with_key same_group precedes_group (record { sfi = source; code = part.code }) keys

-- the groups whose lines came, by source and then by code
abbrev pub group_keys : List Taken → List GroupKey
group_keys [] = []
group_keys (t ∷ older) = key_with t.source (several t.group) (group_keys older)

abbrev pub group_open : List Taken → GroupKey → ℕ → Option (List GroupLine)
group_open lines key m = open_at group_rules (group_trace key lines) m

abbrev pub open_groups : List Taken → ℕ → List GroupKey
open_groups lines m = filter (λ key. is_some (group_open lines key m)) (group_keys lines)

-- a first line finds room where fewer of the other groups are open just before it than the limit
abbrev pub is_group_admitted : ℕ → List Taken → GroupKey → ℕ → Bool
is_group_admitted limit lines key m = nat_lt (length (filter (λ other. not (same_group other key)) (open_groups lines m))) limit

-- ---- the lines that are taken: those of listed sources that are for all or for the gateway, and not its own

-- the place of a source among those that are listed
abbrev pub place_of : Settings → List ℕ → Option ℕ
place_of c source = position (same_text source) c.net_sources

abbrev pub is_own_line : Settings → Said → Bool
is_own_line c said = same_text said.source c.sfi

-- a line without a destination is for all
abbrev pub is_elsewhere : Settings → Option (List ℕ) → Bool
is_elsewhere c destination = is_some_that (λ x. not (same_text x c.sfi)) destination

abbrev pub is_taken : Settings → Said → Bool
is_taken c said = not (is_own_line c said) && (not (is_elsewhere c said.destination) && is_some (place_of c said.source))

-- a line that is in no group needs no room
abbrev pub is_line_admitted : Settings → List Taken → List ℕ → Option GroupPart → ℕ → Bool
is_line_admitted c lines source None m = true
is_line_admitted c lines source (Some part) m = is_group_admitted c.group_slots lines (record { sfi = source; code = part.code }) m

-- the line as it is taken after these
abbrev pub taken_as : Settings → List Taken → HeardItem → ℕ → Said → List ℕ → Taken
taken_as c lines x place said sentence = record {
  moment = x.moment;
  ready = x.ready;
  place = place;
  source = said.source;
  group = said.group;
  sentence = sentence;
  admitted = is_line_admitted c lines said.source said.group x.moment;
}

abbrev pub with_item : Settings → List Taken → HeardItem → Item → List Taken
with_item c lines x (line place said sentence parts) = if is_taken c said then taken_as c lines x place said sentence ∷ lines else lines
with_item c lines x (bad rule place) = lines

-- of all items that came
abbrev pub taken_lines : Settings → List HeardItem → List Taken
taken_lines c [] = []
taken_lines c (x ∷ older) = with_item c (taken_lines c older) x x.item

-- ---- the sentences that the newest line hands over, in their order: its own, or those of the group that it ends

abbrev pub sentences_in : Option (List GroupLine) → List (List ℕ)
sentences_in None = []
sentences_in (Some lines) = reverse (map (λ l. l.sentence) lines)

abbrev pub handed_with : Taken → List Taken → Option GroupPart → List (List ℕ)
handed_with t older None = t.sentence ∷ []
handed_with t older (Some part) = sentences_in (run_of group_rules (group_trace (record { sfi = t.source; code = part.code }) (t ∷ older)))

abbrev pub handed_over : Taken → List Taken → List (List ℕ)
handed_over t older = handed_with t older (several t.group)
