-- What holds of every line that is taken, and of the lines of a group.
use Rattle.std.proofs.Common.{◌≡◌, ℕ, Bool, true, false, nat_le, List, [], ◌∷◌, refl, sym, ap, subst, ◌∙◌, is_some, is_none}
use Rattle.std.specs.Prelude.{Option, Some, None, IfSome, if◌then◌else◌}
use Rattle.std.specs.List.{AllByRecursion}
use Rattle.std.proofs.lemmas.Bool.{leb-true}
use Rattle.slot_views.specs.Runs.{open_at}
use Rattle.tag_block.specs.declared.group_key.GroupKey.{GroupKey}
use Rattle.tag_block.specs.declared.group_part.GroupPart.{GroupPart}
use Rattle.tag_block.specs.Groups.{IsGroupPart}
use Rattle.tag_block.specs.GroupRuns.{GroupLine, group_rules}
use Rattle.tag_block.specs.GroupLaws.{group_at}
use Rattle.tag_block.specs.Tag.{IsGroupRead}
use Rattle.tag_block.proofs.GroupPrefixes.{far_by}
use Rattle.datagram450.specs.Datagram.{IsLine, IsItem, Item, line, bad}
use Rattle.history.specs.Settings.{Settings}
use Rattle.history.specs.Heard.{HeardItem, Taken, same_group, several, group_line, group_trace, is_taken, taken_as, with_item, taken_lines}
use Rattle.gate_model.proofs.NetSentences.{sentence_is_line}

-- ---- what holds of every line that is taken

pub record IsHeard (t : Taken) : Type 0 where
  pub group : IfSome t.group IsGroupRead
  pub sentence : IsLine t.sentence

item_heard : (c : Settings) (lines : List Taken) (x : HeardItem) (i : Item) → IsItem i → AllByRecursion IsHeard lines → AllByRecursion IsHeard (with_item c lines x i)
item_heard c lines x (line place said sentence parts) is all = by (is_taken c said)
  where
    t : Taken
    t = taken_as c lines x place said sentence

    by : (b : Bool) → AllByRecursion IsHeard (if b then t ∷ lines else lines)
    by true = (record { group = is.ranges.group; sentence = sentence_is_line parts sentence is.sentence }, all)
    by false = all
item_heard c lines x (bad rule place) is all = all

pub all_heard : (c : Settings) (older : List HeardItem) → AllByRecursion (λ x. IsItem x.item) older → AllByRecursion IsHeard (taken_lines c older)
all_heard c [] all = tt
all_heard c (x ∷ older) all = item_heard c (taken_lines c older) x x.item all.0 (all_heard c older all.1)

pub several_is : (g : Option GroupPart) (part : GroupPart) → several g ≡ Some part → (g ≡ Some part) × (nat_le 2 part.total ≡ true)
several_is None part e = cc
several_is (Some p) part e = by (nat_le 2 p.total) refl e
  where
    by : (b : Bool) → nat_le 2 p.total ≡ b → (if b then Some p else None) ≡ Some part → (Some p ≡ Some part) × (nat_le 2 part.total ≡ true)
    by true le f = let same : p ≡ part = cc in (f, ap (λ (q : GroupPart). nat_le 2 q.total) (sym same) ∙ le)
    by false le f = cc

-- of each line of a group holds what holds of the lines that are taken
traced : (P : GroupLine → Type 0) (key : GroupKey) (lines : List Taken) → ((t : Taken) (part : GroupPart) → IsHeard t → several t.group ≡ Some part → P (group_line t part))
    → AllByRecursion IsHeard lines → AllByRecursion P (group_trace key lines)
traced P key [] holds all = tt
traced P key (t ∷ older) holds all = by (several t.group) refl (traced P key older holds all.1)
  where
    put : (part : GroupPart) → several t.group ≡ Some part → (b : Bool) → same_group key (record { sfi = t.source; code = part.code }) ≡ b
        → AllByRecursion P (group_trace key older) → AllByRecursion P (group_trace key (t ∷ older))
    put part e true same rest = rw (e, same) (holds t part all.0 e, rest)
    put part e false other rest = rw (e, other) rest

    by : (g : Option GroupPart) → several t.group ≡ g → AllByRecursion P (group_trace key older) → AllByRecursion P (group_trace key (t ∷ older))
    by None e rest = rw e rest
    by (Some part) e rest = put part e (same_group key (record { sfi = t.source; code = part.code })) refl rest

pub part_is : (t : Taken) (part : GroupPart) → IsHeard t → several t.group ≡ Some part → IsGroupPart part
part_is t part heard e =
    let is = several_is t.group part e in
    let read : IsGroupRead part = subst (λ (g : Option GroupPart). IfSome g IsGroupRead) is.0 heard.group in
    record { several = leb-true 2 part.total is.1; most = read.most; first = read.first; last = read.within }

pub valid_trace : (key : GroupKey) (lines : List Taken) → AllByRecursion IsHeard lines → AllByRecursion (λ x. IsGroupPart x.part) (group_trace key lines)
valid_trace key lines all = traced (λ x. IsGroupPart x.part) key lines part_is all

pub line_trace : (key : GroupKey) (lines : List Taken) → AllByRecursion IsHeard lines → AllByRecursion (λ x. IsLine x.sentence) (group_trace key lines)
line_trace key lines all = traced (λ x. IsLine x.sentence) key lines (λ t part heard e. heard.sentence) all

-- what is open has lines, and so is held
pub some_is : (h : List GroupLine) (m : ℕ) → AllByRecursion (λ x. IsGroupPart x.part) h → (q : Option (List GroupLine)) → open_at group_rules h m ≡ q → is_some (group_at q) ≡ is_some q
some_is h m valid None e = refl
some_is h m valid (Some []) e = absurd (far_by h valid m [] e).0
some_is h m valid (Some (y ∷ ys)) e = refl

pub none_is : (h : List GroupLine) (m : ℕ) → AllByRecursion (λ x. IsGroupPart x.part) h → (q : Option (List GroupLine)) → open_at group_rules h m ≡ q → is_none (group_at q) ≡ is_none q
none_is h m valid None e = refl
none_is h m valid (Some []) e = absurd (far_by h valid m [] e).0
none_is h m valid (Some (y ∷ ys)) e = refl
