-- Groups of lines that are open, and the places of a map.
use Rattle.std.proofs.Common.{◌≡◌, ℕ, true, false, List, [], ◌∷◌, refl, ap, ◌∙◌, ◌==◌, is_some, arith}
use Rattle.std.specs.Prelude.{Option, Some, None}
use Rattle.std.specs.List.{AllByRecursion, IsDistinct, list_any}
use Rattle.std.specs.Ordering.{eq_by_cmp}
use Rattle.std.specs.declared.cmp.Ordering.{Ordering}
use Rattle.std.proofs.lemmas.Bool.{eqb-true, and_parts, false≢true}
use Rattle.slot_views.specs.Slots.{SlotMap}
use Rattle.tag_block.specs.declared.group_key.GroupKey.{GroupKey}
use Rattle.tag_block.specs.declared.group_part.GroupPart.{GroupPart}
use Rattle.history.specs.Heard.{Taken, same_group, precedes_group, several, line_in, group_trace, key_with, group_keys, group_open}
use Rattle.history.specs.Settings.{same_text}
use Rattle.history.specs.CountLaws.{HoldsGroups, CountsGroups, SlotsCountGroups}
use Rattle.history.proofs.KeySteps.{eqb-sym}
use Rattle.history.proofs.Counts.{any_placed, distinct_placed, Held, counted, room}

pub text_is : (a b : List ℕ) → same_text a b ≡ true → a ≡ b
text_is [] [] e = refl
text_is [] (y ∷ b) e = cc
text_is (x ∷ a) [] e = cc
text_is (x ∷ a) (y ∷ b) e =
    let parts = and_parts (x == y) (same_text a b) e in
    ap (λ (z : ℕ). z ∷ a) (eqb-true x y parts.0) ∙ ap (λ (z : List ℕ). y ∷ z) (text_is a b parts.1)

pub text_turn : (a b : List ℕ) → same_text a b ≡ same_text b a
text_turn [] [] = refl
text_turn [] (y ∷ b) = refl
text_turn (x ∷ a) [] = refl
text_turn (x ∷ a) (y ∷ b) = rw (eqb-sym x y, text_turn a b) refl

pub same_is : (key one : GroupKey) → same_group key one ≡ true → key ≡ one
same_is key one e =
    let parts = and_parts (same_text key.sfi one.sfi) (key.code == one.code) e in
    let sfi : key.sfi ≡ one.sfi = text_is key.sfi one.sfi parts.0 in
    let code : key.code ≡ one.code = eqb-true key.code one.code parts.1 in
    ap (λ (x : List ℕ). made x key.code) sfi ∙ ap (λ (x : ℕ). made one.sfi x) code
  where
    made : List ℕ → ℕ → GroupKey
    made sfi code = record { sfi = sfi; code = code }

all_kinds : (ks : List GroupKey) → AllByRecursion (λ key. true ≡ true) ks
all_kinds [] = tt
all_kinds (k ∷ ks) = (refl, all_kinds ks)

-- a line of another group, and a line of none
pub line_past : (key : GroupKey) (t : Taken) (part : GroupPart) → same_group key (record { sfi = t.source; code = part.code }) ≡ false → line_in key t (Some part) ≡ None
line_past key t part e = rw e refl

pub trace_past : (key : GroupKey) (t : Taken) (older : List Taken) → line_in key t (several t.group) ≡ None → group_trace key (t ∷ older) ≡ group_trace key older
trace_past key t older e = rw e refl

-- a group whose key didn't come has no lines
pub no_lines : (key : GroupKey) (taken : List Taken) → list_any (same_group key) (group_keys taken) ≡ false → group_trace key taken ≡ []
no_lines key [] none = refl
no_lines key (t ∷ older) none = by (several t.group) refl none (λ absent. no_lines key older absent)
  where
    by : (part : Option GroupPart) → several t.group ≡ part → list_any (same_group key) (key_with t.source part (group_keys older)) ≡ false
        → (list_any (same_group key) (group_keys older) ≡ false → group_trace key older ≡ []) → group_trace key (t ∷ older) ≡ []
    by None e absent rest = trace_past key t older (ap (line_in key t) e) ∙ rest absent
    by (Some part) e absent rest =
        let parts = any_placed same_group precedes_group same_is key (record { sfi = t.source; code = part.code }) (group_keys older) absent in
        trace_past key t older (ap (line_in key t) e ∙ line_past key t part parts.0) ∙ rest parts.1

module _ (cmp : GroupKey → GroupKey → Ordering) (taken : List Taken) (m : ℕ) (slots : SlotMap GroupKey) (h : HoldsGroups cmp taken m slots) where
  distinct_keys : (ts : List Taken) → IsDistinct (eq_by_cmp cmp) (group_keys ts)
  unfolding IsDistinct
  distinct_keys [] = tt
  distinct_keys (t ∷ ts) = by (several t.group) (distinct_keys ts)
    where
      by : (part : Option GroupPart) → IsDistinct (eq_by_cmp cmp) (group_keys ts) → IsDistinct (eq_by_cmp cmp) (key_with t.source part (group_keys ts))
      by None rest = rest
      by (Some part) rest = distinct_placed h.order same_group precedes_group h.tells (record { sfi = t.source; code = part.code }) (group_keys ts) rest

  among : (key : GroupKey) → true ≡ true → is_some (group_open taken key m) ≡ true → list_any (same_group key) (group_keys taken) ≡ true
  among key kind is_open = grind (arith, no_lines, false≢true)

  pub held : Held cmp same_group precedes_group (group_keys taken) (λ key. true) (λ key. is_some (group_open taken key m)) slots
  held = grind (arith, same_is, text_turn, eqb-sym, distinct_keys, all_kinds, among)

  pub counts : CountsGroups cmp taken m slots
  unfolding held
  counts = record { count = counted held; room = room held }

pub slots_count_groups : SlotsCountGroups
slots_count_groups cmp taken m slots h = counts cmp taken m slots h
