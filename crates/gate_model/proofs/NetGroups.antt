-- The open groups that are kept stand for the lines that were taken, one after another and as time passes.
use Rattle.std.proofs.Common.{◌≡◌, ℕ, ◌+◌, ◌≤◌, Bool, true, false, ◌&&◌, not, nat_le, List, [], ◌∷◌, ◌++◌, map, length, refl, sym, ap, subst, ◌∙◌, ◌==◌, arith, is_some, is_none}
use Rattle.std.specs.Prelude.{Option, Some, None, filter, if◌then◌else◌}
use Rattle.std.specs.List.{AllByRecursion, flat_map}
use Rattle.std.specs.BTreeMap.{is_at}
use Rattle.std.specs.declared.cmp.Ordering.{Ordering}
use Rattle.std.proofs.lemmas.Bool.{le-leb}
use Rattle.gate_events.specs.declared.emit.Detail.TheVariants as detail
use Rattle.report_rules.specs.Rules as rules
use Rattle.slot_views.specs.Runs.{is_admitted, is_whole, if_open, kept_at}
use Rattle.slot_views.specs.RunLaws.{fed, fed_later}
use Rattle.slot_views.specs.Slots.{Entry, SlotMap, Changes, entry_at, is_full, has_expired, is_expired}
use Rattle.slot_views.specs.Traces.{left_at, unexpired}
use Rattle.slot_views.proofs.Tied.{unexpired_at, ordered_filtered}
use Rattle.tag_block.specs.declared.group_key.GroupKey.{GroupKey}
use Rattle.tag_block.specs.declared.group_part.GroupPart.{GroupPart}
use Rattle.tag_block.specs.Groups.{IsGroupPart, fed_after}
use Rattle.tag_block.specs.GroupRuns.{GroupLine, is_next, group_rules, group_gap}
use Rattle.tag_block.specs.GroupLaws.{group_at}
use Rattle.tag_block.proofs.GroupPrefixes.{kept_is}
use Rattle.tag_block.proofs.GroupKeys.{steps_with_runs}
use Rattle.gate_events.specs.Emit.{Emit}
use Rattle.history.specs.Emits.{broken}
use Rattle.history.specs.Endings.{groups_expired}
use Rattle.history.specs.Heard.{Taken, several, group_line, group_trace, group_open, is_group_admitted}
use Rattle.history.specs.CountLaws.{HoldsGroups}
use Rattle.history.specs.GroupLaws.{group_key}
use Rattle.history.proofs.GroupCounts.{same_is, slots_count_groups}
use Rattle.history.proofs.GroupSteps.{group_steps, lines_alone, group_ends}
use Rattle.history.proofs.GroupLimits.{turn}
use Rattle.history.proofs.SlotLists.{slots_list_groups}
use Rattle.gate_model.specs.Orders.{OrdersGroups}
use Rattle.gate_model.specs.Endings.{groups_overdue}
use Rattle.gate_model.specs.NetStands.{StandsGroups}
use Rattle.gate_model.proofs.NetHeard.{IsHeard, part_is, valid_trace, some_is, none_is}

module _ (cmp : GroupKey → GroupKey → Ordering) (o : OrdersGroups cmp) (limit : ℕ) (lines : List Taken) (all : AllByRecursion IsHeard lines) (m : ℕ) (s : SlotMap GroupKey) (st : StandsGroups cmp limit lines m s) where
  pub holds : HoldsGroups cmp lines m s
  holds = record {
    order = o.order;
    tells = o.tells;
    ordered = st.map.ordered;
    within = st.map.within;
    holds = λ key. ap is_some (st.entries key) ∙ some_is (group_trace key lines) m (valid_trace key lines all) (group_open lines key m) refl;
  }

  -- ---- a later moment

  module _ (n : ℕ) (later : m ≤ n) where
    left_is : (key : GroupKey) → left_at (entry_at cmp s key) n ≡ group_at (group_open lines key n)
    left_is key =
        ap (λ (e : Option Entry). left_at e n) (st.entries key)
        ∙ kept_is (group_open lines key m) n
        ∙ ap group_at (sym (group_ends lines key m n later))

    filtered_few : (p : GroupKey × Entry → Bool) (es : List (GroupKey × Entry)) → length (filter p es) ≤ length es
    filtered_few p [] = omega arith
    filtered_few p (e ∷ es) = by (p e) (filtered_few p es)
      where
        by : (b : Bool) → length (filter p es) ≤ length es → length (if b then e ∷ filter p es else filter p es) ≤ length (e ∷ es)
        by true le = omega (arith, le)
        by false le = omega (arith, le)

    pub later_stands : StandsGroups cmp limit lines n (unexpired n s)
    later_stands = record {
      limited = st.limited;
      map = record {
        ordered = ordered_filtered o.order (λ e. not (has_expired n e)) s.entries st.map.ordered;
        within = omega (arith, filtered_few (λ e. not (has_expired n e)) s.entries, st.map.within);
      };
      entries = λ key. unexpired_at o.order n key s.entries st.map.ordered ∙ left_is key;
    }

    expired_is : (e : Entry) → is_expired n e ≡ is_none (left_at (Some e) n)
    expired_is e = by (is_expired n e)
      where
        by : (b : Bool) → b ≡ is_none (if b then None else Some e)
        by true = refl
        by false = refl

    goes : (key : GroupKey) (e : Entry) → entry_at cmp s key ≡ Some e → has_expired n (key, e) ≡ is_none (group_open lines key n)
    goes key e found =
        expired_is e
        ∙ ap is_none (ap (λ (x : Option Entry). left_at x n) (sym found) ∙ left_is key)
        ∙ none_is (group_trace key lines) n (valid_trace key lines all) (group_open lines key n) refl

    over_keys : (f : GroupKey → List Emit) (es : List (GroupKey × Entry)) → flat_map (λ e. f e.0) es ≡ flat_map f (map (λ e. e.0) es)
    over_keys f [] = refl
    over_keys f (e ∷ es) = ap (λ (x : List Emit). f e.0 ++ x) (over_keys f es)

    pub overdue_same : groups_overdue s n ≡ groups_expired lines m n
    overdue_same =
        over_keys (λ key. broken rules.group_expired (detail.GroupKey key.sfi key.code) ∷ []) (filter (has_expired n) s.entries)
        ∙ ap (flat_map (λ key. broken rules.group_expired (detail.GroupKey key.sfi key.code) ∷ []))
        ((slots_list_groups cmp lines m s holds o.precedes_so).ending n (has_expired n) goes)

-- ---- one more line, which is in no group of two lines or more

module _ (cmp : GroupKey → GroupKey → Ordering) (limit : ℕ) (older : List Taken) (t : Taken) (s : SlotMap GroupKey) (st : StandsGroups cmp limit older t.moment s) where
  pub alone_stands : several t.group ≡ None → StandsGroups cmp limit (t ∷ older) t.moment s
  alone_stands e = record {
    limited = st.limited;
    map = st.map;
    entries = λ key. st.entries key ∙ ap group_at (sym ((lines_alone t older e).others key t.moment));
  }

-- ---- one more line of a group: it leaves what is in time

in_time_now : (x : GroupLine) (acc : List GroupLine) → kept_at group_rules (if_open group_rules (Some (x ∷ acc))) x.moment ≡ if_open group_rules (Some (x ∷ acc))
in_time_now x acc = by (is_admitted group_rules (x ∷ acc) && not (is_whole group_rules (x ∷ acc)))
  where
    timely : nat_le x.moment (x.moment + group_gap) ≡ true
    timely = le-leb x.moment (x.moment + group_gap) (omega arith)

    by : (b : Bool) → kept_at group_rules (if b then Some (x ∷ acc) else None) x.moment ≡ (if b then Some (x ∷ acc) else None)
    by true = rw timely refl
    by false = refl

fed_now : (q : Option (List GroupLine)) (x : GroupLine) → kept_at group_rules (fed group_rules q x) x.moment ≡ fed group_rules q x
fed_now q x = by (x.part.number == 1)
  where
    next : (acc : List GroupLine) (b : Bool) → kept_at group_rules (if b then if_open group_rules (Some (x ∷ acc)) else if false then Some acc else None) x.moment
        ≡ (if b then if_open group_rules (Some (x ∷ acc)) else if false then Some acc else None)
    next acc true = in_time_now x acc
    next acc false = refl

    later : (p : Option (List GroupLine)) → kept_at group_rules (fed_later group_rules p x) x.moment ≡ fed_later group_rules p x
    later None = refl
    later (Some acc) = next acc (is_next acc x)

    by : (b : Bool) → kept_at group_rules (if b then if_open group_rules (Some (x ∷ [])) else fed_later group_rules q x) x.moment
        ≡ (if b then if_open group_rules (Some (x ∷ [])) else fed_later group_rules q x)
    by true = in_time_now x []
    by false = later q

module _ (cmp : GroupKey → GroupKey → Ordering) (o : OrdersGroups cmp) (limit : ℕ) (older : List Taken) (t : Taken) (part : GroupPart) (s : SlotMap GroupKey)
    (all : AllByRecursion IsHeard (t ∷ older)) (e : several t.group ≡ Some part) (admits : t.admitted ≡ is_group_admitted limit older (group_key t older part) t.moment)
    (st : StandsGroups cmp limit older t.moment s) where
  abbrev key : GroupKey
  key = group_key t older part

  abbrev x : GroupLine
  x = group_line t part

  abbrev q : Option (List GroupLine)
  q = group_open older key t.moment

  pub valid_lines : AllByRecursion (λ x. IsGroupPart x.part) (x ∷ group_trace key older)
  valid_lines = (part_is t part all.0 e, valid_trace key older all.1)

  pub admitted_is : t.admitted ≡ not (is_full cmp s key)
  admitted_is =
      admits ∙ ap (λ (l : ℕ). is_group_admitted l older key t.moment) (sym st.limited)
      ∙ (slots_count_groups cmp older t.moment s (holds cmp o limit older all.1 t.moment s st)).room key

  changes : Changes cmp s (fed_after cmp s key part t.sentence t.moment) key (group_at (fed group_rules q x))
  changes = (steps_with_runs o.order).changes s key (group_trace key older) x valid_lines (st.entries key) admitted_is st.map

  then_at : (j : GroupKey) (b : Bool) → is_at (cmp key) j ≡ b → entry_at cmp (fed_after cmp s key part t.sentence t.moment) j ≡ group_at (group_open (t ∷ older) j t.moment)
  then_at j true same =
      subst (λ (i : GroupKey). entry_at cmp (fed_after cmp s key part t.sentence t.moment) i ≡ group_at (group_open (t ∷ older) i t.moment))
      (same_is key j (sym (o.tells key j) ∙ same))
      (changes.here ∙ ap group_at (sym ((group_steps t older part e).left t.moment ∙ fed_now q x)))
  then_at j false other =
      changes.others j other ∙ st.entries j
      ∙ ap group_at (sym ((group_steps t older part e).others j t.moment (turn j key ∙ sym (o.tells key j) ∙ other)))

  pub line_stands : StandsGroups cmp limit (t ∷ older) t.moment (fed_after cmp s key part t.sentence t.moment)
  line_stands = record {
    limited = changes.limit ∙ st.limited;
    map = changes.map;
    entries = λ j. then_at j (is_at (cmp key) j) refl;
  }
