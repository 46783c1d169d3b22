-- What a line of a group is answered is what the lines of its group say that were taken.
use Rattle.std.proofs.Common.{◌≡◌, ℕ, Bool, true, false, ◌&&◌, ◌||◌, not, List, [], ◌∷◌, length, refl, sym, ap, subst, ◌∙◌, ◌==◌, add-one, is_some, IsSomeAnd}
use Rattle.std.specs.Prelude.{Option, Some, None, option_map, if◌then◌else◌}
use Rattle.std.specs.List.{AllByRecursion}
use Rattle.std.specs.declared.cmp.Ordering.{Ordering}
use Rattle.gate_events.specs.declared.emit.Detail.TheVariants as detail
use Rattle.report_rules.specs.Rules as rules
use Rattle.slot_views.specs.Runs.{accepted, accepted_after, in_time, is_admitted, if_whole, since_opener, opener_of, open_at, run_of}
use Rattle.slot_views.specs.RunLaws.{finished, finished_later}
use Rattle.slot_views.proofs.RunSteps.{one_step_of}
use Rattle.slot_views.proofs.RunSuffixes.{one_suffix_of}
use Rattle.slot_views.specs.Slots.{Entry, SlotMap, grown, entry_at, is_held, is_full, is_complete}
use Rattle.slot_views.specs.Answers.{Shows}
use Rattle.tag_block.specs.declared.group_key.GroupKey.{GroupKey}
use Rattle.tag_block.specs.declared.group_part.GroupPart.{GroupPart}
use Rattle.tag_block.specs.declared.group_verdict.GroupVerdict.{GroupVerdict}
use Rattle.tag_block.specs.declared.group_verdict.GroupVerdict.TheVariants.{Opens, Follows, Breaks}
use Rattle.tag_block.specs.declared.group_answers.GroupFed.{GroupFed}
use Rattle.tag_block.specs.declared.group_answers.GroupOutcome.{GroupOutcome}
use Rattle.tag_block.specs.declared.group_answers.GroupOutcome.TheVariants.{Held, Complete, Order, Full}
use Rattle.tag_block.specs.Groups.{IsGroupPart, follows, verdict, opening}
use Rattle.tag_block.specs.GroupAnswers.{OpensGives, FollowsGives, FeedGivesBy}
use Rattle.tag_block.specs.GroupRuns.{GroupLine, is_next, group_rules, sentences_of, group_gap}
use Rattle.tag_block.specs.GroupLaws.{group_at}
use Rattle.tag_block.proofs.GroupPrefixes.{lawful, entry, tests_next, far_by, more_of, all_front}
use Rattle.datagram450.specs.Datagram.{IsLine}
use Rattle.history.specs.Emits.{breaks, broken_of}
use Rattle.history.specs.Heard.{Taken, several, group_line, group_trace, group_open, is_group_admitted, sentences_in, handed_over}
use Rattle.history.specs.NetRules.{continues, part_breaks}
use Rattle.history.specs.GroupLaws.{group_key}
use Rattle.history.proofs.GroupSteps.{group_steps}
use Rattle.gate_model.specs.Orders.{OrdersGroups}
use Rattle.gate_model.specs.NetLines.{GroupAnswer, whole_of, whole_with, answer_by, group_answer, answer_of, sentences_within, group_reports}
use Rattle.gate_model.specs.NetLaws.{AnswersArePlain}
use Rattle.gate_model.specs.NetStands.{StandsGroups}
use Rattle.gate_model.proofs.NetSentences.{cut_in_order}
use Rattle.gate_model.proofs.NetHeard.{IsHeard, line_trace, some_is}
use Rattle.gate_model.proofs.NetGroups.{valid_lines, admitted_is}

-- ---- every answer of the assembler is the plain one

or_none : (b : Bool) → (b || false) ≡ b
or_none true = refl
or_none false = refl

abbrev made : Bool → Bool → Option (List ℕ) → GroupAnswer
made disordered full whole = record { disordered = disordered; full = full; whole = whole }

same_answer : (a b : GroupAnswer) → a.disordered ≡ b.disordered → a.full ≡ b.full → a.whole ≡ b.whole → a ≡ b
same_answer a b e f g =
    ap (λ (x : Bool). made x a.full a.whole) e ∙ ap (λ (x : Bool). made b.disordered x a.whole) f ∙ ap (λ (x : Option (List ℕ)). made b.disordered b.full x) g

module _ (cmp : GroupKey → GroupKey → Ordering) (s : SlotMap GroupKey) (k : GroupKey) (part : GroupPart) (sentence : List ℕ) (moment : ℕ) where
  abbrev grows : Entry → Entry
  grows e = grown e sentence moment group_gap

  opens_so : (restarted : Bool) (outcome : GroupOutcome) → restarted ≡ is_held cmp s k → OpensGives cmp s k (opening part sentence moment) outcome
      → answer_of (record { restarted = restarted; outcome = outcome }) ≡ answer_by cmp s k part sentence moment Opens
  opens_so restarted Held was (room, more) =
      same_answer _ _ (or_none restarted ∙ was) (sym room) (rw (room, more) refl)
  opens_so restarted (Complete view) was (room, whole, shows) =
      same_answer _ _ (or_none restarted ∙ was) (sym room) (rw (room, whole) (ap (λ (x : List ℕ). Some x) shows.bytes))
  opens_so restarted Order was gives = absurd gives
  opens_so restarted Full was full = same_answer _ _ (or_none restarted ∙ was) (sym full) (rw full refl)

  held_so : (o : Option Entry) → IsSomeAnd o (λ e. is_complete (grows e) ≡ false) → None ≡ whole_with sentence moment o
  held_so None some = absurd some
  held_so (Some e) some = rw some refl

  whole_so : (bytes : List ℕ) (o : Option Entry) → IsSomeAnd o (λ e. (is_complete (grows e) ≡ true) × (bytes ≡ (grows e).bytes)) → Some bytes ≡ whole_with sentence moment o
  whole_so bytes None some = absurd some
  whole_so bytes (Some e) (whole, same) = rw whole (ap (λ (x : List ℕ). Some x) same)

  follows_so : (restarted : Bool) (outcome : GroupOutcome) → restarted ≡ false → FollowsGives cmp s k grows outcome
      → answer_of (record { restarted = restarted; outcome = outcome }) ≡ answer_by cmp s k part sentence moment Follows
  follows_so restarted Held was some = same_answer _ _ (or_none restarted ∙ was) refl (held_so (entry_at cmp s k) some)
  follows_so restarted (Complete view) was some =
      same_answer _ _ (or_none restarted ∙ was) refl (whole_so view.bytes.now (entry_at cmp s k) (shown (entry_at cmp s k) some))
    where
      shown : (o : Option Entry) → IsSomeAnd o (λ e. (is_complete (grows e) ≡ true) × Shows view (grows e)) → IsSomeAnd o (λ e. (is_complete (grows e) ≡ true) × (view.bytes.now ≡ (grows e).bytes))
      shown None some = absurd some
      shown (Some e) (whole, shows) = (whole, shows.bytes)
  follows_so restarted Order was gives = absurd gives
  follows_so restarted Full was gives = absurd gives

  breaks_so : (restarted : Bool) (outcome : GroupOutcome) → restarted ≡ false → outcome ≡ Order
      → answer_of (record { restarted = restarted; outcome = outcome }) ≡ answer_by cmp s k part sentence moment Breaks
  breaks_so restarted outcome was is = rw (was, is) refl

  by_verdict : (v : GroupVerdict) (fed : GroupFed) → FeedGivesBy cmp s k part sentence moment v fed → answer_of fed ≡ answer_by cmp s k part sentence moment v
  by_verdict Opens fed gives = opens_so fed.restarted fed.outcome gives.0 gives.1
  by_verdict Follows fed gives = follows_so fed.restarted fed.outcome gives.0 gives.1
  by_verdict Breaks fed gives = breaks_so fed.restarted fed.outcome gives.0 gives.1

pub answers_are_plain : AnswersArePlain
answers_are_plain cmp s k part sentence moment fed gives = by_verdict cmp s k part sentence moment (verdict (entry_at cmp s k) part) fed gives

-- ---- and says what the open lines say

-- the answer to a line x, where these lines are open of its key
pub record Says (a : GroupAnswer) (q : Option (List GroupLine)) (x : GroupLine) : Type 0 where
  pub disordered : a.disordered ≡ (if x.part.number == 1 then is_some q else not (continues q x))
  pub full : a.full ≡ ((x.part.number == 1) && not x.admitted)
  pub whole : a.whole ≡ option_map sentences_of (finished group_rules q x)

not_twice : (a b : Bool) → a ≡ not b → b ≡ not a
not_twice a true e = rw e refl
not_twice a false e = rw e refl

module _ (cmp : GroupKey → GroupKey → Ordering) (s : SlotMap GroupKey) (k : GroupKey) (h : List GroupLine) (x : GroupLine) (valid : AllByRecursion (λ x. IsGroupPart x.part) h)
    (admitted : x.admitted ≡ not (is_full cmp s k)) where
  abbrev answer : GroupVerdict → GroupAnswer
  answer v = answer_by cmp s k x.part x.sentence x.moment v

  first_says : (q : Option (List GroupLine)) → open_at group_rules h x.moment ≡ q → entry_at cmp s k ≡ group_at q → (x.part.number == 1) ≡ true → Says (answer Opens) q x
  first_says q is found first = record {
    disordered = ap is_some found ∙ some_is h x.moment valid q is ∙ rw first refl;
    full = not_twice x.admitted (is_full cmp s k) admitted ∙ rw first refl;
    whole = whole_by x.admitted refl (is_complete (opening x.part x.sentence x.moment)) refl;
  }
    where
      whole_by : (a : Bool) → x.admitted ≡ a → (w : Bool) → is_complete (opening x.part x.sentence x.moment) ≡ w
          → (if is_full cmp s k then None else whole_of (opening x.part x.sentence x.moment)) ≡ option_map sentences_of (finished group_rules q x)
      whole_by true ea true ew =
          let room : is_full cmp s k ≡ false = not_twice x.admitted (is_full cmp s k) admitted ∙ ap not ea in
          rw (room, first, ea, ew) refl
      whole_by true ea false ew =
          let room : is_full cmp s k ≡ false = not_twice x.admitted (is_full cmp s k) admitted ∙ ap not ea in
          rw (room, first, ea, ew) refl
      whole_by false ea w ew =
          let full : is_full cmp s k ≡ true = not_twice x.admitted (is_full cmp s k) admitted ∙ ap not ea in
          rw (full, first, ea) refl

  -- a later line that isn't the next one
  stray_says : (q : Option (List GroupLine)) → (x.part.number == 1) ≡ false → continues q x ≡ false → finished_later group_rules q x ≡ None → Says (answer Breaks) q x
  stray_says q other apart none = record {
    disordered = rw (other, apart) refl;
    full = rw other refl;
    whole = rw (other, none) refl;
  }

  -- the next one
  module _ (y : GroupLine) (ys : List GroupLine) (found : entry_at cmp s k ≡ Some (entry y ys)) (other : (x.part.number == 1) ≡ false) (next : is_next (y ∷ ys) x ≡ true)
      (room : is_admitted group_rules (y ∷ ys) ≡ true) where
    finishes : finished group_rules (Some (y ∷ ys)) x ≡ if_whole group_rules (Some (x ∷ y ∷ ys))
    finishes = rw (other, next) refl

    whole_by : (w : Bool) → (length (x ∷ y ∷ ys) == (opener_of y ys).part.total) ≡ w
        → whole_with x.sentence x.moment (Some (entry y ys)) ≡ option_map sentences_of (if_whole group_rules (Some (x ∷ y ∷ ys)))
    whole_by true ew =
        let complete : is_complete (grown (entry y ys) x.sentence x.moment group_gap) ≡ true = rw (add-one (length (y ∷ ys))) ew in
        rw (complete, room, ew) refl
    whole_by false ew =
        let complete : is_complete (grown (entry y ys) x.sentence x.moment group_gap) ≡ false = rw (add-one (length (y ∷ ys))) ew in
        rw (complete, room, ew) refl

    next_says : Says (answer Follows) (Some (y ∷ ys)) x
    next_says = record {
      disordered = rw (other, next) refl;
      full = rw other refl;
      whole =
          ap (whole_with x.sentence x.moment) found
          ∙ whole_by (length (x ∷ y ∷ ys) == (opener_of y ys).part.total) refl
          ∙ ap (option_map sentences_of) (sym finishes);
    }

  later_says : (y : GroupLine) (ys : List GroupLine) → open_at group_rules h x.moment ≡ Some (y ∷ ys) → entry_at cmp s k ≡ Some (entry y ys) → (x.part.number == 1) ≡ false
      → (f : Bool) → follows (entry y ys) x.part ≡ f → Says (answer (verdict (Some (entry y ys)) x.part)) (Some (y ∷ ys)) x
  later_says y ys is found other true ef =
      let (far, room, awaits) = far_by h valid x.moment (y ∷ ys) is in
      let next : is_next (y ∷ ys) x ≡ true = sym (tests_next y ys x (more_of y ys far awaits)) ∙ ef in
      let told : verdict (Some (entry y ys)) x.part ≡ Follows = rw (other, ef) refl in
      subst (λ (v : GroupVerdict). Says (answer v) (Some (y ∷ ys)) x) (sym told) (next_says y ys found other next room)
  later_says y ys is found other false ef =
      let (far, room, awaits) = far_by h valid x.moment (y ∷ ys) is in
      let next : is_next (y ∷ ys) x ≡ false = sym (tests_next y ys x (more_of y ys far awaits)) ∙ ef in
      let told : verdict (Some (entry y ys)) x.part ≡ Breaks = rw (other, ef) refl in
      subst (λ (v : GroupVerdict). Says (answer v) (Some (y ∷ ys)) x) (sym told) (stray_says (Some (y ∷ ys)) other next (rw next refl))

  says_by : (q : Option (List GroupLine)) → open_at group_rules h x.moment ≡ q → entry_at cmp s k ≡ group_at q → (b : Bool) → (x.part.number == 1) ≡ b → Says (answer (verdict (group_at q) x.part)) q x
  says_by q is found true first =
      let told : verdict (group_at q) x.part ≡ Opens = rw first refl in
      subst (λ (v : GroupVerdict). Says (answer v) q x) (sym told) (first_says q is found first)
  says_by None is found false other =
      let told : verdict None x.part ≡ Breaks = rw other refl in
      subst (λ (v : GroupVerdict). Says (answer v) None x) (sym told) (stray_says None other refl refl)
  says_by (Some []) is found false other = absurd (far_by h valid x.moment [] is).0
  says_by (Some (y ∷ ys)) is found false other = later_says y ys is found other (follows (entry y ys) x.part) refl

  pub says : entry_at cmp s k ≡ group_at (open_at group_rules h x.moment) → Says (group_answer cmp s k x.part x.sentence x.moment) (open_at group_rules h x.moment) x
  says found =
      subst (λ (e : Option Entry). Says (answer (verdict e x.part)) (open_at group_rules h x.moment) x) (sym found)
      (says_by (open_at group_rules h x.moment) refl found (x.part.number == 1) refl)

-- ---- the sentences of the group that a line completes

same_lines : (a b : List GroupLine) → Some a ≡ Some b → a ≡ b
same_lines a b e = cc

-- what holds of all lines holds of those that are accepted
accepted_all : (P : GroupLine → Type 0) (p acc : List GroupLine) → AllByRecursion P p → accepted group_rules p ≡ Some acc → AllByRecursion P acc
accepted_all P [] acc all is = cc
accepted_all P (x ∷ []) acc all is = by (x.part.number == 1) is
  where
    by : (b : Bool) → (if b then Some (x ∷ []) else None) ≡ Some acc → AllByRecursion P acc
    by true e = subst (AllByRecursion P) (same_lines (x ∷ []) acc e) (all.0, tt)
    by false e = cc
accepted_all P (x ∷ y ∷ ys) acc all is = by (accepted group_rules (y ∷ ys)) refl is (λ a was. accepted_all P (y ∷ ys) a all.1 was)
  where
    more : (a : List GroupLine) → AllByRecursion P a → (t n : Bool) → (if t then (if n then Some (x ∷ a) else if false then Some a else None) else None) ≡ Some acc → AllByRecursion P acc
    more a rest true true e = subst (AllByRecursion P) (same_lines (x ∷ a) acc e) (all.0, rest)
    more a rest true false e = cc
    more a rest false n e = cc

    by : (o : Option (List GroupLine)) → accepted group_rules (y ∷ ys) ≡ o → accepted_after group_rules o x ≡ Some acc
        → ((a : List GroupLine) → accepted group_rules (y ∷ ys) ≡ Some a → AllByRecursion P a) → AllByRecursion P acc
    by None was e before = cc
    by (Some a) was e before = more a (before a was) (in_time group_rules a x.moment) (is_next a x) e

run_all : (P : GroupLine → Type 0) (h acc : List GroupLine) → AllByRecursion P h → run_of group_rules h ≡ Some acc → AllByRecursion P acc
run_all P h acc all is =
    let run = (one_suffix_of group_rules lawful).is_run h acc is in
    accepted_all P (since_opener group_rules h) acc (all_front P (since_opener group_rules h) run.older (subst (AllByRecursion P) run.suffix all)) run.prefix

cut_whole : (h : List GroupLine) → AllByRecursion (λ x. IsLine x.sentence) h → (o : Option (List GroupLine)) → run_of group_rules h ≡ o → sentences_within (option_map sentences_of o) ≡ sentences_in o
cut_whole h all None is = refl
cut_whole h all (Some acc) is = cut_in_order acc (run_all (λ x. IsLine x.sentence) h acc all is)

module _ (cmp : GroupKey → GroupKey → Ordering) (o : OrdersGroups cmp) (limit : ℕ) (older : List Taken) (t : Taken) (part : GroupPart) (s : SlotMap GroupKey)
    (all : AllByRecursion IsHeard (t ∷ older)) (e : several t.group ≡ Some part) (admits : t.admitted ≡ is_group_admitted limit older (group_key t older part) t.moment)
    (st : StandsGroups cmp limit older t.moment s) where
  abbrev key : GroupKey
  key = group_key t older part

  abbrev x : GroupLine
  x = group_line t part

  given : Says (group_answer cmp s key part t.sentence t.moment) (group_open older key t.moment) x
  given =
      says cmp s key (group_trace key older) x (valid_lines cmp o limit older t part s all e admits st).1 (admitted_is cmp o limit older t part s all e admits st) (st.entries key)

  pub reports_same : group_reports key (group_answer cmp s key part t.sentence t.moment) ≡ part_breaks older t (Some part)
  reports_same =
      ap (λ (b : Bool). broken_of (breaks b rules.group_order (detail.GroupKey t.source part.code)
      ∷ breaks (group_answer cmp s key part t.sentence t.moment).full rules.group_slots_full (detail.GroupKey t.source part.code) ∷ [])) given.disordered
      ∙ ap (λ (b : Bool). broken_of (breaks (if part.number == 1 then is_some (group_open older key t.moment) else not (continues (group_open older key t.moment) x)) rules.group_order (detail.GroupKey t.source part.code)
      ∷ breaks b rules.group_slots_full (detail.GroupKey t.source part.code) ∷ [])) given.full

  pub sentences_handed : sentences_within (group_answer cmp s key part t.sentence t.moment).whole ≡ handed_over t older
  sentences_handed =
      let whole : run_of group_rules (x ∷ group_trace key older) ≡ finished group_rules (group_open older key t.moment) x = (one_step_of group_rules lawful).whole (group_trace key older) x in
      ap sentences_within given.whole
      ∙ cut_whole (x ∷ group_trace key older) (all.0.sentence, line_trace key older all.1) (finished group_rules (group_open older key t.moment) x) whole
      ∙ sym ((group_steps t older part e).handed)
