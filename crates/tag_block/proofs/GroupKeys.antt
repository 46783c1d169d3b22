-- The groups of all keys are those of each key's own lines, and each line is answered as those say.
use Rattle.std.proofs.Common.{◌≡◌, ℕ, ◌-◌, ◌<◌, ◌==◌, not, if◌then◌else◌, Bool, true, false, List, [], ◌∷◌, length, Option, Some, None, is_some, IsSomeAnd, add-one, refl, sym, ◌∙◌, ap, subst, arith}
use Rattle.std.proofs.lemmas.Bool.{eq-eqb}
use Rattle.std.specs.List.{AllByRecursion}
use Rattle.std.specs.Cmp.{IsTotalOrder}
use Rattle.std.specs.declared.cmp.Ordering.{Ordering}
use Rattle.std.specs.declared.cmp.Ordering.TheVariants.{Less, Equal, Greater}
use Rattle.std.specs.Ordering.{nat_cmp, is_eq, ordering_then}
use Rattle.std.specs.Cmp.Lexicographic.{slice_cmp}
use Rattle.std.proofs.lemmas.Map.Lookups.{exact_unsigned, exact_bytes}
use Rattle.slot_views.specs.Runs.{opener_of, is_admitted, if_whole, open_of, open_at, run_of}
use Rattle.slot_views.specs.RunLaws.{fed, finished}
use Rattle.slot_views.proofs.RunSteps.{one_step_of}
use Rattle.slot_views.specs.Slots.{Entry, SlotMap, IsOrdered, IsMap, Changes, grown, is_complete, is_held, is_full, entry_at}
use Rattle.slot_views.specs.Traces.{left_at, entry_after, if_incomplete, grown_entry, pieces_at, IsStep}
use Rattle.slot_views.specs.Answers.{Shows}
use Rattle.slot_views.proofs.Keeping.{Keeps, changes_of, released_keeps, released_here, begun_keeps, begun_here, grown_keeps, grown_here}
use Rattle.slot_views.proofs.Traces.{all_at, joined, joined_before, noted_room}
use Rattle.tag_block.specs.declared.group_key.GroupKey.{GroupKey}
use Rattle.tag_block.specs.declared.group_verdict.GroupVerdict.{GroupVerdict}
use Rattle.tag_block.specs.declared.group_verdict.GroupVerdict.TheVariants.{Opens, Follows, Breaks}
use Rattle.tag_block.specs.declared.group_answers.GroupFed.{GroupFed}
use Rattle.tag_block.specs.declared.group_answers.GroupOutcome.{GroupOutcome}
use Rattle.tag_block.specs.declared.group_answers.GroupOutcome.TheVariants.{Held, Complete, Order, Full}
use Rattle.tag_block.specs.Groups.{IsGroupPart, VerdictFits, follows, verdict, opening, fed_by, fed_after}
use Rattle.tag_block.specs.GroupAnswers.{OpensGives, FollowsGives, FeedGivesBy, FeedGives}
use Rattle.tag_block.specs.GroupRuns.{GroupLine, is_next, group_rules, group_gap}
use Rattle.slot_views.specs.Laws.{TellsApart}
use Rattle.tag_block.specs.contracts.group_key.GroupKeyOrd as key
use Rattle.tag_block.specs.GroupJoining.{FeedsItsKey, StepsWithRuns}
use Rattle.tag_block.specs.GroupLaws.{group_at, grown_by, left_by, filling, extends, is_taken, OutcomeIs, AnswerIs, is_open_at, AreFed, fed_one, groups, FollowsRuns, AnswersRuns}
use Rattle.tag_block.proofs.GroupVerdicts.{fits_from}
use Rattle.tag_block.proofs.GroupPrefixes.{lawful, step_by, entry, tests_next, far_by, more_of, kept_is, kept_open}

module _ {cmp : GroupKey → GroupKey → Ordering} (o : IsTotalOrder cmp) where
  -- one line does to the map what it does to its key's group
  module _ (s : SlotMap GroupKey) (k : GroupKey) (x : GroupLine) (sorted : IsOrdered cmp s.entries) where
    keeps_by : (v : GroupVerdict) → Keeps cmp s k (fed_by cmp s k x.part x.sentence x.moment v)
    keeps_by Opens = begun_keeps o s k sorted (opening x.part x.sentence x.moment)
    keeps_by Follows = grown_keeps o s k sorted (x.part.number - 1) x.sentence x.moment group_gap
    keeps_by Breaks = released_keeps o s k sorted

    keeps : Keeps cmp s k (fed_one cmp 0 s k x)
    keeps = keeps_by (verdict (entry_at cmp s k) x.part)

    module _ (admitted : x.admitted ≡ not (is_full cmp s k)) where
      here_by : (v : GroupVerdict) → VerdictFits (entry_at cmp s k) x.part v → entry_at cmp (fed_by cmp s k x.part x.sentence x.moment v) k ≡ left_by v x (entry_at cmp s k)
      here_by Opens fits = begun_here o s k sorted (opening x.part x.sentence x.moment) ∙ ap (λ b. if b then if_incomplete (opening x.part x.sentence x.moment) else None) (sym admitted)
      here_by Follows fits =
          let same : fits.entry.next ≡ x.part.number - 1 = omega (arith, fits.number) in
          let grows : grown_entry (x.part.number - 1) x.sentence x.moment group_gap (Some fits.entry) ≡ grown_by x (Some fits.entry) = rw (eq-eqb fits.entry.next (x.part.number - 1) same) refl in
          grown_here o s k sorted (x.part.number - 1) x.sentence x.moment group_gap
          ∙ (ap (grown_entry (x.part.number - 1) x.sentence x.moment group_gap) fits.held ∙ (grows ∙ ap (grown_by x) (sym fits.held)))
      here_by Breaks fits = released_here o s k sorted

      here : entry_at cmp (fed_one cmp 0 s k x) k ≡ left_by (verdict (entry_at cmp s k) x.part) x (entry_at cmp s k)
      here = here_by (verdict (entry_at cmp s k) x.part) (fits_from (entry_at cmp s k) x.part (verdict (entry_at cmp s k) x.part) refl)

  step_is : (limit : ℕ) → IsStep cmp filling (fed_one cmp limit)
  step_is limit = record {
    here = λ s k x sorted admitted. here s k x sorted admitted;
    others = λ s k j x sorted other. (keeps s k x sorted).others j other;
    ordered = λ s k x sorted. (keeps s k x sorted).ordered;
    limit = λ s k x sorted. (keeps s k x sorted).limit;
    within = λ s k x sorted le. (keeps s k x sorted).within le;
  }

-- a key's group is open exactly where its lines are
module _ (h : List GroupLine) (valid : AllByRecursion (λ x. IsGroupPart x.part) h) (m : ℕ) where
  some_by : (q : Option (List GroupLine)) → open_at group_rules h m ≡ q → is_some q ≡ is_some (group_at q)
  some_by None is = refl
  some_by (Some []) is = absurd (far_by h valid m [] is).0
  some_by (Some (y ∷ ys)) is = refl

  left_is_open : left_at (entry_after filling h) m ≡ group_at (open_at group_rules h m)
  left_is_open = ap (λ a. left_at a m) (kept_open h valid) ∙ kept_is (open_of group_rules h) m

  agrees : is_open_at h m ≡ is_some (left_at (entry_after filling h) m)
  agrees = some_by (open_at group_rules h m) refl ∙ ap is_some (sym left_is_open)

-- the answer to one more line
module _ (cmp : GroupKey → GroupKey → Ordering) (s : SlotMap GroupKey) (k : GroupKey) (x : GroupLine) (q d : Option (List GroupLine))
    (found : entry_at cmp s k ≡ group_at q) (admitted : x.admitted ≡ not (is_full cmp s k)) (done : d ≡ finished group_rules q x) (held : is_some q ≡ is_some (group_at q)) where
  abbrev Gives : GroupVerdict → GroupFed → Type 0
  Gives v fed = FeedGivesBy cmp s k x.part x.sentence x.moment v fed

  breaks_fed : (fed : GroupFed) → (x.part.number == 1) ≡ false → extends q x ≡ false → d ≡ None → (fed.restarted ≡ false) × (fed.outcome ≡ Order) → AnswerIs q x d fed
  breaks_fed fed other apart none (fresh, is) = (rw other fresh, subst (OutcomeIs q x d) (sym is) (other, apart, none))

  -- a first line
  opens_outcome : (x.part.number == 1) ≡ true → (out : GroupOutcome) → OpensGives cmp s k (opening x.part x.sentence x.moment) out → OutcomeIs q x d out
  opens_outcome opens Held (room, more) =
      let free : x.admitted ≡ true = admitted ∙ ap not room in
      (rw (opens, free) refl, done ∙ rw (opens, free, more) refl)
  opens_outcome opens (Complete view) (room, whole, shows) =
      let free : x.admitted ≡ true = admitted ∙ ap not room in
      let some : d ≡ Some (x ∷ []) = done ∙ rw (opens, free, whole) refl in
      (rw (opens, free) refl, rw some shows.bytes)
  opens_outcome opens Order gives = absurd gives
  opens_outcome opens Full full =
      let none : x.admitted ≡ false = admitted ∙ ap not full in
      (opens, none, done ∙ rw (opens, none) refl)

  opens_fed : (x.part.number == 1) ≡ true → (fed : GroupFed) → Gives Opens fed → AnswerIs q x d fed
  opens_fed opens fed (was, gives) =
      let open_is : is_held cmp s k ≡ is_some q = ap is_some found ∙ sym held in
      (rw opens (was ∙ open_is), opens_outcome opens fed.outcome gives)

  -- a later line where none is open
  none_fed : q ≡ None → (x.part.number == 1) ≡ false → (fed : GroupFed) → Gives (verdict None x.part) fed → AnswerIs q x d fed
  none_fed is other fed gives =
      let told : verdict None x.part ≡ Breaks = rw other refl in
      breaks_fed fed other (rw is refl) (done ∙ rw (is, other) refl) (subst (λ v. Gives v fed) told gives)

  -- a later line where one is open
  module _ (y : GroupLine) (ys : List GroupLine) (is : q ≡ Some (y ∷ ys)) (other : (x.part.number == 1) ≡ false) (more : length (y ∷ ys) < (opener_of y ys).part.total) (room : is_admitted group_rules (y ∷ ys) ≡ true) where
    abbrev grows : Entry → Entry
    grows e = grown e x.sentence x.moment group_gap

    done_is : is_next (y ∷ ys) x ≡ true → d ≡ if_whole group_rules (Some (x ∷ y ∷ ys))
    done_is next = done ∙ rw (is, other, next) refl

    taken : is_next (y ∷ ys) x ≡ true → is_taken q x ≡ true
    taken next = rw (other, is) next

    on_found : (P : Entry → Type 0) → IsSomeAnd (entry_at cmp s k) P → P (entry y ys)
    on_found P holds = subst (λ (e : Option Entry). IsSomeAnd e P) (found ∙ ap group_at is) holds

    inside : {a b : Entry} → Some a ≡ Some b → a.bytes ≡ b.bytes
    inside {a} {b} same = let eq : a ≡ b = cc in ap (λ e. e.bytes) eq

    next_outcome : is_next (y ∷ ys) x ≡ true → (out : GroupOutcome) → FollowsGives cmp s k grows out → OutcomeIs q x d out
    next_outcome next Held gives =
        let short : is_complete (grows (entry y ys)) ≡ false = on_found (λ e. is_complete (grows e) ≡ false) gives in
        let fewer : (length (x ∷ y ∷ ys) == (opener_of y ys).part.total) ≡ false = rw (add-one (length (y ∷ ys))) at short in
        (taken next, done_is next ∙ rw (room, fewer) refl)
    next_outcome next (Complete view) gives =
        let (whole, shows) = on_found (λ e. (is_complete (grows e) ≡ true) × Shows view (grows e)) gives in
        let all : (length (x ∷ y ∷ ys) == (opener_of y ys).part.total) ≡ true = rw (add-one (length (y ∷ ys))) at whole in
        let some : d ≡ Some (x ∷ y ∷ ys) = done_is next ∙ rw (room, all) refl in
        (taken next, rw some shows.bytes)
    next_outcome next Order gives = absurd gives
    next_outcome next Full gives = absurd gives

    later_fed : (f : Bool) → follows (entry y ys) x.part ≡ f → (fed : GroupFed) → Gives (verdict (Some (entry y ys)) x.part) fed → AnswerIs q x d fed
    later_fed true ef fed gives =
        let told : verdict (Some (entry y ys)) x.part ≡ Follows = rw (other, ef) refl in
        let next : is_next (y ∷ ys) x ≡ true = sym (tests_next y ys x more) ∙ ef in
        let (fresh, given) = subst (λ v. Gives v fed) told gives in
        (rw other fresh, next_outcome next fed.outcome given)
    later_fed false ef fed gives =
        let told : verdict (Some (entry y ys)) x.part ≡ Breaks = rw (other, ef) refl in
        let next : is_next (y ∷ ys) x ≡ false = sym (tests_next y ys x more) ∙ ef in
        breaks_fed fed other (rw is next) (done ∙ rw (is, other, next) refl) (subst (λ v. Gives v fed) told gives)

-- the answer to one more line of a key whose group is that of the lines that are open
module _ (cmp : GroupKey → GroupKey → Ordering) (s : SlotMap GroupKey) (k : GroupKey) (h : List GroupLine) (x : GroupLine) (valid : AllByRecursion (λ x. IsGroupPart x.part) h) (admitted : x.admitted ≡ not (is_full cmp s k)) where
  open_fed : (q d : Option (List GroupLine)) → open_at group_rules h x.moment ≡ q → entry_at cmp s k ≡ group_at q → d ≡ finished group_rules q x → (b : Bool) → (x.part.number == 1) ≡ b
      → (answer : GroupFed) → FeedGivesBy cmp s k x.part x.sentence x.moment (verdict (group_at q) x.part) answer → AnswerIs q x d answer
  open_fed q d is found done true opens answer gives =
      let told : verdict (group_at q) x.part ≡ Opens = rw opens refl in
      opens_fed cmp s k x q d found admitted done (some_by h valid x.moment q is) opens answer (subst (λ v. FeedGivesBy cmp s k x.part x.sentence x.moment v answer) told gives)
  open_fed None d is found done false other answer gives = none_fed cmp s k x None d found admitted done refl refl other answer gives
  open_fed (Some []) d is found done false other answer gives = absurd (far_by h valid x.moment [] is).0
  open_fed (Some (y ∷ ys)) d is found done false other answer gives =
      let (far, room, awaits) = far_by h valid x.moment (y ∷ ys) is in
      later_fed cmp s k x (Some (y ∷ ys)) d found admitted done refl y ys refl other (more_of y ys far awaits) room _ refl answer gives

  pub answered : entry_at cmp s k ≡ group_at (open_at group_rules h x.moment) → (d : Option (List GroupLine)) → d ≡ finished group_rules (open_at group_rules h x.moment) x
      → (answer : GroupFed) → FeedGives cmp s k x.part x.sentence x.moment answer → AnswerIs (open_at group_rules h x.moment) x d answer
  answered found d done answer gives =
      open_fed (open_at group_rules h x.moment) d refl found done _ refl answer (subst (λ e. FeedGivesBy cmp s k x.part x.sentence x.moment (verdict e x.part) answer) found gives)

-- one more line of any key
module _ {cmp : GroupKey → GroupKey → Ordering} (o : IsTotalOrder cmp) where
  changed : (s : SlotMap GroupKey) (k : GroupKey) (x : GroupLine) → IsMap cmp s → x.admitted ≡ not (is_full cmp s k)
      → Changes cmp s (fed_after cmp s k x.part x.sentence x.moment) k (left_by (verdict (entry_at cmp s k) x.part) x (entry_at cmp s k))
  changed s k x map admitted = changes_of s (fed_after cmp s k x.part x.sentence x.moment) k _ map (keeps o s k x map.ordered) (here o s k x map.ordered admitted)

  pub feeds_its_key : FeedsItsKey cmp
  feeds_its_key = record { changes = changed }

  pub steps_with_runs : StepsWithRuns cmp
  steps_with_runs = record {
    answer = λ s k h x answer valid found admitted gives. answered cmp s k h x valid.1 admitted found (finished group_rules (open_at group_rules h x.moment) x) refl answer gives;
    changes = λ s k h x valid found admitted map.
        let leaves : left_by (verdict (entry_at cmp s k) x.part) x (entry_at cmp s k) ≡ group_at (fed group_rules (open_at group_rules h x.moment) x) =
        ap (λ e. left_by (verdict e x.part) x e) found ∙ step_by h x (open_at group_rules h x.moment) (x.part.number == 1) valid.1 refl refl in
        subst (λ e. Changes cmp s (fed_after cmp s k x.part x.sentence x.moment) k e) leaves (changed s k x map admitted);
  }

module _ {cmp : GroupKey → GroupKey → Ordering} (o : IsTotalOrder cmp) (limit : ℕ) where
  runs_agree : (p : List GroupLine) (m : ℕ) → AllByRecursion (λ x. IsGroupPart x.part) p → is_open_at p m ≡ is_some (left_at (entry_after filling p) m)
  runs_agree p m valid = agrees p valid m

  pub follows_runs : (h : List (GroupKey × GroupLine)) → AreFed cmp limit h → FollowsRuns cmp limit h
  follows_runs h fed =
      let all = joined o filling (fed_one cmp limit) (step_is o limit) (λ x. IsGroupPart x.part) is_open_at runs_agree limit fed.some h fed.valid fed.noted in
      record {
        entries = λ k m le. all.entries k m le ∙ left_is_open (pieces_at cmp k h) (all_at o (λ x. IsGroupPart x.part) k h fed.valid) m;
        count = λ m le. all.count m le;
      }

  module _ (h : List (GroupKey × GroupLine)) (k : GroupKey) (x : GroupLine) (fits : AreFed cmp limit ((k, x) ∷ h)) where
    abbrev p : List GroupLine
    p = pieces_at cmp k h

    valid_p : AllByRecursion (λ x. IsGroupPart x.part) p
    valid_p = all_at o (λ x. IsGroupPart x.part) k h fits.valid.1

    found_p : entry_at cmp (groups cmp limit h x.moment) k ≡ group_at (open_at group_rules p x.moment)
    found_p =
        joined_before o filling (fed_one cmp limit) (step_is o limit) (λ x. IsGroupPart x.part) is_open_at runs_agree limit fits.some (k, x) h fits.valid fits.noted k
        ∙ left_is_open p valid_p x.moment

    admitted_p : x.admitted ≡ not (is_full cmp (groups cmp limit h x.moment) k)
    admitted_p = noted_room o filling (fed_one cmp limit) (step_is o limit) (λ x. IsGroupPart x.part) is_open_at runs_agree limit fits.some (k, x) h fits.valid fits.noted

    pub answers_runs : (fed : GroupFed) → AnswersRuns cmp limit k x h fed
    answers_runs fed gives = answered cmp (groups cmp limit h x.moment) k p x valid_p admitted_p found_p (run_of group_rules (x ∷ p)) ((one_step_of group_rules lawful).whole p x) fed gives

-- ---- keys at one place are one key

numbers_by : (n m : ℕ) (r : Ordering) → nat_cmp n m ≡ r → is_eq r ≡ true → m ≡ n
numbers_by n m Less is equal = cc
numbers_by n m Equal is equal = sym (exact_unsigned n m is)
numbers_by n m Greater is equal = cc

fields_by : (a b : List ℕ) (n m : ℕ) (r : Ordering) → slice_cmp nat_cmp a b ≡ r → is_eq (ordering_then r (nat_cmp n m)) ≡ true → (b ≡ a) × (m ≡ n)
fields_by a b n m Less is equal = cc
fields_by a b n m Equal is equal = (sym (exact_bytes a b is), numbers_by n m (nat_cmp n m) refl equal)
fields_by a b n m Greater is equal = cc

abbrev key_from : List ℕ → ℕ → GroupKey
key_from sfi code = record { sfi = sfi; code = code }

key_same : (a b : List ℕ) (n m : ℕ) → b ≡ a → m ≡ n → key_from b m ≡ key_from a n
key_same a b n m e f = rw (e, f) refl

pub keys_apart : TellsApart key.TheImpl.ghosts.cmp
keys_apart = record {
  same = λ k j here. let fields = fields_by k.sfi j.sfi k.code j.code _ refl here in key_same k.sfi j.sfi k.code j.code fields.0 fields.1;
}
