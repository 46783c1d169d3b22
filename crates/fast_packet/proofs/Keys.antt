-- The assemblies of all keys are those of each key's own frames, and each frame is answered as those say.
use Rattle.std.proofs.Common.{◌≡◌, ℕ, ◌+◌, ◌<◌, ◌≤◌, ◌==◌, ◌&&◌, not, nat_le, if◌then◌else◌, min, Bool, true, false, List, [], ◌∷◌, length, drop, Option, Some, None, is_some, IsSomeAnd, length-take, length-drop, length-append, add-one, refl, sym, ◌∙◌, ap, subst, arith}
use Rattle.std.proofs.lemmas.Bool.{eqb-true, eqb-false, eq-eqb, leb-true, and_parts}
use Rattle.std.specs.List.{AllByRecursion}
use Rattle.std.specs.Cmp.{IsTotalOrder}
use Rattle.std.specs.declared.cmp.Ordering.{Ordering}
use Rattle.slot_views.specs.Runs.{opener_of, is_whole, is_admitted, since_opener, if_whole, open_of, open_at, run_of}
use Rattle.slot_views.specs.RunLaws.{fed, finished}
use Rattle.slot_views.proofs.RunSteps.{one_step_of}
use Rattle.slot_views.proofs.RunSuffixes.{one_suffix_of}
use Rattle.slot_views.specs.Slots.{Entry, SlotMap, IsOrdered, IsMap, Changes, is_complete, is_held, is_full, entry_at, released, begun_after, grown_after}
use Rattle.slot_views.specs.Traces.{left_at, entry_after, if_incomplete, grown_entry, pieces_at, IsStep}
use Rattle.slot_views.specs.Answers.{Shows}
use Rattle.slot_views.proofs.Keeping.{Keeps, changes_of, same_keeps, released_keeps, released_here, begun_keeps, begun_here, grown_keeps, grown_here}
use Rattle.slot_views.proofs.Traces.{all_at, joined, joined_before, noted_room}
use Rattle.fast_packet.specs.declared.key.FastKey.{FastKey}
use Rattle.fast_packet.specs.contracts.key.FastKeyOrd as key
use Rattle.fast_packet.specs.declared.answers.FastFed.{FastFed}
use Rattle.fast_packet.specs.declared.answers.FastOutcome.{FastOutcome}
use Rattle.fast_packet.specs.declared.answers.FastOutcome.TheVariants.{Held, Complete, Repeat, Refused}
use Rattle.fast_packet.specs.declared.answers.FastRefusal.{FastRefusal}
use Rattle.fast_packet.specs.declared.answers.FastRefusal.TheVariants.{Order, Orphan as NoneOpen, Length}
use Rattle.fast_packet.specs.declared.verdict.Verdict.{Verdict}
use Rattle.fast_packet.specs.declared.verdict.Verdict.TheVariants.{Short, Opens, Orphan, Again, OutOfOrder, Next}
use Rattle.fast_packet.specs.FastRuns.{gap, longest, counter_of, sequence_of, length_of, need_of, left_after, is_opener, is_no_later, first_piece, later_piece, FastPiece, is_next, is_repeat, fast_rules, joined as joined_bytes, payload, is_awaited}
use Rattle.fast_packet.specs.Assembly.{left_of, is_again as is_again_of, follows, is_enough, verdict, opening, part_to, extended, fed_by, fed_after, key_fits, AreAssemblies}
use Rattle.fast_packet.specs.Answers.{OpensGives, NextGives, FeedGivesBy, FeedGives}
use Rattle.fast_packet.specs.Verdicts.{VerdictFits}
use Rattle.fast_packet.specs.RunAssemblies.{assembly_of, assembly_at, grown_by, left_by, filling}
use Rattle.fast_packet.specs.Keys.{refused, is_again, Carries, OutcomeIs, AnswerIs, is_open_at, AreFed, fed_one, assemblies, FollowsRuns, AnswersRuns}
use Rattle.fast_packet.specs.Joining.{FeedsItsKey, StepsWithRuns}
use Rattle.fast_packet.proofs.Counts.{need_is}
use Rattle.fast_packet.proofs.Lawful.{lawful, no_next}
use Rattle.fast_packet.proofs.Verdicts.{fits_from}
use Rattle.fast_packet.proofs.Assemblies.{IsSoFar, Facts, entry, step_by, next_facts, facts_of, so_far, all_front, within, counter_zero, kept_is, kept_open, tests_next, tests_repeat, sequence_is, grown_is, repeat_apart}

module _ {cmp : FastKey → FastKey → Ordering} (o : IsTotalOrder cmp) where
  -- one frame does to the map what it does to its key's assembly
  module _ (s : SlotMap FastKey) (k : FastKey) (x : FastPiece) (sorted : IsOrdered cmp s.entries) where
    pub keeps_by : (v : Verdict) → Keeps cmp s k (fed_by cmp s k x.bytes x.moment v)
    keeps_by Short = released_keeps o s k sorted
    keeps_by Opens = begun_keeps o s k sorted (opening x.bytes x.moment)
    keeps_by Orphan = same_keeps o s k sorted
    keeps_by Again = same_keeps o s k sorted
    keeps_by OutOfOrder = released_keeps o s k sorted
    keeps_by (Next end) = grown_keeps o s k sorted (counter_of x.bytes) (part_to end x.bytes) x.moment gap

    pub keeps : Keeps cmp s k (fed_one cmp 0 s k x)
    keeps = keeps_by (verdict (entry_at cmp s k) x.bytes)

    module _ (admitted : x.admitted ≡ not (is_full cmp s k)) where
      here_by : (v : Verdict) → VerdictFits (entry_at cmp s k) x.bytes v → entry_at cmp (fed_by cmp s k x.bytes x.moment v) k ≡ left_by v x (entry_at cmp s k)
      here_by Short fits = released_here o s k sorted
      here_by Opens fits = begun_here o s k sorted (opening x.bytes x.moment) ∙ ap (λ b. if b then if_incomplete (opening x.bytes x.moment) else None) (sym admitted)
      here_by Orphan fits = refl
      here_by Again fits = refl
      here_by OutOfOrder fits = released_here o s k sorted
      here_by (Next end) fits =
          let piece = part_to end x.bytes in
          let grows : grown_entry (counter_of x.bytes) piece x.moment gap (Some fits.entry) ≡ grown_by end x (Some fits.entry) =
          rw (eqb-same (counter_of x.bytes) fits.entry.next fits.counter) refl in
          grown_here o s k sorted (counter_of x.bytes) piece x.moment gap
          ∙ (ap (grown_entry (counter_of x.bytes) piece x.moment gap) fits.held ∙ (grows ∙ ap (grown_by end x) (sym fits.held)))
        where
          eqb-same : (a b : ℕ) → a ≡ b → (b == a) ≡ true
          eqb-same a b same = eq-eqb b a (sym same)

      pub here : entry_at cmp (fed_one cmp 0 s k x) k ≡ left_by (verdict (entry_at cmp s k) x.bytes) x (entry_at cmp s k)
      here = here_by (verdict (entry_at cmp s k) x.bytes) (fits_from (entry_at cmp s k) x.bytes (verdict (entry_at cmp s k) x.bytes) refl)

  pub step_is : (limit : ℕ) → IsStep cmp filling (fed_one cmp limit)
  step_is limit = record {
    here = λ s k x sorted admitted. here s k x sorted admitted;
    others = λ s k j x sorted other. (keeps s k x sorted).others j other;
    ordered = λ s k x sorted. (keeps s k x sorted).ordered;
    limit = λ s k x sorted. (keeps s k x sorted).limit;
    within = λ s k x sorted le. (keeps s k x sorted).within le;
  }

-- a key's assembly is open exactly where its frames are
module _ (h : List FastPiece) (valid : AllByRecursion (λ x. length x.bytes ≤ 8) h) (m : ℕ) where
  far_by : (q : Option (List FastPiece)) → open_at fast_rules h m ≡ q → (acc : List FastPiece) → q ≡ Some acc → IsSoFar acc × (is_admitted fast_rules acc ≡ true) × (is_whole fast_rules acc ≡ false)
  far_by q is acc some =
      let o = (one_suffix_of fast_rules lawful).is_open h acc m (is ∙ some) in
      let front = all_front (λ x. length x.bytes ≤ 8) (since_opener fast_rules h) o.older (subst (AllByRecursion (λ (x : FastPiece). length x.bytes ≤ 8)) o.suffix valid) in
      (so_far (since_opener fast_rules h) acc front o.prefix, o.admitted, o.awaits)

  some_by : (q : Option (List FastPiece)) → open_at fast_rules h m ≡ q → is_some q ≡ is_some (assembly_at q)
  some_by None is = refl
  some_by (Some []) is = absurd (far_by (Some []) is [] refl).0
  some_by (Some (y ∷ ys)) is = refl

  pub left_is_open : left_at (entry_after filling h) m ≡ assembly_at (open_at fast_rules h m)
  left_is_open = ap (λ a. left_at a m) (kept_open h valid) ∙ kept_is (open_of fast_rules h) m

  pub agrees : is_open_at h m ≡ is_some (left_at (entry_after filling h) m)
  agrees = some_by (open_at fast_rules h m) refl ∙ ap is_some (sym left_is_open)

-- a whole message has as many bytes as its opener says
pub first_length : (y : FastPiece) → is_opener y.bytes ≡ true → 1 ≡ need_of (length_of y.bytes) → length (first_piece y.bytes) ≡ length_of y.bytes
first_length y opens one =
    let holds = nat_le (2 + min 6 (length_of y.bytes)) (length y.bytes) in
    let first = and_parts (counter_of y.bytes == 0) (nat_le 1 (length_of y.bytes) && (nat_le (length_of y.bytes) longest && holds)) opens in
    let second = and_parts (nat_le 1 (length_of y.bytes)) (nat_le (length_of y.bytes) longest && holds) first.1 in
    let third = and_parts (nat_le (length_of y.bytes) longest) holds second.1 in
    let enough : 2 + min 6 (length_of y.bytes) ≤ length y.bytes = leb-true (2 + min 6 (length_of y.bytes)) (length y.bytes) third.1 in
    let need = need_is (length_of y.bytes) in
    omega (arith, length-take (min 6 (length_of y.bytes)) (drop 2 y.bytes), length-drop 2 y.bytes, enough, one, need)

pub whole_length : (y : FastPiece) (ys : List FastPiece) (x : FastPiece) → Facts y ys (entry y ys) → is_next (y ∷ ys) x ≡ true → length (x ∷ y ∷ ys) ≡ need_of (length_of (opener_of y ys).bytes)
    → length (payload (x ∷ y ∷ ys)) ≡ length_of (opener_of y ys).bytes
whole_length y ys x f next whole =
    let n = next_facts y ys x next in
    let before = f.joined_length n.fewer in
    let need = need_is (length_of (opener_of y ys).bytes) in
    let rest = later_piece (left_after (length_of (opener_of y ys).bytes) (length (y ∷ ys))) x.bytes in
    let piece : length (later_piece (left_after (length_of (opener_of y ys).bytes) (length (y ∷ ys))) x.bytes) ≡ min 7 (left_after (length_of (opener_of y ys).bytes) (length (y ∷ ys))) =
    omega (arith, length-take (min 7 (left_after (length_of (opener_of y ys).bytes) (length (y ∷ ys)))) (drop 1 x.bytes), length-drop 1 x.bytes, n.enough) in
    omega (arith, before, length-append (joined_bytes (length_of (opener_of y ys).bytes) (y ∷ ys)) rest, piece, whole, need, f.least, n.fewer)

-- the answer to one more frame
module _ (cmp : FastKey → FastKey → Ordering) (s : SlotMap FastKey) (k : FastKey) (x : FastPiece) (q d : Option (List FastPiece))
    (found : entry_at cmp s k ≡ assembly_at q) (admitted : x.admitted ≡ not (is_full cmp s k)) (done : d ≡ finished fast_rules q x) (held : is_some q ≡ is_some (assembly_at q)) where
  -- a frame that is refused, whatever is held
  refused_fed : (fed : FastFed) (r : FastRefusal) → is_opener x.bytes ≡ false → refused q x ≡ Some r → d ≡ None → (fed.restarted ≡ false) × (fed.outcome ≡ Refused r) → AnswerIs q x d fed
  refused_fed fed r other why none (fresh, is) = (rw other fresh, subst (OutcomeIs q x d) (sym is) (why, none))

  again_fed : (fed : FastFed) → is_opener x.bytes ≡ false → refused q x ≡ None → is_again q x ≡ true → d ≡ None → (fed.restarted ≡ false) × (fed.outcome ≡ Repeat) → AnswerIs q x d fed
  again_fed fed other free why none (fresh, is) = (rw other fresh, subst (OutcomeIs q x d) (sym is) (free, why, none))

  -- an opener
  no_repeat_of : (o : Option (List FastPiece)) → is_opener x.bytes ≡ true → is_again o x ≡ false
  no_repeat_of None opens = refl
  no_repeat_of (Some acc) opens = (lawful.opener_is_new acc x opens).1

  opens_outcome : is_opener x.bytes ≡ true → length x.bytes ≤ 8 → (out : FastOutcome) → OpensGives cmp s k (opening x.bytes x.moment) out → OutcomeIs q x d out
  opens_outcome opens valid Held (room, more) =
      let free : x.admitted ≡ true = admitted ∙ ap not room in
      let none : d ≡ None = done ∙ rw (opens, free, more) refl in
      (rw (opens, free) refl, no_repeat_of q opens, none)
  opens_outcome opens valid (Complete view) (room, whole, shows) =
      let free : x.admitted ≡ true = admitted ∙ ap not room in
      let some : d ≡ Some (x ∷ []) = done ∙ rw (opens, free, whole) refl in
      let long : length (first_piece x.bytes) ≡ length_of x.bytes = first_length x opens (eqb-true 1 (need_of (length_of x.bytes)) whole) in
      let carries : Carries view.bytes.now (x ∷ []) = (shows.bytes, ap length shows.bytes ∙ long) in
      (rw (opens, free) refl, rw some carries)
  opens_outcome opens valid Repeat gives = absurd gives
  opens_outcome opens valid (Refused reason) (full, is) =
      let none : x.admitted ≡ false = admitted ∙ ap not full in
      (rw (opens, none) (ap Some (sym is)), done ∙ rw (opens, none) refl)

  opens_fed : is_opener x.bytes ≡ true → length x.bytes ≤ 8 → (fed : FastFed) → FeedGivesBy cmp s k x.bytes x.moment Opens fed → AnswerIs q x d fed
  opens_fed opens valid fed (was, gives) =
      let open_is : is_held cmp s k ≡ is_some q = ap is_some found ∙ sym held in
      (rw opens (was ∙ open_is), opens_outcome opens valid fed.outcome gives)

  -- a later frame where none is open
  none_fed : q ≡ None → is_opener x.bytes ≡ false → (n : Bool) → is_no_later x.bytes ≡ n → (fed : FastFed) → FeedGivesBy cmp s k x.bytes x.moment (verdict None x.bytes) fed → AnswerIs q x d fed
  none_fed is other true en fed gives =
      let told : verdict None x.bytes ≡ Short = rw (other, en) refl in
      refused_fed fed Length other (rw (other, en) refl) (done ∙ rw (is, other) refl) (subst (λ v. FeedGivesBy cmp s k x.bytes x.moment v fed) told gives)
  none_fed is other false en fed gives =
      let told : verdict None x.bytes ≡ Orphan = rw (other, en) refl in
      refused_fed fed NoneOpen other (rw (other, en, is) refl) (done ∙ rw (is, other) refl) (subst (λ v. FeedGivesBy cmp s k x.bytes x.moment v fed) told gives)

  -- a later frame where one is open
  module _ (y : FastPiece) (ys : List FastPiece) (is : q ≡ Some (y ∷ ys)) (f : Facts y ys (entry y ys)) (other : is_opener x.bytes ≡ false)
      (more : length (y ∷ ys) < need_of (length_of (opener_of y ys).bytes)) (room : is_admitted fast_rules (y ∷ ys) ≡ true) (repeat_is_none : is_repeat (y ∷ ys) x ≡ true → is_next (y ∷ ys) x ≡ false) where
    found_is : entry_at cmp s k ≡ Some (entry y ys)
    found_is = found ∙ ap assembly_at is

    done_is : is_next (y ∷ ys) x ≡ true → d ≡ if_whole fast_rules (Some (x ∷ y ∷ ys))
    done_is next = done ∙ rw (is, other, next) refl

    abbrev end : ℕ
    end = 1 + min 7 (left_of (entry y ys))

    abbrev grows : Entry → Entry
    grows e = extended end x.bytes x.moment e

    next_refused : is_no_later x.bytes ≡ false → is_next (y ∷ ys) x ≡ true → refused q x ≡ None
    next_refused en next = by (is_repeat (y ∷ ys) x) refl
      where
        by : (b : Bool) → is_repeat (y ∷ ys) x ≡ b → refused q x ≡ None
        by true eb = rw (is, other, en, eb) refl
        by false eb = rw (is, other, en, eb, next) refl

    next_no_repeat : (b : Bool) → is_repeat (y ∷ ys) x ≡ b → is_next (y ∷ ys) x ≡ true → is_again q x ≡ false
    next_no_repeat true eb next = let not_next = repeat_is_none eb in cc
    next_no_repeat false eb next = rw is eb

    on_found : (P : Entry → Type 0) → IsSomeAnd (entry_at cmp s k) P → P (entry y ys)
    on_found P holds = subst (λ (e : Option Entry). IsSomeAnd e P) found_is holds

    next_outcome : is_no_later x.bytes ≡ false → is_next (y ∷ ys) x ≡ true → (out : FastOutcome) → NextGives cmp s k grows out → OutcomeIs q x d out
    next_outcome en next Held gives =
        let short : is_complete (grows (entry y ys)) ≡ false = on_found (λ e. is_complete (grows e) ≡ false) gives in
        let fewer : (length (x ∷ y ∷ ys) == need_of (length_of (opener_of y ys).bytes)) ≡ false = rw (add-one (length (y ∷ ys))) at short in
        let none : d ≡ None = done_is next ∙ rw (room, fewer) refl in
        (next_refused en next, next_no_repeat _ refl next, none)
    next_outcome en next (Complete view) gives =
        let (whole, shows) = on_found (λ e. (is_complete (grows e) ≡ true) × Shows view (grows e)) gives in
        let all : (length (x ∷ y ∷ ys) == need_of (length_of (opener_of y ys).bytes)) ≡ true = rw (add-one (length (y ∷ ys))) at whole in
        let some : d ≡ Some (x ∷ y ∷ ys) = done_is next ∙ rw (room, all) refl in
        let made : Some (grows (entry y ys)) ≡ assembly_of (x ∷ y ∷ ys) = grown_is y ys x f more in
        let bytes : (grows (entry y ys)).bytes ≡ payload (x ∷ y ∷ ys) = inside made in
        let long = whole_length y ys x f next (eqb-true _ _ all) in
        let carries : Carries view.bytes.now (x ∷ y ∷ ys) = (shows.bytes ∙ bytes, ap length (shows.bytes ∙ bytes) ∙ long) in
        (next_refused en next, rw some carries)
      where
        inside : {a b : Entry} → Some a ≡ Some b → a.bytes ≡ b.bytes
        inside {a} {b} same = let eq : a ≡ b = cc in ap (λ e. e.bytes) eq
    next_outcome en next Repeat gives = absurd gives
    next_outcome en next (Refused reason) gives = absurd gives

    later_fed : (n a o e : Bool) → is_no_later x.bytes ≡ n → is_again_of (entry y ys) x.bytes ≡ a → follows (entry y ys) x.bytes ≡ o → is_enough (entry y ys) x.bytes ≡ e
        → (fed : FastFed) → FeedGivesBy cmp s k x.bytes x.moment (verdict (Some (entry y ys)) x.bytes) fed → AnswerIs q x d fed
    later_fed true a o e en ea eo ee fed gives =
        let told : verdict (Some (entry y ys)) x.bytes ≡ Short = rw (other, en) refl in
        refused_fed fed Length other (rw (other, en) refl) (done ∙ rw (is, other, no_next y ys x (counter_zero x.bytes en)) refl) (subst (λ v. FeedGivesBy cmp s k x.bytes x.moment v fed) told gives)
    later_fed false true o e en ea eo ee fed gives =
        let told : verdict (Some (entry y ys)) x.bytes ≡ Again = rw (other, en, ea) refl in
        let again : is_repeat (y ∷ ys) x ≡ true = sym (tests_repeat y ys x f more) ∙ ea in
        again_fed fed other (rw (is, other, en, again) refl) (rw is again) (done ∙ rw (is, other, repeat_is_none again) refl) (subst (λ v. FeedGivesBy cmp s k x.bytes x.moment v fed) told gives)
    later_fed false false true true en ea eo ee fed gives =
        let told : verdict (Some (entry y ys)) x.bytes ≡ Next end = rw (other, en, ea, eo, ee) refl in
        let next : is_next (y ∷ ys) x ≡ true = sym (tests_next y ys x f more) ∙ rw (eo, ee) refl in
        let (fresh, given) = subst (λ v. FeedGivesBy cmp s k x.bytes x.moment v fed) told gives in
        (rw other fresh, next_outcome en next fed.outcome given)
    later_fed false false true false en ea eo ee fed gives =
        let told : verdict (Some (entry y ys)) x.bytes ≡ Short = rw (other, en, ea, eo, ee) refl in
        let next : is_next (y ∷ ys) x ≡ false = sym (tests_next y ys x f more) ∙ rw (eo, ee) refl in
        let again : is_repeat (y ∷ ys) x ≡ false = sym (tests_repeat y ys x f more) ∙ ea in
        let awaited : is_awaited (y ∷ ys) x ≡ true = ap (λ n. (counter_of x.bytes == length (y ∷ ys)) && (sequence_of x.bytes == n)) (sym (sequence_is y ys x f)) ∙ eo in
        refused_fed fed Length other (rw (is, other, en, again, next, awaited) refl) (done ∙ rw (is, other, next) refl) (subst (λ v. FeedGivesBy cmp s k x.bytes x.moment v fed) told gives)
    later_fed false false false e en ea eo ee fed gives =
        let told : verdict (Some (entry y ys)) x.bytes ≡ OutOfOrder = rw (other, en, ea, eo) refl in
        let next : is_next (y ∷ ys) x ≡ false = sym (tests_next y ys x f more) ∙ rw eo refl in
        let again : is_repeat (y ∷ ys) x ≡ false = sym (tests_repeat y ys x f more) ∙ ea in
        let awaited : is_awaited (y ∷ ys) x ≡ false = ap (λ n. (counter_of x.bytes == length (y ∷ ys)) && (sequence_of x.bytes == n)) (sym (sequence_is y ys x f)) ∙ eo in
        refused_fed fed Order other (rw (is, other, en, again, next, awaited) refl) (done ∙ rw (is, other, next) refl) (subst (λ v. FeedGivesBy cmp s k x.bytes x.moment v fed) told gives)

-- the answer to one more frame of a key whose assembly is that of the frames that are open
module _ (cmp : FastKey → FastKey → Ordering) (s : SlotMap FastKey) (k : FastKey) (h : List FastPiece) (x : FastPiece) (valid : AllByRecursion (λ x. length x.bytes ≤ 8) (x ∷ h)) (admitted : x.admitted ≡ not (is_full cmp s k)) where
  open_fed : (q d : Option (List FastPiece)) → open_at fast_rules h x.moment ≡ q → entry_at cmp s k ≡ assembly_at q → d ≡ finished fast_rules q x → (b : Bool) → is_opener x.bytes ≡ b
      → (answer : FastFed) → FeedGivesBy cmp s k x.bytes x.moment (verdict (assembly_at q) x.bytes) answer → AnswerIs q x d answer
  open_fed q d is found done true opens answer gives =
      let told : verdict (assembly_at q) x.bytes ≡ Opens = rw opens refl in
      opens_fed cmp s k x q d found admitted done (some_by h valid.1 x.moment q is) opens valid.0 answer (subst (λ v. FeedGivesBy cmp s k x.bytes x.moment v answer) told gives)
  open_fed None d is found done false other answer gives = none_fed cmp s k x None d found admitted done refl refl other _ refl answer gives
  open_fed (Some []) d is found done false other answer gives = absurd (far_by h valid.1 x.moment (Some []) is [] refl).0
  open_fed (Some (y ∷ ys)) d is found done false other answer gives =
      let (far, room, awaits) = far_by h valid.1 x.moment (Some (y ∷ ys)) is (y ∷ ys) refl in
      let apart = eqb-false (length (y ∷ ys)) (need_of (length_of (opener_of y ys).bytes)) awaits in
      let most = within y ys far in
      let more : length (y ∷ ys) < need_of (length_of (opener_of y ys).bytes) = omega (arith, apart, most) in
      let f = facts_of y ys far in
      later_fed cmp s k x (Some (y ∷ ys)) d found admitted done refl y ys refl f other more room (repeat_apart y ys x f) _ _ _ _ refl refl refl refl answer gives

  pub answered : entry_at cmp s k ≡ assembly_at (open_at fast_rules h x.moment) → (d : Option (List FastPiece)) → d ≡ finished fast_rules (open_at fast_rules h x.moment) x
      → (answer : FastFed) → FeedGives cmp s k x.bytes x.moment answer → AnswerIs (open_at fast_rules h x.moment) x d answer
  answered found d done answer gives =
      open_fed (open_at fast_rules h x.moment) d refl found done _ refl answer (subst (λ e. FeedGivesBy cmp s k x.bytes x.moment (verdict e x.bytes) answer) found gives)

-- one more frame of any key
module _ {cmp : FastKey → FastKey → Ordering} (o : IsTotalOrder cmp) where
  changed : (s : SlotMap FastKey) (k : FastKey) (x : FastPiece) → IsMap cmp s → x.admitted ≡ not (is_full cmp s k)
      → Changes cmp s (fed_after cmp s k x.bytes x.moment) k (left_by (verdict (entry_at cmp s k) x.bytes) x (entry_at cmp s k))
  changed s k x map admitted = changes_of s (fed_after cmp s k x.bytes x.moment) k _ map (keeps o s k x map.ordered) (here o s k x map.ordered admitted)

  pub feeds_its_key : FeedsItsKey cmp
  feeds_its_key = record { changes = changed }

  pub steps_with_runs : StepsWithRuns cmp
  steps_with_runs = record {
    answer = λ s k h x answer valid found admitted gives. answered cmp s k h x valid admitted found (finished fast_rules (open_at fast_rules h x.moment) x) refl answer gives;
    changes = λ s k h x valid found admitted map.
        let leaves : left_by (verdict (entry_at cmp s k) x.bytes) x (entry_at cmp s k) ≡ assembly_at (fed fast_rules (open_at fast_rules h x.moment) x) =
        ap (λ e. left_by (verdict e x.bytes) x e) found ∙ step_by h x (open_at fast_rules h x.moment) (is_opener x.bytes) valid.1 refl refl in
        subst (λ e. Changes cmp s (fed_after cmp s k x.bytes x.moment) k e) leaves (changed s k x map admitted);
  }

  -- what holds of all assemblies holds of them after a frame
  pub still_assemblies : (s t : SlotMap FastKey) (k : FastKey) → key_fits k ≡ true → AreAssemblies cmp s → Keeps cmp s k t → AreAssemblies cmp t
  still_assemblies s t k fits are keeps = record { map = (changes_of s t k _ are.map keeps refl).map; fit = keeps.keys key_fits fits are.fit }

module _ {cmp : FastKey → FastKey → Ordering} (o : IsTotalOrder cmp) (limit : ℕ) where
  runs_agree : (p : List FastPiece) (m : ℕ) → AllByRecursion (λ x. length x.bytes ≤ 8) p → is_open_at p m ≡ is_some (left_at (entry_after filling p) m)
  runs_agree p m valid = agrees p valid m

  pub follows_runs : (h : List (FastKey × FastPiece)) → AreFed cmp limit h → FollowsRuns cmp limit h
  follows_runs h fed =
      let all = joined o filling (fed_one cmp limit) (step_is o limit) (λ x. length x.bytes ≤ 8) is_open_at runs_agree limit fed.some h fed.valid fed.noted in
      record {
        entries = λ k m le. all.entries k m le ∙ left_is_open (pieces_at cmp k h) (all_at o (λ x. length x.bytes ≤ 8) k h fed.valid) m;
        count = λ m le. all.count m le;
      }

  module _ (h : List (FastKey × FastPiece)) (k : FastKey) (x : FastPiece) (fits : AreFed cmp limit ((k, x) ∷ h)) where
    abbrev p : List FastPiece
    p = pieces_at cmp k h

    valid_p : AllByRecursion (λ x. length x.bytes ≤ 8) p
    valid_p = all_at o (λ x. length x.bytes ≤ 8) k h fits.valid.1

    found_p : entry_at cmp (assemblies cmp limit h x.moment) k ≡ assembly_at (open_at fast_rules p x.moment)
    found_p =
        joined_before o filling (fed_one cmp limit) (step_is o limit) (λ x. length x.bytes ≤ 8) is_open_at runs_agree limit fits.some (k, x) h fits.valid fits.noted k
        ∙ left_is_open p valid_p x.moment

    admitted_p : x.admitted ≡ not (is_full cmp (assemblies cmp limit h x.moment) k)
    admitted_p = noted_room o filling (fed_one cmp limit) (step_is o limit) (λ x. length x.bytes ≤ 8) is_open_at runs_agree limit fits.some (k, x) h fits.valid fits.noted

    pub answers_runs : (fed : FastFed) → AnswersRuns cmp limit k x h fed
    answers_runs answer gives =
        answered cmp (assemblies cmp limit h x.moment) k p x (fits.valid.0, valid_p) admitted_p found_p (run_of fast_rules (x ∷ p)) ((one_step_of fast_rules lawful).whole p x) answer gives

-- what the steps leave of the assemblies of an assembler
abbrev cmp : FastKey → FastKey → Ordering
cmp = key.TheImpl.ghosts.cmp

pub released_assemblies : (s : SlotMap FastKey) (k : FastKey) → key_fits k ≡ true → AreAssemblies cmp s → AreAssemblies cmp (released cmp s k)
released_assemblies s k fits are = still_assemblies key.TheImpl.Laws.total-law s (released cmp s k) k fits are (released_keeps key.TheImpl.Laws.total-law s k are.map.ordered)

pub begun_assemblies : (s : SlotMap FastKey) (k : FastKey) (e : Entry) → key_fits k ≡ true → AreAssemblies cmp s → AreAssemblies cmp (begun_after cmp s k e)
begun_assemblies s k e fits are = still_assemblies key.TheImpl.Laws.total-law s (begun_after cmp s k e) k fits are (begun_keeps key.TheImpl.Laws.total-law s k are.map.ordered e)

pub grown_assemblies : (s : SlotMap FastKey) (k : FastKey) (next : ℕ) (piece : List ℕ) (moment g : ℕ) → key_fits k ≡ true → AreAssemblies cmp s → AreAssemblies cmp (grown_after cmp s k next piece moment g)
grown_assemblies s k next piece moment g fits are =
    still_assemblies key.TheImpl.Laws.total-law s (grown_after cmp s k next piece moment g) k fits are (grown_keeps key.TheImpl.Laws.total-law s k are.map.ordered next piece moment g)
