-- Whether another source is fresh is what the notes say of a rank behind every other one.
use Rattle.std.proofs.Common.{◌≡◌, ℕ, ◌+◌, ◌<◌, ◌≤◌, Bool, true, false, ◌&&◌, ◌||◌, not, List, [], ◌∷◌, length, Option, Some, None, refl, sym, ap, subst, ◌∙◌, ◌==◌, arith}
use Rattle.std.specs.Prelude.{is_some, nat_lt, option_map, if◌then◌else◌}
use Rattle.std.specs.List.{list_any}
use Rattle.std.proofs.lemmas.Bool.{and_parts, eqb-true, false≢true, lt-ltb}
use Rattle.n2k_id.specs.Name.{matches}
use Rattle.n2k_id.specs.declared.pattern.Pattern.{Pattern}
use Rattle.claim_table.specs.Claims.{holder_at}
use Rattle.claim_table.specs.declared.answer.Holder.{Holder}
use Rattle.source_choice.specs.declared.note.Note.{Note}
use Rattle.source_choice.specs.declared.rank.Rank.{Rank}
use Rattle.source_choice.specs.Notes.{SubjectNotes, is_fresh, is_selected, outranks}
use Rattle.source_choice.specs.Ranks.{is_before}
use Rattle.source_choice.specs.SubjectRules.{SubjectRule, is_matched, place_in, rank_among, rank_of}
use Rattle.history.specs.Messages.{Message}
use Rattle.history.specs.Subjects as subjects
use Rattle.history.specs.Known.{held_since}
use Rattle.history.specs.Subjects.{holder_rank, last_of, still_counts}
use Rattle.history.specs.ChoiceLaws.{HoldsNotes, noted_with}
use Rattle.history.proofs.ChoiceSteps.{both_ways, found_any, some_one}
use Rattle.history.proofs.FreshSteps.{last_since}
use Rattle.history.proofs.NoteChoice.{found_one, found_passes}
use Rattle.navigation.specs.Kept.{last_rank}
use Rattle.navigation.specs.NavOut.{is_other_fresh, is_of_fresh_other, leg_told}
use Rattle.navigation.specs.NavRule.{NavRule}

-- ---- no place is behind 254 patterns

place_within : (others : Bool) (at : ℕ) (patterns : List Pattern) (name place : ℕ) → place_in others at patterns name ≡ Some place → place ≤ at + length patterns
place_within true at [] name place is = let same : at ≡ place = cc in omega (arith, same)
place_within false at [] name place is = cc
place_within others at (p ∷ patterns) name place is = by (matches p name) is (λ rest. place_within others (at + 1) patterns name place rest)
  where
    by : (b : Bool) → (if b then Some at else place_in others (at + 1) patterns name) ≡ Some place
        → (place_in others (at + 1) patterns name ≡ Some place → place ≤ at + 1 + length patterns) → place ≤ at + length (p ∷ patterns)
    by true is rest = let same : at ≡ place = cc in omega (arith, same)
    by false is rest = let less = rest is in omega (arith, less)

among_within : (rule : SubjectRule) (name : ℕ) (rank : Rank) (o : Option ℕ) → place_in rule.others 0 rule.sources name ≡ o
    → option_map (λ place. record { place = place; name = name }) o ≡ Some rank → rank.place ≤ length rule.sources
among_within rule name rank None is ranked = cc
among_within rule name rank (Some place) is ranked =
    let same : record { place = place; name = name } ≡ rank = cc in
    let within = place_within rule.others 0 rule.sources name place is in
    subst (λ (r : Rank). r.place ≤ length rule.sources) same (omega (arith, within))

ranked_within : (rule : SubjectRule) (name : ℕ) (rank : Rank) → rank_of rule name ≡ Some rank → rank.place ≤ length rule.sources
ranked_within rule name rank is = by (is_matched rule.ignored name) is
  where
    by : (b : Bool) → (if b then None else rank_among rule name) ≡ Some rank → rank.place ≤ length rule.sources
    by true is = cc
    by false is = among_within rule name rank (place_in rule.others 0 rule.sources name) refl is

holder_within : (rule : SubjectRule) (holder : Option Holder) (rank : Rank) → holder_rank rule holder ≡ Some rank → rank.place ≤ length rule.sources
holder_within rule None rank is = cc
holder_within rule (Some holder) rank is = ranked_within rule holder.name.0 rank is

-- so its rank is before the last one
before_last : (rank : Rank) → rank.place < 255 → is_before rank last_rank ≡ true
before_last rank less = ap (λ b. b || ((rank.place == 255) && nat_lt rank.name 0)) (lt-ltb rank.place 255 less)

module _ (x : NavRule) (holders : List (Option Holder)) (older : List Message) (r : SubjectNotes) (d : Message) (holds : HoldsNotes leg_told x.taken holders 0 older r)
    (few : length x.taken.sources < 255) where
  abbrev is_note : Note → Bool
  is_note = outranks r.timeout d.source last_rank d.moment

  abbrev is_message : Message → Bool
  is_message = is_of_fresh_other x holders older d

  abbrev rank_at : ℕ → Option Rank
  rank_at a = holder_rank x.taken (holder_at holders a)

  abbrev fresh_at : ℕ → Bool
  fresh_at a = subjects.is_fresh leg_told x.taken holders 0 a d.moment older

  -- what a note says of its address
  says : (n : Note) (a : ℕ) (rank : Option Rank) (last : Option Message) → noted_with leg_told a rank last ≡ Some n
      → (rank ≡ Some n.rank) × (still_counts leg_told x.taken.timeout d.moment last ≡ is_fresh x.taken.timeout d.moment n)
  says n a None last is = cc
  says n a (Some rank) None is = cc
  says n a (Some rank) (Some l) is =
      let same : record { source = a; rank = rank; moment = l.moment; usable = subjects.is_usable (leg_told l) } ≡ n = cc in
      (ap (λ (y : Note). Some y.rank) same, ap (is_fresh x.taken.timeout d.moment) same)

  of_other : (a : ℕ) → not (a == d.source) ≡ true → is_some (rank_at a) ≡ true → fresh_at a ≡ true → (y : Message) → (y.source == a) ≡ true → is_message y ≡ true
  of_other a apart ranked fresh y same =
      subst (λ b. (not (b == d.source) && (is_some (rank_at b) && fresh_at b)) ≡ true) (sym (eqb-true y.source a same)) (rw (apart, ranked, fresh) refl)

  has_sent : (a : ℕ) → not (a == d.source) ≡ true → is_some (rank_at a) ≡ true → fresh_at a ≡ true → list_any is_message older ≡ true
  has_sent a apart ranked fresh = since (held_since holders a) refl
    where
      found : (i : ℕ) (o : Option Message) → last_since leg_told 0 a older (Some i) ≡ o → still_counts leg_told x.taken.timeout d.moment o ≡ true → list_any is_message older ≡ true
      found i None is counts = absurd (false≢true counts)
      found i (Some y) is counts =
          found_any (subjects.is_of leg_told 0 a i) is_message older y is (λ z of. of_other a apart ranked fresh z (and_parts (z.source == a) _ of).0)

      since : (o : Option ℕ) → held_since holders a ≡ o → list_any is_message older ≡ true
      since None is = absurd (false≢true (sym (ap (λ o. still_counts leg_told x.taken.timeout d.moment (last_since leg_told 0 a older o)) is) ∙ fresh))
      since (Some i) is =
          found i (last_since leg_told 0 a older (Some i)) refl (sym (ap (λ o. still_counts leg_told x.taken.timeout d.moment (last_since leg_told 0 a older o)) is) ∙ fresh)

  to : list_any is_note r.notes ≡ true → list_any is_message older ≡ true
  to any =
      let n = found_one is_note 0 r.sources r.notes holds.apart any in
      let a = n.0.source in
      let both = and_parts (not (a == d.source) && is_before n.0.rank last_rank) (is_fresh r.timeout d.moment n.0) n.1 in
      let apart = (and_parts (not (a == d.source)) (is_before n.0.rank last_rank) both.0).0 in
      let is = says n.0 a (rank_at a) (last_of leg_told holders 0 a older) (sym (holds.notes a) ∙ n.2) in
      has_sent a apart (ap is_some is.0) (is.1 ∙ ap (λ t. is_fresh t d.moment n.0) (sym holds.timeout) ∙ both.1)

  noted : (a : ℕ) (rank : Option Rank) → rank_at a ≡ rank → (last : Option Message) → last_of leg_told holders 0 a older ≡ last → not (a == d.source) ≡ true → is_some rank ≡ true
      → still_counts leg_told x.taken.timeout d.moment last ≡ true → list_any is_note r.notes ≡ true
  noted a None ranked last is apart some fresh = absurd (false≢true some)
  noted a (Some rank) ranked None is apart some fresh = absurd (false≢true fresh)
  noted a (Some rank) ranked (Some l) is apart some fresh =
      let n : Note = record { source = a; rank = rank; moment = l.moment; usable = subjects.is_usable (leg_told l) } in
      let first = before_last rank (omega (arith, few, holder_within x.taken (holder_at holders a) rank ranked)) in
      let counts : is_fresh r.timeout d.moment n ≡ true = ap (λ t. is_fresh t d.moment n) holds.timeout ∙ fresh in
      found_passes is_note a r.notes n (holds.notes a ∙ ap (λ o. noted_with leg_told a o (last_of leg_told holders 0 a older)) ranked ∙ ap (noted_with leg_told a (Some rank)) is)
      (rw (apart, first, counts) refl)

  from : list_any is_message older ≡ true → list_any is_note r.notes ≡ true
  from any =
      let y = some_one is_message older any in
      let a = y.0.source in
      let both = and_parts (not (a == d.source)) (is_some (rank_at a) && fresh_at a) y.1 in
      let more = and_parts (is_some (rank_at a)) (fresh_at a) both.1 in
      noted a (rank_at a) refl (last_of leg_told holders 0 a older) refl both.0 more.0 more.1

  pub alone_is : is_selected r d.source last_rank d.moment ≡ not (is_other_fresh x holders older d)
  alone_is = ap not (both_ways _ _ to from)
