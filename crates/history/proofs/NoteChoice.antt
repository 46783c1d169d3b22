-- The notes of a subject select a message exactly where its rank is the first.
use Rattle.std.proofs.Common.{◌≡◌, ℕ, ◌+◌, ◌≤◌, Bool, true, false, ◌&&◌, ◌||◌, not, List, [], ◌∷◌, refl, sym, ap, subst, ◌∙◌, ◌==◌, arith}
use Rattle.std.specs.Prelude.{Option, Some, None, if◌then◌else◌, option_map}
use Rattle.std.specs.List.{list_any}
use Rattle.std.proofs.lemmas.Bool.{and_parts, eqb-true, eq-eqb, ne_eqb, le-ltb, false≢true}
use Rattle.readings.specs.declared.rows.Row.{Row}
use Rattle.claim_table.specs.Claims.{holder_at}
use Rattle.source_choice.specs.declared.note.Note.{Note}
use Rattle.source_choice.specs.declared.rank.Rank.{Rank}
use Rattle.source_choice.specs.Notes.{SubjectNotes, AreFrom, note_of, outranks, is_fresh}
use Rattle.source_choice.specs.Ranks.{is_before}
use Rattle.source_choice.specs.SubjectRules.{SubjectRule}
use Rattle.readings.specs.Rows.{row_of}
use Rattle.history.specs.Settings.{Settings, rule_of, same_text}
use Rattle.history.specs.Heard.{place_of}
use Rattle.history.specs.NetReadings.{NetReading, net_rank, last_heard, counts_still, is_net_fresh, is_net_first}
use Rattle.history.specs.Messages.{Message}
use Rattle.history.specs.Subjects as subjects
use Rattle.source_choice.specs.declared.told.Told.{Told}
use Rattle.history.specs.Subjects.{is_better, holder_rank, still_counts, last_of}
use Rattle.history.specs.Choice.{is_row, is_usable}
use Rattle.history.specs.ChoiceLaws.{noted_with, HoldsNotes, FirstByNotes, net_noted, HoldsNetNotes, FirstNetByNotes}
use Rattle.history.proofs.GroupCounts.{text_is}
use Rattle.history.proofs.ChoiceSteps.{both_ways, or_right, some_one, found_any, has_sent}
use Rattle.claim_table.specs.declared.answer.Holder.{Holder}

-- one that passes a test, and is found by its source
pub found_one : (p : Note → Bool) (low top : ℕ) (ns : List Note) → AreFrom low top ns → list_any p ns ≡ true → (n : Note) × (p n ≡ true) × (note_of n.source ns ≡ Some n) × (low ≤ n.source)
found_one p low top [] from e = absurd (false≢true e)
found_one p low top (x ∷ ns) from e = by (p x) refl e (λ rest. found_one p (x.source + 1) top ns from.2 rest)
  where
    by : (b : Bool) → p x ≡ b → (b || list_any p ns) ≡ true → (list_any p ns ≡ true → (n : Note) × (p n ≡ true) × (note_of n.source ns ≡ Some n) × (x.source + 1 ≤ n.source))
        → (n : Note) × (p n ≡ true) × (note_of n.source (x ∷ ns) ≡ Some n) × (low ≤ n.source)
    by b ep e more = grind (arith, eq-eqb, from, ne_eqb)

-- what is found is of the source, and passes a test that it passes
pub found_passes : (p : Note → Bool) (a : ℕ) (ns : List Note) (n : Note) → note_of a ns ≡ Some n → p n ≡ true → list_any p ns ≡ true
found_passes p a [] n e ep = cc
found_passes p a (x ∷ ns) n e ep = by (x.source == a) refl e (λ rest. found_passes p a ns n rest ep)
  where
    by : (b : Bool) → (x.source == a) ≡ b → (if b then Some x else note_of a ns) ≡ Some n → (note_of a ns ≡ Some n → list_any p ns ≡ true) → list_any p (x ∷ ns) ≡ true
    by b es e more = grind (arith, or_right)

-- no rank is before itself
not_before : (a : Rank) → is_before a a ≡ false
not_before a = grind (arith, le-ltb)

module _ (tells : Message → Option Told) (rule : SubjectRule) (holders : List (Option Holder)) (subject : ℕ) (older : List Message) (r : SubjectNotes) (source : ℕ) (rank : Rank) (m : ℕ)
    (h : HoldsNotes tells rule holders subject older r)
    (own : holder_rank rule (holder_at holders source) ≡ Some rank) where
  -- what a note says of its address
  says : (n : Note) (a : ℕ) (other : Option Rank) (last : Option Message) → noted_with tells a other last ≡ Some n
      → (other ≡ Some n.rank) × (still_counts tells rule.timeout m last ≡ is_fresh rule.timeout m n)
  says n a other last e = grind arith

  to : list_any (outranks r.timeout source rank m) r.notes ≡ true → list_any (λ d. subjects.outranks tells rule holders subject rank m older d.source) older ≡ true
  to e =
      let n = found_one (outranks r.timeout source rank m) 0 r.sources r.notes h.apart e in
      let both = and_parts (not (n.0.source == source) && is_before n.0.rank rank) (is_fresh r.timeout m n.0) n.1 in
      let is = says n.0 n.0.source (holder_rank rule (holder_at holders n.0.source)) (last_of tells holders subject n.0.source older) (sym (h.notes n.0.source) ∙ n.2) in
      let better : is_better rank (holder_rank rule (holder_at holders n.0.source)) ≡ true = ap (is_better rank) is.0 ∙ (and_parts (not (n.0.source == source)) (is_before n.0.rank rank) both.0).1 in
      let counts : still_counts tells rule.timeout m (last_of tells holders subject n.0.source older) ≡ true = is.1 ∙ ap (λ (t : ℕ). is_fresh t m n.0) (sym h.timeout) ∙ both.1 in
      has_sent tells rule holders subject rank m older n.0.source (rw (better, counts) refl)

  noted : (a : ℕ) (other : Option Rank) (last : Option Message) → is_better rank other ≡ true → still_counts tells rule.timeout m last ≡ true
      → (n : Note) × (noted_with tells a other last ≡ Some n)
  noted a None last better counts = absurd (false≢true better)
  noted a (Some other) None better counts = absurd (false≢true counts)
  noted a (Some other) (Some d) better counts = (record { source = a; rank = other; moment = d.moment; usable = subjects.is_usable (tells d) }, refl)

  of_source : (n : Note) (a : ℕ) (other : Option Rank) (last : Option Message) → noted_with tells a other last ≡ Some n → n.source ≡ a
  of_source n a other last e = grind arith

  from : list_any (λ d. subjects.outranks tells rule holders subject rank m older d.source) older ≡ true → list_any (outranks r.timeout source rank m) r.notes ≡ true
  from e = grind (arith, some_one, and_parts, noted, says, of_source, found_passes, eqb-true, false≢true, not_before)

pub first_by_notes : FirstByNotes
first_by_notes tells rule holders subject older r source rank m h own = grind (arith, both_ways, to, from)

-- ---- the same of the network

module _ (c : Settings) (older : List NetReading) (n : NetReading) (r : SubjectNotes) (place : ℕ) (h : HoldsNetNotes c (row_of n.reading) older r) where
  abbrev row : Row
  row = row_of n.reading

  abbrev rank : Rank
  rank = record { place = place; name = 0 }

  -- a reading of a source of a smaller rank that counts still
  abbrev holds_back : NetReading → Bool
  holds_back o = is_better rank (net_rank c o.line.source) && is_net_fresh (rule_of c row) row o.line.source n.line.moment older

  abbrev Ranked : ℕ → Rank
  Ranked a = record { place = a; name = 0 }

  -- what a note says of its source
  net_says : (x : Note) (a : ℕ) (last : Option NetReading) → net_noted a last ≡ Some x → (x.rank ≡ Ranked a) × (counts_still (rule_of c row).timeout n.line.moment last ≡ is_fresh (rule_of c row).timeout n.line.moment x)
  net_says x a last e = grind arith

  ranked_at : (source : List ℕ) (a : ℕ) → place_of c source ≡ Some a → net_rank c source ≡ Some (Ranked a)
  ranked_at source a e = ap (option_map (λ (p : ℕ). Ranked p)) e

  net_to : list_any (outranks r.timeout place rank n.line.moment) r.notes ≡ true → list_any holds_back older ≡ true
  net_to e =
      let x = found_one (outranks r.timeout place rank n.line.moment) 0 r.sources r.notes h.apart e in
      let both = and_parts (not (x.0.source == place) && is_before x.0.rank rank) (is_fresh r.timeout n.line.moment x.0) x.1 in
      let before = (and_parts (not (x.0.source == place)) (is_before x.0.rank rank) both.0).1 in
      let s = h.listed x.0.source x.0 x.2 in
      let kept = sym (h.notes s.0 x.0.source s.1) ∙ x.2 in
      let is = net_says x.0 x.0.source (last_heard row s.0 older) kept in
      let better : is_better rank (net_rank c s.0) ≡ true = ap (is_better rank) (ranked_at s.0 x.0.source s.1) ∙ ap (λ (y : Rank). is_before y rank) (sym is.0) ∙ before in
      let counts : counts_still (rule_of c row).timeout n.line.moment (last_heard row s.0 older) ≡ true = is.1 ∙ ap (λ (t : ℕ). is_fresh t n.line.moment x.0) (sym h.timeout) ∙ both.1 in
      last s.0 better counts (last_heard row s.0 older) refl counts
    where
      last : (s : List ℕ) → is_better rank (net_rank c s) ≡ true → counts_still (rule_of c row).timeout n.line.moment (last_heard row s older) ≡ true
          → (o : Option NetReading) → last_heard row s older ≡ o → counts_still (rule_of c row).timeout n.line.moment o ≡ true → list_any holds_back older ≡ true
      last s better counts None e some = absurd (false≢true some)
      last s better counts (Some o) e some =
          found_any (λ y. same_text y.line.source s && is_row row (Some y.reading)) holds_back older o e
          (λ y is.
          let same = text_is y.line.source s (and_parts (same_text y.line.source s) (is_row row (Some y.reading)) is).0 in
          subst (λ (t : List ℕ). (is_better rank (net_rank c t) && is_net_fresh (rule_of c row) row t n.line.moment older) ≡ true) (sym same) (rw (better, counts) refl))

  net_from : list_any holds_back older ≡ true → list_any (outranks r.timeout place rank n.line.moment) r.notes ≡ true
  net_from e =
      let o = some_one holds_back older e in
      let parts = and_parts (is_better rank (net_rank c o.0.line.source)) (is_net_fresh (rule_of c row) row o.0.line.source n.line.moment older) o.1 in
      at o.0.line.source (place_of c o.0.line.source) refl parts.0 parts.1
    where
      noted_so : (a : ℕ) (last : Option NetReading) → counts_still (rule_of c row).timeout n.line.moment last ≡ true → (x : Note) × (net_noted a last ≡ Some x) × (x.source ≡ a)
      noted_so a None counts = absurd (false≢true counts)
      noted_so a (Some l) counts = (record { source = a; rank = Ranked a; moment = l.line.moment; usable = is_usable (Some l.reading) }, refl, refl)

      apart : (x : Note) (a : ℕ) → x.source ≡ a → x.rank ≡ Ranked a → is_before (Ranked a) rank ≡ true → is_fresh r.timeout n.line.moment x ≡ true → (b : Bool) → (x.source == place) ≡ b
          → outranks r.timeout place rank n.line.moment x ≡ true
      apart x a at ranks before fresh b same = grind (arith, eqb-true, false≢true, not_before)

      at : (s : List ℕ) (p : Option ℕ) → place_of c s ≡ p → is_better rank (net_rank c s) ≡ true → is_net_fresh (rule_of c row) row s n.line.moment older ≡ true
          → list_any (outranks r.timeout place rank n.line.moment) r.notes ≡ true
      at s None e better fresh = let none : net_rank c s ≡ None = ap (option_map (λ (p : ℕ). Ranked p)) e in absurd (false≢true (sym (ap (is_better rank) none) ∙ better))
      at s (Some a) e better fresh =
          let x = noted_so a (last_heard row s older) fresh in
          let is = net_says x.0 a (last_heard row s older) x.1 in
          let before : is_before (Ranked a) rank ≡ true = sym (ap (is_better rank) (ranked_at s a e)) ∙ better in
          let counts : is_fresh r.timeout n.line.moment x.0 ≡ true = ap (λ (t : ℕ). is_fresh t n.line.moment x.0) h.timeout ∙ sym is.1 ∙ fresh in
          found_passes (outranks r.timeout place rank n.line.moment) a r.notes x.0 (h.notes s a e ∙ x.1) (apart x.0 a x.2 is.0 before counts (x.0.source == place) refl)

pub first_net_by_notes : FirstNetByNotes
first_net_by_notes c older n r place h e =
    ap not (both_ways _ _ (net_to c older n r place h) (net_from c older n r place h)) ∙ sym (ap (is_net_first c older n) (ranked_at c older n r place h n.line.source place e))
