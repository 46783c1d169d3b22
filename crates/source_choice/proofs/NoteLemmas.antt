-- The notes of a subject, the least source first.
use Rattle.std.proofs.Common.{◌≡◌, ◌≢◌, ℕ, zero, suc, ◌+◌, ◌<◌, ◌≤◌, ◌==◌, not, ◌↔◌, IsTrue, nat_lt, nat_le, Bool, true, false, cond, None, Some, List, [], ◌∷◌, length, get_or, set, refl, sym, ◌∙◌, ap, arith, if◌then◌else◌}
use Rattle.std.specs.List.{position_or_len, insert, list_any}
use Rattle.std.proofs.lemmas.List.Edits.{length-insert}
use Rattle.std.proofs.lemmas.List.Sums.{prefix_len-le-length}
use Rattle.std.proofs.lemmas.Bool.Decides.{nat_tests}
use Rattle.std.proofs.lemmas.Bool.{eqb-true, eq-eqb, and_parts, leb-true, leb-false, le-leb, ltb-true, ltb-false, not-true, or_parts}
use Rattle.source_choice.specs.declared.note.Note.{Note}
use Rattle.source_choice.specs.Notes.{SubjectNotes, AreFrom, is_fresh, is_selected, note_of, outranks, with_note, without}
use Rattle.source_choice.specs.Ranks.{is_before, IsBefore}
use Rattle.source_choice.specs.Choices.{IsFirst, IsFresh}
use Rattle.source_choice.specs.declared.rank.Rank.{Rank}

abbrev pub not_before : ℕ → Note → Bool
not_before source n = nat_le source n.source

abbrev pub place : ℕ → List Note → ℕ
place source notes = position_or_len (not_before source) notes

-- from a smaller number on as well
raise : (low lower top : ℕ) (ns : List Note) → lower ≤ low → AreFrom low top ns → AreFrom lower top ns
raise low lower top [] l from = tt
raise low lower top (n ∷ ns) l from = (omega (arith, from.0), from.1, from.2)

pub from_without : (low top source : ℕ) (ns : List Note) → AreFrom low top ns → AreFrom low top (without source ns)
from_without low top source [] from = tt
from_without low top source (n ∷ ns) from = grind (arith, from_without (n.source + 1) top source ns from.2, raise)

-- no more notes than sources
pub few : (low top : ℕ) (ns : List Note) → low ≤ top → AreFrom low top ns → length ns + low ≤ top
few low top [] l from = omega arith
few low top (n ∷ ns) l from = let rest = few (n.source + 1) top ns (omega (arith, from.1)) from.2 in omega (arith, from.0, rest)

pub from_with : (low top : ℕ) (x : Note) (ns : List Note) → low ≤ x.source → x.source < top → AreFrom low top ns → AreFrom low top (with_note x ns)
from_with low top x [] l b from = (l, b, tt)
from_with low top x (n ∷ ns) l b from = by (nat_lt x.source n.source) refl (n.source == x.source) refl (λ above. from_with (n.source + 1) top x ns above b from.2)
  where
    by : (t : Bool) → nat_lt x.source n.source ≡ t → (u : Bool) → (n.source == x.source) ≡ u → (n.source + 1 ≤ x.source → AreFrom (n.source + 1) top (with_note x ns))
        → AreFrom low top (if t then x ∷ n ∷ ns else if u then x ∷ ns else n ∷ with_note x ns)
    by t lt u e onward = grind (arith, nat_tests, eqb-true)

abbrev pub with_first : Note → Note → List Note → Bool → Bool → List Note
with_first x n ns u v = if u then x ∷ n ∷ ns else if v then x ∷ ns else n ∷ with_note x ns

set_step : (x d n : Note) (ns : List Note) (k : ℕ) (t u v : Bool) → nat_le x.source n.source ≡ t → nat_lt x.source n.source ≡ u → (n.source == x.source) ≡ v
    → cond (not t) (1 + k) 0 < length (n ∷ ns) → (get_or (n ∷ ns) (cond (not t) (1 + k) 0) d).source ≡ x.source
    → (k < length ns → (get_or ns k d).source ≡ x.source → set ns k x ≡ with_note x ns) → set (n ∷ ns) (cond (not t) (1 + k) 0) x ≡ with_first x n ns u v
set_step x d n ns k true true v e f g l same rest = absurd (omega (arith, ltb-true x.source n.source f, same))
set_step x d n ns k true false true e f g l same rest = refl
set_step x d n ns k true false false e f g l same rest = cc (eq-eqb n.source x.source same)
set_step x d n ns k false true v e f g l same rest = absurd (omega (arith, ltb-true x.source n.source f, leb-false x.source n.source e))
set_step x d n ns k false false true e f g l same rest = absurd (omega (arith, eqb-true n.source x.source g, leb-false x.source n.source e))
set_step x d n ns k false false false e f g l same rest = grind arith

-- the note of a source is replaced in its place
pub set_is : (x d : Note) (ns : List Note) → place x.source ns < length ns → (get_or ns (place x.source ns) d).source ≡ x.source → set ns (place x.source ns) x ≡ with_note x ns
set_is x d [] l same = absurd (omega (arith, l))
set_is x d (n ∷ ns) l same = set_step x d n ns (place x.source ns) _ _ _ refl refl refl l same (set_is x d ns)

insert_step : (x d n : Note) (ns : List Note) (k : ℕ) (t u v : Bool) → nat_le x.source n.source ≡ t → nat_lt x.source n.source ≡ u → (n.source == x.source) ≡ v
    → (cond (not t) (1 + k) 0 < length (n ∷ ns) → (get_or (n ∷ ns) (cond (not t) (1 + k) 0) d).source ≢ x.source)
    → ((k < length ns → (get_or ns k d).source ≢ x.source) → insert ns k x ≡ with_note x ns) → insert (n ∷ ns) (cond (not t) (1 + k) 0) x ≡ with_first x n ns u v
insert_step x d n ns k true true v e f g other rest = refl
insert_step x d n ns k true false v e f g other rest = absurd (other (omega arith) (omega (arith, ltb-false x.source n.source f, leb-true x.source n.source e)))
insert_step x d n ns k false true v e f g other rest = absurd (omega (arith, ltb-true x.source n.source f, leb-false x.source n.source e))
insert_step x d n ns k false false true e f g other rest = absurd (omega (arith, eqb-true n.source x.source g, leb-false x.source n.source e))
insert_step x d n ns k false false false e f g other rest = grind arith

-- and a new one is put in
pub insert_is : (x d : Note) (ns : List Note) → (place x.source ns < length ns → (get_or ns (place x.source ns) d).source ≢ x.source) → insert ns (place x.source ns) x ≡ with_note x ns
insert_is x d [] other = refl
insert_is x d (n ∷ ns) other = insert_step x d n ns (place x.source ns) _ _ _ refl refl refl other (insert_is x d ns)

-- a source that isn't noted yet finds room
pub room : (top : ℕ) (x d : Note) (ns : List Note) → x.source < top → AreFrom 0 top ns → (place x.source ns < length ns → (get_or ns (place x.source ns) d).source ≢ x.source) → length ns < top
room top x d ns below from other =
    let more = few 0 top (with_note x ns) (omega arith) (from_with 0 top x ns (omega arith) below from) in
    let long = length-insert ns (place x.source ns) x (prefix_len-le-length (λ n. not (not_before x.source n)) ns) in
    let same = ap (λ (xs : List Note). length xs) (insert_is x d ns other) in
    omega (arith, more, long, same)

-- no source is less than the first may be
least : (low top k : ℕ) (d : Note) (ns : List Note) → AreFrom low top ns → k < length ns → low ≤ (get_or ns k d).source
least low top k d [] from within = absurd (omega (arith, within))
least low top zero d (n ∷ ns) from within = from.0
least low top (suc k) d (n ∷ ns) from within =
    let rest = least (n.source + 1) top k d ns from.2 (omega (arith, within)) in omega (arith, from.0, rest)

behind : (t : Bool) (k j : ℕ) → t ≡ false → k < 1 + j → k < cond (not t) (1 + j) 0
behind true k j is within = absurd cc
behind false k j is within = within

-- the place of a source is behind each smaller one
pub past : (low top source k : ℕ) (d : Note) (ns : List Note) → AreFrom low top ns → k < length ns → (get_or ns k d).source < source → k < place source ns
past low top source k d [] from within smaller = absurd (omega (arith, within))
past low top source zero d (n ∷ ns) from within smaller =
    let here : not_before source n ≡ false = grind arith in behind (not_before source n) 0 (place source ns) here (omega arith)
past low top source (suc k) d (n ∷ ns) from within smaller =
    let more = least (n.source + 1) top k d ns from.2 (omega (arith, within)) in
    let here : not_before source n ≡ false = grind (arith, more, smaller) in
    let rest = past (n.source + 1) top source k d ns from.2 (omega (arith, within)) smaller in
    behind (not_before source n) (suc k) (place source ns) here (omega (arith, rest))

upto_step : (t : Bool) (k j : ℕ) → (t ≡ false → 1 + j ≤ k) → cond (not t) (1 + j) 0 ≤ k
upto_step true k j rest = omega arith
upto_step false k j rest = rest refl

-- and not behind one that isn't smaller
pub upto : (source k : ℕ) (d : Note) (ns : List Note) → k < length ns → source ≤ (get_or ns k d).source → place source ns ≤ k
upto source k d [] within le = absurd (omega (arith, within))
upto source zero d (n ∷ ns) within le =
    let here : not_before source n ≡ true = le-leb source n.source le in
    upto_step (not_before source n) 0 (place source ns) (λ other. let never : true ≡ false = sym here ∙ other in absurd cc)
upto source (suc k) d (n ∷ ns) within le =
    upto_step (not_before source n) (suc k) (place source ns) (λ _. omega (arith, upto source k d ns (omega (arith, within)) le))

at_step : (t : Bool) (k j : ℕ) → t ≡ false → j ≡ k → suc k ≡ cond (not t) (1 + j) 0
at_step true k j is same = absurd cc
at_step false k j is same = omega (arith, same)

-- a source that is noted has its note at its place
found_at : (low top source k : ℕ) (d : Note) (ns : List Note) → AreFrom low top ns → k < length ns → (get_or ns k d).source ≡ source → k ≡ place source ns
found_at low top source k d [] from within same = absurd (omega (arith, within))
found_at low top source zero d (n ∷ ns) from within same =
    let here : not_before source n ≡ true = le-leb source n.source (omega (arith, same)) in rw here refl
found_at low top source (suc k) d (n ∷ ns) from within same =
    let more = least (n.source + 1) top k d ns from.2 (omega (arith, within)) in
    let here : not_before source n ≡ false = grind (arith, more, same) in
    at_step (not_before source n) k (place source ns) here (sym (found_at (n.source + 1) top source k d ns from.2 (omega (arith, within)) same))

pub noted_at : (top source k : ℕ) (ns : List Note) → AreFrom 0 top ns → ((d : Note) → (k < length ns) × ((get_or ns k d).source ≡ source)) → (k ≡ place source ns) × (k ≤ length ns)
noted_at top source k ns from here =
    let d : Note = record { source = source; rank = record { place = 0; name = 0 }; moment = 0; usable = false } in
    (found_at 0 top source k d ns from (here d).0 (here d).1, omega (arith, (here d).0))

-- what the note at a place passes is passed by one of all
pub any_at : (p : Note → Bool) (k : ℕ) (x : Note) (ns : List Note) → k < length ns → x ≡ get_or ns k x → p x ≡ true → list_any p ns ≡ true
any_at p k x [] within is passes = absurd (omega (arith, within))
any_at p zero x (n ∷ ns) within is passes = rw (← is, passes) refl
any_at p (suc k) x (n ∷ ns) within is passes = let rest = any_at p k x ns (omega (arith, within)) is passes in grind (arith, rest)

-- the same, of copies of the list and of its place
pub set_at : (x : Note) (k : ℕ) (ns ms os : List Note) → ms ≡ ns → os ≡ ns → k ≡ place x.source ms → ((d : Note) → (k < length os) × ((get_or os k d).source ≡ x.source)) → set ns k x ≡ with_note x ns
set_at x k ns ms os e f g here =
    let there : k ≡ place x.source ns = g ∙ ap (place x.source) e in
    let noted = rw (f, there) at (here x) in
    rw there (set_is x x ns noted.0 noted.1)

pub insert_at : (x : Note) (k : ℕ) (ns ms os : List Note) → ms ≡ ns → os ≡ ns → k ≡ place x.source ms → ((d : Note) → k < length os → (get_or os k d).source ≢ x.source) → insert ns k x ≡ with_note x ns
insert_at x k ns ms os e f g other =
    let there : k ≡ place x.source ns = g ∙ ap (place x.source) e in
    let apart = rw (f, there) at (other x) in
    rw there (insert_is x x ns apart)

pub room_at : (top : ℕ) (x : Note) (k : ℕ) (ns ms os : List Note) → ms ≡ ns → os ≡ ns → k ≡ place x.source ms → x.source < top → AreFrom 0 top ns → ((d : Note) → k < length os → (get_or os k d).source ≢ x.source) → length ns < top
room_at top x k ns ms os e f g below from other =
    let there : k ≡ place x.source ns = g ∙ ap (place x.source) e in
    room top x x ns below from (rw (f, there) at (other x))

-- ---- the notes as a map

-- what is found of a source among those from low on
found_from : (low top source : ℕ) (ns : List Note) (m : Note) → AreFrom low top ns → note_of source ns ≡ Some m → (low ≤ source) × (m.source ≡ source)
found_from low top source [] m from e = cc
found_from low top source (n ∷ ns) m from e = by (n.source == source) refl (λ f. found_from (n.source + 1) top source ns m from.2 f) e
  where
    by : (t : Bool) → (n.source == source) ≡ t → (note_of source ns ≡ Some m → (n.source + 1 ≤ source) × (m.source ≡ source)) → cond t (Some n) (note_of source ns) ≡ Some m → (low ≤ source) × (m.source ≡ source)
    by t is onward f = grind (arith, eqb-true)

skips : (n : Note) (ns : List Note) (source : ℕ) → n.source ≢ source → note_of source (n ∷ ns) ≡ note_of source ns
skips n ns source other = grind (arith, eqb-true)

first : (n : Note) (ns : List Note) → note_of n.source (n ∷ ns) ≡ Some n
first n ns = rw (eq-eqb n.source n.source refl) refl

-- a test that no note passes is one that none passes that is found of a source
none_found : (p : Note → Bool) (ns : List Note) → list_any p ns ≡ false → (source : ℕ) (m : Note) → note_of source ns ≡ Some m → p m ≡ false
none_found p [] none source m e = cc
none_found p (n ∷ ns) none source m e =
    let parts = or_parts (p n) (list_any p ns) none in by (n.source == source) parts.0 e (none_found p ns parts.1 source m)
  where
    by : (t : Bool) → p n ≡ false → cond t (Some n) (note_of source ns) ≡ Some m → (note_of source ns ≡ Some m → p m ≡ false) → p m ≡ false
    by t is f rest = grind arith

none_passes : (low top : ℕ) (p : Note → Bool) (ns : List Note) → AreFrom low top ns → ((source : ℕ) (m : Note) → note_of source ns ≡ Some m → p m ≡ false) → list_any p ns ≡ false
none_passes low top p [] from none = refl
none_passes low top p (n ∷ ns) from none =
    let here : p n ≡ false = none n.source n (first n ns) in
    let rest : list_any p ns ≡ false = none_passes (n.source + 1) top p ns from.2 (λ source m e.
    let behind = found_from (n.source + 1) top source ns m from.2 e in
    none source m (skips n ns source (λ same. absurd (omega (arith, behind.0, same))) ∙ e)) in
    rw (here, rest) refl

-- what a note's test says
before_tells : (a b : Rank) → IsTrue (is_before a b) ↔ IsBefore a b
before_tells a b = grind (arith, nat_tests, and_parts, eqb-true, eq-eqb)

fresh_tells : (timeout m : ℕ) (n : Note) → IsTrue (is_fresh timeout m n) ↔ IsFresh timeout m n
fresh_tells timeout m n = grind (arith, and_parts, leb-true, le-leb)

-- a note that keeps nobody back
no_outranking : (timeout source m : ℕ) (rank : Rank) (n : Note) → outranks timeout source rank m n ≡ false → n.source ≢ source → IsBefore n.rank rank → ¬ IsFresh timeout m n
no_outranking timeout source m rank n silent other lt fresh = grind (arith, eqb-true, before_tells, fresh_tells)

outranks_not : (timeout source m : ℕ) (rank : Rank) (n : Note) → (n.source ≢ source → IsBefore n.rank rank → ¬ IsFresh timeout m n) → outranks timeout source rank m n ≡ false
outranks_not timeout source m rank n never = grind (arith, eq-eqb, before_tells, fresh_tells)

-- no other noted source of a smaller rank is fresh
pub selected_is : (r : SubjectNotes) (top source : ℕ) (rank : Rank) (m : ℕ) → AreFrom 0 top r.notes → IsTrue (is_selected r source rank m) ↔ IsFirst r source rank m
selected_is r top source rank m from = (
  λ e other n f apart lt fresh.
      let found = found_from 0 top other r.notes n from f in
      let silent = none_found (outranks r.timeout source rank m) r.notes (not-true (list_any (outranks r.timeout source rank m) r.notes) e) other n f in
      no_outranking r.timeout source m rank n silent (λ same. apart (sym found.1 ∙ same)) lt fresh,
  λ first_of.
      let none = none_passes 0 top (outranks r.timeout source rank m) r.notes from (λ other n f.
      let found = found_from 0 top other r.notes n from f in
      outranks_not r.timeout source m rank n (λ apart lt fresh. first_of other n f (λ same. apart (found.1 ∙ same)) lt fresh)) in
      rw none refl,
)

-- ---- what is noted of a source is found, and nothing of others changes

pub noted_here : (x : Note) (ns : List Note) → note_of x.source (with_note x ns) ≡ Some x
noted_here x [] = first x []
noted_here x (n ∷ ns) = grind (arith, noted_here x ns, first, skips, eq-eqb)

pub others_noted : (x : Note) (ns : List Note) (other : ℕ) → other ≢ x.source → note_of other (with_note x ns) ≡ note_of other ns
others_noted x [] other apart = skips x [] other (λ same. apart (sym same))
others_noted x (n ∷ ns) other apart = grind (arith, others_noted x ns other apart, skips, eqb-true)

pub forgotten_here : (source : ℕ) (ns : List Note) → note_of source (without source ns) ≡ None
forgotten_here source [] = refl
forgotten_here source (n ∷ ns) = grind (arith, forgotten_here source ns, skips, eq-eqb)

pub others_forgotten : (source : ℕ) (ns : List Note) (other : ℕ) → other ≢ source → note_of other (without source ns) ≡ note_of other ns
others_forgotten source [] other apart = refl
others_forgotten source (n ∷ ns) other apart = grind (arith, others_forgotten source ns other apart, skips, eqb-true)

-- whose test is that of a copy of the notes
pub selected_by : (r s : SubjectNotes) (top source : ℕ) (rank : Rank) (m : ℕ) (lent : List Note) (b : Bool) → r ≡ s → AreFrom 0 top r.notes → lent ≡ r.notes → b ≡ list_any (outranks r.timeout source rank m) lent → IsTrue (not b) ↔ IsFirst s source rank m
selected_by r s top source rank m lent b e from l any = rw (any, l, ← e) (selected_is r top source rank m from)
