-- What is told one after another; and one entry that passes a test ends after another, and is told of, until none is left.
use Rattle.std.proofs.Common.{◌≡◌, ℕ, ◌+◌, ◌<◌, ◌≤◌, Bool, true, false, Option, Some, None, option_map, List, [], ◌∷◌, ◌++◌, length, filter, refl, sym, ap, ◌∙◌, subst, append_assoc, append-nil, length-append, arith}
use Rattle.std.proofs.lemmas.Bool.Decides.{nat_tests}
use Rattle.std.proofs.lemmas.List.{map-append}
use Rattle.std.specs.List.{find, flat_map}
use Rattle.slot_views.specs.Slots.{Entry, SlotMap, without_first, without, remaining}
use Rattle.slot_views.proofs.Endings.{all_stay, one_fewer}
use Rattle.report_rules.specs.Rules as rules
use Rattle.gate_events.specs.declared.emit.Detail.TheVariants as detail
use Rattle.fast_packet.specs.declared.key.FastKey.{FastKey}
use Rattle.iso_transport.specs.declared.answers.IsoEnded.{IsoEnded}
use Rattle.tag_block.specs.declared.group_key.GroupKey.{GroupKey}
use Rattle.gate_events.specs.declared.emit.Report.{Report}
use Rattle.gate_events.specs.Emit.{Emit, report}
use Rattle.history.specs.Emits.{broken, of_source, reported}
use Rattle.gate_outbox.specs.Output.{Emitted, and_left, and_posted, and_told, no_emits, one_told, told_with, with_posted}

-- ---- what is told in two parts is told as one

pub told_twice : (room : ℕ) (es a b : List Emit) → told_with room (told_with room es a) b ≡ told_with room es (a ++ b)
told_twice room es [] b = refl
told_twice room es (e ∷ a) b = told_twice room (one_told room es e) a b

pub told_more : (room : ℕ) (x : Emitted) (a b : List Emit) → and_told room (and_told room x a) b ≡ and_told room x (a ++ b)
told_more room x a b = ap (λ es. let y : Emitted = record { told = es; posted = x.posted } in y) (told_twice room x.told a b)

pub reported_more : (room : ℕ) (x : Emitted) (a b : List Report) → and_told room (and_told room x (reported a)) (reported b) ≡ and_told room x (reported (a ++ b))
reported_more room x a b = told_more room x (reported a) (reported b) ∙ ap (and_told room x) (sym (map-append report a b))

-- all is told where there is room for it
pub told_fits : (room : ℕ) (es a : List Emit) → length es + length a ≤ room → told_with room es a ≡ es ++ a
told_fits room es [] fits = sym (append-nil es)
told_fits room es (e ∷ a) fits =
    let first : one_told room es e ≡ es ++ e ∷ [] = grind (arith, nat_tests) in
    let more = length-append es (e ∷ []) in
    rw first (told_fits room (es ++ e ∷ []) a (omega (arith, fits, more)) ∙ append_assoc es (e ∷ []) a)

-- ---- what is left behind what was told

pub left_behind : (room : ℕ) (x more : Emitted) (told : List Emit)
    → and_left room (and_told room x told) more ≡ and_left room x (record { told = told ++ more.told; posted = more.posted })
left_behind room x more told = ap (λ y. and_posted y more.posted) (told_more room x told more.told)

-- and where nothing was, it is all that is there
pub left_first : (room : ℕ) (more : Emitted) → length more.told ≤ room → and_left room no_emits more ≡ more
left_first room more fits = posted_alone more.posted
  where
    told_alone : and_told room no_emits more.told ≡ record { told = more.told; posted = [] }
    told_alone = ap (λ told. record { told = told; posted = [] }) (told_fits room [] more.told (omega (arith, fits)))

    posted_alone : (posted : List Emit) → and_posted (and_told room no_emits more.told) posted ≡ record { told = more.told; posted = posted }
    posted_alone [] = told_alone
    posted_alone (e ∷ es) = ap (λ x. with_posted x (e ∷ es)) told_alone

module _ {X : Type 0} (p : X → Bool) (tell : X → List Emit) where
  told_first : (xs : List X) (x : X) → find p xs ≡ Some x
      → flat_map tell (filter p xs) ≡ tell x ++ flat_map tell (filter p (without_first p xs))
  told_first [] x is = cc
  told_first (y ∷ ys) x is = by (p y) refl (λ later. told_first ys x later)
    where
      by : (b : Bool) → p y ≡ b
          → (find p ys ≡ Some x → flat_map tell (filter p ys) ≡ tell x ++ flat_map tell (filter p (without_first p ys)))
          → flat_map tell (filter p (y ∷ ys)) ≡ tell x ++ flat_map tell (filter p (without_first p (y ∷ ys)))
      by true eb rest =
          let found : Some y ≡ Some x = rw eb at is in
          let same : y ≡ x = cc in
          rw eb (ap (λ z. tell z ++ flat_map tell (filter p ys)) same)
      by false eb rest =
          let later : find p ys ≡ Some x = rw eb at is in
          rw (eb, eb) (rest later)

  told_none : (xs : List X) → find p xs ≡ None → flat_map tell (filter p xs) ≡ []
  told_none [] is = refl
  told_none (y ∷ ys) is = by (p y) refl (λ later. told_none ys later)
    where
      by : (b : Bool) → p y ≡ b → (find p ys ≡ None → flat_map tell (filter p ys) ≡ []) → flat_map tell (filter p (y ∷ ys)) ≡ []
      by true eb rest = let found : Some y ≡ None = rw eb at is in cc
      by false eb rest = let later : find p ys ≡ None = rw eb at is in rw eb (rest later)

  fewer_left : (xs : List X) (x : X) → find p xs ≡ Some x → length (without_first p xs) < length xs
  fewer_left [] x is = cc
  fewer_left (y ∷ ys) x is = by (p y) refl (λ later. fewer_left ys x later)
    where
      by : (b : Bool) → p y ≡ b → (find p ys ≡ Some x → length (without_first p ys) < length ys) → length (without_first p (y ∷ ys)) < length (y ∷ ys)
      by true eb rest = rw eb (omega arith)
      by false eb rest = let later : find p ys ≡ Some x = rw eb at is in let less = rest later in rw eb (omega (arith, less))

  all_left : (xs : List X) → find p xs ≡ None → without_first p xs ≡ xs
  all_left [] is = refl
  all_left (y ∷ ys) is = by (p y) refl (λ later. all_left ys later)
    where
      by : (b : Bool) → p y ≡ b → (find p ys ≡ None → without_first p ys ≡ ys) → without_first p (y ∷ ys) ≡ y ∷ ys
      by true eb rest = let found : Some y ≡ None = rw eb at is in cc
      by false eb rest = let later : find p ys ≡ None = rw eb at is in rw eb (ap {B = List X} (λ zs. y ∷ zs) (rest later))

-- ---- what is told of what was taken out

abbrev pub said_fast : ℕ → FastKey → List Emit
said_fast rule key = of_source rule key.source key.pgn ∷ []

abbrev pub said_session : ℕ → IsoEnded → List Emit
said_session rule ended = of_source rule ended.source ended.pgn ∷ []

abbrev pub said_group : GroupKey → List Emit
said_group key = broken rules.group_expired (detail.GroupKey key.sfi key.code) ∷ []

-- ---- the way of a loop: a call takes out the first entry that passes the test, and answers what it was

-- the element that was found by an answer
found_of : {X Y : Type 0} (f : X → Y) (o : Option X) (y : Y) → option_map f o ≡ Some y → (x : X) × (o ≡ Some x) × (f x ≡ y)
found_of f None y is = cc
found_of f (Some x) y is = (x, refl, (cc))

none_found : {X Y : Type 0} (f : X → Y) (o : Option X) → option_map f o ≡ None → o ≡ None
none_found f None is = refl
none_found f (Some x) is = cc

module _ {K Y : Type 0} (room : ℕ) (p : K × Entry → Bool) (f : K × Entry → Y) (say : Y → List Emit) where
  -- what is still to be told
  abbrev pub to_tell : SlotMap K → List Emit
  to_tell s = flat_map (λ e. say (f e)) (filter p s.entries)

  -- the slots and the emits as it begins, and as far as it has come
  pub record IsEnding (s₀ : SlotMap K) (x₀ : Emitted) (s : SlotMap K) (x : Emitted) : Type 0 where
    -- the same will be left
    pub rest : remaining p s ≡ remaining p s₀
    -- what was told and what is still to be told make up the whole
    pub whole : and_told room x (to_tell s) ≡ and_told room x₀ (to_tell s₀)

module _ {K Y : Type 0} {room : ℕ} {p : K × Entry → Bool} {f : K × Entry → Y} {say : Y → List Emit} {s₀ s : SlotMap K} {x₀ x : Emitted}
    (ending : IsEnding room p f say s₀ x₀ s x) {o : Option Y} (answer : o ≡ option_map f (find p s.entries)) {s' : SlotMap K} (after : s' ≡ without s p) where
  abbrev with_slots : List (K × Entry) → SlotMap K
  with_slots es = record { limit = s.limit; entries = es }

  -- ---- an entry was there: it was taken out, and is told of

  module _ {y : Y} (is : o ≡ Some y) where
    found : (e : K × Entry) × (find p s.entries ≡ Some e) × (f e ≡ y)
    found = found_of f (find p s.entries) y (sym answer ∙ is)

    pub fewer : length s'.entries < length s.entries
    fewer = subst (λ z. length z.entries < length s.entries) (sym after) (fewer_left p (λ e. say (f e)) s.entries found.0 found.1)

    first : to_tell room p f say s ≡ say y ++ to_tell room p f say (without s p)
    first =
        told_first p (λ e. say (f e)) s.entries found.0 found.1 ∙ ap (λ z. say z ++ to_tell room p f say (without s p)) found.2

    goes_on : IsEnding room p f say s₀ x₀ (without s p) (and_told room x (say y))
    goes_on = record {
      rest = ap with_slots (one_fewer p s.entries) ∙ ending.rest;
      whole = told_more room x (say y) (to_tell room p f say (without s p)) ∙ ap (and_told room x) (sym first) ∙ ending.whole;
    }

    pub one_ended : {x' : Emitted} → x' ≡ and_told room x (say y) → IsEnding room p f say s₀ x₀ s' x'
    one_ended {x'} emits = subst (λ z. IsEnding room p f say s₀ x₀ z x') (sym after) (subst (λ z. IsEnding room p f say s₀ x₀ (without s p) z) (sym emits) goes_on)

  -- ---- none was left

  module _ (is : o ≡ None) where
    none : find p s.entries ≡ None
    none = none_found f (find p s.entries) (sym answer ∙ is)

    pub ends_slots : s' ≡ remaining p s₀
    ends_slots =
        after
        ∙ ap with_slots (all_left p (λ e. say (f e)) s.entries none ∙ sym (all_stay p s.entries none))
        ∙ ending.rest

    pub ends_emits : x ≡ and_told room x₀ (to_tell room p f say s₀)
    ends_emits = sym (ap (and_told room x) (told_none p (λ e. say (f e)) s.entries none)) ∙ ending.whole
