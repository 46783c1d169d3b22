-- Which request has which answer.
use Rattle.std.proofs.lemmas.Bool.{eq-eqb, eqb-true}
use Rattle.std.proofs.Common.{◌≡◌, ◌≢◌, ℕ, ◌+◌, ◌%◌, Bool, true, false, ◌&&◌, ◌==◌, if◌then◌else◌, List, [], ◌∷◌, Option, Some, refl, ◌∙◌, ◌⊎◌, inl, inr, arith}
use Rattle.n2k_id.specs.Frame.{BusFrame}
use Rattle.n2k_id.specs.Identifier.{parts_of}
use Rattle.bus_identity.specs.PgnLists.{pgn_lists, product_information}
use Rattle.n2k_id.specs.Pgns.{asked_of}
use Rattle.bus_identity.specs.Requests.{is_due, IsDue}
use Rattle.bus_identity.specs.Answers.{Kept}
use Rattle.bus_identity.specs.Laws.{Gives, HasOneAnswer, Call, kept_by, products_sent, lists_sent, Counts}
use Rattle.bus_identity.proofs.RequestLemmas.{due_tells}

due_is : (own : Option ℕ) (e : BusFrame) → IsDue own e → is_due own e ≡ true
due_is own e due = (due_tells own (parts_of e.id) e.held).1 due

none_due : (own : Option ℕ) (e : BusFrame) → ¬ IsDue own e → is_due own e ≡ false
none_due own e none = by (is_due own e) refl
  where
    by : (t : Bool) → is_due own e ≡ t → t ≡ false
    by true is = absurd (none ((due_tells own (parts_of e.id) e.held).0 is))
    by false is = refl

differs : (a b : ℕ) → a ≢ b → (a == b) ≡ false
differs a b apart = by (a == b) refl
  where
    by : (t : Bool) → (a == b) ≡ t → t ≡ false
    by true is = absurd (apart (eqb-true a b is))
    by false is = refl

is_at : (own address : ℕ) → Some own ≡ Some address → address ≡ own
is_at own address e = cc

-- what the answer was due for
refused_to : (own destination asked : ℕ) → asked ≢ product_information → asked ≢ pgn_lists
    → (asked ≡ product_information) ⊎ (asked ≡ pgn_lists) ⊎ (Some own ≡ Some destination) → destination ≡ own
refused_to own destination asked a b (inl e) = absurd (a e)
refused_to own destination asked a b (inr (inl e)) = absurd (b e)
refused_to own destination asked a b (inr (inr e)) = is_at own destination e

pub one_answer : (k : Kept) (own : ℕ) (e : BusFrame) → HasOneAnswer k own e
one_answer k own e = record {
  product = λ due asks. rw (due_is (Some own) e due, eq-eqb _ _ asks) (refl, refl);
  lists = λ due asks. let other : (asked_of e.held == product_information) ≡ false = rw asks refl in
      rw (due_is (Some own) e due, other, eq-eqb _ _ asks) (refl, refl);
  refusal = λ due no_product no_lists. (
    refused_to own (parts_of e.id).destination (asked_of e.held) no_product no_lists due.has_answer,
    rw (due_is (Some own) e due, differs _ _ no_product, differs _ _ no_lists) (refl, refl),
  );
}

pub others_none : (k : Kept) (own : Option ℕ) (ready : Bool) (e : BusFrame) → (¬ IsDue own e → Gives k own ready e [] k) × Gives k own false e [] k
others_none k own ready e = (λ none. rw (none_due own e none) (refl, refl), by (is_due own e) refl)
  where
    by : (t : Bool) → is_due own e ≡ t → Gives k own false e [] k
    by true is = rw is (refl, refl)
    by false is = rw is (refl, refl)

-- ---- sequences

-- what is kept after a frame, by whether an answer was sent and what was asked for
abbrev after_by : Kept → Bool → Bool → Bool → Kept
after_by k sent product lists =
    if sent then (if product then record k { products = (k.products + 1) % 8 } else if lists then record k { lists = (k.lists + 2) % 8 } else k) else k

step : (k : Kept) (products lists : ℕ) (s p l : Bool) → (p ≡ true → l ≡ false) → k.products ≡ products % 8 → k.lists ≡ lists % 8
    → ((after_by k s p l).information ≡ k.information) × ((after_by k s p l).products ≡ (products + (if s && p then 1 else 0)) % 8)
    × ((after_by k s p l).lists ≡ (lists + (if s && l then 2 else 0)) % 8)
step k products lists false p l apart e f = (refl, e ∙ omega arith, f ∙ omega arith)
step k products lists true true true apart e f = absurd (let g = apart refl in cc)
step k products lists true true false apart e f = (refl, omega (arith, e), f ∙ omega arith)
step k products lists true false true apart e f = (refl, e ∙ omega arith, omega (arith, f))
step k products lists true false false apart e f = (refl, e ∙ omega arith, f ∙ omega arith)

no_lists : (asked : ℕ) → (asked == product_information) ≡ true → (asked == pgn_lists) ≡ false
no_lists asked is = rw (eqb-true asked product_information is) refl

pub counts : (information : List ℕ) (h : List Call) → Counts information h
counts information [] = record { information_stays = refl; products = refl; lists = refl }
counts information (c ∷ h) =
    let before = counts information h in
    let asked = asked_of c.frame.held in
    let sent = is_due c.own c.frame && c.ready in
    let after = step (kept_by information h) (products_sent h) (lists_sent h) sent (asked == product_information) (asked == pgn_lists)
    (no_lists asked) before.products before.lists in
    record { information_stays = after.0 ∙ before.information_stays; products = after.1; lists = after.2 }
