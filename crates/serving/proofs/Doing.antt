-- What several calls make of what came before, one behind the other.
use Rattle.std.proofs.Common.{◌≡◌, List, [], ◌∷◌, ◌++◌, refl, sym, ap, subst, ◌∙◌, append_assoc}
use Rattle.std.proofs.lemmas.List.{append-nil}
use Rattle.gate_outside.specs.Link.{Outcome}
use Rattle.bridge.specs.Running.{Running}
use Rattle.bridge.specs.Kept.{Bridged}
use Rattle.bridge.specs.BridgeSettings.{BridgeSettings}
use Rattle.serving.specs.Handing.{DoesAll, DoesSome, HandsAll, HandsSome, RunStands, passed}
use Rattle.serving.specs.Served.{IsFront, Outside, all_due}
use Rattle.serving.specs.Turns.{Item, Turned}
use Rattle.serving.proofs.Passing.{due_append, front_before, front_then, passes_none, passes_then, stops_then}

-- ---- the items of a list

pub hands_none : (o : Outside) → HandsAll o o []
hands_none o = record { tried = []; passes = passes_none o; is_due = refl }

pub hands_then : (a b c : Outside) (due more : List Item) → HandsAll a b due → HandsAll b c more → HandsAll a c (due ++ more)
hands_then a b c due more x y = record {
  tried = x.tried ++ y.tried;
  passes = passes_then a b c (passed [] [] x.tried) (passed [] [] y.tried) x.passes y.passes;
  is_due =
      due_append x.tried y.tried
      ∙ ap (λ (z : List Item). z ++ all_due y.tried) x.is_due
      ∙ ap (λ (z : List Item). due ++ z) y.is_due;
}

pub hands_some_then : (a b c : Outside) (due more : List Item) → HandsAll a b due → HandsSome b c more → HandsSome a c (due ++ more)
hands_some_then a b c due more x y = record {
  tried = x.tried ++ y.tried;
  last = y.last;
  stops = stops_then a b c (passed [] [] x.tried) (passed [] [] y.tried) y.last x.passes y.stops;
  is_front = front_then x.tried y.tried y.last due more x.is_due y.is_front;
}

pub hands_some_still : (a b : Outside) (due more : List Item) → HandsSome a b due → HandsSome a b (due ++ more)
hands_some_still a b due more x = record {
  tried = x.tried;
  last = x.last;
  stops = x.stops;
  is_front = front_before (all_due (x.tried ++ x.last ∷ [])) due more x.is_front;
}

pub hands_as : (a b : Outside) (due due' : List Item) → due ≡ due' → HandsAll a b due → HandsAll a b due'
hands_as a b due due' same x = subst (λ (z : List Item). HandsAll a b z) same x

pub hands_some_as : (a b : Outside) (due due' : List Item) → due ≡ due' → HandsSome a b due → HandsSome a b due'
hands_some_as a b due due' same x = subst (λ (z : List Item). HandsSome a b z) same x

-- of all these, the ones in front of the rest went out whole
pub record Partly (old now : Outside) (all rest : List Item) : Type 0 where
  pub done : List Item
  pub hands : HandsAll old now done
  pub split : done ++ rest ≡ all

pub partly_none : (o : Outside) (all : List Item) → Partly o o all all
partly_none o all = record { done = []; hands = hands_none o; split = refl }

pub partly_more : (old now new : Outside) (all rest due rest' : List Item) → Partly old now all rest → rest ≡ due ++ rest' → HandsAll now new due
    → Partly old new all rest'
partly_more old now new all rest due rest' x same h = record {
  done = x.done ++ due;
  hands = hands_then old now new x.done due x.hands h;
  split = append_assoc x.done due rest' ∙ ap (λ (z : List Item). x.done ++ z) (sym same) ∙ x.split;
}

pub partly_stopped : (old now new : Outside) (all rest due rest' : List Item) → Partly old now all rest → rest ≡ due ++ rest' → HandsSome now new due
    → HandsSome old new all
partly_stopped old now new all rest due rest' x same h =
    hands_some_as old new (x.done ++ (due ++ rest')) all (ap (λ (z : List Item). x.done ++ z) (sym same) ∙ x.split)
    (hands_some_then old now new x.done (due ++ rest') x.hands (hands_some_still now new due rest' h))

pub partly_all : (old now : Outside) (all rest : List Item) → Partly old now all rest → rest ≡ [] → HandsAll old now all
partly_all old now all rest x none =
    hands_as old now x.done all (sym (append-nil x.done) ∙ ap (λ (z : List Item). x.done ++ z) (sym none) ∙ x.split) x.hands

-- ---- what is made of what came before

abbrev pub nothing : BridgeSettings → Running → Turned
nothing p g = record { due = []; after = g }

pub does_nothing : (b : Bridged) (o : Outside) → DoesAll RunStands nothing [] [] b b o o
does_nothing b o = record {
  tried = [];
  passes = passes_none o;
  is_due = λ p g stands. refl;
  stands = λ p g stands. stands;
}

-- one behind the other
abbrev pub along : {S : Type 0} → (BridgeSettings → S → Turned) → (BridgeSettings → Running → Turned) → BridgeSettings → S → Turned
along makes next p g = let x = makes p g in let y = next p x.after in record { due = x.due ++ y.due; after = y.after }

module _ {S : Type 0} (Stands : BridgeSettings → S → Bridged → Type 0) where
  pub does_as : (makes makes' : BridgeSettings → S → Turned) (bus net : List Outcome) (before after : Bridged) (old new : Outside)
      → ((p : BridgeSettings) (g : S) → Stands p g before → makes p g ≡ makes' p g)
      → DoesAll Stands makes bus net before after old new → DoesAll Stands makes' bus net before after old new
  does_as makes makes' bus net before after old new same x = record {
    tried = x.tried;
    passes = x.passes;
    is_due = λ p g stands. x.is_due p g stands ∙ ap (λ (t : Turned). t.due) (same p g stands);
    stands = λ p g stands. subst (λ (t : Turned). RunStands p t.after after) (same p g stands) (x.stands p g stands);
  }

  pub does_some_as : (makes makes' : BridgeSettings → S → Turned) (bus net : List Outcome) (before : Bridged) (old new : Outside)
      → ((p : BridgeSettings) (g : S) → Stands p g before → makes p g ≡ makes' p g)
      → DoesSome Stands makes bus net before old new → DoesSome Stands makes' bus net before old new
  does_some_as makes makes' bus net before old new same x = record {
    tried = x.tried;
    last = x.last;
    stops = x.stops;
    is_front = λ p g stands. subst (λ (t : Turned). IsFront (all_due (x.tried ++ x.last ∷ [])) t.due) (same p g stands) (x.is_front p g stands);
  }

  module _ (makes : BridgeSettings → S → Turned) (next : BridgeSettings → Running → Turned) (bus net : List Outcome) (before : Bridged) (old : Outside) where
    pub does_then : (bus' net' : List Outcome) (mid after : Bridged) (between new : Outside) → DoesAll Stands makes bus net before mid old between
        → DoesAll RunStands next bus' net' mid after between new → DoesAll Stands (along makes next) (bus ++ bus') (net ++ net') before after old new
    does_then bus' net' mid after between new x y = record {
      tried = x.tried ++ y.tried;
      passes = passes_then old between new (passed bus net x.tried) (passed bus' net' y.tried) x.passes y.passes;
      is_due = λ p g stands.
          let here = x.stands p g stands in
          let due = (makes p g).due in
          due_append x.tried y.tried
          ∙ ap (λ (z : List Item). z ++ all_due y.tried) (x.is_due p g stands)
          ∙ ap (λ (z : List Item). due ++ z) (y.is_due p (makes p g).after here);
      stands = λ p g stands. y.stands p (makes p g).after (x.stands p g stands);
    }

    pub does_some_then : (bus' net' : List Outcome) (mid : Bridged) (between new : Outside) → DoesAll Stands makes bus net before mid old between
        → DoesSome RunStands next bus' net' mid between new → DoesSome Stands (along makes next) (bus ++ bus') (net ++ net') before old new
    does_some_then bus' net' mid between new x y = record {
      tried = x.tried ++ y.tried;
      last = y.last;
      stops = stops_then old between new (passed bus net x.tried) (passed bus' net' y.tried) y.last x.passes y.stops;
      is_front = λ p g stands.
          front_then x.tried y.tried y.last (makes p g).due (next p (makes p g).after).due (x.is_due p g stands)
          (y.is_front p (makes p g).after (x.stands p g stands));
    }

    -- a write failed, and what would have come next isn't reached
    pub does_some_still : (new : Outside) → DoesSome Stands makes bus net before old new → DoesSome Stands (along makes next) bus net before old new
    does_some_still new x = record {
      tried = x.tried;
      last = x.last;
      stops = x.stops;
      is_front = λ p g stands.
          front_before (all_due (x.tried ++ x.last ∷ [])) (makes p g).due (next p (makes p g).after).due (x.is_front p g stands);
    }
