-- What passes between the bridge and the outside, one piece behind the other.
use Rattle.std.proofs.Common.{◌≡◌, ℕ, Bool, List, [], ◌∷◌, ◌++◌, refl, sym, ap, subst, ◌∙◌, append_assoc}
use Rattle.std.specs.Prelude.{Option, Some, None}
use Rattle.std.specs.List.{flat_map}
use Rattle.std.proofs.lemmas.Grind.{flat_map-append}
use Rattle.std.proofs.lemmas.List.{append-nil, map-append}
use Rattle.gate_outside.specs.Faults.{Rose}
use Rattle.gate_outside.specs.Link.{Attachment, GoesOn, Handed, Outcome, Traffic}
use Rattle.gate_outside.specs.Told.{Joins}
use Rattle.capture_stream.proofs.WriterLemmas.{Joins-nil, Joins-then}
use Rattle.serving.specs.Handing.{passed}
use Rattle.serving.specs.Served.{IsFront, Outside, Passed, Passes, ReportsAreLines, Stops, Tried, all_due, bus_sends, net_sends, over_bus, over_net, to_bus, to_net, to_text, with_last}
use Rattle.serving.specs.Turns.{Item}

-- ---- what a link tells goes on

pub goes_as : (f h : Traffic → Traffic) → ((t : Traffic) → f t ≡ h t) → (a b : Option Traffic) → GoesOn f a b → GoesOn h a b
goes_as f h same a None p = tt
goes_as f h same None (Some b) p = absurd p
goes_as f h same (Some a) (Some b) p = p ∙ same a

pub goes_still : (f : Traffic → Traffic) → ((t : Traffic) → t ≡ f t) → (a : Option Traffic) → GoesOn f a a
goes_still f same None = tt
goes_still f same (Some a) = same a

pub goes_then : (f g h : Traffic → Traffic) → ((t : Traffic) → g (f t) ≡ h t) → (a b c : Option Traffic) → GoesOn f a b → GoesOn g b c → GoesOn h a c
goes_then f g h same a b None p q = tt
goes_then f g h same a None (Some c) p q = absurd q
goes_then f g h same None (Some b) (Some c) p q = absurd p
goes_then f g h same (Some a) (Some b) (Some c) p q = q ∙ ap g p ∙ same a

-- ---- the lists of a link

abbrev traffic : Option Attachment → List Outcome → List Handed → List Bool → Traffic
traffic attached received handed sends = record { received = received; handed = handed; sends = sends; attached = attached }

pub traffic_same : (attached : Option Attachment) (r r' : List Outcome) (h h' : List Handed) (s s' : List Bool) → r ≡ r' → h ≡ h' → s ≡ s'
    → traffic attached r h s ≡ traffic attached r' h' s'
traffic_same attached r r' h h' s s' er eh es =
    ap (λ (x : List Outcome). traffic attached x h s) er
    ∙ ap (λ (x : List Handed). traffic attached r' x s) eh
    ∙ ap (λ (x : List Bool). traffic attached r' h' x) es

-- nothing was added
pub traffic_still : (t : Traffic) → t ≡ traffic t.attached (t.received ++ []) (t.handed ++ []) (t.sends ++ [])
traffic_still t =
    traffic_same t.attached t.received (t.received ++ []) t.handed (t.handed ++ []) t.sends (t.sends ++ [])
    (sym (append-nil t.received)) (sym (append-nil t.handed)) (sym (append-nil t.sends))

behind : {X A : Type 0} (f : X → List A) (before : List A) (xs ys : List X) → (before ++ flat_map f xs) ++ flat_map f ys ≡ before ++ flat_map f (xs ++ ys)
behind f before xs ys =
    append_assoc before (flat_map f xs) (flat_map f ys)
    ∙ ap (λ (z : List _). before ++ z) (sym (flat_map-append f xs ys))

abbrev pub both : Passed → Passed → Passed
both x y = record { from_bus = x.from_bus ++ y.from_bus; from_net = x.from_net ++ y.from_net; tried = x.tried ++ y.tried }

bus_then : (x y : Passed) (t : Traffic) → over_bus y (over_bus x t) ≡ over_bus (both x y) t
bus_then x y t =
    traffic_same t.attached
    ((t.received ++ x.from_bus) ++ y.from_bus) (t.received ++ (x.from_bus ++ y.from_bus))
    ((t.handed ++ flat_map to_bus x.tried) ++ flat_map to_bus y.tried) (t.handed ++ flat_map to_bus (x.tried ++ y.tried))
    ((t.sends ++ flat_map bus_sends x.tried) ++ flat_map bus_sends y.tried) (t.sends ++ flat_map bus_sends (x.tried ++ y.tried))
    (append_assoc t.received x.from_bus y.from_bus) (behind to_bus t.handed x.tried y.tried) (behind bus_sends t.sends x.tried y.tried)

net_then : (x y : Passed) (t : Traffic) → over_net y (over_net x t) ≡ over_net (both x y) t
net_then x y t =
    traffic_same t.attached
    ((t.received ++ x.from_net) ++ y.from_net) (t.received ++ (x.from_net ++ y.from_net))
    ((t.handed ++ flat_map to_net x.tried) ++ flat_map to_net y.tried) (t.handed ++ flat_map to_net (x.tried ++ y.tried))
    ((t.sends ++ flat_map net_sends x.tried) ++ flat_map net_sends y.tried) (t.sends ++ flat_map net_sends (x.tried ++ y.tried))
    (append_assoc t.received x.from_net y.from_net) (behind to_net t.handed x.tried y.tried) (behind net_sends t.sends x.tried y.tried)

-- ---- all that passes

lines_then : (xs ys : List Tried) → ReportsAreLines xs → ReportsAreLines ys → ReportsAreLines (xs ++ ys)
lines_then [] ys first second = second
lines_then (t ∷ xs) ys first second = (first.0, lines_then xs ys first.1 second)

pub passes_none : (o : Outside) → Passes o o (passed [] [] [])
passes_none o = record {
  bus = goes_still (over_bus (passed [] [] [])) traffic_still o.bus;
  net = goes_still (over_net (passed [] [] [])) traffic_still o.net;
  text = Joins-nil o.taken;
  lines = tt;
  steady = refl;
}

pub passes_then : (a b c : Outside) (x y : Passed) → Passes a b x → Passes b c y → Passes a c (both x y)
passes_then a b c x y p q = record {
  bus = goes_then (over_bus x) (over_bus y) (over_bus (both x y)) (bus_then x y) a.bus b.bus c.bus p.bus q.bus;
  net = goes_then (over_net x) (over_net y) (over_net (both x y)) (net_then x y) a.net b.net c.net p.net q.net;
  text = subst (λ (t : List ℕ). Joins a.taken c.taken t) (sym (flat_map-append to_text x.tried y.tried))
      (Joins-then a.taken b.taken c.taken (flat_map to_text x.tried) (flat_map to_text y.tried) p.text q.text);
  lines = lines_then x.tried y.tried p.lines q.lines;
  steady = q.steady ∙ p.steady;
}

last_behind : (x y : Passed) (last : Tried) → both x (with_last y last) ≡ with_last (both x y) last
last_behind x y last =
    ap (λ (ts : List Tried). record { from_bus = x.from_bus ++ y.from_bus; from_net = x.from_net ++ y.from_net; tried = ts })
    (sym (append_assoc x.tried y.tried (last ∷ [])))

pub stops_then : (a b c : Outside) (x y : Passed) (last : Tried) → Passes a b x → Stops b c y last → Stops a c (both x y) last
stops_then a b c x y last p q =
    let end = last_behind x y last in
    record {
      bus = goes_then (over_bus x) (over_bus (with_last y last)) (over_bus (with_last (both x y) last))
          (λ t. bus_then x (with_last y last) t ∙ ap (λ (z : Passed). over_bus z t) end) a.bus b.bus c.bus p.bus q.bus;
      net = goes_then (over_net x) (over_net (with_last y last)) (over_net (with_last (both x y) last))
          (λ t. net_then x (with_last y last) t ∙ ap (λ (z : Passed). over_net z t) end) a.net b.net c.net p.net q.net;
      is_written = q.is_written;
      part = q.part;
      untaken = q.untaken;
      text = subst (λ (t : List ℕ). Joins a.taken c.taken t)
          (sym (append_assoc (flat_map to_text x.tried) (flat_map to_text y.tried) q.part)
          ∙ ap (λ (z : List ℕ). z ++ q.part) (sym (flat_map-append to_text x.tried y.tried)))
          (Joins-then a.taken b.taken c.taken (flat_map to_text x.tried) (flat_map to_text y.tried ++ q.part) p.text q.text);
      front = q.front;
      some = q.some;
      rose = subst (λ (n : ℕ). Rose n c.faults) p.steady q.rose;
    }

-- ---- what is due, and fronts of it

pub due_append : (xs ys : List Tried) → all_due (xs ++ ys) ≡ all_due xs ++ all_due ys
due_append xs ys = map-append (λ (t : Tried). t.due) xs ys

pub front_before : (front all more : List Item) → IsFront front all → IsFront front (all ++ more)
front_before front all more f = (
  f.0 ++ more,
  ap (λ (x : List Item). x ++ more) f.1 ∙ append_assoc front f.0 more,
)

pub front_behind : (before front all : List Item) → IsFront front all → IsFront (before ++ front) (before ++ all)
front_behind before front all f = (
  f.0,
  ap (λ (x : List Item). before ++ x) f.1 ∙ sym (append_assoc before front f.0),
)

pub front_as : (front front' all all' : List Item) → front ≡ front' → all ≡ all' → IsFront front all → IsFront front' all'
front_as front front' all all' ef ea f = (
  f.0,
  sym ea ∙ f.1 ∙ ap (λ (x : List Item). x ++ f.0) ef,
)

-- behind items that went out whole the first of more went out
pub front_then : (xs ys : List Tried) (last : Tried) (due more : List Item) → all_due xs ≡ due → IsFront (all_due (ys ++ last ∷ [])) more
    → IsFront (all_due ((xs ++ ys) ++ last ∷ [])) (due ++ more)
front_then xs ys last due more is f =
    front_as (due ++ all_due (ys ++ last ∷ [])) (all_due ((xs ++ ys) ++ last ∷ [])) (due ++ more) (due ++ more)
    (ap (λ (x : List Item). x ++ all_due (ys ++ last ∷ [])) (sym is)
    ∙ sym (due_append xs (ys ++ last ∷ []))
    ∙ ap all_due (sym (append_assoc xs ys (last ∷ [])))) refl
    (front_behind due (all_due (ys ++ last ∷ [])) more f)
