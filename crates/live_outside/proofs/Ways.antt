-- The destination of a group, and the destinations of routes, place by place.
use Rattle.std.proofs.Common.{◌≡◌, ◌≢◌, inl, inr, ℕ, suc, ◌+◌, ◌<◌, arith, List, [], ◌∷◌, ◌++◌, length, take, drop, get_or, refl, sym, ap, ◌∙◌, subst, add-one, Bool, true, false}
use Rattle.std.specs.Prelude.{Result, Ok, Err, IsOk, OnOk}
use Rattle.std.specs.Str.{bytes_eq}
use Rattle.std.proofs.lemmas.Slice.Eq.{bytes_eq-Decides}
use Rattle.std.proofs.lemmas.Bool.Decides.{not_from_Decides}
use Rattle.std.proofs.Math.Seq.{take-suc, drop-cons}
use Rattle.std.specs.declared.net.socket_addr.SocketAddrV4.{SocketAddrV4}
use Rattle.network_routes.specs.declared.Route.{Route}
use Rattle.live_outside.specs.declared.destinations.Destination.{Destination}
use Rattle.live_outside.specs.Destinations.{IsOfRoute, AreOfRoutes, GoesTo}

behind : (list : List Destination) (i : ℕ) (to : Destination) → to ≡ get_or list i to → i < length list → drop i list ≡ to ∷ drop (i + 1) list
behind list i to is below = rw add-one (drop-cons list i to below ∙ ap (λ (x : Destination). x ∷ drop (suc i) list) (sym is))

-- a destination of the group at a place decides
pub goes_here : (group : List ℕ) (list : List Destination) (i : ℕ) (to : Destination) (other : SocketAddrV4)
    (r : Bool) → to ≡ get_or list i to → i < length list → r ≡ bytes_eq to.group group → r ≡ true → GoesTo group (drop i list) other to.address
goes_here group list i to other r is below tested passes =
    let same : to.group ≡ group = (bytes_eq-Decides to.group group).0 (sym tested ∙ passes) in
    subst (λ (l : List Destination). GoesTo group l other to.address) (sym (behind list i to is below)) (inl (same, refl))

-- one of another group is passed over
pub goes_past : (group : List ℕ) (list : List Destination) (i : ℕ) (to : Destination) (other address : SocketAddrV4)
    (r : Bool) → to ≡ get_or list i to → i < length list → r ≡ bytes_eq to.group group → r ≡ false
    → GoesTo group (drop (i + 1) list) other address → GoesTo group (drop i list) other address
goes_past group list i to other address r is below tested fails goes =
    let differ : to.group ≢ group = not_from_Decides (bytes_eq to.group group) (bytes_eq-Decides to.group group) (sym tested ∙ fails) in
    subst (λ (l : List Destination). GoesTo group l other address) (sym (behind list i to is below)) (inr (differ, goes))

one_more : (routes : List Route) (list : List Destination) (route : Route) (to : Destination)
    → AreOfRoutes routes list → IsOfRoute route to → AreOfRoutes (routes ++ route ∷ []) (list ++ to ∷ [])
one_more [] [] route to all this = (this, tt)
one_more [] (x ∷ list) route to all this = absurd all
one_more (r ∷ routes) [] route to all this = absurd all
one_more (r ∷ routes) (x ∷ list) route to all this = (all.0, one_more routes list route to all.1 this)

-- the destinations of the first routes, and that of the next one
pub next_route : (routes : List Route) (i : ℕ) (route : Route) (list : List Destination) (to : Destination)
    → route ≡ get_or routes i route → i < length routes → AreOfRoutes (take i routes) list → IsOfRoute route to → AreOfRoutes (take (i + 1) routes) (list ++ to ∷ [])
next_route routes i route list to is below all this =
    let front : take (i + 1) routes ≡ take i routes ++ route ∷ [] = rw add-one (take-suc routes i route below ∙ ap (λ (x : Route). take i routes ++ x ∷ []) (sym is)) in
    subst (λ (l : List Route). AreOfRoutes l (list ++ to ∷ [])) (sym front) (one_more (take i routes) list route to all this)

-- what a result that is a value ensures
pub on_ok : {T E P : Type 0} → (result : Result T E) → IsOk result → OnOk result P → P
on_ok (Ok value) is on = on
on_ok (Err e) is on = absurd (grind arith)
