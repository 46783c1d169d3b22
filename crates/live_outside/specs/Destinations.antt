-- Where what is sent to a group goes.
use Rattle.std.specs.Prelude.{◌≡◌, ◌≢◌, ◌⊎◌, ⊤, ℕ, List, [], ◌∷◌}
use Rattle.std.specs.declared.net.socket_addr.SocketAddrV4.{SocketAddrV4}
use Rattle.std.specs.Net.Grammar.{IsSocketV4Text}
use Rattle.network_routes.specs.declared.Route.{Route}
use Rattle.live_outside.specs.declared.destinations.Destination.{Destination}

-- The destination is that of the route: its group, and the address that its text spells.
abbrev pub IsOfRoute : Route → Destination → Type 0
IsOfRoute route to = (to.group ≡ route.group) × IsSocketV4Text route.address.items to.address

-- There is one destination for each route, in their order.
abbrev pub AreOfRoutes : List Route → List Destination → Type 0
AreOfRoutes [] [] = ⊤
AreOfRoutes [] (to ∷ list) = ⊥
AreOfRoutes (route ∷ routes) [] = ⊥
AreOfRoutes (route ∷ routes) (to ∷ list) = IsOfRoute route to × AreOfRoutes routes list

-- What is sent to a group goes to the address of its first destination, or, where it has none, to that of every other group.
abbrev pub GoesTo : List ℕ → List Destination → SocketAddrV4 → SocketAddrV4 → Type 0
GoesTo group [] other address = address ≡ other
GoesTo group (to ∷ list) other address = ((to.group ≡ group) × (address ≡ to.address)) ⊎ ((to.group ≢ group) × GoesTo group list other address)
