-- What happens on the made-up bus: 251 devices claim the addresses from 0 on, and then one of them, drawn anew at each turn, says a heading,
-- sends the next frame of its position, or is silent.
use Rattle.std.specs.Prelude.{ℕ, zero, suc, ◌+◌, ◌%◌, ◌<◌, Bool, false, ◌==◌, nat_lt, if◌then◌else◌}
use Rattle.demo.specs.declared.turns.Turn.{Turn}
use Rattle.demo.specs.declared.turns.Turn.TheVariants.{Claim, Heading, Position, Tick}
use Rattle.demo.specs.Numbers.{next_state, number_in}

-- what was drawn, and the state then
pub record Drawn : Type 0 where
  pub turn : Turn
  pub after : ℕ

-- of the eight kinds four are headings, which are drawn too, three are positions, and one is none
abbrev pub drawn_kind : ℕ → ℕ → ℕ → Drawn
drawn_kind source kind x =
    if nat_lt kind 4 then record { turn = Heading source (number_in (next_state x) % 62832); after = next_state x }
    else if nat_lt kind 7 then record { turn = Position source; after = x }
    else record { turn = Tick; after = x }

abbrev pub drawn : ℕ → Drawn
drawn x = drawn_kind (number_in (next_state x) % 251) (number_in (next_state (next_state x)) % 8) (next_state (next_state x))

-- at the turn of this number, counted from 0, where the state is x
abbrev pub turn_of : ℕ → ℕ → Drawn
turn_of k x = if nat_lt k 251 then record { turn = Claim k; after = x } else drawn x

-- addresses are those of the devices, and a heading is less than a whole turn
abbrev pub IsTurn : Turn → Type 0
IsTurn (Claim address) = address < 251
IsTurn (Heading source heading) = (source < 251) × (heading < 62832)
IsTurn (Position source) = source < 251
IsTurn Tick = Unit {0}

-- ---- the turns that a seed gives

abbrev pub state_at : ℕ → ℕ → ℕ
state_at seed zero = seed
state_at seed (suc k) = (turn_of k (state_at seed k)).after

abbrev pub turn_at : ℕ → ℕ → Turn
turn_at seed k = (turn_of k (state_at seed k)).turn

abbrev pub is_position_from : ℕ → Turn → Bool
is_position_from a (Claim address) = false
is_position_from a (Heading source heading) = false
is_position_from a (Position source) = source == a
is_position_from a Tick = false

-- how many frames of its position a device has sent before a turn
abbrev pub positions_before : ℕ → ℕ → ℕ → ℕ
positions_before seed a zero = 0
positions_before seed a (suc k) = if is_position_from a (turn_at seed k) then positions_before seed a k + 1 else positions_before seed a k
