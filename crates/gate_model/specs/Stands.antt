-- When what a gateway keeps stands for all that ever came.
use Rattle.std.specs.Prelude.{◌≡◌, ℕ}
use Rattle.history.specs.Settings.{Settings, receiver_of}
use Rattle.history.specs.Entries.{History, IsHistory, now}
use Rattle.history.specs.Gate.{heard}
use Rattle.history.specs.AddressLaws.{AreSettings}
use Rattle.history.specs.FitLaws.{IsWithinLimits}
use Rattle.gate_model.specs.Orders.{OrdersFast, OrdersIso, OrdersGroups}
use Rattle.gate_model.specs.AddressStands.{StandsAddresses}
use Rattle.gate_model.specs.FastLaws.{StandsFastFor}
use Rattle.gate_model.specs.SessionLaws.{StandsFor}
use Rattle.gate_model.specs.SaidStands.{SaidStandsFor}
use Rattle.gate_model.specs.NetStands.{StandsNet}
use Rattle.gate_model.specs.NetLaws.{AreSequences}
use Rattle.gate_model.specs.Machine.{Compared, Machine}

-- keys are compared in the order in which they are reported
pub record AreOrders (o : Compared) : Type 0 where
  pub fast : OrdersFast o.fast
  pub sessions : OrdersIso o.sessions
  pub groups : OrdersGroups o.groups

-- at a moment no earlier than that of the last entry, when nothing is overdue
pub record StandsAt (o : Compared) (c : Settings) (s : ℕ) (h : History) (m : ℕ) (g : Machine) : Type 0 where
  pub settings : g.settings ≡ c
  pub addresses : StandsAddresses (receiver_of c) s h g.addresses
  pub moment : g.moment ≡ m
  pub fast : StandsFastFor o.fast (receiver_of c) s h m g.fast
  pub sessions : StandsFor o.sessions (receiver_of c) s h m g.sessions
  pub said : SaidStandsFor c s h g.said
  pub network : StandsNet o.groups c (heard c s h) m g.network

abbrev pub Stands : Compared → Settings → ℕ → History → Machine → Type 0
Stands o c s h g = StandsAt o c s h (now h) g

-- it stands for some history of a gateway that can be: so it is with everything that a gateway keeps
pub record IsReached (o : Compared) (g : Machine) : Type 0 where
  pub start : ℕ
  pub past : History
  pub settings : AreSettings g.settings
  pub limits : IsWithinLimits g.settings
  pub could : IsHistory past
  pub stands : Stands o g.settings start past g
  -- and of each row the number of the next fast packet is from 0 to 7
  pub sequences : AreSequences g.network.readings
