-- What holds of the addresses after every history.
use Rattle.std.specs.Prelude.{◌≡◌, ℕ, ◌<◌, ◌≤◌, false, length, All}
use Rattle.claim_table.specs.Claims.{IsSinceBy, move_places, repeats, takes}
use Rattle.claim_table.specs.Laws.{IsSound}
use Rattle.n2k_id.specs.Pgns as pgns
use Rattle.history.specs.Entries.{History}
use Rattle.pgn_profile.specs.declared.kinds.Kind.TheVariants.{Outside}
use Rattle.history.specs.Settings.{Settings, Receiver, receiver_of}
use Rattle.history.specs.Known.{Known, known}

-- settings of which a gateway can be made: it begins with an address that a device may move to, no two presets share an address
-- or a NAME, and none has the gateway's own
pub record AreSettings (c : Settings) : Type 0 where
  pub address : c.address < move_places
  pub apart : repeats c.presets ≡ false
  pub others : takes c.name c.address c.presets ≡ false

-- a receiver that can be: so are its address and presets, and no PGN of claims, of requests or of the transport protocol is that of a
-- message
pub record IsReceiver (r : Receiver) : Type 0 where
  pub address : r.address < move_places
  pub apart : repeats r.presets ≡ false
  pub others : takes r.name r.address r.presets ≡ false
  pub claims : r.kinds pgns.address_claimed ≡ Outside
  pub requests : r.kinds pgns.request ≡ Outside
  pub management : r.kinds pgns.connection_management ≡ Outside
  pub data_packets : r.kinds pgns.data_transfer ≡ Outside

-- a gateway of such settings is one
abbrev pub GatewaysReceive : Type 0
GatewaysReceive = (c : Settings) → AreSettings c → IsReceiver (receiver_of c)

-- no NAME has two addresses, the own address has no other holder and the own NAME none besides it; and no index since which a holder
-- has its address, or the gateway its own, is greater than n
pub record AreSound (k : Known) (n : ℕ) : Type 0 where
  pub sound : IsSound k.claims
  pub dated : All (IsSinceBy n) k.claims.holders
  pub own_dated : k.own_since ≤ n

abbrev pub AddressesAreSound : Type 0
AddressesAreSound = (r : Receiver) (s : ℕ) (h : History) → IsReceiver r → AreSound (known r s h) (length h)
