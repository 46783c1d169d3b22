-- The places of links on this machine are endpoints.
use Rattle.std.proofs.Common.{ℕ, ◌^◌, ◌<◌, ◌≤◌, [], ◌∷◌, ◌++◌, decimal, refl, arith}
use Rattle.std.specs.Prelude.{codes}
use Rattle.std.specs.Fmt.{digits}
use Rattle.config_values.specs.Endpoints.{IsEndpoint, IsHost, IsPort}

local_host : IsHost (codes "127.0.0.1")
unfolding digits
local_host = record {
  octets = 127 ∷ 0 ∷ 0 ∷ 1 ∷ [];
  dotted = record {
    a = 127;
    b = 0;
    c = 0;
    d = 1;
    fit = (omega arith, omega arith, omega arith, omega arith);
    value = refl;
    spelled = refl;
  };
}

port_of : (port : ℕ) → 1 ≤ port → port < 2 ^ 16 → IsPort (decimal port)
port_of port least most = record { port = port; least = least; most = most; spelled = refl }

local : (port : ℕ) → 1 ≤ port → port < 2 ^ 16 → IsEndpoint (codes "127.0.0.1" ++ (codes ":" ++ decimal port))
local port least most = record {
  host = codes "127.0.0.1";
  port = decimal port;
  at_host = local_host;
  at_port = port_of port least most;
  spelled = refl;
}

pub bus_listen : IsEndpoint (codes "127.0.0.1:60101")
unfolding digits
bus_listen = local 60101 (omega arith) (omega arith)

pub bus_send : IsEndpoint (codes "127.0.0.1:60102")
unfolding digits
bus_send = local 60102 (omega arith) (omega arith)

pub net_listen : IsEndpoint (codes "127.0.0.1:60001")
unfolding digits
net_listen = local 60001 (omega arith) (omega arith)

pub net_send : IsEndpoint (codes "127.0.0.1:60002")
unfolding digits
net_send = local 60002 (omega arith) (omega arith)
