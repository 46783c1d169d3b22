-- Ports of the machine itself are endpoints.
use Rattle.std.proofs.Common.{ℕ, ◌^◌, ◌<◌, ◌≤◌, [], ◌∷◌, decimal, length, length-append, refl, arith}
use Rattle.std.specs.Prelude.{codes}
use Rattle.std.specs.Fmt.{digits}
use Rattle.std.proofs.lemmas.Fmt.{length-decimal-le_wide}
use Rattle.config_values.specs.Endpoints.{IsEndpoint, IsHost}
use Rattle.gate_config.specs.Texts.{loopback}

host : IsHost (codes "127.0.0.1")
unfolding digits
host = record {
  octets = 127 ∷ 0 ∷ 0 ∷ 1 ∷ [];
  dotted = record { a = 127; b = 0; c = 0; d = 1; fit = (omega arith, omega arith, omega arith, omega arith); value = refl; spelled = refl };
}

pub is_endpoint : (port : ℕ) → 1 ≤ port → port < 2 ^ 16 → IsEndpoint (loopback port)
unfolding loopback
is_endpoint port least most = record {
  host = codes "127.0.0.1";
  port = decimal port;
  at_host = host;
  at_port = record { port = port; least = least; most = most; spelled = refl };
  spelled = refl;
}

pub five_digits : (port : ℕ) → port < 2 ^ 16 → length (decimal port) ≤ 5
five_digits port most = length-decimal-le_wide 5 port (omega arith) (omega arith) (omega arith)

pub short : (port : ℕ) → port < 2 ^ 16 → length (loopback port) ≤ 64
unfolding loopback
short port most =
    let few = five_digits port most in
    let sum = length-append (codes "127.0.0.1:") (decimal port) in
    omega arith
