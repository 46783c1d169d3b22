-- Where a link listens and sends: an IPv4 address and a port of UDP, as text. Sentences go over UDP by IEC 61162-450.
use Rattle.std.specs.Prelude.{◌≡◌, ℕ, ◌^◌, ◌<◌, ◌≤◌, List, ◌++◌, codes, decimal}
use Rattle.std.specs.Net.Grammar.{IsDotted}

-- four numbers of 0 to 255 without leading zeros, divided by points
pub record IsHost (text : List ℕ) : Type 0 where
  pub octets : List ℕ
  pub dotted : IsDotted text octets

-- a port of 1 to 65535 in decimal digits, without leading zeros
pub record IsPort (text : List ℕ) : Type 0 where
  pub port : ℕ
  pub least : 1 ≤ port
  pub most : port < 2 ^ 16
  pub spelled : text ≡ decimal port

-- both with a colon between them: `127.0.0.1:60001`
pub record IsEndpoint (text : List ℕ) : Type 0 where
  pub host : List ℕ
  pub port : List ℕ
  pub at_host : IsHost host
  pub at_port : IsPort port
  pub spelled : text ≡ host ++ (codes ":" ++ port)
