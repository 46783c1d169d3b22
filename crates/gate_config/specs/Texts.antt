-- An endpoint as a text, by a test, and what is the same.
use Rattle.std.specs.Prelude.{ℕ, ◌+◌, ◌^◌, Bool, false, true, ◌&&◌, ◌==◌, nat_eq, nat_le, nat_lt, List, [], ◌∷◌, ◌++◌, codes, length, take, drop, decimal, Option, Some, None, if◌then◌else◌}
use Rattle.std.specs.Bool.{beq}
use Rattle.std.specs.Cmp.Lexicographic.{pointwise}
use Rattle.std.specs.List.{position}
use Rattle.std.specs.Net.Reader.{read_ipv4}
use Rattle.std.specs.Option.{option_eq}
use Rattle.std.specs.Str.Parse.{digits_value}
use Rattle.n2k_id.specs.declared.pattern.Pattern.{Pattern}
use Rattle.gate_config.specs.declared.endpoint.Endpoint.{Endpoint}

abbrev pub same_text : List ℕ → List ℕ → Bool
same_text s t = pointwise nat_eq s t

-- each field is the same
abbrev pub same_pattern : Pattern → Pattern → Bool
same_pattern p q =
    option_eq nat_eq p.unique q.unique && (option_eq nat_eq p.manufacturer q.manufacturer && (option_eq nat_eq p.instance_lower q.instance_lower
    && (option_eq nat_eq p.instance_upper q.instance_upper && (option_eq nat_eq p.function q.function && (option_eq nat_eq p.reserved q.reserved
    && (option_eq nat_eq p.class q.class && (option_eq nat_eq p.system_instance q.system_instance
    && (option_eq nat_eq p.industry q.industry && option_eq beq p.arbitrary q.arbitrary))))))))

-- four numbers of 0 to 255 without leading zeros, divided by points, and nothing behind them
abbrev pub ends : Option (List ℕ × List ℕ) → Bool
ends None = false
ends (Some (octets, [])) = true
ends (Some (octets, byte ∷ more)) = false

abbrev pub is_host : List ℕ → Bool
is_host text = ends (read_ipv4 text)

-- a port of 1 to 65535, as its number is written
abbrev pub is_port : List ℕ → Bool
is_port text =
    let port = digits_value 10 text in
    same_text (decimal port) text && (nat_le 1 port && nat_lt port (2 ^ 16))

abbrev pub divided : List ℕ → Option ℕ → Bool
divided text None = false
divided text (Some colon) = is_host (take colon text) && is_port (drop (colon + 1) text)

-- both with a colon between them
unfoldable pub is_endpoint : List ℕ → Bool
is_endpoint text = divided text (position (λ byte. byte == 58) text)

-- a port of the machine itself
unfoldable pub loopback : ℕ → List ℕ
loopback port = codes "127.0.0.1:" ++ decimal port

abbrev pub endpoint_in : List ℕ → Option Endpoint
endpoint_in text = if is_endpoint text && nat_le (length text) 64 then Some (record { 0 = record { items = text } }) else None
