-- Which parameter groups a listener hears, and how their messages come.
use Rattle.std.specs.Prelude.{◌≡◌, ℕ, Bool, true, false, not}
use Rattle.n2k_id.specs.Pgns as pgns
use Rattle.pgn_profile.specs.Profiled.{kind_of}
use Rattle.pgn_profile.specs.declared.kinds.Kind.{Kind}
use Rattle.pgn_profile.specs.declared.kinds.Kind.TheVariants.{Single, Fast, Outside}

-- messages of it come
abbrev pub is_message : Kind → Bool
is_message Single = true
is_message Fast = true
is_message Outside = false

-- what a frame of it breaks is told by the listener: the gateway tells that of its own messages
abbrev pub is_told : ℕ → Bool
is_told pgn = not (is_message (kind_of pgn))

-- it hears no claims, no requests and nothing of the transport protocol (ISO 11783-3, ISO 11783-5), and assembles no fast packets that
-- the gateway assembles
pub record AreHeard (kinds : ℕ → Kind) : Type 0 where
  pub claims : kinds pgns.address_claimed ≡ Outside
  pub requests : kinds pgns.request ≡ Outside
  pub management : kinds pgns.connection_management ≡ Outside
  pub data_packets : kinds pgns.data_transfer ≡ Outside
  pub assembled : (pgn : ℕ) → kinds pgn ≡ Fast → is_told pgn ≡ true
