-- A message leaves what is left of it with its payload, whether that is read before or not.
use Rattle.std.proofs.Common.{◌≡◌, ℕ, List, [], ◌∷◌, Option, Some, None, refl}
use Rattle.std.specs.Prelude.{IfSome}
use Rattle.readings.specs.declared.reading.Reading.{Reading}
use Rattle.readings.specs.Rows.{IsValid}
use Rattle.pgn_profile.specs.declared.profiled.Profiled.{Profiled}
use Rattle.pgn_profile.specs.declared.profiled.Profiled.TheVariants as says
use Rattle.pgn_profile.specs.Profiled.{GivesValid}
use Rattle.gate_events.specs.Emit.{Emit}
use Rattle.history.specs.Choice.{reading_in}
use Rattle.source_choice.specs.declared.rank.Rank.{Rank}
use Rattle.history.specs.Messages.{Carried}
use Rattle.history.specs.Settings.{Settings}
use Rattle.gate_model.specs.Said.{SaidKept, profiled_after, profiled_emits, ranked_after, ranked_emits, rank_by}
use Rattle.gate_outbox.specs.Output.{Emitted, and_posted, and_told}
use Rattle.row_traffic.specs.declared.said.Sender.{Sender}
use Rattle.row_traffic.specs.Saying.{message_from}
use Rattle.gate_core.specs.Completing.{whole}

pub valid_reading : (p : Profiled) → GivesValid p → IfSome (reading_in p) IsValid
valid_reading (says.Reading r) valid = valid
valid_reading says.Outside valid = tt
valid_reading says.Short valid = tt

module _ (c : Settings) (k : SaidKept) (sender : Sender) (what : Carried) where
  ranked_after_same : (r : Reading) (rank : Option Rank) → ranked_after c k (message_from sender) r rank ≡ ranked_after c k (whole sender what) r rank
  ranked_after_same r None = refl
  ranked_after_same r (Some rank) = refl

  ranked_emits_same : (r : Reading) (rank : Option Rank) → ranked_emits c k (message_from sender) r rank ≡ ranked_emits c k (whole sender what) r rank
  ranked_emits_same r None = refl
  ranked_emits_same r (Some rank) = refl

  pub same_after : (r : Option Reading) → profiled_after c k (message_from sender) r ≡ profiled_after c k (whole sender what) r
  same_after None = refl
  same_after (Some r) = ranked_after_same r (rank_by c (whole sender what) r)

  pub same_emits : (r : Option Reading) → profiled_emits c k (message_from sender) r ≡ profiled_emits c k (whole sender what) r
  same_emits None = refl
  same_emits (Some r) = ranked_emits_same r (rank_by c (whole sender what) r)

-- a datagram stands behind all that is told
pub posted_last : (room : ℕ) (x : Emitted) (told posted : List Emit) → and_told room (and_posted x posted) told ≡ and_posted (and_told room x told) posted
posted_last room x told [] = refl
posted_last room x told (e ∷ es) = refl
