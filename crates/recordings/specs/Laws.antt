-- The recording of a run gives, when it is replayed, what the gateway made in the run.
use Rattle.std.specs.Prelude.{◌≡◌, ℕ, ◌^◌, ◌<◌, true, List, Option}
use Rattle.std.specs.List.{AllByRecursion}
use Rattle.gateway_commands.specs.BridgeSettings.{BridgeSettings}
use Rattle.gateway_commands.specs.Replayed.{IsReplay, emitted_text}
use Rattle.gateway_commands.specs.Recorded.{made_in, recorded_in}
use Rattle.gateway_commands.specs.Served.{Outside, Serves, all_due}
use Rattle.recordings.specs.Separation.{IsTold}

-- no reading of the clock reaches 10^16 microseconds, so no moment does
abbrev pub AreEarly : List ℕ → Type 0
AreEarly readings = AllByRecursion (λ m. m < 10 ^ 16) readings

abbrev pub RecordingsReplay : Type 0
RecordingsReplay =
    (p : BridgeSettings) (turns : ℕ) (clock clock' : Option (List ℕ)) (old new : Outside) → p.records ≡ true → (x : Serves p turns clock clock' old new) → AreEarly x.readings
    → IsReplay p (recorded_in (all_due x.passed.tried)) (emitted_text (made_in (all_due x.passed.tried)))

-- it is told from the reports in what was written
abbrev pub RecordingsAreTold : Type 0
RecordingsAreTold =
    (p : BridgeSettings) (turns : ℕ) (clock clock' : Option (List ℕ)) (old new : Outside) → p.records ≡ true → (y : Serves p turns clock clock' old new) → AreEarly y.readings
    → IsTold y.passed.tried
