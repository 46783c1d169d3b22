-- What the bridge keeps and leaves, as plain values.
use Rattle.std.specs.Prelude.{◌≡◌, ◌≤◌, ℕ, ◌-◌, Bool, true, false, List, [], ◌++◌, length, take, drop, Option}
use Rattle.gate_events.specs.Emit.{Emit, Emitted}
use Rattle.history.specs.Emits.{at}
use Rattle.gate_model.specs.Machine.{Machine}
use Rattle.gate_outbox.specs.Output.{Output, emits_of, no_emits, nothing}
use Rattle.plain_out.specs.Pace.{Voice}
use Rattle.bridge.specs.Beside.{BesideKept, beside_output, beside_plain}
use Rattle.bridge.specs.declared.call_output.CallOutput.{CallOutput}
use Rattle.bridge.specs.declared.replaced.Replaced.{Replaced}

pub record Bridged : Type 0 where
  pub started : Bool
  -- the moment at which it started
  pub start : ℕ
  pub gateway : Machine
  -- the parts beside the gateway, with what each gave
  pub parts : BesideKept
  -- who says plain sentences
  pub plain : Option Voice
  -- the rows that plain sentences lack, since what a part says stands in their place
  pub replaced : Replaced
  -- whether what comes is written down
  pub records : Bool
  -- what the gateway itself gave at the last call
  pub output : CallOutput

-- ---- what a call leaves

abbrev pub output_by : Output → CallOutput
output_by o = record { outbox = o; ordered = 0; plain = no_emits }

abbrev pub no_output : CallOutput
no_output = output_by nothing

-- how many of the gateway's own emits the event gave
abbrev pub given_count : CallOutput → ℕ
given_count x = length (emits_of x.outbox.emits) - x.ordered

-- what the gateway itself gave at the event, and at the command that the event completed
abbrev pub own_output : CallOutput → List Emit
own_output x = take (given_count x) (emits_of x.outbox.emits)

abbrev pub ordered_output : CallOutput → List Emit
ordered_output x = drop (given_count x) (emits_of x.outbox.emits)

-- what is said once more as plain sentences: of the gateway itself, and of the parts beside it
abbrev pub plain_output : CallOutput → BesideKept → List Emit
plain_output x parts = emits_of x.plain ++ beside_plain parts

-- there is nothing but what the gateway itself gave at the event
pub record IsAlone (x : CallOutput) (parts : BesideKept) : Type 0 where
  pub ordered : x.ordered ≡ 0
  pub plain : x.plain ≡ no_emits
  pub emits : beside_output parts ≡ []
  pub said : beside_plain parts ≡ []

-- the parts may have given something, or a command
abbrev pub MayGive : Bool → CallOutput → BesideKept → Type 0
MayGive false x parts = IsAlone x parts
MayGive true x parts = x.ordered ≤ length (emits_of x.outbox.emits)

-- all behind what the gateway itself gave at the event
abbrev pub beside_out : Bridged → List Emit
beside_out b = beside_output b.parts ++ (plain_output b.output b.parts ++ ordered_output b.output)

-- in the order in which it goes out
abbrev pub output_of : Bridged → List Emit
output_of b = own_output b.output ++ beside_out b

-- at this moment
abbrev pub output_at : ℕ → Bridged → List Emitted
output_at m b = at m (output_of b)
