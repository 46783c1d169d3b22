-- What is noted of the variation stands for one more entry.
use Rattle.std.proofs.Common.{ℕ, ◌<◌, Bool, true, false, ◌∷◌, Option, Some, None, arith}
use Rattle.std.specs.Prelude.{IfSome, if◌then◌else◌}
use Rattle.source_choice.specs.Choices.{Choices}
use Rattle.history.specs.AddressLaws.{AreSettings}
use Rattle.history.specs.Entries.{Entry, History, command}
use Rattle.history.specs.Messages.{Message}
use Rattle.history.specs.Settings.{Settings}
use Rattle.gate_model.specs.AddressStands.{changes_in}
use Rattle.gate_model.specs.ChoiceStands.{ChoicesStandFor}
use Rattle.gate_model.specs.ChoiceStandsLaws.{TellWithin}
use Rattle.bus_listener.specs.Noting.{forgotten_of}
use Rattle.bus_listener.proofs.KnownLemmas.{is_receiver}
use Rattle.bus_listener.proofs.Noted.{IsNoted, command_noted, entry_noted}
use Rattle.joined_heading.specs.HeadingRule.{HeadingRule}
use Rattle.joined_heading.specs.Variations.{is_short, kind_of, told_by, variation_of, variation_receiver, variation_told}
use Rattle.joined_heading.specs.VariationKind.{variation_is_heard}

tell_within : TellWithin variation_told 1
tell_within d = by (is_short d.payload)
  where
    by : (b : Bool) → IfSome (if b then None else Some (told_by (variation_of d.payload))) (λ t. t.subject < 1)
    by true = tt
    by false = omega arith

module _ (x : HeadingRule) (c : Settings) (s : ℕ) (h : History) where
  abbrev pub Stand : History → Choices → Type 0
  Stand h k = ChoicesStandFor variation_told (λ subject. x.taken) 1 (variation_receiver c) s h k

  abbrev pub IsVariationNoted : Entry → Choices → Option Message → Type 0
  IsVariationNoted e k o = IsNoted variation_told (λ subject. x.taken) 1 (variation_receiver c) s h e k o

  pub variation_noted : AreSettings c → (k : Choices) → Stand h k → (e : Entry)
      → (o : Option Message) × IsVariationNoted e (forgotten_of (changes_in (variation_receiver c) s (e ∷ h)) k) o
  variation_noted settings k stands e =
      entry_noted variation_told (λ subject. x.taken) 1 (variation_receiver c) s h tell_within (is_receiver kind_of 0 c variation_is_heard settings) k stands e

  pub variation_commanded : (k : Choices) → Stand h k → (m source address : ℕ) → Stand (command m source address ∷ h) k
  variation_commanded k stands m source address =
      command_noted variation_told (λ subject. x.taken) 1 (variation_receiver c) s h k stands m source address
