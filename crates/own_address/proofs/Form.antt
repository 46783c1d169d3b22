-- The gateway's own address as a part beside it, as one value: it is told by a report, and says nothing on the network.
use Rattle.std.proofs.Common.{◌≡◌, ℕ, [], ◌∷◌, refl}
use Rattle.std.specs.Prelude.{nat_eq, Option, None}
use Rattle.std.specs.Option.{option_eq}
use Rattle.report_rules.specs.Rules as rules
use Rattle.gate_events.specs.declared.emit.Detail.TheVariants as detail
use Rattle.history.specs.Emits.{broken}
use Rattle.history.specs.EntryLaws.{nets_in}
use Rattle.history.proofs.EntrySteps.{if_none}
use Rattle.parts.specs.Utterances.{streamless, utters_datagrams}
use Rattle.parts.specs.Forms.{PartForm, place}
use Rattle.parts.specs.Voices.{silent}
use Rattle.own_address.specs.AddressOut.{address_asked, address_gives, address_out, address_stands, own_at, own_told, told}
use Rattle.own_address.specs.declared.own_address.OwnAddress.{OwnAddress}

pub no_datagram : (before now : Option ℕ) → nets_in (told before now) ≡ []
no_datagram before now = if_none (option_eq nat_eq now before) [] (broken rules.own_address (detail.Own now) ∷ []) refl refl

abbrev pub own_address : PartForm
own_address = record {
  rule = Unit {0};
  asked = address_asked;
  kept = OwnAddress;
  places = place 1;
  stand = address_stands;
  give = address_gives;
  utter = streamless address_gives;
  say = λ r c s h e. [];
  speaks = λ r c. Unit {0};
  commands = λ r c s h source address k are stands. stands;
  read = λ r c s h e speaks. silent (address_out c s h e) (no_datagram (own_told c s h) (own_at c s (e ∷ h)));
  understood = λ x typed valid. λ r is. tt;
  datagrams = utters_datagrams None address_gives;
}
