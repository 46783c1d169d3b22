-- What the listener knows of the addresses is what the gateway knows.
use Rattle.std.proofs.Common.{◌≡◌, ℕ, [], ◌∷◌, length, if◌then◌else◌, refl, ap, ◌∙◌}
use Rattle.claim_table.specs.Claims.{claim}
use Rattle.claim_table.specs.Laws.{capped}
use Rattle.pgn_profile.specs.declared.kinds.Kind.{Kind}
use Rattle.history.specs.AddressLaws.{AreSettings, IsReceiver}
use Rattle.history.specs.Entries as entry
use Rattle.history.specs.Entries.{History}
use Rattle.history.specs.Known.{claim_by, is_claim, known, known_after}
use Rattle.history.specs.Settings.{receiver_of, Settings}
use Rattle.gate_model.specs.Addresses.{AddressesKept, changed_by, last_index, no_change}
use Rattle.gate_model.specs.AddressStands.{StandsAddresses, changes_in}
use Rattle.bus_listener.specs.Heard.{listener}
use Rattle.bus_listener.specs.Kinds.{AreHeard}

module _ (kinds : ℕ → Kind) (slots : ℕ) (c : Settings) (s : ℕ) where
  pub same_known : (h : History) → known (receiver_of c) s h ≡ known (listener kinds slots c) s h
  same_known [] = refl
  same_known (e ∷ h) = ap (λ k. known_after (length h) k e) (same_known h)

  same_changes : (h : History) → changes_in (receiver_of c) s h ≡ changes_in (listener kinds slots c) s h
  same_changes [] = refl
  same_changes (entry.frame m f ∷ h) =
      ap (λ k. if is_claim f then changed_by (claim k.claims (claim_by (length h) m f)).step else no_change) (same_known h)
  same_changes (entry.datagram m bytes ∷ h) = refl
  same_changes (entry.tick m ∷ h) = refl
  same_changes (entry.command m source address ∷ h) = refl

  -- what the gateway keeps of them stands for what the listener heard
  pub gateway_stands : (h : History) (g : AddressesKept) → StandsAddresses (receiver_of c) s h g → StandsAddresses (listener kinds slots c) s h g
  gateway_stands h g it = record {
    claims = it.claims ∙ ap (λ k. capped last_index k.claims) (same_known h);
    count = it.count;
    changed = it.changed ∙ same_changes h;
  }

pub is_receiver : (kinds : ℕ → Kind) (slots : ℕ) (c : Settings) → AreHeard kinds → AreSettings c → IsReceiver (listener kinds slots c)
is_receiver kinds slots c are it = record {
  address = it.address;
  apart = it.apart;
  others = it.others;
  claims = are.claims;
  requests = are.requests;
  management = are.management;
  data_packets = are.data_packets;
}
