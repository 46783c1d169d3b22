-- The gateway is a receiver.
use Rattle.std.proofs.Common.{◌≡◌, refl}
use Rattle.pgn_profile.specs.Profiled.{kind_of, messages}
use Rattle.pgn_profile.specs.declared.kinds.Kind.TheVariants.{Outside}
use Rattle.history.specs.AddressLaws.{GatewaysReceive}

claims : kind_of 60928 ≡ Outside
unfolding messages
claims = refl

management : kind_of 60416 ≡ Outside
unfolding messages
management = refl

data_packets : kind_of 60160 ≡ Outside
unfolding messages
data_packets = refl

requests : kind_of 59904 ≡ Outside
unfolding messages
requests = refl

pub gateways_receive : GatewaysReceive
gateways_receive c are = record {
  address = are.address;
  apart = are.apart;
  others = are.others;
  claims = claims;
  requests = requests;
  management = management;
  data_packets = data_packets;
}
