-- Computed: the parts beside the gateway.
use Rattle.std.proofs.Common.{refl}
use Rattle.datagram450.specs.Datagram.{sentence_datagram}
use Rattle.bridge.specs.PartCases.{AskedTwice, AskedEarly, AskedByNobody, FieldsComeAndGo, ShipAcrossAClaim, FirstOfTwoIsTold, AddressIsNoChange, TwoSentences, PlainComesLast}
use Rattle.history.proofs.Computed.{cases}

pub asked_twice : AskedTwice
unfolding cases
asked_twice = refl

pub asked_early : AskedEarly
unfolding cases
asked_early = refl

pub asked_by_nobody : AskedByNobody
unfolding cases
asked_by_nobody = refl

pub fields_come_and_go : FieldsComeAndGo
unfolding cases sentence_datagram
fields_come_and_go = refl

pub ship_across_a_claim : ShipAcrossAClaim
unfolding cases
ship_across_a_claim = refl

pub first_of_two_is_told : FirstOfTwoIsTold
unfolding cases
first_of_two_is_told = refl

pub address_is_no_change : AddressIsNoChange
unfolding cases
address_is_no_change = refl

pub two_sentences : TwoSentences
unfolding cases
two_sentences = refl

pub plain_comes_last : PlainComesLast
unfolding cases sentence_datagram
plain_comes_last = refl
