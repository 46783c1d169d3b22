-- What a frame is to the gateway, as the code names it.
use Rattle.history.specs.Meanings as meanings
use Rattle.bus_messages.specs.declared.meanings.Meaning.{Meaning}
use Rattle.bus_messages.specs.declared.meanings.Meaning.TheVariants.{AddressClaim, OwnSource, Request, FromNobody, Transport, Single, FastPacket, Passed}

abbrev pub meant : Meaning → meanings.Meaning
meant AddressClaim = meanings.address_claim
meant OwnSource = meanings.own_source
meant Request = meanings.request
meant FromNobody = meanings.from_nobody
meant Transport = meanings.transport
meant Single = meanings.single
meant FastPacket = meanings.fast_packet
meant Passed = meanings.passed
