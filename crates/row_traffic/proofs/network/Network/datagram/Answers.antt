use Rattle.row_traffic.proofs.network.Network.datagram.Goals as goal

pub items-requires-clause-hears : goal.items-requires-clause-hears
items-requires-clause-hears c = c.requires.hears

pub returns-in-Ok-clause-hears : goal.returns-in-Ok-clause-hears
returns-in-Ok-clause-hears c = c.items.ensures.hears

pub returns-in-Err-Header-clause-hears : goal.returns-in-Err-Header-clause-hears
returns-in-Err-Header-clause-hears c = c.requires.hears

pub returns-in-Err-Long-clause-hears : goal.returns-in-Err-Long-clause-hears
returns-in-Err-Long-clause-hears c = c.requires.hears
