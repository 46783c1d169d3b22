use Rattle.row_traffic.proofs.network.groups.take_part.Goals as goal

pub feed-fed-requires-clause-place : goal.feed-fed-requires-clause-place
feed-fed-requires-clause-place c = c.requires.part

pub feed-fed-requires-clause-fits : goal.feed-fed-requires-clause-fits
feed-fed-requires-clause-fits c = c.requires.fits

pub take_joined-requires : goal.take_joined-requires
take_joined-requires c = record { source = c.requires.source }
