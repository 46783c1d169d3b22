use Rattle.demo.proofs.Places.{bus_listen, bus_send, net_listen, net_send}
use Rattle.demo.proofs.setup.ends.Goals as goal

pub endpoint-requires-clause-form : goal.endpoint-requires-clause-form
endpoint-requires-clause-form c = bus_listen

pub endpoint-requires-2-clause-form : goal.endpoint-requires-2-clause-form
endpoint-requires-2-clause-form c = bus_send

pub endpoint-requires-3-clause-form : goal.endpoint-requires-3-clause-form
endpoint-requires-3-clause-form c = net_listen

pub endpoint-requires-4-clause-form : goal.endpoint-requires-4-clause-form
endpoint-requires-4-clause-form c = net_send
