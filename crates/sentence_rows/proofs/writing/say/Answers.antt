-- The first sentence of a reading finds what a sentence asks for, and a day and a time are said with the date of the day.
use Rattle.sentence_profile.proofs.Unique.{time_said}
use Rattle.sentence_rows.proofs.writing.say.Goals as goal

pub hdt-requires : goal.hdt-requires
hdt-requires c = record { ready = c.requires.ready }

pub hdg-requires-clause-ready : goal.hdg-requires-clause-ready
hdg-requires-clause-ready c = c.requires.ready

pub rot-requires-clause-ready : goal.rot-requires-clause-ready
rot-requires-clause-ready c = c.requires.ready

pub rsa_first-requires-clause-ready : goal.rsa_first-requires-clause-ready
rsa_first-requires-clause-ready c = c.requires.ready

pub rsa_second-requires-clause-ready : goal.rsa_second-requires-clause-ready
rsa_second-requires-clause-ready c = c.requires.ready

pub vhw-requires-clause-ready : goal.vhw-requires-clause-ready
vhw-requires-clause-ready c = c.requires.ready

pub dpt-requires-clause-ready : goal.dpt-requires-clause-ready
dpt-requires-clause-ready c = c.requires.ready

pub vlw-requires-clause-ready : goal.vlw-requires-clause-ready
vlw-requires-clause-ready c = c.requires.ready

pub gll-requires-clause-ready : goal.gll-requires-clause-ready
gll-requires-clause-ready c = c.requires.ready

pub vtg-requires-clause-ready : goal.vtg-requires-clause-ready
vtg-requires-clause-ready c = c.requires.ready

pub gga-requires-clause-ready : goal.gga-requires-clause-ready
gga-requires-clause-ready c = c.requires.ready

pub zda-requires-clause-ready : goal.zda-requires-clause-ready
zda-requires-clause-ready c = c.requires.ready

pub mwv-requires-clause-ready : goal.mwv-requires-clause-ready
mwv-requires-clause-ready c = c.requires.ready

pub mwv-requires-in-WindTrue-clause-ready : goal.mwv-requires-in-WindTrue-clause-ready
mwv-requires-in-WindTrue-clause-ready c = c.requires.ready

pub mwd-requires-clause-ready : goal.mwd-requires-clause-ready
mwd-requires-clause-ready c = c.requires.ready

pub mtw-requires-clause-ready : goal.mtw-requires-clause-ready
mtw-requires-clause-ready c = c.requires.ready

pub xte-requires-clause-ready : goal.xte-requires-clause-ready
xte-requires-clause-ready c = c.requires.ready

pub returns-in-Time : goal.returns-in-Time
returns-in-Time c =
    time_said c.args.reading.now c.in-Time.date c.in-Time.time c.args.talker c.args.ths _ c.args.out.now c.in-Time.is c.requires.empty c.zda.ensures
