use Rattle.std.proofs.Common.{refl, ◌∙◌}
use Rattle.iso_transport.specs.contracts.key.IsoKeyOrd as key
use Rattle.iso_transport.proofs.Verdicts.{fed_same, gives_same}
use Rattle.iso_transport.proofs.assembler.IsoAssembler.feed.Goals as goal

pub take-outcome-requires : goal.take-outcome-requires
take-outcome-requires c = record { place = rw (← c.self.view_is) c.find-place.ensures.place; fits = rw (c.find-place.ensures.key, c.of.ensures) c.verdict-verdict.ensures.fits }

pub returns : goal.returns
returns c =
    let cmp = key.TheImpl.ghosts.cmp in
    let s = c.args.self.now in
    let v = c.verdict-verdict.result in
    let held = c.held-bytes.result.now in
    let same = c.held-bytes.ensures in
    let is = c.verdict-verdict.ensures.value in
    let k = c.find-place.result.key in
    let k_is = c.find-place.ensures.key ∙ c.of.ensures in (
      (refl, λ _. tt, c.take-outcome.follows.holds-at-none ∙ fed_same cmp s c.args.own c.args.parts.now k _ held c.args.moment v k_is same is),
      record { map = c.verdict-verdict.ensures.map; after = tt; answer = gives_same cmp s c.args.own c.args.parts.now k _ held c.args.moment v _ k_is same is c.restarted-restarted.ensures c.reply-reply.ensures.reply c.take-outcome.ensures.answer; reply = c.reply-reply.ensures.names },
    )
