use Rattle.std.proofs.Common.{◌≡◌, [], Some, option_map, unwrap_or, sym, ◌∙◌, rules}
use Rattle.slot_views.specs.Slots.{Entry, entry_at}
use Rattle.slot_views.specs.Answers.{kept_of}
use Rattle.fast_packet.specs.contracts.key.FastKeyOrd as key
use Rattle.fast_packet.proofs.Verdicts.{kept_verdict, fits_from, verdict_later}
use Rattle.fast_packet.proofs.assembler.FastAssembler.verdict.Goals as goal

pub returns-in-Some-clause-fits : goal.returns-in-Some-clause-fits
returns-in-Some-clause-fits c =
    let o = entry_at key.TheImpl.ghosts.cmp c.args.self.now c.args.place.key in
    let told : Some c.in-Some.kept ≡ option_map kept_of o = sym c.in-Some.is ∙ c.requires.kept in
    let held : c.unwrap_or.result.now ≡ unwrap_or (option_map (λ (e : Entry). e.bytes) o) [] = search rules in
    let later = kept_verdict o c.in-Some.kept c.unwrap_or.result.now c.args.bytes.now c.later_verdict.result told held c.later_verdict.ensures in
    fits_from o c.args.bytes.now c.later_verdict.result (later ∙ sym (verdict_later o c.args.bytes.now (sym c.if-is_opener.ensures) (sym c.if-is_no_later.ensures)))
