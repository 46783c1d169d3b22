-- A line is taken, or the first rule is reported that it breaks.
use Rattle.std.proofs.Common.{sym, ap, ◌∙◌}
use Rattle.tag_block.specs.Reading.{said}
use Rattle.tag_block.specs.contracts.group_key.GroupKeyOrd as key
use Rattle.gate_outbox.specs.Output.{and_told, most_told}
use Rattle.row_traffic.specs.NetCalls.{heard_by}
use Rattle.row_traffic.proofs.TakenLines.{own_line, line_elsewhere, line_unlisted, line_taken}
use Rattle.row_traffic.proofs.network.Network.line.Goals as goal

pub returns-then-is_own : goal.returns-then-is_own
returns-then-is_own c =
    let passed = own_line key.TheImpl.ghosts.cmp c.args.hearing.now c.args.self.now c.args.place (said c.args.tag.now) c.args.text.now
    (sym c.is_own.ensures ∙ c.if-is_own.true) in
    record { after = sym passed.after; emits = rw (c.tell.ensures, c.at_place.ensures, passed.emits) }

pub returns-then-is_elsewhere : goal.returns-then-is_elsewhere
returns-then-is_elsewhere c =
    let passed = line_elsewhere key.TheImpl.ghosts.cmp c.args.hearing.now c.args.self.now c.args.place (said c.args.tag.now) c.args.text.now
    (sym c.is_own.ensures ∙ c.if-is_own.false) (sym c.is_elsewhere.ensures ∙ c.if-is_elsewhere.true) in
    record { after = sym passed.after; emits = rw (c.tell-then-is_elsewhere.ensures, c.at_place-then-is_elsewhere.ensures, passed.emits) }

pub returns-in-Some : goal.returns-in-Some
returns-in-Some c =
    let taken = line_taken key.TheImpl.ghosts.cmp c.args.hearing.now c.args.self.now c.args.place (said c.args.tag.now) c.args.text.now
    (sym c.is_own.ensures ∙ c.if-is_own.false) (sym c.is_elsewhere.ensures ∙ c.if-is_elsewhere.false) c.in-Some.source
    (sym c.place_of.ensures.place ∙ c.in-Some.is) in
    record {
      after = c.take_line.ensures.after (heard_by c.args.hearing.now) ∙ sym taken.after;
      emits = c.take_line.ensures.emits (heard_by c.args.hearing.now) ∙ ap (and_told most_told c.args.out.now) (sym taken.emits);
    }

pub returns-in-None : goal.returns-in-None
returns-in-None c =
    let passed = line_unlisted key.TheImpl.ghosts.cmp c.args.hearing.now c.args.self.now c.args.place (said c.args.tag.now) c.args.text.now
    (sym c.is_own.ensures ∙ c.if-is_own.false) (sym c.is_elsewhere.ensures ∙ c.if-is_elsewhere.false) (sym c.place_of.ensures.place ∙ c.in-None.is) in
    record { after = sym passed.after; emits = rw (c.tell-in-None.ensures, c.at_place-in-None.ensures, passed.emits) }
