use Rattle.std.proofs.Common.{◌≡◌, true, false, [], refl, sym, ◌∙◌}
use Rattle.replaying.specs.Replaying.{output_text}
use Rattle.replaying.proofs.SendingLemmas.{sent_none}
use Rattle.replaying.proofs.sending.open.Goals as goal

pub returns-then-started : goal.returns-then-started
returns-then-started g c =
    let is : c.args.bridge.now.started ≡ true = sym c.started.ensures ∙ c.if-started.true in (
      [],
      record {
        started = is;
        later = λ same. (refl, refl);
        first = λ waits. let never : true ≡ false = sym is ∙ waits in absurd cc;
      },
      sent_none (g.K.Sink.taken c.args.out.now) (g.K.Sink.fault_count c.args.out.now) c.args.writer.now tt,
    )

pub returns : goal.returns
returns g c =
    let waits : c.args.bridge.now.started ≡ false = sym c.started.ensures ∙ c.if-started.false in (
      output_text c.args.moment c.start.new.self,
      record {
        started = c.start.ensures.started;
        later = λ is. let never : true ≡ false = sym is ∙ waits in absurd cc;
        first = λ same. (refl, c.start.ensures.start);
      },
      record { writes = c.send_lines.ensures.sent; cause = c.send_lines.ensures.cause },
    )
