use Rattle.std.proofs.Common.{ℕ, List, ap, subst}
use Rattle.std.specs.Prelude.{Option, None}
use Rattle.line_commands.specs.LineCommand.{AreTextsOf}
use Rattle.gateway_commands.specs.ReplayCommand.{ReplaysBy}
use Rattle.command_line.specs.Statuses.{EndsBy}
use Rattle.gateway_commands.proofs.process_run.run_over.Goals as goal

pub returns : goal.returns
returns g c =
    let left' = g.R.Read.remaining c.run.new.input.stream in
    record {
      known = c.run.ensures.status;
      usage = c.run.ensures.usage;
      ends = λ command form. (
        left',
        subst (λ (l : Option (List ℕ)). EndsBy (AreTextsOf command) l left' None None c.run.result)
            (ap (λ s. g.R.Read.remaining s.stream) c.new-input.ensures) (c.run.ensures.ends command form).1,
      );
      checks = λ file form. (c.new-out.result.faults, c.run.new.out.faults, c.run.ensures.checks file form);
      replays = λ file form. (
        left',
        c.new-input.result.faults,
        c.run.new.input.faults,
        c.new-out.result.faults,
        c.run.new.out.faults,
        subst (λ (l : Option (List ℕ)). ReplaysBy (g.F.Files.content c.args.files.now file) (g.F.Files.fault_count c.args.files.now) (g.F.Files.fault_count c.run.new.files) l left'
            c.new-input.result.faults c.run.new.input.faults None None c.new-out.result.faults c.run.new.out.faults c.run.result)
            (ap (λ s. g.R.Read.remaining s.stream) c.new-input.ensures) (c.run.ensures.replays file form),
      );
      serves = λ turns file second form number. (c.new-out.result.faults, c.run.new.out.faults, c.run.ensures.serves turns file second form number);
      demos = λ seed count first second form numbers. (c.new-out.result.faults, c.run.new.out.faults, c.run.ensures.demos seed count first second form numbers);
    }
