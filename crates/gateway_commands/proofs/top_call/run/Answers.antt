use Rattle.std.proofs.Common.{◌≡◌, ℕ, List, [], ◌∷◌, map, refl, subst, inl, inr}
use Rattle.std.specs.Prelude.{Option, Result, Ok, Err, false, string_bytes}
use Rattle.capture_stream.specs.Writer.{Writes}
use Rattle.command_line.specs.declared.words.Command.{Command}
use Rattle.command_line.specs.declared.words.Command.TheVariants.{Check, Demo, Lines, Replay, Serve}
use Rattle.command_line.specs.declared.words.LineCommand.{LineCommand}
use Rattle.config_check.specs.Check.{ChecksBy}
use Rattle.gate_outside.specs.declared.Failed.{Failed}
use Rattle.gate_outside.specs.Faults.{HasCause}
use Rattle.serving.specs.Served.{outside}
use Rattle.gateway_commands.specs.DemoCommand.{DemosBy}
use Rattle.line_commands.specs.LineCommand.{AreTextsOf}
use Rattle.command_line.specs.Statuses.{EndsBy, Offers, number}
use Rattle.gateway_commands.specs.ReplayCommand.{ReplaysBy}
use Rattle.gateway_commands.specs.ServeCommand.{ServesBy}
use Rattle.command_line.specs.Words.{IsDemo, IsForm, IsServe, check_words, line_words, replay_words, usage_line}
use Rattle.gateway_commands.proofs.FormLemmas.{check_or_demo, check_or_replay, check_or_serve, line_or_check, line_or_demo, line_or_replay, line_or_serve, one_check, one_line, one_replay, replay_or_demo, replay_or_serve, serve_or_demo}
use Rattle.gateway_commands.proofs.KnownLemmas.{has, never, not_early, of_check, of_demo, of_replay, of_serve, only_memory}
use Rattle.gateway_commands.proofs.ServeLemmas.{link_cause, serve_steady}
use Rattle.command_line.proofs.WordLemmas.{one_demo, one_serve}
use Rattle.gateway_commands.proofs.top_call.run.Goals as goal

-- a line was offered, of which some may be left where its write failed
offered : (told told' : Option (List ℕ)) (sink sink' : ℕ) (line : List ℕ) (result : Result (Unit {0}) Failed) → Writes told told' line [] result → HasCause sink sink' result
    → Offers told told' sink sink' line
offered told told' sink sink' line (Ok done) all cause = record { written = all.sent; joins = all.joins; unwritten = []; front = all.whole; whole = inl refl }
offered told told' sink sink' line (Err e) some cause = record { written = some.1.sent; joins = some.1.joins; unwritten = some.0; front = some.1.whole; whole = inr cause.rose }

-- Each arm is answered whole: what its command says, and of the other commands that the words are none of theirs.

pub returns-in-None : goal.returns-in-None
returns-in-None g c =
    let none = c.in-None.ensures in
    let no : (n : ℕ) → has n (2 ∷ []) ≡ false → 2 ≡ n → ⊥ = never 2 (2 ∷ []) refl in
    rw c.number.ensures.number (record {
      status = inl refl;
      usage = (λ is_none. none, λ is_no_form. refl);
      offers = λ is_none. offered (g.K.Sink.taken c.args.out.now) (g.K.Sink.taken c.send_now.new.out) (g.K.Sink.fault_count c.args.out.now) (g.K.Sink.fault_count c.send_now.new.out)
          usage_line c.send_now.result c.send_now.ensures.sent c.send_now.ensures.cause;
      ends = λ command form. absurd (none.lines command form);
      checks = λ file form. absurd (none.check file form);
      replays = λ file form. absurd (none.replay file form);
      serves = λ turns file second form number. absurd (none.serve file second form turns number);
      demos = λ seed count first second form numbers. absurd (none.demo first second form seed count numbers);
      sink_cause = λ is. absurd (no 4 refl is);
      source_cause = λ is. absurd (no 5 refl is);
      steady = record { done = λ is. absurd (no 0 refl is); sink_failed = λ is. refl; source_failed = λ is. absurd (no 5 refl is); too_long = λ is. absurd (no 8 refl is) };
      link_cause = λ is. absurd (no 9 refl is);
      unused = λ is_none. (refl, refl);
      files_unused = λ command form. refl;
      source_unused = λ file form. refl;
      input_unused = λ file second form. refl;
      both_unused = λ first second form. (refl, refl);
      bus_unused = λ apart. refl;
      net_unused = λ apart. refl;
      clock_unused = λ apart. refl;
      refused = λ is. absurd (no 3 refl is);
      early = λ is. absurd (not_early 2 (2 ∷ []) refl refl refl is);
      unattached = λ is. absurd (no 9 refl is);
      complete = λ command form. absurd (none.lines command form);
    })

pub returns-in-Some-Lines : goal.returns-in-Some-Lines
returns-in-Some-Lines g c =
    let words = map string_bytes c.args.words.now in
    let status = number c.answer_lines.result in
    let known = c.answer_lines.ensures.status in
    let no : (n : ℕ) → has n (0 ∷ 4 ∷ 5 ∷ 8 ∷ []) ≡ false → status ≡ n → ⊥ = never status (0 ∷ 4 ∷ 5 ∷ 8 ∷ []) known in
    let is : c.in-Some-Lines.field-0 ≡ Lines c.in-Some-Lines.command = cc c.in-Some-Lines.field-0-is in
    let here : words ≡ line_words c.in-Some-Lines.command = subst (λ (k : Command). IsForm words k) is c.in-Some-Lines.ensures in
    rw c.number-in-Some-Lines.ensures.number (record {
      status = inr (inr (inr (inr (inr known))));
      usage = (λ is_none. absurd (no 2 refl is_none), λ none. absurd (none.lines c.in-Some-Lines.command here));
      offers = λ is_none. absurd (no 2 refl is_none);
      ends = λ command form. (
        known,
        subst (λ (k : LineCommand). EndsBy (AreTextsOf k) (g.S.Source.left c.args.input.now) (g.S.Source.left c.answer_lines.new.input)
            (g.K.Sink.taken c.args.out.now) (g.K.Sink.taken c.answer_lines.new.out) status) (one_line words c.in-Some-Lines.command command here form) c.answer_lines.ensures.ends,
      );
      checks = λ file form. absurd (line_or_check words c.in-Some-Lines.command file here form);
      replays = λ file form. absurd (line_or_replay words c.in-Some-Lines.command file here form);
      serves = λ turns file second form numbers. absurd (line_or_serve words c.in-Some-Lines.command file second here form);
      demos = λ seed count first second form numbers. absurd (line_or_demo words c.in-Some-Lines.command first second here form);
      sink_cause = c.answer_lines.ensures.sink_cause;
      source_cause = c.answer_lines.ensures.source_cause;
      steady = c.answer_lines.ensures.steady;
      link_cause = λ unattached. absurd (no 9 refl unattached);
      unused = λ is_none. absurd (no 2 refl is_none);
      files_unused = λ command form. refl;
      source_unused = λ file form. absurd (line_or_check words c.in-Some-Lines.command file here form);
      input_unused = λ file second form. absurd (line_or_serve words c.in-Some-Lines.command file second here form);
      both_unused = λ first second form. absurd (line_or_demo words c.in-Some-Lines.command first second here form);
      bus_unused = λ apart. refl;
      net_unused = λ apart. refl;
      clock_unused = λ apart. refl;
      refused = λ is_refused. absurd (no 3 refl is_refused);
      early = λ is_early. absurd (not_early status (0 ∷ 4 ∷ 5 ∷ 8 ∷ []) known refl refl is_early);
      unattached = λ unattached. absurd (no 9 refl unattached);
      complete = λ command form free. c.answer_lines.ensures.complete free;
    })

pub returns-in-Some-Check : goal.returns-in-Some-Check
returns-in-Some-Check g c =
    let words = map string_bytes c.args.words.now in
    let own = c.in-Some-Check.file.now in
    let status = number c.check.result in
    let says = c.check.ensures.checks in
    let no : (n : ℕ) → has n (0 ∷ 3 ∷ 4 ∷ 6 ∷ 7 ∷ []) ≡ false → status ≡ n → ⊥ = never status (0 ∷ 3 ∷ 4 ∷ 6 ∷ 7 ∷ []) says.known in
    let is : c.in-Some-Check.field-0 ≡ Check c.in-Some-Check.file = cc c.in-Some-Check.field-0-is in
    let here : words ≡ check_words own = subst (λ (k : Command). IsForm words k) is c.in-Some-Check.ensures in
    rw c.number-in-Some-Check.ensures.number (record {
      status = of_check status says.known;
      usage = (λ is_none. absurd (no 2 refl is_none), λ none. absurd (none.check own here));
      offers = λ is_none. absurd (no 2 refl is_none);
      ends = λ command form. absurd (line_or_check words command own form here);
      checks = λ file form. subst (λ (f : List ℕ). ChecksBy (g.F.Files.content c.args.files.now f) (g.F.Files.fault_count c.args.files.now) (g.F.Files.fault_count c.check.new.files)
          (g.K.Sink.taken c.args.out.now) (g.K.Sink.taken c.check.new.out) (g.K.Sink.fault_count c.args.out.now) (g.K.Sink.fault_count c.check.new.out) status)
          (one_check words own file here form) says;
      replays = λ file form. absurd (check_or_replay words own file here form);
      serves = λ turns file second form numbers. absurd (check_or_serve words own file second here form);
      demos = λ seed count first second form numbers. absurd (check_or_demo words own first second here form);
      sink_cause = says.sink_cause;
      source_cause = λ is_read. absurd (no 5 refl is_read);
      steady = record { done = λ is_done. (refl, says.steady is_done); sink_failed = λ is_failed. refl; source_failed = λ is_read. absurd (no 5 refl is_read); too_long = λ is_long. absurd (no 8 refl is_long) };
      link_cause = λ unattached. absurd (no 9 refl unattached);
      unused = λ is_none. absurd (no 2 refl is_none);
      files_unused = λ command form. absurd (line_or_check words command own form here);
      source_unused = λ file form. refl;
      input_unused = λ file second form. refl;
      both_unused = λ first second form. absurd (check_or_demo words own first second here form);
      bus_unused = λ apart. refl;
      net_unused = λ apart. refl;
      clock_unused = λ apart. refl;
      refused = λ is_refused. (refl, refl, refl, refl);
      early = λ is_early. (refl, c.check.ensures.quiet is_early, refl, refl, refl);
      unattached = λ unattached. absurd (no 9 refl unattached);
      complete = λ command form. absurd (line_or_check words command own form here);
    })

pub returns-in-Some-Replay : goal.returns-in-Some-Replay
returns-in-Some-Replay g c =
    let words = map string_bytes c.args.words.now in
    let own = c.in-Some-Replay.file.now in
    let status = number c.replay.result in
    let says = c.replay.ensures.replays in
    let no : (n : ℕ) → has n (3 ∷ 6 ∷ 7 ∷ 0 ∷ 4 ∷ 5 ∷ 8 ∷ []) ≡ false → status ≡ n → ⊥ = never status (3 ∷ 6 ∷ 7 ∷ 0 ∷ 4 ∷ 5 ∷ 8 ∷ []) says.known in
    let is : c.in-Some-Replay.field-0 ≡ Replay c.in-Some-Replay.file = cc c.in-Some-Replay.field-0-is in
    let here : words ≡ replay_words own = subst (λ (k : Command). IsForm words k) is c.in-Some-Replay.ensures in
    rw c.number-in-Some-Replay.ensures.number (record {
      status = of_replay status says.known;
      usage = (λ is_none. absurd (no 2 refl is_none), λ none. absurd (none.replay own here));
      offers = λ is_none. absurd (no 2 refl is_none);
      ends = λ command form. absurd (line_or_replay words command own form here);
      checks = λ file form. absurd (check_or_replay words file own form here);
      replays = λ file form. subst (λ (f : List ℕ). ReplaysBy (g.F.Files.content c.args.files.now f) (g.F.Files.fault_count c.args.files.now) (g.F.Files.fault_count c.replay.new.files)
          (g.S.Source.left c.args.input.now) (g.S.Source.left c.replay.new.input) (g.S.Source.fault_count c.args.input.now) (g.S.Source.fault_count c.replay.new.input)
          (g.K.Sink.taken c.args.out.now) (g.K.Sink.taken c.replay.new.out) (g.K.Sink.fault_count c.args.out.now) (g.K.Sink.fault_count c.replay.new.out) status)
          (one_replay words own file here form) says;
      serves = λ turns file second form numbers. absurd (replay_or_serve words own file second here form);
      demos = λ seed count first second form numbers. absurd (replay_or_demo words own first second here form);
      sink_cause = says.sink_cause;
      source_cause = says.source_cause;
      steady = says.steady;
      link_cause = λ unattached. absurd (no 9 refl unattached);
      unused = λ is_none. absurd (no 2 refl is_none);
      files_unused = λ command form. absurd (line_or_replay words command own form here);
      source_unused = λ file form. absurd (check_or_replay words file own form here);
      input_unused = λ file second form. absurd (replay_or_serve words own file second here form);
      both_unused = λ first second form. absurd (replay_or_demo words own first second here form);
      bus_unused = λ apart. refl;
      net_unused = λ apart. refl;
      clock_unused = λ apart. refl;
      refused = λ is_refused. (c.replay.ensures.refused is_refused, refl, refl, refl);
      early = λ is_early. let quiet = c.replay.ensures.quiet is_early in (quiet.0, quiet.1, refl, refl, refl);
      unattached = λ unattached. absurd (no 9 refl unattached);
      complete = λ command form. absurd (line_or_replay words command own form here);
    })

pub returns-in-Some-Serve : goal.returns-in-Some-Serve
returns-in-Some-Serve g c =
    let words = map string_bytes c.args.words.now in
    let own = c.in-Some-Serve.file.now in
    let own_turns = c.in-Some-Serve.turns in
    let content = g.F.Files.content c.args.files.now in
    let files = g.F.Files.fault_count c.args.files.now in
    let files' = g.F.Files.fault_count c.serve.new.files in
    let readings = g.C.Clock.readings c.args.clock.now in
    let readings' = g.C.Clock.readings c.serve.new.clock in
    let bus = g.B.Link.fault_count c.args.bus.now in
    let bus' = g.B.Link.fault_count c.serve.new.bus in
    let net = g.E.Link.fault_count c.args.net.now in
    let net' = g.E.Link.fault_count c.serve.new.net in
    let old = outside (g.B.Link.traffic c.args.bus.now) (g.E.Link.traffic c.args.net.now) (g.K.Sink.taken c.args.out.now) (g.K.Sink.fault_count c.args.out.now) in
    let new = outside (g.B.Link.traffic c.serve.new.bus) (g.E.Link.traffic c.serve.new.net) (g.K.Sink.taken c.serve.new.out) (g.K.Sink.fault_count c.serve.new.out) in
    let status = number c.serve.result in
    let says = c.serve.ensures.serves in
    let no : (n : ℕ) → has n (3 ∷ 6 ∷ 7 ∷ 9 ∷ 0 ∷ 4 ∷ []) ≡ false → status ≡ n → ⊥ = never status (3 ∷ 6 ∷ 7 ∷ 9 ∷ 0 ∷ 4 ∷ []) says.known in
    let is : c.in-Some-Serve.field-0 ≡ Serve c.in-Some-Serve.file own_turns = cc c.in-Some-Serve.field-0-is in
    let here : IsServe words own own_turns = subst (λ (k : Command). IsForm words k) is c.in-Some-Serve.ensures in
    rw c.number-in-Some-Serve.ensures.number (record {
      status = of_serve status says.known;
      usage = (λ is_none. absurd (no 2 refl is_none), λ none. absurd (none.serve own here.second here.are own_turns here.number));
      offers = λ is_none. absurd (no 2 refl is_none);
      ends = λ command form. absurd (line_or_serve words command own here.second form here.are);
      checks = λ file form. absurd (check_or_serve words file own here.second form here.are);
      replays = λ file form. absurd (replay_or_serve words file own here.second form here.are);
      serves = λ turns file second form is_turns. let same = one_serve words own_turns turns own file second here form is_turns in
          subst (λ (t : ℕ). ServesBy t (content file) files files' readings readings' bus bus' net net' old new status) same.1
          (subst (λ (f : List ℕ). ServesBy own_turns (content f) files files' readings readings' bus bus' net net' old new status) same.0 says);
      demos = λ seed count first second form numbers. absurd (serve_or_demo words own here.second first second here.are form);
      sink_cause = says.sink_cause;
      source_cause = λ is_read. absurd (no 5 refl is_read);
      steady = serve_steady own_turns (content own) files files' readings readings' bus bus' net net' old new (g.S.Source.fault_count c.args.input.now) status says;
      link_cause = λ unattached. link_cause (content own) bus bus' net net' old new (says.unattached unattached);
      unused = λ is_none. absurd (no 2 refl is_none);
      files_unused = λ command form. absurd (line_or_serve words command own here.second form here.are);
      source_unused = λ file form. refl;
      input_unused = λ file second form. refl;
      both_unused = λ first second form. absurd (serve_or_demo words own here.second first second here.are form);
      bus_unused = λ apart. absurd (apart own own_turns here);
      net_unused = λ apart. absurd (apart own own_turns here);
      clock_unused = λ apart. absurd (apart own own_turns here);
      refused = λ is_refused. let unused = c.serve.ensures.refused is_refused in (refl, unused.0, unused.1, unused.2);
      early = λ is_early. let quiet = c.serve.ensures.quiet is_early in (refl, quiet.0, quiet.1, quiet.2, quiet.3);
      unattached = λ unattached. let unused = c.serve.ensures.unattached unattached in (refl, unused.0, unused.1);
      complete = λ command form. absurd (line_or_serve words command own here.second form here.are);
    })

pub returns-in-Some-Demo : goal.returns-in-Some-Demo
returns-in-Some-Demo g c =
    let words = map string_bytes c.args.words.now in
    let own_seed = c.in-Some-Demo.seed in
    let own_count = c.in-Some-Demo.count in
    let told = g.K.Sink.taken c.args.out.now in
    let told' = g.K.Sink.taken c.demo.new.out in
    let faults = g.K.Sink.fault_count c.args.out.now in
    let faults' = g.K.Sink.fault_count c.demo.new.out in
    let status = number c.demo.result in
    let says = c.demo.ensures.demos in
    let no : (n : ℕ) → has n (0 ∷ 4 ∷ 7 ∷ []) ≡ false → status ≡ n → ⊥ = never status (0 ∷ 4 ∷ 7 ∷ []) says.known in
    let is : c.in-Some-Demo.field-0 ≡ Demo own_seed own_count = cc c.in-Some-Demo.field-0-is in
    let here : IsDemo words own_seed own_count = subst (λ (k : Command). IsForm words k) is c.in-Some-Demo.ensures in
    rw c.number-in-Some-Demo.ensures.number (record {
      status = of_demo status says.known;
      usage = (λ is_none. absurd (no 2 refl is_none), λ none. absurd (none.demo here.first here.second here.are own_seed own_count here.numbers));
      offers = λ is_none. absurd (no 2 refl is_none);
      ends = λ command form. absurd (line_or_demo words command here.first here.second form here.are);
      checks = λ file form. absurd (check_or_demo words file here.first here.second form here.are);
      replays = λ file form. absurd (replay_or_demo words file here.first here.second form here.are);
      serves = λ turns file second form numbers. absurd (serve_or_demo words file second here.first here.second form here.are);
      demos = λ seed count first second form numbers. let same = one_demo words own_seed own_count seed count first second here form numbers in
          subst (λ (s : ℕ). DemosBy s count told told' faults faults' status) same.0 (subst (λ (n : ℕ). DemosBy own_seed n told told' faults faults' status) same.1 says);
      sink_cause = says.sink_cause;
      source_cause = λ is_read. absurd (no 5 refl is_read);
      steady = record { done = λ is_done. (refl, says.steady is_done); sink_failed = λ is_failed. refl; source_failed = λ is_read. absurd (no 5 refl is_read); too_long = λ is_long. absurd (no 8 refl is_long) };
      link_cause = λ unattached. absurd (no 9 refl unattached);
      unused = λ is_none. (refl, refl);
      files_unused = λ command form. refl;
      source_unused = λ file form. refl;
      input_unused = λ file second form. refl;
      both_unused = λ first second form. (refl, refl);
      bus_unused = λ apart. refl;
      net_unused = λ apart. refl;
      clock_unused = λ apart. refl;
      refused = λ is_refused. absurd (no 3 refl is_refused);
      early = λ is_early. (refl, c.demo.ensures.memory (only_memory status (0 ∷ 4 ∷ 7 ∷ []) says.known refl is_early), refl, refl, refl);
      unattached = λ unattached. absurd (no 9 refl unattached);
      complete = λ command form. absurd (line_or_demo words command here.first here.second form here.are);
    })
