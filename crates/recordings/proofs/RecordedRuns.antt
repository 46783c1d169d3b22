-- What the runs say together.
use Rattle.std.proofs.Common.{◌≡◌, ℕ, true, List, [], ◌++◌, inl, inr, refl, length, sym, ap, subst, ◌∙◌}
use Rattle.std.specs.Prelude.{Option, Some, None, Result, Ok}
use Rattle.std.specs.List.{flat_map}
use Rattle.std.proofs.lemmas.List.{append_cancel_left}
use Rattle.capture_text.specs.Lines.{front, lines_of}
use Rattle.capture_stream.specs.Progress.{with_lf}
use Rattle.gate_outside.specs.Link.{Attachment, GoesOn, Traffic}
use Rattle.settings.specs.declared.setup.Setup.{Setup}
use Rattle.gate_config.specs.ConfigOf.{IsWholeConfigOf, config_in, document_place}
use Rattle.command_line.specs.declared.statuses.Status.TheVariants.{Done}
use Rattle.command_line.specs.Statuses.{EndsBy, number}
use Rattle.gateway_commands.specs.BridgeSettings.{BridgeSettings, bridge_settings_of}
use Rattle.gateway_commands.specs.Recorded.{made_in, recorded_in}
use Rattle.gateway_commands.specs.Served.{Outside, Serves, all_due, outside, over_bus, over_net, to_text}
use Rattle.gateway_commands.specs.Turns.{due_of}
use Rattle.gateway_commands.specs.Replayed.{IsReplay, emitted_text, replay_text}
use Rattle.recordings.specs.Laws.{AreEarly}
use Rattle.recordings.specs.Separation.{IsTold, without_rules}
use Rattle.recordings.proofs.Apart.{recordings_are_told}
use Rattle.recordings.proofs.Run.{recordings_replay, served_plain}
use Rattle.config_check.specs.Configuring.{FileSays}
use Rattle.gateway_commands.specs.ServeCommand.{IsAttached, TakesTurns, bus_attachment, net_attachment}
use Rattle.recordings.specs.RecordedRuns.{RecordedRunsReplay, ServeRun, lines_in, recording_in}
use Rattle.recordings.proofs.RecordedLines.{front_of, replays_lines, split_lines}

-- ---- a file says one configuration

same_ok : {E : Type 0} (a b : Result Setup E) (x y : Setup) → Ok x ≡ a → Ok y ≡ b → a ≡ b → x ≡ y
same_ok a b x y is_a is_b same = cc

same_document : {M : Type 0} (given : Option M) (a b : M) → given ≡ Some a → given ≡ Some b → a ≡ b
same_document given a b is_a is_b = cc

says_one : (file : List ℕ) (x y : Setup) → IsWholeConfigOf file (Ok x) → IsWholeConfigOf file (Ok y) → x ≡ y
says_one file x y (inl (none, e)) other = absurd cc
says_one file x y (inr s) (inl (none, e)) = absurd cc
says_one file x y (inr s) (inr t) =
    same_ok (config_in (document_place s.0)) (config_in (document_place t.0)) x y s.2 t.2
    (ap (λ m. config_in (document_place m)) (same_document _ s.0 t.0 s.1.parsed t.1.parsed))

said_in : (file : List ℕ) (x : Setup) → FileSays (Some file) (Ok x) → IsWholeConfigOf file (Ok x)
said_in file x f = subst (λ (bytes : List ℕ). IsWholeConfigOf bytes (Ok x)) (f.own file refl) f.says

asks_bridge : (setup : Setup) → setup.«record» ≡ true → (bridge_settings_of setup).records ≡ true
unfolding bridge_settings_of
asks_bridge setup is = is

-- ---- the links

goes_attached : (a : Attachment) (f : Traffic → Traffic) (b b' : Traffic) (mid : Option Traffic) → IsAttached a (Some b) mid → GoesOn f mid (Some b')
    → b' ≡ f (record b { attached = Some a })
goes_attached a f b b' None first second = absurd second
goes_attached a f b b' (Some m) first second = second ∙ ap f first

-- ---- the run of `serve`

module _ (setup : Setup) (records : setup.«record» ≡ true) where
  abbrev p : BridgeSettings
  p = bridge_settings_of setup

  module _ (r : ServeRun) (bus net : Option Traffic) (sink sink' : ℕ) where
    abbrev old : Outside
    old = outside bus net (Some r.before) sink

    abbrev new : Outside
    new = outside (Some r.bus_after) (Some r.net_after) (Some (r.before ++ r.text)) sink'

    module _ (y : Serves p r.turns (Some r.earlier) (Some (r.earlier ++ r.readings)) old new) (early : AreEarly r.readings) where
      same_readings : r.readings ≡ y.readings
      same_readings = append_cancel_left r.earlier r.readings y.readings y.reads

      are_early : AreEarly y.readings
      are_early = subst (λ (ms : List ℕ). AreEarly ms) same_readings early

      same_text : r.text ≡ flat_map to_text y.passed.tried
      same_text = append_cancel_left r.before r.text (flat_map to_text y.passed.tried) y.passes.text

      told : IsTold y.passed.tried
      told = recordings_are_told p r.turns (Some r.earlier) (Some (r.earlier ++ r.readings)) old new (asks_bridge setup records) y are_early

      lines_are : lines_in r.text ≡ told.lines
      lines_are =
          ap lines_in (same_text ∙ told.are.joined)
          ∙ ap front (split_lines told.lines told.are.each)
          ∙ front_of told.lines []

      recording_is : recording_in r.text ≡ flat_map with_lf (recorded_in (all_due y.passed.tried))
      recording_is = ap (flat_map with_lf) (ap without_rules lines_are ∙ told.by_word)

      replay_is : replay_text p (lines_of (recording_in r.text)) ≡ emitted_text (made_in (all_due y.passed.tried))
      replay_is =
          let due = all_due y.passed.tried in
          ap (λ (input : List ℕ). replay_text p (lines_of input)) recording_is
          ∙ replays_lines p (recorded_in due)
          (served_plain p (asks_bridge setup records) r.turns (Some r.earlier) (Some (r.earlier ++ r.readings)) old new y are_early)
          ∙ sym (recordings_replay p r.turns (Some r.earlier) (Some (r.earlier ++ r.readings)) old new (asks_bridge setup records) y are_early)

-- ---- the run of `replay`

given_is : (p : BridgeSettings) (input left before text : List ℕ) → EndsBy (IsReplay p) (Some input) (Some left) (Some before) (Some (before ++ text)) (number Done)
    → text ≡ replay_text p (lines_of input)
given_is p input left before text x =
    let f = x.done refl in
    append_cancel_left before text f.writes.text f.writes.joins
    ∙ f.writes.is_text
    ∙ ap (λ (bytes : List ℕ). replay_text p (lines_of bytes)) (f.all input refl)

-- ---- both

pub recorded_runs_replay : RecordedRunsReplay
recorded_runs_replay r setup asks served early text replayed =
    let s = served.8.serves (inl refl) in
    let said : Setup = s.0 in
    let t = subst (λ (w : Setup). TakesTurns w r.turns (Some r.earlier) (Some (r.earlier ++ r.readings))
    (outside (Some r.bus) (Some r.net) (Some r.before) served.6) (outside (Some r.bus_after) (Some r.net_after) (Some (r.before ++ r.text)) served.7) (number Done))
    (says_one r.file said setup (said_in r.file said s.1) asks.says) s.2 in
    let y = t.ends.done refl in
    let q = replayed.8.replays (inl refl) in
    let given : Setup = q.setup in
    let ends = subst (λ (w : Setup). EndsBy (IsReplay (bridge_settings_of w)) (Some (recording_in r.text)) (Some replayed.6) (Some replayed.7) (Some (replayed.7 ++ text)) (number Done))
    (says_one r.file given setup (said_in r.file given q.file) asks.says) q.ends in
    let same = same_readings setup asks.records r t.bus t.net served.6 served.7 y early in
    record {
      passed = y.passed;
      is_run = y.is_run ∙ ap (λ (ms : List ℕ). due_of (bridge_settings_of setup) ms y.passed.from_bus y.passed.from_net) (sym same);
      each_reading = ap length same ∙ y.each_reading;
      each_bus = y.each_bus;
      each_net = y.each_net;
      bus = goes_attached (bus_attachment setup.settings.config.ends) (over_bus y.passed) r.bus r.bus_after t.bus t.bus_attached y.passes.bus;
      net = goes_attached (net_attachment setup.settings.config.ends) (over_net y.passed) r.net r.net_after t.net t.net_attached y.passes.net;
      written = same_text setup asks.records r t.bus t.net served.6 served.7 y early;
      again =
          given_is (bridge_settings_of setup) (recording_in r.text) replayed.6 replayed.7 text ends
          ∙ replay_is setup asks.records r t.bus t.net served.6 served.7 y early;
    }
