use Rattle.std.proofs.Common.{◌≡◌, ◌+◌, length, [], ◌∷◌, map, ap, ◌∙◌, subst, slice_index}
use Rattle.readings.specs.Rows.{row_of, row_number}
use Rattle.gate_events.specs.Emit.{net}
use Rattle.history.specs.Settings.{rule_of}
use Rattle.gate_model.specs.Said.{SaidKept, sentences_by}
use Rattle.gate_model.specs.SaidFits.{AreCounts}
use Rattle.config_values.specs.Settings.{settings_by}
use Rattle.row_traffic.specs.Saying.{texts}
use Rattle.gate_outbox.specs.Output.{with_posted}
use Rattle.row_traffic.proofs.Saying.{same_datagram, fits}
use Rattle.row_traffic.proofs.said.Said.say.Goals as goal

pub write_datagram-requires-clause-room : goal.write_datagram-requires-clause-room
write_datagram-requires-clause-room c =
    let k = c.args.self.now in
    let r = c.args.reading.now in
    let settings = settings_by c.args.config.now in
    let said : texts c.deref.result.now ≡ sentences_by settings r = ap (λ xs. map (λ text. text.bytes.items) xs) c.deref.ensures.0 ∙ c.sentences_in.ensures in
    let code = ap (λ n. n + 1) (c.from.ensures ∙ ap (λ (s : SaidKept). s.groups) c.self.view_is) in
    let lines = ap (λ (s : SaidKept). slice_index s.lines c.number.result) c.self.view_is
    ∙ ap (λ n. slice_index k.lines n) (c.number.ensures.number ∙ ap row_number c.row-row.ensures) in
    let same = same_datagram settings k r c.speaker.result (c.from.result + 1) _ c.deref.result.now c.speaker.ensures.sfi code lines said in
    let talker = subst (λ rule. length rule.talker ≡ 2) (c.row_config.ensures.rule ∙ ap (rule_of settings) c.row-row.ensures)
    (c.row_config.ensures.valid c.requires.config).talker.len in
    let counts : AreCounts k = subst AreCounts c.self.view_is (record { lines = c.self.invariant.3; groups = c.self.invariant.4 }) in
    fits settings k r c.speaker.result (c.from.result + 1) _ c.deref.result.now same c.speaker.ensures.form c.speaker.ensures.sfi talker c.requires.valid counts

pub returns-clause-emits : goal.returns-clause-emits
returns-clause-emits c =
    let k = c.args.self.now in
    let r = c.args.reading.now in
    let settings = settings_by c.args.config.now in
    let said : texts c.deref.result.now ≡ sentences_by settings r = ap (λ xs. map (λ text. text.bytes.items) xs) c.deref.ensures.0 ∙ c.sentences_in.ensures in
    let code = ap (λ n. n + 1) (c.from.ensures ∙ ap (λ (s : SaidKept). s.groups) c.self.view_is) in
    let lines = ap (λ (s : SaidKept). slice_index s.lines c.number.result) c.self.view_is
    ∙ ap (λ n. slice_index k.lines n) (c.number.ensures.number ∙ ap row_number c.row-row.ensures) in
    let same = same_datagram settings k r c.speaker.result (c.from.result + 1) _ c.deref.result.now c.speaker.ensures.sfi code lines said in
    let group = ap (λ d. d.group) c.post-datagram.ensures.empty
    ∙ ap (λ rule. rule.group) (c.row_config.ensures.rule ∙ ap (rule_of settings) c.row-row.ensures) in
    ap (λ g. with_posted c.args.out.now (net g c.write_datagram.new.packet.items ∷ [])) group
    ∙ ap (λ bytes. with_posted c.args.out.now (net (rule_of settings (row_of r)).group bytes ∷ [])) (c.write_datagram.ensures ∙ same)

pub sentences_in-requires-clause-config : goal.sentences_in-requires-clause-config
sentences_in-requires-clause-config c = c.requires.config

pub sentences_in-requires-clause-valid : goal.sentences_in-requires-clause-valid
sentences_in-requires-clause-valid c = c.requires.valid
