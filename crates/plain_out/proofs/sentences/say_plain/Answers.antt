use Rattle.std.proofs.Common.{◌≡◌, ℕ, true, false, List, [], ◌∷◌, ◌++◌, sym, ap, ◌∙◌}
use Rattle.gate_events.specs.Emit.{net}
use Rattle.gate_outbox.specs.Kept.{lent_emits}
use Rattle.gate_outbox.specs.Output.{emits_of}
use Rattle.plain_out.specs.Pace.{Utterance, Voice, passing, said_all}
use Rattle.plain_out.specs.Plain.{sentences_in}
use Rattle.plain_out.proofs.Sayings.{group_stays, none_said, one_after, one_plain}
use Rattle.plain_out.proofs.sentences.say_plain.Goals as goal

pub returns-then-passes-clause-voice : goal.returns-then-passes-clause-voice
returns-then-passes-clause-voice g c =
    let a = c.args in
    let d = c.in-Some.datagram.now in
    c.passes.ensures.after
    ∙ ap (λ (bytes : List ℕ). (passing a.voice.now a.moment a.stream bytes).after) c.as_slice-datagram.ensures.value
    ∙ one_after a.voice.now a.moment a.stream a.emits.now.told a.emits.now.posted d.group d.packet.items c.datagram.ensures.told c.in-Some.ensures.posted

pub returns-then-passes-clause-plain : goal.returns-then-passes-clause-plain
returns-then-passes-clause-plain g c =
    let a = c.args in
    let v = a.voice.now in
    let d = c.in-Some.datagram.now in
    let slice = c.as_slice-datagram.result.now in
    let group : c.group.result ≡ v.group =
    c.group.ensures ∙ ap (λ (x : Voice). x.group) c.passes.ensures.after ∙ group_stays v a.moment a.stream slice in
    ap (λ x. x.told ++ net c.post-plain.result.now.group c.push_sentences.new.out.items ∷ []) c.requires
    ∙ ap (λ x. net x.group c.push_sentences.new.out.items ∷ []) c.post-plain.ensures.empty
    ∙ ap (λ (to : List ℕ). net to c.push_sentences.new.out.items ∷ []) group
    ∙ ap (λ (bytes : List ℕ). net v.group bytes ∷ []) c.push_sentences.ensures.sentences
    ∙ ap (λ (bytes : List ℕ). net v.group (sentences_in bytes) ∷ []) c.as_slice-datagram.ensures.value
    ∙ one_plain v a.moment a.stream a.emits.now.told a.emits.now.posted d.group d.packet.items c.datagram.ensures.told c.in-Some.ensures.posted true
    (sym c.if-passes.true ∙ c.passes.ensures.passes ∙ ap (λ (bytes : List ℕ). (passing v a.moment a.stream bytes).passes) c.as_slice-datagram.ensures.value)

pub returns-else-passes-clause-voice : goal.returns-else-passes-clause-voice
returns-else-passes-clause-voice g c =
    let a = c.args in
    let d = c.in-Some.datagram.now in
    c.passes.ensures.after
    ∙ ap (λ (bytes : List ℕ). (passing a.voice.now a.moment a.stream bytes).after) c.as_slice-datagram.ensures.value
    ∙ one_after a.voice.now a.moment a.stream a.emits.now.told a.emits.now.posted d.group d.packet.items c.datagram.ensures.told c.in-Some.ensures.posted

pub returns-else-passes-clause-plain : goal.returns-else-passes-clause-plain
returns-else-passes-clause-plain g c =
    let a = c.args in
    let v = a.voice.now in
    let d = c.in-Some.datagram.now in
    ap emits_of c.requires
    ∙ one_plain v a.moment a.stream a.emits.now.told a.emits.now.posted d.group d.packet.items c.datagram.ensures.told c.in-Some.ensures.posted false
    (sym c.if-passes.false ∙ c.passes.ensures.passes ∙ ap (λ (bytes : List ℕ). (passing v a.moment a.stream bytes).passes) c.as_slice-datagram.ensures.value)

pub returns-in_default-clause-voice : goal.returns-in_default-clause-voice
returns-in_default-clause-voice g c =
    let a = c.args in
    let unposted = sym (ap lent_emits (sym c.in_default.is) ∙ c.datagram.ensures.posted) in
    ap (λ (us : List Utterance). (said_all a.voice.now a.moment us).after)
    (sym (none_said a.voice.now a.moment a.stream a.emits.now.told a.emits.now.posted c.datagram.ensures.told unposted))

pub returns-in_default-clause-plain : goal.returns-in_default-clause-plain
returns-in_default-clause-plain g c =
    let a = c.args in
    let unposted = sym (ap lent_emits (sym c.in_default.is) ∙ c.datagram.ensures.posted) in
    ap emits_of c.requires
    ∙ ap (λ (us : List Utterance). (said_all a.voice.now a.moment us).plain)
    (sym (none_said a.voice.now a.moment a.stream a.emits.now.told a.emits.now.posted c.datagram.ensures.told unposted))
