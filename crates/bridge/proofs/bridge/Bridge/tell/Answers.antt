use Rattle.std.proofs.Common.{◌≡◌, ℕ, ◌++◌, sym, ap, subst, ◌∙◌}
use Rattle.std.specs.Prelude.{Option, Some}
use Rattle.plain_out.specs.Pace.{Voice}
use Rattle.gate_core.specs.Steps.{entry_of}
use Rattle.history.specs.Entries.{History}
use Rattle.history.specs.Settings.{Settings}
use Rattle.bridge.specs.Beside.{beside_output, beside_plain, beside_utterances}
use Rattle.bridge.specs.BridgeStands.{AreTold, IsBesideStep, own_said}
use Rattle.bridge.specs.Kept.{Bridged, IsAlone}
use Rattle.bridge.specs.declared.call_output.CallOutput.{CallOutput}
use Rattle.bridge.proofs.Steps.{is_beside_step, is_said_step, no_plain, no_voice, nothing_kept, nothing_plain, silent_step}
use Rattle.bridge.proofs.bridge.Bridge.tell.Goals as goal

pub after-self-inside-requires-clause-empty : goal.after-self-inside-requires-clause-empty
after-self-inside-requires-clause-empty c = ap (λ (b : Bridged). beside_output b.parts) c.self.view_is ∙ c.requires.alone.emits

pub after-self-inside-requires-clause-unsaid : goal.after-self-inside-requires-clause-unsaid
after-self-inside-requires-clause-unsaid c = ap (λ (b : Bridged). beside_plain b.parts) c.self.view_is ∙ c.requires.alone.said

pub returns-else-posts : goal.returns-else-posts
returns-else-posts c =
    let i = c.self.inside in
    let x = c.as_mut-output.result.now in
    let e = entry_of c.args.event.now in
    let parts = c.after-self-inside.new.self in
    let before : Bridged = record { started = i.started; start = i.start; gateway = i.gateway; parts = i.parts; plain = i.plain; replaced = i.replaced; records = i.records; output = x } in
    let same : before ≡ c.args.self.now = ap (λ (o : CallOutput). let b : Bridged = record before { output = o } in b) c.as_mut-output.ensures.value ∙ c.self.view_is in
    let told : AreTold e before parts = λ r settings s h are start could taken stands. c.after-self-inside.ensures.takes r settings s h
    (record { settings = are; start = start; could = could; taken = taken }) stands in
    let alone : IsAlone before.output before.parts = subst (λ (b : Bridged). IsAlone b.output b.parts) (sym same) c.requires.alone in
    let us = λ (settings : Settings) (s : ℕ) (h : History). own_said i.replaced settings s h e x.outbox ++ beside_utterances parts in
    let silent = λ (settings : Settings) (s : ℕ) (h : History).
    silent_step i.replaced settings s h e x.outbox parts (c.after-self-inside.ensures.gave c.if-self.false) (c.posts.ensures c.if-posts.false) in
    subst (λ (b : Bridged). IsBesideStep e b (record before { parts = parts; plain = Some c.in-Some.voice })) same
    (subst (λ (v : Option Voice). IsBesideStep e before (record before { parts = parts; plain = v })) c.in-Some.is
    (is_beside_step e before parts told alone c.after-self-inside.ensures.unsaid
    (λ settings s h. nothing_plain i.plain i.gateway.moment (us settings s h) (silent settings s h))
    (λ settings s h. nothing_kept i.plain i.gateway.moment (us settings s h) (silent settings s h))))

pub returns-in_default : goal.returns-in_default
returns-in_default c =
    let i = c.self.inside in
    let x = c.as_mut-output.result.now in
    let e = entry_of c.args.event.now in
    let parts = c.after-self-inside.new.self in
    let before : Bridged = record { started = i.started; start = i.start; gateway = i.gateway; parts = i.parts; plain = i.plain; replaced = i.replaced; records = i.records; output = x } in
    let same : before ≡ c.args.self.now = ap (λ (o : CallOutput). let b : Bridged = record before { output = o } in b) c.as_mut-output.ensures.value ∙ c.self.view_is in
    let told : AreTold e before parts = λ r settings s h are start could taken stands. c.after-self-inside.ensures.takes r settings s h
    (record { settings = are; start = start; could = could; taken = taken }) stands in
    let alone : IsAlone before.output before.parts = subst (λ (b : Bridged). IsAlone b.output b.parts) (sym same) c.requires.alone in
    let us = λ (settings : Settings) (s : ℕ) (h : History). own_said i.replaced settings s h e x.outbox ++ beside_utterances parts in
    subst (λ (b : Bridged). IsBesideStep e b (record before { parts = parts })) same
    (is_beside_step e before parts told alone c.after-self-inside.ensures.unsaid
    (λ settings s h. no_plain i.plain i.gateway.moment (us settings s h) c.in_default.is)
    (λ settings s h. no_voice i.plain i.gateway.moment (us settings s h) c.in_default.is))

pub returns-then-self : goal.returns-then-self
returns-then-self c =
    let i = c.self.inside in
    let x = c.as_mut-output.result.now in
    let e = entry_of c.args.event.now in
    let parts = c.after-self-inside.new.self in
    let after = c.say_again.new in
    let before : Bridged = record { started = i.started; start = i.start; gateway = i.gateway; parts = i.parts; plain = i.plain; replaced = i.replaced; records = i.records; output = x } in
    let same : before ≡ c.args.self.now = ap (λ (o : CallOutput). let b : Bridged = record before { output = o } in b) c.as_mut-output.ensures.value ∙ c.self.view_is in
    let told : AreTold e before parts = λ r settings s h are start could taken stands. c.after-self-inside.ensures.takes r settings s h
    (record { settings = are; start = start; could = could; taken = taken }) stands in
    let alone : IsAlone before.output before.parts = subst (λ (b : Bridged). IsAlone b.output b.parts) (sym same) c.requires.alone in
    subst (λ (b : Bridged). IsBesideStep e b (record before { parts = after.parts; plain = Some after.voice; output = after.output })) same
    (is_said_step e before parts after.parts after.output c.in-Some.voice after.voice c.in-Some.is told alone c.say_again.ensures)
