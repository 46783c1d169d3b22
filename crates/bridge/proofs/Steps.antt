-- What each call of the bridge makes of what stands, put together from the gateway's calls and those of the parts beside it.
use Rattle.std.proofs.Common.{◌≡◌, ℕ, ◌+◌, ◌-◌, Bool, true, false, List, [], ◌∷◌, ◌++◌, length, refl, sym, ap, subst, ◌∙◌, append_assoc, length-append, arith}
use Rattle.std.specs.Prelude.{take, drop, Option, None, Some, option_map, if◌then◌else◌}
use Rattle.std.proofs.Math.Seq.{take-length, take-append_seam, drop-append_seam}
use Rattle.std.proofs.lemmas.Bool.{leb-true}
use Rattle.std.proofs.lemmas.List.{append-nil, drop_all, length-take}
use Rattle.report_rules.specs.Rules as rules
use Rattle.gate_events.specs.declared.emit.Detail.TheVariants as detail
use Rattle.gate_events.specs.Event as lines
use Rattle.gate_events.specs.declared.event.Event.{Event}
use Rattle.gate_events.specs.declared.event.Event.TheVariants as event
use Rattle.gate_events.specs.Emit.{Emit}
use Rattle.history.specs.Emits.{at, broken}
use Rattle.history.specs.Entries.{Entry, History, IsHistory, IsOffered, IsTimely, is_accepted, moment_of, now}
use Rattle.history.specs.Gate.{Stepped, command_in, out, opening_emits}
use Rattle.history.specs.Messages.{Message, done, messages_of}
use Rattle.history.specs.Settings.{Settings, receiver_of}
use Rattle.gate_model.specs.Machine.{Machine}
use Rattle.gate_model.specs.Stands.{Stands}
use Rattle.gate_outbox.specs.declared.done.Command.{Command}
use Rattle.gate_outbox.specs.Output.{Emitted, Output, emits_of, no_emits}
use Rattle.gate_core.specs.Promises.{IsTaken, entry_by}
use Rattle.gate_core.specs.Steps.{by_keys, entry_of, only_told, IsEventValid}
use Rattle.parts.specs.PartSteps.{IsGiven}
use Rattle.readings.specs.declared.reading.Reading.{Reading}
use Rattle.claim_table.specs.declared.answer.Holder.{Holder}
use Rattle.history.specs.EntryLaws.{IsEvent}
use Rattle.history.specs.Entries as entry
use Rattle.history.specs.FromBus.{said_at, selected_in}
use Rattle.history.specs.Known.{known}
use Rattle.parts.specs.Picked.{IsPicked, message_of}
use Rattle.parts.specs.Selected.{saying, selected_with}
use Rattle.parts.specs.SelectedMessage.{SelectedMessage}
use Rattle.plain_out.specs.Pace.{Utterance, Voice, said_all, uttered}
use Rattle.plain_out.specs.Streams.{reading_stream}
use Rattle.plain_out.specs.declared.stream.Stream.{Stream}
use Rattle.plain_out.proofs.Sayings.{append_after, append_plain, uttered_behind}
use Rattle.ais_bridge.specs.AisOut.{ais_out}
use Rattle.bus_answers.specs.AnsweringPart.{answering_gives}
use Rattle.joined_rmc.specs.RmcPart.{joining_gives}
use Rattle.parts.specs.Compose.{maybe_give}
use Rattle.bridge.specs.Beside.{BesideKept, are_beside, beside_give, beside_keep_commands, beside_output, beside_plain, beside_utter, beside_utterances, beside, further}
use Rattle.bridge.specs.BridgeStands.{AreTold, BridgeStands, IsBesideStep, IsBridged, IsForgotten, IsGatewayStep, IsOrder, IsOwnStream, IsSaidAgain, IsStart, IsUnposted, own_said}
use Rattle.bridge.specs.Gate.{NothingFurther, all_out, all_utter, is_replaced, own_uttered, own_utters, plain_at, plain_of, stepped, tagged_out, voice_after, voice_by, voice_in, voice_with, with_command}
use Rattle.bridge.specs.declared.call_output.CallOutput.{CallOutput}
use Rattle.bridge.specs.Kept.{Bridged, IsAlone, beside_out, given_count, ordered_output, output_at, output_of, own_output, plain_output}
use Rattle.bridge.specs.BridgeSettings.{BridgeSettings}
use Rattle.bridge.proofs.Ordered.{unposted}
use Rattle.bridge.specs.declared.replaced.Replaced.{Replaced}

-- ---- an event may follow

offered : (e : Event) → IsEventValid e → IsOffered (entry_of e)
offered (event.Frame moment frame) valid = (valid.identifier, omega (arith, length-take frame.len frame.bytes, valid.fits))
offered (event.Datagram moment bytes) valid = tt
offered (event.Tick moment) valid = tt

in_time : (e : Event) (h : History) → is_accepted h (entry_of e) ≡ true → IsTimely h (entry_of e)
in_time (event.Frame moment frame) h accepted = leb-true (now h) moment accepted
in_time (event.Datagram moment bytes) h accepted = leb-true (now h) moment accepted
in_time (event.Tick moment) h accepted = leb-true (now h) moment accepted

pub goes_on : (e : Event) (h : History) → IsEventValid e → IsHistory h → is_accepted h (entry_of e) ≡ true → IsHistory (entry_of e ∷ h)
goes_on e h valid could accepted = (offered e valid, in_time e h accepted, could)

-- ---- what is given, and where it stands

-- all is the event's own where no command gave anything
all_given : (x : CallOutput) → x.ordered ≡ 0 → given_count x ≡ length (emits_of x.outbox.emits)
all_given x none = omega (arith, none)

pub own_all : (x : CallOutput) → x.ordered ≡ 0 → own_output x ≡ emits_of x.outbox.emits
own_all x none = ap (λ (n : ℕ). take n (emits_of x.outbox.emits)) (all_given x none) ∙ take-length (emits_of x.outbox.emits)

pub ordered_none : (x : CallOutput) → x.ordered ≡ 0 → ordered_output x ≡ []
ordered_none x none =
    ap (λ (n : ℕ). drop n (emits_of x.outbox.emits)) (all_given x none) ∙ drop_all (length (emits_of x.outbox.emits)) (emits_of x.outbox.emits) (omega arith)

-- nothing stands beside it
pub alone_output : (b : Bridged) → b.output.ordered ≡ 0 → beside_output b.parts ≡ [] → plain_output b.output b.parts ≡ []
    → output_of b ≡ emits_of b.output.outbox.emits
alone_output b none silent unsaid =
    ap (λ (x : List Emit). x ++ beside_out b) (own_all b.output none)
    ∙ ap (λ (x : List Emit). emits_of b.output.outbox.emits ++ (x ++ (plain_output b.output b.parts ++ ordered_output b.output))) silent
    ∙ ap (λ (x : List Emit). emits_of b.output.outbox.emits ++ (x ++ ordered_output b.output)) unsaid
    ∙ ap (λ (x : List Emit). emits_of b.output.outbox.emits ++ x) (ordered_none b.output none)
    ∙ append-nil (emits_of b.output.outbox.emits)

-- ---- the start

pub is_start : (s : ℕ) (before between after : Bridged) → IsForgotten before between → Stands by_keys after.gateway.settings s [] after.gateway
    → after.gateway.settings ≡ between.gateway.settings → after.output.outbox ≡ only_told (opening_emits between.gateway.settings)
    → after ≡ record between { started = true; start = s; gateway = after.gateway; output = record between.output { outbox = after.output.outbox } }
    → IsStart s before after
is_start s before between after forgot stands settings left is p new =
    let here : between.gateway.settings ≡ p.gateway = ap (λ (x : Machine). x.settings) (forgot.gateway ∙ new.gateway) in
    let parts : after.parts ≡ between.parts = ap (λ (b : Bridged). b.parts) is in
    let plain : after.output.plain ≡ no_emits = ap (λ (b : Bridged). b.output.plain) is ∙ ap (λ (x : CallOutput). x.plain) forgot.output in
    record {
      stands = record {
        settings = new.settings;
        started = ap (λ (b : Bridged). b.started) is;
        start = ap (λ (b : Bridged). b.start) is;
        gateway = subst (λ (z : Settings). Stands by_keys z s [] after.gateway) (settings ∙ here) stands;
        parts = subst (are_beside p.parts p.gateway s []) (sym parts) (forgot.kept p.parts p.gateway s [] (new.parts.stood s));
        plain = ap (λ (b : Bridged). b.plain) is ∙ forgot.plain ∙ new.plain;
        replaced = ap (λ (b : Bridged). b.replaced) is ∙ forgot.replaced ∙ new.replaced;
        records = ap (λ (b : Bridged). b.records) is ∙ forgot.records ∙ new.records;
      };
      emits = alone_output after (ap (λ (b : Bridged). b.output.ordered) is ∙ ap (λ (x : CallOutput). x.ordered) forgot.output)
          (ap beside_output parts ∙ forgot.emits)
          (ap (λ (x : Emitted). emits_of x ++ beside_plain after.parts) plain ∙ ap beside_plain parts ∙ forgot.said)
          ∙ ap (λ (x : Output). emits_of x.emits) left ∙ ap opening_emits here;
    }

-- ---- plain sentences go on at each event

at_event : (p : BridgeSettings) (s : ℕ) (voice : Option Voice) (h : History) (e : Entry) → IsEvent e
    → voice_with p s voice h e ≡ voice_after voice (moment_of e) (all_utter p s h e)
at_event p s voice h (entry.frame m f) is = refl
at_event p s voice h (entry.datagram m bytes) is = refl
at_event p s voice h (entry.tick m) is = refl
at_event p s voice h (entry.command m source address) is = absurd is

pub events_are : (e : Event) → IsEvent (entry_of e)
events_are (event.Frame moment frame) = tt
events_are (event.Datagram moment bytes) = tt
events_are (event.Tick moment) = tt

-- the stream of the message that the gateway selected is that of the reading that it says
stream_by : (d : Option Message) (c : Settings) (holders : List (Option Holder)) (older : List Message)
    → option_map (λ (k : SelectedMessage). reading_stream k.reading) (option_map message_of (selected_with d (selected_in c holders older d)))
    ≡ option_map reading_stream (selected_in c holders older d)
stream_by None c holders older = refl
stream_by (Some d) c holders older = by (selected_in c holders older (Some d))
  where
    by : (r : Option Reading) → option_map (λ (k : SelectedMessage). reading_stream k.reading) (option_map message_of (saying d r)) ≡ option_map reading_stream r
    by None = refl
    by (Some r) = refl

pub own_stream_is : (gateway : Machine) (outbox : Output) (new : Option SelectedMessage) → IsPicked gateway outbox new
    → IsOwnStream gateway outbox (option_map (λ (k : SelectedMessage). reading_stream k.reading) new)
own_stream_is gateway outbox new picked c s h e taken =
    let r = receiver_of c in
    ap (option_map (λ (k : SelectedMessage). reading_stream k.reading)) (picked c s h e taken)
    ∙ stream_by (done r s h e) c (known r s h).claims.holders (messages_of r s h)

-- ---- one more event

module _ (p : BridgeSettings) (s : ℕ) (h : History) (before forgotten stepped_on : Bridged) (e : Entry) (could : IsHistory h)
    (stands : BridgeStands p s h before) (forgot : IsForgotten before forgotten) (went : IsGatewayStep e forgotten stepped_on) where
  -- the gateway that takes it stands for what came before
  here : Stands by_keys forgotten.gateway.settings s h forgotten.gateway
  here =
      let same : forgotten.gateway.settings ≡ p.gateway = ap (λ (g : Machine). g.settings) forgot.gateway ∙ stands.gateway.settings in
      subst (λ (g : Machine). Stands by_keys g.settings s h g) (sym forgot.gateway)
      (subst (λ (z : Settings). Stands by_keys z s h before.gateway) (sym stands.gateway.settings) stands.gateway)

  settings : forgotten.gateway.settings ≡ p.gateway
  settings = ap (λ (g : Machine). g.settings) forgot.gateway ∙ stands.gateway.settings

  parts_on : stepped_on.parts ≡ forgotten.parts
  parts_on = ap (λ (b : Bridged). b.parts) went.rest

  stood : are_beside p.parts p.gateway s h stepped_on.parts
  stood = subst (are_beside p.parts p.gateway s h) (sym parts_on) (forgot.kept p.parts p.gateway s h stands.parts)

  started_on : stepped_on.started ≡ true
  started_on = ap (λ (b : Bridged). b.started) went.rest ∙ forgot.started ∙ stands.started

  start_on : stepped_on.start ≡ s
  start_on = ap (λ (b : Bridged). b.start) went.rest ∙ forgot.start ∙ stands.start

  plain_on : stepped_on.plain ≡ voice_in p s h
  plain_on = ap (λ (b : Bridged). b.plain) went.rest ∙ forgot.plain ∙ stands.plain

  replaced_on : stepped_on.replaced ≡ p.replaced
  replaced_on = ap (λ (b : Bridged). b.replaced) went.rest ∙ forgot.replaced ∙ stands.replaced

  records_on : stepped_on.records ≡ p.records
  records_on = ap (λ (b : Bridged). b.records) went.rest ∙ forgot.records ∙ stands.records

  -- it is too early: the gateway says so, and nothing else is left
  pub refused : is_accepted h e ≡ false → IsBridged p s (stepped p s h e) stepped_on
  refused refuses =
      let early = (went.step s h could here).1 refuses in
      let told = broken rules.moment_back detail.Nothing ∷ [] in
      let due : Stepped p.gateway s = record { emits = at (now h) told; after = h } in
      let so : stepped p s h e ≡ due = rw refuses refl in
      let same : stepped_on.gateway ≡ before.gateway = early.unchanged ∙ forgot.gateway in
      let gave : output_of stepped_on ≡ told =
      alone_output stepped_on (ap (λ (b : Bridged). b.output.ordered) went.rest ∙ ap (λ (x : CallOutput). x.ordered) forgot.output)
      (ap beside_output parts_on ∙ forgot.emits)
      (ap (λ (x : Emitted). emits_of x ++ beside_plain stepped_on.parts) (ap (λ (b : Bridged). b.output.plain) went.rest ∙ ap (λ (x : CallOutput). x.plain) forgot.output)
      ∙ ap beside_plain parts_on ∙ forgot.said)
      ∙ ap (λ (x : Output). emits_of x.emits) early.reported in
      subst (λ (x : Stepped p.gateway s). IsBridged p s x stepped_on) (sym so) (record {
        could = could;
        stands = record {
          settings = stands.settings;
          started = started_on;
          start = start_on;
          gateway = subst (λ (g : Machine). Stands by_keys p.gateway s h g) (sym same) stands.gateway;
          parts = stood;
          plain = plain_on;
          replaced = replaced_on;
          records = records_on;
        };
        emits = ap (λ (g : Machine). output_at g.moment stepped_on) same ∙ ap (λ (m : ℕ). output_at m stepped_on) stands.gateway.moment
            ∙ ap (at (now h)) gave;
      })

  -- it is taken: then the parts take it, and the gateway the command that it gives
  module _ (accepts : is_accepted h e ≡ true) (is_event : IsEvent e) (could_on : IsHistory (e ∷ h)) (told : Bridged) (beside : IsBesideStep e stepped_on told) where
    taken : IsTaken p.gateway s h e stepped_on.gateway stepped_on.output.outbox
    taken = subst (λ (z : Settings). IsTaken z s h e stepped_on.gateway stepped_on.output.outbox) settings ((went.step s h could here).0 accepts)

    given : IsGiven are_beside beside_give beside_utter beside_output beside_utterances p.parts p.gateway s h e told.parts
    given = beside.parts p.parts p.gateway s h stands.settings start_on could_on taken stood

    own_is : emits_of told.output.outbox.emits ≡ out p.gateway s h e
    own_is = ap (λ (x : Output). emits_of x.emits) beside.outbox ∙ taken.emits

    -- what is said of both, at the event's moment
    abbrev said : List Utterance
    said = own_said stepped_on.replaced p.gateway s h e stepped_on.output.outbox ++ beside_utterances told.parts

    said_is : said ≡ all_utter p s h e
    said_is =
        ap (λ (replaced : Replaced). own_said replaced p.gateway s h e stepped_on.output.outbox ++ beside_utterances told.parts) replaced_on
        ∙ ap (λ (es : List Emit). own_uttered p.replaced (option_map reading_stream (said_at p.gateway s h e)) es ++ beside_utterances told.parts) taken.emits
        ∙ ap (λ (us : List Utterance). own_utters p s h e ++ us) given.said

    moment_on : stepped_on.gateway.moment ≡ moment_of e
    moment_on = taken.stands.moment

    plain_is : plain_output told.output told.parts ≡ plain_at p s h e
    plain_is =
        beside.plain p.gateway s h taken
        ∙ ap (λ (v : Option Voice). plain_of v stepped_on.gateway.moment said) plain_on
        ∙ ap (λ (m : ℕ). plain_of (voice_in p s h) m said) moment_on
        ∙ ap (plain_of (voice_in p s h) (moment_of e)) said_is

    voice_is : told.plain ≡ voice_in p s (e ∷ h)
    voice_is =
        beside.voice p.gateway s h taken
        ∙ ap (λ (v : Option Voice). voice_after v stepped_on.gateway.moment said) plain_on
        ∙ ap (λ (m : ℕ). voice_after (voice_in p s h) m said) moment_on
        ∙ ap (voice_after (voice_in p s h) (moment_of e)) said_is
        ∙ sym (at_event p s (voice_in p s h) h e is_event)

    -- all that the event gave, as it stands in front of what the command gives
    all_is : (more : List Emit)
        → out p.gateway s h e ++ (beside_output told.parts ++ (plain_output told.output told.parts ++ more)) ≡ all_out p s h e ++ more
    all_is more =
        let own = out p.gateway s h e in
        let gave = beside_give p.parts p.gateway s h e in
        let plain = plain_at p s h e in
        ap (λ (es : List Emit). own ++ (es ++ (plain_output told.output told.parts ++ more))) given.emits
        ∙ ap (λ (es : List Emit). own ++ (gave ++ (es ++ more))) plain_is
        ∙ sym (append_assoc own gave (plain ++ more)) ∙ sym (append_assoc (own ++ gave) plain more)

    stands_told : BridgeStands p s (e ∷ h) told
    stands_told = record {
      settings = stands.settings;
      started = beside.started ∙ started_on;
      start = beside.start ∙ start_on;
      gateway = subst (λ (g : Machine). Stands by_keys p.gateway s (e ∷ h) g) (sym beside.gateway) taken.stands;
      parts = given.stood;
      plain = voice_is;
      replaced = beside.replaced ∙ replaced_on;
      records = beside.records ∙ records_on;
    }

    by_order : (o : Option Command) (after : Bridged) → told.output.outbox.command ≡ o → IsOrder o told after
        → IsBridged p s (with_command p s h e (option_map (entry_by (moment_of e)) o)) after
    by_order None after left same = record {
      could = could_on;
      stands = subst (λ (b : Bridged). BridgeStands p s (e ∷ h) b) (sym same) stands_told;
      emits = ap (λ (b : Bridged). output_at b.gateway.moment b) same ∙ ap (λ (m : ℕ). output_at m told) stands_told.gateway.moment
          ∙ ap (at (moment_of e))
          (ap (λ (es : List Emit). es ++ beside_out told) (own_all told.output beside.ordered ∙ own_is)
          ∙ ap (λ (es : List Emit). out p.gateway s h e ++ (beside_output told.parts ++ (plain_output told.output told.parts ++ es)))
          (ordered_none told.output beside.ordered)
          ∙ all_is [] ∙ append-nil (all_out p s h e));
    }
    by_order (Some o) after left obeyed =
        let taken_here : IsTaken told.gateway.settings s h e told.gateway told.output.outbox =
        subst (λ (z : Settings). IsTaken z s h e told.gateway told.output.outbox) (sym stands_told.gateway.settings)
        (subst (λ (g : Machine). IsTaken p.gateway s h e g told.output.outbox) (sym beside.gateway)
        (subst (λ (x : Output). IsTaken p.gateway s h e stepped_on.gateway x) (sym beside.outbox) taken)) in
        let is = obeyed.step s h e could_on taken_here in
        let next = entry_by (moment_of e) o in
        let was = told.output.outbox in
        let now_left = after.output.outbox in
        let silent : was.emits.posted ≡ [] = unposted told.gateway.settings s h e told.gateway was taken_here o left in
        let more = out p.gateway s (e ∷ h) next in
        let more_is : out told.gateway.settings s (e ∷ h) next ≡ more = ap (λ (z : Settings). out z s (e ∷ h) next) stands_told.gateway.settings in
        let all_told : emits_of now_left.emits ≡ emits_of was.emits ++ more =
        ap (λ (es : List Emit). es ++ now_left.emits.posted) is.told
        ∙ ap (λ (es : List Emit). (was.emits.told ++ out told.gateway.settings s (e ∷ h) next) ++ es) (is.posted ∙ silent)
        ∙ append-nil (was.emits.told ++ out told.gateway.settings s (e ∷ h) next)
        ∙ ap (λ (es : List Emit). was.emits.told ++ es) more_is
        ∙ ap (λ (es : List Emit). es ++ more) (sym (ap (λ (es : List Emit). was.emits.told ++ es) silent ∙ append-nil was.emits.told)) in
        let lengths = length-append (emits_of was.emits) more in
        let total : length (emits_of now_left.emits) ≡ length (emits_of was.emits) + length more = ap length all_told ∙ lengths in
        let count : given_count after.output ≡ length (emits_of was.emits) = omega (arith, obeyed.ordered, total) in
        let own_now : own_output after.output ≡ out p.gateway s h e =
        ap (λ (n : ℕ). take n (emits_of now_left.emits)) count ∙ ap (take (length (emits_of was.emits))) all_told
        ∙ take-append_seam (emits_of was.emits) more ∙ own_is in
        let ordered_now : ordered_output after.output ≡ more =
        ap (λ (n : ℕ). drop n (emits_of now_left.emits)) count ∙ ap (drop (length (emits_of was.emits))) all_told
        ∙ drop-append_seam (emits_of was.emits) more in
        let parts : after.parts ≡ told.parts = ap (λ (b : Bridged). b.parts) obeyed.rest in
        let plain : plain_output after.output after.parts ≡ plain_output told.output told.parts =
        ap (λ (b : Bridged). plain_output b.output b.parts) obeyed.rest in
        record {
          could = (obeyed.from, refl, could_on);
          stands = record {
            settings = stands.settings;
            started = ap (λ (b : Bridged). b.started) obeyed.rest ∙ stands_told.started;
            start = ap (λ (b : Bridged). b.start) obeyed.rest ∙ stands_told.start;
            gateway = subst (λ (z : Settings). Stands by_keys z s (next ∷ e ∷ h) after.gateway) stands_told.gateway.settings is.stands;
            parts = subst (are_beside p.parts p.gateway s (next ∷ e ∷ h)) (sym parts)
                (beside_keep_commands p.parts p.gateway s (e ∷ h) o.source o.address told.parts stands.settings given.stood);
            plain = ap (λ (b : Bridged). b.plain) obeyed.rest ∙ stands_told.plain;
            replaced = ap (λ (b : Bridged). b.replaced) obeyed.rest ∙ stands_told.replaced;
            records = ap (λ (b : Bridged). b.records) obeyed.rest ∙ stands_told.records;
          };
          emits = ap (λ (m : ℕ). output_at m after) is.stands.moment
              ∙ ap (at (moment_of e))
              (ap (λ (es : List Emit). es ++ beside_out after) own_now
              ∙ ap (λ (k : BesideKept). out p.gateway s h e ++ (beside_output k ++ (plain_output after.output after.parts ++ ordered_output after.output))) parts
              ∙ ap (λ (es : List Emit). out p.gateway s h e ++ (beside_output told.parts ++ (es ++ ordered_output after.output))) plain
              ∙ ap (λ (es : List Emit). out p.gateway s h e ++ (beside_output told.parts ++ (plain_output told.output told.parts ++ es))) ordered_now
              ∙ all_is more);
        }

    pub accepted : (after : Bridged) → IsOrder told.output.outbox.command told after → IsBridged p s (stepped p s h e) after
    accepted after order =
        let c = command_in p.gateway s (done (receiver_of p.gateway) s h e) (moment_of e) in
        let so : stepped p s h e ≡ with_command p s h e c = rw accepts refl in
        let ordered : option_map (entry_by (moment_of e)) told.output.outbox.command ≡ c =
        ap (λ (x : Output). option_map (entry_by (moment_of e)) x.command) beside.outbox ∙ taken.ordered in
        subst (λ (x : Stepped p.gateway s). IsBridged p s x after) (ap (with_command p s h e) ordered ∙ sym so)
        (by_order told.output.outbox.command after refl order)

pub event_valid : (e : Event) → lines.IsValid e → IsEventValid e
event_valid (event.Frame moment frame) valid = valid
event_valid (event.Datagram moment bytes) valid = tt
event_valid (event.Tick moment) valid = tt

-- ---- without further parts and without plain sentences

unvoiced : (p : BridgeSettings) (s : ℕ) → p.plain ≡ None → (h : History) → voice_in p s h ≡ None
unvoiced p s unplain [] = ap voice_by unplain
unvoiced p s unplain (entry.frame m f ∷ h) = ap (λ (v : Option Voice). voice_after v m (all_utter p s h (entry.frame m f))) (unvoiced p s unplain h)
unvoiced p s unplain (entry.datagram m bytes ∷ h) = ap (λ (v : Option Voice). voice_after v m (all_utter p s h (entry.datagram m bytes))) (unvoiced p s unplain h)
unvoiced p s unplain (entry.tick m ∷ h) = ap (λ (v : Option Voice). voice_after v m (all_utter p s h (entry.tick m))) (unvoiced p s unplain h)
unvoiced p s unplain (entry.command m source address ∷ h) = unvoiced p s unplain h

pub nothing_further : NothingFurther
nothing_further p s h e unasked unplain =
    let c = p.gateway in
    let own = out c s h e in
    let answered = maybe_give answering_gives p.parts.0 c s h e in
    let rmc = maybe_give joining_gives p.parts.1.0 c s h e in
    let ships = maybe_give ais_out p.parts.1.1.0 c s h e in
    ap (λ (v : Option Voice). tagged_out p s h e ++ plain_of v (moment_of e) (all_utter p s h e)) (unvoiced p s unplain h)
    ∙ append-nil (tagged_out p s h e)
    ∙ ap (λ (r : further.rule). own ++ (answered ++ (rmc ++ (ships ++ further.give r c s h e)))) unasked
    ∙ ap (λ (es : List Emit). own ++ (answered ++ (rmc ++ (ships ++ es)))) (further.silent c s h e)
    ∙ ap (λ (es : List Emit). own ++ (answered ++ (rmc ++ es))) (append-nil ships)

-- ---- the parts have taken an entry, and its datagrams are said once more where that is asked for

-- nothing is said
pub is_beside_step : (e : Entry) (before : Bridged) (parts : BesideKept) → AreTold e before parts → IsAlone before.output before.parts → beside_plain parts ≡ []
    → ((c : Settings) (s : ℕ) (h : History) → plain_of before.plain before.gateway.moment (own_said before.replaced c s h e before.output.outbox ++ beside_utterances parts) ≡ [])
    → ((c : Settings) (s : ℕ) (h : History) → voice_after before.plain before.gateway.moment (own_said before.replaced c s h e before.output.outbox ++ beside_utterances parts) ≡ before.plain)
    → IsBesideStep e before (record before { parts = parts })
is_beside_step e before parts told alone unsaid none same = record {
  started = refl;
  start = refl;
  gateway = refl;
  outbox = refl;
  ordered = alone.ordered;
  parts = told;
  replaced = refl;
  records = refl;
  plain = λ c s h taken. ap (λ (x : Emitted). emits_of x ++ beside_plain parts) alone.plain ∙ unsaid ∙ sym (none c s h);
  voice = λ c s h taken. sym (same c s h);
}

-- by nobody
pub no_plain : (voice : Option Voice) (m : ℕ) (us : List Utterance) → voice ≡ None → plain_of voice m us ≡ []
no_plain voice m us none = ap (λ (v : Option Voice). plain_of v m us) none

pub no_voice : (voice : Option Voice) (m : ℕ) (us : List Utterance) → voice ≡ None → voice_after voice m us ≡ voice
no_voice voice m us none = ap (λ (v : Option Voice). voice_after v m us) none ∙ sym none

-- nothing was said before, and there is no datagram
none_plain : (voice : Option Voice) (m : ℕ) → plain_of voice m [] ≡ []
none_plain None m = refl
none_plain (Some v) m = refl

none_voice : (voice : Option Voice) (m : ℕ) → voice_after voice m [] ≡ voice
none_voice None m = refl
none_voice (Some v) m = refl

-- what says nothing of itself, and has parts that gave nothing
none_replaced : (replaced : Bool) (us : List Utterance) → us ≡ [] → (if replaced then [] else us) ≡ []
none_replaced true us none = refl
none_replaced false us none = none

pub silent_step : (replaced : Replaced) (c : Settings) (s : ℕ) (h : History) (e : Entry) (o : Output) (parts : BesideKept) → beside_output parts ≡ [] → IsUnposted o
    → own_said replaced c s h e o ++ beside_utterances parts ≡ []
silent_step replaced c s h e o parts none unposted =
    let stream = option_map reading_stream (said_at c s h e) in
    ap (λ (us : List Utterance). us ++ beside_utterances parts)
    (none_replaced (is_replaced replaced stream) (uttered stream (emits_of o.emits))
    (uttered_behind stream o.emits.told o.emits.posted unposted.told ∙ ap (uttered stream) unposted.posted))
    ∙ beside.unsaid parts none

pub nothing_plain : (voice : Option Voice) (m : ℕ) (us : List Utterance) → us ≡ [] → plain_of voice m us ≡ []
nothing_plain voice m us none = ap (plain_of voice m) none ∙ none_plain voice m

pub nothing_kept : (voice : Option Voice) (m : ℕ) (us : List Utterance) → us ≡ [] → voice_after voice m us ≡ voice
nothing_kept voice m us none = ap (voice_after voice m) none ∙ none_voice voice m

-- all datagrams are said
pub is_said_step : (e : Entry) (before : Bridged) (parts after : BesideKept) (output : CallOutput) (v v' : Voice) → before.plain ≡ Some v
    → AreTold e before parts → IsAlone before.output before.parts → IsSaidAgain before.gateway before.replaced v before.output parts v' output after
    → IsBesideStep e before (record before { parts = after; plain = Some v'; output = output })
is_said_step e before parts after output v v' is told alone again =
    let us = λ (c : Settings) (s : ℕ) (h : History) (k : BesideKept). own_said before.replaced c s h e before.output.outbox ++ beside_utterances k in
    let m = before.gateway.moment in
    record {
      started = refl;
      start = refl;
      gateway = refl;
      outbox = again.outbox;
      ordered = again.ordered ∙ alone.ordered;
      parts = λ r c s h are start could taken stands.
          let given = told r c s h are start could taken stands in
          record { stood = again.kept r c s (e ∷ h) given.stood; emits = again.beside ∙ given.emits; said = again.said ∙ given.said };
      replaced = refl;
      records = refl;
      plain = λ c s h taken.
          again.plain c s h e taken
          ∙ ap (λ (more : List Utterance). (said_all v m (own_said before.replaced c s h e before.output.outbox ++ more)).plain) (sym again.said)
          ∙ sym (ap (λ (x : Option Voice). plain_of x m (us c s h after)) is);
      voice = λ c s h taken.
          ap Some (again.voice c s h e taken
          ∙ ap (λ (more : List Utterance). (said_all v m (own_said before.replaced c s h e before.output.outbox ++ more)).after) (sym again.said))
          ∙ sym (ap (λ (x : Option Voice). voice_after x m (us c s h after)) is);
    }

-- ---- the datagrams of the gateway itself and of the parts, one after the other

abbrev pub AreSaidOf : Machine → Replaced → Output → Voice → Voice → List Emit → List Emit → List Utterance → Type 0
AreSaidOf gateway replaced outbox v v' own beside_said parts =
    (c : Settings) (s : ℕ) (h : History) (e : Entry) → IsTaken c s h e gateway outbox
    → (own ++ beside_said ≡ (said_all v gateway.moment (own_said replaced c s h e outbox ++ parts)).plain)
    × (v' ≡ (said_all v gateway.moment (own_said replaced c s h e outbox ++ parts)).after)

pub said_again : (gateway : Machine) (replaced : Replaced) (outbox : Output) (stream : Option Stream) (v middle v' : Voice) (own beside_said : List Emit) (parts : List Utterance)
    → IsOwnStream gateway outbox stream
    → middle ≡ (said_all v gateway.moment (own_uttered replaced stream (emits_of outbox.emits))).after
    → own ≡ (said_all v gateway.moment (own_uttered replaced stream (emits_of outbox.emits))).plain
    → v' ≡ (said_all middle gateway.moment parts).after
    → beside_said ≡ (said_all middle gateway.moment parts).plain
    → AreSaidOf gateway replaced outbox v v' own beside_said parts
said_again gateway replaced outbox stream v middle v' own beside_said parts streams first_after first_plain then_after then_plain c s h e taken =
    let m = gateway.moment in
    let es = emits_of outbox.emits in
    let us : own_uttered replaced stream es ≡ own_said replaced c s h e outbox = ap (λ (x : Option Stream). own_uttered replaced x es) (streams c s h e taken) in (
      ap (λ (x : List Emit). x ++ beside_said) first_plain
          ∙ ap (λ (x : List Emit). (said_all v m (own_uttered replaced stream es)).plain ++ x) then_plain
          ∙ ap (λ (x : Voice). (said_all v m (own_uttered replaced stream es)).plain ++ (said_all x m parts).plain) first_after
          ∙ sym (append_plain v m (own_uttered replaced stream es) parts)
          ∙ ap (λ (x : List Utterance). (said_all v m (x ++ parts)).plain) us,
      then_after
          ∙ ap (λ (x : Voice). (said_all x m parts).after) first_after
          ∙ sym (append_after v m (own_uttered replaced stream es) parts)
          ∙ ap (λ (x : List Utterance). (said_all v m (x ++ parts)).after) us,
    )
