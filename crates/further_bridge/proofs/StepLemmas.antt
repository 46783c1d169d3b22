-- An event that the gateway has taken: what is kept of further quantities stands for the history with it, and all that the definition over that
-- history says is given.
use Rattle.std.proofs.Common.{◌≡◌, ℕ, ◌+◌, ◌<◌, ◌%◌, Bool, true, false, ◌&&◌, List, [], ◌∷◌, ◌++◌, length, Option, Some, None, option_map, if◌then◌else◌, refl, sym, ap, subst, ◌∙◌, append_assoc, arith}
use Rattle.std.specs.Prelude.{IfSome, filter}
use Rattle.n2k_id.specs.Frame.{BusFrame, bus_frame}
use Rattle.n2k_id.specs.declared.name.Name.{Name}
use Rattle.readings.specs.declared.rows.Row.TheVariants as row
use Rattle.gate_events.specs.declared.event.Event.{Event}
use Rattle.gate_events.specs.declared.event.Event.TheVariants as event
use Rattle.claim_table.specs.Claims.{claim, places}
use Rattle.tag_block.specs.Tag.{most_count}
use Rattle.quantities.specs.Told.{AreInOrder, kind_of, told}
use Rattle.quantities.specs.declared.value.Value.{Value}
use Rattle.history.specs.AddressLaws.{AreSettings, IsReceiver}
use Rattle.history.specs.Choice as rows
use Rattle.history.specs.Entries as entry
use Rattle.history.specs.Entries.{Entry, History, moment_of, now}
use Rattle.history.specs.Known.{claim_by, is_claim, known}
use Rattle.history.specs.Messages.{Message, done, messages_of}
use Rattle.history.specs.Settings.{Receiver, Settings, receiver_of, rule_of}
use Rattle.history.proofs.Receivers.{gateways_receive}
use Rattle.gate_model.specs.Addresses.{Changed, changed_by, no_change}
use Rattle.gate_model.specs.AddressStands.{name_held}
use Rattle.gate_model.specs.Machine.{Machine}
use Rattle.gate_model.specs.Said.{complete_of}
use Rattle.gate_model.proofs.AddressTells.{standing_tells_alike}
use Rattle.gate_model.proofs.ChoiceMessages.{messages_fit_chosen}
use Rattle.gate_outbox.specs.Output.{Emitted, Output, emits_of}
use Rattle.plain_out.specs.Pace.{uttered}
use Rattle.plain_out.specs.declared.stream.Stream.{Stream}
use Rattle.plain_out.proofs.Sayings.{uttered_append}
use Rattle.parts.proofs.Speaking.{quiet_unsaid}
use Rattle.parts.specs.SelectedMessage.{SelectedMessage}
use Rattle.parts.specs.Picked.{IsPicked, message_of}
use Rattle.parts.specs.Selected.{selected_at}
use Rattle.gate_core.proofs.Completed.{done_by}
use Rattle.joined_rmc.specs.JoinStands.{LastStands}
use Rattle.joined_rmc.proofs.Commands.{last_stays}
use Rattle.joined_rmc.proofs.Rows.{last_steps}
use Rattle.joined_rmc.proofs.Steps.{last_says}
use Rattle.bus_listener.specs.Steps.{entry_of}
use Rattle.bus_listener.specs.Heard.{heard_out}
use Rattle.bus_listener.specs.Kept.{Hearing}
use Rattle.bus_listener.specs.Promises.{IsHeard, IsListening, StandsListening}
use Rattle.bus_listener.proofs.CommandLemmas.{commands_leave_listening}
use Rattle.bus_listener.proofs.Completes.{heard_is_done}
use Rattle.bus_listener.proofs.KnownLemmas.{gateway_stands, is_receiver}
use Rattle.bus_listener.proofs.NoDatagrams.{no_heard}
use Rattle.bus_listener.proofs.Noted.{claimed_is}
use Rattle.further_bridge.specs.declared.said.Streams.{Streams}
use Rattle.further_bridge.specs.FurtherOut.{all_in, further_done, further_receiver, has_voice, is_row_said, is_selected, lines_said, magnetic_in, message_breaks, said_at, said_gives, said_utters, selected_in, values_of}
use Rattle.further_bridge.specs.FurtherRule.{FurtherRule}
use Rattle.further_bridge.specs.Kept.{FurtherKept, FurtherStep, behind, given_by, given_up, hearing_by, is_water_said, message_step, said_of, step_by, streams_of, uttered_by, water_heard}
use Rattle.further_bridge.specs.Promises.{CommandsLeaveFurther, EachStands, IsFurtherStep, IsFurtherTaken, StandsFurther, in_places, said_in_places}
use Rattle.further_bridge.specs.QuantityKinds.{quantities_are_heard}
use Rattle.further_bridge.proofs.MessageLemmas.{AreMessageChosen, choices_after, message_taken, said_of_message}
use Rattle.further_bridge.proofs.EachNoted.{claims_noted, claims_say_nothing, commands_noted, datagrams_noted, in_order, nothing_noted, ticks_noted, values_chosen, values_noted}
use Rattle.further_bridge.proofs.Notes.{AreChosen, noted_all}

-- what passes one test and then another passes both
filter_twice : (p q : Value → Bool) (values : List Value) → filter p (filter q values) ≡ filter (λ v. q v && p v) values
filter_twice p q [] = refl
filter_twice p q (v ∷ values) = by (filter_twice p q values) (q v) refl
  where
    by : filter p (filter q values) ≡ filter (λ v. q v && p v) values → (b : Bool) → q v ≡ b
        → filter p (if b then v ∷ filter q values else filter q values) ≡ filter (λ v. q v && p v) (v ∷ values)
    by rest true is =
        ap (λ (vs : List Value). if p v then v ∷ vs else vs) rest ∙ sym (ap (λ t. if t && p v then v ∷ filter (λ v. q v && p v) values else filter (λ v. q v && p v) values) is)
    by rest false is =
        rest ∙ sym (ap (λ t. if t && p v then v ∷ filter (λ v. q v && p v) values else filter (λ v. q v && p v) values) is)

module _ (x : FurtherRule) (c : Settings) (s : ℕ) (h : History) (settings : AreSettings c) where
  abbrev r : Receiver
  r = further_receiver x c

  are : IsReceiver r
  are = is_receiver kind_of x.slots c quantities_are_heard settings

  -- ---- what is kept when the listener has heard an entry, what was noted of addresses that changed hands is forgotten, and the message that
  -- the gateway selected is kept

  module _ (e : Entry) (k : FurtherKept) (heard : Hearing) (hears_it : IsHeard kind_of x.slots c s h e heard) where
    -- with all that was told of messages in h
    pub record Stood : Type 0 where
      pub rule : k.rule ≡ x
      pub sfi : k.sfi ≡ c.sfi
      pub slots : k.slots ≡ heard.slots
      pub water : LastStands (rule_of c row.WaterTemperature).timeout c s row.WaterTemperature (e ∷ h) k.water
      pub lines : k.lines ≡ lines_said x c s h % most_count

    abbrev chosen : Message → Value → Bool
    chosen d v = is_selected x (known r s h).claims.holders (messages_of r s h) d v

    abbrev y : Option Message → FurtherStep
    y d = message_step k (option_map said_of (option_map complete_of d))

    -- the gateway says the row as the history does
    row_is_said : Stood → (m : ℕ) → is_water_said k.water m ≡ is_row_said c s (e ∷ h) m
    row_is_said it m =
        ap rows.is_usable (last_says (rule_of c row.WaterTemperature).timeout c s row.WaterTemperature (e ∷ h) k.water m it.water)

    -- what is said by what is kept is what the history says
    said_is : Stood → (d : Option Message) → ((z : Message) → d ≡ Some z → z.moment ≡ moment_of e) → further_done x c s h e ≡ d
        → said_of_message k chosen d ≡ said_at x c s h e
    said_is it None at is = sym (ap (λ o. filter (has_voice (is_row_said c s (e ∷ h) (moment_of e))) (selected_in x c s h o)) is)
    said_is it (Some z) at is =
        let voiced = is_row_said c s (e ∷ h) (moment_of e) in
        ap (λ (said : Bool). filter (λ v. chosen z v && has_voice said v) (values_of z)) (row_is_said it z.moment ∙ ap (is_row_said c s (e ∷ h)) (at z refl))
        ∙ sym (filter_twice (has_voice voiced) (chosen z) (values_of z))
        ∙ sym (ap (λ o. filter (has_voice voiced) (selected_in x c s h o)) is)

    order : (d : Option Message) → IfSome d (λ d. AreInOrder (all_in (told d.pgn d.payload)))
    order None = tt
    order (Some d) = in_order d

    abbrev streams : Option Message → Streams
    streams d = streams_of (option_map said_of (option_map complete_of d))

    -- what was told before it isn't said
    told_unsaid : (stream : Option Stream) (z : Emitted) → uttered stream ((heard.told ++ z.told) ++ z.posted) ≡ uttered stream (emits_of z)
    told_unsaid stream z =
        ap (uttered stream) (append_assoc heard.told z.told z.posted)
        ∙ uttered_append stream heard.told (emits_of z)
        ∙ ap (λ us. us ++ uttered stream (emits_of z)) (ap (uttered stream) hears_it.told ∙ quiet_unsaid stream (heard_out kind_of x.slots c s h e) (no_heard kind_of x.slots c s h e))

    -- with this message, of which the notes stand for the history with it
    with_message : Stood → (d : Option Message) → IfSome d (λ d. d.source < places) → ((z : Message) → d ≡ Some z → z.moment ≡ moment_of e)
        → further_done x c s h e ≡ d → AreMessageChosen k chosen d → EachStands x r s (e ∷ h) (choices_after k chosen d)
        → IsFurtherTaken x c s h e (behind heard.told (message_step k (option_map said_of heard.message))).after
        (given_by (behind heard.told (message_step k (option_map said_of heard.message))))
        (uttered_by (streams_of (option_map said_of heard.message)) (behind heard.told (message_step k (option_map said_of heard.message))))
    with_message it d within at is are_chosen stands =
        let message : heard.message ≡ option_map complete_of d = hears_it.message ∙ ap (option_map complete_of) is in
        let lines = lines_said x c s h in
        let taken = message_taken k chosen lines it.lines d within (order d) are_chosen in
        let said = said_is it d at is in
        subst (λ o. IsFurtherTaken x c s h e (message_step k (option_map said_of o)).after (given_by (behind heard.told (message_step k (option_map said_of o))))
        (uttered_by (streams_of (option_map said_of o)) (behind heard.told (message_step k (option_map said_of o))))) (sym message)
        (record {
          stands = subst (λ after. StandsFurther x c s (e ∷ h) after) (sym taken.after) (record {
            rule = it.rule;
            sfi = it.sfi;
            slots = subst (λ slots. StandsListening kind_of x.slots c s (e ∷ h) slots) (sym it.slots) hears_it.stands;
            choices = stands;
            water = it.water;
            lines = ap (λ (vs : List Value). (lines + length vs) % most_count) said;
          });
          emits =
              ap (λ told. told ++ ((y d).second ++ (y d).third)) (append_assoc heard.told (y d).emits.told (y d).emits.posted)
              ∙ append_assoc heard.told (emits_of (y d).emits) ((y d).second ++ (y d).third)
              ∙ ap (λ told. told ++ given_by (y d)) hears_it.told
              ∙ ap (λ more. heard_out kind_of x.slots c s h e ++ more) (taken.emits
              ∙ ap (λ vs. message_breaks d ++ said_gives k.rule k.sfi lines vs) said
              ∙ ap (λ rule. message_breaks d ++ said_gives rule k.sfi lines (said_at x c s h e)) it.rule
              ∙ ap (λ sfi. message_breaks d ++ said_gives x sfi lines (said_at x c s h e)) it.sfi
              ∙ ap (λ o. message_breaks o ++ said_gives x c.sfi lines (said_at x c s h e)) (sym is));
          utters =
              ap (λ first. first ++ (uttered (streams d).second (y d).second ++ uttered (streams d).third (y d).third)) (told_unsaid (streams d).first (y d).emits)
              ∙ taken.said
              ∙ ap (λ vs. said_utters k.rule (magnetic_in d) k.sfi lines vs) said
              ∙ ap (λ rule. said_utters rule (magnetic_in d) k.sfi lines (said_at x c s h e)) it.rule
              ∙ ap (λ sfi. said_utters x (magnetic_in d) sfi lines (said_at x c s h e)) it.sfi
              ∙ ap (λ o. said_utters x (magnetic_in o) c.sfi lines (said_at x c s h e)) (sym is);
        })

  -- ---- an entry, by what the listener heard, and by what the gateway keeps and selected

  module _ (e : Entry) (before : FurtherKept) (it : StandsFurther x c s h before) (heard : Hearing) (hears_it : IsHeard kind_of x.slots c s h e heard)
      (holder : ℕ → Option Name) (names : (a : ℕ) → holder a ≡ name_held (known (receiver_of c) s (e ∷ h)).claims.holders a)
      (new : Option SelectedMessage) (picks : new ≡ option_map message_of (selected_at c s h e)) where
    abbrev kept : Changed → FurtherKept
    kept changed = water_heard holder new (given_up changed (record before { slots = heard.slots }))

    stood : (changed : Changed) → Stood e (kept changed) heard hears_it
    stood changed = record {
      rule = it.rule;
      sfi = it.sfi;
      slots = refl;
      water = last_steps c s h e (gateways_receive c settings) holder names row.WaterTemperature (rule_of c row.WaterTemperature).timeout before.water new picks it.water;
      lines = it.lines;
    }

    abbrev IsTaken : Changed → Type 0
    IsTaken changed =
        IsFurtherTaken x c s h e (behind heard.told (message_step (kept changed) (option_map said_of heard.message))).after
        (given_by (behind heard.told (message_step (kept changed) (option_map said_of heard.message))))
        (uttered_by (streams_of (option_map said_of heard.message)) (behind heard.told (message_step (kept changed) (option_map said_of heard.message))))

    -- an entry that completes no message
    without_message : (changed : Changed) → done r s h e ≡ None → EachStands x r s (e ∷ h) (kept changed).choices → IsTaken changed
    without_message changed none stands =
        with_message e (kept changed) heard hears_it (stood changed) None tt (λ z is. cc) (heard_is_done kind_of x.slots c s h quantities_are_heard settings e ∙ none) tt stands

  -- ---- each kind of entry

  module _ (m : ℕ) (f : BusFrame) (before : FurtherKept) (it : StandsFurther x c s h before) (heard : Hearing)
      (hears_it : IsHeard kind_of x.slots c s h (entry.frame m f) heard)
      (holder : ℕ → Option Name) (names : (a : ℕ) → holder a ≡ name_held (known (receiver_of c) s (entry.frame m f ∷ h)).claims.holders a)
      (new : Option SelectedMessage) (picks : new ≡ option_map message_of (selected_at c s h (entry.frame m f))) where
    abbrev e : Entry
    e = entry.frame m f

    abbrev IsFrameTaken : Changed → Type 0
    IsFrameTaken changed = IsTaken e before it heard hears_it holder names new picks changed

    claim_taken : (changed : Changed) → is_claim f ≡ true → changed ≡ changed_by (claim (known r s h).claims (claim_by (length h) m f)).step → IsFrameTaken changed
    claim_taken changed claims is =
        let step = (claim (known r s h).claims (claim_by (length h) m f)).step in
        subst (λ changed. IsFrameTaken changed) (sym is)
        (without_message e before it heard hears_it holder names new picks (changed_by step) (claims_say_nothing x c s h settings before.choices it.choices m f claims)
        (subst (λ choices. EachStands x r s (e ∷ h) choices) (sym (claimed_is r are s h m f before.choices)) (claims_noted x c s h settings before.choices it.choices m f claims)))

    message_of_frame : is_claim f ≡ false → (o : Option Message) → done r s h e ≡ o → IsFrameTaken no_change
    message_of_frame other None none =
        without_message e before it heard hears_it holder names new picks no_change none (nothing_noted x c s h settings before.choices it.choices m f other none)
    message_of_frame other (Some z) completes =
        let k = kept e before it heard hears_it holder names new picks no_change in
        with_message e k heard hears_it (stood e before it heard hears_it holder names new picks no_change) (Some z)
        (subst (λ o. IfSome o (λ d. d.source < places)) completes (messages_fit_chosen r s h m f are))
        (λ z' is. (done_by r s h e z' (completes ∙ is)).moment)
        (heard_is_done kind_of x.slots c s h quantities_are_heard settings e ∙ completes)
        (subst (λ rule. AreChosen z.source z.moment rule z.name (is_selected x (known r s h).claims.holders (messages_of r s h) z) before.choices (all_in (told z.pgn z.payload))) (sym it.rule)
        (values_chosen x c s h settings before.choices it.choices m f other z completes))
        (subst (λ rule. EachStands x r s (e ∷ h) (noted_all z.source z.moment rule z.name before.choices (all_in (told z.pgn z.payload)))) (sym it.rule)
        (values_noted x c s h settings before.choices it.choices m f other z completes))

    pub frame_taken : (changed : Changed) → changed ≡ (if is_claim f then changed_by (claim (known r s h).claims (claim_by (length h) m f)).step else no_change)
        → IsFurtherTaken x c s h (entry.frame m f)
        (behind heard.told (message_step (water_heard holder new (given_up changed (record before { slots = heard.slots }))) (option_map said_of heard.message))).after
        (given_by (behind heard.told (message_step (water_heard holder new (given_up changed (record before { slots = heard.slots }))) (option_map said_of heard.message))))
        (uttered_by (streams_of (option_map said_of heard.message))
        (behind heard.told (message_step (water_heard holder new (given_up changed (record before { slots = heard.slots }))) (option_map said_of heard.message))))
    frame_taken changed changes = by (is_claim f) refl
      where
        by : (b : Bool) → is_claim f ≡ b → IsFrameTaken changed
        by true claims = claim_taken changed claims (changes ∙ rw claims refl)
        by false other =
            let is : changed ≡ no_change = changes ∙ rw other refl in
            subst (λ changed. IsFrameTaken changed) (sym is) (message_of_frame other (done r s h e) refl)

is_step : (g : Machine) (outbox : Output) (new : Option SelectedMessage) → IsPicked g outbox new → (e : Event) (before : FurtherKept)
    → IsListening kind_of g (entry_of e) before.slots (hearing_by g before (entry_of e))
    → IsFurtherStep g outbox (entry_of e) before (step_by g new before (entry_of e)).after (given_by (step_by g new before (entry_of e)))
    (uttered_by (streams_of (option_map said_of (hearing_by g before (entry_of e)).message)) (step_by g new before (entry_of e)))
is_step g outbox new picked (event.Frame moment frame) before listening = λ x s h settings could taken it.
    let e = entry.frame moment (bus_frame frame) in
    frame_taken x g.settings s h settings moment (bus_frame frame) before it (hearing_by g before e) (listening x.slots s h settings could taken.stands it.slots)
    (name_held g.addresses.claims.holders) ((standing_tells_alike (receiver_of g.settings) s (e ∷ h) g.addresses taken.stands.addresses).names)
    new (picked g.settings s h e taken) g.addresses.changed
    (gateway_stands kind_of x.slots g.settings s _ g.addresses taken.stands.addresses).changed
is_step g outbox new picked (event.Datagram moment bytes) before listening = λ x s h settings could taken it.
    let e = entry.datagram moment bytes.now in
    let heard = listening x.slots s h settings could taken.stands it.slots in
    let names = (standing_tells_alike (receiver_of g.settings) s (e ∷ h) g.addresses taken.stands.addresses).names in
    let picks = picked g.settings s h e taken in
    subst (λ changed. IsTaken x g.settings s h settings e before it (hearing_by g before e) heard (name_held g.addresses.claims.holders) names new picks changed)
    (sym taken.stands.addresses.changed)
    (without_message x g.settings s h settings e before it (hearing_by g before e) heard (name_held g.addresses.claims.holders) names new picks no_change refl
    (datagrams_noted x g.settings s h settings before.choices it.choices moment bytes.now))
is_step g outbox new picked (event.Tick moment) before listening = λ x s h settings could taken it.
    let e = entry.tick moment in
    let heard = listening x.slots s h settings could taken.stands it.slots in
    let names = (standing_tells_alike (receiver_of g.settings) s (e ∷ h) g.addresses taken.stands.addresses).names in
    let picks = picked g.settings s h e taken in
    subst (λ changed. IsTaken x g.settings s h settings e before it (hearing_by g before e) heard (name_held g.addresses.claims.holders) names new picks changed)
    (sym taken.stands.addresses.changed)
    (without_message x g.settings s h settings e before it (hearing_by g before e) heard (name_held g.addresses.claims.holders) names new picks no_change refl
    (ticks_noted x g.settings s h settings before.choices it.choices moment))

-- what is left in three places is what is given
left_in_places : (y : FurtherStep) (first second third : Emitted) → first ≡ y.emits → second ≡ record { told = []; posted = y.second }
    → third ≡ record { told = []; posted = y.third } → in_places first second third ≡ given_by y
left_in_places y first second third a b c =
    ap (λ one. in_places one second third) a
    ∙ ap (λ two. in_places y.emits two third) b
    ∙ ap (λ three. in_places y.emits (record { told = []; posted = y.second }) three) c

said_by_places : (streams : Streams) (y : FurtherStep) (first second third : Emitted) → first ≡ y.emits → second ≡ record { told = []; posted = y.second }
    → third ≡ record { told = []; posted = y.third } → said_in_places streams first second third ≡ uttered_by streams y
said_by_places streams y first second third a b c =
    ap (λ one. said_in_places streams one second third) a
    ∙ ap (λ two. said_in_places streams y.emits two third) b
    ∙ ap (λ three. said_in_places streams y.emits (record { told = []; posted = y.second }) three) c

pub taken_step : (g : Machine) (outbox : Output) (new : Option SelectedMessage) → IsPicked g outbox new → (e : Event) (before after : FurtherKept) (first second third : Emitted) (streams : Streams)
    → IsListening kind_of g (entry_of e) before.slots (hearing_by g before (entry_of e)) → after ≡ (step_by g new before (entry_of e)).after
    → first ≡ (step_by g new before (entry_of e)).emits
    → second ≡ record { told = []; posted = (step_by g new before (entry_of e)).second }
    → third ≡ record { told = []; posted = (step_by g new before (entry_of e)).third }
    → streams ≡ streams_of (option_map said_of (hearing_by g before (entry_of e)).message)
    → IsFurtherStep g outbox (entry_of e) before after (in_places first second third) (said_in_places streams first second third)
taken_step g outbox new picked e before after first second third streams listening is a b c same = λ x s h settings could gs it.
    let taken = is_step g outbox new picked e before listening x s h settings could gs it in record {
      stands = subst (λ k. StandsFurther x g.settings s (entry_of e ∷ h) k) (sym is) taken.stands;
      emits = left_in_places (step_by g new before (entry_of e)) first second third a b c ∙ taken.emits;
      utters =
          said_by_places streams (step_by g new before (entry_of e)) first second third a b c
          ∙ ap (λ (by : Streams). uttered_by by (step_by g new before (entry_of e))) same
          ∙ taken.utters;
    }

-- ---- a command

no_more : (n : ℕ) → n % most_count ≡ (n + 0) % most_count
no_more n = ap (λ k. k % most_count) (omega arith)

pub commands_leave_further : CommandsLeaveFurther
commands_leave_further x c s h source address k settings it = record {
  rule = it.rule;
  sfi = it.sfi;
  slots = commands_leave_listening kind_of x.slots c s h source address k.slots quantities_are_heard settings it.slots;
  choices = commands_noted x c s h settings k.choices it.choices (now h) source address;
  water = last_stays (rule_of c row.WaterTemperature).timeout c s row.WaterTemperature h (now h) source address k.water it.water;
  lines = it.lines ∙ no_more (lines_said x c s h);
}
