-- What is kept of what was said stands for one more message as it does for those before it, and the message is said as the history says it.
use Rattle.std.proofs.Common.{◌≡◌, ℕ, ◌<◌, Bool, true, false, List, [], ◌∷◌, length, refl, sym, ap, subst}
use Rattle.std.specs.Prelude.{Option, Some, None, IfSome, option_map, if◌then◌else◌, option_and_then}
use Rattle.n2k_id.specs.Frame.{BusFrame}
use Rattle.readings.specs.declared.reading.Reading.{Reading}
use Rattle.readings.specs.Rows.{row_of}
use Rattle.source_choice.specs.declared.rank.Rank.{Rank}
use Rattle.source_choice.specs.Choices.{Choices}
use Rattle.claim_table.specs.Claims.{places, holder_at}
use Rattle.claim_table.specs.declared.answer.Holder.{Holder}
use Rattle.history.specs.AddressLaws.{AreSettings}
use Rattle.history.specs.Entries.{History, frame}
use Rattle.history.specs.Settings.{Settings, rule_of, receiver_of}
use Rattle.history.specs.Known.{Known, known, is_claim}
use Rattle.history.specs.Messages.{Message, done, messages_of, with_message}
use Rattle.history.specs.Subjects.{last_of}
use Rattle.history.specs.Choice.{reading_of, rank_of, is_first, selected_reading, row_rules, row_told, told_by, told_in}
use Rattle.history.specs.Emits.{Spoken}
use Rattle.gate_events.specs.Emit.{Emit, net}
use Rattle.history.specs.FromBus.{selected_in, said_in}
use Rattle.history.specs.Gate.{with_spoken, spoken_of}
use Rattle.history.specs.FreshLaws.{is_told}
use Rattle.history.proofs.KeySteps.{known_same}
use Rattle.history.proofs.Receivers.{gateways_receive}
use Rattle.gate_model.specs.ChoiceStands.{StandsChoices}
use Rattle.gate_model.specs.Net.{row_numbers, timeouts}
use Rattle.gate_model.specs.Said.{SaidKept, complete_of, datagram_by, counted, is_chosen, noted_by, ranked_after, ranked_emits, profiled_after, profiled_emits, message_after, message_emits}
use Rattle.gate_model.specs.SaidStands.{StandsSaid, SaidStandsFor}
use Rattle.gate_model.specs.SaidLaws.{OpeningStandsSaid, MessageStandsSaid, MessagesStandSaid, MessagesFit}
use Rattle.gate_model.proofs.ChoiceNotes.{untold, unranked, noted_then, chosen_first}
use Rattle.gate_model.proofs.ChoiceMessages.{opening_stands_chosen, IsHeldBy, is_held, is_within, keeps, messages_fit_chosen}
use Rattle.gate_model.proofs.NetRows.{row_below, timeout_at}
use Rattle.gate_model.proofs.SaidCounts.{by_row, lines_counted, groups_counted, datagrams_are_of_all}

-- ---- nothing kept

pub opening_stands_said : OpeningStandsSaid
opening_stands_said c s = record {
  choices = opening_stands_chosen row_told (row_rules c) (timeouts c) (receiver_of c) s (timeout_at c);
  numbers = refl;
  lines = λ r. by_row (λ number. 0) r;
  groups = refl;
}

-- ---- a message of the holder of its source

module _ (c : Settings) (s : ℕ) (holders : List (Option Holder)) (older : List Message) (spoken : List Spoken) (d : Message) (holder : Holder)
    (at : holder_at holders d.source ≡ Some holder) (named : d.name ≡ holder.name.0) (within : d.source < places)
    (keeps_it : (n a : ℕ) → last_of row_told holders n a (d ∷ older) ≡ (if is_told row_told n a (Some d) then Some d else last_of row_told holders n a older))
    (k : SaidKept) (st : StandsSaid c holders older spoken k) where
  abbrev Chosen : Choices → Type 0
  Chosen after = StandsChoices row_told (row_rules c) (length row_numbers) holders (d ∷ older) after

  -- with other notes, and as much said
  silent : (after : Choices) → Chosen after → StandsSaid c holders (d ∷ older) spoken (record k { choices = after })
  silent after holds = record { choices = holds; numbers = st.numbers; lines = st.lines; groups = st.groups }

  -- with other notes, and a reading more said
  spoke : (after : Choices) (r : Reading) → Chosen after
      → StandsSaid c holders (d ∷ older) (with_spoken c s (Some r) spoken) (counted c (record k { choices = after }) r)
  spoke after r holds = record {
    choices = holds;
    numbers = refl;
    lines = λ one. lines_counted c (record k { choices = after }) spoken r one (st.lines one);
    groups = groups_counted c (record k { choices = after }) spoken r st.groups;
  }

  record Steps (after : SaidKept) (emits : List Emit) (said : Option Reading) : Type 0 where
    stands : StandsSaid c holders (d ∷ older) (with_spoken c s said spoken) after
    gives : emits ≡ said_in c spoken said

  module _ (r : Reading) (is : reading_of d ≡ Some r) where
    told : row_told d ≡ Some (told_by r)
    told = ap told_in is

    by_choice : (rank : Rank) (b : Bool) → Chosen (noted_by k (complete_of d) rank r).choices
        → Steps (if b then counted c (noted_by k (complete_of d) rank r) r else noted_by k (complete_of d) rank r)
        (if b then net (rule_of c (row_of r)).group (datagram_by c k r) ∷ [] else []) (if b then Some r else None)
    by_choice rank true holds = record {
      stands = spoke (noted_by k (complete_of d) rank r).choices r holds;
      gives = ap (λ (bytes : List ℕ). net (rule_of c (row_of r)).group bytes ∷ []) (datagrams_are_of_all c holders older spoken k r st);
    }
    by_choice rank false holds = record { stands = silent (noted_by k (complete_of d) rank r).choices holds; gives = refl }

    by_rank : (p : Option Rank) → rank_of (rule_of c (row_of r)) d.name ≡ p
        → Steps (ranked_after c k (complete_of d) r p) (ranked_emits c k (complete_of d) r p)
        (if is_first (rule_of c (row_of r)) holders (row_of r) d.moment older p then Some r else None)
    by_rank None e = record {
      stands = silent k.choices
          (unranked row_told (row_rules c) (length row_numbers) holders older (d ∷ older) d holder at named within keeps_it k.choices st.choices (told_by r)
          told (row_below (row_of r)) e);
      gives = refl;
    }
    by_rank (Some rank) e =
        let same : is_chosen k (complete_of d) rank r ≡ is_first (rule_of c (row_of r)) holders (row_of r) d.moment older (Some rank) =
        chosen_first row_told (row_rules c) (length row_numbers) holders older (d ∷ older) d holder at named within keeps_it k.choices st.choices (told_by r)
        told (row_below (row_of r)) rank e in
        subst (λ (b : Bool). Steps (ranked_after c k (complete_of d) r (Some rank)) (ranked_emits c k (complete_of d) r (Some rank))
        (if b then Some r else None)) same
        (by_choice rank (is_chosen k (complete_of d) rank r)
        (noted_then row_told (row_rules c) (length row_numbers) holders older (d ∷ older) d holder at named within keeps_it k.choices st.choices (told_by r)
        told (row_below (row_of r)) rank e))

  by_reading : (o : Option Reading) → reading_of d ≡ o
      → Steps (profiled_after c k (complete_of d) o) (profiled_emits c k (complete_of d) o) (option_and_then (selected_reading c holders older d) o)
  by_reading None e = record {
    stands = silent k.choices
        (untold row_told (row_rules c) (length row_numbers) holders older (d ∷ older) d holder at named within keeps_it k.choices st.choices (ap told_in e));
    gives = refl;
  }
  by_reading (Some r) e = by_rank r e (rank_of (rule_of c (row_of r)) d.name) refl

  message_steps : Steps (message_after c k (Some (complete_of d))) (message_emits c k (Some (complete_of d))) (selected_in c holders older (Some d))
  message_steps = by_reading (reading_of d) refl

-- ---- a frame that is no claim

module _ (c : Settings) (s : ℕ) (h : History) (m : ℕ) (f : BusFrame) (are : AreSettings c) (other : is_claim f ≡ false) (k : SaidKept)
    (st : SaidStandsFor c s h k) where
  abbrev holders : List (Option Holder)
  holders = (known (receiver_of c) s h).claims.holders

  abbrev older : List Message
  older = messages_of (receiver_of c) s h

  abbrev completed : Option Message
  completed = done (receiver_of c) s h (frame m f)

  record Stands (o : Option Message) : Type 0 where
    stands : StandsSaid c holders (with_message o older) (with_spoken c s (selected_in c holders older o) (spoken_of c s h))
        (message_after c k (option_map complete_of o))
    gives : message_emits c k (option_map complete_of o) ≡ said_in c (spoken_of c s h) (selected_in c holders older o)

  by_message : (o : Option Message) → IfSome o (IsHeldBy holders)
      → ((n a : ℕ) → last_of row_told holders n a (with_message o older) ≡ (if is_told row_told n a o then o else last_of row_told holders n a older))
      → Stands o
  by_message None held keeps_it = record { stands = st; gives = refl }
  by_message (Some d) held keeps_it =
      let within = is_within (receiver_of c) s h m f (gateways_receive c are) d held in
      let step = message_steps c s holders older (spoken_of c s h) d held.holder held.at held.named within keeps_it k st in
      record { stands = step.stands; gives = step.gives }

  pub frame_stands : MessageStandsSaid c s h m f k
  frame_stands =
      let able = gateways_receive c are in
      let all = by_message completed (is_held (receiver_of c) s h m f able) (keeps (receiver_of c) s h m f able row_told other) in
      record {
        stands = subst (λ (n : Known). StandsSaid c n.claims.holders (with_message completed older)
            (with_spoken c s (selected_in c holders older completed) (spoken_of c s h)) (message_after c k (option_map complete_of completed)))
            (sym (known_same (receiver_of c) s h m f other)) all.stands;
        gives = all.gives;
      }

pub messages_stand_said : MessagesStandSaid
messages_stand_said c s h m f k are other st = frame_stands c s h m f are other k st

pub messages_fit : MessagesFit
messages_fit c s h m f are = messages_fit_chosen (receiver_of c) s h m f (gateways_receive c are)
