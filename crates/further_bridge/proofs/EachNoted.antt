-- What is noted of each quantity by itself stands for one more entry, and selects the values of the message that it completes as the history does.
use Rattle.std.proofs.Common.{◌≡◌, ℕ, ◌<◌, true, false, List, [], ◌∷◌, length, Option, Some, None, refl, sym, ap, subst, ◌∙◌, arith}
use Rattle.std.specs.Prelude.{IfSome}
use Rattle.std.specs.List.{AllByRecursion}
use Rattle.n2k_id.specs.Frame.{BusFrame}
use Rattle.claim_table.specs.Claims.{claim}
use Rattle.claim_table.specs.declared.answer.ClaimStep.{ClaimStep}
use Rattle.claim_table.specs.declared.answer.Holder.{Holder}
use Rattle.quantities.specs.About.{quantities_count}
use Rattle.quantities.specs.Told.{AreInOrder, IsInOrder, kind_of, told}
use Rattle.quantities.specs.declared.value.Told.{Told}
use Rattle.quantities.specs.declared.value.Told.TheVariants as says
use Rattle.quantities.specs.declared.value.Value.{Value}
use Rattle.quantities.proofs.Order.{is_in_order}
use Rattle.source_choice.specs.Choices.{Choices}
use Rattle.source_choice.specs.SubjectRules.{SubjectRule}
use Rattle.history.specs.AddressLaws.{AreSettings, IsReceiver}
use Rattle.history.specs.Entries.{History, frame, datagram, tick, command}
use Rattle.history.specs.Known.{address_left, address_won, claim_by, is_claim, known}
use Rattle.history.specs.Messages.{Message, done, messages_of}
use Rattle.history.specs.Settings.{Receiver, Settings, is_some_that}
use Rattle.history.specs.Subjects as subjects
use Rattle.gate_model.specs.ChoiceStands.{ChoicesStandFor}
use Rattle.gate_model.specs.ChoiceStandsLaws.{ClaimStandsChosen, MessageStandsChosen, OthersStandChosen}
use Rattle.gate_model.specs.Choosing.{claimed, is_message_chosen, is_told_chosen, message_noted, without_address}
use Rattle.gate_model.proofs.ChoiceClaims.{claims_stand_chosen, other_entries_stand_chosen}
use Rattle.gate_model.proofs.ChoiceMessages.{messages_stand_chosen}
use Rattle.bus_listener.proofs.KnownLemmas.{is_receiver}
use Rattle.further_bridge.specs.FurtherOut.{all_in, further_receiver, is_selected, number_in, quantity_told, told_among, told_by, values_of}
use Rattle.further_bridge.specs.FurtherRule.{FurtherRule, rule_at}
use Rattle.further_bridge.specs.Promises.{EachStands, only}
use Rattle.further_bridge.specs.QuantityKinds.{quantities_are_heard}
use Rattle.further_bridge.proofs.Notes.{AreChosen, all_count, chosen_only, is_chosen_in, noted_all, noted_is, rank_in, told_of_each, without_count, without_only}
use Rattle.further_bridge.proofs.Numbers.{number_within, tell_within}

-- the values of a message are in the order of the quantities
pub in_order : (d : Message) → AreInOrder (all_in (told d.pgn d.payload))
in_order d = by (told d.pgn d.payload) (is_in_order (told d.pgn d.payload) d.pgn d.payload refl)
  where
    by : (t : Told) → IsInOrder t → AreInOrder (all_in t)
    by (says.Values values) is = is
    by says.Outside is = tt
    by says.Short is = tt

module _ (x : FurtherRule) (c : Settings) (s : ℕ) (h : History) (settings : AreSettings c) where
  abbrev r : Receiver
  r = further_receiver x c

  are : IsReceiver r
  are = is_receiver kind_of x.slots c quantities_are_heard settings

  abbrev rules : ℕ → ℕ → SubjectRule
  rules n subject = rule_at x n

  abbrev holders : List (Option Holder)
  holders = (known r s h).claims.holders

  abbrev older : List Message
  older = messages_of r s h

  module _ (k : Choices) (stands : EachStands x r s h k) where
    -- ---- a frame that is no claim

    module _ (m : ℕ) (f : BusFrame) (other : is_claim f ≡ false) where
      note : (n : ℕ) → n < quantities_count → MessageStandsChosen (quantity_told n) (rules n) 1 r s h m f (only k n)
      note n within = messages_stand_chosen (quantity_told n) (rules n) 1 r s h m f (only k n) are other (tell_within n) (stands.each n within)

      pub nothing_noted : done r s h (frame m f) ≡ None → EachStands x r s (frame m f ∷ h) k
      nothing_noted completes = record {
        count = stands.count;
        each = λ n within.
            subst (λ o. ChoicesStandFor (quantity_told n) (rules n) 1 r s (frame m f ∷ h) (message_noted (quantity_told n) (rules n) (only k n) o)) completes
            (note n within).stands;
      }

      module _ (y : Message) (completes : done r s h (frame m f) ≡ Some y) where
        abbrev values : List (Option Value)
        values = all_in (told y.pgn y.payload)

        abbrev after : Choices
        after = noted_all y.source y.moment x y.name k values

        pub values_noted : EachStands x r s (frame m f ∷ h) (noted_all y.source y.moment x y.name k (all_in (told y.pgn y.payload)))
        values_noted = record {
          count = all_count y.source y.moment x y.name k values ∙ stands.count;
          each = λ n within.
              let count = stands.count in
              subst (λ notes. ChoicesStandFor (quantity_told n) (rules n) 1 r s (frame m f ∷ h) notes)
              (sym (noted_is y.source y.moment x y.name n values k (in_order y) (omega (arith, within, count))))
              (subst (λ o. ChoicesStandFor (quantity_told n) (rules n) 1 r s (frame m f ∷ h) (message_noted (quantity_told n) (rules n) (only k n) o)) completes
              (note n within).stands);
        }

        one_chosen : (v : Value) → told_among (number_in v) (values_of y) ≡ Some (told_by v)
            → is_chosen_in y.source y.moment x y.name k v ≡ is_selected x holders older y v
        one_chosen v tells =
            let n = number_in v in
            let fact : is_message_chosen (quantity_told n) (rules n) (only k n) (Some y) ≡ is_some_that (subjects.is_selected (quantity_told n) (rules n) holders older) (Some y) =
            subst (λ o. is_message_chosen (quantity_told n) (rules n) (only k n) o ≡ is_some_that (subjects.is_selected (quantity_told n) (rules n) holders older) o) completes
            (note n (number_within v.quantity)).chosen in
            chosen_only y.source y.moment k (rank_in y.source y.moment x y.name v) v
            ∙ sym (ap (is_told_chosen (rules n) (only k n) y.source y.moment y.name) tells)
            ∙ fact
            ∙ ap (is_some_that (subjects.is_chosen (quantity_told n) (rules n) holders older y)) tells

        each_chosen : (list : List (Option Value)) → AllByRecursion (λ o. IfSome o (λ v. told_among (number_in v) (values_of y) ≡ Some (told_by v))) list
            → AreChosen y.source y.moment x y.name (is_selected x holders older y) k list
        each_chosen [] tell = tt
        each_chosen (None ∷ list) tell = (tt, each_chosen list tell.1)
        each_chosen (Some v ∷ list) tell = (one_chosen v tell.0, each_chosen list tell.1)

        pub values_chosen : AreChosen y.source y.moment x y.name (is_selected x holders older y) k (all_in (told y.pgn y.payload))
        values_chosen = each_chosen values (told_of_each values (in_order y))

    -- ---- a claim

    module _ (m : ℕ) (f : BusFrame) (claims : is_claim f ≡ true) where
      abbrev step : ClaimStep
      step = (claim (known r s h).claims (claim_by (length h) m f)).step

      forgets : (n : ℕ) → n < quantities_count → ClaimStandsChosen (quantity_told n) (rules n) 1 r s h m f (only k n)
      forgets n within = claims_stand_chosen (quantity_told n) (rules n) 1 r s h m f (only k n) are claims (stands.each n within)

      pub claims_say_nothing : done r s h (frame m f) ≡ None
      claims_say_nothing = (forgets 0 (omega arith)).silent

      forgotten_each : (n : ℕ) → claimed step (only k n) ≡ only (claimed step k) n
      forgotten_each n =
          ap (without_address (address_won step)) (without_only (address_left step) k n) ∙ without_only (address_won step) (without_address (address_left step) k) n

      pub claims_noted : EachStands x r s (frame m f ∷ h) (claimed (claim (known r s h).claims (claim_by (length h) m f)).step k)
      claims_noted = record {
        count = without_count (address_won step) (without_address (address_left step) k) ∙ without_count (address_left step) k ∙ stands.count;
        each = λ n within.
            subst (λ notes. ChoicesStandFor (quantity_told n) (rules n) 1 r s (frame m f ∷ h) notes) (forgotten_each n) (forgets n within).stands;
      }

    -- ---- every other entry

    others : (n : ℕ) → n < quantities_count → OthersStandChosen (quantity_told n) (rules n) 1 r s h (only k n)
    others n within = other_entries_stand_chosen (quantity_told n) (rules n) 1 r s h (only k n) (stands.each n within)

    pub datagrams_noted : (m : ℕ) (bytes : List ℕ) → EachStands x r s (datagram m bytes ∷ h) k
    datagrams_noted m bytes = record { count = stands.count; each = λ n within. (others n within).datagrams m bytes }

    pub ticks_noted : (m : ℕ) → EachStands x r s (tick m ∷ h) k
    ticks_noted m = record { count = stands.count; each = λ n within. (others n within).ticks m }

    pub commands_noted : (m source address : ℕ) → EachStands x r s (command m source address ∷ h) k
    commands_noted m source address = record { count = stands.count; each = λ n within. (others n within).commands m source address }
