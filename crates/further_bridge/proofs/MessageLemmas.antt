-- What is noted and said of a message, by what is kept, is what the definition over all that came says.
use Rattle.std.proofs.Common.{◌≡◌, ℕ, ◌+◌, ◌%◌, Bool, true, false, ◌&&◌, List, [], ◌∷◌, ◌++◌, length, Option, Some, None, option_map, if◌then◌else◌, refl, sym, ap, subst, ◌∙◌, append-nil, arith}
use Rattle.std.proofs.Math.Nat.{mod-add-mod}
use Rattle.std.specs.Prelude.{◌<◌, ◌≤◌, IfSome, filter, nat_lt}
use Rattle.std.proofs.lemmas.Bool.{lt-ltb}
use Rattle.report_rules.specs.Rules as rules
use Rattle.gate_events.specs.Emit.{Emit, net}
use Rattle.tag_block.specs.Tag.{most_count}
use Rattle.plain_out.specs.Pace.{Utterance, uttered}
use Rattle.datagram450.proofs.Counts.{counted_modulo}
use Rattle.claim_table.specs.Claims.{places}
use Rattle.quantities.specs.Saying.{sentence_of}
use Rattle.quantities.specs.Told.{AreInOrder, entries, entries_of, first_of, told, told_by, value_at}
use Rattle.quantities.specs.declared.value.Told.{Told}
use Rattle.quantities.specs.declared.value.Told.TheVariants as says
use Rattle.quantities.specs.declared.value.Value.{Value}
use Rattle.source_choice.specs.Choices.{Choices}
use Rattle.history.specs.Emits.{of_source}
use Rattle.history.specs.Messages.{Message}
use Rattle.gate_model.specs.Said.{complete_of}
use Rattle.bus_listener.specs.Kinds.{is_told}
use Rattle.bus_listener.specs.Noting.{has_place}
use Rattle.further_bridge.specs.declared.said.Said.{Said}
use Rattle.further_bridge.specs.FurtherOut.{all_in, has_voice, magnetic_in, message_breaks, number_in, said_gives, said_utters, short_gives, that_are_there, value_datagram, values_of}
use Rattle.further_bridge.specs.FurtherRule.{FurtherRule, talker_at}
use Rattle.further_bridge.specs.Kept.{FurtherKept, FurtherStep, ValueStep, as_it_was, counted, given_by, is_water_said, message_step, said_of, streams_of, told_step, told_streams, uttered_by, value_in, value_step, value_stream, values_step}
use Rattle.further_bridge.proofs.Notes.{AreChosen, chosen_after, is_chosen_in, noted_all, noted_value}

-- ---- the datagram of a value is the same by the count as by the number of lines

one_count : (x : FurtherRule) (sfi : List ℕ) (n : ℕ) (v : Value) → said_gives x sfi (n % most_count) (v ∷ []) ≡ said_gives x sfi n (v ∷ [])
unfolding value_datagram
one_count x sfi n v =
    ap (λ bytes. net x.group bytes ∷ []) (counted_modulo sfi n (sentence_of x.twin (talker_at x (number_in v)) v))

-- ---- a message has three values, each of which is there or not

abbrev HasThree : Told → Type 0
HasThree (says.Values values) = values ≡ value_in values 0 ∷ value_in values 1 ∷ value_in values 2 ∷ []
HasThree says.Outside = Unit {0}
HasThree says.Short = Unit {0}

by_entry : {X : Type 0} (tells : Option X → Told) → HasThree (tells None) → ((x : X) → HasThree (tells (Some x))) → (o : Option X) → HasThree (tells o)
by_entry tells none some None = none
by_entry tells none some (Some x) = some x

three_or_short : (b : Bool) (u v w : Option Value) → HasThree (if b then says.Short else says.Values (u ∷ v ∷ w ∷ []))
three_or_short true u v w = tt
three_or_short false u v w = refl

has_three : (pgn : ℕ) (payload : List ℕ) → HasThree (told pgn payload)
has_three pgn payload =
    let group = entries_of entries pgn in
    by_entry (λ o. told_by o group payload) tt
    (λ first. three_or_short (nat_lt (length payload) first.least) (value_at group payload 0) (value_at group payload 1) (value_at group payload 2)) (first_of group)

-- a report isn't said
short_unsaid : (source pgn : ℕ) (told : Bool) → uttered None ((if told then of_source rules.short_message source pgn ∷ [] else []) ++ []) ++ [] ≡ []
short_unsaid source pgn true = refl
short_unsaid source pgn false = refl

-- ---- values of a message that is complete, by what is kept

module _ (k : FurtherKept) (d : Said) (chosen : Value → Bool) where
  abbrev with_ : Choices → ℕ → FurtherKept
  with_ choices lines = record k { choices = choices; lines = lines }

  abbrev all_noted : Choices → List (Option Value) → Choices
  all_noted choices values = noted_all d.source d.moment k.rule d.name.0 choices values

  abbrev is_first : Choices → Value → Bool
  is_first choices v = is_chosen_in d.source d.moment k.rule d.name.0 choices v

  abbrev with_noted : Choices → Value → Choices
  with_noted choices v = noted_value d.source d.moment k.rule d.name.0 choices v

  abbrev speaks : Value → Bool
  speaks v = has_voice (is_water_said k.water d.moment) v

  abbrev is_said : Value → Bool
  is_said v = chosen v && speaks v

  abbrev all_said : List (Option Value) → List Value
  all_said values = filter is_said (that_are_there values)

  -- one after another, and what is said with its stream
  record AllSteps : Type 0 where
    after : FurtherKept
    posted : List Emit
    said : List Utterance

  abbrev all_steps : FurtherKept → List (Option Value) → AllSteps
  all_steps at [] = record { after = at; posted = []; said = [] }
  all_steps at (o ∷ values) =
      let y = value_step at d o in
      record {
        after = (all_steps y.after values).after;
        posted = y.posted ++ (all_steps y.after values).posted;
        said = uttered (value_stream d.magnetic o) y.posted ++ (all_steps y.after values).said;
      }

  record AreTaken (values : List (Option Value)) (choices : Choices) (lines : ℕ) (y : AllSteps) : Type 0 where
    after : y.after ≡ with_ (all_noted choices values) ((lines + length (all_said values)) % most_count)
    posted : y.posted ≡ said_gives k.rule k.sfi lines (all_said values)
    said : y.said ≡ said_utters k.rule d.magnetic k.sfi lines (all_said values)

  abbrev then_all : Option Value → ValueStep → List (Option Value) → AllSteps
  then_all o y values = record {
    after = (all_steps y.after values).after;
    posted = y.posted ++ (all_steps y.after values).posted;
    said = uttered (value_stream d.magnetic o) y.posted ++ (all_steps y.after values).said;
  }

  by_test : (choices : Choices) (n : ℕ) (v : Value) (b : Bool) → (is_first choices v && speaks v) ≡ b
      → value_step (with_ choices n) d (Some v)
      ≡ (if b then record { after = counted (with_ (with_noted choices v) n); posted = said_gives k.rule k.sfi n (v ∷ []) }
      else record { after = with_ (with_noted choices v) n; posted = [] })
  by_test choices n v b is =
      ap (λ (t : Bool). if t then record { after = counted (with_ (with_noted choices v) n); posted = said_gives k.rule k.sfi n (v ∷ []) }
      else record { after = with_ (with_noted choices v) n; posted = [] }) is

  taken : (values : List (Option Value)) (choices : Choices) (lines n : ℕ) → n ≡ lines % most_count → AreInOrder values
      → AreChosen d.source d.moment k.rule d.name.0 chosen choices values → AreTaken values choices lines (all_steps (with_ choices n) values)
  taken [] choices lines n is order are =
      let none : lines + 0 ≡ lines = omega arith in
      record { after = ap (with_ choices) (is ∙ ap (λ m. m % most_count) (sym none)); posted = refl; said = refl }
  taken (None ∷ values) choices lines n is order are = let rest = taken values choices lines n is order.1 are.1 in record { after = rest.after; posted = rest.posted; said = rest.said }
  taken (Some v ∷ values) choices lines n is order are =
      by (is_said v) refl (taken values (with_noted choices v) (lines + 1)) (taken values (with_noted choices v) lines n is order.1 later)
    where
      later : AreChosen d.source d.moment k.rule d.name.0 chosen (with_noted choices v) values
      later = chosen_after d.source d.moment k.rule d.name.0 chosen v choices values order.0 are.1

      test : (b : Bool) → is_said v ≡ b → (is_first choices v && speaks v) ≡ b
      test b said = ap (λ t. t && speaks v) are.0 ∙ said

      by : (b : Bool) → is_said v ≡ b
          → ((m : ℕ) → m ≡ (lines + 1) % most_count → AreInOrder values → AreChosen d.source d.moment k.rule d.name.0 chosen (with_noted choices v) values
          → AreTaken values (with_noted choices v) (lines + 1) (all_steps (with_ (with_noted choices v) m) values))
          → AreTaken values (with_noted choices v) lines (all_steps (with_ (with_noted choices v) n) values)
          → AreTaken (Some v ∷ values) choices lines (all_steps (with_ choices n) (Some v ∷ values))
      by true said more same =
          let next = more ((n + 1) % most_count) (ap (λ m. (m + 1) % most_count) is ∙ mod-add-mod lines most_count 1) order.1 later in
          let all : all_said (Some v ∷ values) ≡ v ∷ all_said values = ap (λ b. if b then v ∷ all_said values else all_said values) said in
          let sum : lines + 1 + length (all_said values) ≡ lines + length (v ∷ all_said values) = omega arith in
          let step = by_test choices n v true (test true said) in
          record {
            after =
                ap (λ (y : ValueStep). (then_all (Some v) y values).after) step
                ∙ next.after
                ∙ ap (λ m. with_ (all_noted choices (Some v ∷ values)) (m % most_count)) (sum ∙ ap (λ (vs : List Value). lines + length vs) (sym all));
            posted =
                ap (λ (y : ValueStep). (then_all (Some v) y values).posted) step
                ∙ ap (λ rest. said_gives k.rule k.sfi n (v ∷ []) ++ rest) next.posted
                ∙ ap (λ m. said_gives k.rule k.sfi m (v ∷ []) ++ said_gives k.rule k.sfi (lines + 1) (all_said values)) is
                ∙ ap (λ first. first ++ said_gives k.rule k.sfi (lines + 1) (all_said values)) (one_count k.rule k.sfi lines v)
                ∙ ap (λ vs. said_gives k.rule k.sfi lines vs) (sym all);
            said =
                let stream = value_stream d.magnetic (Some v) in
                let rest = said_utters k.rule d.magnetic k.sfi (lines + 1) (all_said values) in
                ap (λ (y : ValueStep). (then_all (Some v) y values).said) step
                ∙ ap (λ more. uttered stream (said_gives k.rule k.sfi n (v ∷ [])) ++ more) next.said
                ∙ ap (λ m. uttered stream (said_gives k.rule k.sfi m (v ∷ [])) ++ rest) is
                ∙ ap (λ first. uttered stream first ++ rest) (one_count k.rule k.sfi lines v)
                ∙ ap (λ vs. said_utters k.rule d.magnetic k.sfi lines vs) (sym all);
          }
      by false said more same =
          let all : all_said (Some v ∷ values) ≡ all_said values = ap (λ b. if b then v ∷ all_said values else all_said values) said in
          let step = by_test choices n v false (test false said) in
          record {
            after =
                ap (λ (y : ValueStep). (then_all (Some v) y values).after) step
                ∙ same.after
                ∙ ap (λ (vs : List Value). with_ (all_noted choices (Some v ∷ values)) ((lines + length vs) % most_count)) (sym all);
            posted =
                ap (λ (y : ValueStep). (then_all (Some v) y values).posted) step ∙ same.posted ∙ ap (λ vs. said_gives k.rule k.sfi lines vs) (sym all);
            said =
                ap (λ (y : ValueStep). (then_all (Some v) y values).said) step ∙ same.said
                ∙ ap (λ vs. said_utters k.rule d.magnetic k.sfi lines vs) (sym all);
          }

  -- ---- all that a message says

  record IsToldTaken (lines : ℕ) (t : Told) (y : FurtherStep) : Type 0 where
    after : y.after ≡ with_ (all_noted k.choices (all_in t)) ((lines + length (all_said (all_in t))) % most_count)
    emits : given_by y ≡ short_gives d.source d.pgn t ++ said_gives k.rule k.sfi lines (all_said (all_in t))
    said : uttered_by (told_streams d.magnetic t) y ≡ said_utters k.rule d.magnetic k.sfi lines (all_said (all_in t))

  no_lines : (lines : ℕ) → k.lines ≡ lines % most_count → k ≡ with_ k.choices ((lines + 0) % most_count)
  no_lines lines is =
      let none : lines + 0 ≡ lines = omega arith in
      ap (with_ k.choices) (is ∙ ap (λ m. m % most_count) (sym none))

  by_told : (lines : ℕ) → k.lines ≡ lines % most_count → (t : Told) → HasThree t → AreInOrder (all_in t)
      → AreChosen d.source d.moment k.rule d.name.0 chosen k.choices (all_in t) → IsToldTaken lines t (told_step k d t)
  by_told lines is (says.Values values) three order are =
      let all = taken values k.choices lines k.lines is order are in
      let third = (values_step k d values).third in
      record {
        after = ap (λ (vs : List (Option Value)). (all_steps k vs).after) (sym three) ∙ all.after;
        emits =
            ap (λ (last : List Emit). (values_step k d values).emits.posted ++ ((values_step k d values).second ++ last)) (sym (append-nil third))
            ∙ ap (λ (vs : List (Option Value)). (all_steps k vs).posted) (sym three)
            ∙ all.posted;
        said =
            let stream = λ (place : ℕ). value_stream d.magnetic (value_in values place) in
            let last = uttered (stream 2) third in
            ap (λ more. uttered (stream 0) (values_step k d values).emits.posted ++ (uttered (stream 1) (values_step k d values).second ++ more)) (sym (append-nil last))
            ∙ ap (λ (vs : List (Option Value)). (all_steps k vs).said) (sym three)
            ∙ all.said;
      }
  by_told lines is says.Outside three order are = record { after = no_lines lines is; emits = refl; said = refl }
  by_told lines is says.Short three order are = record { after = no_lines lines is; emits = append-nil (short_gives d.source d.pgn says.Short ++ []); said = short_unsaid d.source d.pgn (is_told d.pgn) }

-- ---- a message, or none

module _ (k : FurtherKept) (chosen : Message → Value → Bool) where
  abbrev pub choices_after : Option Message → Choices
  choices_after None = k.choices
  choices_after (Some d) = noted_all d.source d.moment k.rule d.name k.choices (all_in (told d.pgn d.payload))

  abbrev pub said_of_message : Option Message → List Value
  said_of_message None = []
  said_of_message (Some d) = filter (λ v. chosen d v && has_voice (is_water_said k.water d.moment) v) (values_of d)

  abbrev pub AreMessageChosen : Option Message → Type 0
  AreMessageChosen None = Unit {0}
  AreMessageChosen (Some d) = AreChosen d.source d.moment k.rule d.name (chosen d) k.choices (all_in (told d.pgn d.payload))

  pub record IsMessageTaken (lines : ℕ) (d : Option Message) (y : FurtherStep) : Type 0 where
    pub after : y.after ≡ record k { choices = choices_after d; lines = (lines + length (said_of_message d)) % most_count }
    pub emits : given_by y ≡ message_breaks d ++ said_gives k.rule k.sfi lines (said_of_message d)
    pub said : uttered_by (streams_of (option_map said_of (option_map complete_of d))) y ≡ said_utters k.rule (magnetic_in d) k.sfi lines (said_of_message d)

  pub message_taken : (lines : ℕ) → k.lines ≡ lines % most_count → (d : Option Message) → IfSome d (λ d. d.source < places)
      → IfSome d (λ d. AreInOrder (all_in (told d.pgn d.payload))) → AreMessageChosen d
      → IsMessageTaken lines d (message_step k (option_map said_of (option_map complete_of d)))
  message_taken lines is None within order are =
      let none : lines + 0 ≡ lines = omega arith in
      record { after = ap (λ n. record k { lines = n }) (is ∙ ap (λ m. m % most_count) (sym none)); emits = refl; said = refl }
  message_taken lines is (Some d) within order are =
      let h = said_of (complete_of d) in
      let taken = by_told k h (chosen d) lines is (told d.pgn d.payload) (has_three d.pgn d.payload) order are in
      subst (λ b. IsMessageTaken lines (Some d) (if b then told_step k h (told d.pgn d.payload) else as_it_was k))
      (sym (lt-ltb d.source places within)) (record { after = taken.after; emits = taken.emits; said = taken.said })

-- ---- what is told of it finds room

pub message_room : (k : FurtherKept) (d : Option Said) → length (message_step k d).emits.told ≤ 1
message_room k None = omega arith
message_room k (Some d) = by (has_place d.source) d.told
  where
    short : (b : Bool) → length (if b then of_source rules.short_message d.source d.pgn ∷ [] else []) ≤ 1
    short true = omega arith
    short false = omega arith

    by : (b : Bool) (t : Told) → length (if b then told_step k d t else as_it_was k).emits.told ≤ 1
    by false t = omega arith
    by true (says.Values values) = omega arith
    by true says.Outside = omega arith
    by true says.Short = short (is_told d.pgn)
