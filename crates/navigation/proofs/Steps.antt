-- An event that the gateway has taken: what is kept of plotters stands for the history with it, and all that the definition over that history says is given.
use Rattle.std.proofs.Common.{◌≡◌, ℕ, ◌+◌, ◌<◌, ◌≤◌, ◌==◌, ◌%◌, Bool, true, false, ◌&&◌, not, List, [], ◌∷◌, ◌++◌, length, Option, Some, None, option_map, refl, sym, ap, subst, ◌∙◌, append_assoc, arith}
use Rattle.std.specs.Prelude.{IfSome, nat_le, nat_lt, slice_set, if◌then◌else◌}
use Rattle.std.proofs.Math.Nat.{mod-add-mod}
use Rattle.std.proofs.lemmas.Bool.{eqb-true, lt-ltb}
use Rattle.report_rules.specs.Rules.{short_message}
use Rattle.tag_block.specs.Tag.{most_count}
use Rattle.claim_table.specs.Claims.{claim, places}
use Rattle.claim_table.specs.declared.answer.Holder.{Holder}
use Rattle.source_choice.specs.Choices.{Choices, subject_at}
use Rattle.source_choice.specs.SubjectRules.{SubjectRule, rank_of}
use Rattle.history.specs.AddressLaws.{AreSettings, IsReceiver}
use Rattle.history.specs.Emits.{of_source}
use Rattle.history.specs.ChoiceLaws.{HoldsNotes}
use Rattle.history.specs.Entries.{Entry, History, command, datagram, frame, now, tick}
use Rattle.history.specs.Known.{claim_by, is_claim, known}
use Rattle.history.specs.Messages.{Message, done, messages_of}
use Rattle.history.specs.Settings.{Receiver, Settings, is_some_that}
use Rattle.history.specs.Subjects.{is_chosen, is_selected}
use Rattle.history.proofs.FreshSteps.{AreBelow, below}
use Rattle.gate_core.proofs.Completed.{done_by}
use Rattle.gate_model.specs.Addresses.{Changed, changed_by, no_change}
use Rattle.gate_model.specs.AddressStands.{changes_in}
use Rattle.gate_model.specs.ChoiceStandsLaws.{TellWithin}
use Rattle.gate_model.specs.Choosing.{is_message_chosen, is_ranked_chosen, is_told_chosen, message_noted, told_after}
use Rattle.gate_model.proofs.ChoiceClaims.{silent}
use Rattle.gate_model.specs.Machine.{Machine}
use Rattle.gate_model.specs.Said.{complete_of}
use Rattle.gate_outbox.specs.Output.{emits_of}
use Rattle.bus_listener.specs.Heard.{heard_out}
use Rattle.bus_listener.specs.Kept.{Hearing}
use Rattle.bus_listener.specs.Noting.{forgotten_of, has_place}
use Rattle.bus_listener.specs.Promises.{IsHeard, IsListening}
use Rattle.bus_listener.proofs.CommandLemmas.{commands_leave_listening}
use Rattle.bus_listener.proofs.Completes.{heard_is_done}
use Rattle.bus_listener.proofs.KnownLemmas.{gateway_stands, is_receiver}
use Rattle.bus_listener.proofs.Noted.{IsNoted, command_noted, entry_noted}
use Rattle.counted_lines.specs.CountedLines.{posted_of}
use Rattle.counted_lines.proofs.Lines.{posted_modulo}
use Rattle.navigation.specs.declared.course.Course.{Course}
use Rattle.navigation.specs.declared.leg.Goal.{Goal}
use Rattle.navigation.specs.declared.leg.Leg.{Leg}
use Rattle.navigation.specs.declared.said.Said.{Said}
use Rattle.navigation.specs.declared.said.Says.{Says}
use Rattle.navigation.specs.declared.said.Says.TheVariants as says
use Rattle.navigation.specs.Courses.{error_said, is_named_again, that_hold}
use Rattle.navigation.specs.Kept as kept
use Rattle.navigation.specs.Kept.{NavKept, NavStep, as_it_was, course_at, courses_forgotten, error_with, given_up, hearing_by, is_alone, is_named, left_by, leg_kept, leg_step, message_step, said_by, said_of, said_step, says_in, step_by, texts_by, with_error, with_hearing, with_leg}
use Rattle.navigation.specs.Legs.{error_in, error_pgn, goal_in, is_error, is_leg, is_short_leg, kind_of, leg_in, leg_pgn, least_leg}
use Rattle.navigation.specs.NavKinds.{plotters_are_heard}
use Rattle.navigation.specs.NavOut.{error_beside, has_voice, holders_at, is_said, is_usable, leg_told, lines_said, message_breaks, nav_out, nav_receiver, texts_at, texts_in, texts_of, told_by}
use Rattle.navigation.specs.NavRule.{NavRule}
use Rattle.navigation.specs.Promises.{CommandsKeepNav, IsNavStep, IsNavTaken, StandsCourses, StandsNav, as_error, course_of}
use Rattle.navigation.specs.Sentences.{leg_texts}
use Rattle.navigation.proofs.Alone.{alone_is}
use Rattle.navigation.proofs.CourseLists.{error_is, names_again}
use Rattle.navigation.proofs.CourseSteps.{courses_after, courses_commanded, courses_stand, held_below}

tell_within : TellWithin leg_told 1
tell_within d = by (is_leg d)
  where
    by : (b : Bool) → IfSome (if b then Some (told_by (leg_in d.payload)) else None) (λ t. t.subject < 1)
    by true = omega arith
    by false = tt

-- ---- what a message says, by its PGN and its length

data IsSaying (d : Message) : Says → Type 0 where
  a_leg : is_leg d ≡ true → is_short_leg d ≡ false → IsSaying d (says.Leg (leg_in d.payload) (goal_in d.payload))
  an_error : is_leg d ≡ false → is_short_leg d ≡ false → is_error d ≡ true → IsSaying d (says.Error (error_in d.payload))
  a_short_one : is_leg d ≡ false → is_error d ≡ false → is_short_leg d ≡ true → IsSaying d says.Short
  nothing_said : is_leg d ≡ false → is_error d ≡ false → is_short_leg d ≡ false → IsSaying d says.Nothing

-- of two numbers the one is less, or the other is no greater
either_le : (a b : ℕ) → nat_le b a ≡ not (nat_lt a b)
either_le a b = grind arith

says_is : (d : Message) → IsSaying d (says_in d.pgn d.payload)
says_is d = by (d.pgn == leg_pgn) refl (nat_lt (length d.payload) least_leg) refl (d.pgn == error_pgn) refl (nat_lt (length d.payload) 6) refl
  where
    leg_is : (leg short : Bool) → (d.pgn == leg_pgn) ≡ leg → nat_lt (length d.payload) least_leg ≡ short → is_leg d ≡ (leg && not short)
    leg_is leg short l s = ap (λ b. b && nat_le least_leg (length d.payload)) l ∙ ap (λ b. leg && b) (either_le (length d.payload) least_leg ∙ ap not s)

    short_is : (leg short : Bool) → (d.pgn == leg_pgn) ≡ leg → nat_lt (length d.payload) least_leg ≡ short → is_short_leg d ≡ (leg && short)
    short_is leg short l s = ap (λ b. b && nat_lt (length d.payload) least_leg) l ∙ ap (λ b. leg && b) s

    error_is : (error few : Bool) → (d.pgn == error_pgn) ≡ error → nat_lt (length d.payload) 6 ≡ few → is_error d ≡ (error && not few)
    error_is error few e f = ap (λ b. b && nat_le 6 (length d.payload)) e ∙ ap (λ b. error && b) (either_le (length d.payload) 6 ∙ ap not f)

    by : (leg : Bool) → (d.pgn == leg_pgn) ≡ leg → (short : Bool) → nat_lt (length d.payload) least_leg ≡ short → (error : Bool) → (d.pgn == error_pgn) ≡ error
        → (few : Bool) → nat_lt (length d.payload) 6 ≡ few
        → IsSaying d (if leg then (if short then says.Short else says.Leg (leg_in d.payload) (goal_in d.payload))
        else if error then (if few then says.Nothing else says.Error (error_in d.payload)) else says.Nothing)
    by true l true s error e few f =
        a_short_one (leg_is true true l s) (ap (λ pgn. (pgn == error_pgn) && nat_le 6 (length d.payload)) (eqb-true d.pgn leg_pgn l)) (short_is true true l s)
    by true l false s error e few f = a_leg (leg_is true false l s) (short_is true false l s)
    by false l short s true e true f = nothing_said (leg_is false short l s) (error_is true true e f) (short_is false short l s)
    by false l short s true e false f = an_error (leg_is false short l s) (short_is false short l s) (error_is true false e f)
    by false l short s false e few f = nothing_said (leg_is false short l s) (error_is false few e f) (short_is false short l s)

-- ---- what is said

no_more : (n : ℕ) → n % most_count ≡ (n + 0) % most_count
no_more n = ap (λ k. k % most_count) (omega arith)

-- it tells nothing, and but for the count all stays
said_as : (k : NavKept) (texts : List (List ℕ)) → said_by k texts
    ≡ record { after = record k { lines = (said_by k texts).after.lines }; told = []; posted = posted_of k.rule.group k.sfi k.lines texts }
said_as k [] = refl
said_as k (text ∷ texts) = refl

pub posted_by : (k : NavKept) (texts : List (List ℕ)) → (said_by k texts).posted ≡ posted_of k.rule.group k.sfi k.lines texts
posted_by k texts = ap (λ (step : NavStep). step.posted) (said_as k texts)

lines_by : (k : NavKept) (texts : List (List ℕ)) (n : ℕ) → k.lines ≡ n % most_count → (said_by k texts).after.lines ≡ (n + length texts) % most_count
lines_by k [] n is = is ∙ no_more n
lines_by k (text ∷ texts) n is = ap (λ before. (before + length (text ∷ texts)) % most_count) is ∙ mod-add-mod n most_count (length (text ∷ texts))

-- ---- a message, while these hold the addresses

module _ (x : NavRule) (holders : List (Option Holder)) (older : List Message) (few : length x.taken.sources < 255) (k : NavKept) (rule_is : k.rule ≡ x) (d : Message) where
  abbrev rules : ℕ → SubjectRule
  rules subject = x.taken

  abbrev D : Said
  D = said_of (complete_of d)

  abbrev leg : Leg
  leg = leg_in d.payload

  abbrev goal : Goal
  goal = goal_in d.payload

  abbrev here : Course
  here = course_at k.courses d.source

  -- what is kept with it, by what it is; and its step, which is what is said then
  abbrev kept_as : (is_leg is_error : Bool) → NavKept
  kept_as is_leg is_error = record k {
    choices = told_after rules k.choices d.source d.moment d.name (if is_leg then Some (told_by leg) else None);
    courses = if is_leg then slice_set k.courses d.source (with_leg goal here) else if is_error then slice_set k.courses d.source (with_error (as_error d) here) else k.courses;
  }

  abbrev step_as : (is_leg is_error is_short : Bool) (texts : List (List ℕ)) → NavStep
  step_as is_leg is_error is_short texts = record (said_by (kept_as is_leg is_error) texts) { told = if is_short then of_source short_message d.source d.pgn ∷ [] else [] }

  abbrev step_of : NavStep
  step_of = step_as (is_leg d) (is_error d) (is_short_leg d) (texts_of x holders older d)

  -- what is no leg isn't said
  abbrev texts_as : Bool → List (List ℕ)
  texts_as is_leg =
      if is_some_that (is_chosen leg_told rules holders older d) (if is_leg then Some (told_by leg) else None) && has_voice x holders older d
      then leg_texts x.talker leg (error_said (error_beside x holders older d)) else []

  unsaid : is_leg d ≡ false → texts_of x holders older d ≡ []
  unsaid isnt = ap texts_as isnt

  not_a_leg : is_leg d ≡ false → (error short : Bool) → is_error d ≡ error → is_short_leg d ≡ short → step_as false error short [] ≡ step_of
  not_a_leg isnt error short is_e is_s =
      ap (λ b. step_as b error short []) (sym isnt)
      ∙ ap (λ b. step_as (is_leg d) b short []) (sym is_e)
      ∙ ap (λ b. step_as (is_leg d) (is_error d) b []) (sym is_s)
      ∙ ap (step_as (is_leg d) (is_error d) (is_short_leg d)) (sym (unsaid isnt))

  -- it is selected as in the history, and its course is the one by the messages that came
  module _ (chosen : is_message_chosen leg_told rules k.choices (Some d) ≡ is_selected leg_told rules holders older d)
      (course : here ≡ course_of (that_hold holders older d.source)) (all : AreBelow d.index older)
      (notes : HoldsNotes leg_told x.taken holders 0 older (subject_at k.choices 0)) where
    abbrev held : List Message
    held = that_hold holders older d.source

    held_all : AreBelow d.index held
    held_all = held_below d.index holders older d.source all

    chosen_is : is_leg d ≡ true → is_ranked_chosen k.choices d.source d.moment (rank_of x.taken d.name) (told_by leg) ≡ is_selected leg_told rules holders older d
    chosen_is is = ap (λ b. is_told_chosen rules k.choices d.source d.moment d.name (if b then Some (told_by leg) else None)) (sym is) ∙ chosen

    voice_is : kept.has_voice k D leg goal ≡ has_voice x holders older d
    voice_is =
        ap (λ b. if is_usable leg then b else is_alone k.choices d.source d.moment) (ap (is_named goal) course ∙ names_again d.index held held_all d.payload)
        ∙ ap (λ b. if is_usable leg then is_named_again held d.payload else b) (alone_is x holders older (subject_at k.choices 0) d notes few)

    error_as : error_with goal x.taken.timeout d.moment here ≡ error_said (error_beside x holders older d)
    error_as = ap (error_with goal x.taken.timeout d.moment) course ∙ error_is d.index held held_all d.payload x.taken.timeout d.moment

    leg_step_is : is_leg d ≡ true → is_short_leg d ≡ false → leg_step k D leg goal (rank_of k.rule.taken d.name) ≡ step_of
    leg_step_is is long =
        let rank = rank_of x.taken d.name in
        let T = texts_of x holders older d in
        ap (λ (rule : NavRule). said_by (leg_kept k D leg goal (rank_of rule.taken d.name))
        (if is_ranked_chosen k.choices d.source d.moment (rank_of rule.taken d.name) (told_by leg) && kept.has_voice k D leg goal
        then leg_texts rule.talker leg (error_with goal rule.taken.timeout d.moment here) else [])) rule_is
        ∙ ap (λ b. said_by (leg_kept k D leg goal rank) (if b && kept.has_voice k D leg goal then leg_texts x.talker leg (error_with goal x.taken.timeout d.moment here) else [])) (chosen_is is)
        ∙ ap (λ b. said_by (leg_kept k D leg goal rank) (if is_selected leg_told rules holders older d && b then leg_texts x.talker leg (error_with goal x.taken.timeout d.moment here) else [])) voice_is
        ∙ ap (λ error. said_by (leg_kept k D leg goal rank) (if is_said x holders older d then leg_texts x.talker leg error else [])) error_as
        ∙ quiet (leg_kept k D leg goal rank) T
        ∙ ap (λ b. step_as b (is_error d) false T) (sym is)
        ∙ ap (λ b. step_as (is_leg d) (is_error d) b T) (sym long)
      where
        quiet : (k : NavKept) (texts : List (List ℕ)) → said_by k texts ≡ record (said_by k texts) { told = [] }
        quiet k [] = refl
        quiet k (text ∷ texts) = refl

    by_saying : (says : Says) → IsSaying d says → said_step k D says ≡ step_of
    by_saying (says.Leg l g) (a_leg is long) = leg_step_is is long
    by_saying (says.Error e) (an_error isnt long is) = not_a_leg isnt true false is long
    by_saying says.Short (a_short_one isnt none is) = not_a_leg isnt false true none is
    by_saying says.Nothing (nothing_said isnt none long) = not_a_leg isnt false false none long

    pub message_taken : d.source < places → message_step k (Some D) ≡ step_of
    message_taken fits =
        ap (λ b. if b then said_step k D D.says else as_it_was k) (lt-ltb d.source places fits) ∙ by_saying D.says (says_is d)

-- ---- an entry

module _ (x : NavRule) (c : Settings) (s : ℕ) (h : History) (settings : AreSettings c) (few : length x.taken.sources < 255) (e : Entry) (before : NavKept)
    (it : StandsNav x c s h before) (heard : Hearing) (hears_it : IsHeard kind_of x.slots c s h e heard) (changed : Changed)
    (changes : changed ≡ changes_in (nav_receiver x c) s (e ∷ h)) where
  abbrev r : Receiver
  r = nav_receiver x c

  are : IsReceiver r
  are = is_receiver kind_of x.slots c plotters_are_heard settings

  abbrev left : NavKept
  left = given_up changed (record before { slots = heard.slots })

  abbrev IsNavNoted : Choices → Option Message → Type 0
  IsNavNoted k o = IsNoted leg_told (λ subject. x.taken) 1 r s h e k o

  abbrev Noted : Type 0
  Noted = (o : Option Message) × IsNavNoted left.choices o

  note : Noted
  note =
      subst (λ (to : Changed). (o : Option Message) × IsNavNoted (forgotten_of to before.choices) o) (sym changes)
      (entry_noted leg_told (λ subject. x.taken) 1 r s h tell_within are before.choices it.choices e)

  -- an entry that completes a message changes no address
  unchanged : (e : Entry) (d : Message) → done r s h e ≡ Some d → changes_in r s (e ∷ h) ≡ no_change
  unchanged (frame m f) d is = by (is_claim f) refl
    where
      by : (b : Bool) → is_claim f ≡ b → changes_in r s (frame m f ∷ h) ≡ no_change
      by true claims = let none : None ≡ Some d = sym (silent r s h m f are claims) ∙ is in cc
      by false other = ap (λ b. if b then changed_by (claim (known r s h).claims (claim_by (length h) m f)).step else no_change) other
  unchanged (datagram m bytes) d is = cc
  unchanged (tick m) d is = cc
  unchanged (command m source address) d is = cc

  abbrev kept_of : Option Message → NavKept
  kept_of o = record left { choices = message_noted leg_told (λ subject. x.taken) left.choices o; courses = courses_after o left.courses }

  abbrev target : Option Message → NavStep
  target o = record (said_by (kept_of o) (texts_in x c s h o)) { told = message_breaks o }

  taken_as : (o : Option Message) → IsNavNoted left.choices o → message_step left (option_map said_of (option_map complete_of o)) ≡ target o
  taken_as None noted = refl
  taken_as (Some d) noted =
      let done_so = done_by r s h e d noted.completes in
      let same : changed ≡ no_change = changes ∙ unchanged e d noted.completes in
      let choices : left.choices ≡ before.choices = ap (λ to. forgotten_of to before.choices) same in
      let courses : left.courses ≡ before.courses = ap (λ to. courses_forgotten to before.courses) same in
      message_taken x (holders_at x c s h) (messages_of r s h) few left it.rule d noted.chosen
      (ap (λ (cs : List Course). course_at cs d.source) courses ∙ it.courses.each d.source noted.fits)
      (subst (λ n. AreBelow n (messages_of r s h)) (sym done_so.index) (below r s h))
      (subst (λ (k : Choices). HoldsNotes leg_told x.taken (holders_at x c s h) 0 (messages_of r s h) (subject_at k 0)) (sym choices) (it.choices.notes 0 (omega arith)))
      noted.fits

  heard_as : (note : Noted) → message_step left (option_map said_of heard.message) ≡ target note.0
  heard_as note =
      ap (λ message. message_step left (option_map said_of message))
      (hears_it.message ∙ ap (option_map complete_of) (heard_is_done kind_of x.slots c s h plotters_are_heard settings e ∙ note.1.completes))
      ∙ taken_as note.0 note.1

  module _ (o : Option Message) (noted : IsNavNoted left.choices o) where
    texts_are : texts_in x c s h o ≡ texts_at x c s h e
    texts_are = ap (texts_in x c s h) (sym noted.completes)

    courses_are : StandsCourses x c s (e ∷ h) (kept_of o).courses
    courses_are =
        subst (λ (to : Changed). StandsCourses x c s (e ∷ h) (courses_after o (courses_forgotten to before.courses))) (sym changes)
        (courses_stand x c s h settings e before.courses it.courses o noted.completes noted.fits)

    stands_after : StandsNav x c s (e ∷ h) (target o).after
    stands_after = subst (StandsNav x c s (e ∷ h)) (sym (ap (λ (step : NavStep). step.after) (said_as (kept_of o) (texts_in x c s h o)))) (record {
      rule = it.rule;
      sfi = it.sfi;
      slots = hears_it.stands;
      choices = noted.stands;
      courses = courses_are;
      lines =
          lines_by (kept_of o) (texts_in x c s h o) (lines_said x c s h) it.lines
          ∙ ap (λ texts. (lines_said x c s h + length texts) % most_count) texts_are;
    })

    posted_is : (target o).posted ≡ posted_of x.group c.sfi (lines_said x c s h) (texts_at x c s h e)
    posted_is =
        posted_by (kept_of o) (texts_in x c s h o)
        ∙ ap (λ texts. posted_of before.rule.group before.sfi before.lines texts) texts_are
        ∙ ap (λ (rule : NavRule). posted_of rule.group before.sfi before.lines (texts_at x c s h e)) it.rule
        ∙ ap (λ sfi. posted_of x.group sfi before.lines (texts_at x c s h e)) it.sfi
        ∙ ap (λ lines. posted_of x.group c.sfi lines (texts_at x c s h e)) it.lines
        ∙ posted_modulo x.group c.sfi (lines_said x c s h) (texts_at x c s h e)

    emits_are : (heard.told ++ (target o).told) ++ (target o).posted ≡ nav_out x c s h e
    emits_are =
        append_assoc heard.told (message_breaks o) (target o).posted
        ∙ ap (λ told. told ++ (message_breaks o ++ (target o).posted)) hears_it.told
        ∙ ap (λ posted. heard_out kind_of x.slots c s h e ++ (message_breaks o ++ posted)) posted_is
        ∙ ap (λ d. heard_out kind_of x.slots c s h e ++ (message_breaks d ++ posted_of x.group c.sfi (lines_said x c s h) (texts_at x c s h e))) (sym noted.completes)

  abbrev IsTakenAs : NavStep → Type 0
  IsTakenAs step = IsNavTaken x c s h e step.after ((heard.told ++ step.told) ++ step.posted)

  pub entry_taken : IsTakenAs (message_step left (option_map said_of heard.message))
  entry_taken = subst IsTakenAs (sym (heard_as note)) (record { stands = stands_after note.0 note.1; emits = emits_are note.0 note.1 })

-- ---- an event that the gateway has taken

-- a message tells once at most
said_room : (k : NavKept) (o : Option Said) → length (message_step k o).told ≤ 1
said_room k None = omega arith
said_room k (Some d) = by (has_place d.source) d.says
  where
    told_none : (k : NavKept) (texts : List (List ℕ)) → length (said_by k texts).told ≤ 1
    told_none k [] = omega arith
    told_none k (text ∷ texts) = omega arith

    by : (b : Bool) (what : Says) → length (let step : NavStep = if b then said_step k d what else as_it_was k in step).told ≤ 1
    by true (says.Leg leg goal) = told_none (leg_kept k d leg goal (rank_of k.rule.taken d.name.0)) (texts_by k d (kept.is_said k d leg goal (rank_of k.rule.taken d.name.0)) leg goal)
    by true (says.Error distance) = omega arith
    by true says.Short = omega arith
    by true says.Nothing = omega arith
    by false what = omega arith

pub step_room : (g : Machine) (k : NavKept) (x : Hearing) → length (with_hearing g k x).told ≤ 1
step_room g k x = said_room (given_up g.addresses.changed (record k { slots = x.slots })) (option_map said_of x.message)

pub taken_step : (g : Machine) (e : Entry) (before : NavKept) → length before.rule.taken.sources < 255
    → IsListening kind_of g e before.slots (hearing_by g before e)
    → IsNavStep g e before (step_by g before e).after (emits_of (left_by g before e))
taken_step g e before few listening = λ x s h settings could taken it.
    let c = g.settings in
    entry_taken x c s h settings (subst (λ (rule : NavRule). length rule.taken.sources < 255) it.rule few) e before it (hearing_by g before e)
    (listening x.slots s h settings could taken it.slots) g.addresses.changed
    (gateway_stands kind_of x.slots c s (e ∷ h) g.addresses taken.addresses).changed

-- ---- a command

pub commands_keep_nav : CommandsKeepNav
commands_keep_nav x c s h source address k settings it = record {
  rule = it.rule;
  sfi = it.sfi;
  slots = commands_leave_listening kind_of x.slots c s h source address k.slots plotters_are_heard settings it.slots;
  choices = command_noted leg_told (λ subject. x.taken) 1 (nav_receiver x c) s h k.choices it.choices (now h) source address;
  courses = courses_commanded x c s h settings (now h) source address k.courses it.courses;
  lines = it.lines ∙ no_more (lines_said x c s h);
}
