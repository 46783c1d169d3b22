-- The gateway's answers as a part beside it, as one value: they are frames and reports, and say nothing on the network.
use Rattle.std.proofs.Common.{◌≡◌, ℕ, Bool, List, [], ◌∷◌, map, refl}
use Rattle.std.specs.Prelude.{Option, if◌then◌else◌, None}
use Rattle.n2k_id.specs.Frame.{BusFrame}
use Rattle.n2k_id.specs.Identifier.{parts_of}
use Rattle.n2k_id.specs.Pgns as pgns
use Rattle.report_rules.specs.Rules as rules
use Rattle.bus_identity.specs.Answers.{Kept, frames_from}
use Rattle.bus_identity.specs.Requests.{is_due}
use Rattle.gate_events.specs.Emit.{can}
use Rattle.history.specs.Emits.{of_source}
use Rattle.history.specs.Entries.{Entry, History, frame, datagram, tick, command}
use Rattle.history.specs.EntryLaws.{nets_in}
use Rattle.history.specs.Settings.{Settings}
use Rattle.history.proofs.EntrySteps.{if_none}
use Rattle.parts.specs.Utterances.{streamless, utters_datagrams}
use Rattle.parts.specs.Forms.{PartForm, place}
use Rattle.parts.specs.Voices.{silent}
use Rattle.bus_answers.specs.Answered.{answer_by, answers, own_after, ready_after, sent_before}
use Rattle.bus_answers.specs.AnsweringPart.{answering_asked, answering_gives, answering_stands, most_answered}
use Rattle.bus_answers.specs.declared.answering.Answering.{Answering}

no_frames : (fs : List BusFrame) → nets_in (map can fs) ≡ []
no_frames [] = refl
no_frames (f ∷ fs) = no_frames fs

no_answer : (k : Kept) (own : Option ℕ) (ready : Bool) (f : BusFrame) → nets_in (answer_by k own ready f) ≡ []
no_answer k own ready f =
    let sent = map can (frames_from k own f) in
    let refused = of_source rules.not_ready (parts_of f.id).source pgns.request ∷ [] in
    if_none (is_due own f) (if ready then sent else refused) [] (if_none ready sent refused (no_frames (frames_from k own f)) refl) refl

pub no_answers : (c : Settings) (s : ℕ) (information : List ℕ) (h : History) (e : Entry) → nets_in (answers c s information h e) ≡ []
no_answers c s information h (frame m f) =
    no_answer (sent_before c s information h) (own_after c s h (frame m f)) (ready_after c s h (frame m f)) f
no_answers c s information h (datagram m bytes) = refl
no_answers c s information h (tick m) = refl
no_answers c s information h (command m source address) = refl

abbrev pub answering : PartForm
answering = record {
  rule = List ℕ;
  asked = answering_asked;
  kept = Answering;
  places = place most_answered;
  stand = answering_stands;
  give = answering_gives;
  utter = streamless answering_gives;
  say = λ information c s h e. [];
  speaks = λ information c. Unit {0};
  commands = λ information c s h source address k are stands. stands;
  read = λ information c s h e speaks. silent (answers c s information h e) (no_answers c s information h e);
  understood = λ x typed valid. λ information is. tt;
  datagrams = utters_datagrams None answering_gives;
}
