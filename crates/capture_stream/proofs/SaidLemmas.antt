-- What a line gives by what it reads as, and what was sent of it.
use Rattle.std.proofs.Common.{◌≡◌, ℕ, ◌<◌, List, [], ◌∷◌, length, Result, Ok, Err, refl, sym, subst, arith}
use Rattle.capture_text.specs.declared.line_rule.LineRule.{LineRule}
use Rattle.capture_text.specs.declared.line_rule.LineRule.TheVariants.{Long}
use Rattle.capture_text.specs.Capture.{longest_line}
use Rattle.gate_events.specs.Event.{Seen, frame}
use Rattle.n2k_id.specs.Frame.{bus_frame}
use Rattle.n2k_id.specs.declared.frame.Frame.{Frame}
use Rattle.capture_text.specs.Reading.{read}
use Rattle.capture_text.proofs.Lines.{too_long}
use Rattle.std.specs.Prelude.{Option}
use Rattle.capture_stream.specs.Answering.{LineGives, Sent}
use Rattle.capture_stream.specs.LineReader.{IsUsual}

-- ---- what a line gives

pub gives_empty : {A : Type 0} (Gives : A → ℕ → Result Seen LineRule → List ℕ → A → Type 0) (before after : A) (number : ℕ) (line text : List ℕ)
    → length line ≡ 0 → text ≡ [] → after ≡ before → LineGives Gives before number line text after
unfolding LineGives
gives_empty Gives before after number [] text none is same = (is, same)
gives_empty Gives before after number (b ∷ bytes) text none is same = absurd (omega arith)

pub gives_line : {A : Type 0} (Gives : A → ℕ → Result Seen LineRule → List ℕ → A → Type 0) (before after : A) (number : ℕ) (line text : List ℕ)
    → (length line ≡ 0 → ⊥) → Gives before number (read line) text after → LineGives Gives before number line text after
unfolding LineGives
gives_line Gives before after number [] text some is = absurd (some refl)
gives_line Gives before after number (b ∷ bytes) text some is = is

pub gives_long : {A : Type 0} (Gives : A → ℕ → Result Seen LineRule → List ℕ → A → Type 0) (before after : A) (number : ℕ) (line text : List ℕ)
    → longest_line < length line → Gives before number (Err Long) text after → LineGives Gives before number line text after
unfolding LineGives
gives_long Gives before after number [] text long is = absurd (omega arith)
gives_long Gives before after number (b ∷ bytes) text long is =
    subst (λ (said : Result Seen LineRule). Gives before number said text after) (sym (too_long (b ∷ bytes) long)) is

-- what was sent is also what this says
pub sent_as : {A E : Type 0} (Gives More : List ℕ → A → Type 0) (told told' : Option (List ℕ)) (waiting waiting' : List ℕ) (after : A) (result : Result (Unit {0}) E)
    → ((text : List ℕ) (kept : A) → Gives text kept → More text kept) → Sent Gives told told' waiting waiting' after result → Sent More told told' waiting waiting' after result
sent_as Gives More told told' waiting waiting' after (Ok done) more s = (s.0, more s.0 after s.1, s.2)
sent_as Gives More told told' waiting waiting' after (Err e) more s = (s.0, s.1, more s.0 s.1 s.2, s.3, s.4)

-- what a line gives that reads as a frame
pub usual_gives : {A : Type 0} (Gives : A → ℕ → Result Seen LineRule → List ℕ → A → Type 0) (before after : A) (number moment : ℕ) (f : Frame) (line text : List ℕ)
    → IsUsual moment f line → Gives before number (Ok (frame moment (bus_frame f))) text after → LineGives Gives before number line text after
usual_gives Gives before after number moment f line text is given =
    gives_line Gives before after number line text (λ none. omega (arith, none, is.some)) (subst (λ (said : Result Seen LineRule). Gives before number said text after) (sym is.reads) given)
