-- Of two lists that make none together each is none; who emits nothing tells nothing and posts nothing; and what is said of emits is said of the
-- place that has them.
use Rattle.std.proofs.Common.{◌≡◌, ℕ, List, [], ◌∷◌, ◌++◌, Option, None, refl, sym, ap, ◌∙◌}
use Rattle.gate_events.specs.Emit.{Emit}
use Rattle.gate_outbox.specs.Output.{Emitted, emits_of, no_emits}
use Rattle.history.specs.Entries.{Entry, History}
use Rattle.history.specs.Settings.{Settings}
use Rattle.plain_out.specs.Pace.{Utterance, uttered}
use Rattle.plain_out.proofs.Sayings.{uttered_append}
use Rattle.plain_out.specs.declared.stream.Stream.{Stream}
use Rattle.parts.specs.Lanes.{given_output, given_utterances, streamed_output, streamed_utterances}
use Rattle.parts.specs.PartSteps.{Says, Utters}
use Rattle.parts.specs.Utterances.{streamless, utters_of}
use Rattle.parts.specs.declared.streamed.Streamed.{Streamed}
use Rattle.parts.specs.declared.given.Given.{Given}
use Rattle.parts.specs.declared.part.Step.{Step}

pub first_empty : {X : Type 0} (xs ys : List X) → xs ++ ys ≡ [] → xs ≡ []
first_empty [] ys is = refl
first_empty (x ∷ xs) ys is = cc

pub second_empty : {X : Type 0} (xs ys : List X) → xs ++ ys ≡ [] → ys ≡ []
second_empty [] ys is = is
second_empty (x ∷ xs) ys is = cc

pub none_emitted : (x : Emitted) → emits_of x ≡ [] → x ≡ no_emits
none_emitted x is =
    ap (λ es. let y : Emitted = record { told = es; posted = x.posted } in y) (first_empty x.told x.posted is)
    ∙ ap (λ es. let y : Emitted = record { told = []; posted = es } in y) (second_empty x.told x.posted is)

pub placed : {R K : Type 0} {room : ℕ} (stands : R → Settings → ℕ → History → K → Type 0) (gives : R → Settings → ℕ → History → Entry → List Emit)
    (t : Step) (before after : K) (given : Given room) → Says stands gives emits_of t before after given.emits → Says stands gives given_output t before after given
placed stands gives t before after given is r c s h step stood = let x = is r c s h step stood in record { stood = x.stood; emits = x.emits }

pub placed_in_stream : {R K : Type 0} {room : ℕ} (stands : R → Settings → ℕ → History → K → Type 0) (gives : R → Settings → ℕ → History → Entry → List Emit)
    (t : Step) (before after : K) (given : Streamed room) → Says stands gives emits_of t before after given.emits → Says stands gives streamed_output t before after given
placed_in_stream stands gives t before after given is r c s h step stood = let x = is r c s h step stood in record { stood = x.stood; emits = x.emits }

-- ---- what is said of a place, whose datagram has this stream or none

pub said_streamless : {R K : Type 0} {room : ℕ} (stands : R → Settings → ℕ → History → K → Type 0) (gives : R → Settings → ℕ → History → Entry → List Emit)
    (t : Step) (before : K) (given : Given room) → Utters stands gives (streamless gives) given_output given_utterances t before given
said_streamless stands gives t before given r c s h step stood is = ap (uttered None) is

pub said_in_stream : {R K : Type 0} {room : ℕ} (stream : Option Stream) (stands : R → Settings → ℕ → History → K → Type 0)
    (gives : R → Settings → ℕ → History → Entry → List Emit) (t : Step) (before : K) (given : Streamed room) → given.stream ≡ stream
    → Utters stands gives (utters_of stream gives) streamed_output streamed_utterances t before given
said_in_stream stream stands gives t before given same r c s h step stood is =
    ap (λ (x : Option Stream). uttered x (streamed_output given)) same ∙ ap (uttered stream) is

-- of three behind each other, none of which has a stream
pub said_of_three : (a b d : List Emit) → uttered None a ++ (uttered None b ++ uttered None d) ≡ uttered None (a ++ (b ++ d))
said_of_three a b d =
    ap (λ (us : List Utterance). uttered None a ++ us) (sym (uttered_append None b d)) ∙ sym (uttered_append None a (b ++ d))
