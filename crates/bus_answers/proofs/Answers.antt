-- What is answered is what the definition over all that ever came says.
use Rattle.std.proofs.Common.{◌≡◌, ℕ, ◌+◌, ◌*◌, ◌≤◌, Bool, true, false, List, [], ◌∷◌, length, refl, sym, ap, subst, ◌∙◌, arith}
use Rattle.std.specs.Prelude.{◌%◌, ◌&&◌, ◌==◌, map, Option, Some, IfSome, if◌then◌else◌}
use Rattle.std.proofs.lemmas.Bool.{eqb-true}
use Rattle.std.proofs.lemmas.List.{append-nil, length-map}
use Rattle.n2k_id.specs.declared.frame.Frame.{Frame}
use Rattle.n2k_id.specs.Frame.{BusFrame, bus_frame}
use Rattle.gate_events.specs.declared.event.Event.TheVariants as event
use Rattle.claim_table.specs.Claims.{is_ready}
use Rattle.gate_events.specs.Emit.{Emit, can, report}
use Rattle.gate_events.specs.declared.emit.Report.{Report}
use Rattle.report_rules.specs.Rules as rules
use Rattle.history.specs.Emits.{of_source}
use Rattle.history.specs.Entries as entry
use Rattle.history.specs.Entries.{Entry, History}
use Rattle.history.specs.Settings.{receiver_of, Settings}
use Rattle.gate_model.specs.Machine.{Machine}
use Rattle.gate_model.proofs.AddressTells.{standing_tells_alike}
use Rattle.gate_outbox.specs.Output.{Emitted, Output, and_told, emits_of, no_emits, told_with}
use Rattle.gate_outbox.proofs.Telling.{told_fits}
use Rattle.parts.specs.Steps.{entry_of}
use Rattle.n2k_id.specs.declared.identifier_parts.Parts.{Parts}
use Rattle.n2k_id.specs.Identifier.{parts_of}
use Rattle.n2k_id.specs.Pgns as pgns
use Rattle.bus_identity.specs.declared.identity.Answered.{Answered}
use Rattle.bus_identity.specs.declared.identity.Answered.TheVariants.{Nothing, Sent, NotReady}
use Rattle.bus_identity.specs.Answers.{Kept, answer_frames, answered, answered_by, frames_from, kept_after}
use Rattle.bus_identity.specs.PgnLists.{product_information, pgn_lists}
use Rattle.n2k_id.specs.Pgns.{asked_of}
use Rattle.bus_identity.specs.Requests.{is_due}
use Rattle.bus_answers.specs.Answered.{answer_by, answered_before, own_after, ready_after, sent_before}
use Rattle.bus_answers.specs.AnsweringPart.{answering_gives, answering_stands}
use Rattle.bus_answers.specs.declared.answering.Answering.{Answering}
use Rattle.parts.specs.Promises.{IsTaken}
use Rattle.parts.specs.PartSteps.{IsSaid, Says, entry_at}
use Rattle.parts.specs.declared.part.Step.{Step}

-- ---- what is told

-- what is told where nothing was, and there is room
all_told : (room : ℕ) (es : List Emit) → length es ≤ room → emits_of (and_told room no_emits es) ≡ es
all_told room es few = append-nil (told_with room [] es) ∙ told_fits room [] es (omega (arith, few))

-- ---- what is counted

one_more : (n : ℕ) → (n + 1) % 8 ≡ (n % 8 + 1) % 8
one_more n = omega arith

two_more : (n : ℕ) → (2 * (n + 1)) % 8 ≡ ((2 * n) % 8 + 2) % 8
two_more n = omega arith

abbrev counts : List ℕ → ℕ → ℕ → Kept
counts information products lists = record { information = information; products = products; lists = lists }

counted_by : (due ready products lists : Bool) (n k : ℕ) (information : List ℕ) → (products ≡ true → lists ≡ false)
    → counts information ((if due && (ready && products) then n + 1 else n) % 8) ((2 * (if due && (ready && lists) then k + 1 else k)) % 8)
    ≡ (if due && ready
    then (if products then counts information ((n % 8 + 1) % 8) ((2 * k) % 8)
    else if lists then counts information (n % 8) (((2 * k) % 8 + 2) % 8)
    else counts information (n % 8) ((2 * k) % 8))
    else counts information (n % 8) ((2 * k) % 8))
counted_by false ready products lists n k information apart = refl
counted_by true false products lists n k information apart = refl
counted_by true true true true n k information apart = let never : true ≡ false = apart refl in absurd cc
counted_by true true true false n k information apart =
    ap (λ (x : ℕ). counts information x ((2 * k) % 8)) (one_more n)
counted_by true true false true n k information apart =
    ap (λ (x : ℕ). counts information (n % 8) x) (two_more k)
counted_by true true false false n k information apart = refl

other_list : (asked : ℕ) → (asked == product_information) ≡ true → (asked == pgn_lists) ≡ false
other_list asked is = subst (λ (x : ℕ). (x == pgn_lists) ≡ false) (sym (eqb-true asked product_information is)) refl

sent_then : (c : Settings) (s : ℕ) (information : List ℕ) (h : History) (m : ℕ) (f : BusFrame)
    → sent_before c s information (entry.frame m f ∷ h)
    ≡ kept_after (sent_before c s information h) (own_after c s h (entry.frame m f)) (ready_after c s h (entry.frame m f)) f
sent_then c s information h m f =
    counted_by (is_due (own_after c s h (entry.frame m f)) f) (ready_after c s h (entry.frame m f)) (asked_of f.held == product_information)
    (asked_of f.held == pgn_lists) (answered_before c s product_information h) (answered_before c s pgn_lists h) information (other_list (asked_of f.held))

-- ---- an entry that the gateway has taken

module _ (information : List ℕ) (c : Settings) (s : ℕ) (h : History) (g : Machine) (left : Output) (before after : Answering) (given : Emitted) where
  frame_answered : (m : ℕ) (f : BusFrame) → IsTaken c s h (entry.frame m f) g left → answering_stands information c s h before
      → after.identity ≡ kept_after before.identity g.addresses.claims.own (is_ready g.addresses.claims g.moment) f
      → emits_of given ≡ answer_by before.identity g.addresses.claims.own (is_ready g.addresses.claims g.moment) f
      → IsSaid answering_stands answering_gives emits_of information c s h (entry.frame m f) after given
  frame_answered m f taken stands kept is =
      let e : Entry = entry.frame m f in
      let standing = taken.stands in
      let tells = standing_tells_alike (receiver_of c) s (e ∷ h) g.addresses standing.addresses in
      let own : g.addresses.claims.own ≡ own_after c s h e = tells.own in
      let ready : is_ready g.addresses.claims g.moment ≡ ready_after c s h e =
      ap (is_ready g.addresses.claims) standing.moment ∙ tells.ready m in
      record {
        stood = kept ∙ ap (λ (k : Kept). kept_after k g.addresses.claims.own (is_ready g.addresses.claims g.moment) f) stands
            ∙ ap (λ (o : Option ℕ). kept_after (sent_before c s information h) o (is_ready g.addresses.claims g.moment) f) own
            ∙ ap (λ (r : Bool). kept_after (sent_before c s information h) (own_after c s h e) r f) ready
            ∙ sym (sent_then c s information h m f);
        emits = is ∙ ap (λ (k : Kept). answer_by k g.addresses.claims.own (is_ready g.addresses.claims g.moment) f) stands
            ∙ ap (λ (o : Option ℕ). answer_by (sent_before c s information h) o (is_ready g.addresses.claims g.moment) f) own
            ∙ ap (λ (r : Bool). answer_by (sent_before c s information h) (own_after c s h e) r f) ready;
      }

pub record IsFrameAnswered (room : ℕ) (own : Option ℕ) (ready : Bool) (f : BusFrame) (before after : Kept) (empty given : Emitted) : Type 0 where
  pub kept : after ≡ kept_after before own ready f
  pub told : given ≡ and_told room empty (answer_by before own ready f)
  pub few : length (answer_by before own ready f) ≤ room

-- a frame is answered where nothing was told before
pub event_answered : (room : ℕ) (t : Step) (m : ℕ) (f : Frame) (before after : Answering) (empty given : Emitted) → t.event.now ≡ event.Frame m f
    → empty ≡ no_emits → (let g = t.gateway.now in IsFrameAnswered room g.addresses.claims.own (is_ready g.addresses.claims g.moment) (bus_frame f)
    before.identity after.identity empty given)
    → Says answering_stands answering_gives emits_of t before after given
event_answered room t m f before after empty given is nothing answered information c s h step stands =
    let g = t.gateway.now in
    let es = answer_by before.identity g.addresses.claims.own (is_ready g.addresses.claims g.moment) (bus_frame f) in
    let here : entry_at t ≡ entry.frame m (bus_frame f) = ap entry_of is in
    subst (λ (e : Entry). IsSaid answering_stands answering_gives emits_of information c s h e after given) (sym here)
    (frame_answered information c s h g t.outbox.now before after given m (bus_frame f)
    (subst (λ (e : Entry). IsTaken c s h e g t.outbox.now) here step.taken) stands answered.kept
    (ap emits_of (answered.told ∙ ap (λ x. and_told room x es) nothing) ∙ all_told room es answered.few))

-- ---- a frame that the gateway has taken

-- what is told of a frame, by what became of it
abbrev pub told_by : Answered → List Emit → List Emit → List Emit
told_by Nothing frames refusal = []
told_by Sent frames refusal = frames
told_by NotReady frames refusal = refusal

answer_told : (due ready : Bool) (frames : List BusFrame) (refusal : List Emit)
    → (if due then (if ready then map can frames else refusal) else [])
    ≡ told_by (answered_by due ready) (map can (if due && ready then frames else [])) refusal
answer_told false ready frames refusal = refl
answer_told true true frames refusal = refl
answer_told true false frames refusal = refl

-- the report of a request that came before the gateway was ready
abbrev pub unready : BusFrame → List Emit
unready f = of_source rules.not_ready (parts_of f.id).source pgns.request ∷ []

-- it is answered as who the gateway is says, for the address and the readiness that the gateway has
pub frame_told : (room : ℕ) (own own' : Option ℕ) (ready ready' : Bool) (f : BusFrame) (before after : Kept) (empty given : Emitted)
    (frames : List BusFrame) (answer : Answered) → own ≡ own' → ready ≡ ready' → answer ≡ answered own ready f
    → frames ≡ answer_frames before own ready f → after ≡ kept_after before own ready f
    → given ≡ and_told room empty (told_by answer (map can frames) (unready f))
    → length (told_by answer (map can frames) (unready f)) ≤ room → IsFrameAnswered room own' ready' f before after empty given
frame_told room own own' ready ready' f before after empty given frames answer own_is ready_is is sent kept told few =
    let whole : told_by answer (map can frames) (unready f) ≡ answer_by before own ready f =
    ap (λ (a : Answered). told_by a (map can frames) (unready f)) is
    ∙ ap (λ (x : List BusFrame). told_by (answered own ready f) (map can x) (unready f)) sent
    ∙ sym (answer_told (is_due own f) ready (frames_from before own f) (unready f)) in
    subst (λ (r : Bool). IsFrameAnswered room own' r f before after empty given) ready_is
    (subst (λ (o : Option ℕ). IsFrameAnswered room o ready f before after empty given) own_is
    (record {
      kept = kept;
      told = told ∙ ap (λ (es : List Emit). and_told room empty es) whole;
      few = subst (λ (es : List Emit). length es ≤ room) whole few;
    }))

-- the report is told with the parts of the frame's identifier
pub unready_told : (id : ℕ) (held : List ℕ) (o : Option Parts) (p : Parts) (r : Report) → o ≡ Some p → IfSome o (λ q. q ≡ parts_of id)
    → report r ≡ of_source rules.not_ready p.source pgns.request → report r ∷ [] ≡ unready (record { id = id; held = held })
unready_told id held o p r is of told =
    let parts : p ≡ parts_of id = subst (λ (x : Option Parts). IfSome x (λ q. q ≡ parts_of id)) is of in
    ap (λ (e : Emit). e ∷ []) (told ∙ ap (λ (q : Parts). of_source rules.not_ready q.source pgns.request) parts)

-- as many are sent as there are frames
pub frames_fit : (room : ℕ) (seen frames : List Frame) → seen ≡ frames → length seen ≤ room → length (map can (map bus_frame frames)) ≤ room
frames_fit room seen frames same few =
    subst (λ (n : ℕ). n ≤ room) (ap length same ∙ sym (length-map (map bus_frame frames) (λ x. can x) ∙ length-map frames bus_frame)) few
