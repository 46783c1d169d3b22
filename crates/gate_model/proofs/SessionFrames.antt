-- One frame of a session does to what is kept what the history says.
use Rattle.std.proofs.Common.{◌≡◌, ℕ, Bool, true, false, ◌&&◌, not, List, ◌∷◌, length, refl, sym, ap, subst, ◌∙◌, ◌==◌, is_some}
use Rattle.std.specs.Prelude.{Option, Some, None, if◌then◌else◌}
use Rattle.std.specs.BTreeMap.{is_at}
use Rattle.std.specs.declared.cmp.Ordering.{Ordering}
use Rattle.std.proofs.lemmas.Bool.{false≢true}
use Rattle.slot_views.specs.Runs.{kept_at}
use Rattle.slot_views.specs.RunLaws.{fed, finished}
use Rattle.slot_views.proofs.RunSteps.{one_step_of}
use Rattle.n2k_id.specs.declared.identifier_parts.Parts.{Parts}
use Rattle.n2k_id.specs.Frame.{BusFrame}
use Rattle.n2k_id.specs.Identifier.{parts_of, is_to}
use Rattle.claim_table.specs.declared.answer.Holder.{Holder}
use Rattle.claim_table.specs.Claims.{holder_at, is_ready}
use Rattle.claim_table.specs.Laws.{IsSound}
use Rattle.slot_views.specs.Slots.{Entry, SlotMap, Changes, entry_at, is_full}
use Rattle.slot_views.proofs.Tied.{same_itself}
use Rattle.iso_transport.specs.declared.key.IsoKey.{IsoKey}
use Rattle.iso_transport.specs.declared.verdict.Verdict.{Verdict}
use Rattle.iso_transport.specs.declared.verdict.Verdict.TheVariants as what
use Rattle.iso_transport.specs.declared.answers.IsoRefusal.TheVariants as refusal
use Rattle.iso_transport.specs.Audience.{is_data, key_of}
use Rattle.iso_transport.specs.Verdicts.{bears}
use Rattle.iso_transport.specs.Verdicts as verdicts
use Rattle.iso_transport.specs.IsoRuns.{IsoPiece, iso_rules}
use Rattle.iso_transport.specs.Assembly.{verdict_of, fed_after, is_crowded}
use Rattle.iso_transport.specs.Answers.{reply_by}
use Rattle.iso_transport.specs.RunVerdicts.{run_verdict, message_of, verdict_on, completed_by, assembly_at}
use Rattle.iso_transport.specs.Replies.{reply_to}
use Rattle.iso_transport.specs.Joining.{piece_of}
use Rattle.iso_transport.specs.Laws.{IsTrace}
use Rattle.iso_transport.proofs.Lawful.{lawful}
use Rattle.iso_transport.proofs.Following.{follows_runs}
use Rattle.iso_transport.proofs.Joining.{feeds_its_key}
use Rattle.iso_transport.proofs.Keys.{steps_with_runs}
use Rattle.history.specs.Entries.{History, IsHistory, frame}
use Rattle.history.specs.Settings.{Receiver}
use Rattle.history.specs.Known.{Known, known, is_claim}
use Rattle.history.specs.Traces.{NotedFrame, iso_piece, iso_trace, is_transport, is_bearing}
use Rattle.history.specs.Opens.{iso_open, is_fast_admitted, is_iso_admitted, notes_of}
use Rattle.history.specs.Meanings.{Meaning, transport}
use Rattle.history.specs.Messages.{Carried, done, said_by, iso_carried}
use Rattle.history.specs.Emits.{replied}
use Rattle.history.specs.BusRules.{is_early, frame_breaks}
use Rattle.history.specs.FromBus.{frames_before, packets_before, frame_refused, answers_by}
use Rattle.history.specs.AddressLaws.{IsReceiver}
use Rattle.history.specs.KeyLaws.{concerns, the_note}
use Rattle.history.proofs.Addresses.{addresses_are_sound}
use Rattle.history.proofs.IsoCounts.{same_is}
use Rattle.history.proofs.Roomy.{key_is}
use Rattle.history.proofs.SessionSteps.{iso_steps, iso_completes}
use Rattle.gate_model.specs.Orders.{OrdersIso}
use Rattle.gate_model.specs.Sessions.{SessionAnswer, SessionStep, answer_of, answer_reports, carried_by, fed_step, early_step}
use Rattle.gate_model.specs.SessionLaws.{StandsFor, HoldsWhatIsOpen, IsSessionFrame, FramesStand, SessionFramesStand}
use Rattle.gate_model.proofs.SessionTraces.{notes_short, traced, bears_of}
use Rattle.gate_model.proofs.SessionTimes.{standing_holds}
use Rattle.gate_model.proofs.SessionOthers.{unconcerned}
use Rattle.gate_model.proofs.SessionFeeding.{fed_now}
use Rattle.gate_model.proofs.SessionMeanings.{SessionFacts, session_facts, early_idle, timely_bearing, concerns_its, concerns_none}
use Rattle.gate_model.proofs.SessionAnswers.{told_reports, early_reports, carried_is, frame_idle, no_reply}

-- ---- a frame of a session

first : {X : Type 0} (b : Bool) (y z : X) → b ≡ true → (if b then y else z) ≡ y
first true y z e = refl
first false y z e = cc

second : {X : Type 0} (b : Bool) (y z : X) → b ≡ false → (if b then y else z) ≡ z
second false y z e = refl
second true y z e = cc

both_hold : (b c : Bool) → b ≡ true → c ≡ true → (b && c) ≡ true
both_hold true true eb ec = refl
both_hold true false eb ec = cc
both_hold false c eb ec = cc

second_fails : (b c : Bool) → c ≡ false → (b && c) ≡ false
second_fails true c e = e
second_fails false c e = refl

holder_of : (o : Option Holder) → is_some o ≡ true → (x : Holder) × (o ≡ Some x)
holder_of None e = absurd (false≢true e)
holder_of (Some x) e = (x, refl)

not_claimed : (p : Parts) (b : Bool) → (p.pgn == 60928) ≡ false → ((p.pgn == 60928) && b) ≡ false
not_claimed p b e = rw e refl

module _ (cmp : IsoKey → IsoKey → Ordering) (orders : OrdersIso cmp) (r : Receiver) (s : ℕ) (h : History) (m : ℕ) (f : BusFrame) (slots : SlotMap IsoKey) (are : IsReceiver r)
    (is : IsHistory (frame m f ∷ h)) (session : IsSessionFrame r s h m f) (stands : StandsFor cmp r s h m slots) where
  abbrev k : Known
  k = known r s h

  abbrev notes : List NotedFrame
  notes = notes_of r s h

  abbrev p : Parts
  p = parts_of f.id

  abbrev n : NotedFrame
  n = the_note r s h m f

  abbrev x : IsoPiece
  x = iso_piece n

  abbrev key : IsoKey
  key = key_of p

  abbrev a : Bool
  a = key.addressed

  abbrev trace : List IsoPiece
  trace = iso_trace k a p.source notes

  abbrev q : Option (List IsoPiece)
  q = iso_open k notes key m

  abbrev ready : Bool
  ready = is_ready k.claims m

  facts : SessionFacts k.claims.own k.claims.holders p
  facts = session_facts r.kinds k.claims.own k.claims.holders p session

  sound : IsSound k.claims
  sound = (addresses_are_sound r s h are).sound

  other : is_claim f ≡ false
  other = not_claimed p _ facts.no_claim

  holder : (y : Holder) × (holder_at k.claims.holders p.source ≡ Some y)
  holder = holder_of (holder_at k.claims.holders p.source) facts.held

  ours : verdicts.concerns k.claims.own p ≡ true
  ours = both_hold (is_to k.claims.own p.destination) (is_transport p) facts.ours facts.transports

  -- ---- room

  holds : HoldsWhatIsOpen cmp k notes m slots
  holds = standing_holds cmp orders r s h m slots are stands

  room : n.admitted ≡ not (is_full cmp slots key)
  room =
      first (is_transport p) (is_iso_admitted r.iso_slots k notes key m) (is_fast_admitted r.kinds r.fast_slots k.claims.holders notes (record { source = p.source; pgn = p.pgn }) m) facts.transports
      ∙ (subst (λ (limit : ℕ). is_iso_admitted limit k notes key m ≡ not (is_full cmp slots key)) stands.limited (holds.counts.room key))

  piece_is : piece_of cmp slots p f.held m ≡ x
  piece_is = ap (λ (b : Bool). made b) (sym room)
    where
      made : Bool → IsoPiece
      made admitted = record { moment = m; packet = is_data p; bytes = f.held; admitted = admitted }

  unheld : (e c : Bool) → not (not e && c) ≡ false → e ≡ false
  unheld true c full = cc
  unheld false c full = refl

  closed : (o : Option (List IsoPiece)) → is_some o ≡ false → o ≡ None
  closed None e = refl
  closed (Some acc) e = cc

  alone : n.admitted ≡ false → q ≡ None
  alone none = closed q (sym (holds.holds.holds key) ∙ unheld (is_some (entry_at cmp slots key)) (is_crowded slots) (sym room ∙ none))

  -- ---- what it is to its session

  trace_is : IsTrace a trace
  trace_is = traced k a p.source notes (notes_short r s h is.2)

  told : verdict_of cmp slots k.claims.own p f.held ≡ run_verdict a q x
  told =
      (feeds_its_key cmp orders.order).verdict slots k.claims.own p f.held m ours
      ∙ (ap (λ (y : IsoPiece). verdict_on a (entry_at cmp slots key) y) piece_is
      ∙ (ap (λ (o : Option Entry). verdict_on a o x) (stands.entries key) ∙ (follows_runs a).run_verdict trace x trace_is))

  on_session : verdict_of cmp slots k.claims.own p f.held ≡ verdict_on a (assembly_at a q) x
  on_session =
      (feeds_its_key cmp orders.order).verdict slots k.claims.own p f.held m ours
      ∙ (ap (λ (y : IsoPiece). verdict_on a (entry_at cmp slots key) y) piece_is ∙ ap (λ (o : Option Entry). verdict_on a o x) (stands.entries key))

  abbrev answer : SessionAnswer
  answer = answer_of cmp slots k.claims.own p f.held m

  message_is : answer.message ≡ completed_by a (verdict_on a (assembly_at a q) x) x (assembly_at a q)
  message_is =
      ap (λ (v : Verdict). completed_by a v (piece_of cmp slots p f.held m) (entry_at cmp slots key)) on_session
      ∙ (ap (λ (y : IsoPiece). completed_by a (verdict_on a (assembly_at a q) x) y (entry_at cmp slots key)) piece_is
      ∙ ap (completed_by a (verdict_on a (assembly_at a q) x) x) (stands.entries key))

  -- what the history says that it completes
  completes : done r s h (frame m f) ≡ said_by (length h) m p.source (Some holder.0) (if concerns k.claims n key then iso_carried (finished (iso_rules a) q x) else None)
  completes = (iso_completes r s h m f holder.0 are facts.transports holder.1).completed

  module _ (bearing : bears a (is_data p) f.held ≡ true) (early : is_early a ready x ≡ false) where
    of_trace : IsTrace a (x ∷ trace)
    of_trace = (record { bearing = bearing; valid = is.0.1 }, trace_is)

    its : concerns k.claims n key ≡ true
    its = concerns_its k sound n a refl facts.held facts.ours (timely_bearing n a facts.transports early bearing)

    bearing_reply : answer.reply ≡ reply_to a q x
    bearing_reply = ap (reply_by a) on_session ∙ (follows_runs a).replies trace x of_trace alone

    bearing_message : answer.message ≡ message_of (finished (iso_rules a) q x)
    bearing_message = message_is ∙ ((follows_runs a).completed trace x of_trace ∙ ap message_of ((one_step_of (iso_rules a) (lawful a)).whole trace x))

    bearing_carried : carried_by answer.message ≡ (if concerns k.claims n key then iso_carried (finished (iso_rules a) q x) else None)
    bearing_carried = ap carried_by bearing_message ∙ (carried_is (finished (iso_rules a) q x) ∙ sym (first (concerns k.claims n key) (iso_carried (finished (iso_rules a) q x)) None its))

    changes : Changes cmp slots (fed_after cmp slots k.claims.own p f.held m) key (assembly_at a (fed (iso_rules a) q x))
    changes = (steps_with_runs orders.order).changes slots k.claims.own p trace x of_trace ours refl (stands.entries key) room stands.map

    -- the key's own session, and each other
    own_entry : (j : IsoKey) → key ≡ j → entry_at cmp (fed_after cmp slots k.claims.own p f.held m) j ≡ assembly_at j.addressed (iso_open (known r s (frame m f ∷ h)) (notes_of r s (frame m f ∷ h)) j m)
    own_entry j same =
        subst (λ (z : IsoKey). entry_at cmp (fed_after cmp slots k.claims.own p f.held m) z ≡ assembly_at z.addressed (iso_open (known r s (frame m f ∷ h)) (notes_of r s (frame m f ∷ h)) z m)) same
        (changes.here ∙ ap (assembly_at a) (sym ((iso_steps r s h m f are other).left key m ∙ (first (concerns k.claims n key) (kept_at (iso_rules a) (fed (iso_rules a) q x) m) q its ∙ fed_now a trace x))))

    other_entry : (j : IsoKey) → is_at (cmp key) j ≡ false → entry_at cmp (fed_after cmp slots k.claims.own p f.held m) j ≡ assembly_at j.addressed (iso_open (known r s (frame m f ∷ h)) (notes_of r s (frame m f ∷ h)) j m)
    other_entry j apart =
        changes.others j apart ∙ (stands.entries j ∙ ap (assembly_at j.addressed) (sym ((iso_steps r s h m f are other).left j m ∙ by (concerns k.claims n j) refl)))
      where
        by : (b : Bool) → concerns k.claims n j ≡ b → (if concerns k.claims n j then kept_at (iso_rules j.addressed) (fed (iso_rules j.addressed) (iso_open k notes j m) x) m else iso_open k notes j m) ≡ iso_open k notes j m
        by false e = second (concerns k.claims n j) (kept_at (iso_rules j.addressed) (fed (iso_rules j.addressed) (iso_open k notes j m) x) m) (iso_open k notes j m) e
        by true e =
            let same : key ≡ j = key_is k sound n j.source j.addressed e in
            let here : is_at (cmp key) j ≡ true = subst (λ (z : IsoKey). is_at (cmp key) z ≡ true) same (same_itself orders.order key) in
            absurd (false≢true (sym apart ∙ here))

    bearing_stands : StandsFor cmp r s (frame m f ∷ h) m (fed_after cmp slots k.claims.own p f.held m)
    bearing_stands = record {
      limited = changes.limit ∙ stands.limited;
      map = changes.map;
      entries = λ j. by j (is_at (cmp key) j) refl;
    }
      where
        by : (j : IsoKey) (b : Bool) → is_at (cmp key) j ≡ b → entry_at cmp (fed_after cmp slots k.claims.own p f.held m) j ≡ assembly_at j.addressed (iso_open (known r s (frame m f ∷ h)) (notes_of r s (frame m f ∷ h)) j m)
        by j true e = own_entry j (same_is key j (sym (orders.tells key j) ∙ e))
        by j false e = other_entry j e

  -- a frame that bears on no session
  module _ (idle : bears a (is_data p) f.held ≡ false) where
    not_bearing : is_bearing a n ≡ false
    not_bearing = by (is_bearing a n) refl
      where
        by : (b : Bool) → is_bearing a n ≡ b → b ≡ false
        by true e = sym (bears_of a n e) ∙ idle
        by false e = refl

    none : (j : IsoKey) → concerns k.claims n j ≡ false
    none = concerns_none k sound n not_bearing

    idle_so : (P : Verdict → Type 0) → P what.Ignored → P (what.Refused refusal.Size None) → P (verdict_on a (assembly_at a q) x)
    idle_so P nothing refused = frame_idle P nothing refused f.held a (not n.admitted) (assembly_at a q) (is_data p) idle

    idle_reply : answer.reply ≡ reply_to a q x
    idle_reply =
        ap (reply_by a) on_session ∙ (idle_so (λ v. reply_by a v ≡ None) refl refl ∙ sym (no_reply a q x idle))

    idle_carried : carried_by answer.message ≡ (if concerns k.claims n key then iso_carried (finished (iso_rules a) q x) else None)
    idle_carried =
        ap carried_by (message_is ∙ idle_so (λ v. completed_by a v x (assembly_at a q) ≡ None) refl refl)
        ∙ sym (second (concerns k.claims n key) (iso_carried (finished (iso_rules a) q x)) None (none key))

    idle_stands : StandsFor cmp r s (frame m f ∷ h) m (fed_after cmp slots k.claims.own p f.held m)
    idle_stands =
        subst (λ (t : SlotMap IsoKey). StandsFor cmp r s (frame m f ∷ h) m t)
        (sym ((feeds_its_key cmp orders.order).passed slots k.claims.own p f.held m (second_fails (verdicts.concerns k.claims.own p) (bears a (is_data p) f.held) idle)))
        (unconcerned cmp r s h m m f slots are other stands none)

  -- ---- what is reported

  -- by what the frame is
  refused_is : frame_refused r s h m f ≡ frame_breaks r.name transport n None q (done r s h (frame m f))
  refused_is =
      ap (λ (meaning : Meaning). frame_breaks r.name meaning n (frames_before meaning k.claims.holders notes m p) (packets_before meaning k notes m p) (done r s h (frame m f))) session

  held_source : (c : Option Carried) → said_by (length h) m p.source (Some holder.0) c ≡ said_by (length h) m p.source (holder_at k.claims.holders p.source) c
  held_source c = ap (λ (o : Option Holder). said_by (length h) m p.source o c) (sym holder.1)

  module _ (early : is_early a ready x ≡ false) (carries : carried_by answer.message ≡ (if concerns k.claims n key then iso_carried (finished (iso_rules a) q x) else None)) where
    done_is : done r s h (frame m f) ≡ said_by (length h) m p.source (Some holder.0) (carried_by answer.message)
    done_is = completes ∙ ap (said_by (length h) m p.source (Some holder.0)) (sym carries)

    fed_reports : frame_refused r s h m f ≡ answer_reports p answer (carried_by answer.message)
    fed_reports =
        told_reports r.name n q (done r s h (frame m f)) (verdict_of cmp slots k.claims.own p f.held) answer (frame_refused r s h m f) refused_is alone early told refl refl
        (length h) m holder.0 (carried_by answer.message) done_is

    fed_replies : answer.reply ≡ reply_to a q x → answers_by r s h m f transport ≡ replied k.claims.own p.source answer.reply
    fed_replies same = ap (replied k.claims.own p.source) (not_early (is_early a ready x) early ∙ sym same)
      where
        not_early : (b : Bool) → b ≡ false → (if b then None else reply_to a q x) ≡ reply_to a q x
        not_early false e = refl
        not_early true e = cc

  abbrev Stands : SessionStep → Type 0
  Stands step =
      StandsFor cmp r s (frame m f ∷ h) m step.slots
      × (frame_refused r s h m f ≡ step.reports)
      × (answers_by r s h m f transport ≡ replied k.claims.own p.source step.reply)
      × (done r s h (frame m f) ≡ said_by (length h) m p.source (holder_at k.claims.holders p.source) step.done)

  fed_by : (b : Bool) → bears a (is_data p) f.held ≡ b → is_early a ready x ≡ false → Stands (fed_step cmp slots k.claims.own p f.held m)
  fed_by true bearing early =
      let carries = bearing_carried bearing early in
      (bearing_stands bearing early, fed_reports early carries, fed_replies early carries (bearing_reply bearing early), done_is early carries ∙ held_source (carried_by answer.message))
  fed_by false idle early =
      let carries = idle_carried idle in
      (idle_stands idle, fed_reports early carries, fed_replies early carries (idle_reply idle), done_is early carries ∙ held_source (carried_by answer.message))

  -- ---- one that comes too early

  module _ (early : is_early a ready x ≡ true) where
    none_early : (j : IsoKey) → concerns k.claims n j ≡ false
    none_early = concerns_none k sound n (early_idle n a a early)

    nothing_done : done r s h (frame m f) ≡ None
    nothing_done =
        completes ∙ ap (said_by (length h) m p.source (Some holder.0)) (second (concerns k.claims n key) (iso_carried (finished (iso_rules a) q x)) None (none_early key))

    early_so : Stands (early_step cmp slots k.claims.own p f.held m)
    early_so = (
      unconcerned cmp r s h m m f slots are other stands none_early,
      early_reports r.name n q (done r s h (frame m f)) (frame_refused r s h m f) refused_is early nothing_done,
      ap (λ (b : Bool). replied k.claims.own p.source (if b then None else reply_to a q x)) early,
      nothing_done ∙ sym (ap (λ (o : Option Holder). said_by (length h) m p.source o None) holder.1),
    )

  stepped : (b : Bool) → is_early a ready x ≡ b → Stands (if b then early_step cmp slots k.claims.own p f.held m else fed_step cmp slots k.claims.own p f.held m)
  stepped true early = early_so early
  stepped false early = fed_by (bears a (is_data p) f.held) refl early

  pub frames_stand : FramesStand cmp r s h m f slots
  frames_stand =
      let step = stepped (is_early a ready x) refl in
      record { stands = step.0; room = room; alone = alone; reports = step.1; reply = step.2; completed = step.3 }

pub session_frames_stand : SessionFramesStand
session_frames_stand cmp orders r s h m f slots are is session stands = frames_stand cmp orders r s h m f slots are is session stands
