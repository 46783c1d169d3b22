-- The plain answer to a fast frame: that of each assembler, and what the frames that are open of its key say.
use Rattle.std.proofs.Common.{◌≡◌, ℕ, ◌≤◌, Bool, true, false, ◌&&◌, not, List, [], ◌∷◌, length, refl, sym, ap, subst, ◌∙◌, is_some, IsSomeAnd}
use Rattle.std.specs.Prelude.{Option, Some, None, option_map, if◌then◌else◌}
use Rattle.std.specs.List.{AllByRecursion}
use Rattle.std.specs.Cmp.{IsTotalOrder}
use Rattle.std.specs.declared.cmp.Ordering.{Ordering}
use Rattle.report_rules.specs.Rules as rules
use Rattle.gate_events.specs.declared.emit.Detail.TheVariants as detail
use Rattle.n2k_id.specs.declared.identifier_parts.Parts.{Parts}
use Rattle.slot_views.specs.Runs.{open_at}
use Rattle.slot_views.specs.RunLaws.{finished}
use Rattle.slot_views.specs.declared.answers.View.{View}
use Rattle.slot_views.specs.Slots.{Entry, SlotMap, entry_at, is_held, is_full, is_complete}
use Rattle.slot_views.specs.Answers.{Shows}
use Rattle.fast_packet.specs.declared.key.FastKey.{FastKey}
use Rattle.fast_packet.specs.declared.verdict.Verdict.{Verdict}
use Rattle.fast_packet.specs.declared.verdict.Verdict.TheVariants.{Short, Opens, Orphan, Again, OutOfOrder, Next}
use Rattle.fast_packet.specs.declared.answers.FastFed.{FastFed}
use Rattle.fast_packet.specs.declared.answers.FastOutcome.{FastOutcome}
use Rattle.fast_packet.specs.declared.answers.FastOutcome.TheVariants.{Held, Complete, Repeat, Refused}
use Rattle.fast_packet.specs.declared.answers.FastRefusal.{FastRefusal}
use Rattle.fast_packet.specs.declared.answers.FastRefusal.TheVariants as refusal
use Rattle.fast_packet.specs.FastRuns.{is_opener, is_no_later, FastPiece, fast_rules, payload}
use Rattle.fast_packet.specs.Assembly.{verdict, opening, extended}
use Rattle.fast_packet.specs.Answers.{OpensGives, NextGives, FeedGivesBy, FeedGives}
use Rattle.fast_packet.specs.Keys.{refused, Carries, OutcomeIs}
use Rattle.fast_packet.specs.RunAssemblies.{assembly_at}
use Rattle.fast_packet.proofs.Keys.{steps_with_runs}
use Rattle.history.specs.Messages.{fast_carried}
use Rattle.history.specs.Emits.{breaks, broken_of}
use Rattle.gate_model.specs.FastPackets.{FastAnswer, whole_with, answer_by, fast_answer, refusal_in, payload_in, answer_of, restarted_reports, carried_by}
use Rattle.gate_model.specs.FastLaws.{FastAnswersArePlain}

-- ---- every answer of the assembler is the plain one

abbrev made : Bool → Option FastRefusal → Option (List ℕ) → FastAnswer
made restarted refused payload = record { restarted = restarted; refused = refused; payload = payload }

same_answer : (a b : FastAnswer) → a.restarted ≡ b.restarted → a.refused ≡ b.refused → a.payload ≡ b.payload → a ≡ b
same_answer a b e f g =
    ap (λ (x : Bool). made x a.refused a.payload) e
    ∙ ap (λ (x : Option FastRefusal). made b.restarted x a.payload) f
    ∙ ap (λ (x : Option (List ℕ)). made b.restarted b.refused x) g

module _ (cmp : FastKey → FastKey → Ordering) (s : SlotMap FastKey) (k : FastKey) (bytes : List ℕ) (moment : ℕ) where
  abbrev fed_with : Bool → FastOutcome → FastFed
  fed_with restarted outcome = record { restarted = restarted; outcome = outcome }

  opens_so : (restarted : Bool) (outcome : FastOutcome) → restarted ≡ is_held cmp s k → OpensGives cmp s k (opening bytes moment) outcome
      → answer_of (fed_with restarted outcome) ≡ answer_by cmp s k bytes moment Opens
  opens_so restarted Held was (room, more) = same_answer _ _ was (rw room refl) (rw (room, more) refl)
  opens_so restarted (Complete view) was (room, whole, shows) = same_answer _ _ was (rw room refl) (rw (room, whole) (ap (λ (x : List ℕ). Some x) shows.bytes))
  opens_so restarted Repeat was gives = absurd gives
  opens_so restarted (Refused reason) was (full, is) = same_answer _ _ was (rw full (ap (λ (x : FastRefusal). Some x) is)) (rw full refl)

  next_held : (end : ℕ) (o : Option Entry) → IsSomeAnd o (λ e. is_complete (extended end bytes moment e) ≡ false) → None ≡ whole_with end bytes moment o
  next_held end None some = absurd some
  next_held end (Some e) some = rw some refl

  next_whole : (end : ℕ) (view : View) (o : Option Entry)
      → IsSomeAnd o (λ e. (is_complete (extended end bytes moment e) ≡ true) × Shows view (extended end bytes moment e))
      → Some view.bytes.now ≡ whole_with end bytes moment o
  next_whole end view None some = absurd some
  next_whole end view (Some e) (whole, shows) = rw whole (ap (λ (x : List ℕ). Some x) shows.bytes)

  next_so : (end : ℕ) (restarted : Bool) (outcome : FastOutcome) → restarted ≡ false → NextGives cmp s k (λ e. extended end bytes moment e) outcome
      → answer_of (fed_with restarted outcome) ≡ answer_by cmp s k bytes moment (Next end)
  next_so end restarted Held was some = same_answer _ _ was refl (next_held end (entry_at cmp s k) some)
  next_so end restarted (Complete view) was some = same_answer _ _ was refl (next_whole end view (entry_at cmp s k) some)
  next_so end restarted Repeat was gives = absurd gives
  next_so end restarted (Refused reason) was gives = absurd gives

  by_verdict : (v : Verdict) (fed : FastFed) → FeedGivesBy cmp s k bytes moment v fed → answer_of fed ≡ answer_by cmp s k bytes moment v
  by_verdict Short fed (was, is) = same_answer _ _ was (ap refusal_in is) (ap payload_in is)
  by_verdict Opens fed (was, gives) = opens_so fed.restarted fed.outcome was gives
  by_verdict Orphan fed (was, is) = same_answer _ _ was (ap refusal_in is) (ap payload_in is)
  by_verdict Again fed (was, is) = same_answer _ _ was (ap refusal_in is) (ap payload_in is)
  by_verdict OutOfOrder fed (was, is) = same_answer _ _ was (ap refusal_in is) (ap payload_in is)
  by_verdict (Next end) fed (was, gives) = next_so end fed.restarted fed.outcome was gives

  -- ---- and there is such an answer

  abbrev lends : Entry → View
  lends e = record { bytes = record { ref_ptr = (0, 0); now = e.bytes }; mark = e.mark }

  opens_some : (full : Bool) → is_full cmp s k ≡ full → (whole : Bool) → is_complete (opening bytes moment) ≡ whole
      → (out : FastOutcome) × OpensGives cmp s k (opening bytes moment) out
  opens_some true ef whole ew = (Refused refusal.Full, (ef, refl))
  opens_some false ef true ew = (Complete (lends (opening bytes moment)), (ef, ew, record { bytes = refl; mark = refl }))
  opens_some false ef false ew = (Held, (ef, ew))

  next_some : (end : ℕ) (e : Entry) → entry_at cmp s k ≡ Some e → (whole : Bool) → is_complete (extended end bytes moment e) ≡ whole
      → (out : FastOutcome) × NextGives cmp s k (λ e. extended end bytes moment e) out
  next_some end e there true ew = (
    Complete (lends (extended end bytes moment e)),
    subst (λ (o : Option Entry). IsSomeAnd o (λ e'. (is_complete (extended end bytes moment e') ≡ true) × Shows (lends (extended end bytes moment e)) (extended end bytes moment e'))) (sym there)
        (ew, record { bytes = refl; mark = refl }),
  )
  next_some end e there false ew =
      (Held, subst (λ (o : Option Entry). IsSomeAnd o (λ e'. is_complete (extended end bytes moment e') ≡ false)) (sym there) ew)

  no_next : (end : ℕ) (a b : Bool) → (if a then Opens else if b then Short else Orphan) ≡ Next end → ⊥
  no_next end true b e = cc
  no_next end false true e = cc
  no_next end false false e = cc

  some_by : (o : Option Entry) → entry_at cmp s k ≡ o → (v : Verdict) → verdict o bytes ≡ v → (fed : FastFed) × FeedGivesBy cmp s k bytes moment v fed
  some_by o there Short told = (fed_with false (Refused refusal.Length), (refl, refl))
  some_by o there Opens told =
      let out = opens_some (is_full cmp s k) refl (is_complete (opening bytes moment)) refl in (fed_with (is_held cmp s k) out.0, (refl, out.1))
  some_by o there Orphan told = (fed_with false (Refused refusal.Orphan), (refl, refl))
  some_by o there Again told = (fed_with false Repeat, (refl, refl))
  some_by o there OutOfOrder told = (fed_with false (Refused refusal.Order), (refl, refl))
  some_by None there (Next end) told = absurd (no_next end (is_opener bytes) (is_no_later bytes) told)
  some_by (Some e) there (Next end) told =
      let out = next_some end e there (is_complete (extended end bytes moment e)) refl in (fed_with false out.0, (refl, out.1))

  pub some_answer : (fed : FastFed) × FeedGives cmp s k bytes moment fed
  some_answer = some_by (entry_at cmp s k) refl (verdict (entry_at cmp s k) bytes) refl

pub fast_answers_are_plain : FastAnswersArePlain
fast_answers_are_plain cmp s k bytes moment fed gives = by_verdict cmp s k bytes moment (verdict (entry_at cmp s k) bytes) fed gives

-- ---- it says what the open frames say

-- the answer to a frame x, where these frames are open of its key
pub record Says (a : FastAnswer) (q : Option (List FastPiece)) (x : FastPiece) (done : Option (List FastPiece)) : Type 0 where
  pub restarted : a.restarted ≡ (is_opener x.bytes && is_some q)
  pub refused : a.refused ≡ refused q x
  pub payload : a.payload ≡ option_map payload done

module _ (q : Option (List FastPiece)) (x : FastPiece) where
  carried_so : (bytes : List ℕ) (run : Option (List FastPiece)) → IsSomeAnd run (Carries bytes) → Some bytes ≡ option_map payload run
  carried_so bytes None some = absurd some
  carried_so bytes (Some []) some = absurd some
  carried_so bytes (Some (y ∷ ys)) (same, long) = ap (λ (b : List ℕ). Some b) same

  says_so : (run : Option (List FastPiece)) (restarted : Bool) (out : FastOutcome) → restarted ≡ (is_opener x.bytes && is_some q) → OutcomeIs q x run out
      → Says (answer_of (record { restarted = restarted; outcome = out })) q x run
  says_so run restarted Held was (free, again, none) = record { restarted = was; refused = sym free; payload = sym (ap (option_map payload) none) }
  says_so run restarted (Complete view) was (free, carries) = record { restarted = was; refused = sym free; payload = carried_so view.bytes.now run carries }
  says_so run restarted Repeat was (free, again, none) = record { restarted = was; refused = sym free; payload = sym (ap (option_map payload) none) }
  says_so run restarted (Refused reason) was (why, none) = record { restarted = was; refused = sym why; payload = sym (ap (option_map payload) none) }

pub says : {cmp : FastKey → FastKey → Ordering} → IsTotalOrder cmp → (s : SlotMap FastKey) (k : FastKey) (h : List FastPiece) (x : FastPiece)
    → AllByRecursion (λ x. length x.bytes ≤ 8) (x ∷ h)
    → entry_at cmp s k ≡ assembly_at (open_at fast_rules h x.moment) → x.admitted ≡ not (is_full cmp s k)
    → Says (fast_answer cmp s k x.bytes x.moment) (open_at fast_rules h x.moment) x (finished fast_rules (open_at fast_rules h x.moment) x)
says {cmp} o s k h x valid found admitted =
    let one = some_answer cmp s k x.bytes x.moment in
    let answer = (steps_with_runs o).answer s k h x one.0 valid found admitted one.1 in
    subst (λ (a : FastAnswer). Says a (open_at fast_rules h x.moment) x (finished fast_rules (open_at fast_rules h x.moment) x))
    (fast_answers_are_plain cmp s k x.bytes x.moment one.0 one.1)
    (says_so (open_at fast_rules h x.moment) x (finished fast_rules (open_at fast_rules h x.moment) x) one.0.restarted one.0.outcome answer.0 answer.1)

-- ---- what is reported

pub restart_said : (p : Parts) (b : Bool) → broken_of (breaks b rules.restarted (detail.Source p.source p.pgn) ∷ []) ≡ restarted_reports p b
restart_said p true = refl
restart_said p false = refl

pub carried_is : (pgn : ℕ) (a : FastAnswer) (done : Option (List FastPiece)) → a.payload ≡ option_map payload done → carried_by pgn a ≡ fast_carried pgn done
carried_is pgn a None e = rw e refl
carried_is pgn a (Some run) e = rw e refl
