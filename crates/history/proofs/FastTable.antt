-- The rules of fast packets in the table are the assembler's refusals.
use Rattle.std.proofs.Common.{◌≡◌, Bool, true, false, ◌&&◌, ◌||◌, not, ◌==◌, List, [], ◌∷◌, ◌++◌, length, is_some, is_none, refl, sym, ap, ◌∙◌, arith}
use Rattle.std.specs.Prelude.{Option, Some, None}
use Rattle.std.proofs.lemmas.Bool.{and_parts, eqb-true, eqb-false, eq-eqb, ne_eqb, leb-true, lt-ltb, le-ltb, false≢true}
use Rattle.report_rules.specs.Rules as rules
use Rattle.gate_events.specs.declared.emit.Report.{Report}
use Rattle.gate_events.specs.declared.emit.Detail.{Detail}
use Rattle.gate_events.specs.declared.emit.Detail.TheVariants as detail
use Rattle.fast_packet.specs.declared.answers.FastRefusal.{FastRefusal}
use Rattle.fast_packet.specs.declared.answers.FastRefusal.TheVariants.{Full}
use Rattle.fast_packet.specs.FastRuns.{counter_of, is_opener, is_no_later, FastPiece, is_next, is_repeat, is_awaited}
use Rattle.fast_packet.specs.Keys.{refused}
use Rattle.fast_packet.proofs.Assemblies.{counter_zero}
use Rattle.fast_packet.proofs.Lawful.{repeat_counter}
use Rattle.history.specs.Emits.{Rule, breaks, broken_of}
use Rattle.history.specs.Traces.{fast_piece}
use Rattle.history.specs.BusRules.{is_later_frame, is_cut_off, is_wrong_length, is_out_of_order, message_rule}
use Rattle.history.specs.RuleLaws.{fast_refusal_breaks, FastRulesAreRefusals}

-- the rows of the table on fast packets, by their tests, and what stands behind them
abbrev rows : Detail → List Rule → Bool → Bool → Bool → Bool → Bool → List Report
rows who rest order orphan wrong restart full =
    broken_of (breaks order rules.fast_order who ∷ breaks orphan rules.fast_orphan who ∷ breaks wrong rules.fast_length who ∷ breaks restart rules.restarted who
    ∷ breaks full rules.slots_full who ∷ rest)

same_rows : (who : Detail) (rest : List Rule) (a b c d e a2 b2 c2 d2 e2 : Bool) → a ≡ a2 → b ≡ b2 → c ≡ c2 → d ≡ d2 → e ≡ e2
    → rows who rest a b c d e ≡ rows who rest a2 b2 c2 d2 e2
same_rows who rest a b c d e a2 b2 c2 d2 e2 ea eb ec ed ee = rw (ea, eb, ec, ed, ee) refl

module _ (x : FastPiece) where
  -- an opener has bytes, and the counter 0
  first_of : is_opener x.bytes ≡ true → counter_of x.bytes ≡ 0
  first_of opens = eqb-true (counter_of x.bytes) 0 (and_parts (counter_of x.bytes == 0) _ opens).0

  some_bytes : is_opener x.bytes ≡ true → (length x.bytes == 0) ≡ false
  some_bytes opens = grind (arith, and_parts, leb-true, ne_eqb)

  not_later : counter_of x.bytes ≡ 0 → is_later_frame x ≡ false
  not_later zero = le-ltb 0 (counter_of x.bytes) (omega (arith, zero))

  -- a later frame has bytes, and a counter above 0
  later_of : is_no_later x.bytes ≡ false → (is_later_frame x ≡ true) × ((length x.bytes == 0) ≡ false) × ((counter_of x.bytes == 0) ≡ false)
  later_of e = by (length x.bytes == 0) (counter_of x.bytes == 0) refl refl e
    where
      by : (a b : Bool) → (length x.bytes == 0) ≡ a → (counter_of x.bytes == 0) ≡ b → (a || b) ≡ false
          → (is_later_frame x ≡ true) × ((length x.bytes == 0) ≡ false) × ((counter_of x.bytes == 0) ≡ false)
      by true b ea eb e = cc
      by false true ea eb e = cc
      by false false ea eb e =
          let other = eqb-false (counter_of x.bytes) 0 eb in
          (lt-ltb 0 (counter_of x.bytes) (omega (arith, other)), ea, eb)

  -- a frame 0 is no awaited one
  not_cut_off : (frames : Option (List FastPiece)) → counter_of x.bytes ≡ 0 → is_cut_off frames x ≡ false
  not_cut_off None zero = refl
  not_cut_off (Some []) zero = refl
  not_cut_off (Some (y ∷ ys)) zero = let other : (counter_of x.bytes == length (y ∷ ys)) ≡ false = ne_eqb _ _ (λ e. omega arith) in rw other refl

  not_out_of_order : (frames : Option (List FastPiece)) → is_later_frame x ≡ false → is_out_of_order frames x ≡ false
  not_out_of_order frames first = grind arith

  -- the awaited one is no repeat, and the next one is awaited
  awaited_alone : (acc : List FastPiece) → is_awaited acc x ≡ true → is_repeat acc x ≡ false
  awaited_alone [] e = refl
  awaited_alone (y ∷ ys) e =
      let here = eqb-true (counter_of x.bytes) (length (y ∷ ys)) (and_parts (counter_of x.bytes == length (y ∷ ys)) _ e).0 in
      by (is_repeat (y ∷ ys) x) refl here
    where
      by : (b : Bool) → is_repeat (y ∷ ys) x ≡ b → counter_of x.bytes ≡ length (y ∷ ys) → is_repeat (y ∷ ys) x ≡ false
      by true again here = let counter = (repeat_counter y ys x again).0 in absurd (omega (arith, counter, here))
      by false other here = other

  next_awaited : (acc : List FastPiece) → is_next acc x ≡ true → is_awaited acc x ≡ true
  next_awaited acc e = grind (arith, false≢true, and_parts)

-- ---- by what the frame is

module _ (who : Detail) (rest : List Rule) (x : FastPiece) where
  abbrev Is : Option (List FastPiece) → Type 0
  Is frames =
      rows who rest (is_out_of_order frames x) (is_later_frame x && is_none frames) (is_wrong_length frames x) (is_opener x.bytes && is_some frames)
      (is_opener x.bytes && not x.admitted)
      ≡ broken_of (breaks (is_opener x.bytes && is_some frames) rules.restarted who ∷ []) ++ (fast_refusal_breaks who (refused frames x) ++ broken_of rest)

  opener : (frames : Option (List FastPiece)) (ad so : Bool) → is_opener x.bytes ≡ true → x.admitted ≡ ad → is_some frames ≡ so → Is frames
  opener frames ad so eo ea es =
      let zero = first_of x eo in
      let first = not_later x zero in
      let wrong : is_wrong_length frames x ≡ false = none_of (length x.bytes == 0) (counter_of x.bytes == 0) (is_opener x.bytes) (is_cut_off frames x) (some_bytes x eo) eo (not_cut_off x frames zero) in
      let orphan : (is_later_frame x && is_none frames) ≡ false = rw first refl in
      let restart : (is_opener x.bytes && is_some frames) ≡ so = rw (eo, es) refl in
      let full : (is_opener x.bytes && not x.admitted) ≡ not ad = rw (eo, ea) refl in
      same_rows who rest _ _ _ _ _ false false false so (not ad) (not_out_of_order x frames first) orphan wrong restart full
      ∙ by ad so
      ∙ sym (ap (λ (b : Bool). broken_of (breaks b rules.restarted who ∷ []) ++ (fast_refusal_breaks who (refused frames x) ++ broken_of rest)) restart
      ∙ ap (λ (r : Option FastRefusal). broken_of (breaks so rules.restarted who ∷ []) ++ (fast_refusal_breaks who r ++ broken_of rest)) (reason ad eo ea))
    where
      none_of : (a b o d : Bool) → a ≡ false → o ≡ true → d ≡ false → (a || (b && not o) || d) ≡ false
      none_of a b o d ea eo ed = grind arith

      refusal : Bool → Option FastRefusal
      refusal true = None
      refusal false = Some Full

      reason : (ad : Bool) → is_opener x.bytes ≡ true → x.admitted ≡ ad → refused frames x ≡ refusal ad
      reason true eo ea = rw (eo, ea) refl
      reason false eo ea = rw (eo, ea) refl

      by : (ad so : Bool) → rows who rest false false false so (not ad) ≡ broken_of (breaks so rules.restarted who ∷ []) ++ (fast_refusal_breaks who (refusal ad) ++ broken_of rest)
      by ad so = grind arith

  -- it isn't an opener: which rows it meets, and why it is refused
  other : (frames : Option (List FastPiece)) (order orphan wrong : Bool) (reason : Option FastRefusal) → is_opener x.bytes ≡ false
      → is_out_of_order frames x ≡ order → (is_later_frame x && is_none frames) ≡ orphan → is_wrong_length frames x ≡ wrong → refused frames x ≡ reason
      → rows who rest order orphan wrong false false ≡ fast_refusal_breaks who reason ++ broken_of rest → Is frames
  other frames order orphan wrong reason eo ea eb ec er e = grind (arith, reason, same_rows)

  no_later : (frames : Option (List FastPiece)) → is_opener x.bytes ≡ false → is_no_later x.bytes ≡ true → Is frames
  no_later frames eo el = grind (arith, counter_zero, not_later, other, not_out_of_order, eq-eqb)

  later_alone : is_opener x.bytes ≡ false → is_no_later x.bytes ≡ false → Is None
  later_alone eo el = grind (arith, later_of, other)

  later_open : (acc : List FastPiece) (rep nxt aw : Bool) → is_opener x.bytes ≡ false → is_no_later x.bytes ≡ false → is_repeat acc x ≡ rep → is_next acc x ≡ nxt → is_awaited acc x ≡ aw
      → Is (Some acc)
  later_open acc rep nxt aw eo el er en ea = grind (arith, later_of, false≢true, awaited_alone, other, next_awaited)

  by_frame : (frames : Option (List FastPiece)) (o l : Bool) → is_opener x.bytes ≡ o → is_no_later x.bytes ≡ l → Is frames
  by_frame frames true l eo el = opener frames x.admitted (is_some frames) eo refl refl
  by_frame frames false true eo el = no_later frames eo el
  by_frame None false false eo el = later_alone eo el
  by_frame (Some acc) false false eo el = later_open acc (is_repeat acc x) (is_next acc x) (is_awaited acc x) eo el refl refl refl

pub fast_rules_are_refusals : FastRulesAreRefusals
fast_rules_are_refusals name n frames message =
    by_frame (detail.Source n.parts.source n.parts.pgn) (message_rule message ∷ []) (fast_piece n) frames (is_opener n.bytes) (is_no_later n.bytes) refl refl
