-- All that an event tells finds room; and a frame leaves the limit of what may be open.
use Rattle.std.proofs.Common.{◌≡◌, ℕ, ◌+◌, ◌≤◌, Bool, true, false, not, ◌==◌, List, [], ◌∷◌, ◌++◌, length, filter, Option, Some, None, if◌then◌else◌, refl, ap, ◌∙◌, length-append, arith}
use Rattle.std.specs.declared.cmp.Ordering.{Ordering}
use Rattle.std.specs.List.{flat_map}
use Rattle.std.proofs.lemmas.List.{length-map}
use Rattle.std.proofs.lemmas.List.Concat.{flat_map_single}
use Rattle.std.proofs.lemmas.List.Filters.{length-filter_both}
use Rattle.n2k_id.specs.declared.name.Name.{Name}
use Rattle.n2k_id.specs.declared.identifier_parts.Parts.{Parts}
use Rattle.n2k_id.specs.Identifier.{parts_of}
use Rattle.slot_views.specs.Slots.{Entry as Slot, SlotMap, IsMap, entry_at, grown, grown_from, has_expired, is_complete, is_full}
use Rattle.slot_views.specs.Traces.{unexpired}
use Rattle.fast_packet.specs.FastRuns.{counter_of, gap}
use Rattle.fast_packet.specs.Assembly.{fed_after, fed_by, is_from, opening, part_to, verdict}
use Rattle.fast_packet.specs.declared.verdict.Verdict.{Verdict}
use Rattle.fast_packet.specs.declared.verdict.Verdict.TheVariants.{Short as Cut, Opens, Orphan, Again, OutOfOrder, Next}
use Rattle.fast_packet.specs.declared.key.FastKey.{FastKey}
use Rattle.fast_packet.specs.declared.answers.FastRefusal.{FastRefusal}
use Rattle.pgn_profile.specs.declared.kinds.Kind.{Kind}
use Rattle.pgn_profile.specs.declared.kinds.Kind.TheVariants.{Single, Fast, Outside}
use Rattle.report_rules.specs.Rules as rules
use Rattle.history.specs.Emits.{of_source, reported}
use Rattle.history.specs.Entries as entry
use Rattle.history.specs.Entries.{Entry, moment_of}
use Rattle.history.specs.RuleLaws.{fast_refusal_breaks}
use Rattle.gate_model.specs.Addresses.{AddressesKept, Changed}
use Rattle.gate_model.specs.AddressStands.{name_held}
use Rattle.gate_model.specs.Endings.{fast_overdue}
use Rattle.gate_model.specs.FastPackets.{FastAnswer, key_of, lost_of_source, restarted_reports, sender_of, without_source}
use Rattle.gate_core.specs.Steps.{by_keys}
use Rattle.bus_messages.specs.Heard.{heard_reports}
use Rattle.bus_listener.specs.Heard.{is_heard}
use Rattle.bus_listener.specs.Kept.{answer_here, entered, given_up, heard, heard_step, lost, no_message, taken_from, unclaimed_told}
use Rattle.bus_listener.specs.Kinds.{is_told}

-- ---- what ends is told one by one

module _ (p : FastKey × Slot → Bool) (rule : ℕ) (es : List (FastKey × Slot)) where
  ending_room : length (flat_map (λ e. of_source rule e.0.source e.0.pgn ∷ []) (filter p es)) + length (filter (λ e. not (p e)) es) ≡ length es
  ending_room =
      let told = flat_map_single (λ (e : FastKey × Slot). of_source rule e.0.source e.0.pgn) (filter p es) in
      let one_each = length-map (filter p es) (λ (e : FastKey × Slot). of_source rule e.0.source e.0.pgn) in
      let both = length-filter_both p (λ e. not (p e)) (λ e. refl) es in
      omega (arith, ap length told, one_each, both)

lost_of_room : (o : Option ℕ) (slots : SlotMap FastKey) → length (lost_of_source o slots) + length (without_source o slots).entries ≡ length slots.entries
lost_of_room None slots = omega arith
lost_of_room (Some a) slots = ending_room (is_from a) rules.claim_lost slots.entries

lost_room : (changed : Changed) (slots : SlotMap FastKey) → length (lost changed slots) ≤ length slots.entries
lost_room changed slots =
    let a = lost_of_room changed.left slots in
    let b = lost_of_room changed.won (without_source changed.left slots) in
    let sum = length-append (lost_of_source changed.left slots) (lost_of_source changed.won (without_source changed.left slots)) in
    omega (arith, a, b, sum)

-- ---- what a frame tells

breaks_room : (p : Parts) (x : FastAnswer) → length (reported (heard_reports p x)) ≤ 2
breaks_room p x = by x.restarted x.refused
  where
    by : (b : Bool) (o : Option FastRefusal) → length (reported (restarted_reports p b ++ fast_refusal_breaks (sender_of p) o)) ≤ 2
    by true None = omega arith
    by true (Some r) = omega arith
    by false None = omega arith
    by false (Some r) = omega arith

unclaimed_room : (p : Parts) → length (unclaimed_told p) ≤ 2
unclaimed_room p = by (is_told p.pgn)
  where
    by : (b : Bool) → length (if b then of_source rules.unclaimed p.source p.pgn ∷ [] else []) ≤ 2
    by true = omega arith
    by false = omega arith

module _ (cmp : FastKey → FastKey → Ordering) (kinds : ℕ → Kind) (g : AddressesKept) where
  heard_room : (slots : SlotMap FastKey) (p : Parts) (bytes : List ℕ) (m : ℕ) → length (heard cmp kinds g slots p bytes m).told ≤ 2
  heard_room slots p bytes m = by (is_heard kinds g.claims.own p) (kinds p.pgn) (name_held g.claims.holders p.source)
    where
      by : (b : Bool) (kind : Kind) (o : Option Name) → length (if b then taken_from cmp slots p bytes m kind o else no_message slots).told ≤ 2
      by false kind o = omega arith
      by true kind None = unclaimed_room p
      by true Single (Some x) = omega arith
      by true Fast (Some x) = breaks_room p (answer_here cmp slots p bytes m)
      by true Outside (Some x) = omega arith

  entered_room : (slots : SlotMap FastKey) (e : Entry) → length (entered cmp kinds g slots e).told ≤ length slots.entries + 2
  unfolding entered
  entered_room slots (entry.frame m f) =
      let rest = heard cmp kinds g (given_up g.changed slots) (parts_of f.id) f.held m in
      let a = lost_room g.changed slots in
      let b = heard_room (given_up g.changed slots) (parts_of f.id) f.held m in
      let sum = length-append (lost g.changed slots) rest.told in
      omega (arith, a, b, sum)
  entered_room slots (entry.datagram m bytes) = omega arith
  entered_room slots (entry.tick m) = omega arith
  entered_room slots (entry.command m source address) = omega arith

  -- each message in the making ends once, and a frame breaks at most two rules
  pub step_fits : (slots : SlotMap FastKey) (e : Entry) → IsMap cmp slots → length (heard_step cmp kinds g slots e).told ≤ slots.limit + 2
  step_fits slots e map =
      let within = map.within in
      let a = ending_room (has_expired (moment_of e)) rules.expired slots.entries in
      let b = entered_room (unexpired (moment_of e) slots) e in
      let sum = length-append (fast_overdue slots (moment_of e)) (entered cmp kinds g (unexpired (moment_of e) slots) e).told in
      omega (arith, a, b, sum, within)

-- ---- the limit of what may be open stays

module _ (s : SlotMap FastKey) (k : FastKey) where
  either : (b : Bool) (x y : SlotMap FastKey) → x.limit ≡ s.limit → y.limit ≡ s.limit → (if b then x else y).limit ≡ s.limit
  either true x y p q = p
  either false x y p q = q

  grown_limit : (next : ℕ) (piece : List ℕ) (m within : ℕ) (o : Option Slot) → (grown_from by_keys.fast s k next piece m within o).limit ≡ s.limit
  grown_limit next piece m within None = refl
  grown_limit next piece m within (Some e) = either (e.next == next) _ _ (either (is_complete (grown e piece m within)) _ _ refl refl) refl

  fed_limit : (bytes : List ℕ) (m : ℕ) (v : Verdict) → (fed_by by_keys.fast s k bytes m v).limit ≡ s.limit
  fed_limit bytes m Cut = refl
  fed_limit bytes m Opens = either (is_full by_keys.fast s k) _ _ refl (either (is_complete (opening bytes m)) _ _ refl refl)
  fed_limit bytes m Orphan = refl
  fed_limit bytes m Again = refl
  fed_limit bytes m OutOfOrder = refl
  fed_limit bytes m (Next end) = grown_limit (counter_of bytes) (part_to end bytes) m gap (entry_at by_keys.fast s k)

  limit_stays : (bytes : List ℕ) (m : ℕ) → (fed_after by_keys.fast s k bytes m).limit ≡ s.limit
  limit_stays bytes m = fed_limit bytes m (verdict (entry_at by_keys.fast s k) bytes)

lost_limit : (o : Option ℕ) (slots : SlotMap FastKey) → (without_source o slots).limit ≡ slots.limit
lost_limit None slots = refl
lost_limit (Some a) slots = refl

given_up_limit : (changed : Changed) (slots : SlotMap FastKey) → (given_up changed slots).limit ≡ slots.limit
given_up_limit changed slots = lost_limit changed.won (without_source changed.left slots) ∙ lost_limit changed.left slots

module _ (kinds : ℕ → Kind) (g : AddressesKept) where
  heard_limit : (slots : SlotMap FastKey) (p : Parts) (bytes : List ℕ) (m : ℕ) → (heard by_keys.fast kinds g slots p bytes m).slots.limit ≡ slots.limit
  heard_limit slots p bytes m = by (is_heard kinds g.claims.own p) (kinds p.pgn) (name_held g.claims.holders p.source)
    where
      by : (b : Bool) (kind : Kind) (o : Option Name)
          → (if b then taken_from by_keys.fast slots p bytes m kind o else no_message slots).slots.limit ≡ slots.limit
      by false kind o = refl
      by true kind None = refl
      by true Single (Some x) = refl
      by true Fast (Some x) = limit_stays slots (key_of p) bytes m
      by true Outside (Some x) = refl

  entered_limit : (slots : SlotMap FastKey) (e : Entry) → (entered by_keys.fast kinds g slots e).slots.limit ≡ slots.limit
  unfolding entered
  entered_limit slots (entry.frame m f) =
      heard_limit (given_up g.changed slots) (parts_of f.id) f.held m ∙ given_up_limit g.changed slots
  entered_limit slots (entry.datagram m bytes) = refl
  entered_limit slots (entry.tick m) = refl
  entered_limit slots (entry.command m source address) = refl

  pub step_limit : (slots : SlotMap FastKey) (e : Entry) → (heard_step by_keys.fast kinds g slots e).slots.limit ≡ slots.limit
  step_limit slots e = entered_limit (unexpired (moment_of e) slots) e
