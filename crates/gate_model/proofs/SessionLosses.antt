-- What ends of the sessions when addresses change hands.
use Rattle.std.proofs.Common.{◌≡◌, ◌≢◌, ℕ, Bool, true, false, ◌&&◌, ◌||◌, not, List, [], ◌∷◌, length, refl, sym, ap, ◌∙◌, ◌==◌, is_some}
use Rattle.std.specs.Prelude.{Option, Some, None, is_none, filter, option_map, if◌then◌else◌}
use Rattle.std.specs.List.{flat_map}
use Rattle.std.specs.declared.cmp.Ordering.{Ordering}
use Rattle.std.proofs.lemmas.Bool.{eqb-true, ne_eqb, and_parts}
use Rattle.report_rules.specs.Rules as rules
use Rattle.slot_views.specs.Runs.{open_at}
use Rattle.n2k_id.specs.Frame.{BusFrame}
use Rattle.n2k_id.specs.Identifier.{parts_of}
use Rattle.n2k_id.specs.declared.identifier_parts.Parts.{Parts}
use Rattle.n2k_id.specs.declared.name.Name.{Name}
use Rattle.claim_table.specs.Claims.{claim, is_at}
use Rattle.claim_table.proofs.LawLemmas.{won_is_not_left}
use Rattle.slot_views.specs.Slots.{Entry, SlotMap, entry_at, remaining}
use Rattle.iso_transport.specs.declared.key.IsoKey.{IsoKey}
use Rattle.iso_transport.specs.IsoRuns.{IsoPiece, iso_rules}
use Rattle.iso_transport.specs.Verdicts.{pgn_in}
use Rattle.iso_transport.specs.Assembly.{is_from, is_addressed}
use Rattle.iso_transport.specs.RunVerdicts.{assembly_at}
use Rattle.history.specs.Entries as entry
use Rattle.history.specs.Entries.{History, IsHistory}
use Rattle.history.specs.Settings.{Receiver}
use Rattle.history.specs.Known.{Known, known, is_claim, claim_by, address_left, address_won}
use Rattle.history.specs.Traces.{NotedFrame, iso_trace, is_transport}
use Rattle.history.specs.Opens.{iso_open, notes_of}
use Rattle.gate_events.specs.Emit.{Emit}
use Rattle.history.specs.Emits.{of_source}
use Rattle.history.specs.Endings.{session_pgn, iso_lost, lost_elsewhere, side, iso_lost_at}
use Rattle.history.specs.AddressLaws.{IsReceiver}
use Rattle.history.specs.TraceLaws.{same_own, LeavesTraces}
use Rattle.history.specs.KeyLaws.{the_note}
use Rattle.history.proofs.IsoCounts.{same_is}
use Rattle.history.proofs.TraceMoves.{claims_move_traces, commands_move_traces}
use Rattle.gate_model.specs.Orders.{OrdersIso}
use Rattle.gate_model.specs.Sessions.{without_source, lost_of_source, lost_addressed, is_given_up}
use Rattle.gate_model.specs.SessionLaws.{StandsFor, GivesUp, ClaimsGiveUp, CommandsGiveUp}
use Rattle.gate_model.proofs.SessionKept.{at_source, from_is, filtered_none, source_gone, both_gone, kept_is}
use Rattle.gate_model.proofs.FastMaps.{filtered_twice, remaining_at, remaining_map}
use Rattle.gate_model.proofs.SessionMaps.{told}
use Rattle.gate_model.proofs.SessionTraces.{and_no, is_held, message_is, past}
use Rattle.gate_model.proofs.SessionTimes.{standing_holds, none_is}

or_no : (x : Bool) → (x || false) ≡ x
or_no true = refl
or_no false = refl

-- ---- an entry by which addresses change hands

module _ (cmp : IsoKey → IsoKey → Ordering) (orders : OrdersIso cmp) (r : Receiver) (s : ℕ) (h : History) (e : entry.Entry) (m : ℕ) (slots : SlotMap IsoKey) (left won : Option ℕ)
    (are : IsReceiver r) (is : IsHistory h) (stands : StandsFor cmp r s h m slots)
    (leaves : LeavesTraces r s h e (λ a. is_at a left || is_at a won))
    (same_notes : (addressed : Bool) (a : ℕ) → iso_trace (known r s (e ∷ h)) addressed a (notes_of r s (e ∷ h)) ≡ iso_trace (known r s (e ∷ h)) addressed a (notes_of r s h))
    (apart : (a b : ℕ) → left ≡ Some a → won ≡ Some b → a ≢ b) where
  abbrev k : Known
  k = known r s h

  abbrev after : Known
  after = known r s (e ∷ h)

  abbrev notes : List NotedFrame
  notes = notes_of r s h

  abbrev moved : Bool
  moved = not (same_own k.claims.own after.claims.own)

  abbrev given : IsoKey → Bool
  given key = (is_at key.source left || is_at key.source won) || (key.addressed && moved)

  trace_after : (addressed : Bool) (a : ℕ)
      → iso_trace after addressed a (notes_of r s (e ∷ h)) ≡ (if given (record { addressed = addressed; source = a }) then [] else iso_trace k addressed a notes)
  trace_after false a =
      leaves.broadcast a ∙ ap (λ (b : Bool). if b then [] else iso_trace k false a notes) (sym (or_no (is_at a left || is_at a won)))
  trace_after true a = leaves.addressed a

  cut : (addressed b : Bool) (t : List IsoPiece) → open_at (iso_rules addressed) (if b then [] else t) m ≡ (if b then None else open_at (iso_rules addressed) t m)
  cut addressed true t = refl
  cut addressed false t = refl

  open_after : (key : IsoKey) → iso_open after (notes_of r s (e ∷ h)) key m ≡ (if given key then None else iso_open k notes key m)
  open_after key =
      ap (λ (t : List IsoPiece). open_at (iso_rules key.addressed) t m) (trace_after key.addressed key.source)
      ∙ cut key.addressed (given key) (iso_trace k key.addressed key.source notes)

  -- with the frames of before
  open_still : (key : IsoKey) → iso_open after notes key m ≡ (if given key then None else iso_open k notes key m)
  open_still key = ap (λ (t : List IsoPiece). open_at (iso_rules key.addressed) t m) (sym (same_notes key.addressed key.source)) ∙ open_after key

  joined : (key : IsoKey) (b : Bool) (o : Option Entry) (q : Option (List IsoPiece)) → o ≡ assembly_at key.addressed q
      → (if b then None else o) ≡ assembly_at key.addressed (if b then None else q)
  joined key true o q same = refl
  joined key false o q same = same

  remaining_stands : StandsFor cmp r s (e ∷ h) m (remaining (is_given_up left won moved) slots)
  remaining_stands = record {
    limited = stands.limited;
    map = remaining_map orders.order (is_given_up left won moved) slots stands.map;
    entries = λ key.
        remaining_at orders.order (λ a b there. same_is a b (sym (orders.tells a b) ∙ there)) given slots key
        ∙ (joined key (given key) (entry_at cmp slots key) (iso_open k notes key m) (stands.entries key) ∙ ap (assembly_at key.addressed) (sym (open_after key)));
  }

  -- ---- what is told of those that end

  abbrev of_entry : IsoKey × Entry → List Emit
  of_entry x = of_source rules.claim_lost x.0.source (pgn_in x.1) ∷ []

  abbrev of_key : IsoKey → List Emit
  of_key key = of_source rules.claim_lost key.source (session_pgn (side k m) notes key) ∷ []

  told_so : (key : IsoKey) (x : Entry) → entry_at cmp slots key ≡ Some x → of_entry (key, x) ≡ of_key key
  told_so key x there =
      ap (λ (pgn : ℕ). of_source rules.claim_lost key.source pgn ∷ []) (message_is r s h is k key m x (sym (stands.entries key) ∙ there))

  ended_by : (b : Bool) (q : Option (List IsoPiece)) → is_some q ≡ true → is_none (if b then None else q) ≡ b
  ended_by true q there = refl
  ended_by false q there = none_is q ∙ ap not there

  -- of a key that is held, nothing is open any more exactly where it is given up
  ended_so : (key : IsoKey) (x : Entry) → entry_at cmp slots key ≡ Some x → is_none (iso_open after notes key m) ≡ given key
  ended_so key x there =
      ap is_none (open_still key)
      ∙ ended_by (given key) (iso_open k notes key m)
      (sym (is_held key.addressed (iso_trace k key.addressed key.source notes) m) ∙ (ap is_some (sym (stands.entries key)) ∙ ap is_some there))

  -- the entries that pass a test are told as the keys that are meant by it
  all_told : (q : IsoKey × Entry → Bool) (meant : IsoKey → Bool) → ((x : IsoKey × Entry) → q x ≡ (meant x.0 && given x.0))
      → flat_map of_entry (filter q slots.entries) ≡ iso_lost (side k m) (side after m) notes meant
  all_told q meant passes =
      told orders.order slots stands.map of_entry of_key told_so q
      ∙ ap (flat_map of_key)
      ((standing_holds cmp orders r s h m slots are stands).lists.ending meant after m q
      (λ key x there. passes (key, x) ∙ ap (λ (b : Bool). meant key && b) (sym (ended_so key x there))))

  -- ---- of the address that was left, of the one that was won, and of all others

  from_left : (a : ℕ) → left ≡ Some a → (x : IsoKey × Entry) → is_from a x ≡ (is_from a x && given x.0)
  from_left a there x = by (is_from a x) refl
    where
      by : (b : Bool) → is_from a x ≡ b → b ≡ (b && given x.0)
      by false eb = refl
      by true eb = let here : is_at x.0.source left ≡ true = ap (is_at x.0.source) there ∙ (sym (from_is a x) ∙ eb) in rw here refl

  left_told : (o : Option ℕ) → left ≡ o → lost_of_source o slots ≡ iso_lost_at (side k m) (side after m) notes o
  left_told None there = refl
  left_told (Some a) there = all_told (is_from a) (λ key. key.source == a) (from_left a there)

  other : (b : ℕ) → won ≡ Some b → (x : IsoKey × Entry) → is_from b x ≡ true → (o : Option ℕ) → left ≡ o → at_source o x ≡ false
  other b there x from None is_left = refl
  other b there x from (Some a) is_left =
      let source : x.0.source ≡ b = eqb-true x.0.source b from in
      ne_eqb a x.0.source (λ same. apart a b is_left there (same ∙ source))

  from_won : (b : ℕ) → won ≡ Some b → (x : IsoKey × Entry) → (not (at_source left x) && is_from b x) ≡ (is_from b x && given x.0)
  from_won b there x = by (is_from b x) refl
    where
      by : (c : Bool) → is_from b x ≡ c → (not (at_source left x) && c) ≡ (c && given x.0)
      by false ec = and_no (not (at_source left x))
      by true ec =
          let stays : at_source left x ≡ false = other b there x ec left refl in
          let here : is_at x.0.source won ≡ true = ap (is_at x.0.source) there ∙ (sym (from_is b x) ∙ ec) in
          rw (stays, here) refl

  won_told : (o : Option ℕ) → won ≡ o → lost_of_source o (without_source left slots) ≡ iso_lost_at (side k m) (side after m) notes o
  won_told None there = refl
  won_told (Some b) there =
      ap (λ (xs : List (IsoKey × Entry)). flat_map of_entry (filter (is_from b) xs)) (source_gone left slots)
      ∙ (ap (flat_map of_entry) (filtered_twice (is_from b) (λ x. not (at_source left x)) (λ x. not (at_source left x) && is_from b x) (λ x. refl) slots.entries)
      ∙ all_told (λ x. not (at_source left x) && is_from b x) (λ key. key.source == b) (from_won b there))

  abbrev elsewhere : IsoKey → Bool
  elsewhere key = key.addressed && not (is_at key.source left || is_at key.source won)

  turned : (addressed lost c : Bool) → (c && (not lost && addressed)) ≡ ((addressed && not lost) && (lost || (addressed && c)))
  turned true true true = refl
  turned true true false = refl
  turned true false true = refl
  turned true false false = refl
  turned false true true = refl
  turned false true false = refl
  turned false false true = refl
  turned false false false = refl

  elsewhere_told : (c : Bool) → moved ≡ c → lost_addressed c (without_source won (without_source left slots)) ≡ lost_elsewhere (side k m) (side after m) notes left won
  elsewhere_told true there =
      ap (λ (xs : List (IsoKey × Entry)). flat_map of_entry (filter is_addressed xs)) (both_gone left won true slots)
      ∙ (ap (flat_map of_entry) (filtered_twice is_addressed (λ x. not (at_source left x || at_source won x)) (λ x. not (at_source left x || at_source won x) && is_addressed x) (λ x. refl) slots.entries)
      ∙ all_told (λ x. not (at_source left x || at_source won x) && is_addressed x) elsewhere
      (λ x. turned x.0.addressed (at_source left x || at_source won x) true
      ∙ ap (λ (c : Bool). elsewhere x.0 && ((at_source left x || at_source won x) || (x.0.addressed && c))) (sym there)))
  elsewhere_told false there =
      ap (flat_map of_entry) (sym (filtered_none (λ (x : IsoKey × Entry). false) (λ x. refl) slots.entries))
      ∙ all_told (λ x. false) elsewhere
      (λ x. turned x.0.addressed (at_source left x || at_source won x) false
      ∙ ap (λ (c : Bool). elsewhere x.0 && ((at_source left x || at_source won x) || (x.0.addressed && c))) (sym there))

  pub gives_up : GivesUp cmp r s h e m slots left won
  gives_up = record {
    stands = rw (kept_is left won moved slots) remaining_stands;
    kept = kept_is left won moved slots;
    left_told = left_told left refl;
    won_told = won_told won refl;
    elsewhere_told = elsewhere_told moved refl;
  }

-- ---- claims, and commands

no_transport : (p : Parts) → p.pgn ≡ 60928 → is_transport p ≡ false
no_transport p e = rw e refl

module _ (r : Receiver) (s : ℕ) (h : History) (m : ℕ) (f : BusFrame) (claims : is_claim f ≡ true) where
  -- no frame of a session
  claim_past : (addressed : Bool) (a : ℕ)
      → iso_trace (known r s (entry.frame m f ∷ h)) addressed a (notes_of r s (entry.frame m f ∷ h)) ≡ iso_trace (known r s (entry.frame m f ∷ h)) addressed a (notes_of r s h)
  claim_past addressed a =
      past (known r s (entry.frame m f ∷ h)) addressed a (the_note r s h m f) (notes_of r s h)
      (no_transport (parts_of f.id) (eqb-true (parts_of f.id).pgn 60928 (and_parts ((parts_of f.id).pgn == 60928) _ claims).0))

  -- an address isn't left and won at once
  claim_apart : (a b : ℕ) → address_left (claim (known r s h).claims (claim_by (length h) m f)).step ≡ Some a
      → address_won (claim (known r s h).claims (claim_by (length h) m f)).step ≡ Some b → a ≢ b
  claim_apart a b left won same = by (claim (known r s h).claims (claim_by (length h) m f)).step.lost refl won
    where
      by : (o : Option (ℕ × Name)) → (claim (known r s h).claims (claim_by (length h) m f)).step.lost ≡ o → option_map (λ (x : ℕ × Name). x.0) o ≡ Some b → ⊥
      by None is there = cc
      by (Some w) is there =
          let there_is : w.0 ≡ b = cc in
          (won_is_not_left (known r s h).claims (claim_by (length h) m f) w is).1 (left ∙ ap (λ (n : ℕ). Some n) (same ∙ sym there_is))

pub claims_give_up : ClaimsGiveUp
claims_give_up cmp orders r s h m f slots are is claims stands =
    gives_up cmp orders r s h (entry.frame m f) m slots
    (address_left (claim (known r s h).claims (claim_by (length h) m f)).step) (address_won (claim (known r s h).claims (claim_by (length h) m f)).step)
    are is stands (claims_move_traces r s h m f are claims) (claim_past r s h m f claims) (claim_apart r s h m f claims)

pub commands_give_up : CommandsGiveUp
commands_give_up cmp orders r s h m source address slots are is stands =
    gives_up cmp orders r s h (entry.command m source address) m slots None None are is stands (commands_move_traces r s h m source address) (λ addressed a. refl) (λ a b left won. cc)
