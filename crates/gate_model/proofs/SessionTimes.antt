-- What is kept of the sessions stands for the history from the start, and as time passes.
use Rattle.std.proofs.Common.{◌≡◌, ℕ, ◌≤◌, Bool, true, false, not, List, [], ◌∷◌, refl, sym, ap, ◌∙◌, arith, is_some}
use Rattle.std.specs.Prelude.{Option, Some, None, is_none}
use Rattle.std.specs.List.{flat_map}
use Rattle.std.specs.declared.cmp.Ordering.{Ordering}
use Rattle.report_rules.specs.Rules as rules
use Rattle.slot_views.specs.Runs.{open_at}
use Rattle.slot_views.specs.Slots.{Entry, SlotMap, entry_at, is_expired, has_expired}
use Rattle.slot_views.specs.Traces.{left_at, unexpired}
use Rattle.slot_views.proofs.Tied.{unexpired_at}
use Rattle.iso_transport.specs.declared.key.IsoKey.{IsoKey}
use Rattle.iso_transport.specs.IsoRuns.{IsoPiece, iso_rules}
use Rattle.iso_transport.specs.Verdicts.{pgn_in}
use Rattle.iso_transport.specs.RunVerdicts.{assembly_at}
use Rattle.iso_transport.proofs.Following.{later_is}
use Rattle.history.specs.Entries.{History, IsHistory}
use Rattle.history.specs.Settings.{Receiver}
use Rattle.history.specs.Known.{Known, known}
use Rattle.history.specs.Traces.{NotedFrame, iso_trace}
use Rattle.history.specs.Opens.{iso_open, notes_of}
use Rattle.gate_events.specs.Emit.{Emit}
use Rattle.history.specs.Emits.{of_source, replied}
use Rattle.history.specs.Endings.{session_pgn, abort_reply, iso_expired, side}
use Rattle.history.specs.AddressLaws.{IsReceiver}
use Rattle.history.specs.CountLaws.{HoldsIso}
use Rattle.history.proofs.Addresses.{addresses_are_sound}
use Rattle.history.proofs.SessionSteps.{iso_ends}
use Rattle.history.proofs.IsoCounts.{slots_count_iso}
use Rattle.history.proofs.SlotLists.{slots_list_iso}
use Rattle.gate_model.specs.Orders.{OrdersIso}
use Rattle.gate_model.specs.Endings.{sessions_overdue}
use Rattle.gate_model.specs.SessionLaws.{StandsFor, StandingHolds, NothingStands, EndsInTime, TimeEndsSessions}
use Rattle.gate_model.proofs.FastMaps.{remaining_map}
use Rattle.gate_model.proofs.SessionMaps.{told}
use Rattle.gate_model.proofs.SessionTraces.{no_trace, is_held, message_is}

holds_open : (cmp : IsoKey → IsoKey → Ordering) → OrdersIso cmp → (r : Receiver) (s : ℕ) (h : History) (m : ℕ) (slots : SlotMap IsoKey) → IsReceiver r
    → StandsFor cmp r s h m slots → HoldsIso cmp (known r s h) (notes_of r s h) m slots
holds_open cmp orders r s h m slots are stands = record {
  sound = (addresses_are_sound r s h are).sound;
  order = orders.order;
  tells = orders.tells;
  ordered = stands.map.ordered;
  within = stands.map.within;
  holds = λ key. ap is_some (stands.entries key) ∙ is_held key.addressed (iso_trace (known r s h) key.addressed key.source (notes_of r s h)) m;
}

pub standing_holds : StandingHolds
standing_holds cmp orders r s h m slots are stands =
    let holds = holds_open cmp orders r s h m slots are stands in
    record {
      holds = holds;
      counts = slots_count_iso cmp (known r s h) (notes_of r s h) m slots holds;
      lists = slots_list_iso cmp (known r s h) (notes_of r s h) m slots holds orders.precedes_so;
    }

pub nothing_stands : NothingStands
nothing_stands cmp r s m = record {
  limited = refl;
  map = record { ordered = tt; within = omega arith };
  entries = λ key.
      sym (ap (λ (t : List IsoPiece). assembly_at key.addressed (open_at (iso_rules key.addressed) t m)) (no_trace (known r s []) key.addressed key.source));
}

pub none_is : {X : Type 0} (o : Option X) → is_none o ≡ not (is_some o)
none_is None = refl
none_is (Some x) = refl

module _ (cmp : IsoKey → IsoKey → Ordering) (orders : OrdersIso cmp) (r : Receiver) (s : ℕ) (h : History) (earlier m : ℕ) (slots : SlotMap IsoKey) (are : IsReceiver r)
    (is : IsHistory h) (le : earlier ≤ m) (stands : StandsFor cmp r s h earlier slots) where
  abbrev k : Known
  k = known r s h

  abbrev notes : List NotedFrame
  notes = notes_of r s h

  -- what is left of a key is what is open of it later
  left_is : (key : IsoKey) → left_at (entry_at cmp slots key) m ≡ assembly_at key.addressed (iso_open k notes key m)
  left_is key =
      ap (λ (e : Option Entry). left_at e m) (stands.entries key)
      ∙ (later_is key.addressed (iso_open k notes key earlier) m ∙ ap (assembly_at key.addressed) (sym (iso_ends k notes key earlier m le)))

  stands_later : StandsFor cmp r s h m (unexpired m slots)
  stands_later = record {
    limited = stands.limited;
    map = remaining_map orders.order (has_expired m) slots stands.map;
    entries = λ key. unexpired_at orders.order m key slots.entries stands.map.ordered ∙ left_is key;
  }

  gone_by : (e : Entry) (b : Bool) → is_expired m e ≡ b → not (is_some (left_at (Some e) m)) ≡ b
  gone_by e true eb = rw eb refl
  gone_by e false eb = rw eb refl

  -- an entry has expired exactly where its key isn't open any more
  ends_so : (key : IsoKey) (e : Entry) → entry_at cmp slots key ≡ Some e → has_expired m (key, e) ≡ is_none (iso_open k notes key m)
  ends_so key e there =
      sym (gone_by e (is_expired m e) refl)
      ∙ (ap (λ (o : Option Entry). not (is_some (left_at o m))) (sym there)
      ∙ (ap (λ (o : Option Entry). not (is_some o)) (left_is key)
      ∙ (ap not (is_held key.addressed (iso_trace k key.addressed key.source notes) m) ∙ sym (none_is (iso_open k notes key m)))))

  abbrev of_entry : IsoKey × Entry → List Emit
  of_entry e = of_source rules.expired e.0.source (pgn_in e.1) ∷ replied k.claims.own e.0.source (abort_reply e.0.addressed (pgn_in e.1))

  abbrev of_key : IsoKey → List Emit
  of_key key =
      of_source rules.expired key.source (session_pgn (side k earlier) notes key)
      ∷ replied k.claims.own key.source (abort_reply key.addressed (session_pgn (side k earlier) notes key))

  told_so : (key : IsoKey) (e : Entry) → entry_at cmp slots key ≡ Some e → of_entry (key, e) ≡ of_key key
  told_so key e there =
      ap (λ (pgn : ℕ). of_source rules.expired key.source pgn ∷ replied k.claims.own key.source (abort_reply key.addressed pgn))
      (message_is r s h is k key earlier e (sym (stands.entries key) ∙ there))

  overdue_is : sessions_overdue k.claims.own slots m ≡ iso_expired (side k earlier) (side k m) notes
  overdue_is =
      told orders.order slots stands.map of_entry of_key told_so (has_expired m)
      ∙ ap (flat_map of_key)
      ((standing_holds cmp orders r s h earlier slots are stands).lists.ending (λ key. true) k m (has_expired m) ends_so)

  pub ends_in_time : EndsInTime cmp r s h earlier m slots
  ends_in_time = record { stands = stands_later; told = overdue_is }

pub time_ends_sessions : TimeEndsSessions
time_ends_sessions cmp orders r s h earlier m slots are is le stands = ends_in_time cmp orders r s h earlier m slots are is le stands
