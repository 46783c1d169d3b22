-- What is kept of the fast packets stands for the history from the start, and as time passes.
use Rattle.std.proofs.Common.{◌≡◌, ℕ, ◌≤◌, Bool, true, false, ◌&&◌, not, List, [], ◌∷◌, refl, sym, ap, ◌∙◌, arith, is_some, is_none}
use Rattle.std.specs.Prelude.{Option, Some, None, filter, if◌then◌else◌}
use Rattle.std.specs.List.{flat_map}
use Rattle.std.specs.declared.cmp.Ordering.{Ordering}
use Rattle.report_rules.specs.Rules as rules
use Rattle.slot_views.specs.Runs.{in_time, kept_at, open_of, open_at}
use Rattle.claim_table.specs.declared.answer.Holder.{Holder}
use Rattle.pgn_profile.specs.declared.kinds.Kind.{Kind}
use Rattle.slot_views.specs.Slots.{Entry, SlotMap, entry_at, is_expired, has_expired}
use Rattle.slot_views.specs.Traces.{left_at, unexpired}
use Rattle.slot_views.proofs.Tied.{unexpired_at}
use Rattle.fast_packet.specs.declared.key.FastKey.{FastKey}
use Rattle.fast_packet.specs.FastRuns.{FastPiece, fast_rules}
use Rattle.fast_packet.specs.RunAssemblies.{assembly_at}
use Rattle.fast_packet.proofs.Assemblies.{kept_is}
use Rattle.history.specs.Known.{known, held_since}
use Rattle.history.specs.Traces.{NotedFrame, fast_trace, fast_trace_since}
use Rattle.history.specs.Opens.{is_fast, fast_open, fast_keys}
use Rattle.gate_events.specs.Emit.{Emit}
use Rattle.history.specs.Emits.{of_source}
use Rattle.history.specs.CountLaws.{HoldsFast}
use Rattle.history.proofs.KeySteps.{fast_ends}
use Rattle.history.proofs.FastCounts.{slots_count_fast}
use Rattle.history.proofs.SlotLists.{slots_list_fast}
use Rattle.gate_model.specs.Orders.{OrdersFast}
use Rattle.gate_model.specs.Endings.{fast_overdue}
use Rattle.gate_model.specs.FastLaws.{StandsFast, HoldsAllFast, StandingHoldsFast, NothingStandsFast, TimeEndsFastPackets}
use Rattle.gate_model.proofs.FastMaps.{remaining_map, told_of_keys}

-- ---- what is open, and the entry that stands for it: there is one exactly where something is open

kept_held : (q : Option (List FastPiece)) (m : ℕ) → is_some (assembly_at (kept_at fast_rules q m)) ≡ is_some (kept_at fast_rules q m)
kept_held None m = refl
kept_held (Some []) m = refl
kept_held (Some (y ∷ ys)) m = by (in_time fast_rules (y ∷ ys) m)
  where
    by : (b : Bool) → is_some (assembly_at (if b then Some (y ∷ ys) else None)) ≡ is_some (if b then Some (y ∷ ys) else None)
    by true = refl
    by false = refl

pub is_held : (t : List FastPiece) (m : ℕ) → is_some (assembly_at (open_at fast_rules t m)) ≡ is_some (open_at fast_rules t m)
is_held t m = kept_held (open_of fast_rules t) m

-- of keys of fast packets alone
pub only_fast : (b : Bool) (o : Option Entry) → is_some (if b then o else None) ≡ (b && is_some o)
only_fast true o = refl
only_fast false o = refl

pub none_is : {X : Type 0} (o : Option X) → is_none o ≡ not (is_some o)
none_is None = refl
none_is (Some x) = refl

module _ (kinds : ℕ → Kind) (cmp : FastKey → FastKey → Ordering) (limit : ℕ) (holders : List (Option Holder)) (notes : List NotedFrame) (m : ℕ)
    (slots : SlotMap FastKey)
    (orders : OrdersFast cmp) (stands : StandsFast kinds cmp limit holders notes m slots) where
  pub holds : HoldsFast kinds cmp holders notes m slots
  holds = record {
    order = orders.order;
    tells = orders.tells;
    ordered = stands.map.ordered;
    within = stands.map.within;
    holds = λ key.
        ap is_some (stands.entries key)
        ∙ (only_fast (is_fast (kinds key.pgn)) (assembly_at (fast_open holders notes key m))
        ∙ ap (λ (b : Bool). is_fast (kinds key.pgn) && b) (is_held (fast_trace holders key.source key.pgn notes) m));
  }

  -- a key that is held is one of fast packets, whose entry is this
  pub found_fast : (key : FastKey) (e : Entry) → entry_at cmp slots key ≡ Some e → is_fast (kinds key.pgn) ≡ true
  found_fast key e there = by (is_fast (kinds key.pgn)) (sym (stands.entries key) ∙ there)
    where
      by : (b : Bool) → (if b then assembly_at (fast_open holders notes key m) else None) ≡ Some e → b ≡ true
      by true f = refl
      by false f = cc

  pub found_open : (key : FastKey) (e : Entry) → entry_at cmp slots key ≡ Some e → assembly_at (fast_open holders notes key m) ≡ Some e
  found_open key e there = sym (rw (found_fast key e there) at (stands.entries key)) ∙ there

  pub holds_all : HoldsAllFast kinds cmp holders notes m slots
  holds_all = record {
    holds = holds;
    counts = slots_count_fast kinds cmp holders notes m slots holds;
    lists = slots_list_fast kinds cmp holders notes m slots holds orders.precedes_so;
  }

  -- ---- a later moment

  module _ (n : ℕ) (later : m ≤ n) where
    left_is : (key : FastKey) → left_at (entry_at cmp slots key) n ≡ (if is_fast (kinds key.pgn) then assembly_at (fast_open holders notes key n) else None)
    left_is key =
        ap (λ (e : Option Entry). left_at e n) (stands.entries key) ∙ by (is_fast (kinds key.pgn))
      where
        by : (b : Bool)
            → left_at (if b then assembly_at (fast_open holders notes key m) else None) n ≡ (if b then assembly_at (fast_open holders notes key n) else None)
        by true = kept_is (fast_open holders notes key m) n ∙ ap assembly_at (sym (fast_ends holders notes key m n later))
        by false = refl

    pub later_stands : StandsFast kinds cmp limit holders notes n (unexpired n slots)
    later_stands = record {
      limited = stands.limited;
      map = remaining_map orders.order (has_expired n) slots stands.map;
      entries = λ key. unexpired_at orders.order n key slots.entries stands.map.ordered ∙ left_is key;
    }

    expired_is : (e : Entry) → is_expired n e ≡ is_none (left_at (Some e) n)
    expired_is e = by (is_expired n e)
      where
        by : (b : Bool) → b ≡ is_none (if b then None else Some e)
        by true = refl
        by false = refl

    -- an entry has expired exactly where its key isn't open any more
    ends_so : (key : FastKey) (e : Entry) → entry_at cmp slots key ≡ Some e → has_expired n (key, e) ≡ is_none (fast_open holders notes key n)
    ends_so key e there =
        expired_is e
        ∙ (ap is_none (ap (λ (x : Option Entry). left_at x n) (sym there) ∙ left_is key)
        ∙ (ap (λ (b : Bool). is_none (if b then assembly_at (fast_open holders notes key n) else None)) (found_fast key e there)
        ∙ (none_is (assembly_at (fast_open holders notes key n))
        ∙ (ap not (is_held (fast_trace holders key.source key.pgn notes) n) ∙ sym (none_is (fast_open holders notes key n))))))

    abbrev of_key : FastKey → List Emit
    of_key key = of_source rules.expired key.source key.pgn ∷ []

    pub overdue_is : fast_overdue slots n
        ≡ flat_map of_key (filter (λ key. is_some (fast_open holders notes key m) && is_none (fast_open holders notes key n)) (fast_keys kinds notes))
    overdue_is =
        told_of_keys of_key _ ∙ ap (flat_map of_key) (holds_all.lists.ending (λ key. true) holders n (has_expired n) ends_so)

pub standing_holds_fast : StandingHoldsFast
standing_holds_fast kinds cmp limit holders notes m slots orders stands = holds_all kinds cmp limit holders notes m slots orders stands

pub nothing_stands_fast : NothingStandsFast
nothing_stands_fast cmp r s m = record {
  limited = refl;
  map = record { ordered = tt; within = omega arith };
  entries = λ key. by key (is_fast (r.kinds key.pgn)) (held_since (known r s []).claims.holders key.source);
}
  where
    by : (key : FastKey) (b : Bool) (since : Option ℕ)
        → None ≡ (if b then assembly_at (open_at fast_rules (fast_trace_since since key.source key.pgn []) m) else None)
    by key true None = refl
    by key true (Some since) = refl
    by key false since = refl

pub time_ends_fast_packets : TimeEndsFastPackets
time_ends_fast_packets cmp orders r s h earlier m slots later stands = record {
  stands = later_stands r.kinds cmp r.fast_slots _ _ earlier slots orders stands m later;
  told = overdue_is r.kinds cmp r.fast_slots _ _ earlier slots orders stands m later;
}
