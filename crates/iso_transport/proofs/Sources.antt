-- Which sessions are a sender's, and which are to this node.
use Rattle.std.proofs.Common.{◌≡◌, ℕ, ◌≤◌, ◌==◌, ◌&&◌, not, nat_lt, Bool, true, false, List, [], ◌∷◌, Option, Some, None, option_map, is_some, refl, sym, ◌∙◌, ap, subst, arith}
use Rattle.std.proofs.lemmas.Bool.{eqb-true, eqb-false, leb-true, ltb-true, ltb-false}
use Rattle.std.specs.List.{AllByRecursion, find}
use Rattle.std.specs.declared.cmp.Ordering.{Ordering}
use Rattle.std.specs.declared.cmp.Ordering.TheVariants.{Less}
use Rattle.std.specs.Ordering.{bool_cmp, nat_cmp, is_eq, is_gt, ordering_then}
use Rattle.std.specs.Map.{lookup}
use Rattle.std.specs.BTreeMap.{is_at}
use Rattle.slot_views.specs.Slots.{Entry, SlotMap, IsOrdered, IsMap, entry_at, released, begun_after, grown_after, without, with_entries, is_between}
use Rattle.slot_views.specs.declared.answers.Ended.{Ended}
use Rattle.slot_views.specs.Answers.{ended_of as slot_ended}
use Rattle.slot_views.proofs.Keeping.{released_keeps, begun_keeps, grown_keeps}
use Rattle.slot_views.proofs.Steps.{released_absent}
use Rattle.slot_views.proofs.Endings.{found, none_found, all_without, map_without}
use Rattle.iso_transport.specs.declared.key.IsoKey.{IsoKey}
use Rattle.iso_transport.specs.contracts.key.IsoKeyOrd as key
use Rattle.iso_transport.specs.declared.answers.IsoEnded.{IsoEnded}
use Rattle.iso_transport.specs.Sessions.{session_at}
use Rattle.iso_transport.specs.Answers.{ended_of}
use Rattle.iso_transport.specs.Assembly.{is_from, is_addressed, key_fits, AreSessions, least_of}
use Rattle.iso_transport.proofs.Joining.{keys_total, still_sessions}

abbrev cmp : IsoKey → IsoKey → Ordering
cmp = key.TheImpl.ghosts.cmp

-- ---- those to this node are those from the least such key to the greatest
not_above : (n m : ℕ) (b c : Bool) → n ≤ m → nat_lt n m ≡ b → (n == m) ≡ c → is_gt (nat_cmp n m) ≡ false
not_above n m true c le less equal = simp less
not_above n m false true le less equal = simp (less, equal)
not_above n m false false le less equal = let past = ltb-false n m less in absurd (eqb-false n m equal (omega (arith, past, le)))

to_this_node : (a : Bool) (n : ℕ) → n ≤ 255 → (not (is_gt (ordering_then (bool_cmp true a) (nat_cmp 0 n))) && not (is_gt (ordering_then (bool_cmp a true) (nat_cmp n 255)))) ≡ a
to_this_node false n small = refl
to_this_node true n small =
    let low = not_above 0 n _ _ (omega arith) refl refl in
    let high = not_above n 255 _ _ small refl refl in
    rw (low, high) refl

pub addressed_all : (es : List (IsoKey × Entry)) → AllByRecursion (λ e. key_fits e.0 ≡ true) es
    → AllByRecursion (λ e. is_between cmp (record { addressed = true; source = 0 }) (record { addressed = true; source = 255 }) e ≡ is_addressed e) es
addressed_all [] all = tt
addressed_all (e ∷ es) all = (to_this_node e.0.addressed e.0.source (leb-true _ _ all.0), addressed_all es all.1)

-- ---- a sender's least key
abbrev to_all : ℕ → IsoKey
to_all n = record { addressed = false; source = n }

abbrev to_one : ℕ → IsoKey
to_one n = record { addressed = true; source = n }

-- the one to all, or else the one to this node
abbrev first_of : ℕ → Option Entry → Option Entry → Option (IsoKey × Entry)
first_of n (Some w) o = Some (to_all n, w)
first_of n None (Some w) = Some (to_one n, w)
first_of n None None = None

none_below : (k x : IsoKey) (es : List (IsoKey × Entry)) → cmp k x ≡ Less → AllByRecursion (λ d. cmp x d.0 ≡ Less) es → lookup (is_at (cmp k)) es ≡ None
none_below k x [] less all = refl
none_below k x (e ∷ es) less all = rw (keys_total.trans k x e.0 less all.0) (none_below k x es less all.1)

apart_by : (n m : ℕ) (b c : Bool) → nat_lt n m ≡ b → (n == m) ≡ c → (m == n) ≡ false → is_eq (nat_cmp n m) ≡ false
apart_by n m true c less same other = simp less
apart_by n m false true less same other = let is = eqb-true n m same in absurd (eqb-false m n other (omega (arith, is)))
apart_by n m false false less same other = simp (less, same)

here_by : (n m : ℕ) (b c : Bool) → nat_lt n m ≡ b → (n == m) ≡ c → (m == n) ≡ true → is_eq (nat_cmp n m) ≡ true
here_by n m true c less same equal = let under = ltb-true n m less in let is = eqb-true m n equal in absurd (omega (arith, under, is))
here_by n m false true less same equal = simp (less, same)
here_by n m false false less same equal = let is = eqb-true m n equal in absurd (eqb-false n m same (omega (arith, is)))

entry_same : (a : Bool) (m n : ℕ) (w : Entry) → m ≡ n → let d : IsoKey × Entry = (record { addressed = a; source = m }, w) in let e : IsoKey × Entry = (record { addressed = a; source = n }, w) in d ≡ e
entry_same a m n w same = rw same refl

found_from : (n : ℕ) (es : List (IsoKey × Entry)) → IsOrdered cmp es → find (is_from n) es ≡ first_of n (lookup (is_at (cmp (to_all n))) es) (lookup (is_at (cmp (to_one n))) es)
found_from n [] sorted = refl
found_from n (d ∷ es) sorted = by d.0.addressed d.0.source d.1 (d.0.source == n) refl sorted (found_from n es sorted.1)
  where
    by : (a : Bool) (m : ℕ) (w : Entry) (b : Bool) → (m == n) ≡ b → IsOrdered cmp ((record { addressed = a; source = m }, w) ∷ es)
        → find (is_from n) es ≡ first_of n (lookup (is_at (cmp (to_all n))) es) (lookup (is_at (cmp (to_one n))) es)
        → find (is_from n) ((record { addressed = a; source = m }, w) ∷ es)
        ≡ first_of n (lookup (is_at (cmp (to_all n))) ((record { addressed = a; source = m }, w) ∷ es)) (lookup (is_at (cmp (to_one n))) ((record { addressed = a; source = m }, w) ∷ es))
    by false m w false eb sorted rest = let other = apart_by n m _ _ refl refl eb in rw (eb, other) rest
    by true m w false eb sorted rest = let other = apart_by n m _ _ refl refl eb in rw (eb, other) rest
    by false m w true eb sorted rest = let here = here_by n m _ _ refl refl eb in rw (eb, here) (ap Some (entry_same false m n w (eqb-true m n eb)))
    by true m w true eb sorted rest =
        let here = here_by n m _ _ refl refl eb in
        let none = none_below (to_all n) (to_one m) es refl sorted.0 in
        rw (eb, here, none) (ap Some (entry_same true m n w (eqb-true m n eb)))

ended_by : (s : SlotMap IsoKey) (n : ℕ) (k : IsoKey) (o : Option Entry) → IsMap cmp s → entry_at cmp s k ≡ o → find (is_from n) s.entries ≡ option_map (λ e. (k, e)) o
    → (released cmp s k ≡ without s (is_from n)) × (option_map (λ e. ended_of (k, e)) (entry_at cmp s k) ≡ option_map ended_of (find (is_from n) s.entries))
ended_by s n k None map held none = (released_absent cmp s k (ap is_some held) ∙ sym (ap (with_entries s) (none_found keys_total (is_from n) s.entries none)), rw (held, none) refl)
ended_by s n k (Some e) map held some = (sym (ap (with_entries s) (found keys_total (is_from n) s.entries (k, e) map.ordered some).2), rw (held, some) refl)

-- the sender's least key is that of the first of its sessions
abbrev pub DropsAs : SlotMap IsoKey → ℕ → IsoKey → Type 0
DropsAs s n k = (released cmp s k ≡ without s (is_from n)) × (option_map (λ e. ended_of (k, e)) (entry_at cmp s k) ≡ option_map ended_of (find (is_from n) s.entries))

least_by : (s : SlotMap IsoKey) (n : ℕ) (a b : Option Entry) → IsMap cmp s → entry_at cmp s (to_all n) ≡ a → entry_at cmp s (to_one n) ≡ b → DropsAs s n (least_of cmp s n)
least_by s n (Some w) b map ea eb =
    let least : least_of cmp s n ≡ to_all n = ap (λ (o : Option Entry). record { addressed = not (is_some o); source = n }) ea in
    subst (DropsAs s n) (sym least) (ended_by s n (to_all n) (Some w) map ea (found_from n s.entries map.ordered ∙ ap (λ o. first_of n o (entry_at cmp s (to_one n))) ea))
least_by s n None b map ea eb =
    let least : least_of cmp s n ≡ to_one n = ap (λ (o : Option Entry). record { addressed = not (is_some o); source = n }) ea in
    subst (DropsAs s n) (sym least) (ended_by s n (to_one n) b map eb (found_from n s.entries map.ordered ∙ (ap (λ o. first_of n o (entry_at cmp s (to_one n))) ea ∙ (ap (first_of n None) eb ∙ second n b))))
  where
    second : (n : ℕ) (b : Option Entry) → first_of n None b ≡ option_map (λ e. (to_one n, e)) b
    second n None = refl
    second n (Some w) = refl

pub least_drops : (s : SlotMap IsoKey) (n : ℕ) → IsMap cmp s → DropsAs s n (least_of cmp s n)
least_drops s n map = least_by s n _ _ map refl refl

-- what is left of the sessions of an assembler when one has ended
pub without_sessions : (s : SlotMap IsoKey) (p : IsoKey × Entry → Bool) → AreSessions cmp s → AreSessions cmp (without s p)
without_sessions s p are = record { map = map_without keys_total s p are.map; fit = all_without (λ e. key_fits e.0 ≡ true) p s.entries are.fit }

pub released_sessions : (s : SlotMap IsoKey) (k : IsoKey) → key_fits k ≡ true → AreSessions cmp s → AreSessions cmp (released cmp s k)
released_sessions s k fits are = still_sessions cmp keys_total s (released cmp s k) k fits are (released_keeps keys_total s k are.map.ordered)

pub begun_sessions : (s : SlotMap IsoKey) (k : IsoKey) (e : Entry) → key_fits k ≡ true → AreSessions cmp s → AreSessions cmp (begun_after cmp s k e)
begun_sessions s k e fits are = still_sessions cmp keys_total s (begun_after cmp s k e) k fits are (begun_keeps keys_total s k are.map.ordered e)

pub grown_sessions : (s : SlotMap IsoKey) (k : IsoKey) (next : ℕ) (piece : List ℕ) (moment g : ℕ) → key_fits k ≡ true → AreSessions cmp s → AreSessions cmp (grown_after cmp s k next piece moment g)
grown_sessions s k next piece moment g fits are = still_sessions cmp keys_total s (grown_after cmp s k next piece moment g) k fits are (grown_keeps keys_total s k are.map.ordered next piece moment g)

-- the session that was taken out
pub session_ended : (o : Option (IsoKey × Entry)) (e : Ended IsoKey) (r : IsoEnded) → Some e ≡ option_map slot_ended o
    → r ≡ record { addressed = e.key.addressed; source = e.key.source; pgn = (session_at e.mark).pgn } → Some r ≡ option_map ended_of o
session_ended None e r is shown = cc
session_ended (Some d) e r is shown = let same : e ≡ slot_ended d = cc in ap Some (shown ∙ ap (λ (x : Ended IsoKey). record { addressed = x.key.addressed; source = x.key.source; pgn = (session_at x.mark).pgn }) same)

pub none_ended : (o : Option (IsoKey × Entry)) → None ≡ option_map slot_ended o → None ≡ option_map ended_of o
none_ended None is = refl
none_ended (Some d) is = cc
