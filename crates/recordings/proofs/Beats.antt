-- Heartbeats are the same with a tick and without it, where they give nothing at that tick. A frame of PGN 126993 goes by the moment at which it
-- was due: if the gateway wasn't ready then, no later event makes it so.
use Rattle.std.proofs.Common.{◌≡◌, ℕ, ◌+◌, ◌-◌, ◌*◌, ◌/◌, ◌≤◌, Bool, true, false, ◌&&◌, [], ◌∷◌, ◌++◌, length, refl, sym, ap, ◌∙◌, arith}
use Rattle.std.specs.Prelude.{nat_lt, nat_le, not, Option, Some, None, is_some, if◌then◌else◌, ◌==◌}
use Rattle.std.proofs.lemmas.Bool.{false≢true, le-ltb, leb-true, lt-ltb, ltb-true}
use Rattle.n2k_id.specs.Frame.{BusFrame}
use Rattle.claim_table.specs.Claims.{Claim, Claims, at_address, at_held, at_other, at_own, by_name, claim, claim_wait, holder_at, is_at, is_ready, moved, next_own, settled, with_taken, without_left}
use Rattle.claim_table.specs.declared.answer.Holder.{Holder}
use Rattle.gate_events.specs.Emit.{Emit}
use Rattle.history.specs.Entries as entry
use Rattle.history.specs.Entries.{Entry, History, moment_of, now, tick}
use Rattle.history.specs.Known.{Known, claim_by, followed_by, is_claim, known}
use Rattle.history.specs.Settings.{Settings, receiver_of}
use Rattle.settings.specs.declared.heartbeat.HeartbeatConfig.{HeartbeatConfig}
use Rattle.settings.specs.declared.heartbeat.NetHeartbeat.{NetHeartbeat}
use Rattle.parts.specs.Compose.{maybe_give}
use Rattle.heartbeats.specs.BeatOut.{beat_from, beat_out, beats_before, claims_after, hbt_before, hbt_emit, hbt_out, is_beat, is_well}
use Rattle.heartbeats.specs.Beats.{Silence, beats_give_by}
use Rattle.heartbeats.specs.Due.{due_by, is_due, last_due}
use Rattle.heartbeats.proofs.DueLemmas.{same_due}
use Rattle.heartbeats.proofs.Grid.{last_by}
use Rattle.recordings.proofs.Gathered.{ap₃, joined, none_left, none_right}
use Rattle.recordings.proofs.Known.{known_without}
use Rattle.recordings.proofs.Quiet.{Follows}

-- ---- who wasn't ready at a moment that has passed never was

module _ (d : ℕ) where
  moved_later : (c : Claims) (m : ℕ) (to : Option ℕ) → d ≤ m → is_ready (moved c m to).after d ≡ true → ⊥
  moved_later c m None le ready = cc
  moved_later c m (Some b) le ready = let late = leb-true (m + claim_wait) d ready in absurd (omega (arith, late, le))

  by_own : (c : Claims) (k : Claim) (b : Bool) → d ≤ k.moment → is_ready (at_own c k b).after d ≡ true → is_ready c d ≡ true
  by_own c k true le ready = ready
  by_own c k false le ready = absurd (moved_later (with_taken c k) k.moment (next_own (with_taken c k) k.address) le ready)

  by_held : (c : Claims) (k : Claim) (h : Holder) (b : Bool) → is_ready (at_held c k h b).after d ≡ true → is_ready c d ≡ true
  by_held c k h true ready = ready
  by_held c k h false ready = ready

  by_other : (c : Claims) (k : Claim) (o : Option Holder) → is_ready (at_other c k o).after d ≡ true → is_ready c d ≡ true
  by_other c k None ready = ready
  by_other c k (Some h) ready = by_held c k h (nat_lt k.name h.name.0) ready

  by_address : (c : Claims) (k : Claim) (b : Bool) → d ≤ k.moment → is_ready (at_address c k b).after d ≡ true → is_ready c d ≡ true
  by_address c k true le ready = by_own c k (nat_lt c.name k.name) le ready
  by_address c k false le ready = by_other c k (holder_at c.holders k.address) ready

  by_settled : (c : Claims) (k : Claim) (b : Bool) → d ≤ k.moment → is_ready (settled c k b).after d ≡ true → is_ready c d ≡ true
  by_settled c k true le ready = ready
  by_settled c k false le ready = by_address c k (is_at k.address c.own) le ready

  by_names : (c : Claims) (k : Claim) (b : Bool) → d ≤ k.moment → is_ready (by_name c k b).after d ≡ true → is_ready c d ≡ true
  by_names c k true le ready = ready
  by_names c k false le ready = by_settled (without_left c k) k (k.address == 254) le ready

  by_claim : (c : Claims) (k : Claim) → d ≤ k.moment → is_ready (claim c k).after d ≡ true → is_ready c d ≡ true
  unfolding claim
  by_claim c k le ready = by_names c k (k.name == c.name) le ready

  by_frame : (index : ℕ) (k : Known) (m : ℕ) (f : BusFrame) (b : Bool) → d ≤ m
      → is_ready (if b then followed_by index k (claim k.claims (claim_by index m f)).after else k).claims d ≡ true → is_ready k.claims d ≡ true
  by_frame index k m f true le ready = by_claim k.claims (claim_by index m f) le ready
  by_frame index k m f false le ready = ready

-- ---- a tick

same_all : (a b : Bool) → (a ≡ true → b ≡ true) → b ≡ false → a ≡ false
same_all true b to is = let yes = to refl in absurd cc
same_all false b to is = refl

and_false : (a b : Bool) → b ≡ false → (a && b) ≡ false
and_false true b is = is
and_false false b is = refl

and_either : (a b : Bool) → (a && b) ≡ false → a ≡ true → b ≡ false
and_either true b is held = is
and_either false b is held = absurd (false≢true held)

no_emit : (b : Bool) (x : Emit) → (if b then x ∷ [] else []) ≡ [] → b ≡ false
no_emit true x is = absurd cc
no_emit false x is = refl

no_frame : (due late : Bool) (own : Option ℕ) (before : ℕ) → (if due && (is_some own && late) then beat_from own before else []) ≡ [] → (due && (is_some own && late)) ≡ false
no_frame true true (Some own) before is = absurd cc
no_frame true false (Some own) before is = refl
no_frame true late None before is = refl
no_frame false late own before is = refl

counted : (b : Bool) (n k : ℕ) → b ≡ false → n ≡ k → n ≡ (if b then k + 1 else k)
counted true n k none same = absurd cc
counted false n k none same = same

due_behind : (every s m : ℕ) (h : History) (x : Entry) (newer : History) (e : Entry) → is_due every s (x ∷ newer ++ h) e ≡ is_due every s (x ∷ newer ++ tick m ∷ h) e
due_behind every s m h x newer (entry.frame t f) = refl
due_behind every s m h x newer (entry.datagram t bytes) = refl
due_behind every s m h x newer (entry.tick t) = refl
due_behind every s m h x newer (entry.command t source address) = refl

module _ (every s : ℕ) where
  nothing_passed : s - s ≡ 0 - s
  nothing_passed = omega arith

  none_passed : due_by every s s ≡ due_by every s 0
  none_passed = ap (λ (passed : ℕ). passed / (1000000 * every)) nothing_passed

  -- at the moment of the start none is due
  none_at_start : is_due every s [] (tick s) ≡ false
  none_at_start = le-ltb (due_by every s 0) (due_by every s s) (omega (arith, none_passed))

  -- after a tick at which none came due, the same come due
  module _ (m : ℕ) (h : History) (same : due_by every s (now h) ≡ due_by every s m) where
    due_without : (newer : History) (e : Entry) → is_due every s (newer ++ h) e ≡ is_due every s (newer ++ tick m ∷ h) e
    due_without [] (entry.frame t f) = ap (λ (n : ℕ). nat_lt n (due_by every s t)) same
    due_without [] (entry.datagram t bytes) = ap (λ (n : ℕ). nat_lt n (due_by every s t)) same
    due_without [] (entry.tick t) = ap (λ (n : ℕ). nat_lt n (due_by every s t)) same
    due_without [] (entry.command t source address) = refl
    due_without (x ∷ newer) e = due_behind every s m h x newer e

-- ---- on the network

module _ (silent : Silence) (n : NetHeartbeat) (c : Settings) (s m : ℕ) (h : History) (le : now h ≤ m) where
  module _ (steady : (newer : History) (e : Entry) → silent (newer ++ h) e ≡ silent (newer ++ tick m ∷ h) e) (none : hbt_out silent n c s h (tick m) ≡ []) where
    none_due : is_due n.every_s s h (tick m) ≡ false
    none_due = no_emit (is_due n.every_s s h (tick m)) (hbt_emit n c.sfi (is_well silent c s h (tick m)) (hbt_before n c s h)) none

    hbt_due : (newer : History) (e : Entry) → is_due n.every_s s (newer ++ h) e ≡ is_due n.every_s s (newer ++ tick m ∷ h) e
    hbt_due = due_without n.every_s s m h (same_due n.every_s s (now h) m le none_due)

    hbt_count : (newer : History) → hbt_before n c s (newer ++ h) ≡ hbt_before n c s (newer ++ tick m ∷ h)
    hbt_count [] = counted (is_due n.every_s s h (tick m)) (hbt_before n c s h) (hbt_before n c s h) none_due refl
    hbt_count (e ∷ newer) =
        ap (λ (b : Bool). if b then hbt_before n c s (newer ++ h) + 1 else hbt_before n c s (newer ++ h)) (hbt_due newer e)
        ∙ ap (λ (k : ℕ). if is_due n.every_s s (newer ++ tick m ∷ h) e then k + 1 else k) (hbt_count newer)

    own_without : (newer : History) → (claims_after c s (newer ++ h)).own ≡ (claims_after c s (newer ++ tick m ∷ h)).own
    own_without newer = ap (λ (k : Known). k.claims.own) (known_without (receiver_of c) s m h newer)

    well_without : (newer : History) (e : Entry) → is_well silent c s (newer ++ h) e ≡ is_well silent c s (newer ++ tick m ∷ h) e
    well_without newer e =
        ap (λ (own : Option ℕ). is_some own && not (silent (newer ++ h) e)) (own_without (e ∷ newer))
        ∙ ap (λ (b : Bool). is_some (claims_after c s (e ∷ newer ++ tick m ∷ h)).own && not b) (steady newer e)

    pub hbt_without : (newer : History) (e : Entry) → hbt_out silent n c s (newer ++ h) e ≡ hbt_out silent n c s (newer ++ tick m ∷ h) e
    hbt_without newer e =
        ap₃ (λ (due well : Bool) (before : ℕ). if due then hbt_emit n c.sfi well before ∷ [] else []) (hbt_due newer e) (well_without newer e) (hbt_count newer)

pub hbt_first : (silent : Silence) (n : NetHeartbeat) (c : Settings) (s : ℕ) → hbt_out silent n c s [] (tick s) ≡ []
hbt_first silent n c s = ap (λ (b : Bool). if b then hbt_emit n c.sfi (is_well silent c s [] (tick s)) 0 ∷ [] else []) (none_at_start n.every_s s)

-- ---- on the bus

-- each of these comes after the first one, if there is one, which isn't earlier than the tick
abbrev AllFollow : ℕ → History → Type 0
AllFollow m [] = Unit {0}
AllFollow m (e ∷ newer) = Follows m newer e

others_follow : (m : ℕ) (newer : History) (e : Entry) → Follows m newer e → AllFollow m newer
others_follow m [] e follow = tt
others_follow m (x ∷ newer) e follow = follow

module _ (every : ℕ) (c : Settings) (s m : ℕ) (h : History) (le : now h ≤ m) (none : beat_out every c s h (tick m) ≡ []) where
  abbrev due_at : ℕ → ℕ
  due_at = due_by every s

  none_sent : is_beat every c s h (tick m) ≡ false
  none_sent =
      let k = claims_after c s h in
      no_frame (is_due every s h (tick m)) (nat_le (k.counted_from + claim_wait) (last_due every s m)) k.own (beats_before every c s h) none

  ready_without : (newer : History) (d : ℕ) → is_ready (claims_after c s (newer ++ h)) d ≡ is_ready (claims_after c s (newer ++ tick m ∷ h)) d
  ready_without newer d = ap (λ (k : Known). is_ready k.claims d) (known_without (receiver_of c) s m h newer)

  -- the first event after the tick
  module _ (t : ℕ) (from : m ≤ t) (ready behind : Bool) (alike : ready ≡ behind)
      (stays : last_due every s t ≤ t → ready ≡ true → is_ready (claims_after c s h) (last_due every s t) ≡ true) where
    -- nothing more was due at the event than at the tick, and the gateway wasn't ready: it isn't sent after it either
    never_ready : nat_lt (due_at (now h)) (due_at m) ≡ true → nat_lt (due_at m) (due_at t) ≡ false → ready ≡ false
    never_ready came none_came =
        let as_many = same_due every s m t from none_came in
        let unready = and_either (is_due every s h (tick m)) (is_ready (claims_after c s h) (last_due every s m)) none_sent came in
        let more = ltb-true (due_at (now h)) (due_at m) came in
        same_all ready (is_ready (claims_after c s h) (last_due every s t)) (stays (last_by every s t (omega (arith, more, as_many))))
        (ap (λ (k : ℕ). is_ready (claims_after c s h) (s + 1000000 * every * k)) (sym as_many) ∙ unready)

    by_both : (b : Bool) → nat_lt (due_at (now h)) (due_at m) ≡ true → nat_lt (due_at m) (due_at t) ≡ b
        → (nat_lt (due_at (now h)) (due_at t) && ready) ≡ (nat_lt (due_at m) (due_at t) && behind)
    by_both true came more =
        let up = lt-ltb (due_at (now h)) (due_at t) (omega (arith, ltb-true (due_at (now h)) (due_at m) came, ltb-true (due_at m) (due_at t) more)) in
        ap (λ (b : Bool). b && ready) up ∙ alike ∙ sym (ap (λ (b : Bool). b && behind) more)
    by_both false came more =
        let never = never_ready came more in
        and_false (nat_lt (due_at (now h)) (due_at t)) ready never ∙ sym (and_false (nat_lt (due_at m) (due_at t)) behind (sym alike ∙ never))

    first_alike : (b : Bool) → nat_lt (due_at (now h)) (due_at m) ≡ b → (nat_lt (due_at (now h)) (due_at t) && ready) ≡ (nat_lt (due_at m) (due_at t) && behind)
    first_alike true came = by_both (nat_lt (due_at m) (due_at t)) came refl
    first_alike false came =
        ap (λ (k : ℕ). nat_lt k (due_at t) && ready) (same_due every s (now h) m le came) ∙ ap (λ (b : Bool). nat_lt (due_at m) (due_at t) && b) alike

  abbrev ready_at : Entry → Bool
  ready_at e = is_ready (claims_after c s (e ∷ h)) (last_due every s (moment_of e))

  abbrev ready_then : Entry → Bool
  ready_then e = is_ready (claims_after c s (e ∷ tick m ∷ h)) (last_due every s (moment_of e))

  beat_without : (newer : History) (e : Entry) → Follows m newer e → is_beat every c s (newer ++ h) e ≡ is_beat every c s (newer ++ tick m ∷ h) e
  beat_without [] (entry.frame t f) from =
      let e = entry.frame t f in
      first_alike t from (ready_at e) (ready_then e) (ready_without (e ∷ []) (last_due every s t))
      (λ le ready. by_frame (last_due every s t) (length h) (known (receiver_of c) s h) t f (is_claim f) le ready) (nat_lt (due_at (now h)) (due_at m)) refl
  beat_without [] (entry.datagram t bytes) from =
      let e = entry.datagram t bytes in
      first_alike t from (ready_at e) (ready_then e) (ready_without (e ∷ []) (last_due every s t)) (λ le ready. ready) (nat_lt (due_at (now h)) (due_at m)) refl
  beat_without [] (entry.tick t) from =
      first_alike t from (ready_at (tick t)) (ready_then (tick t)) (ready_without (tick t ∷ []) (last_due every s t)) (λ le ready. ready)
      (nat_lt (due_at (now h)) (due_at m)) refl
  beat_without [] (entry.command t source address) from = refl
  beat_without (x ∷ newer) e from =
      ap (λ (b : Bool). b && is_ready (claims_after c s (e ∷ x ∷ newer ++ h)) (last_due every s (moment_of e))) (due_behind every s m h x newer e)
      ∙ ap (λ (b : Bool). is_due every s (x ∷ newer ++ tick m ∷ h) e && b) (ready_without (e ∷ x ∷ newer) (last_due every s (moment_of e)))

  beats_count : (newer : History) → AllFollow m newer → beats_before every c s (newer ++ h) ≡ beats_before every c s (newer ++ tick m ∷ h)
  beats_count [] follow = counted (is_beat every c s h (tick m)) (beats_before every c s h) (beats_before every c s h) none_sent refl
  beats_count (e ∷ newer) follow =
      ap (λ (b : Bool). if b then beats_before every c s (newer ++ h) + 1 else beats_before every c s (newer ++ h)) (beat_without newer e follow)
      ∙ ap (λ (k : ℕ). if is_beat every c s (newer ++ tick m ∷ h) e then k + 1 else k) (beats_count newer (others_follow m newer e follow))

  pub sent_without : (newer : History) (e : Entry) → Follows m newer e → beat_out every c s (newer ++ h) e ≡ beat_out every c s (newer ++ tick m ∷ h) e
  sent_without newer e follow =
      ap₃ (λ (b : Bool) (own : Option ℕ) (before : ℕ). if b then beat_from own before else []) (beat_without newer e follow)
      (ap (λ (k : Known). k.claims.own) (known_without (receiver_of c) s m h (e ∷ newer))) (beats_count newer (others_follow m newer e follow))

pub sent_first : (every : ℕ) (c : Settings) (s : ℕ) → beat_out every c s [] (tick s) ≡ []
sent_first every c s =
    ap (λ (b : Bool). if b && is_ready (claims_after c s (tick s ∷ [])) (last_due every s s) then beat_from (claims_after c s (tick s ∷ [])).own 0 else [])
    (none_at_start every s)

-- ---- both

net_first : (silent : Silence) (n : Option NetHeartbeat) (c : Settings) (s : ℕ) → maybe_give (hbt_out silent) n c s [] (tick s) ≡ []
net_first silent None c s = refl
net_first silent (Some n) c s = hbt_first silent n c s

bus_first : (every : Option ℕ) (c : Settings) (s : ℕ) → maybe_give beat_out every c s [] (tick s) ≡ []
bus_first None c s = refl
bus_first (Some every) c s = sent_first every c s

pub beats_first : (silent : Silence) (b : HeartbeatConfig) (c : Settings) (s : ℕ) → beats_give_by silent b c s [] (tick s) ≡ []
beats_first silent b c s = joined (net_first silent b.net c s) (bus_first b.bus_every_s c s)

module _ (silent : Silence) (c : Settings) (s m : ℕ) (h : History) (le : now h ≤ m)
    (steady : (newer : History) (e : Entry) → silent (newer ++ h) e ≡ silent (newer ++ tick m ∷ h) e) where
  net_without : (n : Option NetHeartbeat) → maybe_give (hbt_out silent) n c s h (tick m) ≡ [] → (newer : History) (e : Entry)
      → maybe_give (hbt_out silent) n c s (newer ++ h) e ≡ maybe_give (hbt_out silent) n c s (newer ++ tick m ∷ h) e
  net_without None none newer e = refl
  net_without (Some n) none newer e = hbt_without silent n c s m h le steady none newer e

  bus_without : (every : Option ℕ) → maybe_give beat_out every c s h (tick m) ≡ [] → (newer : History) (e : Entry) → Follows m newer e
      → maybe_give beat_out every c s (newer ++ h) e ≡ maybe_give beat_out every c s (newer ++ tick m ∷ h) e
  bus_without None none newer e follow = refl
  bus_without (Some every) none newer e follow = sent_without every c s m h le none newer e follow

  pub beats_without : (b : HeartbeatConfig) → beats_give_by silent b c s h (tick m) ≡ [] → (newer : History) (e : Entry) → Follows m newer e
      → beats_give_by silent b c s (newer ++ h) e ≡ beats_give_by silent b c s (newer ++ tick m ∷ h) e
  beats_without b none newer e follow =
      let net = maybe_give (hbt_out silent) b.net c s h (tick m) in
      let bus = maybe_give beat_out b.bus_every_s c s h (tick m) in
      joined (net_without b.net (none_left net bus none) newer e) (bus_without b.bus_every_s (none_right net bus none) newer e follow)
