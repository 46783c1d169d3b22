-- Calls that fail by their numbers.
use Rattle.std.proofs.Common.{◌≡◌, ℕ, zero, suc, ◌+◌, ◌-◌, ◌<◌, ◌≤◌, Bool, true, false, cond, List, [], ◌∷◌, ◌++◌, inl, inr, refl, sym, ap, subst, ◌∙◌, arith}
use Rattle.std.specs.Prelude.{Option, Some, None, Result, Ok, Err, IsSome, min, nat_le}
use Rattle.std.specs.Global.{Vec}
use Rattle.std.proofs.lemmas.Bool.{cases_lt, leb-false}
use Rattle.gate_outside.specs.declared.Failed.{Failed}
use Rattle.gate_outside.specs.declared.link.Arrival.{Arrival}
use Rattle.gate_outside.specs.declared.load_fault.LoadFault.{LoadFault}
use Rattle.gate_outside.specs.Faults.{HasCause, Script, last_count, one_more, fails_next, after_call}
use Rattle.gate_outside.specs.Link.{Handed, Outcome, Traffic, Attachment, GoesOn, Receives, Sends, received_also, handed_also, failed_also, outcome_of}
use Rattle.gate_outside.specs.LinkMemory.{HandedOver, arrival_at, told_after}
use Rattle.gate_outside.specs.MemFile.{Gives}
use Rattle.gate_outside.specs.MemLink.{MemTraffic, fails_at, failed_of, outcome_at, outcomes, failures, mem_told_by, mem_traffic_of, after_receive, after_send, handed_over, FailsBy, GivesNext}
use Rattle.gate_outside.proofs.Arrivals.{outcome_is}

-- ---- how many calls failed

one_within : (failed count : ℕ) (b : Bool) → failed ≤ count → failed + cond b 1 0 ≤ suc count
one_within failed count true le = omega (arith, le)
one_within failed count false le = omega (arith, le)

failed_within : (failing : List ℕ) (count : ℕ) → failed_of failing count ≤ count
failed_within failing zero = omega arith
failed_within failing (suc count) = one_within (failed_of failing count) count (fails_at failing (count + 1)) (failed_within failing count)

next_count : (count : ℕ) → nat_le last_count count ≡ false → one_more count ≡ suc count
next_count count small = omega (arith, leb-false last_count count small)

failed_next : (failed next : ℕ) (b : Bool) → (next ≡ failed + 1) → cond b next failed ≡ failed + cond b 1 0
failed_next failed next true is = is
failed_next failed next false is = omega arith

pub still_counted : (s new : Script) → new ≡ after_call s (fails_next s) → nat_le last_count s.calls ≡ false → s.faults ≡ failed_of s.failing s.calls
    → new.faults ≡ failed_of new.failing new.calls
still_counted s new is small counted =
    let within : s.faults < last_count = omega (arith, counted, failed_within s.failing s.calls, leb-false last_count s.calls small) in
    let raised : one_more s.faults ≡ s.faults + 1 = omega (arith, within) in
    let here : cond (fails_next s) (one_more s.faults) s.faults ≡ s.faults + cond (fails_next s) 1 0 = failed_next s.faults (one_more s.faults) (fails_next s) raised in
    let there : failed_of s.failing (one_more s.calls) ≡ failed_of s.failing (suc s.calls) = ap (λ (n : ℕ). failed_of s.failing n) (next_count s.calls small) in
    let old : s.faults + cond (fails_next s) 1 0 ≡ failed_of s.failing s.calls + cond (fails_next s) 1 0 = ap (λ (n : ℕ). n + cond (fails_next s) 1 0) counted in
    subst (λ (t : Script). t.faults ≡ failed_of t.failing t.calls) (sym is) (here ∙ (old ∙ sym there))

-- the count of a link after a call that failed, and after one that didn't
pub raised : {T : Type 0} (before base : ℕ) (fault : Failed) → HasCause {T = T} {E = Failed} (min (base + before) last_count) (min (base + one_more before) last_count) (Err fault)
raised before base fault = record {
  never_falls = omega arith;
  rose = elim (cases_lt (min (base + before) last_count) (min (base + one_more before) last_count)) [ inl lt ↦ inl lt | inr le ↦ inr (omega (arith, le)) ];
  steady = tt;
}

pub stayed : {T : Type 0} (count : ℕ) (value : T) → HasCause {T = T} {E = Failed} count count (Ok value)
stayed count value = record { never_falls = omega arith; rose = tt; steady = refl }

-- what is told after a call was told before it
pub told_before : (stops : Bool) (handed : Option (List Handed)) → IsSome (cond stops None handed) → (stops ≡ false) × IsSome handed
told_before true handed some = absurd cc
told_before false handed some = (refl, some)

pub told_before_more : (handed : Option (List Handed)) (room most : ℕ) (pair : Handed) → IsSome (told_after handed room most pair) → IsSome handed
told_before_more None room most pair some = some
told_before_more (Some pairs) room most pair some = refl

-- ---- what a receive adds

abbrev either : List (Option (List ℕ)) → ℕ → Bool → Outcome
either script place b = cond b (Err record {}) (Ok (arrival_at script place))

outcome_is_next : (m : MemTraffic) (buffer : List ℕ) (b : Bool) (result : Result Arrival Failed) → GivesNext m buffer b result
    → outcome_of buffer result ≡ either m.script (m.receives.calls - m.receives.faults) b
outcome_is_next m buffer true (Ok arrival) h = absurd h
outcome_is_next m buffer true (Err e) h = refl
outcome_is_next m buffer false (Ok arrival) h = outcome_is buffer (arrival_at m.script (m.receives.calls - m.receives.faults)) arrival h
outcome_is_next m buffer false (Err e) h = absurd h

one_outcome_more : (m : MemTraffic) (buffer : List ℕ) (result : Result Arrival Failed) → m.receives.faults ≡ failed_of m.receives.failing m.receives.calls
    → GivesNext m buffer (fails_next m.receives) result → outcome_of buffer result ≡ outcome_at m.script m.receives.failing m.receives.calls
one_outcome_more m buffer result counted gives =
    outcome_is_next m buffer (fails_next m.receives) result gives
    ∙ ap (λ (n : ℕ). either m.script (m.receives.calls - n) (fails_next m.receives)) counted

abbrev made : List Outcome → List Handed → List Bool → Option Attachment → Traffic
made received handed sends attached = record { received = received; handed = handed; sends = sends; attached = attached }

abbrev received_so : MemTraffic → ℕ → Option (List Handed) → Option Traffic
received_so m calls None = None
received_so m calls (Some pairs) = Some (made (outcomes m.script m.receives.failing calls) pairs (failures m.sends.failing m.sends.calls) m.attached)

goes_on_received : (m : MemTraffic) (o : Outcome) (calls : ℕ) (handed : Option (List Handed)) (b : Bool)
    → (b ≡ false → IsSome handed → (calls ≡ suc m.receives.calls) × (o ≡ outcome_at m.script m.receives.failing m.receives.calls))
    → GoesOn (received_also o) (mem_told_by m handed) (received_so m calls (cond b None handed))
goes_on_received m o calls handed true h = tt
goes_on_received m o calls None false h = tt
goes_on_received m o calls (Some pairs) false h =
    let facts = h refl refl in
    let grown : outcomes m.script m.receives.failing calls ≡ outcomes m.script m.receives.failing m.receives.calls ++ o ∷ [] =
    ap (λ (n : ℕ). outcomes m.script m.receives.failing n) facts.0
    ∙ ap (λ (x : Outcome). outcomes m.script m.receives.failing m.receives.calls ++ x ∷ []) (sym facts.1) in
    ap (λ (r : List Outcome). made r pairs (failures m.sends.failing m.sends.calls) m.attached) grown

told_after_receive : (m : MemTraffic) (handed : Option (List Handed)) → mem_told_by (after_receive m) handed ≡ received_so m (one_more m.receives.calls) handed
told_after_receive m None = refl
told_after_receive m (Some pairs) = refl

pub told_received : (m new : MemTraffic) (buffer : List ℕ) (result : Result Arrival Failed) → new ≡ after_receive m
    → (IsSome m.over.handed → m.receives.faults ≡ failed_of m.receives.failing m.receives.calls) → GivesNext m buffer (fails_next m.receives) result
    → Receives buffer (mem_traffic_of m) (mem_traffic_of new) result
told_received m new buffer result is counted gives =
    let told = cond (nat_le last_count m.receives.calls) None m.over.handed in
    let so = goes_on_received m (outcome_of buffer result) (one_more m.receives.calls) m.over.handed (nat_le last_count m.receives.calls)
    (λ small some. (next_count m.receives.calls small, one_outcome_more m buffer result (counted some) gives)) in
    let step = subst (λ (t : Option Traffic). GoesOn (received_also (outcome_of buffer result)) (mem_traffic_of m) t) (sym (told_after_receive m told)) so in
    subst (λ (n : MemTraffic). Receives buffer (mem_traffic_of m) (mem_traffic_of n) result) (sym is) step

-- ---- what a send adds

abbrev sent_so : MemTraffic → ℕ → Option (List Handed) → Option Traffic
sent_so m calls None = None
sent_so m calls (Some pairs) = Some (made (outcomes m.script m.receives.failing m.receives.calls) pairs (failures m.sends.failing calls) m.attached)

abbrev told_next : Option (List Handed) → ℕ → ℕ → Bool → Handed → Option (List Handed)
told_next handed room most true pair = handed
told_next handed room most false pair = told_after handed room most pair

grown_failures : (m : MemTraffic) (calls : ℕ) (b : Bool) → calls ≡ suc m.sends.calls → fails_next m.sends ≡ b
    → failures m.sends.failing calls ≡ failures m.sends.failing m.sends.calls ++ b ∷ []
grown_failures m calls b is failed =
    ap (λ (n : ℕ). failures m.sends.failing n) is ∙ ap (λ (x : Bool). failures m.sends.failing m.sends.calls ++ x ∷ []) failed

goes_on_failed : (m : MemTraffic) (calls : ℕ) (handed : Option (List Handed)) (b : Bool) → fails_next m.sends ≡ true → (b ≡ false → calls ≡ suc m.sends.calls)
    → GoesOn failed_also (mem_told_by m handed) (sent_so m calls (cond b None handed))
goes_on_failed m calls handed true failed h = tt
goes_on_failed m calls None false failed h = tt
goes_on_failed m calls (Some pairs) false failed h =
    ap (λ (f : List Bool). made (outcomes m.script m.receives.failing m.receives.calls) pairs f m.attached) (grown_failures m calls true (h refl) failed)

goes_on_fitting : (m : MemTraffic) (calls : ℕ) (pairs : List Handed) (pair : Handed) (fits : Bool) → fails_next m.sends ≡ false → calls ≡ suc m.sends.calls
    → GoesOn (handed_also pair) (mem_told_by m (Some pairs)) (sent_so m calls (cond fits (Some (pairs ++ pair ∷ [])) None))
goes_on_fitting m calls pairs pair false passed is = tt
goes_on_fitting m calls pairs pair true passed is =
    ap (λ (f : List Bool). made (outcomes m.script m.receives.failing m.receives.calls) (pairs ++ pair ∷ []) f m.attached) (grown_failures m calls false is passed)

goes_on_sent : (m : MemTraffic) (calls : ℕ) (handed : Option (List Handed)) (room most : ℕ) (pair : Handed) (b : Bool) → fails_next m.sends ≡ false
    → (b ≡ false → calls ≡ suc m.sends.calls) → GoesOn (handed_also pair) (mem_told_by m handed) (sent_so m calls (told_after (cond b None handed) room most pair))
goes_on_sent m calls handed room most pair true passed h = tt
goes_on_sent m calls None room most pair false passed h = tt
goes_on_sent m calls (Some pairs) room most pair false passed h = goes_on_fitting m calls pairs pair _ passed (h refl)

goes_on_by : (m : MemTraffic) (pair : Handed) (calls : ℕ) (b failed : Bool) (result : Result (Unit {0}) Failed) → fails_next m.sends ≡ failed
    → (b ≡ false → calls ≡ suc m.sends.calls) → FailsBy failed result
    → Sends pair (mem_traffic_of m) (sent_so m calls (told_next (cond b None m.over.handed) m.over.room m.over.most failed pair)) result
goes_on_by m pair calls b true (Ok done) is next fails = absurd fails
goes_on_by m pair calls b true (Err e) is next fails = goes_on_failed m calls m.over.handed b is next
goes_on_by m pair calls b false (Ok done) is next fails = goes_on_sent m calls m.over.handed m.over.room m.over.most pair b is next
goes_on_by m pair calls b false (Err e) is next fails = absurd fails

told_after_send : (m : MemTraffic) (pair : Handed) (handed : Option (List Handed)) → mem_told_by (after_send m pair) handed ≡ sent_so m (one_more m.sends.calls) handed
told_after_send m pair None = refl
told_after_send m pair (Some pairs) = refl

over_next : (over : HandedOver) (failed : Bool) (pair : Handed) → (handed_over over failed pair).handed ≡ told_next over.handed over.room over.most failed pair
over_next over true pair = refl
over_next over false pair = refl

pub told_sent : (m new : MemTraffic) (pair : Handed) (result : Result (Unit {0}) Failed) → new ≡ after_send m pair → FailsBy (fails_next m.sends) result
    → Sends pair (mem_traffic_of m) (mem_traffic_of new) result
told_sent m new pair result is fails =
    let b = nat_le last_count m.sends.calls in
    let so = goes_on_by m pair (one_more m.sends.calls) b (fails_next m.sends) result refl (λ small. next_count m.sends.calls small) fails in
    let counted : HandedOver = record { handed = cond b None m.over.handed; room = m.over.room; most = m.over.most } in
    let kept : mem_traffic_of (after_send m pair) ≡ sent_so m (one_more m.sends.calls) (told_next (cond b None m.over.handed) m.over.room m.over.most (fails_next m.sends) pair) =
    told_after_send m pair (handed_over counted (fails_next m.sends) pair).handed
    ∙ ap (λ (h : Option (List Handed)). sent_so m (one_more m.sends.calls) h) (over_next counted (fails_next m.sends) pair) in
    subst (λ (n : MemTraffic). Sends pair (mem_traffic_of m) (mem_traffic_of n) result) (sym is)
    (subst (λ (t : Option Traffic). Sends pair (mem_traffic_of m) t result) (sym kept) so)

-- ---- what a load gives

pub loads_as : (content : List ℕ) (b : Bool) (result : Result (Vec ℕ) LoadFault) → b ≡ false → Gives content false result → Gives content b result
loads_as content true result is gives = absurd (cc)
loads_as content false result is gives = gives
