-- Due moments: one came due at an event exactly where more are due up to it than up to what was before; and no more are given than are due.
use Rattle.std.proofs.Common.{◌≡◌, ℕ, zero, suc, ◌+◌, ◌-◌, ◌*◌, ◌/◌, ◌<◌, ◌≤◌, Bool, true, false, [], ◌∷◌, refl, ap, arith}
use Rattle.std.specs.Prelude.{nat_lt, if◌then◌else◌}
use Rattle.std.proofs.Math.Nat.{mul_comm}
use Rattle.std.proofs.lemmas.Bool.{lt-ltb, ltb-false, ltb-true}
use Rattle.std.proofs.lemmas.Nat.{div_below, le-div, mul-le}
use Rattle.gate_events.specs.Emit.{Emit}
use Rattle.history.specs.Entries as entry
use Rattle.history.specs.Entries.{Entry, History, IsHistory, IsTimely, moment_of, now}
use Rattle.history.specs.EntryLaws.{IsEvent}
use Rattle.heartbeats.specs.Due.{due_by, is_due, last_due}
use Rattle.heartbeats.specs.Laws.{CameDue, IsDueMoment, IsLastDue, IsOneWhere, moment_before}
use Rattle.heartbeats.proofs.DueLemmas.{due_up, whole_intervals}

-- ---- numbers: s the start, k an interval, n or q how many of them

passed_some : (s m k q : ℕ) → 1 ≤ k → 1 ≤ q → k * q ≤ m - s → s + k * q ≤ m
passed_some s m k q some more le = omega (arith, le, mul-le 1 1 k q some more)

below_next : (s b k q : ℕ) → 1 ≤ k → (b - s) / k < q → b < s + k * q
below_next s b k q some grew = by (nat_lt b (s + k * q)) refl where
  by : (found : Bool) → nat_lt b (s + k * q) ≡ found → b < s + k * q
  by true is = ltb-true b (s + k * q) is
  by false is = absurd (omega (arith, grew, le-div q (b - s) k (omega (arith, some)) (omega (arith, ltb-false b (s + k * q) is, mul_comm k q))))

many_passed : (s m k n : ℕ) → 1 ≤ k → s + k * n ≤ m → n ≤ (m - s) / k
many_passed s m k n some le = le-div n (m - s) k (omega (arith, some)) (omega (arith, le, mul_comm k n))

few_passed : (s b k n : ℕ) → 1 ≤ k → 1 ≤ n → b < s + k * n → (b - s) / k < n
few_passed s b k n some more le = div_below (b - s) k n (omega (arith, some)) (omega (arith, le, mul_comm k n, mul-le 1 1 k n some more))

-- ---- one came due

module _ (every s : ℕ) (some : 1 ≤ every) where
  abbrev interval : ℕ
  interval = 1000000 * every

  long : 1 ≤ interval
  long = omega (arith, some)

  before_next : (h : History) (m : ℕ) → due_by every s (now h) < due_by every s m → moment_before s h < last_due every s m
  before_next [] m grew = below_next s s interval (due_by every s m) long (omega (arith, grew, few_passed s s interval 1 long (omega arith) (omega (arith, long))))
  before_next (e ∷ h) m grew = below_next s (moment_of e) interval (due_by every s m) long grew

  last_is_due : (m : ℕ) → 1 ≤ due_by every s m → IsDueMoment every s (last_due every s m)
  last_is_due m more = record { number = due_by every s m; some = more; at = refl }

  last_passed : (m : ℕ) → 1 ≤ due_by every s m → last_due every s m ≤ m
  last_passed m more = passed_some s m interval (due_by every s m) long more (whole_intervals (m - s) interval)

  pub came_due : (h : History) (m : ℕ) → nat_lt (due_by every s (now h)) (due_by every s m) ≡ true → CameDue every s (moment_before s h) m
  came_due h m is =
      let grew = ltb-true (due_by every s (now h)) (due_by every s m) is in
      let more : 1 ≤ due_by every s m = omega (arith, grew) in
      record { due = last_due every s m; is = last_is_due m more; after = before_next h m grew; by = last_passed m more }

  due_before : (h : History) (n : ℕ) → 1 ≤ n → moment_before s h < s + interval * n → due_by every s (now h) < n
  due_before [] n more le = few_passed s 0 interval n long more (omega (arith, le))
  due_before (e ∷ h) n more le = few_passed s (moment_of e) interval n long more le

  pub is_due_by : (h : History) (m : ℕ) → CameDue every s (moment_before s h) m → nat_lt (due_by every s (now h)) (due_by every s m) ≡ true
  is_due_by h m came =
      let n = came.is.number in
      let first = due_before h n came.is.some (omega (arith, came.is.at, came.after)) in
      lt-ltb (due_by every s (now h)) (due_by every s m) (omega (arith, first, many_passed s m interval n long (omega (arith, came.is.at, came.by))))

  -- ---- the last one

  pub is_last : (m : ℕ) → 1 ≤ due_by every s m → IsLastDue every s m (last_due every s m)
  is_last m more = record {
    is = last_is_due m more;
    by = last_passed m more;
    last = λ other is by.
        let few = many_passed s m interval is.number long (omega (arith, is.at, by)) in
        omega (arith, is.at, mul-le interval is.number interval (due_by every s m) (omega arith) few);
  }

  pub one_last : (m due : ℕ) → 1 ≤ due_by every s m → IsLastDue every s m due → due ≡ last_due every s m
  one_last m due more last =
      let mine = is_last m more in
      omega (arith, mine.last due last.is last.by, last.last (last_due every s m) mine.is mine.by)

some_seconds : (every s m : ℕ) → 1 ≤ due_by every s m → 1 ≤ every
some_seconds zero s m more = omega (arith, more)
some_seconds (suc every) s m more = omega arith

-- the last one up to a moment isn't later than it
pub last_by : (every s m : ℕ) → 1 ≤ due_by every s m → last_due every s m ≤ m
last_by every s m more = last_passed every s (some_seconds every s m more) m more

-- ---- at an event

pub due_of_event : (every s : ℕ) (h : History) (e : Entry) → IsEvent e → is_due every s h e ≡ nat_lt (due_by every s (now h)) (due_by every s (moment_of e))
due_of_event every s h (entry.frame m f) is = refl
due_of_event every s h (entry.datagram m bytes) is = refl
due_of_event every s h (entry.tick m) is = refl
due_of_event every s h (entry.command m source address) is = absurd is

pub one_if : (it : Type 0) (b : Bool) (x : Emit) → (b ≡ true → it) → (it → b ≡ true) → IsOneWhere it (if b then x ∷ [] else [])
one_if it true x to from = record { most = omega arith; one = (λ is. to refl, λ p. refl) }
one_if it false x to from = record { most = omega arith; one = (λ is. absurd cc, λ p. let never = from p in absurd cc) }

-- ---- how many there are

step_more : (b : Bool) (count x y : ℕ) → (b ≡ true → x < y) → x ≤ y → (if b then count + 1 else count) + x ≤ count + y
step_more true count x y grew le = omega (arith, grew refl)
step_more false count x y grew le = omega (arith, le)

-- an entry has at most one, where its count of due moments grew
pub entry_more : (every s : ℕ) (h : History) (e : Entry) (b : Bool) (count : ℕ) → IsTimely h e → (b ≡ true → is_due every s h e ≡ true)
    → (if b then count + 1 else count) + due_by every s (now h) ≤ count + due_by every s (moment_of e)
entry_more every s h (entry.frame m f) b count timely due =
    step_more b count (due_by every s (now h)) (due_by every s m) (λ is. ltb-true _ _ (due is)) (due_up every s (now h) m timely)
entry_more every s h (entry.datagram m bytes) b count timely due =
    step_more b count (due_by every s (now h)) (due_by every s m) (λ is. ltb-true _ _ (due is)) (due_up every s (now h) m timely)
entry_more every s h (entry.tick m) b count timely due =
    step_more b count (due_by every s (now h)) (due_by every s m) (λ is. ltb-true _ _ (due is)) (due_up every s (now h) m timely)
entry_more every s h (entry.command m source address) b count timely due =
    step_more b count (due_by every s (now h)) (due_by every s m) (λ is. let never = due is in absurd cc) (omega (arith, ap (due_by every s) timely))
