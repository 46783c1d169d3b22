-- The places of entries in a history of which one is left out, and that no comparison sees it.
use Rattle.std.proofs.Common.{◌≡◌, ◌≢◌, ℕ, suc, ◌-◌, ◌<◌, ◌≤◌, [], ◌∷◌, ◌++◌, length, inl, inr, refl, sym, ap, ◌∙◌, nat_le, nat_lt, arith}
use Rattle.std.specs.Prelude.{if◌then◌else◌}
use Rattle.std.proofs.lemmas.Bool.{cases_lt, le-leb, lt-leb, lt-ltb, le-ltb}
use Rattle.history.specs.Entries.{History, tick}

-- without the entry at n, what stands behind it has a place less
abbrev pub closed : ℕ → ℕ → ℕ
closed n i = if nat_lt n i then i - 1 else i

pub closed_before : (n i : ℕ) → i ≤ n → closed n i ≡ i
closed_before n i le = rw (le-ltb n i le) refl

pub closed_behind : (n j : ℕ) → n ≤ j → closed n (suc j) ≡ j
closed_behind n j le = rw (lt-ltb n (suc j) (omega arith)) (omega arith)

-- the order of two places stays, where the second isn't the one that is left out
closed_le : (n a b : ℕ) → a ≤ b → closed n a ≤ closed n b
closed_le n a b le = elim (cases_lt n a) [
  | inl behind ↦ rw (lt-ltb n a behind, lt-ltb n b (omega arith)) (omega arith)
  | inr before ↦ elim (cases_lt n b) [
    | inl behind ↦ rw (le-ltb n a before, lt-ltb n b behind) (omega arith)
    | inr too ↦ rw (le-ltb n a before, le-ltb n b too) le
  ]
]

closed_lt : (n a b : ℕ) → b < a → b ≢ n → closed n b < closed n a
closed_lt n a b lt apart = elim (cases_lt n a) [
  | inl behind ↦ elim (cases_lt n b) [
    | inl too ↦ rw (lt-ltb n a behind, lt-ltb n b too) (omega arith)
    | inr before ↦ rw (lt-ltb n a behind, le-ltb n b before) (omega (arith, apart))
  ]
  | inr before ↦ rw (le-ltb n a before, le-ltb n b (omega arith)) lt
]

pub closed_order : (n since index : ℕ) → index ≢ n → nat_le (closed n since) (closed n index) ≡ nat_le since index
closed_order n since index apart = elim (cases_lt index since) [
  | inl later ↦ lt-leb (closed n since) (closed n index) (closed_lt n since index later apart) ∙ sym (lt-leb since index later)
  | inr held ↦ le-leb (closed n since) (closed n index) (closed_le n since index held) ∙ sym (le-leb since index held)
]

-- ---- a history with a tick somewhere in it, and the same without it

pub grown : (newer : History) (m : ℕ) (h : History) → length (newer ++ tick m ∷ h) ≡ suc (length (newer ++ h))
grown [] m h = refl
grown (e ∷ newer) m h = ap suc (grown newer m h)

pub under : (newer h : History) → length h ≤ length (newer ++ h)
under [] h = omega arith
under (e ∷ newer) h = omega (arith, under newer h)

pub place_of : (newer : History) (m : ℕ) (h : History) → closed (length h) (length (newer ++ tick m ∷ h)) ≡ length (newer ++ h)
place_of newer m h = ap (closed (length h)) (grown newer m h) ∙ closed_behind (length h) (length (newer ++ h)) (under newer h)

-- where a newer entry stands, the tick doesn't
pub apart_from : (newer : History) (m : ℕ) (h : History) → length (newer ++ tick m ∷ h) ≢ length h
apart_from newer m h same = omega (arith, grown newer m h, under newer h, same)
