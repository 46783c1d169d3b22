-- Frames and reports are no datagrams, and behind them is at most one.
use Rattle.std.proofs.Common.{◌≡◌, ℕ, ◌≤◌, Bool, true, false, List, [], ◌∷◌, ◌++◌, length, map, take, filter, refl, subst, length-append, arith}
use Rattle.gate_events.specs.Emit.{Emit}
use Rattle.gate_outbox.specs.declared.datagram.Datagram.{Datagram}
use Rattle.gate_outbox.specs.declared.kept.Kept.{Kept}
use Rattle.gate_outbox.specs.declared.kept.Kept.TheVariants as kept
use Rattle.gate_outbox.specs.Kept.{first_emits, kept_emit, posted_emits}
use Rattle.gate_outbox.specs.Output.{Emitted, IsEmitted, is_datagram}

none_of : (ks : List Kept) → filter is_datagram (map kept_emit ks) ≡ []
none_of [] = refl
none_of (kept.Frame len id bytes ∷ ks) = none_of ks
none_of (kept.Report rule what ∷ ks) = none_of ks

pub no_datagrams : (l : List Emit) (count : ℕ) (cells : List Kept) → first_emits count cells ≡ l → filter is_datagram l ≡ []
no_datagrams l count cells view = subst (λ es. filter is_datagram es ≡ []) view (none_of (take count cells))

datagrams_behind : (es more : List Emit) → filter is_datagram es ≡ [] → filter is_datagram (es ++ more) ≡ filter is_datagram more
datagrams_behind [] more none = refl
datagrams_behind (e ∷ es) more none = by (is_datagram e) refl (λ rest. datagrams_behind es more rest)
  where
    by : (b : Bool) → is_datagram e ≡ b → (filter is_datagram es ≡ [] → filter is_datagram (es ++ more) ≡ filter is_datagram more)
        → filter is_datagram (e ∷ es ++ more) ≡ filter is_datagram more
    by true is rest = let some : e ∷ filter is_datagram es ≡ [] = rw is at none in cc
    by false is rest = let later : filter is_datagram es ≡ [] = rw is at none in rw is (rest later)

one_posted : (posted : Bool) (d : Datagram) → (length (posted_emits posted d) ≤ 1) × (length (filter is_datagram (posted_emits posted d)) ≤ 1)
one_posted true d = (omega arith, omega arith)
one_posted false d = (omega arith, omega arith)

pub are_emitted : (room : ℕ) (x : Emitted) (posted : Bool) (d : Datagram) → length x.told ≤ room → filter is_datagram x.told ≡ []
    → posted_emits posted d ≡ x.posted → IsEmitted room x
are_emitted room x posted d most none is =
    let one : (length x.posted ≤ 1) × (length (filter is_datagram x.posted) ≤ 1) =
    subst (λ es. (length es ≤ 1) × (length (filter is_datagram es) ≤ 1)) is (one_posted posted d) in
    record {
      most = let all = length-append x.told x.posted in let few = one.0 in omega (arith, all, most, few);
      datagrams = rw (datagrams_behind x.told x.posted none) one.1;
    }
