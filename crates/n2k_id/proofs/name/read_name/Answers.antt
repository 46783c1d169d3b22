use Rattle.std.proofs.Common.{◌≡◌, ℕ, ◌<◌, Fits, w8, List, get_or, take, rules, arith, ◌∙◌}
use Rattle.std.proofs.lemmas.List.{get_or-take, get_or_past, length-take}
use Rattle.std.proofs.lemmas.Nat.{le_bytes_8}
use Rattle.n2k_id.specs.Name.{name_at, name_bytes}
use Rattle.n2k_id.proofs.name.read_name.Goals as goal

taken : (xs bytes : List ℕ) (n : ℕ) → xs ≡ take n bytes → ((i : ℕ) → Fits w8 (get_or bytes i 0)) → (i : ℕ) → get_or xs i 0 < 256
taken xs bytes n same fits i = rw same (grind (arith, get_or-take n bytes i 0, get_or_past (take n bytes) i 0, length-take n bytes, fits i))

pub returns-in-Some-clause-inverse : goal.returns-in-Some-clause-inverse
unfolding name_bytes
returns-in-Some-clause-inverse c =
    let same = c.in-Some.ensures.cases.same in
    le_bytes_8 c.in-Some.first.now _ (search rules) (taken _ c.args.bytes.now 8 same c.type_inv.bytes) c.from_le_bytes.ensures ∙ same

pub returns-in-Some-clause-name : goal.returns-in-Some-clause-name
unfolding name_at
returns-in-Some-clause-name c = search rules
