-- The loops over parameters and over blocks, as what is still to be read.
use Rattle.std.proofs.Common.{◌≡◌, ℕ, zero, suc, ◌+◌, ◌<◌, ◌≤◌, true, false, length, drop, length-drop, refl, sym, ap, ◌∙◌, arith, Ok, Err}
use Rattle.std.specs.Prelude.{slice_index, ◌==◌}
use Rattle.std.proofs.lemmas.Bool.{eq-eqb, ne_eqb}
use Rattle.tag_block.specs.declared.fault.TagFault.{TagFault}
use Rattle.tag_block.specs.Reading.{Scan, parameter_at, parameters_at, block_at, blocks_at}

-- reading from here on gives what reading from the start gives
pub record Parameters (total : ℕ) (start here : Scan) : Type 0 where
  pub fuel : ℕ
  pub enough : length here.rest < fuel
  pub shorter : length here.rest ≤ length start.rest
  pub same : parameters_at fuel total here ≡ parameters_at (length start.rest + 1) total start

pub record Blocks (total : ℕ) (start here : Scan) : Type 0 where
  pub fuel : ℕ
  pub enough : length here.rest < fuel
  pub shorter : length here.rest ≤ length start.rest
  pub same : blocks_at fuel total here ≡ blocks_at (length start.rest + 1) total start

pub parameters_start : (total : ℕ) (start : Scan) → Parameters total start start
parameters_start total start = record { fuel = length start.rest + 1; enough = omega arith; shorter = omega arith; same = refl }

pub blocks_start : (total : ℕ) (start : Scan) → Blocks total start start
blocks_start total start = record { fuel = length start.rest + 1; enough = omega arith; shorter = omega arith; same = refl }

abbrev behind : Scan → Scan
behind s = record { values = s.values; rest = drop 1 s.rest }

one_parameter : (fuel total : ℕ) (here t : Scan) → Ok t ≡ parameter_at total here → slice_index t.rest 0 ≡ 44 → parameters_at (suc fuel) total here ≡ parameters_at fuel total (behind t)
unfolding parameters_at
one_parameter fuel total here t e comma =
    let test : (slice_index t.rest 0 == 44) ≡ true = eq-eqb (slice_index t.rest 0) 44 comma in
    rw (← e, test) refl

last_parameter : (fuel total : ℕ) (here t : Scan) → Ok t ≡ parameter_at total here → (slice_index t.rest 0 ≡ 44 → ⊥) → parameters_at (suc fuel) total here ≡ Ok t
unfolding parameters_at
last_parameter fuel total here t e other =
    let test : (slice_index t.rest 0 == 44) ≡ false = ne_eqb (slice_index t.rest 0) 44 other in
    rw (← e, test) refl

no_parameter : (fuel total : ℕ) (here : Scan) (f : TagFault) → Err f ≡ parameter_at total here → parameters_at (suc fuel) total here ≡ Err f
unfolding parameters_at
no_parameter fuel total here f e = rw (← e) refl

one_less : (n k : ℕ) → n < k → (fuel : ℕ) × (k ≡ suc fuel) × (n ≤ fuel)
one_less n zero h = absurd (omega arith)
one_less n (suc fuel) h = (fuel, refl, omega arith)

pub parameters_go_on : (total : ℕ) (start here t : Scan) → Parameters total start here → Ok t ≡ parameter_at total here → length t.rest < length here.rest → slice_index t.rest 0 ≡ 44
    → Parameters total start (record { values = t.values; rest = drop 1 t.rest })
parameters_go_on total start here t p e shorter comma =
    let k = one_less (length here.rest) p.fuel p.enough in
    let len = length-drop 1 t.rest in
    record {
      fuel = k.0;
      enough = omega (arith, k.2, len);
      shorter = omega (arith, p.shorter, len);
      same = sym (one_parameter k.0 total here t e comma) ∙ ap (λ (n : ℕ). parameters_at n total here) (sym k.1) ∙ p.same;
    }

pub parameters_end : (total : ℕ) (start here t : Scan) → Parameters total start here → Ok t ≡ parameter_at total here → (slice_index t.rest 0 ≡ 44 → ⊥)
    → Ok t ≡ parameters_at (length start.rest + 1) total start
parameters_end total start here t p e other =
    let k = one_less (length here.rest) p.fuel p.enough in
    sym (last_parameter k.0 total here t e other) ∙ ap (λ (n : ℕ). parameters_at n total here) (sym k.1) ∙ p.same

pub parameters_fail : (total : ℕ) (start here : Scan) (f : TagFault) → Parameters total start here → Err f ≡ parameter_at total here
    → Err f ≡ parameters_at (length start.rest + 1) total start
parameters_fail total start here f p e =
    let k = one_less (length here.rest) p.fuel p.enough in
    sym (no_parameter k.0 total here f e) ∙ ap (λ (n : ℕ). parameters_at n total here) (sym k.1) ∙ p.same

-- ---- blocks

one_block : (fuel total : ℕ) (here t : Scan) → slice_index here.rest 0 ≡ 92 → Ok t ≡ block_at total (behind here) → blocks_at (suc fuel) total here ≡ blocks_at fuel total t
unfolding blocks_at
one_block fuel total here t begins e =
    let test : (slice_index here.rest 0 == 92) ≡ true = eq-eqb (slice_index here.rest 0) 92 begins in
    rw (test, ← e) refl

bad_block : (fuel total : ℕ) (here : Scan) (f : TagFault) → slice_index here.rest 0 ≡ 92 → Err f ≡ block_at total (behind here) → blocks_at (suc fuel) total here ≡ Err f
unfolding blocks_at
bad_block fuel total here f begins e =
    let test : (slice_index here.rest 0 == 92) ≡ true = eq-eqb (slice_index here.rest 0) 92 begins in
    rw (test, ← e) refl

no_block : (fuel total : ℕ) (here : Scan) → (slice_index here.rest 0 ≡ 92 → ⊥) → blocks_at (suc fuel) total here ≡ Ok here
unfolding blocks_at
no_block fuel total here other =
    let test : (slice_index here.rest 0 == 92) ≡ false = ne_eqb (slice_index here.rest 0) 92 other in
    rw test refl

pub blocks_go_on : (total : ℕ) (start here t : Scan) → Blocks total start here → slice_index here.rest 0 ≡ 92 → Ok t ≡ block_at total (record { values = here.values; rest = drop 1 here.rest })
    → length t.rest < length (drop 1 here.rest) → Blocks total start t
blocks_go_on total start here t p begins e shorter =
    let k = one_less (length here.rest) p.fuel p.enough in
    let len = length-drop 1 here.rest in
    record {
      fuel = k.0;
      enough = omega (arith, k.2, len, shorter);
      shorter = omega (arith, p.shorter, len, shorter);
      same = sym (one_block k.0 total here t begins e) ∙ ap (λ (n : ℕ). blocks_at n total here) (sym k.1) ∙ p.same;
    }

pub blocks_fail : (total : ℕ) (start here : Scan) (f : TagFault) → Blocks total start here → slice_index here.rest 0 ≡ 92 → Err f ≡ block_at total (record { values = here.values; rest = drop 1 here.rest })
    → Err f ≡ blocks_at (length start.rest + 1) total start
blocks_fail total start here f p begins e =
    let k = one_less (length here.rest) p.fuel p.enough in
    sym (bad_block k.0 total here f begins e) ∙ ap (λ (n : ℕ). blocks_at n total here) (sym k.1) ∙ p.same

pub blocks_end : (total : ℕ) (start here : Scan) → Blocks total start here → (slice_index here.rest 0 ≡ 92 → ⊥) → Ok here ≡ blocks_at (length start.rest + 1) total start
blocks_end total start here p other =
    let k = one_less (length here.rest) p.fuel p.enough in
    sym (no_block k.0 total here other) ∙ ap (λ (n : ℕ). blocks_at n total here) (sym k.1) ∙ p.same
