-- A file says one thing, and what follows of the statuses of a command that runs with it.
use Rattle.std.proofs.Common.{◌≡◌, ℕ, ◌<◌, ◌≤◌, ◌⊎◌, List, length, sym, ap, ◌∙◌, subst, inl, inr, arith}
use Rattle.std.specs.Prelude.{Option, Some, Result, Ok, Err}
use Rattle.gate_outside.specs.Faults.{Rose}
use Rattle.gate_outside.specs.Files.{largest_file}
use Rattle.config_document.specs.declared.fault.ConfigFault.{ConfigFault}
use Rattle.config_document.specs.declared.fault.ConfigFault.TheVariants.{Memory}
use Rattle.gate_config.specs.ConfigOf.{IsWholeConfigOf, config_in, document_place}
use Rattle.settings.specs.declared.setup.Setup.{Setup}
use Rattle.config_check.specs.Check.{Accepts, ChecksBy}
use Rattle.config_check.specs.Configuring.{ConfiguresBy, FileSays, IsToldAs}

same_config : (bytes : List ℕ) (a b : Result Setup ConfigFault) → IsWholeConfigOf bytes a → IsWholeConfigOf bytes b → a ≡ b
same_config bytes a b (inl none) (inl other) = none.1 ∙ sym other.1
same_config bytes a b (inl none) (inr some) = absurd (none.0 some.0 some.1)
same_config bytes a b (inr some) (inl none) = absurd (none.0 some.0 some.1)
same_config bytes a b (inr some) (inr other) =
    let one : Some some.0 ≡ Some other.0 = sym some.1.parsed ∙ other.1.parsed in
    let same : some.0 ≡ other.0 = cc in
    some.2 ∙ ap (λ m. config_in (document_place m)) same ∙ sym other.2

-- what was read is what the file says, since no memory was wanting
pub says : (bytes : List ℕ) (setup : Setup) → (Ok setup ≡ Err Memory) ⊎ IsWholeConfigOf bytes (Ok setup) → IsWholeConfigOf bytes (Ok setup)
says bytes setup (inl wanting) = absurd cc
says bytes setup (inr said) = said

-- what was loaded is what is told
one_said : (told : Option (List ℕ)) (a b : Result Setup ConfigFault) → FileSays told a → IsToldAs told b → a ≡ b
one_said told a b f t = same_config t.bytes a b (subst (λ (bytes : List ℕ). IsWholeConfigOf bytes a) (f.own t.bytes t.told_by) f.says) t.says

no_fault : (told : Option (List ℕ)) (setup : Setup) (fault : ConfigFault) → FileSays told (Ok setup) → IsToldAs told (Err fault) → ⊥
no_fault told setup fault f t = let same : Ok setup ≡ Err fault = one_said told (Ok setup) (Err fault) f t in absurd cc

not_both : (m n : ℕ) → m < n → n ≤ m → ⊥
not_both m n below above = omega (arith, below, above)

not_too_long : (told : Option (List ℕ)) (said : Result Setup ConfigFault) → FileSays told said → (bytes : List ℕ) → told ≡ Some bytes → largest_file < length bytes → ⊥
not_too_long told said f bytes is long = not_both largest_file (length bytes) long (subst (λ (b : List ℕ). length b ≤ largest_file) (f.own bytes is) f.within)

-- ---- an accepted configuration

abbrev pub IsDone : ℕ → Type 0
IsDone status = (status ≡ 3 → ⊥) × (status ≡ 6 → ⊥)

pub configures : (content : Option (List ℕ)) (files files' : ℕ) (told told' : Option (List ℕ)) (sink sink' status : ℕ) (setup : Setup)
    → FileSays content (Ok setup) → IsDone status → ConfiguresBy content files files' told told' sink sink' status
configures content files files' told told' sink sink' status setup f done = record {
  refused = λ is. absurd (done.0 is);
  unread = λ is. absurd (done.1 is);
  refusal = λ fault t held. absurd (no_fault content setup fault f t);
  too_long = λ bytes is long. absurd (not_too_long content (Ok setup) f bytes is long);
}

-- `check`

is_done : (status : ℕ) → (status ≡ 0) ⊎ (status ≡ 4) → IsDone status
is_done status known = (λ is. grind (arith, known, is), λ is. grind (arith, known, is))

is_complete : (status sink sink' : ℕ) → (status ≡ 0) ⊎ (status ≡ 4) → (status ≡ 4 → Rose sink sink') → (Rose sink sink' → ⊥) → (status ≡ 0) ⊎ (status ≡ 7)
is_complete status sink sink' known cause held = search (arith, known, cause, held)

pub accepted : (content : Option (List ℕ)) (files files' : ℕ) (told told' : Option (List ℕ)) (sink sink' status : ℕ) (setup : Setup)
    → FileSays content (Ok setup) → Accepts told told' sink sink' status → ChecksBy content files files' told told' sink sink' status
accepted content files files' told told' sink sink' status setup f a = record {
  known = search (arith, a.known);
  configures = configures content files files' told told' sink sink' status setup f (is_done status a.known);
  done = λ is. ((setup, f), a.done is);
  sink_failed = λ is. ((setup, f), a.sink_failed is);
  sink_cause = a.sink_cause;
  steady = a.steady;
  complete = λ other t files_held sink_held. is_complete status sink sink' a.known a.sink_cause sink_held;
}
