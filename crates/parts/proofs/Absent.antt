-- Of two that are put together none is there where neither is; and a part that isn't there gives nothing.
use Rattle.std.proofs.Common.{◌≡◌, ℕ, List, [], ◌∷◌, ◌++◌, refl, ap, ◌∙◌}
use Rattle.std.specs.Prelude.{Option, Some, None}
use Rattle.gate_events.specs.Emit.{Emit}
use Rattle.history.specs.Entries.{Entry, History}
use Rattle.history.specs.Settings.{Settings}
use Rattle.plain_out.specs.Pace.{Utterance}
use Rattle.parts.specs.Compose.{both_give, both_output, both_stand, maybe_give, maybe_output, maybe_stand}
use Rattle.parts.specs.PartSteps.{IsAbsent}

none_and : {X : Type 0} (xs ys : List X) → xs ≡ [] → ys ≡ [] → xs ++ ys ≡ []
none_and xs ys a b = ap (λ zs. zs ++ ys) a ∙ b

pub both_absent : {R Q K L : Type 0} (stands : R → Settings → ℕ → History → K → Type 0) (stands2 : Q → Settings → ℕ → History → L → Type 0)
    (gives : R → Settings → ℕ → History → Entry → List Emit) (gives2 : Q → Settings → ℕ → History → Entry → List Emit)
    (utters : R → Settings → ℕ → History → Entry → List Utterance) (utters2 : Q → Settings → ℕ → History → Entry → List Utterance)
    (output plain : K → List Emit) (output2 plain2 : L → List Emit) (k : K) (l : L)
    → IsAbsent stands gives utters output plain k → IsAbsent stands2 gives2 utters2 output2 plain2 l
    → IsAbsent (both_stand stands stands2) (both_give gives gives2) (both_give utters utters2) (both_output output output2) (both_output plain plain2) (k, l)
both_absent stands stands2 gives gives2 utters utters2 output plain output2 plain2 k l a b = record {
  stood = λ r c s h e is. (a.stood r.0 c s h e is.0, b.stood r.1 c s h e is.1);
  never = λ r c s h e is. none_and (gives r.0 c s h e) (gives2 r.1 c s h e) (a.never r.0 c s h e is.0) (b.never r.1 c s h e is.1);
  silent = λ r c s h e is. none_and (utters r.0 c s h e) (utters2 r.1 c s h e) (a.silent r.0 c s h e is.0) (b.silent r.1 c s h e is.1);
  emits = none_and (output k) (output2 l) a.emits b.emits;
  said = none_and (plain k) (plain2 l) a.said b.said;
}

pub none_absent : {R K : Type 0} (stands : R → Settings → ℕ → History → K → Type 0) (gives : R → Settings → ℕ → History → Entry → List Emit)
    (utters : R → Settings → ℕ → History → Entry → List Utterance) (output plain : K → List Emit)
    → IsAbsent (maybe_stand stands) (maybe_give gives) (maybe_give utters) (maybe_output output) (maybe_output plain) None
none_absent {R} stands gives utters output plain = record { stood = stood; never = never gives; silent = never utters; emits = refl; said = refl }
  where
    stood : (r : Option R) (c : Settings) (s : ℕ) (h : History) (e : Entry) → maybe_stand stands r c s h None → maybe_stand stands r c s (e ∷ h) None
    stood None c s h e is = tt
    stood (Some r) c s h e is = is

    never : {X : Type 0} (given : R → Settings → ℕ → History → Entry → List X) (r : Option R) (c : Settings) (s : ℕ) (h : History) (e : Entry)
        → maybe_stand stands r c s h None → maybe_give given r c s h e ≡ []
    never given None c s h e is = refl
    never given (Some r) c s h e is = absurd is
