-- One more of a list is read.
use Rattle.std.proofs.Common.{◌≡◌, ℕ, ◌+◌, ◌<◌, List, [], ◌∷◌, ◌++◌, length, get_or, drop, Ok, sym, ap, ◌∙◌}
use Rattle.std.specs.Prelude.{Result}
use Rattle.std.proofs.lemmas.List.{at_drop_more}
use Rattle.config_document.specs.declared.fault.ConfigFault.{ConfigFault}
use Rattle.gate_config.specs.Reading.{◌>>=◌, each_from}

pub one_more :
    {X A : Type 0} (read : X → Result A ConfigFault) (earlier : List A) (all : List X) (i : ℕ) (d : X) (value : A) → i < length all → Ok value ≡ read (get_or all i d)
    → each_from read earlier (drop i all) ≡ each_from read (earlier ++ value ∷ []) (drop (i + 1) all)
one_more read earlier all i d value within is =
    at_drop_more (λ rest. each_from read earlier rest) all i d within
    ∙ ap (λ given. given >>= λ v. each_from read (earlier ++ v ∷ []) (drop (i + 1) all)) (sym is)
