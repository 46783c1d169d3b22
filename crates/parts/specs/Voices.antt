-- What parts say on the network (IEC 61162-450): the sentences (IEC 61162-1) of each datagram, in the order of the datagrams, without a word of
-- how they are written into them; and that a reader finds in each datagram just these.
use Rattle.std.specs.Prelude.{◌≡◌, ℕ, List, [], ◌∷◌, ◌++◌}
use Rattle.std.proofs.Common.{sym, subst}
use Rattle.gate_events.specs.Emit.{Emit}
use Rattle.history.specs.Entries.{Entry, History}
use Rattle.history.specs.EntryLaws.{nets_in}
use Rattle.history.specs.Settings.{Settings}
use Rattle.history.proofs.EntrySteps.{nets_append}
use Rattle.plain_out.specs.Laws.{Says}
use Rattle.settings.specs.Setup.{IsSetup, IsTyped, gateway_of}
use Rattle.settings.specs.declared.setup.Setup.{Setup}

-- of each datagram its sentences
abbrev pub Spoken : Type 0
Spoken = List (List (List ℕ))

abbrev pub in_one : List ℕ → Spoken
in_one sentence = (sentence ∷ []) ∷ []

-- each datagram, with its transmission group, is read as its sentences, in order and as nothing else; and there are no other datagrams
abbrev pub EachSays : List (List ℕ × List ℕ) → Spoken → Type 0
EachSays [] [] = Unit {0}
EachSays (d ∷ ds) (t ∷ ts) = Says d.1 t × EachSays ds ts
EachSays [] (t ∷ ts) = ⊥
EachSays (d ∷ ds) [] = ⊥

-- ---- what stands behind each other

says_append : (a b : List (List ℕ × List ℕ)) (s t : Spoken) → EachSays a s → EachSays b t → EachSays (a ++ b) (s ++ t)
says_append [] b [] t is more = more
says_append [] b (x ∷ s) t is more = absurd is
says_append (d ∷ a) b [] t is more = absurd is
says_append (d ∷ a) b (x ∷ s) t is more = (is.0, says_append a b s t is.1 more)

pub both_say : (a b : List Emit) (s t : Spoken) → EachSays (nets_in a) s → EachSays (nets_in b) t → EachSays (nets_in (a ++ b)) (s ++ t)
both_say a b s t is more = subst (λ (ds : List (List ℕ × List ℕ)). EachSays ds (s ++ t)) (sym (nets_append a b)) (says_append (nets_in a) (nets_in b) s t is more)

-- what has no datagram says nothing
pub silent : (a : List Emit) → nets_in a ≡ [] → EachSays (nets_in a) []
silent a quiet = subst (λ (ds : List (List ℕ × List ℕ)). EachSays ds []) (sym quiet) tt

pub behind_quiet : (a b : List Emit) (t : Spoken) → nets_in a ≡ [] → EachSays (nets_in b) t → EachSays (nets_in (a ++ b)) t
behind_quiet a b t quiet is = both_say a b [] t (silent a quiet) is

-- ---- of a part

-- at every entry after every history, where its rule and the gateway can be understood
abbrev pub IsRead : {R : Type 0} → (R → Settings → ℕ → History → Entry → List Emit) → (R → Settings → Type 0)
    → (R → Settings → ℕ → History → Entry → Spoken) → Type 0
IsRead {R} gives speaks says = (r : R) (c : Settings) (s : ℕ) (h : History) (e : Entry) → speaks r c → EachSays (nets_in (gives r c s h e)) (says r c s h e)

-- each valid file asks for rules that can be understood
abbrev pub IsUnderstood : {R : Type 0} → (Setup → R) → (R → Settings → Type 0) → Type 0
IsUnderstood asked speaks = (x : Setup) → IsTyped x → IsSetup x → speaks (asked x) (gateway_of x)
