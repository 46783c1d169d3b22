-- What parts say on the network, each datagram with its stream if it has one.
use Rattle.std.specs.Prelude.{◌≡◌, ℕ, List, [], ◌∷◌, ◌++◌, Option, None, map}
use Rattle.std.proofs.Common.{refl, sym, ap, ◌∙◌}
use Rattle.gate_events.specs.Emit.{Emit, can, net, report}
use Rattle.history.specs.Entries.{Entry, History}
use Rattle.history.specs.EntryLaws.{nets_in}
use Rattle.history.specs.Settings.{Settings}
use Rattle.history.proofs.EntrySteps.{nets_append}
use Rattle.plain_out.specs.Pace.{Utterance, uttered}
use Rattle.plain_out.specs.declared.stream.Stream.{Stream}

-- of a part whose datagrams are all of one stream, or of none
abbrev pub utters_of : {R : Type 0} → Option Stream → (R → Settings → ℕ → History → Entry → List Emit) → R → Settings → ℕ → History → Entry → List Utterance
utters_of stream gives r c s h e = uttered stream (gives r c s h e)

abbrev pub streamless : {R : Type 0} → (R → Settings → ℕ → History → Entry → List Emit) → R → Settings → ℕ → History → Entry → List Utterance
streamless gives = utters_of None gives

-- ---- what is said are the datagrams of what is given, in order

abbrev pub bytes_of : List Utterance → List (List ℕ)
bytes_of us = map (λ u. u.datagram) us

abbrev pub bytes_in : List Emit → List (List ℕ)
bytes_in emits = map (λ d. d.1) (nets_in emits)

abbrev pub SaysDatagrams : {R : Type 0} → (R → Settings → ℕ → History → Entry → List Emit) → (R → Settings → ℕ → History → Entry → List Utterance) → Type 0
SaysDatagrams {R} gives utters = (r : R) (c : Settings) (s : ℕ) (h : History) (e : Entry) → bytes_of (utters r c s h e) ≡ bytes_in (gives r c s h e)

mapped_append : {A B : Type 0} (f : A → B) (xs ys : List A) → map f (xs ++ ys) ≡ map f xs ++ map f ys
mapped_append f [] ys = refl
mapped_append f (x ∷ xs) ys = ap (λ zs. f x ∷ zs) (mapped_append f xs ys)

pub datagrams_append : (us ws : List Utterance) (es more : List Emit) → bytes_of us ≡ bytes_in es → bytes_of ws ≡ bytes_in more
    → bytes_of (us ++ ws) ≡ bytes_in (es ++ more)
datagrams_append us ws es more is are =
    mapped_append (λ u. u.datagram) us ws
    ∙ ap (λ bytes. bytes ++ bytes_of ws) is
    ∙ ap (λ bytes. bytes_in es ++ bytes) are
    ∙ sym (mapped_append (λ d. d.1) (nets_in es) (nets_in more))
    ∙ ap (λ ds. map (λ d. d.1) ds) (sym (nets_append es more))

pub uttered_datagrams : (stream : Option Stream) (es : List Emit) → bytes_of (uttered stream es) ≡ bytes_in es
uttered_datagrams stream [] = refl
uttered_datagrams stream (can f ∷ es) = uttered_datagrams stream es
uttered_datagrams stream (report r ∷ es) = uttered_datagrams stream es
uttered_datagrams stream (net group bytes ∷ es) = ap (λ more. bytes ∷ more) (uttered_datagrams stream es)

pub utters_datagrams : {R : Type 0} (stream : Option Stream) (gives : R → Settings → ℕ → History → Entry → List Emit) → SaysDatagrams gives (utters_of stream gives)
utters_datagrams stream gives r c s h e = uttered_datagrams stream (gives r c s h e)
