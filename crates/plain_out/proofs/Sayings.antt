-- What is said one after another, and what is said where nothing pauses.
use Rattle.std.proofs.Common.{◌≡◌, ℕ, Bool, true, false, List, [], ◌∷◌, ◌++◌, append_assoc, Option, Some, None, inl, map, refl, sym, ap, subst, ◌∙◌}
use Rattle.std.specs.Prelude.{filter, slice_get}
use Rattle.std.proofs.lemmas.List.{append-nil}
use Rattle.std.proofs.lemmas.List.Concat.{flat_map-cons}
use Rattle.gate_events.specs.Emit.{Emit, can, net, report}
use Rattle.gate_outbox.specs.Output.{is_datagram}
use Rattle.plain_out.specs.Pace.{AreAmong, Passing, Utterance, Voice, among_behind, is_due, last_at, pass_behind, pass_if, passing, places_in, plain_if, said_all, said_one, uttered}
use Rattle.plain_out.specs.Plain.{plain_of, plain_out, sentences_in}
use Rattle.plain_out.specs.Streams.{stream_number}
use Rattle.plain_out.specs.declared.stream.Stream.{Stream}
use Rattle.plain_out.specs.declared.voice.Last.{Last}

-- ---- the datagrams among some emits

pub none_uttered : (stream : Option Stream) (es : List Emit) → filter is_datagram es ≡ [] → uttered stream es ≡ []
none_uttered stream [] none = refl
none_uttered stream (can f ∷ es) none = none_uttered stream es none
none_uttered stream (net g bytes ∷ es) none = absurd cc
none_uttered stream (report r ∷ es) none = none_uttered stream es none

pub uttered_append : (stream : Option Stream) (es more : List Emit) → uttered stream (es ++ more) ≡ uttered stream es ++ uttered stream more
uttered_append stream [] more = refl
uttered_append stream (can f ∷ es) more = uttered_append stream es more
uttered_append stream (net g bytes ∷ es) more =
    ap (λ us. let u : Utterance = record { stream = stream; datagram = bytes } in u ∷ us) (uttered_append stream es more)
uttered_append stream (report r ∷ es) more = uttered_append stream es more

pub uttered_behind : (stream : Option Stream) (told posted : List Emit) → filter is_datagram told ≡ [] → uttered stream (told ++ posted) ≡ uttered stream posted
uttered_behind stream told posted none =
    uttered_append stream told posted ∙ ap (λ us. us ++ uttered stream posted) (none_uttered stream told none)

-- ---- one after another

pub append_after : (v : Voice) (m : ℕ) (us more : List Utterance) → (said_all v m (us ++ more)).after ≡ (said_all (said_all v m us).after m more).after
append_after v m [] more = refl
append_after v m (u ∷ us) more = append_after (said_one v m u).after m us more

pub append_plain : (v : Voice) (m : ℕ) (us more : List Utterance)
    → (said_all v m (us ++ more)).plain ≡ (said_all v m us).plain ++ (said_all (said_all v m us).after m more).plain
append_plain v m [] more = refl
append_plain v m (u ∷ us) more =
    let one = said_one v m u in
    ap (λ (es : List Emit). one.plain ++ es) (append_plain one.after m us more)
    ∙ sym (append_assoc one.plain (said_all one.after m us).plain (said_all (said_all one.after m us).after m more).plain)

-- ---- datagrams without a stream are passed on

pub streamless_after : (v : Voice) (m : ℕ) (es : List Emit) → (said_all v m (uttered None es)).after ≡ v
streamless_after v m [] = refl
streamless_after v m (can f ∷ es) = streamless_after v m es
streamless_after v m (net g bytes ∷ es) = streamless_after v m es
streamless_after v m (report r ∷ es) = streamless_after v m es

pub streamless_plain : (v : Voice) (m : ℕ) (es : List Emit) → (said_all v m (uttered None es)).plain ≡ plain_out v.group es
streamless_plain v m [] = refl
streamless_plain v m (can f ∷ es) = streamless_plain v m es ∙ sym (flat_map-cons (plain_of v.group) (can f) es)
streamless_plain v m (net g bytes ∷ es) =
    ap (λ (more : List Emit). net v.group (sentences_in bytes) ∷ more) (streamless_plain v m es) ∙ sym (flat_map-cons (plain_of v.group) (net g bytes) es)
streamless_plain v m (report r ∷ es) = streamless_plain v m es ∙ sym (flat_map-cons (plain_of v.group) (report r) es)

-- ---- one datagram behind what is told

one_uttered : (stream : Option Stream) (told posted : List Emit) (group bytes : List ℕ) → filter is_datagram told ≡ [] → net group bytes ∷ [] ≡ posted
    → uttered stream (told ++ posted) ≡ (record { stream = stream; datagram = bytes }) ∷ []
one_uttered stream told posted group bytes none is = uttered_behind stream told posted none ∙ ap (uttered stream) (sym is)

pub one_after : (v : Voice) (m : ℕ) (stream : Option Stream) (told posted : List Emit) (group bytes : List ℕ) → filter is_datagram told ≡ []
    → net group bytes ∷ [] ≡ posted → (passing v m stream bytes).after ≡ (said_all v m (uttered stream (told ++ posted))).after
one_after v m stream told posted group bytes none is =
    ap (λ (us : List Utterance). (said_all v m us).after) (sym (one_uttered stream told posted group bytes none is))

pub one_plain : (v : Voice) (m : ℕ) (stream : Option Stream) (told posted : List Emit) (group bytes : List ℕ) → filter is_datagram told ≡ []
    → net group bytes ∷ [] ≡ posted → (b : Bool) → b ≡ (passing v m stream bytes).passes
    → plain_if b v.group bytes ≡ (said_all v m (uttered stream (told ++ posted))).plain
one_plain v m stream told posted group bytes none is b passes =
    ap (λ (b : Bool). plain_if b v.group bytes) passes
    ∙ sym (append-nil (plain_if (passing v m stream bytes).passes v.group bytes))
    ∙ ap (λ (us : List Utterance). (said_all v m us).plain) (sym (one_uttered stream told posted group bytes none is))

-- ---- no datagram

pub none_said : (v : Voice) (m : ℕ) (stream : Option Stream) (told posted : List Emit) → filter is_datagram told ≡ [] → posted ≡ []
    → uttered stream (told ++ posted) ≡ []
none_said v m stream told posted none unposted = uttered_behind stream told posted none ∙ ap (uttered stream) unposted

-- ---- the transmission group stays

by_last : (o : Option (Option Last)) (v : Voice) (number m : ℕ) (places : List Bool) → (pass_behind o v number m places).after.group ≡ v.group
by_last None v number m places = refl
by_last (Some last) v number m places = by (is_due v.every m places last)
  where
    by : (b : Bool) → (pass_if b v number (last_at m places)).after.group ≡ v.group
    by true = refl
    by false = refl

pub group_stays : (v : Voice) (m : ℕ) (stream : Option Stream) (datagram : List ℕ) → (passing v m stream datagram).after.group ≡ v.group
group_stays v m None datagram = refl
group_stays v m (Some stream) datagram = by_last (slice_get v.lasts (stream_number stream)) v (stream_number stream) m (places_in datagram)

pub all_group : (v : Voice) (m : ℕ) (us : List Utterance) → (said_all v m us).after.group ≡ v.group
all_group v m [] = refl
all_group v m (u ∷ us) = all_group (said_one v m u).after m us ∙ group_stays v m u.stream u.datagram

-- ---- a voice that keeps nothing, because no stream pauses, passes on all

free_passing : (v : Voice) (m : ℕ) (stream : Option Stream) (datagram : List ℕ) → v.lasts ≡ []
    → passing v m stream datagram ≡ (record { after = v; passes = true })
free_passing v m None datagram free = refl
free_passing v m (Some stream) datagram free =
    let number = stream_number stream in
    ap (λ (lasts : List (Option Last)). pass_behind (slice_get lasts number) v number m (places_in datagram)) free

pub free_after : (v : Voice) (m : ℕ) (us : List Utterance) → v.lasts ≡ [] → (said_all v m us).after ≡ v
free_after v m [] free = refl
free_after v m (u ∷ us) free =
    ap (λ (x : Passing). (said_all x.after m us).after) (free_passing v m u.stream u.datagram free) ∙ free_after v m us free

-- the plain datagrams of all that is said
abbrev pub all_plain : List ℕ → List Utterance → List Emit
all_plain group us = map (λ (u : Utterance). net group (sentences_in u.datagram)) us

pub free_plain : (v : Voice) (m : ℕ) (us : List Utterance) → v.lasts ≡ [] → (said_all v m us).plain ≡ all_plain v.group us
free_plain v m [] free = refl
free_plain v m (u ∷ us) free =
    ap (λ (x : Passing). plain_if x.passes v.group u.datagram ++ (said_all x.after m us).plain) (free_passing v m u.stream u.datagram free)
    ∙ ap (λ (es : List Emit). net v.group (sentences_in u.datagram) ∷ es) (free_plain v m us free)

-- ---- what is passed on is among all that is said, in order

pub said_in_order : (v : Voice) (m : ℕ) (us : List Utterance) → AreAmong (said_all v m us).plain (all_plain v.group us)
said_in_order v m [] = tt
said_in_order v m (u ∷ us) =
    by (passing v m u.stream u.datagram).passes
    (subst (λ (group : List ℕ). AreAmong (said_all (said_one v m u).after m us).plain (all_plain group us)) (group_stays v m u.stream u.datagram)
    (said_in_order (said_one v m u).after m us))
  where
    by : (b : Bool) → AreAmong (said_all (said_one v m u).after m us).plain (all_plain v.group us)
        → AreAmong (plain_if b v.group u.datagram ++ (said_all (said_one v m u).after m us).plain) (all_plain v.group (u ∷ us))
    by true rest = inl (refl, rest)
    by false rest = among_behind (net v.group (sentences_in u.datagram)) (said_all (said_one v m u).after m us).plain (all_plain v.group us) rest
