-- All that goes out but plain sentences is read, and plain sentences are all of it, or some.
use Rattle.std.proofs.Common.{◌≡◌, ℕ, ◌++◌, Bool, true, false, if◌then◌else◌, List, [], ◌∷◌, map, Option, Some, option_map, refl, sym, ap, subst, ◌∙◌}
use Rattle.datagram450.specs.Datagram.{all_of}
use Rattle.gate_events.specs.Emit.{Emit, net}
use Rattle.history.specs.Entries as entry
use Rattle.history.specs.Entries.{Entry, History, moment_of}
use Rattle.history.specs.FromBus.{said_at}
use Rattle.history.specs.EntryLaws.{nets_in}
use Rattle.history.specs.Gate.{out}
use Rattle.plain_out.specs.Pace.{AreAmong, Utterance, Voice, no_lasts, opened_voice, said_all, uttered}
use Rattle.plain_out.specs.declared.stream.Stream.{Stream}
use Rattle.plain_out.specs.Plain.{sentences_in}
use Rattle.plain_out.specs.Streams.{reading_stream}
use Rattle.plain_out.proofs.Sayings.{all_group, all_plain, free_after, free_plain, said_in_order}
use Rattle.plain_out.proofs.Staying.{what_is_read_stays}
use Rattle.parts.specs.Utterances.{bytes_in, bytes_of, datagrams_append, uttered_datagrams}
use Rattle.parts.specs.Voices.{EachSays, Spoken, both_say}
use Rattle.bridge.specs.Beside.{beside, beside_utter}
use Rattle.bridge.specs.BridgeSettings.{BridgeSettings, PlainRule}
use Rattle.bridge.specs.Gate.{all_utter, given, is_replaced, own_utters, plain_at, plain_of, voice_after, voice_by, voice_in}
use Rattle.bridge.specs.NetLaws.{DatagramsAreRead, PlainSaysAll, PlainSaysNothingElse}
use Rattle.bridge.specs.Sentences.{rows_said_again, rows_say, said_again}
use Rattle.bridge.specs.Speaking.{Speaks}
use Rattle.bridge.proofs.NetRows.{rows_are_read}

pub datagrams_are_read : DatagramsAreRead
datagrams_are_read p s h e speaks =
    both_say (out p.gateway s h e) (given p s h e) (rows_say p.gateway s h e) (beside.say p.parts p.gateway s h e)
    (rows_are_read p.gateway s h e speaks.sfi speaks.rows) (beside.read p.parts p.gateway s h e speaks.parts)

-- ---- plain sentences

-- what is kept of them
record Kept (rule : PlainRule) (o : Option Voice) : Type 0 where
  voice : Voice
  is : o ≡ Some voice
  group : voice.group ≡ rule.group
  free : rule.every ≡ 0 → voice.lasts ≡ []

kept_on : (rule : PlainRule) (o : Option Voice) (m : ℕ) (us : List Utterance) → Kept rule o → Kept rule (voice_after o m us)
kept_on rule o m us k = record {
  voice = (said_all k.voice m us).after;
  is = ap (λ (x : Option Voice). voice_after x m us) k.is;
  group = all_group k.voice m us ∙ k.group;
  free = λ none. ap (λ (v : Voice). v.lasts) (free_after k.voice m us (k.free none)) ∙ k.free none;
}

module _ (p : BridgeSettings) (s : ℕ) (rule : PlainRule) (asked : p.plain ≡ Some rule) where
  kept : (h : History) → Kept rule (voice_in p s h)
  kept [] = record { voice = opened_voice rule.group rule.every; is = ap voice_by asked; group = refl; free = λ none. ap no_lasts none }
  kept (entry.frame m f ∷ h) = kept_on rule (voice_in p s h) m (all_utter p s h (entry.frame m f)) (kept h)
  kept (entry.datagram m bytes ∷ h) = kept_on rule (voice_in p s h) m (all_utter p s h (entry.datagram m bytes)) (kept h)
  kept (entry.tick m ∷ h) = kept_on rule (voice_in p s h) m (all_utter p s h (entry.tick m)) (kept h)
  kept (entry.command m source address ∷ h) = kept h

-- what is said with its stream are all datagrams but plain ones, and but those that a part is said in place of
abbrev own_again : BridgeSettings → ℕ → History → Entry → List Emit
own_again p s h e = if is_replaced p.replaced (option_map reading_stream (said_at p.gateway s h e)) then [] else out p.gateway s h e

own_bytes : (replaced : Bool) (stream : Option Stream) (es : List Emit) → bytes_of (if replaced then [] else uttered stream es) ≡ bytes_in (if replaced then [] else es)
own_bytes true stream es = refl
own_bytes false stream es = uttered_datagrams stream es

pub utter_all : (p : BridgeSettings) (s : ℕ) (h : History) (e : Entry) → bytes_of (all_utter p s h e) ≡ bytes_in (own_again p s h e ++ given p s h e)
utter_all p s h e =
    let stream = option_map reading_stream (said_at p.gateway s h e) in
    datagrams_append (own_utters p s h e) (beside_utter p.parts p.gateway s h e) (own_again p s h e) (given p s h e)
    (own_bytes (is_replaced p.replaced stream) stream (out p.gateway s h e)) (beside.datagrams p.parts p.gateway s h e)

-- and a reader finds in them what is said again
rows_again : (replaced : Bool) (es : List Emit) (said : Spoken) → EachSays (nets_in es) said
    → EachSays (nets_in (if replaced then [] else es)) (if replaced then [] else said)
rows_again true es said says = tt
rows_again false es said says = says

read_again : (p : BridgeSettings) (s : ℕ) (h : History) (e : Entry) → Speaks p → EachSays (nets_in (own_again p s h e ++ given p s h e)) (said_again p s h e)
read_again p s h e speaks =
    let replaced = is_replaced p.replaced (option_map reading_stream (said_at p.gateway s h e)) in
    both_say (own_again p s h e) (given p s h e) (rows_said_again p s h e) (beside.say p.parts p.gateway s h e)
    (rows_again replaced (out p.gateway s h e) (rows_say p.gateway s h e) (rows_are_read p.gateway s h e speaks.sfi speaks.rows))
    (beside.read p.parts p.gateway s h e speaks.parts)

by_bytes : (group : List ℕ) (us : List Utterance) → all_plain group us ≡ map (λ (bytes : List ℕ). net group (sentences_in bytes)) (bytes_of us)
by_bytes group [] = refl
by_bytes group (u ∷ us) = ap (λ (es : List Emit). net group (sentences_in u.datagram) ∷ es) (by_bytes group us)

as_said : (group : List ℕ) (ds : List (List ℕ × List ℕ)) (said : Spoken) → EachSays ds said
    → map (λ (bytes : List ℕ). net group (sentences_in bytes)) (map (λ d. d.1) ds) ≡ map (λ sentences. net group (all_of sentences)) said
as_said group [] [] says = refl
as_said group [] (t ∷ ts) says = absurd says
as_said group (d ∷ ds) [] says = absurd says
as_said group (d ∷ ds) (t ∷ ts) says =
    ap (λ (bytes : List ℕ). net group bytes ∷ map (λ (bytes : List ℕ). net group (sentences_in bytes)) (map (λ d. d.1) ds)) (what_is_read_stays d.1 t says.0)
    ∙ ap (λ (es : List Emit). net group (all_of t) ∷ es) (as_said group ds ts says.1)

-- all of them, as plain sentences
all_are : (p : BridgeSettings) (s : ℕ) (h : History) (e : Entry) (group : List ℕ) → Speaks p
    → all_plain group (all_utter p s h e) ≡ map (λ sentences. net group (all_of sentences)) (said_again p s h e)
all_are p s h e group speaks =
    by_bytes group (all_utter p s h e)
    ∙ ap (map (λ (bytes : List ℕ). net group (sentences_in bytes))) (utter_all p s h e)
    ∙ as_said group (nets_in (own_again p s h e ++ given p s h e)) (said_again p s h e) (read_again p s h e speaks)

pub plain_says_all : PlainSaysAll
plain_says_all p s h e rule speaks asked none =
    let k = kept p s rule asked h in
    let us = all_utter p s h e in
    ap (λ (o : Option Voice). plain_of o (moment_of e) us) k.is
    ∙ free_plain k.voice (moment_of e) us (k.free none)
    ∙ ap (λ (group : List ℕ). all_plain group us) k.group
    ∙ all_are p s h e rule.group speaks

pub plain_says_nothing_else : PlainSaysNothingElse
plain_says_nothing_else p s h e rule speaks asked =
    let k = kept p s rule asked h in
    let us = all_utter p s h e in
    let m = moment_of e in
    subst (λ (all : List Emit). AreAmong (plain_at p s h e) all) (ap (λ (group : List ℕ). all_plain group us) k.group ∙ all_are p s h e rule.group speaks)
    (subst (λ (o : Option Voice). AreAmong (plain_of o m us) (all_plain k.voice.group us)) (sym k.is) (said_in_order k.voice m us))
