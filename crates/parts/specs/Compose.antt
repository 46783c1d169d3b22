-- Parts that are put together: one that may be asked for, and one with others behind it.
use Rattle.std.specs.Prelude.{◌≡◌, ℕ, Bool, true, false, List, [], ◌∷◌, ◌++◌, Option, Some, None}
use Rattle.std.specs.Option.{ForSome}
use Rattle.std.proofs.Common.{refl, ap, ◌∙◌}
use Rattle.gate_events.specs.Emit.{Emit}
use Rattle.history.specs.Entries.{Entry, History}
use Rattle.history.specs.Settings.{Settings}
use Rattle.plain_out.specs.Pace.{Utterance}
use Rattle.parts.specs.PartSteps.{KeepsCommands}
use Rattle.parts.specs.Utterances.{SaysDatagrams, datagrams_append}
use Rattle.parts.specs.Voices.{IsRead, Spoken}
use Rattle.settings.specs.declared.setup.Setup.{Setup}

-- ---- it is there exactly if it is asked for

-- by a flag
abbrev pub wanted : Bool → Option (Unit {0})
wanted false = None
wanted true = Some tt

abbrev pub maybe_stand : {R K : Type 0} → (R → Settings → ℕ → History → K → Type 0) → Option R → Settings → ℕ → History → Option K → Type 0
maybe_stand stands None c s h None = Unit {0}
maybe_stand stands (Some r) c s h (Some k) = stands r c s h k
maybe_stand stands None c s h (Some k) = ⊥
maybe_stand stands (Some r) c s h None = ⊥

abbrev pub maybe_give : {X R : Type 0} → (R → Settings → ℕ → History → Entry → List X) → Option R → Settings → ℕ → History → Entry → List X
maybe_give gives None c s h e = []
maybe_give gives (Some r) c s h e = gives r c s h e

abbrev pub maybe_output : {X K : Type 0} → (K → List X) → Option K → List X
maybe_output output None = []
maybe_output output (Some k) = output k

-- where what gives nothing says nothing
pub maybe_unsaid : {K : Type 0} (output : K → List Emit) (utter : K → List Utterance) → ((k : K) → output k ≡ [] → utter k ≡ [])
    → (k : Option K) → maybe_output output k ≡ [] → maybe_output utter k ≡ []
maybe_unsaid output utter unsaid None none = refl
maybe_unsaid output utter unsaid (Some k) none = unsaid k none

abbrev pub maybe_speaks : {R : Type 0} → (R → Settings → Type 0) → Option R → Settings → Type 0
maybe_speaks speaks r c = ForSome r (λ q. speaks q c)

abbrev pub maybe_say : {R : Type 0} → (R → Settings → ℕ → History → Entry → Spoken) → Option R → Settings → ℕ → History → Entry → Spoken
maybe_say says None c s h e = []
maybe_say says (Some r) c s h e = says r c s h e

pub maybe_keep_commands : {R K : Type 0} (stands : R → Settings → ℕ → History → K → Type 0) → KeepsCommands stands → KeepsCommands (maybe_stand stands)
maybe_keep_commands stands keeps None c s h source address None are is = tt
maybe_keep_commands stands keeps None c s h source address (Some k) are is = is
maybe_keep_commands stands keeps (Some r) c s h source address None are is = is
maybe_keep_commands stands keeps (Some r) c s h source address (Some k) are is = keeps r c s h source address k are is

pub maybe_read : {R : Type 0} (gives : R → Settings → ℕ → History → Entry → List Emit) (speaks : R → Settings → Type 0)
    (says : R → Settings → ℕ → History → Entry → Spoken) → IsRead gives speaks says → IsRead (maybe_give gives) (maybe_speaks speaks) (maybe_say says)
maybe_read gives speaks says read None c s h e can = tt
maybe_read gives speaks says read (Some r) c s h e can = read r c s h e (can r refl)

-- ---- a part, and others behind it

abbrev pub both_stand : {R Q K L : Type 0} → (R → Settings → ℕ → History → K → Type 0) → (Q → Settings → ℕ → History → L → Type 0)
    → R × Q → Settings → ℕ → History → K × L → Type 0
both_stand stands stands2 r c s h k = stands r.0 c s h k.0 × stands2 r.1 c s h k.1

abbrev pub both_asked : {R Q : Type 0} → (Setup → R) → (Setup → Q) → Setup → R × Q
both_asked asked asked2 x = (asked x, asked2 x)

abbrev pub both_give : {X R Q : Type 0} → (R → Settings → ℕ → History → Entry → List X) → (Q → Settings → ℕ → History → Entry → List X)
    → R × Q → Settings → ℕ → History → Entry → List X
both_give gives gives2 r c s h e = gives r.0 c s h e ++ gives2 r.1 c s h e

abbrev pub both_output : {X K L : Type 0} → (K → List X) → (L → List X) → K × L → List X
both_output output output2 k = output k.0 ++ output2 k.1

none_first : {X : Type 0} (xs ys : List X) → xs ++ ys ≡ [] → xs ≡ []
none_first [] ys is = refl
none_first (x ∷ xs) ys is = absurd cc

none_second : {X : Type 0} (xs ys : List X) → xs ++ ys ≡ [] → ys ≡ []
none_second [] ys is = is
none_second (x ∷ xs) ys is = absurd cc

pub both_unsaid : {K L : Type 0} (output : K → List Emit) (output2 : L → List Emit) (utter : K → List Utterance) (utter2 : L → List Utterance)
    → ((k : K) → output k ≡ [] → utter k ≡ []) → ((l : L) → output2 l ≡ [] → utter2 l ≡ [])
    → (k : K × L) → both_output output output2 k ≡ [] → both_output utter utter2 k ≡ []
both_unsaid output output2 utter utter2 unsaid unsaid2 k none =
    ap (λ (us : List Utterance). us ++ utter2 k.1) (unsaid k.0 (none_first (output k.0) (output2 k.1) none))
    ∙ unsaid2 k.1 (none_second (output k.0) (output2 k.1) none)

abbrev pub both_speak : {R Q : Type 0} → (R → Settings → Type 0) → (Q → Settings → Type 0) → R × Q → Settings → Type 0
both_speak speaks speaks2 r c = speaks r.0 c × speaks2 r.1 c

abbrev pub both_tell : {R Q : Type 0} → (R → Settings → ℕ → History → Entry → Spoken) → (Q → Settings → ℕ → History → Entry → Spoken)
    → R × Q → Settings → ℕ → History → Entry → Spoken
both_tell says says2 r c s h e = says r.0 c s h e ++ says2 r.1 c s h e

pub both_keep_commands : {R Q K L : Type 0} (stands : R → Settings → ℕ → History → K → Type 0) (stands2 : Q → Settings → ℕ → History → L → Type 0)
    → KeepsCommands stands → KeepsCommands stands2 → KeepsCommands (both_stand stands stands2)
both_keep_commands stands stands2 keeps keeps2 r c s h source address k are is =
    (keeps r.0 c s h source address k.0 are is.0, keeps2 r.1 c s h source address k.1 are is.1)

pub both_silent : {R Q : Type 0} (gives : R → Settings → ℕ → History → Entry → List Emit) (gives2 : Q → Settings → ℕ → History → Entry → List Emit) (r : R) (q : Q)
    → ((c : Settings) (s : ℕ) (h : History) (e : Entry) → gives r c s h e ≡ []) → ((c : Settings) (s : ℕ) (h : History) (e : Entry) → gives2 q c s h e ≡ [])
    → (c : Settings) (s : ℕ) (h : History) (e : Entry) → both_give gives gives2 (r, q) c s h e ≡ []
both_silent gives gives2 r q none none2 c s h e = ap (λ (es : List Emit). es ++ gives2 q c s h e) (none c s h e) ∙ none2 c s h e

-- ---- what is said are the datagrams of what is given

pub maybe_datagrams : {R : Type 0} (gives : R → Settings → ℕ → History → Entry → List Emit) (utters : R → Settings → ℕ → History → Entry → List Utterance)
    → SaysDatagrams gives utters → SaysDatagrams (maybe_give gives) (maybe_give utters)
maybe_datagrams gives utters are None c s h e = refl
maybe_datagrams gives utters are (Some r) c s h e = are r c s h e

pub both_datagrams : {R Q : Type 0} (gives : R → Settings → ℕ → History → Entry → List Emit) (utters : R → Settings → ℕ → History → Entry → List Utterance)
    (gives2 : Q → Settings → ℕ → History → Entry → List Emit) (utters2 : Q → Settings → ℕ → History → Entry → List Utterance)
    → SaysDatagrams gives utters → SaysDatagrams gives2 utters2 → SaysDatagrams (both_give gives gives2) (both_give utters utters2)
both_datagrams gives utters gives2 utters2 are are2 r c s h e =
    datagrams_append (utters r.0 c s h e) (utters2 r.1 c s h e) (gives r.0 c s h e) (gives2 r.1 c s h e) (are r.0 c s h e) (are2 r.1 c s h e)
