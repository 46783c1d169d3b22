-- When a part beside the gateway is new, and what it makes of one more entry, which the gateway has taken.
use Rattle.std.specs.Prelude.{◌≡◌, ℕ, List, [], ◌∷◌}
use Rattle.gate_events.specs.Emit.{Emit}
use Rattle.history.specs.AddressLaws.{AreSettings}
use Rattle.history.specs.Entries.{Entry, History, IsHistory, command, now}
use Rattle.history.specs.Settings.{Settings}
use Rattle.gate_core.specs.Promises.{IsTaken}
use Rattle.plain_out.specs.Pace.{Utterance}
use Rattle.gate_core.specs.Steps.{entry_of}
use Rattle.parts.specs.declared.part.Step.{Step}

-- ---- before anything came

-- it stands for that, whenever the gateway will start
abbrev pub IsOpened : {R K : Type 0} → (R → Settings → ℕ → History → K → Type 0) → R → Settings → K → Type 0
IsOpened stands r c k = (s : ℕ) → stands r c s [] k

-- and gave nothing yet
pub record AreNew {R K : Type 0} (stands : R → Settings → ℕ → History → K → Type 0) (output plain : K → List Emit) (r : R) (c : Settings) (k : K) : Type 0 where
  pub stood : IsOpened stands r c k
  pub emits : output k ≡ []
  pub said : plain k ≡ []

-- ---- one more entry

-- the most emits of all parts at one event
abbrev pub most_output : ℕ
most_output = 65535

-- the event as an entry
abbrev pub entry_at : Step → Entry
entry_at t = entry_of t.event.now

-- the gateway has taken it, and says so
pub record IsStepped (c : Settings) (s : ℕ) (h : History) (t : Step) : Type 0 where
  pub settings : AreSettings c
  pub start : t.start ≡ s
  pub could : IsHistory (entry_at t ∷ h)
  pub taken : IsTaken c s h (entry_at t) t.gateway.now t.outbox.now

-- the part stands for one entry more, and what it gave is what the history says that it gives
pub record IsGiven {R K : Type 0} (stands : R → Settings → ℕ → History → K → Type 0) (gives : R → Settings → ℕ → History → Entry → List Emit)
    (utters : R → Settings → ℕ → History → Entry → List Utterance) (output : K → List Emit) (utterances : K → List Utterance)
    (r : R) (c : Settings) (s : ℕ) (h : History) (e : Entry) (after : K) : Type 0 where
  pub stood : stands r c s (e ∷ h) after
  pub emits : output after ≡ gives r c s h e
  pub said : utterances after ≡ utters r c s h e

-- for every history for which it stands before
abbrev pub Takes : {R K : Type 0} → (R → Settings → ℕ → History → K → Type 0) → (R → Settings → ℕ → History → Entry → List Emit)
    → (R → Settings → ℕ → History → Entry → List Utterance) → (K → List Emit) → (K → List Utterance) → Step → K → K → Type 0
Takes {R} {K} stands gives utters output utterances t before after =
    (r : R) (c : Settings) (s : ℕ) (h : History) → IsStepped c s h t → stands r c s h before
    → IsGiven stands gives utters output utterances r c s h (entry_at t) after

-- it stands for the same histories as before
abbrev pub Keeps : {R K : Type 0} → (R → Settings → ℕ → History → K → Type 0) → K → K → Type 0
Keeps {R} {K} stands before after = (r : R) (c : Settings) (s : ℕ) (h : History) → stands r c s h before → stands r c s h after

-- it stands for a history with a command as well, which comes at the moment of the last entry
abbrev pub KeepsCommands : {R K : Type 0} → (R → Settings → ℕ → History → K → Type 0) → Type 0
KeepsCommands {R} {K} stands =
    (r : R) (c : Settings) (s : ℕ) (h : History) (source address : ℕ) (k : K) → AreSettings c → stands r c s h k
    → stands r c s (command (now h) source address ∷ h) k

-- ---- none is there

-- it gave nothing, and whatever comes, it stands for that as well and gives nothing
pub record IsAbsent {R K : Type 0} (stands : R → Settings → ℕ → History → K → Type 0) (gives : R → Settings → ℕ → History → Entry → List Emit)
    (utters : R → Settings → ℕ → History → Entry → List Utterance) (output plain : K → List Emit) (k : K) : Type 0 where
  pub stood : (r : R) (c : Settings) (s : ℕ) (h : History) (e : Entry) → stands r c s h k → stands r c s (e ∷ h) k
  pub never : (r : R) (c : Settings) (s : ℕ) (h : History) (e : Entry) → stands r c s h k → gives r c s h e ≡ []
  pub silent : (r : R) (c : Settings) (s : ℕ) (h : History) (e : Entry) → stands r c s h k → utters r c s h e ≡ []
  pub emits : output k ≡ []
  pub said : plain k ≡ []

-- ---- of one part, what it gave in its place

pub record IsSaid {R K E : Type 0} (stands : R → Settings → ℕ → History → K → Type 0) (gives : R → Settings → ℕ → History → Entry → List Emit)
    (output : E → List Emit) (r : R) (c : Settings) (s : ℕ) (h : History) (e : Entry) (after : K) (place : E) : Type 0 where
  pub stood : stands r c s (e ∷ h) after
  pub emits : output place ≡ gives r c s h e

abbrev pub Says : {R K E : Type 0} → (R → Settings → ℕ → History → K → Type 0) → (R → Settings → ℕ → History → Entry → List Emit)
    → (E → List Emit) → Step → K → K → E → Type 0
Says {R} {K} {E} stands gives output t before after place =
    (r : R) (c : Settings) (s : ℕ) (h : History) → IsStepped c s h t → stands r c s h before → IsSaid stands gives output r c s h (entry_at t) after place

-- and each datagram of it has its stream
abbrev pub Utters : {R K E : Type 0} → (R → Settings → ℕ → History → K → Type 0) → (R → Settings → ℕ → History → Entry → List Emit)
    → (R → Settings → ℕ → History → Entry → List Utterance) → (E → List Emit) → (E → List Utterance) → Step → K → E → Type 0
Utters {R} {K} {E} stands gives utters output utterances t before place =
    (r : R) (c : Settings) (s : ℕ) (h : History) → IsStepped c s h t → stands r c s h before → output place ≡ gives r c s h (entry_at t)
    → utterances place ≡ utters r c s h (entry_at t)
