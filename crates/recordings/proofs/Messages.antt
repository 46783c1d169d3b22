-- The messages of a history, the last one of a source, and whose message is chosen, are the same with a tick and without it, but for the places
-- of entries.
use Rattle.std.proofs.Common.{◌≡◌, ◌≢◌, ℕ, ◌<◌, Bool, true, false, ◌&&◌, ◌||◌, not, List, [], ◌∷◌, ◌++◌, length, map, refl, sym, ap, ◌∙◌, ◌==◌, nat_le, arith}
use Rattle.std.specs.Prelude.{Option, Some, None, find, option_and_then, option_map, if◌then◌else◌}
use Rattle.std.specs.List.{AllByRecursion, list_any}
use Rattle.claim_table.specs.Claims.{holder_at}
use Rattle.claim_table.specs.declared.answer.Holder.{Holder}
use Rattle.source_choice.specs.SubjectRules.{SubjectRule, rank_of}
use Rattle.source_choice.specs.declared.rank.Rank.{Rank}
use Rattle.source_choice.specs.declared.told.Told.{Told}
use Rattle.history.specs.Entries.{Entry, History, tick}
use Rattle.history.specs.Known.{Known, known, held_since}
use Rattle.history.specs.Messages.{Message, done, messages_of, with_message}
use Rattle.history.specs.Opens.{notes_of}
use Rattle.history.specs.Settings.{Receiver}
use Rattle.history.specs.Subjects.{holder_rank, is_about, is_better, is_chosen, is_current, is_first, is_fresh, is_of, last_of, outranks, still_counts}
use Rattle.history.specs.Traces.{NotedFrame}
use Rattle.history.proofs.FreshSteps.{below}
use Rattle.gateway_commands.proofs.Completed.{done_by}
use Rattle.recordings.proofs.Places.{closed, closed_before, closed_order, place_of, apart_from}
use Rattle.recordings.proofs.Renumbered.{holder_as, at_as, since_as}
use Rattle.recordings.proofs.Known.{known_without}
use Rattle.recordings.proofs.Noted.{message_as, done_at, done_is, done_as, notes_apart, notes_without}
use Rattle.recordings.proofs.Gathered.{ap₃}

-- no message is of the entry at n
abbrev pub IsApart : ℕ → Option Message → Type 0
IsApart n None = Unit {0}
IsApart n (Some d) = d.index ≢ n

abbrev pub MessagesApart : ℕ → List Message → Type 0
MessagesApart n older = AllByRecursion (λ d. d.index ≢ n) older

below_apart : (n : ℕ) (older : List Message) → AllByRecursion (λ d. d.index < n) older → MessagesApart n older
below_apart n [] all = tt
below_apart n (d ∷ older) all = ((λ same. omega (arith, all.0, same)), below_apart n older all.1)

messages_stay : (n : ℕ) (older : List Message) → AllByRecursion (λ d. d.index < n) older → map (message_as (closed n)) older ≡ older
messages_stay n [] all = refl
messages_stay n (d ∷ older) all =
    ap (λ (i : ℕ). record d { index = i } ∷ map (message_as (closed n)) older) (closed_before n d.index (omega (arith, all.0)))
    ∙ ap (λ (ds : List Message). d ∷ ds) (messages_stay n older all.1)

with_apart : (n : ℕ) (said : Option Message) (older : List Message) → IsApart n said → MessagesApart n older → MessagesApart n (with_message said older)
with_apart n None older one all = all
with_apart n (Some d) older one all = (one, all)

with_as : (f : ℕ → ℕ) (said : Option Message) (older : List Message)
    → with_message (option_map (message_as f) said) (map (message_as f) older) ≡ map (message_as f) (with_message said older)
with_as f None older = refl
with_as f (Some d) older = refl

module _ (r : Receiver) (s m : ℕ) (h : History) where
  pub done_without : (newer : History) (e : Entry) → done r s (newer ++ h) e ≡ option_map (message_as (closed (length h))) (done r s (newer ++ tick m ∷ h) e)
  done_without newer e =
      done_is r s (newer ++ h) e
      ∙ ap₃ (λ (i : ℕ) (k : Known) (notes : List NotedFrame). done_at r i k notes e) (sym (place_of newer m h)) (known_without r s m h newer) (notes_without r s m h newer)
      ∙ done_as (length h) r (length (newer ++ tick m ∷ h)) (known r s (newer ++ tick m ∷ h)) (notes_of r s (newer ++ tick m ∷ h)) (notes_apart r s m h newer) (apart_from newer m h) e
      ∙ ap (option_map (message_as (closed (length h)))) (sym (done_is r s (newer ++ tick m ∷ h) e))

  pub done_apart : (newer : History) (e : Entry) → IsApart (length h) (done r s (newer ++ tick m ∷ h) e)
  done_apart newer e = by (done r s (newer ++ tick m ∷ h) e) refl
    where
      by : (said : Option Message) → done r s (newer ++ tick m ∷ h) e ≡ said → IsApart (length h) said
      by None is = tt
      by (Some d) is = λ same. apart_from newer m h (sym (done_by r s (newer ++ tick m ∷ h) e d is).index ∙ same)

  pub messages_apart : (newer : History) → MessagesApart (length h) (messages_of r s (newer ++ tick m ∷ h))
  messages_apart [] = below_apart (length h) (messages_of r s h) (below r s h)
  messages_apart (e ∷ newer) =
      with_apart (length h) (done r s (newer ++ tick m ∷ h) e) (messages_of r s (newer ++ tick m ∷ h)) (done_apart newer e) (messages_apart newer)

  pub messages_without : (newer : History) → messages_of r s (newer ++ h) ≡ map (message_as (closed (length h))) (messages_of r s (newer ++ tick m ∷ h))
  messages_without [] = sym (messages_stay (length h) (messages_of r s h) (below r s h))
  messages_without (e ∷ newer) =
      ap (λ (said : Option Message). with_message said (messages_of r s (newer ++ h))) (done_without newer e)
      ∙ ap (with_message (option_map (message_as (closed (length h))) (done r s (newer ++ tick m ∷ h) e))) (messages_without newer)
      ∙ with_as (closed (length h)) (done r s (newer ++ tick m ∷ h) e) (messages_of r s (newer ++ tick m ∷ h))

-- ---- whose message is chosen, whatever tells of subjects, as long as it doesn't look at places

module _ (tells : Message → Option Told) (n : ℕ) (unseen : (d : Message) → tells (message_as (closed n) d) ≡ tells d) where
  is_of_as : (subject source since : ℕ) (d : Message) → d.index ≢ n → is_of tells subject source (closed n since) (message_as (closed n) d) ≡ is_of tells subject source since d
  is_of_as subject source since d other =
      ap (λ (b : Bool). (d.source == source) && (b && is_about subject (tells (message_as (closed n) d)))) (closed_order n since d.index other)
      ∙ ap (λ (t : Option Told). (d.source == source) && (nat_le since d.index && is_about subject t)) (unseen d)

  found_as : (subject source since : ℕ) (older : List Message) → MessagesApart n older
      → find (is_of tells subject source (closed n since)) (map (message_as (closed n)) older) ≡ option_map (message_as (closed n)) (find (is_of tells subject source since) older)
  found_as subject source since [] apart = refl
  found_as subject source since (d ∷ older) apart =
      rw (is_of_as subject source since d apart.0) (by (is_of tells subject source since d) (found_as subject source since older apart.1))
    where
      by : (b : Bool)
          → find (is_of tells subject source (closed n since)) (map (message_as (closed n)) older) ≡ option_map (message_as (closed n)) (find (is_of tells subject source since) older)
          → (if b then Some (message_as (closed n) d) else find (is_of tells subject source (closed n since)) (map (message_as (closed n)) older))
          ≡ option_map (message_as (closed n)) (if b then Some d else find (is_of tells subject source since) older)
      by true rest = refl
      by false rest = rest

  last_as : (holders : List (Option Holder)) (subject source : ℕ) (older : List Message) → MessagesApart n older
      → last_of tells (map (holder_as (closed n)) holders) subject source (map (message_as (closed n)) older)
      ≡ option_map (message_as (closed n)) (last_of tells holders subject source older)
  last_as holders subject source older apart =
      ap (option_and_then (λ since. find (is_of tells subject source since) (map (message_as (closed n)) older))) (since_as (closed n) holders source)
      ∙ by (held_since holders source)
    where
      by : (since : Option ℕ) → option_and_then (λ x. find (is_of tells subject source x) (map (message_as (closed n)) older)) (option_map (closed n) since)
          ≡ option_map (message_as (closed n)) (option_and_then (λ x. find (is_of tells subject source x) older) since)
      by None = refl
      by (Some since) = found_as subject source since older apart

  counts_as : (timeout m : ℕ) (last : Option Message) → still_counts tells timeout m (option_map (message_as (closed n)) last) ≡ still_counts tells timeout m last
  counts_as timeout m None = refl
  counts_as timeout m (Some d) = ap (is_current timeout m d.moment) (unseen d)

  pub rank_as : (rule : SubjectRule) (holders : List (Option Holder)) (source : ℕ)
      → holder_rank rule (holder_at (map (holder_as (closed n)) holders) source) ≡ holder_rank rule (holder_at holders source)
  rank_as rule holders source = ap (holder_rank rule) (at_as (closed n) holders source) ∙ by (holder_at holders source)
    where
      by : (x : Option Holder) → holder_rank rule (holder_as (closed n) x) ≡ holder_rank rule x
      by None = refl
      by (Some h) = refl

  pub fresh_as : (rule : SubjectRule) (holders : List (Option Holder)) (subject source m : ℕ) (older : List Message) → MessagesApart n older
      → is_fresh tells rule (map (holder_as (closed n)) holders) subject source m (map (message_as (closed n)) older) ≡ is_fresh tells rule holders subject source m older
  fresh_as rule holders subject source m older apart =
      ap (still_counts tells rule.timeout m) (last_as holders subject source older apart) ∙ counts_as rule.timeout m (last_of tells holders subject source older)

  outranks_as : (rule : SubjectRule) (holders : List (Option Holder)) (subject : ℕ) (rank : Rank) (m : ℕ) (older : List Message) (source : ℕ) → MessagesApart n older
      → outranks tells rule (map (holder_as (closed n)) holders) subject rank m (map (message_as (closed n)) older) source ≡ outranks tells rule holders subject rank m older source
  outranks_as rule holders subject rank m older source apart =
      ap (λ (x : Option Rank). is_better rank x && is_fresh tells rule (map (holder_as (closed n)) holders) subject source m (map (message_as (closed n)) older))
      (rank_as rule holders source)
      ∙ ap (λ (b : Bool). is_better rank (holder_rank rule (holder_at holders source)) && b) (fresh_as rule holders subject source m older apart)

  pub any_as : (p : ℕ → Bool) (q : ℕ → Bool) (older : List Message) → ((source : ℕ) → p source ≡ q source)
      → list_any (λ d. p d.source) (map (message_as (closed n)) older) ≡ list_any (λ d. q d.source) older
  any_as p q [] same = refl
  any_as p q (d ∷ older) same =
      ap (λ (b : Bool). b || list_any (λ d. p d.source) (map (message_as (closed n)) older)) (same d.source)
      ∙ ap (λ (b : Bool). q d.source || b) (any_as p q older same)

  first_as : (rule : SubjectRule) (holders : List (Option Holder)) (subject m : ℕ) (older : List Message) (rank : Option Rank) → MessagesApart n older
      → is_first tells rule (map (holder_as (closed n)) holders) subject m (map (message_as (closed n)) older) rank ≡ is_first tells rule holders subject m older rank
  first_as rule holders subject m older None apart = refl
  first_as rule holders subject m older (Some x) apart =
      ap not (any_as (outranks tells rule (map (holder_as (closed n)) holders) subject x m (map (message_as (closed n)) older)) (outranks tells rule holders subject x m older) older
      (λ source. outranks_as rule holders subject x m older source apart))

  pub chosen_as : (rules : ℕ → SubjectRule) (holders : List (Option Holder)) (older : List Message) (d : Message) (t : Told) → MessagesApart n older
      → is_chosen tells rules (map (holder_as (closed n)) holders) (map (message_as (closed n)) older) (message_as (closed n) d) t ≡ is_chosen tells rules holders older d t
  chosen_as rules holders older d t apart = first_as (rules t.subject) holders t.subject d.moment older (rank_of (rules t.subject) d.name) apart
