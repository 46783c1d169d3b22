-- Where only a device's frames are kept, no more keys are open than were, so its openers find room that found it.
use Rattle.std.proofs.Common.{◌≡◌, ℕ, ◌≤◌, Bool, true, false, ◌||◌, not, List, [], ◌∷◌, length, refl, sym, ap, ◌∙◌, ◌==◌, nat_lt, arith, is_some}
use Rattle.std.specs.Prelude.{Option, filter, if◌then◌else◌}
use Rattle.std.specs.List.{AllByRecursion, list_any}
use Rattle.std.specs.Bool.{beq}
use Rattle.std.proofs.lemmas.Bool.{eq-eqb, false≢true, lt-ltb, ltb-true}
use Rattle.slot_views.specs.Runs.{open_at}
use Rattle.pgn_profile.specs.declared.kinds.Kind.{Kind}
use Rattle.fast_packet.specs.declared.key.FastKey.{FastKey}
use Rattle.fast_packet.specs.FastRuns.{FastPiece, fast_rules}
use Rattle.iso_transport.specs.declared.key.IsoKey.{IsoKey}
use Rattle.iso_transport.specs.Audience.{key_of}
use Rattle.iso_transport.specs.IsoRuns.{IsoPiece, iso_rules}
use Rattle.claim_table.specs.Laws.{IsSound}
use Rattle.history.specs.Known.{Known, held_since}
use Rattle.history.specs.Traces.{NotedFrame, fast_trace, is_transport}
use Rattle.history.specs.Opens.{with_key, is_fast, same_fast, precedes_fast, fast_keys, fast_open, open_fast_keys, is_fast_admitted, same_iso, precedes_iso, iso_keys, iso_open, open_iso_keys, is_iso_admitted}
use Rattle.history.proofs.KeySteps.{eqb-sym}
use Rattle.history.proofs.Counts.{all_placed}
use Rattle.history.proofs.FastCounts as fast
use Rattle.history.proofs.IsoCounts as iso
use Rattle.history.proofs.Fewer.{Apart, apart_placed, apart_filtered, among_filtered, no_longer}
use Rattle.claim_table.specs.declared.answer.Holder.{Holder}

-- a frame of a fast packet or of the transport protocol is the device's
abbrev pub IsOwnKind : (ℕ → Kind) → ℕ → NotedFrame → Type 0
IsOwnKind kinds a n = (is_fast (kinds n.parts.pgn) || is_transport n.parts) ≡ true → (n.parts.source == a) ≡ true

or_true : (b : Bool) → (b || true) ≡ true
or_true b = grind arith

true_or : (b d : Bool) → b ≡ true → (b || d) ≡ true
true_or b d e = rw e refl

smaller : (a b limit : ℕ) → a ≤ b → nat_lt b limit ≡ true → nat_lt a limit ≡ true
smaller a b limit le less = lt-ltb a limit (omega (arith, le, ltb-true b limit less))

-- ---- fast packets

pub fast_turn : (a b : FastKey) → same_fast a b ≡ same_fast b a
fast_turn a b = rw (eqb-sym a.source b.source, eqb-sym a.pgn b.pgn) refl

pub fast_itself : (a : FastKey) → same_fast a a ≡ true
fast_itself a = rw (eq-eqb a.source a.source refl, eq-eqb a.pgn a.pgn refl) refl

pub fast_apart : (kinds : ℕ → Kind) (notes : List NotedFrame) → Apart same_fast fast.same_is fast_turn fast_itself (fast_keys kinds notes)
fast_apart kinds [] = tt
fast_apart kinds (n ∷ notes) = by (is_fast (kinds n.parts.pgn)) (fast_apart kinds notes)
  where
    by : (b : Bool) → Apart same_fast fast.same_is fast_turn fast_itself (fast_keys kinds notes)
        → Apart same_fast fast.same_is fast_turn fast_itself (if b then with_key same_fast precedes_fast (record { source = n.parts.source; pgn = n.parts.pgn }) (fast_keys kinds notes) else fast_keys kinds notes)
    by true rest = apart_placed same_fast fast.same_is fast_turn fast_itself precedes_fast (record { source = n.parts.source; pgn = n.parts.pgn }) (fast_keys kinds notes) rest
    by false rest = rest

abbrev IsFastOf : (ℕ → Kind) → ℕ → FastKey → Type 0
IsFastOf kinds a key = ((key.source == a) ≡ true) × (is_fast (kinds key.pgn) ≡ true)

fast_own : (kinds : ℕ → Kind) (a : ℕ) (notes : List NotedFrame) → AllByRecursion (IsOwnKind kinds a) notes → AllByRecursion (IsFastOf kinds a) (fast_keys kinds notes)
fast_own kinds a [] all = tt
fast_own kinds a (n ∷ notes) all = by (is_fast (kinds n.parts.pgn)) refl (fast_own kinds a notes all.1)
  where
    by : (b : Bool) → is_fast (kinds n.parts.pgn) ≡ b → AllByRecursion (IsFastOf kinds a) (fast_keys kinds notes)
        → AllByRecursion (IsFastOf kinds a) (if b then with_key same_fast precedes_fast (record { source = n.parts.source; pgn = n.parts.pgn }) (fast_keys kinds notes) else fast_keys kinds notes)
    by true e rest = all_placed (IsFastOf kinds a) same_fast precedes_fast (record { source = n.parts.source; pgn = n.parts.pgn }) (fast_keys kinds notes) (all.0 (true_or (is_fast (kinds n.parts.pgn)) (is_transport n.parts) e), e) rest
    by false e rest = rest

pub fast_came : (kinds : ℕ → Kind) (holders : List (Option Holder)) (notes : List NotedFrame) (m : ℕ) (key : FastKey) → is_fast (kinds key.pgn) ≡ true → is_some (fast_open holders notes key m) ≡ true → list_any (same_fast key) (fast_keys kinds notes) ≡ true
fast_came kinds holders notes m key kind is_open = by (list_any (same_fast key) (fast_keys kinds notes)) refl
  where
    by : (b : Bool) → list_any (same_fast key) (fast_keys kinds notes) ≡ b → list_any (same_fast key) (fast_keys kinds notes) ≡ true
    by true e = e
    by false e =
        let nothing : fast_trace holders key.source key.pgn notes ≡ [] = fast.no_frames kinds key (held_since holders key.source) notes kind e in
        let closed : is_some (fast_open holders notes key m) ≡ false = ap (λ (t : List FastPiece). is_some (open_at fast_rules t m)) nothing in
        absurd (false≢true (sym closed ∙ is_open))

-- what is open of the device in one is open in the other
module _ (kinds : ℕ → Kind) (a : ℕ) (holders others : List (Option Holder)) (notes kept : List NotedFrame) (m : ℕ) (own : AllByRecursion (IsOwnKind kinds a) kept)
    (opens : (key : FastKey) → IsFastOf kinds a key → is_some (fast_open others kept key m) ≡ is_some (fast_open holders notes key m)) where
  fast_among : (key : FastKey) (ks : List FastKey) → AllByRecursion (IsFastOf kinds a) ks
      → AllByRecursion (λ x. list_any (same_fast x) (filter (λ other. not (same_fast other key)) (open_fast_keys kinds holders notes m)) ≡ true)
      (filter (λ other. not (same_fast other key)) (filter (λ x. is_some (fast_open others kept x m)) ks))
  fast_among key [] all = tt
  fast_among key (x ∷ ks) all = by (is_some (fast_open others kept x m)) refl (not (same_fast x key)) refl (fast_among key ks all.1)
    where
      there : is_some (fast_open others kept x m) ≡ true → not (same_fast x key) ≡ true → list_any (same_fast x) (filter (λ other. not (same_fast other key)) (open_fast_keys kinds holders notes m)) ≡ true
      there e f =
          let is_open : is_some (fast_open holders notes x m) ≡ true = sym (opens x all.0) ∙ e in
          among_filtered same_fast fast.same_is fast_turn fast_itself (λ other. not (same_fast other key)) x (open_fast_keys kinds holders notes m) f
          (among_filtered same_fast fast.same_is fast_turn fast_itself (λ other. is_some (fast_open holders notes other m)) x (fast_keys kinds notes) is_open (fast_came kinds holders notes m x all.0.1 is_open))

      by : (b : Bool) → is_some (fast_open others kept x m) ≡ b → (d : Bool) → not (same_fast x key) ≡ d
          → AllByRecursion (λ y. list_any (same_fast y) (filter (λ other. not (same_fast other key)) (open_fast_keys kinds holders notes m)) ≡ true) (filter (λ other. not (same_fast other key)) (filter (λ y. is_some (fast_open others kept y m)) ks))
          → AllByRecursion (λ y. list_any (same_fast y) (filter (λ other. not (same_fast other key)) (open_fast_keys kinds holders notes m)) ≡ true) (filter (λ other. not (same_fast other key)) (filter (λ y. is_some (fast_open others kept y m)) (x ∷ ks)))
      by b e d f rest = grind (arith, there)

  pub fast_room : (limit : ℕ) (key : FastKey) → is_fast_admitted kinds limit holders notes key m ≡ true → is_fast_admitted kinds limit others kept key m ≡ true
  fast_room limit key room =
      smaller (length (filter (λ other. not (same_fast other key)) (open_fast_keys kinds others kept m))) (length (filter (λ other. not (same_fast other key)) (open_fast_keys kinds holders notes m))) limit
      (no_longer same_fast fast.same_is fast_turn fast_itself (filter (λ other. not (same_fast other key)) (open_fast_keys kinds others kept m)) (filter (λ other. not (same_fast other key)) (open_fast_keys kinds holders notes m))
      (apart_filtered same_fast fast.same_is fast_turn fast_itself (λ other. not (same_fast other key)) (open_fast_keys kinds others kept m)
      (apart_filtered same_fast fast.same_is fast_turn fast_itself (λ x. is_some (fast_open others kept x m)) (fast_keys kinds kept) (fast_apart kinds kept)))
      (fast_among key (fast_keys kinds kept) (fast_own kinds a kept own)))
      room

-- ---- the transport protocol

pub iso_turn : (a b : IsoKey) → same_iso a b ≡ same_iso b a
iso_turn a b = rw (iso.both_turn a.addressed b.addressed, eqb-sym a.source b.source) refl

both_itself : (b : Bool) → beq b b ≡ true
both_itself b = grind arith

pub iso_itself : (a : IsoKey) → same_iso a a ≡ true
iso_itself a = rw (both_itself a.addressed, eq-eqb a.source a.source refl) refl

pub iso_apart : (notes : List NotedFrame) → Apart same_iso iso.same_is iso_turn iso_itself (iso_keys notes)
iso_apart [] = tt
iso_apart (n ∷ notes) = by (is_transport n.parts) (iso_apart notes)
  where
    by : (b : Bool) → Apart same_iso iso.same_is iso_turn iso_itself (iso_keys notes) → Apart same_iso iso.same_is iso_turn iso_itself (if b then with_key same_iso precedes_iso (key_of n.parts) (iso_keys notes) else iso_keys notes)
    by true rest = apart_placed same_iso iso.same_is iso_turn iso_itself precedes_iso (key_of n.parts) (iso_keys notes) rest
    by false rest = rest

abbrev IsIsoOf : ℕ → IsoKey → Type 0
IsIsoOf a key = (key.source == a) ≡ true

iso_own : (kinds : ℕ → Kind) (a : ℕ) (notes : List NotedFrame) → AllByRecursion (IsOwnKind kinds a) notes → AllByRecursion (IsIsoOf a) (iso_keys notes)
iso_own kinds a [] all = tt
iso_own kinds a (n ∷ notes) all = by (is_transport n.parts) refl (iso_own kinds a notes all.1)
  where
    by : (b : Bool) → is_transport n.parts ≡ b → AllByRecursion (IsIsoOf a) (iso_keys notes) → AllByRecursion (IsIsoOf a) (if b then with_key same_iso precedes_iso (key_of n.parts) (iso_keys notes) else iso_keys notes)
    by true e rest = all_placed (IsIsoOf a) same_iso precedes_iso (key_of n.parts) (iso_keys notes) (all.0 (rw e (or_true (is_fast (kinds n.parts.pgn))))) rest
    by false e rest = rest

pub iso_came : (k : Known) → IsSound k.claims → (notes : List NotedFrame) (m : ℕ) (key : IsoKey) → is_some (iso_open k notes key m) ≡ true → list_any (same_iso key) (iso_keys notes) ≡ true
iso_came k sound notes m key is_open = by (list_any (same_iso key) (iso_keys notes)) refl
  where
    by : (b : Bool) → list_any (same_iso key) (iso_keys notes) ≡ b → list_any (same_iso key) (iso_keys notes) ≡ true
    by true e = e
    by false e =
        let closed : is_some (iso_open k notes key m) ≡ false = ap (λ (t : List IsoPiece). is_some (open_at (iso_rules key.addressed) t m)) (iso.no_frames k sound key notes e) in
        absurd (false≢true (sym closed ∙ is_open))

module _ (kinds : ℕ → Kind) (a : ℕ) (k l : Known) (sound : IsSound k.claims) (notes kept : List NotedFrame) (m : ℕ) (own : AllByRecursion (IsOwnKind kinds a) kept)
    (opens : (key : IsoKey) → IsIsoOf a key → is_some (iso_open l kept key m) ≡ is_some (iso_open k notes key m)) where
  iso_among : (key : IsoKey) (ks : List IsoKey) → AllByRecursion (IsIsoOf a) ks
      → AllByRecursion (λ x. list_any (same_iso x) (filter (λ other. not (same_iso other key)) (open_iso_keys k notes m)) ≡ true)
      (filter (λ other. not (same_iso other key)) (filter (λ x. is_some (iso_open l kept x m)) ks))
  iso_among key [] all = tt
  iso_among key (x ∷ ks) all = by (is_some (iso_open l kept x m)) refl (not (same_iso x key)) refl (iso_among key ks all.1)
    where
      there : is_some (iso_open l kept x m) ≡ true → not (same_iso x key) ≡ true → list_any (same_iso x) (filter (λ other. not (same_iso other key)) (open_iso_keys k notes m)) ≡ true
      there e f =
          let is_open : is_some (iso_open k notes x m) ≡ true = sym (opens x all.0) ∙ e in
          among_filtered same_iso iso.same_is iso_turn iso_itself (λ other. not (same_iso other key)) x (open_iso_keys k notes m) f
          (among_filtered same_iso iso.same_is iso_turn iso_itself (λ other. is_some (iso_open k notes other m)) x (iso_keys notes) is_open (iso_came k sound notes m x is_open))

      by : (b : Bool) → is_some (iso_open l kept x m) ≡ b → (d : Bool) → not (same_iso x key) ≡ d
          → AllByRecursion (λ y. list_any (same_iso y) (filter (λ other. not (same_iso other key)) (open_iso_keys k notes m)) ≡ true) (filter (λ other. not (same_iso other key)) (filter (λ y. is_some (iso_open l kept y m)) ks))
          → AllByRecursion (λ y. list_any (same_iso y) (filter (λ other. not (same_iso other key)) (open_iso_keys k notes m)) ≡ true) (filter (λ other. not (same_iso other key)) (filter (λ y. is_some (iso_open l kept y m)) (x ∷ ks)))
      by b e d f rest = grind (arith, there)

  pub iso_room : (limit : ℕ) (key : IsoKey) → is_iso_admitted limit k notes key m ≡ true → is_iso_admitted limit l kept key m ≡ true
  iso_room limit key room =
      smaller (length (filter (λ other. not (same_iso other key)) (open_iso_keys l kept m))) (length (filter (λ other. not (same_iso other key)) (open_iso_keys k notes m))) limit
      (no_longer same_iso iso.same_is iso_turn iso_itself (filter (λ other. not (same_iso other key)) (open_iso_keys l kept m)) (filter (λ other. not (same_iso other key)) (open_iso_keys k notes m))
      (apart_filtered same_iso iso.same_is iso_turn iso_itself (λ other. not (same_iso other key)) (open_iso_keys l kept m)
      (apart_filtered same_iso iso.same_is iso_turn iso_itself (λ x. is_some (iso_open l kept x m)) (iso_keys kept) (iso_apart kept)))
      (iso_among key (iso_keys kept) (iso_own kinds a kept own)))
      room
