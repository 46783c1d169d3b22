-- Whose message of a subject is the first, and whose NAME a message is of.
use Rattle.std.proofs.Common.{◌≡◌, ℕ, zero, suc, ◌<◌, Bool, true, false, ◌||◌, not, List, [], ◌∷◌, inl, inr, length, refl, sym, ap, subst, ◌∙◌, ◌==◌, arith}
use Rattle.std.specs.Prelude.{Option, Some, None, find, if◌then◌else◌}
use Rattle.std.specs.List.{AllByRecursion, list_any}
use Rattle.std.proofs.lemmas.Bool.{and_parts, eqb-true, eqb-false, false≢true}
use Rattle.n2k_id.specs.Identifier.{parts_of}
use Rattle.claim_table.specs.declared.answer.Holder.{Holder}
use Rattle.claim_table.specs.Claims.{holder_at, holder_by, claim}
use Rattle.claim_table.proofs.SoundLemmas.{held_within}
use Rattle.source_choice.specs.declared.rank.Rank.{Rank}
use Rattle.history.specs.Entries.{frame, datagram, tick, command}
use Rattle.source_choice.specs.SubjectRules.{SubjectRule}
use Rattle.history.specs.Known.{Known, known, is_claim, claim_by}
use Rattle.history.specs.Messages.{Message, Carried, messages_of, said_by, with_message, completed_by}
use Rattle.history.specs.Opens.{note_of, notes_of}
use Rattle.source_choice.specs.declared.told.Told.{Told}
use Rattle.history.specs.Subjects.{outranks}
use Rattle.history.specs.ChoiceLaws.{addresses, FirstByAddresses, IsOfHolder, MessagesAreOfHolders}
use Rattle.history.proofs.Addresses.{addresses_are_sound}
use Rattle.history.proofs.Fates.{fate, Fate}
use Rattle.history.proofs.Fates as fates
use Rattle.history.proofs.FreshSteps.{AreBelow, below, claim_says_none, last_since}
use Rattle.history.proofs.KeySteps.{known_same}
use Rattle.history.proofs.TraceMoves.{known_after_claim, commanded_holders}

-- ---- two lists of which something passes a test

pub both_ways : (a b : Bool) → (a ≡ true → b ≡ true) → (b ≡ true → a ≡ true) → a ≡ b
both_ways a b f g = grind arith

pub or_right : (a b : Bool) → b ≡ true → (a || b) ≡ true
or_right a b e = grind arith

-- one that passes
pub some_one : {A : Type 0} (p : A → Bool) (xs : List A) → list_any p xs ≡ true → (x : A) × (p x ≡ true)
some_one p [] e = absurd (false≢true e)
some_one {A = A} p (x ∷ xs) e = by (p x) refl e (λ rest. some_one p xs rest)
  where
    by : (b : Bool) → p x ≡ b → (b || list_any p xs) ≡ true → (list_any p xs ≡ true → (y : A) × (p y ≡ true)) → (y : A) × (p y ≡ true)
    by b ep e more = grind arith

below_any : (p : ℕ → Bool) (n a : ℕ) → a < n → p a ≡ true → list_any p (addresses n) ≡ true
below_any p zero a less e = absurd (omega (arith, less))
below_any p (suc n) a less e = by (a == n) refl (λ le. below_any p n a le e)
  where
    by : (b : Bool) → (a == n) ≡ b → (a < n → list_any p (addresses n) ≡ true) → list_any p (addresses (suc n)) ≡ true
    by b same more = grind (arith, eqb-true, eqb-false, or_right)

-- what is found passes, and so does each that agrees with it
pub found_any : {A : Type 0} (q p : A → Bool) (older : List A) (d : A) → find q older ≡ Some d → ((x : A) → q x ≡ true → p x ≡ true) → list_any p older ≡ true
found_any q p [] d e agrees = cc
found_any q p (x ∷ older) d e agrees = by (q x) refl e (λ f. found_any q p older d f agrees)
  where
    by : (b : Bool) → q x ≡ b → (if b then Some x else find q older) ≡ Some d → (find q older ≡ Some d → list_any p older ≡ true) → list_any p (x ∷ older) ≡ true
    by b eq e more = grind (arith, or_right)

module _ (tells : Message → Option Told) (rule : SubjectRule) (holders : List (Option Holder)) (subject : ℕ) (rank : Rank) (m : ℕ) (older : List Message) where
  held : (a : ℕ) → outranks tells rule holders subject rank m older a ≡ true → a < length holders
  held a e = grind (arith, and_parts, false≢true, held_within)

  -- an address that outranks the rank has sent a message
  pub has_sent : (a : ℕ) → outranks tells rule holders subject rank m older a ≡ true → list_any (λ d. outranks tells rule holders subject rank m older d.source) older ≡ true
  has_sent a e = grind (arith, and_parts, eqb-true, false≢true, found_any, last_since)

pub first_by_addresses : FirstByAddresses
first_by_addresses tells rule holders subject rank m older n enough = ap not (both_ways _ _ there back)
  where
    there : list_any (λ d. outranks tells rule holders subject rank m older d.source) older ≡ true → list_any (outranks tells rule holders subject rank m older) (addresses n) ≡ true
    there e =
        let one = some_one (λ d. outranks tells rule holders subject rank m older d.source) older e in
        let within = held tells rule holders subject rank m older one.0.source one.1 in
        below_any (outranks tells rule holders subject rank m older) n one.0.source (omega (arith, within, enough)) one.1

    back : list_any (outranks tells rule holders subject rank m older) (addresses n) ≡ true → list_any (λ d. outranks tells rule holders subject rank m older d.source) older ≡ true
    back e = let one = some_one (outranks tells rule holders subject rank m older) (addresses n) e in has_sent tells rule holders subject rank m older one.0 one.1

-- ---- the NAME of a message

module _ (a : ℕ) where
  -- a message that comes is of the holder of its source
  said_held : (n m from : ℕ) (x : Option Holder) (holder : Holder) (what : Option Carried) (older : List Message) → ((from == a) ≡ true → x ≡ Some holder)
      → AllByRecursion (IsOfHolder a holder) older → AllByRecursion (IsOfHolder a holder) (with_message (said_by n m from x what) older)
  said_held n m from x holder what older same all = grind arith

  -- none is since an entry that comes after all
  none_since : (i : ℕ) (holder : Holder) (older : List Message) → holder.since ≡ i → AreBelow i older → AllByRecursion (IsOfHolder a holder) older
  none_since i holder [] e all = tt
  none_since i holder (d ∷ older) e all = ((λ own le. absurd (omega (arith, e, le, all.0))), none_since i holder older e all.1)

pub messages_are_of_holders : MessagesAreOfHolders
messages_are_of_holders r s [] a holder are holds = tt
messages_are_of_holders r s (frame m f ∷ h) a holder are holds = by (is_claim f) refl (λ x e. messages_are_of_holders r s h a x are e)
  where
    by : (b : Bool) → is_claim f ≡ b → ((x : Holder) → holder_at (known r s h).claims.holders a ≡ Some x → AllByRecursion (IsOfHolder a x) (messages_of r s h))
        → AllByRecursion (IsOfHolder a holder) (messages_of r s (frame m f ∷ h))
    by false other before =
        let held : holder_at (known r s h).claims.holders a ≡ Some holder = ap (λ (k : Known). holder_at k.claims.holders a) (sym (known_same r s h m f other)) ∙ holds in
        said_held a (length h) m (parts_of f.id).source (holder_at (known r s h).claims.holders (parts_of f.id).source) holder
        (completed_by r.kinds (known r s h) (note_of r (length h) (known r s h) (notes_of r s h) m f) (notes_of r s h)) (messages_of r s h)
        (λ own. ap (holder_at (known r s h).claims.holders) (eqb-true (parts_of f.id).source a own) ∙ held) (before holder held)
    by true claims before =
        let now : holder_at (claim (known r s h).claims (claim_by (length h) m f)).after.holders a ≡ Some holder =
        ap (λ (k : Known). holder_at k.claims.holders a) (sym (known_after_claim r s h m f claims)) ∙ holds in
        subst (AllByRecursion (IsOfHolder a holder)) (sym (claim_says_none r s h m f are claims))
        (fated (fate (known r s h).claims (claim_by (length h) m f) (addresses_are_sound r s h are).sound a) now)
      where
        fated : Fate (known r s h).claims (claim_by (length h) m f) (claim (known r s h).claims (claim_by (length h) m f)) a
            → holder_at (claim (known r s h).claims (claim_by (length h) m f)).after.holders a ≡ Some holder → AllByRecursion (IsOfHolder a holder) (messages_of r s h)
        fated (fates.stays kept same) now = before holder (sym same ∙ now)
        fated (fates.begins (inl new) old) now =
            let one : Some (holder_by (claim_by (length h) m f)) ≡ Some holder = sym new ∙ now in
            let is : holder_by (claim_by (length h) m f) ≡ holder = cc in
            none_since a (length h) holder (messages_of r s h) (ap (λ (x : Holder). x.since) (sym is)) (below r s h)
        fated (fates.begins (inr gone) old) now = let no : None ≡ Some holder = sym gone ∙ now in cc
messages_are_of_holders r s (datagram m bytes ∷ h) a holder are holds = messages_are_of_holders r s h a holder are holds
messages_are_of_holders r s (tick m ∷ h) a holder are holds = messages_are_of_holders r s h a holder are holds
messages_are_of_holders r s (command m source address ∷ h) a holder are holds =
    messages_are_of_holders r s h a holder are (ap (λ (x : List (Option Holder)). holder_at x a) (sym (commanded_holders (known r s h).claims address m)) ∙ holds)
