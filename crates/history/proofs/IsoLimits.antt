-- The open sessions of the transport protocol are within their limit.
use Rattle.std.proofs.Common.{◌≡◌, ℕ, ◌≤◌, Bool, true, false, List, [], ◌∷◌, length, refl, sym, ap, subst, ◌∙◌, arith, is_some}
use Rattle.std.specs.Prelude.{if◌then◌else◌}
use Rattle.std.specs.List.{AllByRecursion, list_any}
use Rattle.std.proofs.lemmas.Bool.{and_parts, false≢true}
use Rattle.n2k_id.specs.Frame.{BusFrame}
use Rattle.n2k_id.specs.Identifier.{parts_of}
use Rattle.claim_table.specs.Laws.{IsSound}
use Rattle.slot_views.specs.Runs.{kept_at, open_at}
use Rattle.slot_views.specs.RunLaws.{fed}
use Rattle.iso_transport.specs.declared.key.IsoKey.{IsoKey}
use Rattle.iso_transport.specs.Audience.{key_of}
use Rattle.iso_transport.specs.IsoRuns.{IsoPiece, iso_rules}
use Rattle.history.specs.Entries.{History, IsHistory, now, frame, datagram, tick}
use Rattle.history.specs.Entries as entry
use Rattle.history.specs.Settings.{Receiver}
use Rattle.history.specs.Known.{Known, known, is_claim}
use Rattle.history.specs.Traces.{NotedFrame, iso_piece, iso_trace, is_transport}
use Rattle.history.specs.Opens.{same_iso, iso_keys, iso_open, open_iso_keys, notes_of}
use Rattle.history.specs.AddressLaws.{IsReceiver}
use Rattle.history.specs.KeyLaws.{concerns, the_note}
use Rattle.history.specs.LimitLaws.{IsoWithinLimit}
use Rattle.history.proofs.Addresses.{addresses_are_sound}
use Rattle.history.proofs.SessionSteps.{iso_steps, iso_ends}
use Rattle.history.proofs.TraceMoves.{claims_move_traces, commands_move_traces}
use Rattle.history.proofs.IsoCounts.{same_is}
use Rattle.history.proofs.Fewer.{among_filtered}
use Rattle.history.proofs.Room.{iso_turn, iso_itself, iso_apart, iso_came}
use Rattle.history.proofs.Roomy.{key_is}
use Rattle.history.proofs.Limits.{kept_some, fed_some, cut_some, fewer, one_more}

abbrev Any : IsoKey → Type 0
Any key = Unit {0}

any_all : (ks : List IsoKey) → AllByRecursion Any ks
any_all [] = tt
any_all (k ∷ ks) = (tt, any_all ks)

among_open : (k : Known) → IsSound k.claims → (notes : List NotedFrame) (n : ℕ) (key : IsoKey) → is_some (iso_open k notes key n) ≡ true → list_any (same_iso key) (open_iso_keys k notes n) ≡ true
among_open k sound notes n key is =
    among_filtered same_iso same_is iso_turn iso_itself (λ x. is_some (iso_open k notes x n)) key (iso_keys notes) is (iso_came k sound notes n key is)

earlier : (k : Known) (notes : List NotedFrame) (key : IsoKey) (m n : ℕ) → m ≤ n → is_some (iso_open k notes key n) ≡ true → is_some (iso_open k notes key m) ≡ true
earlier k notes key m n le is = kept_some (iso_rules key.addressed) (iso_open k notes key m) n (sym (ap is_some (iso_ends k notes key m n le)) ∙ is)

-- no more keys are open than before
no_more : (k l : Known) → IsSound k.claims → (older notes : List NotedFrame) (m n limit : ℕ) → ((key : IsoKey) → is_some (iso_open l notes key n) ≡ true → is_some (iso_open k older key m) ≡ true)
    → length (open_iso_keys k older m) ≤ limit → length (open_iso_keys l notes n) ≤ limit
no_more k l sound older notes m n limit was few =
    omega (
      arith,
      few,
      fewer same_iso same_is iso_turn iso_itself Any (λ key. is_some (iso_open l notes key n)) (iso_keys notes) (open_iso_keys k older m) (iso_apart notes) (any_all (iso_keys notes))
          (λ key any is. among_open k sound older m key (was key is)),
    )

-- a frame that concerns a.claims session is of the transport protocol
transports : (k : Known) (n : NotedFrame) (key : IsoKey) → concerns k.claims n key ≡ true → is_transport n.parts ≡ true
transports k n key e = grind (arith, and_parts)

module _ (c : Receiver) (s : ℕ) (are : IsReceiver c) where
  sound : (h : History) → IsSound (known c s h).claims
  sound h = (addresses_are_sound c s h are).sound

  module _ (h : History) (m : ℕ) (f : BusFrame) (n : ℕ) (le : m ≤ n) where
    -- a claim opens nothing
    claimed : is_claim f ≡ true → (key : IsoKey) → is_some (iso_open (known c s (frame m f ∷ h)) (notes_of c s (frame m f ∷ h)) key n) ≡ true → is_some (iso_open (known c s h) (notes_of c s h) key m) ≡ true
    claimed claims key is = earlier (known c s h) (notes_of c s h) key m n le (cut key.addressed key.source is)
      where
        cut : (addressed : Bool) (a : ℕ) → is_some (open_at (iso_rules addressed) (iso_trace (known c s (frame m f ∷ h)) addressed a (notes_of c s (frame m f ∷ h))) n) ≡ true
            → is_some (open_at (iso_rules addressed) (iso_trace (known c s h) addressed a (notes_of c s h)) n) ≡ true
        cut false a left =
            cut_some (iso_rules false) _ (iso_trace (known c s h) false a (notes_of c s h)) n
            (subst (λ (t : List IsoPiece). is_some (open_at (iso_rules false) t n) ≡ true) ((claims_move_traces c s h m f are claims).broadcast a) left)
        cut true a left =
            cut_some (iso_rules true) _ (iso_trace (known c s h) true a (notes_of c s h)) n
            (subst (λ (t : List IsoPiece). is_some (open_at (iso_rules true) t n) ≡ true) ((claims_move_traces c s h m f are claims).addressed a) left)

    module _ (other : is_claim f ≡ false) where
      -- a frame that doesn't concern a session, or that had no room, leaves nothing of it that wasn't open
      was : (key : IsoKey) → (concerns (known c s h).claims (the_note c s h m f) key ≡ true → (the_note c s h m f).admitted ≡ false)
          → is_some (iso_open (known c s (frame m f ∷ h)) (notes_of c s (frame m f ∷ h)) key n) ≡ true → is_some (iso_open (known c s h) (notes_of c s h) key m) ≡ true
      was key full is = by (concerns (known c s h).claims (the_note c s h m f) key) full (sym (ap is_some ((iso_steps c s h m f are other).left key n)) ∙ is)
        where
          by : (b : Bool) → (b ≡ true → (the_note c s h m f).admitted ≡ false)
              → is_some (if b then kept_at (iso_rules key.addressed) (fed (iso_rules key.addressed) (iso_open (known c s h) (notes_of c s h) key m) (iso_piece (the_note c s h m f))) n else iso_open (known c s h) (notes_of c s h) key n) ≡ true
              → is_some (iso_open (known c s h) (notes_of c s h) key m) ≡ true
          by true no_room left =
              fed_some (iso_rules key.addressed) (iso_open (known c s h) (notes_of c s h) key m) (iso_piece (the_note c s h m f)) (no_room refl)
              (kept_some (iso_rules key.addressed) (fed (iso_rules key.addressed) (iso_open (known c s h) (notes_of c s h) key m) (iso_piece (the_note c s h m f))) n left)
          by false no_room left = earlier (known c s h) (notes_of c s h) key m n le left

      framed : length (open_iso_keys (known c s h) (notes_of c s h) m) ≤ c.iso_slots → length (open_iso_keys (known c s (frame m f ∷ h)) (notes_of c s (frame m f ∷ h)) n) ≤ c.iso_slots
      framed few =
          one_more same_iso same_is iso_turn iso_itself Any (λ key. is_some (iso_open (known c s (frame m f ∷ h)) (notes_of c s (frame m f ∷ h)) key n)) (iso_keys (notes_of c s (frame m f ∷ h)))
          (open_iso_keys (known c s h) (notes_of c s h) m) (key_of (parts_of f.id)) c.iso_slots (iso_apart (notes_of c s (frame m f ∷ h))) (any_all (iso_keys (notes_of c s (frame m f ∷ h))))
          (λ key any apart is. among_open (known c s h) (sound h) (notes_of c s h) m key (was key (λ e. absurd (false≢true (sym apart ∙ same key e))) is))
          (λ key any it full is. among_open (known c s h) (sound h) (notes_of c s h) m key (was key (λ e. rw (transports (known c s h) (the_note c s h m f) key e) full) is))
          few
        where
          same : (key : IsoKey) → concerns (known c s h).claims (the_note c s h m f) key ≡ true → same_iso key (key_of (parts_of f.id)) ≡ true
          same key e = subst (λ (x : IsoKey). same_iso key x ≡ true) (sym (key_is (known c s h) (sound h) (the_note c s h m f) key.source key.addressed e)) (iso_itself key)

  commanded : (h : History) (m source address n : ℕ) (key : IsoKey)
      → is_some (iso_open (known c s (entry.command m source address ∷ h)) (notes_of c s (entry.command m source address ∷ h)) key n) ≡ true → is_some (iso_open (known c s h) (notes_of c s h) key n) ≡ true
  commanded h m source address n key is = cut key.addressed key.source is
    where
      cut : (addressed : Bool) (a : ℕ) → is_some (open_at (iso_rules addressed) (iso_trace (known c s (entry.command m source address ∷ h)) addressed a (notes_of c s (entry.command m source address ∷ h))) n) ≡ true
          → is_some (open_at (iso_rules addressed) (iso_trace (known c s h) addressed a (notes_of c s h)) n) ≡ true
      cut false a left = subst (λ (t : List IsoPiece). is_some (open_at (iso_rules false) t n) ≡ true) ((commands_move_traces c s h m source address).broadcast a) left
      cut true a left =
          cut_some (iso_rules true) _ (iso_trace (known c s h) true a (notes_of c s h)) n
          (subst (λ (t : List IsoPiece). is_some (open_at (iso_rules true) t n) ≡ true) ((commands_move_traces c s h m source address).addressed a) left)

  limited : (h : History) → IsHistory h → (n : ℕ) → now h ≤ n → length (open_iso_keys (known c s h) (notes_of c s h) n) ≤ c.iso_slots
  limited [] is n le = omega arith
  limited (frame m f ∷ h) is n le = by (is_claim f) refl (limited h is.2 m is.1)
    where
      by : (b : Bool) → is_claim f ≡ b → length (open_iso_keys (known c s h) (notes_of c s h) m) ≤ c.iso_slots
          → length (open_iso_keys (known c s (frame m f ∷ h)) (notes_of c s (frame m f ∷ h)) n) ≤ c.iso_slots
      by true e few = no_more (known c s h) (known c s (frame m f ∷ h)) (sound h) (notes_of c s h) (notes_of c s (frame m f ∷ h)) m n c.iso_slots (claimed h m f n le e) few
      by false e few = framed h m f n le e few
  limited (datagram m bytes ∷ h) is n le = limited h is.2 n (omega (arith, is.1, le))
  limited (tick m ∷ h) is n le = limited h is.2 n (omega (arith, is.1, le))
  limited (entry.command m source address ∷ h) is n le =
      no_more (known c s h) (known c s (entry.command m source address ∷ h)) (sound h) (notes_of c s h) (notes_of c s h) n n c.iso_slots
      (commanded h m source address n) (limited h is.2 n (omega (arith, is.1, le)))

pub iso_within_limit : IsoWithinLimit
iso_within_limit c s h m are is le = limited c s are h is m le
