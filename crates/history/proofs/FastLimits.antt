-- The open messages of fast packets are within their limit.
use Rattle.std.proofs.Common.{◌≡◌, ℕ, ◌≤◌, Bool, true, false, List, [], ◌∷◌, length, refl, sym, ap, subst, ◌∙◌, arith, is_some}
use Rattle.std.specs.Prelude.{Option, Some, None}
use Rattle.std.specs.List.{list_any}
use Rattle.std.proofs.lemmas.Bool.{false≢true}
use Rattle.n2k_id.specs.Frame.{BusFrame}
use Rattle.n2k_id.specs.Identifier.{parts_of}
use Rattle.claim_table.specs.declared.answer.Holder.{Holder}
use Rattle.claim_table.specs.Claims.{holder_at}
use Rattle.pgn_profile.specs.declared.kinds.Kind.{Kind}
use Rattle.pgn_profile.specs.declared.kinds.Kind.TheVariants.{Fast}
use Rattle.slot_views.specs.Runs.{open_at}
use Rattle.slot_views.specs.RunLaws.{fed}
use Rattle.fast_packet.specs.declared.key.FastKey.{FastKey}
use Rattle.fast_packet.specs.FastRuns.{FastPiece, fast_rules}
use Rattle.history.specs.Entries.{History, IsHistory, now, frame, datagram, tick}
use Rattle.history.specs.Entries as entry
use Rattle.history.specs.Settings.{Receiver}
use Rattle.history.specs.Known.{known, is_claim}
use Rattle.history.specs.Traces.{NotedFrame, fast_piece, fast_trace}
use Rattle.history.specs.Opens.{is_fast, same_fast, fast_keys, fast_open, open_fast_keys, is_fast_admitted, notes_of}
use Rattle.history.specs.AddressLaws.{IsReceiver}
use Rattle.history.specs.KeyLaws.{fast_key, the_note}
use Rattle.history.specs.LimitLaws.{FastWithinLimit}
use Rattle.history.proofs.KeySteps.{known_same, no_transport, fast_steps, fast_keeps, fast_ends}
use Rattle.history.proofs.TraceMoves.{claims_move_traces, commands_move_traces}
use Rattle.history.proofs.FastCounts.{same_is, fast_all}
use Rattle.history.proofs.Fewer.{among_filtered}
use Rattle.history.proofs.Room.{fast_turn, fast_itself, fast_apart, fast_came}
use Rattle.history.proofs.Roomy.{not_claims_pgn}
use Rattle.history.proofs.Limits.{kept_some, fed_some, cut_some, fewer, one_more}

abbrev IsFast : (ℕ → Kind) → FastKey → Type 0
IsFast kinds key = is_fast (kinds key.pgn) ≡ true

fast_is : (kind : Kind) → is_fast kind ≡ true → kind ≡ Fast
fast_is kind e = grind arith

among_open : (kinds : ℕ → Kind) (holders : List (Option Holder)) (notes : List NotedFrame) (n : ℕ) (key : FastKey) → IsFast kinds key → is_some (fast_open holders notes key n) ≡ true → list_any (same_fast key) (open_fast_keys kinds holders notes n) ≡ true
among_open kinds holders notes n key kind is =
    among_filtered same_fast same_is fast_turn fast_itself (λ x. is_some (fast_open holders notes x n)) key (fast_keys kinds notes) is (fast_came kinds holders notes n key kind is)

earlier : (holders : List (Option Holder)) (notes : List NotedFrame) (key : FastKey) (m n : ℕ) → m ≤ n → is_some (fast_open holders notes key n) ≡ true → is_some (fast_open holders notes key m) ≡ true
earlier holders notes key m n le is = kept_some fast_rules (fast_open holders notes key m) n (sym (ap is_some (fast_ends holders notes key m n le)) ∙ is)

-- no more keys are open than before
no_more : (kinds : ℕ → Kind) (holders later : List (Option Holder)) (older notes : List NotedFrame) (m n limit : ℕ) → ((key : FastKey) → IsFast kinds key → is_some (fast_open later notes key n) ≡ true → is_some (fast_open holders older key m) ≡ true)
    → length (open_fast_keys kinds holders older m) ≤ limit → length (open_fast_keys kinds later notes n) ≤ limit
no_more kinds holders later older notes m n limit was few =
    omega (
      arith,
      few,
      fewer same_fast same_is fast_turn fast_itself (IsFast kinds) (λ key. is_some (fast_open later notes key n)) (fast_keys kinds notes) (open_fast_keys kinds holders older m) (fast_apart kinds notes) (fast_all kinds notes)
          (λ key kind is. among_open kinds holders older m key kind (was key kind is)),
    )

module _ (c : Receiver) (s : ℕ) (are : IsReceiver c) where
  module _ (h : History) (m : ℕ) (f : BusFrame) (n : ℕ) (le : m ≤ n) where
    -- a claim opens nothing
    claimed : is_claim f ≡ true → (key : FastKey) → IsFast c.kinds key
        → is_some (fast_open (known c s (frame m f ∷ h)).claims.holders (notes_of c s (frame m f ∷ h)) key n) ≡ true → is_some (fast_open (known c s h).claims.holders (notes_of c s h) key m) ≡ true
    claimed claims key kind is =
        earlier (known c s h).claims.holders (notes_of c s h) key m n le
        (cut_some fast_rules _ (fast_trace (known c s h).claims.holders key.source key.pgn (notes_of c s h)) n
        (subst (λ (t : List FastPiece). is_some (open_at fast_rules t n) ≡ true) ((claims_move_traces c s h m f are claims).fast key.source key.pgn (not_claims_pgn c are key.pgn (fast_is (c.kinds key.pgn) kind))) is))

    module _ (other : is_claim f ≡ false) where
      elsewhere : (key : FastKey) → same_fast key (fast_key c s h m f) ≡ false
          → is_some (fast_open (known c s (frame m f ∷ h)).claims.holders (notes_of c s (frame m f ∷ h)) key n) ≡ true → is_some (fast_open (known c s h).claims.holders (notes_of c s h) key m) ≡ true
      elsewhere key apart is = earlier (known c s h).claims.holders (notes_of c s h) key m n le (sym (ap is_some ((fast_keeps c s h m f other).others key n apart)) ∙ is)

      -- of its own key a frame without room leaves nothing that wasn't open
      own_full : IsFast c.kinds (fast_key c s h m f) → is_fast_admitted c.kinds c.fast_slots (known c s h).claims.holders (notes_of c s h) (fast_key c s h m f) m ≡ false
          → is_some (fast_open (known c s (frame m f ∷ h)).claims.holders (notes_of c s (frame m f ∷ h)) (fast_key c s h m f) n) ≡ true → is_some (fast_open (known c s h).claims.holders (notes_of c s h) (fast_key c s h m f) m) ≡ true
      own_full kind full is = by (holder_at (known c s h).claims.holders (parts_of f.id).source) refl
        where
          no_room : (the_note c s h m f).admitted ≡ false
          no_room = rw (no_transport c are (parts_of f.id) (fast_is (c.kinds (parts_of f.id).pgn) kind)) full

          by : (o : Option Holder) → holder_at (known c s h).claims.holders (parts_of f.id).source ≡ o → is_some (fast_open (known c s h).claims.holders (notes_of c s h) (fast_key c s h m f) m) ≡ true
          by None e = grind (arith, known_same, false≢true)
          by (Some x) e =
              fed_some fast_rules (fast_open (known c s h).claims.holders (notes_of c s h) (fast_key c s h m f) m) (fast_piece (the_note c s h m f)) no_room
              (kept_some fast_rules (fed fast_rules (fast_open (known c s h).claims.holders (notes_of c s h) (fast_key c s h m f) m) (fast_piece (the_note c s h m f))) n
              (sym (ap is_some ((fast_steps c s h m f x are (fast_is (c.kinds (parts_of f.id).pgn) kind) e).left n)) ∙ is))

      framed : length (open_fast_keys c.kinds (known c s h).claims.holders (notes_of c s h) m) ≤ c.fast_slots → length (open_fast_keys c.kinds (known c s (frame m f ∷ h)).claims.holders (notes_of c s (frame m f ∷ h)) n) ≤ c.fast_slots
      framed few =
          one_more same_fast same_is fast_turn fast_itself (IsFast c.kinds) (λ key. is_some (fast_open (known c s (frame m f ∷ h)).claims.holders (notes_of c s (frame m f ∷ h)) key n)) (fast_keys c.kinds (notes_of c s (frame m f ∷ h)))
          (open_fast_keys c.kinds (known c s h).claims.holders (notes_of c s h) m) (fast_key c s h m f) c.fast_slots (fast_apart c.kinds (notes_of c s (frame m f ∷ h))) (fast_all c.kinds (notes_of c s (frame m f ∷ h)))
          (λ key kind apart is. among_open c.kinds (known c s h).claims.holders (notes_of c s h) m key kind (elsewhere key apart is))
          own few
        where
          own : (key : FastKey) → IsFast c.kinds key → same_fast key (fast_key c s h m f) ≡ true → is_fast_admitted c.kinds c.fast_slots (known c s h).claims.holders (notes_of c s h) (fast_key c s h m f) m ≡ false
              → is_some (fast_open (known c s (frame m f ∷ h)).claims.holders (notes_of c s (frame m f ∷ h)) key n) ≡ true → list_any (same_fast key) (open_fast_keys c.kinds (known c s h).claims.holders (notes_of c s h) m) ≡ true
          own key kind same full is =
              let one : key ≡ fast_key c s h m f = same_is key (fast_key c s h m f) same in
              let kind_there : IsFast c.kinds (fast_key c s h m f) = subst (IsFast c.kinds) one kind in
              let left : is_some (fast_open (known c s (frame m f ∷ h)).claims.holders (notes_of c s (frame m f ∷ h)) (fast_key c s h m f) n) ≡ true =
              subst (λ (x : FastKey). is_some (fast_open (known c s (frame m f ∷ h)).claims.holders (notes_of c s (frame m f ∷ h)) x n) ≡ true) one is in
              subst (λ (x : FastKey). list_any (same_fast x) (open_fast_keys c.kinds (known c s h).claims.holders (notes_of c s h) m) ≡ true) (sym one)
              (among_open c.kinds (known c s h).claims.holders (notes_of c s h) m (fast_key c s h m f) kind_there (own_full kind_there full left))

  limited : (h : History) → IsHistory h → (n : ℕ) → now h ≤ n → length (open_fast_keys c.kinds (known c s h).claims.holders (notes_of c s h) n) ≤ c.fast_slots
  limited [] is n le = omega arith
  limited (frame m f ∷ h) is n le = by (is_claim f) refl (limited h is.2 m is.1)
    where
      by : (b : Bool) → is_claim f ≡ b → length (open_fast_keys c.kinds (known c s h).claims.holders (notes_of c s h) m) ≤ c.fast_slots
          → length (open_fast_keys c.kinds (known c s (frame m f ∷ h)).claims.holders (notes_of c s (frame m f ∷ h)) n) ≤ c.fast_slots
      by true e few = no_more c.kinds (known c s h).claims.holders (known c s (frame m f ∷ h)).claims.holders (notes_of c s h) (notes_of c s (frame m f ∷ h)) m n c.fast_slots (claimed h m f n le e) few
      by false e few = framed h m f n le e few
  limited (datagram m bytes ∷ h) is n le = limited h is.2 n (omega (arith, is.1, le))
  limited (tick m ∷ h) is n le = limited h is.2 n (omega (arith, is.1, le))
  limited (entry.command m source address ∷ h) is n le =
      no_more c.kinds (known c s h).claims.holders (known c s (entry.command m source address ∷ h)).claims.holders (notes_of c s h) (notes_of c s h) n n c.fast_slots
      (λ key kind open_now. subst (λ (t : List FastPiece). is_some (open_at fast_rules t n) ≡ true) ((commands_move_traces c s h m source address).fast key.source key.pgn (not_claims_pgn c are key.pgn (fast_is (c.kinds key.pgn) kind))) open_now)
      (limited h is.2 n (omega (arith, is.1, le)))

pub fast_within_limit : FastWithinLimit
fast_within_limit c s h m are is le = limited c s are h is m le
