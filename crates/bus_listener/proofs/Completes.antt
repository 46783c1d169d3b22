-- The message that a listener hears at an entry is the one that the entry completes: of what it doesn't hear none is complete.
use Rattle.std.proofs.Common.{◌≡◌, ℕ, Bool, true, false, not, ◌&&◌, refl, sym}
use Rattle.std.specs.Prelude.{None, if◌then◌else◌}
use Rattle.n2k_id.specs.Frame.{BusFrame}
use Rattle.n2k_id.specs.Identifier.{is_own, parts_of}
use Rattle.pgn_profile.specs.declared.kinds.Kind.{Kind}
use Rattle.pgn_profile.specs.declared.kinds.Kind.TheVariants.{Single, Fast, Outside}
use Rattle.history.specs.AddressLaws.{AreSettings, IsReceiver}
use Rattle.history.specs.Entries as entry
use Rattle.history.specs.Entries.{Entry, History}
use Rattle.history.specs.Known.{known}
use Rattle.history.specs.Messages.{done}
use Rattle.history.specs.Settings.{Receiver, Settings}
use Rattle.bus_listener.specs.Heard.{heard_done, hears, listener}
use Rattle.bus_listener.specs.Kinds.{AreHeard, is_message}
use Rattle.bus_listener.proofs.KnownLemmas.{is_receiver}
use Rattle.bus_listener.proofs.Sessionless.{outside_says_nothing, own_says_nothing}

module _ (kinds : ℕ → Kind) (slots : ℕ) (c : Settings) (s : ℕ) (h : History) (heard : AreHeard kinds) (settings : AreSettings c) where
  abbrev r : Receiver
  r = listener kinds slots c

  are : IsReceiver r
  are = is_receiver kinds slots c heard settings

  unheard : (m : ℕ) (f : BusFrame) → hears kinds slots c s h f ≡ false → done r s h (entry.frame m f) ≡ None
  unheard m f is = by (kinds (parts_of f.id).pgn) refl is
    where
      own : (b : Bool) → is_own (known r s h).claims.own (parts_of f.id).source ≡ b → not b ≡ false → done r s h (entry.frame m f) ≡ None
      own true is other = own_says_nothing r refl s h m f are is
      own false is other = cc

      by : (kind : Kind) → kinds (parts_of f.id).pgn ≡ kind → (is_message kind && not (is_own (known r s h).claims.own (parts_of f.id).source)) ≡ false
          → done r s h (entry.frame m f) ≡ None
      by Single comes other = own (is_own (known r s h).claims.own (parts_of f.id).source) refl other
      by Fast comes other = own (is_own (known r s h).claims.own (parts_of f.id).source) refl other
      by Outside comes other = outside_says_nothing r refl s h m f comes

  pub heard_is_done : (e : Entry) → heard_done kinds slots c s h e ≡ done r s h e
  heard_is_done (entry.frame m f) = by (hears kinds slots c s h f) refl
    where
      by : (b : Bool) → hears kinds slots c s h f ≡ b → (if b then done r s h (entry.frame m f) else None) ≡ done r s h (entry.frame m f)
      by true is = refl
      by false is = sym (unheard m f is)
  heard_is_done (entry.datagram m bytes) = refl
  heard_is_done (entry.tick m) = refl
  heard_is_done (entry.command m source address) = refl
