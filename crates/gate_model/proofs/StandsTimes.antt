-- All that a gateway keeps stands from the start, and as time passes; and nothing ends between a moment and itself.
use Rattle.std.proofs.Common.{◌≡◌, ℕ, Bool, false, ◌&&◌, List, [], ◌∷◌, ◌++◌, refl, ap, ◌∙◌, is_some, is_none}
use Rattle.std.specs.Prelude.{Option, Some, None, filter}
use Rattle.std.specs.List.{flat_map}
use Rattle.report_rules.specs.Rules as rules
use Rattle.gate_events.specs.declared.emit.Detail.TheVariants as detail
use Rattle.fast_packet.specs.declared.key.FastKey.{FastKey}
use Rattle.iso_transport.specs.declared.key.IsoKey.{IsoKey}
use Rattle.tag_block.specs.declared.group_key.GroupKey.{GroupKey}
use Rattle.pgn_profile.specs.Profiled.{kind_of}
use Rattle.history.specs.Settings.{Settings, receiver_of}
use Rattle.history.specs.Entries.{History, now}
use Rattle.history.specs.Known.{Known, known}
use Rattle.history.specs.Traces.{NotedFrame}
use Rattle.history.specs.Opens.{fast_keys, iso_keys, fast_open, iso_open, notes_of}
use Rattle.history.specs.Heard.{Taken, group_keys, group_open, taken_lines}
use Rattle.gate_events.specs.Emit.{Emit}
use Rattle.history.specs.Emits.{of_source, broken, replied}
use Rattle.history.specs.Endings.{fast_ended, iso_ended, group_ended, session_pgn, abort_reply, side}
use Rattle.history.specs.Gate.{heard, expired}
use Rattle.history.specs.AddressLaws.{IsReceiver}
use Rattle.history.proofs.Receivers.{gateways_receive}
use Rattle.gate_model.specs.Endings.{sessions_overdue}
use Rattle.gate_model.specs.StandsLaws.{OpeningStands, TimeStands}
use Rattle.gate_model.proofs.AddressSteps.{opening_stands_addresses}
use Rattle.gate_model.proofs.AddressTells.{standing_tells_alike}
use Rattle.gate_model.proofs.FastTimes.{nothing_stands_fast, time_ends_fast_packets}
use Rattle.gate_model.proofs.SessionTimes.{nothing_stands, time_ends_sessions}
use Rattle.gate_model.proofs.SaidMessages.{opening_stands_said}
use Rattle.gate_model.proofs.NetItems.{opening_stands_net, time_stands_net}

pub opening_stands : OpeningStands
opening_stands o c s are = record {
  settings = refl;
  addresses = opening_stands_addresses (receiver_of c) s;
  moment = refl;
  fast = nothing_stands_fast o.fast (receiver_of c) s 0;
  sessions = nothing_stands o.sessions (receiver_of c) s 0;
  said = opening_stands_said c s;
  network = opening_stands_net o.groups c 0;
}

-- ---- a later moment

pub joined : {a b x y : List Emit} → a ≡ x → b ≡ y → a ++ b ≡ x ++ y
joined p q = cc

pub three : {a b c x y z : List Emit} → a ≡ x → b ≡ y → c ≡ z → a ++ b ++ c ≡ x ++ y ++ z
three p q r = cc

pub time_stands : TimeStands
time_stands o c s h m g orders are is le stands =
    let able : IsReceiver (receiver_of c) = gateways_receive c are in
    let fast = time_ends_fast_packets o.fast orders.fast (receiver_of c) s h (now h) m g.fast le stands.fast in
    let sessions = time_ends_sessions o.sessions orders.sessions (receiver_of c) s h (now h) m g.sessions able is le stands.sessions in
    let network = time_stands_net o.groups c (heard c s h) (now h) m g.network orders.groups le stands.network in
    let own = (standing_tells_alike (receiver_of c) s h g.addresses stands.addresses).own in
    record {
      stands = record {
        settings = stands.settings;
        addresses = stands.addresses;
        moment = refl;
        fast = fast.stands;
        sessions = sessions.stands;
        said = stands.said;
        network = network.stands;
      };
      told = three fast.told (ap (λ (a : Option ℕ). sessions_overdue a g.sessions m) own ∙ sessions.told) network.gives;
    }

-- ---- between a moment and itself nothing ends

stays : {X : Type 0} (o : Option X) → (is_some o && is_none o) ≡ false
stays None = refl
stays (Some x) = refl

quiet : {X : Type 0} (f : X → List Emit) (p : X → Bool) → ((x : X) → p x ≡ false) → (xs : List X) → flat_map f (filter p xs) ≡ []
quiet f p none [] = refl
quiet f p none (x ∷ xs) = rw (none x) (quiet f p none xs)

module _ (k : Known) (notes : List NotedFrame) (lines : List Taken) (m : ℕ) where
  fast_stays : flat_map (λ (key : FastKey). of_source rules.expired key.source key.pgn ∷ [])
      (filter (fast_ended (side k m) (side k m) notes) (fast_keys kind_of notes)) ≡ []
  fast_stays =
      quiet (λ (key : FastKey). of_source rules.expired key.source key.pgn ∷ []) (fast_ended (side k m) (side k m) notes)
      (λ key. stays (fast_open k.claims.holders notes key m)) (fast_keys kind_of notes)

  abbrev told : IsoKey → List Emit
  told key = let pgn = session_pgn (side k m) notes key in
      of_source rules.expired key.source pgn ∷ replied k.claims.own key.source (abort_reply key.addressed pgn)

  sessions_stay : flat_map told (filter (iso_ended (side k m) (side k m) notes) (iso_keys notes)) ≡ []
  sessions_stay = quiet told (iso_ended (side k m) (side k m) notes) (λ key. stays (iso_open k notes key m)) (iso_keys notes)

  groups_stay : flat_map (λ (key : GroupKey). broken rules.group_expired (detail.GroupKey key.sfi key.code) ∷ [])
      (filter (group_ended lines m m) (group_keys lines)) ≡ []
  groups_stay =
      quiet (λ (key : GroupKey). broken rules.group_expired (detail.GroupKey key.sfi key.code) ∷ []) (group_ended lines m m)
      (λ key. stays (group_open lines key m)) (group_keys lines)

pub none_expires : (c : Settings) (s : ℕ) (h : History) → expired c s h (now h) ≡ []
none_expires c s h =
    let k : Known = known (receiver_of c) s h in
    let notes : List NotedFrame = notes_of (receiver_of c) s h in
    let lines : List Taken = taken_lines c (heard c s h) in
    three (fast_stays k notes lines (now h)) (sessions_stay k notes lines (now h)) (groups_stay k notes lines (now h))
