-- What a frame does to the sessions: a limit, and the open ones by key. A session's mark is its opener's PGN, size and window;
-- it waits for the packet with the number `next`, and is whole where that is `need`.
use Rattle.std.specs.Prelude.{◌≡◌, nat_le, ℕ, ◌+◌, ◌-◌, Bool, true, false, not, ◌==◌, List, [], length, take, drop, Option}
use Rattle.std.specs.List.{AllByRecursion}
use Rattle.std.specs.declared.cmp.Ordering.{Ordering}
use Rattle.slot_views.specs.Slots.{Entry, SlotMap, IsMap, is_held, opened, grown, entry_at, released, begun_after, grown_after}
use Rattle.n2k_id.specs.declared.identifier_parts.Parts.{Parts}
use Rattle.iso_transport.specs.declared.key.IsoKey.{IsoKey}
use Rattle.iso_transport.specs.declared.session.Session.{Session}
use Rattle.iso_transport.specs.declared.verdict.Verdict.{Verdict}
use Rattle.iso_transport.specs.declared.verdict.Verdict.TheVariants.{Ignored, Again, Refused, Ends, Opens, Next}
use Rattle.iso_transport.specs.Sessions.{mark_of}
use Rattle.iso_transport.specs.IsoRuns.{packets_of, gap_after}
use Rattle.iso_transport.specs.Audience.{key_of}
use Rattle.iso_transport.specs.Verdicts.{verdict}

-- the session that an opener opens
abbrev pub opening : Bool → Session → ℕ → Entry
opening addressed s moment = opened [] (packets_of s.size + 1) moment (gap_after addressed s 0) (mark_of s)

-- the bytes of the message that a packet holds up to this place
abbrev pub part_to : ℕ → List ℕ → List ℕ
part_to end bytes = take (end - 1) (drop 1 bytes)

-- the session with one more packet of this number
abbrev pub extended : Bool → Session → ℕ → ℕ → List ℕ → ℕ → Entry → Entry
extended addressed s number end bytes moment e = grown e (part_to end bytes) moment (gap_after addressed s number)

-- as many sessions are open as the limit
abbrev pub is_crowded : SlotMap IsoKey → Bool
is_crowded s = length s.entries == s.limit

-- the session is of that sender, and it is to this node
abbrev pub is_from : ℕ → IsoKey × Entry → Bool
is_from source e = e.0.source == source

abbrev pub is_addressed : IsoKey × Entry → Bool
is_addressed e = e.0.addressed

-- the sender's address fits a byte
abbrev pub key_fits : IsoKey → Bool
key_fits k = nat_le k.source 255

-- what holds of the sessions of every assembler: they are a map, and their keys fit
pub record AreSessions (cmp : IsoKey → IsoKey → Ordering) (s : SlotMap IsoKey) : Type 0 where
  pub map : IsMap cmp s
  pub fit : AllByRecursion (λ e. key_fits e.0 ≡ true) s.entries

-- the sender's least key that is held, or else its greater one
abbrev pub least_of : (IsoKey → IsoKey → Ordering) → SlotMap IsoKey → ℕ → IsoKey
least_of cmp s source = record { addressed = not (is_held cmp s (record { addressed = false; source = source })); source = source }

module _ (cmp : IsoKey → IsoKey → Ordering) (s : SlotMap IsoKey) (k : IsoKey) (bytes : List ℕ) (moment : ℕ) where
  -- the sessions after a frame of the key, by what it is
  abbrev pub fed_by : Verdict → SlotMap IsoKey
  fed_by Ignored = s
  fed_by Again = s
  fed_by (Refused reason reply) = s
  fed_by (Ends reason reply) = released cmp s k
  fed_by (Opens session old) = begun_after cmp s k (opening k.addressed session moment)
  fed_by (Next session number end) = grown_after cmp s k number (part_to end bytes) moment (gap_after k.addressed session number)

module _ (cmp : IsoKey → IsoKey → Ordering) (s : SlotMap IsoKey) (own : Option ℕ) (parts : Parts) (bytes : List ℕ) where
  -- what a frame is to the sessions
  abbrev pub verdict_of : Verdict
  verdict_of = verdict own parts (is_crowded s) (entry_at cmp s (key_of parts)) bytes

  abbrev pub fed_after : ℕ → SlotMap IsoKey
  fed_after moment = fed_by cmp s (key_of parts) bytes moment verdict_of
