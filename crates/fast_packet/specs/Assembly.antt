-- What a frame does to the assemblies: a limit, and the open ones by key. An assembly's mark is its opener's sequence and length.
use Rattle.std.specs.Cmp.Lexicographic.{pointwise}
use Rattle.std.specs.Prelude.{◌≡◌, true, ℕ, ◌+◌, ◌-◌, ◌*◌, ◌/◌, ◌%◌, Bool, ◌&&◌, ◌==◌, nat_eq, nat_le, nat_lt, min, if◌then◌else◌, List, ◌∷◌, length, take, drop, Option, Some, None}
use Rattle.std.specs.List.{AllByRecursion}
use Rattle.std.specs.declared.cmp.Ordering.{Ordering}
use Rattle.slot_views.specs.Slots.{Entry, SlotMap, IsMap, opened, grown, entry_at, released, begun_after, grown_after}
use Rattle.fast_packet.specs.declared.key.FastKey.{FastKey}
use Rattle.fast_packet.specs.declared.verdict.Verdict.{Verdict}
use Rattle.fast_packet.specs.declared.verdict.Verdict.TheVariants.{Short, Opens, Orphan, Again, OutOfOrder, Next}
use Rattle.fast_packet.specs.FastRuns.{gap, counter_of, sequence_of, length_of, need_of, is_opener, is_no_later, first_piece}

abbrev pub mark_of : ℕ → ℕ → ℕ
mark_of sequence len = 256 * sequence + len

abbrev pub opener_sequence : Entry → ℕ
opener_sequence e = e.mark / 256

abbrev pub opener_length : Entry → ℕ
opener_length e = e.mark % 256

-- how many bytes the assembly still waits for
abbrev pub left_of : Entry → ℕ
left_of e = opener_length e - length e.bytes

-- the assembly is of that source
abbrev pub is_from : ℕ → FastKey × Entry → Bool
is_from source e = e.0.source == source

-- the key's PGN fits 32 bits
abbrev pub key_fits : FastKey → Bool
key_fits k = nat_le k.pgn 4294967295

-- what holds of the assemblies of every assembler: they are a map, and their keys fit
pub record AreAssemblies (cmp : FastKey → FastKey → Ordering) (s : SlotMap FastKey) : Type 0 where
  pub map : IsMap cmp s
  pub fit : AllByRecursion (λ e. key_fits e.0 ≡ true) s.entries

-- the last frame that was added, where it was no frame 0
abbrev pub last_frame : Entry → List ℕ
last_frame e = (32 * opener_sequence e + (e.next - 1)) ∷ drop (length e.bytes - 7) e.bytes

-- the frame is a repeat, has the next counter and the sequence, and holds what it owes
abbrev pub is_again : Entry → List ℕ → Bool
is_again e bytes = (length bytes == 8) && (nat_le 2 e.next && (nat_lt e.next e.need && pointwise nat_eq bytes (last_frame e)))

abbrev pub follows : Entry → List ℕ → Bool
follows e bytes = (counter_of bytes == e.next) && (sequence_of bytes == opener_sequence e)

abbrev pub is_enough : Entry → List ℕ → Bool
is_enough e bytes = nat_le (1 + min 7 (left_of e)) (length bytes)

-- what a frame is to the assembly of its key, in the order in which it is tried
abbrev pub later_verdict : Option Entry → List ℕ → Verdict
later_verdict None bytes = Orphan
later_verdict (Some e) bytes =
    if is_again e bytes then Again else if follows e bytes then (if is_enough e bytes then Next (1 + min 7 (left_of e)) else Short) else OutOfOrder

abbrev pub verdict : Option Entry → List ℕ → Verdict
verdict o bytes = if is_opener bytes then Opens else if is_no_later bytes then Short else later_verdict o bytes

-- the assembly that an opener opens
abbrev pub opening : List ℕ → ℕ → Entry
opening bytes moment = opened (first_piece bytes) (need_of (length_of bytes)) moment gap (mark_of (sequence_of bytes) (length_of bytes))

-- the bytes of the message that a later frame holds up to this place
abbrev pub part_to : ℕ → List ℕ → List ℕ
part_to end bytes = take (end - 1) (drop 1 bytes)

-- the assembly with one more frame
abbrev pub extended : ℕ → List ℕ → ℕ → Entry → Entry
extended end bytes moment e = grown e (part_to end bytes) moment gap

module _ (cmp : FastKey → FastKey → Ordering) (s : SlotMap FastKey) (k : FastKey) (bytes : List ℕ) (moment : ℕ) where
  -- the assemblies after a frame, by what it is
  abbrev pub fed_by : Verdict → SlotMap FastKey
  fed_by Short = released cmp s k
  fed_by Opens = begun_after cmp s k (opening bytes moment)
  fed_by Orphan = s
  fed_by Again = s
  fed_by OutOfOrder = released cmp s k
  fed_by (Next end) = grown_after cmp s k (counter_of bytes) (part_to end bytes) moment gap

  abbrev pub fed_after : SlotMap FastKey
  fed_after = fed_by (verdict (entry_at cmp s k) bytes)
