-- What each call does to the sessions of single keys.
use Rattle.std.specs.Prelude.{◌≡◌, ℕ, true, false, not, ◌&&◌, List, ◌∷◌, Option}
use Rattle.std.specs.declared.cmp.Ordering.{Ordering}
use Rattle.std.specs.declared.cmp.Ordering.TheVariants.{Less}
use Rattle.slot_views.specs.Runs.{open_at}
use Rattle.slot_views.specs.RunLaws.{fed, finished}
use Rattle.slot_views.specs.Slots.{SlotMap, IsMap, Changes, entry_at, is_full}
use Rattle.n2k_id.specs.declared.identifier_parts.Parts.{Parts}
use Rattle.iso_transport.specs.declared.key.IsoKey.{IsoKey}
use Rattle.iso_transport.specs.declared.answers.IsoFed.{IsoFed}
use Rattle.iso_transport.specs.Audience.{is_data, key_of}
use Rattle.iso_transport.specs.Verdicts.{bears, concerns}
use Rattle.iso_transport.specs.IsoRuns.{IsoPiece, iso_rules}
use Rattle.iso_transport.specs.Assembly.{verdict_of, fed_after}
use Rattle.iso_transport.specs.Answers.{FeedGives}
use Rattle.iso_transport.specs.RunVerdicts.{message_of, verdict_on, left_by, assembly_at}
use Rattle.iso_transport.specs.Laws.{IsTrace}
use Rattle.iso_transport.specs.Keys.{AnswerIs}

module _ (cmp : IsoKey → IsoKey → Ordering) where
  -- an opener is noted as admitted where there is room for its session
  abbrev pub IsNotedBy : SlotMap IsoKey → IsoKey → IsoPiece → Type 0
  IsNotedBy s k x = x.admitted ≡ not (is_full cmp s k)

  -- a frame, as it is to the run of its key
  abbrev pub piece_of : SlotMap IsoKey → Parts → List ℕ → ℕ → IsoPiece
  piece_of s parts bytes moment = record { moment = moment; packet = is_data parts; bytes = bytes; admitted = not (is_full cmp s (key_of parts)) }

  -- a frame that concerns this node is to the sessions what it is to the session of its key, which alone it changes
  pub record FeedsItsKey : Type 0 where
    pub verdict : (s : SlotMap IsoKey) (own : Option ℕ) (parts : Parts) (bytes : List ℕ) (moment : ℕ) → concerns own parts ≡ true
        → verdict_of cmp s own parts bytes ≡ verdict_on (key_of parts).addressed (entry_at cmp s (key_of parts)) (piece_of s parts bytes moment)
    pub changes : (s : SlotMap IsoKey) (own : Option ℕ) (parts : Parts) (bytes : List ℕ) (moment : ℕ) → IsMap cmp s → concerns own parts ≡ true
        → let addressed = (key_of parts).addressed in let o = entry_at cmp s (key_of parts) in let x = piece_of s parts bytes moment in
        Changes cmp s (fed_after cmp s own parts bytes moment) (key_of parts) (left_by addressed (verdict_on addressed o x) x o)
    -- a frame that doesn't, or that can neither open, extend nor end a session, changes nothing
    pub passed : (s : SlotMap IsoKey) (own : Option ℕ) (parts : Parts) (bytes : List ℕ) (moment : ℕ)
        → (concerns own parts && bears (key_of parts).addressed (is_data parts) bytes) ≡ false → fed_after cmp s own parts bytes moment ≡ s

  -- where the key's session is that of the frames h of the key that are open just before one more frame, which concerns this node,
  -- the answer to that is what they say, it leaves what they leave, and all else stays
  pub record StepsWithRuns : Type 0 where
    pub answer : (s : SlotMap IsoKey) (own : Option ℕ) (parts : Parts) (h : List IsoPiece) (x : IsoPiece) (result : IsoFed)
        → let k = key_of parts in let rules = iso_rules k.addressed in let q = open_at rules h x.moment in
        IsTrace k.addressed (x ∷ h) → concerns own parts ≡ true → x.packet ≡ is_data parts → entry_at cmp s k ≡ assembly_at k.addressed q → IsNotedBy s k x
        → FeedGives cmp s own parts x.bytes x.moment result → AnswerIs k.addressed q x (message_of (finished rules q x)) result
    pub changes : (s : SlotMap IsoKey) (own : Option ℕ) (parts : Parts) (h : List IsoPiece) (x : IsoPiece)
        → let k = key_of parts in let rules = iso_rules k.addressed in let q = open_at rules h x.moment in
        IsTrace k.addressed (x ∷ h) → concerns own parts ≡ true → x.packet ≡ is_data parts → entry_at cmp s k ≡ assembly_at k.addressed q → IsNotedBy s k x
        → IsMap cmp s → Changes cmp s (fed_after cmp s own parts x.bytes x.moment) k (assembly_at k.addressed (fed rules q x))

-- the keys to all come before those to this node
pub record OrdersKeys (cmp : IsoKey → IsoKey → Ordering) : Type 0 where
  pub broadcast_first : (a b : ℕ) → cmp (record { addressed = false; source = a }) (record { addressed = true; source = b }) ≡ Less
