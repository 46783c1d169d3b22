-- The messages that end before they are complete: by time, or because an address changes hands (ISO 11783-5).
use Rattle.std.specs.Prelude.{ℕ, Bool, ◌&&◌, ◌||◌, not, ◌==◌, List, [], ◌∷◌, ◌++◌, filter, Option, Some, None, is_some, is_none, if◌then◌else◌}
use Rattle.std.specs.List.{flat_map}
use Rattle.claim_table.specs.Claims.{is_at}
use Rattle.iso_transport.specs.declared.reply.Reply.{Reply}
use Rattle.iso_transport.specs.declared.reply.Reply.TheVariants.{Abort}
use Rattle.report_rules.specs.Rules as rules
use Rattle.gate_events.specs.declared.emit.Detail.TheVariants as detail
use Rattle.pgn_profile.specs.declared.kinds.Kind.{Kind}
use Rattle.fast_packet.specs.declared.key.FastKey.{FastKey}
use Rattle.iso_transport.specs.declared.key.IsoKey.{IsoKey}
use Rattle.iso_transport.specs.AbortReasons.{timeout}
use Rattle.tag_block.specs.declared.group_key.GroupKey.{GroupKey}
use Rattle.history.specs.Known.{Known}
use Rattle.history.specs.Traces.{NotedFrame}
use Rattle.history.specs.Opens.{fast_keys, iso_keys, fast_open, iso_open, open_pgn}
use Rattle.history.specs.Heard.{Taken, group_keys, group_open}
use Rattle.gate_events.specs.Emit.{Emit}
use Rattle.history.specs.Emits.{broken, of_source, replied}

-- ---- a message ends that is open on one side, and not on the other

-- who holds which address, at a moment
pub record Side : Type 0 where
  pub known : Known
  pub moment : ℕ

abbrev pub side : Known → ℕ → Side
side k m = record { known = k; moment = m }

-- the message of a session that was open
abbrev pub session_pgn : Side → List NotedFrame → IsoKey → ℕ
session_pgn before notes key = open_pgn (iso_open before.known notes key before.moment)

-- the sender of a session that is addressed is told that it is given up
abbrev pub abort_reply : Bool → ℕ → Option Reply
abort_reply addressed pgn = if addressed then Some (Abort timeout pgn) else None

-- groups of lines know no addresses
abbrev pub group_ended : List Taken → ℕ → ℕ → GroupKey → Bool
group_ended lines earlier m key = is_some (group_open lines key earlier) && is_none (group_open lines key m)

module _ (before after : Side) (notes : List NotedFrame) where
  abbrev pub fast_ended : FastKey → Bool
  fast_ended key = is_some (fast_open before.known.claims.holders notes key before.moment) && is_none (fast_open after.known.claims.holders notes key after.moment)

  abbrev pub iso_ended : IsoKey → Bool
  iso_ended key = is_some (iso_open before.known notes key before.moment) && is_none (iso_open after.known notes key after.moment)

  -- ---- by time (rule 16), in the order of the keys; the sender of an addressed session gets an abort with reason 3 (ISO 11783-3)

  abbrev pub fast_expired : (ℕ → Kind) → List Emit
  fast_expired kinds = flat_map (λ key. of_source rules.expired key.source key.pgn ∷ []) (filter fast_ended (fast_keys kinds notes))

  abbrev pub iso_expired : List Emit
  iso_expired =
      flat_map (λ key. let pgn = session_pgn before notes key in of_source rules.expired key.source pgn ∷ replied before.known.claims.own key.source (abort_reply key.addressed pgn))
      (filter iso_ended (iso_keys notes))

  -- ---- by a claim or a command (rule 17)

  abbrev pub fast_lost : (ℕ → Kind) → (FastKey → Bool) → List Emit
  fast_lost kinds is_meant =
      flat_map (λ key. of_source rules.claim_lost key.source key.pgn ∷ []) (filter (λ key. is_meant key && fast_ended key) (fast_keys kinds notes))

  abbrev pub iso_lost : (IsoKey → Bool) → List Emit
  iso_lost is_meant =
      flat_map (λ key. of_source rules.claim_lost key.source (session_pgn before notes key) ∷ []) (filter (λ key. is_meant key && iso_ended key) (iso_keys notes))

  -- of one address: fast packets by PGN, then the broadcast session, then the addressed one
  abbrev pub fast_lost_at : (ℕ → Kind) → Option ℕ → List Emit
  fast_lost_at kinds None = []
  fast_lost_at kinds (Some a) = fast_lost kinds (λ key. key.source == a)

  abbrev pub iso_lost_at : Option ℕ → List Emit
  iso_lost_at None = []
  iso_lost_at (Some a) = iso_lost (λ key. key.source == a)

  abbrev pub lost_at : (ℕ → Kind) → Option ℕ → List Emit
  lost_at kinds a = fast_lost_at kinds a ++ iso_lost_at a

  -- the other addressed sessions, by source: those that end because the own address is another one
  abbrev pub lost_elsewhere : Option ℕ → Option ℕ → List Emit
  lost_elsewhere left won = iso_lost (λ key. key.addressed && not (is_at key.source left || is_at key.source won))

-- groups that are overdue (rule 42), in the order of their keys
abbrev pub groups_expired : List Taken → ℕ → ℕ → List Emit
groups_expired lines earlier m =
    flat_map (λ key. broken rules.group_expired (detail.GroupKey key.sfi key.code) ∷ []) (filter (group_ended lines earlier m) (group_keys lines))
