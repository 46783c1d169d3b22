use Rattle.std.proofs.Common.{◌≡◌, ℕ, ◌+◌, ◌-◌, ◌*◌, ◌/◌, ◌%◌, ◌^◌, ◌<◌, Bool, true, false, MatchBool, refl, ◌∙◌, arith}
use Rattle.n2k_id.specs.declared.identifier_parts.Parts.{Parts}
use Rattle.n2k_id.specs.Identifier.{has_destination, parts_at, parts_of, group_of, identifier_of, CanJoin, IsLaidOut}

-- the three parts of an identifier's number
pub priority_of : (r g s : ℕ) → g < 2 ^ 18 → s < 2 ^ 8 → (r * 2 ^ 26 + g * 2 ^ 8 + s) / 2 ^ 26 ≡ r
priority_of r g s hg hs = omega arith

pub group_at : (r g s : ℕ) → g < 2 ^ 18 → s < 2 ^ 8 → (r * 2 ^ 26 + g * 2 ^ 8 + s) / 2 ^ 8 % 2 ^ 18 ≡ g
group_at r g s hg hs = omega arith

pub source_of : (r g s : ℕ) → s < 2 ^ 8 → (r * 2 ^ 26 + g * 2 ^ 8 + s) % 2 ^ 8 ≡ s
source_of r g s hs = omega arith

pub parts_of-at : (r g s : ℕ) → g < 2 ^ 18 → s < 2 ^ 8 → parts_of (r * 2 ^ 26 + g * 2 ^ 8 + s) ≡ parts_at r g s
unfolding parts_of
parts_of-at r g s hg hs = rw (priority_of r g s hg hs, group_at r g s hg hs, source_of r g s hs)

-- a destination in PS leaves PF as it is
pub has_destination-add : (pgn d : ℕ) → pgn % 2 ^ 8 ≡ 0 → d < 2 ^ 8 → has_destination (pgn + d) ≡ has_destination pgn
unfolding has_destination
has_destination-add pgn d h k =
    let e : (pgn + d) / 2 ^ 8 ≡ pgn / 2 ^ 8 = omega arith in rw e

-- and so does its taking away
pub has_destination-sub : (group : ℕ) → has_destination (group - group % 2 ^ 8) ≡ has_destination group
unfolding has_destination
has_destination-sub group =
    let e : (group - group % 2 ^ 8) / 2 ^ 8 ≡ group / 2 ^ 8 = omega arith in rw e

-- the group of parts that an identifier can have, split again
pub parts_at-group_of : (p : Parts) (b : Bool) → has_destination p.pgn ≡ b → MatchBool b (p.pgn % 2 ^ 8 ≡ 0) (p.destination ≡ 255) → p.destination < 2 ^ 8 → parts_at p.priority (group_of p) p.source ≡ p
unfolding parts_at group_of
parts_at-group_of p true e low d =
    let whole : has_destination (p.pgn + p.destination) ≡ true = has_destination-add p.pgn p.destination low d ∙ e in
    let ps : (p.pgn + p.destination) % 2 ^ 8 ≡ p.destination = omega arith in
    let pgn : p.pgn + p.destination - p.destination ≡ p.pgn = omega arith in
    rw (e, whole, ps, pgn)
parts_at-group_of p false e to_all d = rw (e, e, ← to_all)

pub group_of_fits : (p : Parts) (b : Bool) → has_destination p.pgn ≡ b → MatchBool b (p.pgn % 2 ^ 8 ≡ 0) (p.destination ≡ 255) → p.pgn < 2 ^ 18 → p.destination < 2 ^ 8 → group_of p < 2 ^ 18
unfolding group_of
group_of_fits p true e low h d = rw e (omega arith)
group_of_fits p false e low h d = rw e h

-- the identifier of parts has these parts
pub parts_of_identifier_of : (p : Parts) → CanJoin p → p.destination < 2 ^ 8 → p.source < 2 ^ 8 → parts_of (identifier_of p) ≡ p
unfolding identifier_of
parts_of_identifier_of p can d s =
    parts_of-at p.priority (group_of p) p.source (group_of_fits p (has_destination p.pgn) refl can.destination can.pgn d) s
    ∙ parts_at-group_of p (has_destination p.pgn) refl can.destination d

-- the parts of a priority, a group and a source are laid out in their number
laid_out-at : (r g s : ℕ) (b : Bool) → has_destination g ≡ b → r < 2 ^ 3 → g < 2 ^ 18 → IsLaidOut (r * 2 ^ 26 + g * 2 ^ 8 + s) (parts_at r g s)
unfolding parts_at identifier_of group_of
laid_out-at r g s true e hr hg =
    let same : has_destination (g - g % 2 ^ 8) ≡ true = has_destination-sub g ∙ e in
    let low : (g - g % 2 ^ 8) % 2 ^ 8 ≡ 0 = omega arith in
    let whole : g - g % 2 ^ 8 + g % 2 ^ 8 ≡ g = omega arith in
    rw e (record {
      joinable = record { priority = hr; pgn = omega arith; destination = rw same low };
      identifier = rw (same, whole) refl;
    })
laid_out-at r g s false e hr hg =
    rw e (record {
      joinable = record { priority = hr; pgn = hg; destination = rw e refl };
      identifier = rw e refl;
    })

-- an identifier is laid out as its parts say
pub parts_of_laid_out : (id : ℕ) → id < 2 ^ 29 → IsLaidOut id (parts_of id)
unfolding parts_of
parts_of_laid_out id h =
    let e : id / 2 ^ 26 * 2 ^ 26 + id / 2 ^ 8 % 2 ^ 18 * 2 ^ 8 + id % 2 ^ 8 ≡ id = omega arith in
    let at = laid_out-at (id / 2 ^ 26) (id / 2 ^ 8 % 2 ^ 18) (id % 2 ^ 8) (has_destination (id / 2 ^ 8 % 2 ^ 18)) refl (omega arith) (omega arith) in
    rw e at at
