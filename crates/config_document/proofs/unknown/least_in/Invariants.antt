use Rattle.std.proofs.Common.{◌≡◌, map, Bor, List, ℕ}
use Rattle.toml.specs.View.{members_view}
use Rattle.config_document.specs.Unknown.{least_of, path_seen, unknown_members}
use Rattle.config_document.proofs.unknown.least_in.Given as goal

abbrev pub invariant-loop-name : goal.invariant-loop-name
invariant-loop-name l =
    (goal.iterator-loop-name).can_next l.name-iterator ×
    (goal.iterator-loop-name).is_finite l.name-iterator ×
    (least_of (path_seen l.least) (unknown_members (map (λ (word : Bor (List ℕ)). word.now) l.known) l.prefix (members_view l.name-iterator))
    ≡ least_of (path_seen l.fn.least) (unknown_members (map (λ (word : Bor (List ℕ)). word.now) l.fn.known) l.fn.prefix (members_view l.fn.table.entries)))
