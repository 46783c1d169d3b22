-- What is written and what is left make up the whole.
use Rattle.std.proofs.Common.{◌≡◌, ◌++◌, drop}
use Rattle.std.specs.List.{flat_map}
use Rattle.bus_identity.specs.Payloads.{pgn_bytes}
use Rattle.bus_identity.proofs.lists.append_groups.Given as goal

abbrev pub invariant-loop-pgn : goal.invariant-loop-pgn
invariant-loop-pgn l = l.out.items ++ flat_map pgn_bytes (drop l.pgn-index l.pgns) ≡ l.initial.out.items ++ flat_map pgn_bytes l.pgns
