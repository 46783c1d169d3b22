-- How many transmission groups may have an address of their own (IEC 61162-450).
use Rattle.std.specs.Prelude.{ℕ}

abbrev pub most_routes : ℕ
most_routes = 8
