-- How much a sheet may hold.
use Rattle.std.specs.Prelude.{ℕ}

-- stations at the most
abbrev pub most_stations : ℕ
most_stations = 32

-- nodes at the most
abbrev pub most_nodes : ℕ
most_nodes = 255

-- rules at the most
abbrev pub most_rules : ℕ
most_rules = 255

-- how deep a node may be
abbrev pub deepest : ℕ
deepest = 8
