-- What a sheet says, apart from the memory that it stands in.
use Rattle.std.specs.Prelude.{ℕ, ◌≤◌, List, length, vec_items}
use Rattle.sheet.specs.Limits.{most_stations, most_nodes, most_rules}
use Rattle.sheet.specs.Sound.{Filled, SoundNodes, SoundRules}
use Rattle.sheet.specs.declared.form.Node.{Node}
use Rattle.sheet.specs.declared.form.Rule.{Rule}
use Rattle.sheet.specs.declared.valid.Sheet.{Sheet}

-- the stations' sets of channels, the nodes and the rules, each in order
pub record Content : Type 0 where
  pub stations : List ℕ
  pub nodes : List Node
  pub rules : List Rule

-- the content of a sheet
abbrev pub content : Sheet → Content
content s = record { stations = vec_items s.stations; nodes = vec_items s.nodes; rules = vec_items s.rules }

-- the limits are kept, each station has a channel, and the nodes and rules name only what is there, of the right sort and not too deep
pub record Valid (c : Content) : Type 0 where
  pub few_stations : length c.stations ≤ most_stations
  pub channels : Filled c.stations
  pub few_nodes : length c.nodes ≤ most_nodes
  pub few_rules : length c.rules ≤ most_rules
  pub nodes_sound : SoundNodes (length c.stations) c.nodes
  pub rules_sound : SoundRules (length c.stations) c.nodes c.rules
