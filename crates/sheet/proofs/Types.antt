-- What the type of sheets says of a sheet's content.
use Rattle.std.proofs.Common.{◌≡◌, ◌≤◌, length, vec_items, vec_len}
use Rattle.sheet.specs.Content.{Valid, content}
use Rattle.sheet.specs.declared.valid.Sheet.{Sheet}

pub valid : (s : Sheet) → Valid (content s)
valid s =
    let n : vec_len s.stations ≡ length (vec_items s.stations) = s.stations.ok.0 in
    let m : vec_len s.nodes ≡ length (vec_items s.nodes) = s.nodes.ok.0 in
    let k : vec_len s.rules ≡ length (vec_items s.rules) = s.rules.ok.0 in
    record {
      few_stations = rw n at s.few_stations;
      channels = s.channels;
      few_nodes = rw m at s.few_nodes;
      few_rules = rw k at s.few_rules;
      nodes_sound = rw n at s.nodes_sound;
      rules_sound = rw n at s.rules_sound;
    }

pub some_station : (s : Sheet) → 1 ≤ length (content s).stations
some_station s = let n : vec_len s.stations ≡ length (vec_items s.stations) = s.stations.ok.0 in rw n at s.some_station
