use Rattle.std.proofs.Common.{◌-◌, vec_len}
use Rattle.search.proofs.+plan_from.Given as goal

abbrev pub decreases-plan_from : goal.decreases-plan_from
decreases-plan_from l = vec_len l.judge.sheet.now.stations - l.station
