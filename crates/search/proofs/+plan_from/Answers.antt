use Rattle.std.proofs.Common.{◌≡◌, ℕ, suc, ◌*◌, ◌%◌, ◌^◌, true, set, sym, ap, subst, vec_len, arith, rules}
use Rattle.std.proofs.lemmas.Nat.{one_shl}
use Rattle.masks.specs.Sets.{has}
use Rattle.masks.specs.Tables.{at, Inside, Store, Fixed, Choice}
use Rattle.sheet.specs.declared.valid.Sheet.{Sheet}
use Rattle.search.proofs.Cuts.{choice_self, choice_through, cut_inside, fixed_inside, fixed_more, member_there}
use Rattle.search.proofs.+plan_from.Goals as goal
use Rattle.search.proofs.+plan_from.Goals.{In-Some}

pub returns-then-station-len : goal.returns-then-station-len
returns-then-station-len t c = choice_self _ c.args.station _ (omega arith) c.requires.fixed

-- the channel is one of the station's
member : (t : ℕ) (c : In-Some t) → has (at c.args.judge.domains.now c.args.station) c.loop-c.c ≡ true
member t c = search rules

-- what is settled lies inside what was cut, and no station of the sheet is without a channel
settled_cut : (t : ℕ) (c : In-Some t) → Inside c.in-Some.settled (set c.args.judge.domains.now c.args.station (2 ^ c.loop-c.c))
settled_cut t c =
    let i : Inside c.in-Some.settled (set c.args.judge.domains.now c.args.station ((1 * 2 ^ c.loop-c.c) % 2 ^ 64)) = search rules in
    let e : (1 * 2 ^ c.loop-c.c) % 2 ^ 64 ≡ 2 ^ c.loop-c.c = one_shl c.loop-c.c 64 (omega arith) in
    subst (λ (w : ℕ). Inside c.in-Some.settled (set c.args.judge.domains.now c.args.station w)) e i

settled_filled : (t : ℕ) (c : In-Some t) → Store c.args.judge.sheet.now.stations.len c.in-Some.settled
settled_filled t c = search rules

-- so the stations up to the one that was cut have one channel each
settled_fixed : (t : ℕ) (c : In-Some t) → Fixed (suc c.args.station) c.in-Some.settled
settled_fixed t c =
    fixed_inside _ _ c.in-Some.settled (settled_cut t c) (λ s h. settled_filled t c s (omega arith))
    (fixed_more c.args.station c.args.judge.domains.now c.loop-c.c (member_there _ _ _ (member t c)) (omega arith) c.requires.fixed)

pub plan_from-requires : goal.plan_from-requires
plan_from-requires t c =
    let e : vec_len c.on-in-Some.result.sheet.now.stations ≡ vec_len c.args.judge.sheet.now.stations =
    ap (λ (s : Sheet). vec_len s.stations) c.on-in-Some.ensures.sheet in
    let f : Fixed (suc c.args.station) c.on-in-Some.result.domains.now =
    subst (Fixed (suc c.args.station)) (sym c.on-in-Some.ensures.domains) (settled_fixed t (goal.at.plan_from-requires t c).In-Some) in
    (omega (arith, e), (omega (arith, e), λ s h. f s (omega arith)))

pub returns-in-Some-plan_from : goal.returns-in-Some-plan_from
returns-in-Some-plan_from t c =
    let d = (goal.at.returns-in-Some-plan_from t c).In-Some in
    let p : Choice c.args.judge.sheet.now.stations.len c.in-Some.settled c.in-Some-plan_from.plan = search rules in
    choice_through c.args.judge.sheet.now.stations.len c.args.judge.domains.now c.in-Some.settled c.in-Some-plan_from.plan
    (cut_inside c.args.judge.domains.now c.in-Some.settled c.args.station c.loop-c.c (omega arith) (member t d) (settled_cut t d))
    p
