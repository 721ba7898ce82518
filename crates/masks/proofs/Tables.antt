-- Tables of channel sets, and the order of their being inside each other.
use Rattle.std.proofs.Common.{ℕ, List, sym, subst, pow_pos}
use lib.Pow.{pow-lt}
use Rattle.masks.specs.Sets.{SomeChannels}
use Rattle.masks.specs.Tables.{Inside, Store, Fixed}

pub inside_self : (D : List ℕ) → Inside D D
inside_self D s c h = h

pub inside_through : (C D E : List ℕ) → Inside C D → Inside D E → Inside C E
inside_through C D E p q s c h = q s c (p s c h)

-- where each station has one channel, each has some
pub fixed_store : (n : ℕ) (D : List ℕ) → Fixed n D → Store n D
fixed_store n D f s h =
    let p = f s h in
    subst SomeChannels (sym p.2) (record { some = pow_pos p.0; below = pow-lt p.1 })
