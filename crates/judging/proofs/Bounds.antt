-- The bound on terms grows sixteenfold with each step, up to the one of depth 8.
use Rattle.std.proofs.Common.{◌≡◌, ℕ, zero, suc, ◌-◌, ◌*◌, ◌^◌, ◌<◌, ◌≤◌, ℤ, pos, negsuc, ◌*ℤ◌, neg_ℤ, nat_abs, refl, le_refl, arith, lit<, w64, SFits}
use native.Mathlib.Nat.{pow-le-pow_right, pow-succ'}
use borrow.Author.Differences.{ints}
use Rattle.std.proofs.lemmas.Nat.{mul-le}
use Rattle.judging.specs.Bounds.{bound}

pub bound_up : (d e : ℕ) → d ≤ e → bound d ≤ bound e
unfolding bound
bound_up d e h =
    let p : 16 ^ (d - 1) ≤ 16 ^ (e - 1) = pow-le-pow_right (lit< tt) (omega arith) in
    omega arith

pub bound_step : (d e : ℕ) → 1 ≤ d → d < e → 16 * bound d ≤ bound e
unfolding bound
bound_step d e s h =
    let p : 16 ^ (suc (d - 1)) ≤ 16 ^ (e - 1) = pow-le-pow_right (lit< tt) (omega arith) in
    omega (arith, pow-succ' 16 (d - 1))

pub bound_8 : bound 8 ≡ 268435456000
unfolding bound
bound_8 = refl

pub bound_1 : bound 1 ≡ 1000
unfolding bound
bound_1 = refl

-- the size of a product
size_neg : (n : ℕ) → nat_abs (neg_ℤ (pos n)) ≡ n
size_neg zero = refl
size_neg (suc n) = refl

size_times : (a b : ℤ) → nat_abs (a *ℤ b) ≡ nat_abs a * nat_abs b
size_times (pos a) (pos b) = refl
size_times (pos a) (negsuc b) = size_neg (a * suc b)
size_times (negsuc a) (pos b) = size_neg (suc a * b)
size_times (negsuc a) (negsuc b) = refl

-- a factor of at most 16
pub times_within : (k z : ℤ) → nat_abs k ≤ 16 → nat_abs (k *ℤ z) ≤ 16 * nat_abs z
times_within k z h = omega (arith, size_times k z, mul-le (nat_abs k) (nat_abs z) 16 (nat_abs z) h (le_refl (nat_abs z)))

pub times_fits : (k z : ℤ) → nat_abs k ≤ 16 → 16 * nat_abs z ≤ 268435456000 → SFits w64 (k *ℤ z)
times_fits k z h l = let p : nat_abs (k *ℤ z) ≤ 16 * nat_abs z = times_within k z h in omega (arith, ints)
