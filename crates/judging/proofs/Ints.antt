-- Products, quotients and remainders keep the order of whole numbers, or turn it round.
use Rattle.std.proofs.Common.{◌≡◌, ℕ, suc, ◌+◌, ◌*◌, ◌/◌, ◌%◌, ◌<◌, ◌≤◌, Bool, true, false, T, ℤ, pos, negsuc, ◌-ℤ◌, ◌*ℤ◌, ◌≤ℤ◌, refl, ◌∙◌, le_refl, mod-lt, suc-mul, mul_comm, div-add-mod', div-mul-le_self, arith}
use borrow.Author.Differences.{ints}
use lib.Signed.{le_z}
use Rattle.std.proofs.lemmas.Nat.{mul-le, le-div}
use Rattle.std.proofs.lemmas.Bool.{and_from, and_parts}
use Rattle.std.specs.Int.{int_div_euclid, int_rem_euclid}
use Rattle.judging.specs.Judged.{same}
use Rattle.judging.specs.Laws.{Division}

-- a test of order, and the order
pub le_yes : (x y : ℤ) → le_z x y ≡ true → x ≤ℤ y
le_yes x y e = omega (arith, ints)

holds-true : (b : Bool) → T b → b ≡ true
holds-true true t = refl
holds-true false t = absurd t

pub yes_le : (x y : ℤ) → x ≤ℤ y → le_z x y ≡ true
yes_le x y h = holds-true (le_z x y) h.le

pub le_trans : (x y z : ℤ) → x ≤ℤ y → y ≤ℤ z → x ≤ℤ z
le_trans x y z p q = omega (arith, ints)

-- the test of two numbers being the same
pub same_yes : (x y : ℤ) → same x y ≡ true → x ≡ y
same_yes x y e =
    let p : x ≤ℤ y = le_yes x y (and_parts (le_z x y) (le_z y x) e).0 in
    let q : y ≤ℤ x = le_yes y x (and_parts (le_z x y) (le_z y x) e).1 in
    omega (arith, ints)

pub yes_same : (x y : ℤ) → x ≡ y → same x y ≡ true
yes_same x y e = and_from _ _ (yes_le x y (omega (arith, ints))) (yes_le y x (omega (arith, ints)))

-- a factor that is not negative keeps the order
pub times_up : (k : ℕ) (x y : ℤ) → x ≤ℤ y → (pos k *ℤ x) ≤ℤ (pos k *ℤ y)
times_up k (pos a) (pos b) h = let p : k * a ≤ k * b = mul-le k a k b (le_refl k) (omega (arith, ints)) in omega (arith, ints)
times_up k (pos a) (negsuc b) h = absurd (omega (arith, ints))
times_up k (negsuc a) (pos b) h = omega (arith, ints)
times_up k (negsuc a) (negsuc b) h = let p : k * suc b ≤ k * suc a = mul-le k (suc b) k (suc a) (le_refl k) (omega (arith, ints)) in omega (arith, ints)

-- a negative factor turns it round
pub times_down : (k : ℕ) (x y : ℤ) → x ≤ℤ y → (negsuc k *ℤ y) ≤ℤ (negsuc k *ℤ x)
times_down k (pos a) (pos b) h = let p : suc k * a ≤ suc k * b = mul-le (suc k) a (suc k) b (le_refl (suc k)) (omega (arith, ints)) in omega (arith, ints)
times_down k (pos a) (negsuc b) h = absurd (omega (arith, ints))
times_down k (negsuc a) (pos b) h = omega (arith, ints)
times_down k (negsuc a) (negsuc b) h = let p : suc k * suc b ≤ suc k * suc a = mul-le (suc k) (suc b) (suc k) (suc a) (le_refl (suc k)) (omega (arith, ints)) in omega (arith, ints)

-- rounding down keeps the order
divided : (a b k : ℕ) → 1 ≤ k → a ≤ b → a / k ≤ b / k
divided a b k p h = le-div (a / k) b k p (omega (arith, div-mul-le_self a k))

pub quotient_up : (k : ℕ) (x y : ℤ) → 1 ≤ k → x ≤ℤ y → int_div_euclid x (pos k) ≤ℤ int_div_euclid y (pos k)
quotient_up k (pos a) (pos b) s h = let p : a / k ≤ b / k = divided a b k s (omega (arith, ints)) in omega (arith, ints)
quotient_up k (pos a) (negsuc b) s h = absurd (omega (arith, ints))
quotient_up k (negsuc a) (pos b) s h = omega (arith, ints)
quotient_up k (negsuc a) (negsuc b) s h = let p : b / k ≤ a / k = divided b a k s (omega (arith, ints)) in omega (arith, ints)

-- a remainder lies between 0 and k - 1
pub remainder_low : (x k : ℤ) → pos 0 ≤ℤ int_rem_euclid x k
remainder_low (pos a) k = omega (arith, ints)
remainder_low (negsuc a) k = omega (arith, ints)

pub remainder_high : (x : ℤ) (k : ℕ) → 1 ≤ k → int_rem_euclid x (pos k) ≤ℤ (pos k -ℤ pos 1)
remainder_high (pos a) k h = let p : a % k < k = mod-lt a h in omega (arith, ints)
remainder_high (negsuc a) k h = omega (arith, ints)

-- a number is k times its quotient, and its remainder over
pub division : (x : ℤ) (k : ℕ) → 1 ≤ k → Division x k
division (pos a) k h =
    let p : a / k * k + a % k ≡ a = div-add-mod' a k in
    let q : k * (a / k) ≡ a / k * k = mul_comm k (a / k) in
    let r : a % k < k = mod-lt a h in
    record { sum = omega (arith, ints); low = omega (arith, ints); high = omega (arith, ints) }
division (negsuc a) k h =
    let p : a / k * k + a % k ≡ a = div-add-mod' a k in
    let q : k * suc (a / k) ≡ a / k * k + k = mul_comm k (suc (a / k)) ∙ suc-mul (a / k) k in
    let r : a % k < k = mod-lt a h in
    record { sum = omega (arith, ints); low = omega (arith, ints); high = omega (arith, ints) }
