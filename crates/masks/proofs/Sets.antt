-- Sets of channels: their members, their lowest and highest channel, and the sets and answers that a test makes.
use Rattle.std.proofs.Common.{◌≡◌, ℕ, zero, suc, ◌+◌, ◌-◌, ◌*◌, ◌/◌, ◌%◌, ◌^◌, ◌<◌, ◌≤◌, Bool, true, false, cond, not, ◌&&◌, ◌||◌, eqb, ltb, sym, refl, ap, ◌∙◌, subst, ap₂, ⊎_elim, zero-le, le_refl, pow-suc, one-add, arith, pow_pos, pow_mono, shr-shr}
use native.Mathlib.Nat.{div-eq_of_lt}
use lib.Arith.{bin_ind}
use lib.Bits.{bit_or, or_shifted_r}
use lib.Count.{count_trailing_zeros, count_leading_zeros, under, leading_of_zero, leading_top}
use lib.Dec.{eqb-zero-suc, eqb-suc-zero, eqb-suc-suc}
use lib.Pow.{pow-lt}
use Rattle.std.proofs.lemmas.Nat.{div_below, le-div}
use Rattle.std.proofs.lemmas.Bool.{and_left, or_cases, or_left, or_right, not-true, not_from_false, cases_Bool, cases_eq, cases_lt, both_ways, and_parts, and_cases, and_from, cond-true, cond-false, cond_both, eqb-true, eqb-false, eq-eqb, ltb-true, ltb-false}
use Rattle.masks.specs.Sets.{has, Subset, lowest, highest, every, those}

-- a set's channel 0 is its lowest digit, and its others are those of its half
has_first : (m : ℕ) → has m 0 ≡ eqb (m % 2) 1
unfolding has
has_first m = ap (λ (x : ℕ). eqb (x % 2) 1) (omega arith)

has_next : (m c : ℕ) → has m (suc c) ≡ has (m / 2) c
unfolding has
has_next m c = ap (λ (x : ℕ). eqb (x % 2) 1) (sym (shr-shr m 1 c ∙ ap (λ (x : ℕ). m / 2 ^ x) (one-add c)))

first_in : (m : ℕ) → has m 0 ≡ true → m % 2 ≡ 1
first_in m e = eqb-true (m % 2) 1 (sym (has_first m) ∙ e)

first_out : (m : ℕ) → has m 0 ≡ false → m % 2 ≡ 0
first_out m e = omega (arith, eqb-false (m % 2) 1 (sym (has_first m) ∙ e))

-- sets of the first k channels with the same members are the same
pub same_set : (k a b : ℕ) → a < 2 ^ k → b < 2 ^ k → ((c : ℕ) → c < k → has a c ≡ has b c) → a ≡ b
same_set zero a b p q f = omega arith
same_set (suc k) a b p q f =
    let w = pow-suc 2 k in
    let hi : a / 2 ≡ b / 2 =
    same_set k (a / 2) (b / 2) (omega arith) (omega arith) (λ c h. sym (has_next a c) ∙ f (suc c) (omega arith) ∙ has_next b c) in
    let e : has a 0 ≡ has b 0 = f 0 (omega arith) in
    ⊎_elim (λ t. omega (arith, first_in a (e ∙ t), first_in b t)) (λ t. omega (arith, first_out a (e ∙ t), first_out b t)) (cases_Bool (has b 0))

-- which channels are in a set of the first k, and in a set of one channel
pub has_above : (k m c : ℕ) → m < 2 ^ k → k ≤ c → has m c ≡ false
unfolding has
has_above k m c h l = ap (λ (x : ℕ). eqb (x % 2) 1) (div-eq_of_lt (omega (arith, pow_mono l)))

pub member_below : (k m c : ℕ) → m < 2 ^ k → has m c ≡ true → c < k
member_below k m c h e = ⊎_elim (λ l. l) (λ l. absurd (both_ways (has m c) (has_above k m c h l) e)) (cases_lt c k)

has_none : (c : ℕ) → has 0 c ≡ false
has_none c = has_above 0 0 c (omega arith) zero-le

pub has_one : (c d : ℕ) → has (2 ^ c) d ≡ eqb c d
has_one zero zero = has_first 1
has_one zero (suc d) = has_next 1 d ∙ has_none d ∙ sym (eqb-zero-suc d)
has_one (suc c) zero =
    let even : 2 ^ suc c % 2 ≡ 0 = omega (arith, pow-suc 2 c) in
    has_first (2 ^ suc c) ∙ ap (λ (x : ℕ). eqb x 1) even ∙ sym (eqb-suc-zero c)
has_one (suc c) (suc d) =
    let half : 2 ^ suc c / 2 ≡ 2 ^ c = omega (arith, pow-suc 2 c) in
    has_next (2 ^ suc c) d ∙ ap (λ (x : ℕ). has x d) half ∙ has_one c d ∙ sym (eqb-suc-suc c d)

pub some_member : (m : ℕ) → 0 < m → (c : ℕ) × (has m c ≡ true)
some_member =
    bin_ind (λ (n : ℕ). 0 < n → (c : ℕ) × (has n c ≡ true)) (λ h. absurd (omega arith))
    (λ n ih h. ⊎_elim (λ e. (0, e))
    (λ e. let q = ih (omega (arith, first_out n e)) in (suc q.0, has_next n q.0 ∙ q.1))
    (cases_Bool (has n 0)))

-- a part of a set is no larger a number, and a part of one channel is that channel
pub subset_le : (a b : ℕ) → Subset a b → a ≤ b
subset_le =
    bin_ind (λ (n : ℕ). (b : ℕ) → Subset n b → n ≤ b) (λ b s. zero-le)
    (λ n ih b s. let hi : n / 2 ≤ b / 2 = ih (b / 2) (λ c h. sym (has_next b c) ∙ s (suc c) (has_next n c ∙ h)) in
    ⊎_elim (λ e. omega (arith, first_in b (s 0 e))) (λ e. omega (arith, first_out n e)) (cases_Bool (has n 0)))

pub one_subset : (a c : ℕ) → has a c ≡ true → Subset (2 ^ c) a
one_subset a c e d h = subst (λ (x : ℕ). has a x ≡ true) (eqb-true c d (sym (has_one c d) ∙ h)) e

pub subset_one : (a c : ℕ) → Subset a (2 ^ c) → 0 < a → a ≡ 2 ^ c
subset_one a c s h =
    let q = some_member a h in
    let e : c ≡ q.0 = eqb-true c q.0 (sym (has_one c q.0) ∙ s q.0 q.1) in
    let m : has a c ≡ true = subst (λ (x : ℕ). has a x ≡ true) (sym e) q.1 in
    omega (arith, subset_le a (2 ^ c) s, subset_le (2 ^ c) a (one_subset a c m))

-- c is the lowest of the first k channels that is in m, or k where none is: there is one such c
abbrev Low : ℕ → ℕ → ℕ → Type 0
Low k m c = (c ≤ k) × ((d : ℕ) → d < c → has m d ≡ false) × (c < k → has m c ≡ true)

not_lower : (k m c d : ℕ) → Low k m c → Low k m d → d ≤ c
not_lower k m c d p q =
    ⊎_elim (λ l. absurd (both_ways (has m c) (q.1 c l) (p.2 (omega (arith, q.0))))) (λ l. l) (cases_lt c d)

lowest_low : (k m : ℕ) → Low k m (lowest k m)
unfolding lowest
lowest_low zero m = (omega arith, λ d h. absurd (omega arith), λ h. absurd (omega arith))
lowest_low (suc k) m =
    let ih = lowest_low k m in
    let le = ih.0 in
    cond_both (ltb (lowest k m) k) (lowest k m) (cond (has m k) k (suc k)) (Low (suc k) m)
    (λ t. (omega arith, ih.1, λ h. ih.2 (ltb-true (lowest k m) k t)))
    (λ t. let l = ltb-false (lowest k m) k t in
    cond_both (has m k) k (suc k) (Low (suc k) m)
    (λ e. (omega arith, λ d h. ih.1 d (omega arith), λ _. e))
    (λ e. (
      le_refl (suc k),
      λ d h. ⊎_elim (λ s. subst (λ (x : ℕ). has m x ≡ false) (sym s) e) (λ n. ih.1 d (omega (arith, n))) (cases_eq d k),
      λ h. absurd (omega arith),
    )))

pub lowest-le : (k m : ℕ) → lowest k m ≤ k
lowest-le k m = (lowest_low k m).0

pub lowest_below : (k m c : ℕ) → has m c ≡ true → c < k → lowest k m ≤ c
lowest_below k m c e h =
    ⊎_elim (λ l. absurd (both_ways (has m c) ((lowest_low k m).1 c l) e)) (λ l. l) (cases_lt c (lowest k m))

pub lowest_member : (k m : ℕ) → 0 < m → m < 2 ^ k → has m (lowest k m) ≡ true
lowest_member k m p h =
    let q = some_member m p in
    let l = member_below k m q.0 h q.1 in
    (lowest_low k m).2 (omega (arith, lowest_below k m q.0 q.1 l))

pub lowest_narrowed : (k a b : ℕ) → Subset a b → lowest k b ≤ lowest k a
lowest_narrowed k a b s =
    ⊎_elim (λ l. lowest_below k b (lowest k a) (s (lowest k a) ((lowest_low k a).2 l)) l) (λ l. omega (arith, lowest-le k b))
    (cases_lt (lowest k a) k)

pub lowest_one : (k c : ℕ) → c < k → lowest k (2 ^ c) ≡ c
lowest_one k c h =
    sym (eqb-true c (lowest k (2 ^ c)) (sym (has_one c (lowest k (2 ^ c))) ∙ lowest_member k (2 ^ c) (pow_pos c) (pow-lt h)))

-- the zeros below a set's lowest digit count up to its lowest channel
trailing_step : (k m r t : ℕ) → m % 2 ≡ r → Low k (m / 2) t → Low (suc k) m (under r t)
trailing_step k m zero t e p = (omega (arith, p.0), below, λ h. has_next m t ∙ p.2 (omega arith))
  where
    below : (d : ℕ) → d < suc t → has m d ≡ false
    below zero h = has_first m ∙ ap (λ (x : ℕ). eqb x 1) e
    below (suc d) h = has_next m d ∙ p.1 d (omega arith)
trailing_step k m (suc r) t e p = (zero-le, λ d h. absurd (omega arith), λ _. has_first m ∙ eq-eqb (m % 2) 1 (omega arith))

trailing_low : (k m : ℕ) → Low k m (count_trailing_zeros k m)
unfolding count_trailing_zeros
trailing_low zero m = (omega arith, λ d h. absurd (omega arith), λ h. absurd (omega arith))
trailing_low (suc k) m = trailing_step k m (m % 2) (count_trailing_zeros k (m / 2)) refl (trailing_low k (m / 2))

pub trailing_is_lowest : (k m : ℕ) → count_trailing_zeros k m ≡ lowest k m
trailing_is_lowest k m =
    let p = trailing_low k m in
    let q = lowest_low k m in
    omega (arith, not_lower k m (count_trailing_zeros k m) (lowest k m) p q, not_lower k m (lowest k m) (count_trailing_zeros k m) q p)

-- the highest of the first k channels that is in a set
pub highest-le : (k m : ℕ) → highest k m ≤ k - 1
unfolding highest
highest-le zero m = omega arith
highest-le (suc k) m = cond_both (has m k) k (highest k m) (λ (x : ℕ). x ≤ suc k - 1) (λ e. omega arith) (λ e. omega (arith, highest-le k m))

highest_top : (k m c : ℕ) → has m c ≡ true → c < k → (c ≤ highest k m) × (has m (highest k m) ≡ true)
unfolding highest
highest_top zero m c e h = absurd (omega arith)
highest_top (suc k) m c e h =
    cond_both (has m k) k (highest k m) (λ (x : ℕ). (c ≤ x) × (has m x ≡ true)) (λ t. (omega arith, t))
    (λ t. highest_top k m c e
    (⊎_elim (λ s. absurd (both_ways (has m k) t (subst (λ (x : ℕ). has m x ≡ true) s e))) (λ n. omega (arith, n)) (cases_eq c k)))

pub highest_above : (k m c : ℕ) → has m c ≡ true → c < k → c ≤ highest k m
highest_above k m c e h = (highest_top k m c e h).0

pub highest_member : (k m : ℕ) → 0 < m → m < 2 ^ k → has m (highest k m) ≡ true
highest_member k m p h = let q = some_member m p in (highest_top k m q.0 q.1 (member_below k m q.0 h q.1)).1

pub highest_narrowed : (k a b : ℕ) → Subset a b → highest k a ≤ highest k b
unfolding highest
highest_narrowed zero a b s = omega arith
highest_narrowed (suc k) a b s =
    cond_both (has a k) k (highest k a) (λ (x : ℕ). x ≤ highest (suc k) b)
    (λ e. highest_above (suc k) b k (s k e) (omega arith))
    (λ e. cond_both (has b k) k (highest k b) (λ (x : ℕ). highest k a ≤ x)
    (λ _. omega (arith, highest-le k a)) (λ _. highest_narrowed k a b s))

pub highest_one : (k c : ℕ) → c < k → highest k (2 ^ c) ≡ c
highest_one k c h =
    sym (eqb-true c (highest k (2 ^ c)) (sym (has_one c (highest k (2 ^ c))) ∙ highest_member k (2 ^ c) (pow_pos c) (pow-lt h)))

pub lowest-highest : (k m : ℕ) → 0 < m → m < 2 ^ k → lowest k m ≤ highest k m
lowest-highest k m p h =
    let e = highest_member k m p h in
    lowest_below k m (highest k m) e (member_below k m (highest k m) h e)

-- the zeros above a set's highest digit count down to its highest channel
highest_none : (k : ℕ) → highest k 0 ≡ 0
unfolding highest
highest_none zero = refl
highest_none (suc k) = cond-false (has 0 k) k (highest k 0) (has_none k) ∙ highest_none k

has_top : (j m : ℕ) → 2 ^ j ≤ m → m < 2 ^ suc j → has m j ≡ true
unfolding has
has_top j m l h =
    let w = pow-suc 2 j in
    let lo : 1 ≤ m / 2 ^ j = le-div 1 m (2 ^ j) (pow_pos j) (omega arith) in
    let hi : m / 2 ^ j < 2 = div_below m (2 ^ j) 2 (pow_pos j) (omega arith) in
    let e : m / 2 ^ j ≡ 1 = omega arith in
    ap (λ (x : ℕ). eqb (x % 2) 1) e

pub leading_is_highest : (k m : ℕ) → m < 2 ^ k → k - 1 - count_leading_zeros k m ≡ highest k m
leading_is_highest k zero h = omega (arith, leading_of_zero k, highest_none k)
leading_is_highest k (suc n) h =
    let t = leading_top k (suc n) (omega arith) h in
    let s = t.1 in
    let e = has_top t.0 (suc n) t.2 t.3 in
    let lo = highest_above k (suc n) t.0 e (omega arith) in
    let hi = member_below (suc t.0) (suc n) (highest k (suc n)) t.3 (highest_member k (suc n) (omega arith) h) in
    omega arith

-- every one of the first k channels passes a test, or one of them fails it
pub every-at : (k : ℕ) (p : ℕ → Bool) → every k p ≡ true → (c : ℕ) → c < k → p c ≡ true
unfolding every
every-at zero p e c h = absurd (omega arith)
every-at (suc k) p e c h =
    let q = and_parts (every k p) (p k) e in
    ⊎_elim (λ s. ap p s ∙ q.1) (λ n. every-at k p q.0 c (omega (arith, n))) (cases_eq c k)

pub every_from : (k : ℕ) (p : ℕ → Bool) → ((c : ℕ) → c < k → p c ≡ true) → every k p ≡ true
unfolding every
every_from zero p f = refl
every_from (suc k) p f = and_from (every k p) (p k) (every_from k p (λ c h. f c (omega arith))) (f k (omega arith))

pub every_fails : (k : ℕ) (p : ℕ → Bool) → every k p ≡ false → (c : ℕ) × (c < k) × (p c ≡ false)
unfolding every
every_fails zero p e = absurd (both_ways true e refl)
every_fails (suc k) p e =
    ⊎_elim (λ s. let q = every_fails k p s in let l = q.1 in (q.0, omega arith, q.2)) (λ s. (k, omega arith, s))
    (and_cases (every k p) (p k) e)

-- the set of the channels that pass a test
pub those-lt : (k : ℕ) (p : ℕ → Bool) → those k p < 2 ^ k
unfolding those
those-lt zero p = omega arith
those-lt (suc k) p =
    let w = pow-suc 2 k in
    let ih = those-lt k p in
    cond_both (p k) (2 ^ k + those k p) (those k p) (λ (x : ℕ). x < 2 ^ suc k) (λ _. omega arith) (λ _. omega arith)

has_under : (k t c : ℕ) → c < k → has (2 ^ k + t) c ≡ has t c
has_under zero t c h = absurd (omega arith)
has_under (suc k) t zero h =
    let w = pow-suc 2 k in has_first (2 ^ suc k + t) ∙ ap (λ (x : ℕ). eqb x 1) (omega arith) ∙ sym (has_first t)
has_under (suc k) t (suc c) h =
    let w = pow-suc 2 k in
    has_next (2 ^ suc k + t) c ∙ ap (λ (x : ℕ). has x c) (omega arith) ∙ has_under k (t / 2) c (omega arith) ∙ sym (has_next t c)

pub those_without : (k : ℕ) (p : ℕ → Bool) → p k ≡ false → those k p ≡ those (suc k) p
unfolding those
those_without k p e = sym (cond-false (p k) (2 ^ k + those k p) (those k p) e)

with_sum : (k : ℕ) (p : ℕ → Bool) → p k ≡ true → 2 ^ k + those k p ≡ those (suc k) p
unfolding those
with_sum k p e = sym (cond-true (p k) (2 ^ k + those k p) (those k p) e)

pub those_with : (k : ℕ) (p : ℕ → Bool) → p k ≡ true → bit_or (those k p) (2 ^ k) ≡ those (suc k) p
those_with k p e =
    let one : 2 ^ k ≡ 1 * 2 ^ k = omega arith in
    ap (bit_or (those k p)) one ∙ or_shifted_r 1 k (those k p) (those-lt k p) ∙ omega (arith, with_sum k p e)

pub has-those : (k : ℕ) (p : ℕ → Bool) (c : ℕ) → c < k → has (those k p) c ≡ p c
has-those zero p c h = absurd (omega arith)
has-those (suc k) p c h =
    ⊎_elim
    (λ e. ap (λ (x : ℕ). has x c) (sym (with_sum k p e))
    ∙ ⊎_elim (λ s. subst (λ (x : ℕ). has (2 ^ k + those k p) x ≡ p x) (sym s)
    (has_top k (2 ^ k + those k p) (omega arith) (omega (arith, those-lt k p, pow-suc 2 k)) ∙ sym e))
    (λ n. has_under k (those k p) c (omega (arith, n)) ∙ has-those k p c (omega (arith, n))) (cases_eq c k))
    (λ e. ap (λ (x : ℕ). has x c) (sym (those_without k p e))
    ∙ ⊎_elim (λ s. subst (λ (x : ℕ). has (those k p) x ≡ p x) (sym s) (has_above k (those k p) k (those-lt k p) (le_refl k) ∙ sym e))
    (λ n. has-those k p c (omega (arith, n))) (cases_eq c k))
    (cases_Bool (p k))

pub those-same : (k : ℕ) (p q : ℕ → Bool) → ((c : ℕ) → c < k → p c ≡ q c) → those k p ≡ those k q
unfolding those
those-same zero p q f = refl
those-same (suc k) p q f =
    ap₂ (λ (b : Bool) (t : ℕ). cond b (2 ^ k + t) t) (f k (omega arith)) (those-same k p q (λ c h. f c (omega arith)))

-- tests over the channels of a set
both_sides : (x y : Bool) → (x ≡ true → y ≡ true) → (y ≡ true → x ≡ true) → x ≡ y
both_sides true y f g = sym (f refl)
both_sides false true f g = g refl
both_sides false false f g = refl

pub every-same : (k : ℕ) (p q : ℕ → Bool) → ((c : ℕ) → c < k → p c ≡ q c) → every k p ≡ every k q
unfolding every
every-same zero p q f = refl
every-same (suc k) p q f = ap₂ (λ (x y : Bool). x && y) (every-same k p q (λ c h. f c (omega arith))) (f k (omega arith))

-- all channels of a set pass where those that pass are the whole set
pub all_pass : (k m : ℕ) (p : ℕ → Bool) → m < 2 ^ k → eqb (those k (λ c. has m c && p c)) m ≡ every k (λ c. not (has m c) || p c)
all_pass k m p h =
    both_sides _ _
    (λ e. every_from k _ (λ c l. ⊎_elim
    (λ t. or_right _ _ (and_parts (has m c) (p c) (sym (has-those k (λ x. has m x && p x) c l) ∙ ap (λ (x : ℕ). has x c) (eqb-true _ _ e) ∙ t)).1)
    (λ t. or_left _ _ (not_from_false (has m c) t)) (cases_Bool (has m c))))
    (λ e. eq-eqb _ _ (same_set k _ m (those-lt k _) h (λ c l. has-those k (λ x. has m x && p x) c l ∙ ⊎_elim
    (λ t. and_from _ _ t (⊎_elim (λ n. absurd (both_ways _ (not-true _ n) t)) (λ y. y) (or_cases _ _ (every-at k _ e c l))) ∙ sym t)
    (λ t. and_left _ _ t ∙ sym t) (cases_Bool (has m c)))))

-- no channel passes where those that pass are none
pub none_pass : (k : ℕ) (p : ℕ → Bool) → eqb (those k p) 0 ≡ every k (λ c. not (p c))
none_pass k p =
    both_sides _ _
    (λ e. every_from k _ (λ c l. not_from_false _ (sym (has-those k p c l) ∙ ap (λ (x : ℕ). has x c) (eqb-true _ _ e) ∙ has_none c)))
    (λ e. eq-eqb _ _ (same_set k _ 0 (those-lt k p) (pow_pos k) (λ c l. has-those k p c l ∙ not-true _ (every-at k _ e c l) ∙ sym (has_none c))))

-- the channels of a set that pass are among its channels
pub those_subset : (k m : ℕ) (p : ℕ → Bool) → Subset (those k (λ c. has m c && p c)) m
those_subset k m p c h =
    let l : c < k = member_below k _ c (those-lt k (λ x. has m x && p x)) h in
    (and_parts (has m c) (p c) (sym (has-those k (λ x. has m x && p x) c l) ∙ h)).0
