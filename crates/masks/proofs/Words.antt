-- What a word says of any whole number.
use Rattle.std.proofs.Common.{◌≡◌, ℕ, ◌/◌, ◌^◌, ◌<◌, true, false, eqb, ℤ, pos, negsuc, nat_abs, refl, ap, arith, pow_mono}
use lib.Bits.{bit_and, and_mask}
use Rattle.std.proofs.lemmas.Bool.{both_ways, ltb-false, ne_eqb}
use Rattle.masks.specs.Sets.{channels, is_channel, has, holds, holds_only}
use Rattle.masks.proofs.Sets.{has_above}

pub digit_holds : (m : ℕ) (v : ℤ) → is_channel v ≡ true → eqb (bit_and (m / 2 ^ nat_abs v) 1) 1 ≡ holds m v
unfolding has
digit_holds m (pos c) h = ap (λ (x : ℕ). eqb x 1) (and_mask (m / 2 ^ c) 1)
digit_holds m (negsuc c) h = absurd (both_ways false refl h)

-- what is no channel's number is in no word's set
pub none_holds : (m : ℕ) (v : ℤ) → m < 2 ^ channels → is_channel v ≡ false → holds m v ≡ false
none_holds m (pos c) f h = has_above channels m c f (ltb-false c channels h)
none_holds m (negsuc c) f h = refl

pub none_only : (m : ℕ) (v : ℤ) → m < 2 ^ channels → is_channel v ≡ false → holds_only m v ≡ false
none_only m (pos c) f h = let p = pow_mono (ltb-false c channels h) in ne_eqb m (2 ^ c) (λ e. omega arith)
none_only m (negsuc c) f h = refl
