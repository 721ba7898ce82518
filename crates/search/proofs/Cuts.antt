-- What cutting a station to one channel, and settling then, does to a store.
use Rattle.std.proofs.Common.{◌≡◌, ℕ, suc, ◌^◌, ◌<◌, true, false, List, length, set, sym, ◌∙◌, subst, ⊎_elim, arith, get_or-set_other, get_or-set_same, pow_pos, zero-le}
use lib.Pow.{pow-lt}
use Rattle.masks.proofs.Sets.{has_above, one_subset, subset_one}
use Rattle.masks.proofs.Tables.{inside_self, inside_through}
use Rattle.masks.specs.Sets.{channels, has, Subset}
use Rattle.masks.specs.Tables.{at, Inside, Store, Fixed, Choice}
use Rattle.settling.proofs.Store.{narrows_one}
use Rattle.std.proofs.lemmas.Bool.{both_ways, cases_eq, cases_lt}
use Rattle.std.proofs.lemmas.List.{get_or_past}

-- a station that has a channel is one of the table's
pub member_there : (D : List ℕ) (s c : ℕ) → has (at D s) c ≡ true → s < length D
member_there D s c e =
    ⊎_elim (λ h. h)
    (λ out. absurd (both_ways _ (subst (λ (m : ℕ). has m c ≡ false) (sym (get_or_past D s 0 out)) (has_above 0 0 c (omega arith) zero-le)) e))
    (cases_lt s (length D))

-- stations of one channel keep it in a store inside
pub fixed_inside : (n : ℕ) (D E : List ℕ) → Inside E D → Store n E → Fixed n D → Fixed n E
fixed_inside n D E i f fixed s h =
    let p = fixed s h in
    (p.0, p.1, subset_one (at E s) p.0 (subst (λ (x : ℕ). Subset (at E s) x) p.2 (i s)) (f s h).some)

-- one more station is cut to one channel
pub fixed_more : (n : ℕ) (D : List ℕ) (c : ℕ) → n < length D → c < channels → Fixed n D → Fixed (suc n) (set D n (2 ^ c))
fixed_more n D c h b fixed s l =
    ⊎_elim (λ e. (c, b, subst (λ (t : ℕ). at (set D n (2 ^ c)) t ≡ 2 ^ c) (sym e) (get_or-set_same D n (2 ^ c) 0 h)))
    (λ ne. let p = fixed s (omega (arith, ne)) in (p.0, p.1, get_or-set_other D n s (2 ^ c) 0 ne ∙ p.2)) (cases_eq s n)

-- a store in which each station has one channel is a choice of these
pub choice_self : (n m : ℕ) (D : List ℕ) → m ≡ n → Fixed m D → Choice n D D
choice_self n m D e f = record { inside = inside_self D; fixed = subst (λ (k : ℕ). Fixed k D) e f }

-- a store inside one whose station s is cut to channel c, which it had
pub cut_inside : (D E : List ℕ) (s c : ℕ) → c < channels → has (at D s) c ≡ true → Inside E (set D s (2 ^ c)) → Inside E D
cut_inside D E s c b e i =
    inside_through E (set D s (2 ^ c)) D i (narrows_one 0 D s (2 ^ c) (one_subset (at D s) c e) (record { some = pow_pos c; below = pow-lt b })).inside

pub choice_through : (n : ℕ) (D E P : List ℕ) → Inside E D → Choice n E P → Choice n D P
choice_through n D E P i p = record { inside = inside_through P E D p.inside i; fixed = p.fixed }
