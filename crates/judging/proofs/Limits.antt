-- How far the terms of a sheet lie from 0, whatever the channels.
use Rattle.std.proofs.Common.{◌≡◌, ℕ, zero, suc, ◌<◌, ◌≤◌, Bool, true, false, cond, List, length, get_or, ℤ, pos, negsuc, ◌-ℤ◌, ◌*ℤ◌, nat_abs, sym, subst, mod-lt, div-le_self, arith}
use borrow.Author.Differences.{ints}
use lib.Signed.{lt_z}
use Rattle.masks.proofs.Sets.{lowest-le, highest-le}
use Rattle.masks.specs.Sets.{channels}
use Rattle.masks.specs.Tables.{at}
use Rattle.sheet.specs.Sound.{missing_node}
use Rattle.sheet.specs.declared.form.Form.{Form}
use Rattle.sheet.specs.declared.form.Form.TheVariants.{Number, Station, Sum, Difference, Multiple, Quotient, Remainder, Between, AtLeast, AtMost, Channels, Union, Intersection, Complement, Shift}
use Rattle.sheet.specs.declared.form.Node.{Node}
use Rattle.std.specs.Int.{int_div_euclid, int_rem_euclid}
use Rattle.judging.specs.Answers.{ends_of}
use Rattle.judging.specs.Bounds.{bound, Bounded}
use Rattle.judging.specs.Judged.{same, least, greatest}
use Rattle.judging.specs.JudgedNodes.{node_depth, node_term}
use Rattle.judging.specs.Known.{Known}
use Rattle.judging.specs.Nodes.{as_term, depth_at, term_of}
use Rattle.judging.specs.Trees.{Term}
use Rattle.judging.specs.declared.node.JudgedNode.{JudgedNode}
use Rattle.judging.specs.declared.values.Ends.{Ends}
use Rattle.judging.proofs.Bounds.{times_within}
use Rattle.judging.proofs.Nodes.{known, bounded_depth, depths}
use Rattle.judging.proofs.Trees.{term_step}

-- the size of a quotient, and of a remainder
quotient_size : (x : ℤ) (k : ℕ) → nat_abs (int_div_euclid x (pos k)) ≤ nat_abs x
quotient_size (pos a) k = div-le_self a k
quotient_size (negsuc a) k = omega (arith, div-le_self a k)

remainder_size : (x : ℤ) (k : ℕ) → 1 ≤ k → nat_abs (int_rem_euclid x (pos k)) ≤ k
remainder_size (pos a) k h = omega (arith, mod-lt a h)
remainder_size (negsuc a) k h = omega arith

one_of_two : (b : Bool) (x y : ℤ) (m : ℕ) → nat_abs x ≤ m → nat_abs y ≤ m → nat_abs (cond b x y) ≤ m
one_of_two true x y m p q = p
one_of_two false x y m p q = q

module _ (n : ℕ) (nodes : List Node) (each : (i : ℕ) → i < length nodes → Known n nodes i (get_or nodes i missing_node).form) (D : List ℕ) where
  -- a term of one more step
  stepped : (i : ℕ) (x : Form) → Known n nodes i x → ((a : ℕ) → a < i → Bounded (bound (depth_at nodes a)) (ends_of D (term_of nodes a)))
      → Bounded (bound (depth_at nodes i)) (ends_of D (as_term (term_of nodes) x))
  stepped i (Number k) p f = record { low = omega (arith, p.0, p.1); high = omega (arith, p.0, p.1) }
  stepped i (Station s) p f = record { low = omega (arith, p.2, lowest-le channels (at D s)); high = omega (arith, p.2, highest-le channels (at D s)) }
  stepped i (Sum a b) p f =
      let q = f a p.0.earlier in
      let r = f b p.1.earlier in
      record { low = omega (arith, ints, p.0.room, p.1.room, q.low, r.low); high = omega (arith, ints, p.0.room, p.1.room, q.high, r.high) }
  stepped i (Difference a b) p f =
      let q = f a p.0.earlier in
      let r = f b p.1.earlier in
      record { low = omega (arith, ints, p.0.room, p.1.room, q.low, r.high); high = omega (arith, ints, p.0.room, p.1.room, q.high, r.low) }
  stepped i (Multiple k a) p f =
      let q = f a p.1.earlier in
      let l : nat_abs (k *ℤ least D (term_of nodes a)) ≤ bound (depth_at nodes i) = omega (arith, times_within k (least D (term_of nodes a)) p.0, p.1.room, q.low) in
      let g : nat_abs (k *ℤ greatest D (term_of nodes a)) ≤ bound (depth_at nodes i) = omega (arith, times_within k (greatest D (term_of nodes a)) p.0, p.1.room, q.high) in
      record { low = one_of_two (lt_z k (pos 0)) _ _ _ g l; high = one_of_two (lt_z k (pos 0)) _ _ _ l g }
  stepped i (Quotient a k) p f =
      let q = f a p.1.earlier in
      subst (λ (z : ℤ). Bounded (bound (depth_at nodes i)) (record { least = int_div_euclid (least D (term_of nodes a)) z; greatest = int_div_euclid (greatest D (term_of nodes a)) z })) p.0.positive
      (record {
        low = omega (arith, quotient_size (least D (term_of nodes a)) (nat_abs k), p.1.room, q.low);
        high = omega (arith, quotient_size (greatest D (term_of nodes a)) (nat_abs k), p.1.room, q.high);
      })
  stepped i (Remainder a k) p f =
      let x = least D (term_of nodes a) in
      let b : Bool = same x (greatest D (term_of nodes a)) in
      subst (λ (z : ℤ). Bounded (bound (depth_at nodes i)) (record { least = cond b (int_rem_euclid x z) (pos 0); greatest = cond b (int_rem_euclid x z) (z -ℤ pos 1) })) p.0.positive
      (let r : nat_abs (int_rem_euclid x (pos (nat_abs k))) ≤ bound (depth_at nodes i) = omega (arith, remainder_size x (nat_abs k) p.0.some, p.0.few, p.1.wide) in
      record {
        low = one_of_two b _ _ _ r (omega arith);
        high = one_of_two b _ _ _ r (omega (arith, ints, p.0.few, p.1.wide));
      })
  stepped i (Between a b) p f = record { low = omega arith; high = omega arith }
  stepped i (AtLeast a) p f = record { low = omega arith; high = omega arith }
  stepped i (AtMost a) p f = record { low = omega arith; high = omega arith }
  stepped i (Channels s) p f = record { low = omega arith; high = omega arith }
  stepped i (Union a b) p f = record { low = omega arith; high = omega arith }
  stepped i (Intersection a b) p f = record { low = omega arith; high = omega arith }
  stepped i (Complement a) p f = record { low = omega arith; high = omega arith }
  stepped i (Shift a b) p f = record { low = omega arith; high = omega arith }

  reached : (m i : ℕ) → i < m → i < length nodes → Bounded (bound (depth_at nodes i)) (ends_of D (term_of nodes i))
  reached zero i l h = absurd (omega arith)
  reached (suc m) i l h =
      subst (λ (t : Term). Bounded (bound (depth_at nodes i)) (ends_of D t)) (sym (term_step n nodes each i h))
      (stepped i _ (each i h) (λ a e. reached m a (omega arith) (omega arith)))

  pub term_limit : (i : ℕ) → i < length nodes → bound (depth_at nodes i) ≤ 268435456000 → Bounded 268435456000 (ends_of D (term_of nodes i))
  term_limit i h b = let p = reached (suc i) i (omega arith) h in record { low = omega (arith, p.low); high = omega (arith, p.high) }

  -- so whatever are the ends of node i
  pub ends_within : (i : ℕ) → i < length nodes → (e : Ends) → e.least ≡ least D (term_of nodes i) → e.greatest ≡ greatest D (term_of nodes i) → Bounded (bound (depth_at nodes i)) e
  ends_within i h e l g =
      let p = reached (suc i) i (omega arith) h in
      record { low = subst (λ (z : ℤ). nat_abs z ≤ bound (depth_at nodes i)) (sym l) p.low; high = subst (λ (z : ℤ). nat_abs z ≤ bound (depth_at nodes i)) (sym g) p.high }

pub within_bound : (x : JudgedNode) (e : Ends) → e.least ≡ least x.judge.now.domains.now (node_term x) → e.greatest ≡ greatest x.judge.now.domains.now (node_term x) → Bounded (bound (node_depth x)) e
within_bound x e l g =
    let s = x.judge.now.sheet.now in
    ends_within _ _ (known _ _ s.few_stations s.nodes_sound) x.judge.now.domains.now x.number (omega (arith, s.nodes.ok, x.there)) e l g

-- so no node's ends leave the widest limits
pub within_limits : (x : JudgedNode) (e : Ends) → Bounded (bound (node_depth x)) e → Bounded 268435456000 e
within_limits x e p =
    let s = x.judge.now.sheet.now in
    let b : bound (node_depth x) ≤ 268435456000 = bounded_depth _ _ s.nodes_sound x.number (omega (arith, s.nodes.ok, x.there)) in
    record { low = omega (arith, p.low); high = omega (arith, p.high) }

-- a node is at most 8 deep
pub shallow : (x : JudgedNode) → node_depth x ≤ 8
shallow x =
    let s = x.judge.now.sheet.now in
    (depths _ _ s.nodes_sound x.number (omega (arith, s.nodes.ok, x.there))).1
