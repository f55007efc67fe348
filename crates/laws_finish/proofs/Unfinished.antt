-- A zone's unfinished nodes: a weight set to 0 makes no more of them, lifting a turf that has a weight above 0 makes one fewer, and there are at most as many as
-- links. Assumes nothing.
use mathlib.Core.Path.{◌≡◌, refl, sym, ap, subst}
use mathlib.Core.List.{List, [], ◌∷◌}
use mathlib.Core.Bool.{Bool, true, false, not}
use Prim.Native.Nat.{ℕ, zero, suc, ◌+◌, ◌≤◌, ◌<◌}
use native.Mathlib.Nat.{le_refl, zero-add}
use native.Mathlib.Decide.{ℕ_discrete}
use native.Mathlib.Omega.{arith}
use lib.Dec.{T}
use lib.ListN.{get_or}
use lib.Ieee.{Float, nan}
use lib.Ieee.Bits.{is_true}
use Rattle.basics.specs.Loops.{keep, every, up_from}
use Rattle.basics.specs.Lists.{one, count}
use Rattle.basics.proofs.Lists.{one_at_most}
use Rattle.rules_board.specs.Board.{Board, turf_count, link_count, degree, links_of}
use Rattle.rules_plan.specs.Edges.{owned, edges_of}
use Rattle.rules_finish.specs.Finish.{zero_lifted}
use Rattle.rules_finish.specs.Lifted.{above, quiet, unfinished_nodes}
use Rattle.laws_finish.proofs.Weights.{Below, lift_below, lift_zero}
use Rattle.laws_finish.proofs.Slices.{quiet_is, is_quiet}

-- ---- two tests, the first of which passes only where the second does

module _ (p q : ℕ → Bool) (h : (x : ℕ) → one (p x) ≤ one (q x)) where
  count_less : (xs : List ℕ) → count p xs ≤ count q xs
  unfolding count
  count_less [] = le_refl 0
  count_less (x ∷ xs) = omega (arith, h x, count_less xs)

  -- at r the second passes alone
  count-fewer : (a n r : ℕ) → a ≤ r → r < a + n → one (p r) < one (q r) → count p (up_from a n) < count q (up_from a n)
  unfolding count up_from
  count-fewer a zero r l u t = absurd (omega arith)
  count-fewer a (suc n) r l u t = go (ℕ_discrete a r) (λ l' u'. count-fewer (suc a) n r l' u' t)
    where
      go : Dec (a ≡ r) → (suc a ≤ r → r < suc a + n → count p (up_from (suc a) n) < count q (up_from (suc a) n)) → one (p a) + count p (up_from (suc a) n) < one (q a) + count q (up_from (suc a) n)
      go (yes e) ih = let t' : one (p a) < one (q a) = subst (λ (x : ℕ). one (p x) < one (q x)) (sym e) t in omega (arith, t', count_less (up_from (suc a) n))
      go (no e) ih = omega (arith, h a, ih (omega (arith, e)) (omega arith))

module _ (b : Board) (owner : List ℕ) (z : ℕ) where
  -- the turf counts one where it is unfinished
  abbrev counts : List Float → ℕ → ℕ
  counts w r = one (not (quiet b owner z r w))

  quiet_none : (r : ℕ) (w : List Float) → T (quiet b owner z r w) → counts w r ≡ 0
  quiet_none r w t = ap (λ (c : Bool). one (not c)) (is_true (quiet b owner z r w) t)

  counts-below : (v w : List Float) → Below v w → (r : ℕ) → counts v r ≤ counts w r
  counts-below v w h r = go (quiet b owner z r w) refl
    where
      go : (t : Bool) → quiet b owner z r w ≡ t → counts v r ≤ one (not t)
      go true e = omega (arith, quiet_none r v (is_quiet b owner z r v (λ k m. h k (quiet_is b owner z r w (subst T (sym e) tt) k m))))
      go false e = one_at_most (not (quiet b owner z r v))

  -- weights that only went to 0
  pub unfinished-below : (v w : List Float) → Below v w → unfinished_nodes b owner z v ≤ unfinished_nodes b owner z w
  unfolding unfinished_nodes
  unfinished-below v w h = count_less (λ r. not (quiet b owner z r v)) (λ r. not (quiet b owner z r w)) (counts-below v w h) (up_from 0 (turf_count b))

  -- the turf itself is unfinished no more
  pub unfinished-lift : (r : ℕ) (w : List Float) → r < turf_count b → quiet b owner z r w ≡ false → unfinished_nodes b owner z (zero_lifted (edges_of b owner z r) w) < unfinished_nodes b owner z w
  unfolding unfinished_nodes
  unfinished-lift r w l e =
      let es = edges_of b owner z r in
      let v = zero_lifted es w in
      let i : counts w r ≡ 1 = ap (λ (c : Bool). one (not c)) e in
      count-fewer (λ x. not (quiet b owner z x v)) (λ x. not (quiet b owner z x w)) (counts-below v w (lift_below es w w (λ k o. o))) 0 (turf_count b) r (omega arith) (omega arith)
      (omega (arith, i, quiet_none r v (is_quiet b owner z r v (lift_zero es w))))

  -- an unfinished turf has a link
  counts-links : (w : List Float) (r : ℕ) → get_or b.starts r 0 ≤ get_or b.starts (r + 1) 0 → get_or b.starts r 0 + counts w r ≤ get_or b.starts (r + 1) 0
  counts-links w r h = go (ℕ_discrete (degree b r) 0)
    where
      none : degree b r ≡ 0 → quiet b owner z r w ≡ true
      none e = unfold quiet edges_of links_of keep every up_from in ap (λ (n : ℕ). every (λ k. not (above (get_or w k nan))) (keep (owned b owner z) (up_from (get_or b.starts r 0) n))) e

      go : Dec (degree b r ≡ 0) → get_or b.starts r 0 + counts w r ≤ get_or b.starts (r + 1) 0
      go (yes e) = let i : counts w r ≡ 0 = ap (λ (c : Bool). one (not c)) (none e) in omega arith
      go (no e) = omega (arith, e, one_at_most (not (quiet b owner z r w)))

  -- turfs whose links are parts of the link list, one after the other
  module _ (rise : (r : ℕ) → r < turf_count b → get_or b.starts r 0 ≤ get_or b.starts (r + 1) 0) where
    parts : (w : List Float) (a n : ℕ) → a + n ≤ turf_count b → get_or b.starts a 0 + count (λ r. not (quiet b owner z r w)) (up_from a n) ≤ get_or b.starts (a + n) 0
    unfolding count up_from
    parts w a zero l = let e : a + 0 ≡ a = omega arith in let i = ap (λ (k : ℕ). get_or b.starts k 0) e in omega arith
    parts w a (suc n) l =
        let e : suc a + n ≡ a + suc n = omega arith in
        let o : a + 1 ≡ suc a = omega arith in
        let i = ap (λ (k : ℕ). get_or b.starts k 0) e in
        let j = ap (λ (k : ℕ). get_or b.starts k 0) o in
        omega (arith, i, j, counts-links w a (rise a (omega arith)), parts w (suc a) n (omega arith))

    -- at most as many as links
    pub unfinished-few : (w : List Float) → get_or b.starts (turf_count b) 0 ≡ link_count b → unfinished_nodes b owner z w ≤ link_count b
    unfolding unfinished_nodes
    unfinished-few w e = let i = ap (λ (k : ℕ). get_or b.starts k 0) (zero-add (turf_count b)) in omega (arith, i, e, parts w 0 (turf_count b) (omega arith))
