-- An edge of a zone is the link at hand, and the edge back is its reverse: no neighbour stands twice in a row. Assumes nothing.
use Prim.Native.Nat.{ℕ, ◌+◌, ◌-◌, ◌≤◌, ◌<◌}
use native.Mathlib.Omega.{arith}
use native.Mathlib.Decide.{ℕ_discrete}
use mathlib.Core.Path.{◌≡◌, refl, ap, ◌∙◌, sym, subst}
use mathlib.Core.List.{List}
use mathlib.Core.Bool.{Bool, true, false, ◌&&◌, cond}
use lib.Dec.{T, eqb, eqb→eq}
use lib.ListN.{length, get_or}
use borrow.Author.Tests.{eq-eqb, ne_eqb}
use Rattle.std.specs.Prelude.{Option, Some, None}
use Rattle.basics.specs.Lists.{Found}
use Rattle.basics.proofs.Loops.{first_found, first_passes}
use Rattle.rules_board.specs.Board.{Board, end, links_of}
use Rattle.rules_plan.specs.Edges.{owned, edge}
use Rattle.reverse_links.proofs.Firsts.{first-none, first-only, first-nowhere, up-all}
use Rattle.reverse_links.specs.Reverse.{InRow, Linked, reverse_of, word_for, Reverses}
use Rattle.plan_edges.specs.Steps.{owned_by, back_link}

-- ---- the links of a turf

module _ (b : Board) (n : ℕ) (t : Linked n b.starts b.neighbours) (owner : List ℕ) (z : ℕ) where
  in_row : (r k : ℕ) → r < n → InRow b.starts r k → (get_or b.starts r 0 ≤ k) × (k < get_or b.starts r 0 + (get_or b.starts (r + 1) 0 - get_or b.starts r 0))
  in_row r k h i = (i.from, omega (arith, i.from, i.to))

  of_row : (r k : ℕ) → r < n → get_or b.starts r 0 ≤ k → k < get_or b.starts r 0 + (get_or b.starts (r + 1) 0 - get_or b.starts r 0) → InRow b.starts r k
  of_row r k h l m = record { from = l; to = omega (arith, t.rise r h) }

  -- a link is one of all, and ends at a turf
  pub link-below : (r k : ℕ) → r < n → InRow b.starts r k → k < length b.neighbours
  link-below r k h i = omega (arith, i.to, t.within r h)

  pub link-end : (r k : ℕ) → r < n → InRow b.starts r k → end b k < n
  link-end r k h i = t.rows k (link-below r k h i)

  -- the edge that a link of the zone is
  pub edge-there : (r k : ℕ) → r < n → InRow b.starts r k → get_or owner k 0 ≡ z + 1 → edge b owner z r (end b k) ≡ Some k
  unfolding edge links_of
  edge-there r k h i o =
      let q = in_row r k h i in
      first-only (λ j. owned b owner z j && eqb (end b j) (end b k)) (get_or b.starts r 0) (get_or b.starts (r + 1) 0 - get_or b.starts r 0) k q.0 q.1
      (rw (eq-eqb _ _ o, eq-eqb (end b k) (end b k) refl))
      (λ j l m s. t.once r j k h (of_row r j h l m) i (eqb→eq (end b j) (end b k) (right (owned b owner z j) (eqb (end b j) (end b k)) s)))
    where
      right : (x y : Bool) → (x && y) ≡ true → T y
      right true y e = subst T (sym e) tt
      right false y e = absurd (subst T (sym e) tt)

  right-false : (x y : Bool) → y ≡ false → (x && y) ≡ false
  right-false true y e = e
  right-false false y e = refl

  module _ (reverse : List ℕ) (v : Reverses b n reverse) (r k : ℕ) (h : r < n) (i : InRow b.starts r k) where
    -- what the search for the reverse found
    abbrev Back : ℕ → Type 0
    Back j = InRow b.starts (end b k) j × (end b j ≡ r)

    found : Found Back (reverse_of b r k)
    unfolding reverse_of links_of
    found = both (reverse_of b r k) (first_found (InRow b.starts (end b k)) (λ j. eqb (end b j) r) _ (up-all (InRow b.starts (end b k)) _ _ (λ j l m. of_row (end b k) j (link-end r k h i) l m)))
        (first_passes (λ j. end b j ≡ r) (λ j. eqb (end b j) r) _ (λ j s. eqb→eq (end b j) r s))
      where
        both : (s : Option ℕ) → Found (InRow b.starts (end b k)) s → Found (λ j. end b j ≡ r) s → Found Back s
        both (Some j) x y = (x, y)
        both None x y = tt

    -- the word for a link's reverse is a place among the links, or 0
    pub reverse-within : get_or reverse k 0 ≤ length b.neighbours
    reverse-within = rw (v.at r k h i) (go (reverse_of b r k) found)
      where
        go : (s : Option ℕ) → Found Back s → word_for s ≤ length b.neighbours
        go (Some j) f = omega (arith, link-below (end b k) j (link-end r k h i) f.0)
        go None f = omega arith

    none : reverse_of b r k ≡ None → edge b owner z (end b k) r ≡ None
    unfolding reverse_of edge links_of
    none e =
        first-none (λ j. owned b owner z j && eqb (end b j) r) _ _
        (λ j l m. right-false (owned b owner z j) (eqb (end b j) r) (first-nowhere (λ j. eqb (end b j) r) _ _ e j l m))

    one : (j : ℕ) → Back j → edge b owner z (end b k) r ≡ cond (owned b owner z j) (Some j) None
    unfolding edge links_of
    one j f = go (owned b owner z j) refl
      where
        other : owned b owner z j ≡ false → (m : ℕ) → get_or b.starts (end b k) 0 ≤ m
            → m < get_or b.starts (end b k) 0 + (get_or b.starts (end b k + 1) 0 - get_or b.starts (end b k) 0) → owned b owner z m && eqb (end b m) r ≡ false
        other o m l u = pick (ℕ_discrete (end b m) r)
          where
            pick : Dec (end b m ≡ r) → owned b owner z m && eqb (end b m) r ≡ false
            pick (yes d) =
                let q : m ≡ j = t.once (end b k) m j (link-end r k h i) (of_row (end b k) m (link-end r k h i) l u) f.0 (d ∙ sym f.1) in
                ap (λ (x : Bool). x && eqb (end b m) r) (ap (owned b owner z) q ∙ o)
            pick (no d) = right-false (owned b owner z m) (eqb (end b m) r) (ne_eqb _ _ d)

        go : (s : Bool) → owned b owner z j ≡ s → edge b owner z (end b k) r ≡ cond s (Some j) None
        go true o =
            ap (edge b owner z (end b k)) (sym f.1) ∙ edge-there (end b k) j (link-end r k h i) f.0 (eqb→eq _ _ (subst T (sym o) tt))
        go false o = first-none (λ m. owned b owner z m && eqb (end b m) r) _ _ (other o)

    -- the edge back is the reverse, where the zone owns it
    pub edge-back : edge b owner z (end b k) r ≡ back_link reverse owner z k
    unfolding back_link
    edge-back = go (reverse_of b r k) refl found ∙ sym (ap (owned_by owner z) (v.at r k h i))
      where
        go : (s : Option ℕ) → reverse_of b r k ≡ s → Found Back s → edge b owner z (end b k) r ≡ owned_by owner z (word_for s)
        go (Some j) e f =
            let q : j + 1 - 1 ≡ j = omega arith in
            one j f ∙ sym (rw (ne_eqb (j + 1) 0 (λ x. omega arith), q))
        go None e f = none e
