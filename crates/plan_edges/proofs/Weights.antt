-- A weight that is altered, in the list of all floats, and the reverse of a link, by the words that are read. Assumes nothing.
use Prim.Native.Nat.{ℕ, ◌+◌, ◌-◌, ◌≤◌, ◌<◌}
use native.Mathlib.Omega.{arith}
use mathlib.Core.Path.{◌≡◌, ap, ◌∙◌, sym, subst}
use mathlib.Core.List.{List}
use mathlib.Core.Logic.{◌≢◌}
use mathlib.Core.Bool.{Bool, true, false, cond}
use native.Mathlib.Decide.{ℕ_discrete}
use lib.Dec.{eqb}
use lib.ListN.{length, get_or, set, drop}
use lib.Seq.{get_or-take, get_or-drop}
use borrow.Author.Tests.{eq-eqb, ne_eqb}
use lib.Ieee.{Float, nan}
use Rattle.basics.specs.Floats.{◌+f◌, ◌-f◌}
use Rattle.std.specs.Prelude.{Option, Some, None}
use Rattle.basics.specs.Lists.{Found}
use Rattle.scratch.specs.Layout.{reverse_at}
use Rattle.scratch.specs.View.{owner_in, reverse_in}
use Rattle.rules_plan.specs.Edges.{alter}
use Rattle.laws_plan.proofs.Sizes.{alter-size}
use Rattle.plan_edges.specs.Steps.{owned_by, back_link, adjust_at}

-- what a search found, by its case
pub found-at : (P : ℕ → Type 0) {s : Option ℕ} {k : ℕ} → s ≡ Some k → Found P s → P k
found-at P e f = subst (Found P) e f

pub altered : {s : Option ℕ} {k : ℕ} (f : Float → Float) (w : List Float) → s ≡ Some k → set w k (f (get_or w k nan)) ≡ alter s f w
altered f w e = ap (λ (s : Option ℕ). alter s f w) (sym e)

pub adjust-length : (there back : Option ℕ) (x : Float) (w : List Float) → length (adjust_at there back x w) ≡ length w
unfolding adjust_at
adjust-length there back x w = alter-size back (λ y. y -f x) (alter there (λ y. y +f x) w) ∙ alter-size there (λ y. y +f x) w

pub adjusts : (there back : Option ℕ) (x : Float) (w w' w'' : List Float) → w' ≡ alter there (λ y. y +f x) w → w'' ≡ alter back (λ y. y -f x) w' → w'' ≡ adjust_at there back x w
unfolding adjust_at
adjusts there back x w w' w'' e e' = e' ∙ ap (alter back (λ y. y -f x)) e

-- the reverse of a link, by the words that are read
module _ (e k z : ℕ) (w : List ℕ) (hk : k < e) (at : ℕ) (ea : at ≡ reverse_at k e) where
  place : get_or w at 0 ≡ get_or w (reverse_at k e) 0
  place = ap (λ (i : ℕ). get_or w i 0) ea

  back : get_or w at 0 ≡ get_or (reverse_in e w) k 0
  back = place ∙ sym (get_or-take e (drop e w) k 0 hk ∙ get_or-drop e w k 0)

  pub back_none : get_or w at 0 ≡ 0 → None ≡ back_link (reverse_in e w) (owner_in e w) z k
  unfolding back_link
  back_none h = sym (ap (owned_by (owner_in e w) z) (sym back ∙ h))

  module _ (some : get_or w at 0 ≢ 0) (le : get_or w (reverse_at k e) 0 ≤ e) where
    own : get_or w (get_or w at 0 - 1) 0 ≡ get_or (owner_in e w) (get_or w at 0 - 1) 0
    own = sym (get_or-take e w (get_or w at 0 - 1) 0 (omega (arith, some, le, place)))

    pub back-owned : get_or w (get_or w at 0 - 1) 0 ≡ z + 1 → Some (get_or w at 0 - 1) ≡ back_link (reverse_in e w) (owner_in e w) z k
    unfolding back_link
    back-owned h = rw (← back, ne_eqb (get_or w at 0) 0 some, ← own, eq-eqb _ _ h)

    pub back-foreign : get_or w (get_or w at 0 - 1) 0 ≢ z + 1 → None ≡ back_link (reverse_in e w) (owner_in e w) z k
    unfolding back_link
    back-foreign h = rw (← back, ne_eqb (get_or w at 0) 0 some, ← own, ne_eqb _ _ h)

-- what was found among fewer
pub found-more : (m m' : ℕ) (s : Option ℕ) → m ≤ m' → Found (λ k. k < m) s → Found (λ k. k < m') s
found-more m m' (Some k) q f = omega arith
found-more m m' None q f = f

-- what a reverse is, it is among the links
pub back_found : (reverse owner : List ℕ) (z k e : ℕ) (s : Option ℕ) → s ≡ back_link reverse owner z k → get_or reverse k 0 ≤ e → Found (λ j. j < e) s
unfolding back_link
back_found reverse owner z k e s q h = subst (Found (λ j. j < e)) (sym q) (go (ℕ_discrete (get_or reverse k 0) 0))
  where
    own : (t : Bool) → get_or reverse k 0 ≢ 0 → Found (λ j. j < e) (cond t (Some (get_or reverse k 0 - 1)) None)
    own true d = omega (arith, d)
    own false d = tt

    go : Dec (get_or reverse k 0 ≡ 0) → Found (λ j. j < e) (owned_by owner z (get_or reverse k 0))
    go (yes d) = rw (eq-eqb (get_or reverse k 0) 0 d) tt
    go (no d) = rw (ne_eqb (get_or reverse k 0) 0 d) (own (eqb (get_or owner (get_or reverse k 0 - 1) 0) (z + 1)) d)
