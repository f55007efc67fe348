-- Counting givers: who doesn't give takes. Assumes nothing.
use Prim.Native.Nat.{ℕ, suc, ◌+◌, ◌-◌, ◌≤◌, ◌<◌}
use native.Mathlib.Omega.{arith}
use native.Mathlib.Numerals.{add-one}
use mathlib.Core.Path.{◌≡◌, refl, ap, ◌∙◌, sym}
use mathlib.Core.List.{List, [], ◌∷◌}
use mathlib.Core.Bool.{Bool, true, false, not, cond}
use lib.ListN.{length, get_or, take, drop, drop_of_length-le, length-drop}
use lib.Seq.{drop-cons, get_or-take, get_or-drop, length-take-le}
use lib.Ieee.{Float, nan}
use Rattle.basics.specs.Loops.{keep, cons_if}
use Rattle.scratch.specs.Layout.{delta_at}
use Rattle.rules_plan.specs.Plan.{Plan, gives, picks, chosen}
use Rattle.rules_plan.specs.declared.Side.{Side}
use Rattle.rules_plan.specs.declared.Side.TheVariants.{Giving, Taking}
use Rattle.plan_state.specs.Held.{Area, area, plan_view, Nodes, nodes_of}
use Rattle.plan_state.proofs.Stores.{delta-at}
use Rattle.plan_state.proofs.Nodes.{nodes-length, node_at, node-below}

keep-count : {A : Type 0} (p : A → Bool) (x : A) (xs : List A) → length (keep p (x ∷ xs)) ≡ cond (p x) 1 0 + length (keep p xs)
unfolding keep
keep-count p x xs = go (p x) (keep p xs)
  where
    go : (t : Bool) (ys : List _) → length (cons_if t x ys) ≡ cond t 1 0 + length ys
    go true ys = omega arith
    go false ys = omega arith

keep_at : (p : ℕ → Bool) (xs : List ℕ) (i c : ℕ) → i < length xs → c + length (keep p (drop i xs)) ≡ cond (p (get_or xs i 0)) (c + 1) c + length (keep p (drop (i + 1) xs))
keep_at p xs i c h = rw (add-one i, drop-cons xs i 0 h, keep-count p (get_or xs i 0) (drop (suc i) xs)) (go (p (get_or xs i 0)) (length (keep p (drop (suc i) xs))))
  where
    go : (t : Bool) (m : ℕ) → c + (cond t 1 0 + m) ≡ cond t (c + 1) c + m
    go true m = omega arith
    go false m = omega arith

keep-stop : (p : ℕ → Bool) (xs : List ℕ) (i : ℕ) → length xs ≤ i → length (keep p (drop i xs)) ≡ 0
unfolding keep
keep-stop p xs i h = rw (drop_of_length-le xs h)

pub chosen-all : (xs : List ℕ) (s : Plan) → length (chosen Giving xs s) + length (chosen Taking xs s) ≡ length xs
unfolding chosen keep
chosen-all [] s = refl
chosen-all (x ∷ xs) s =
    go (gives (get_or s.delta x nan)) (keep (λ r. picks Giving (get_or s.delta r nan)) xs) (keep (λ r. picks Taking (get_or s.delta r nan)) xs) (chosen-all xs s)
  where
    go : (t : Bool) (ys zs : List ℕ) → length ys + length zs ≡ length xs → length (cons_if t x ys) + length (cons_if (not t) x zs) ≡ suc (length xs)
    go true ys zs h = omega arith
    go false ys zs h = omega arith

-- the `count` words from `first` on, as a slice
module _ (first count : ℕ) (w : List ℕ) where
  pub part-at : (i : ℕ) → i < count → get_or (take (first + count - first) (drop first w)) i 0 ≡ get_or w (first + i) 0
  part-at i l = get_or-take (first + count - first) (drop first w) i 0 (omega arith) ∙ get_or-drop first w i 0

  pub part-length : first + count ≤ length w → length (take (first + count - first) (drop first w)) ≡ count
  part-length h = let k : first + count - first ≡ count = omega arith in length-take-le (first + count - first) (drop first w) (omega (arith, length-drop first w)) ∙ k

module _ {n e first count : ℕ} {w : List ℕ} {f : List Float} (h : Nodes n e first count (area w f)) (i c : ℕ) where
  pub count_next : i < count → (c' : ℕ) → c' ≡ cond (picks Giving (get_or f (delta_at (get_or w (first + i) 0) e) nan)) (c + 1) c
      → c + length (keep (λ r. picks Giving (get_or (plan_view n e (area w f)).plan.delta r nan)) (drop i (nodes_of n e (plan_view n e (area w f)) first count)))
      ≡ c' + length (keep (λ r. picks Giving (get_or (plan_view n e (area w f)).plan.delta r nan)) (drop (i + 1) (nodes_of n e (plan_view n e (area w f)) first count)))
  count_next l c' ec =
      rw (ec, delta-at n e (get_or w (first + i) 0) w f (node-below h i l), node_at h i l)
      (keep_at (λ r. picks Giving (get_or (plan_view n e (area w f)).plan.delta r nan)) (nodes_of n e (plan_view n e (area w f)) first count) i c (rw (nodes-length h) l))

  pub count-end : count ≤ i
      → c + length (keep (λ r. picks Giving (get_or (plan_view n e (area w f)).plan.delta r nan)) (drop i (nodes_of n e (plan_view n e (area w f)) first count))) ≡ c
  count-end l =
      rw (keep-stop (λ r. picks Giving (get_or (plan_view n e (area w f)).plan.delta r nan)) (nodes_of n e (plan_view n e (area w f)) first count) i (rw (nodes-length h) l)) (omega arith)

-- what a test told, of the place that it read
pub picked_as : (side : Side) (f : List Float) (own at : ℕ) (t : Bool) {b : Bool} → own ≡ at → t ≡ picks side (get_or f own nan) → t ≡ b → picks side (get_or f at nan) ≡ b
picked_as side f own at t q h u = sym (h ∙ ap (λ (i : ℕ). picks side (get_or f i nan)) q) ∙ u

pub cond-le : (t : Bool) (c : ℕ) → cond t (c + 1) c ≤ c + 1
cond-le true c = omega arith
cond-le false c = omega arith

pub givers_le : {n e first count : ℕ} {a : Area} (g : ℕ) → Nodes n e first count a → g ≡ length (chosen Giving (nodes_of n e (plan_view n e a) first count) (plan_view n e a).plan) → g ≤ count
givers_le {n} {e} {first} {count} {a} g h eg = omega (arith, eg, chosen-all (nodes_of n e (plan_view n e a) first count) (plan_view n e a).plan, nodes-length h)
