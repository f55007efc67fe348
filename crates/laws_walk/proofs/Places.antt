-- Which place each walk is at: a visit of the first walk counts none on, a turf of the order outward counts one. Assumes nothing.
use mathlib.Core.Path.{◌≡◌, refl, ◌∙◌}
use mathlib.Core.List.{[]}
use mathlib.Core.Bool.{true, not, ◌||◌, cond}
use Prim.Native.Nat.{ℕ, ◌+◌}
use lib.Dec.{leb}
use Rattle.basics.specs.Loops.{member}
use Rattle.basics.proofs.Loops.{All-any, run-keeps, cond_both}
use Rattle.rules_board.specs.Board.{Board, end, planetary, immutable, links_of}
use Rattle.rules_walk.specs.Walk.{Walk, mark, spread}
use Rattle.rules_walk.specs.Visit.{visit_planet, at_space, visit_space, visit}
use Rattle.rules_walk.specs.declared.Kind.{Kind}
use Rattle.rules_walk.specs.declared.Kind.TheVariants.{Planet, Space}
use Rattle.rules_out.specs.Out.{Out, out_to, out_link, out_row}
use Rattle.laws_walk.proofs.Walks.{spread-walked}

-- ---- the first walk

module _ (b : Board) (limit row : ℕ) where
  planet-walked : (s : Walk) → (visit_planet b limit row s).walked ≡ s.walked
  unfolding visit_planet
  planet-walked s =
      let met = s.planet || planetary b row in
      cond_both (λ t. t.walked ≡ s.walked) (immutable b row) (mark met true s) (spread b limit row (mark met (not met) s)) refl (spread-walked b limit row (mark met (not met) s))

  space-walked : (s : Walk) → (visit_space b limit row s).walked ≡ s.walked
  unfolding visit_space at_space
  space-walked s =
      cond_both (λ t. t.walked ≡ s.walked) (planetary b row) (mark true true s) (cond (immutable b row) (at_space b row s) (spread b limit row s)) refl
      (cond_both (λ t. t.walked ≡ s.walked) (immutable b row) (at_space b row s) (spread b limit row s) refl (spread-walked b limit row s))

  pub visit-walked : (kind : Kind) (s : Walk) → (visit b kind limit row s).walked ≡ s.walked
  visit-walked Planet s = planet-walked s
  visit-walked Space s = space-walked s

-- ---- the order outward

abbrev here : Out → Out
here s = record { order = s.order; place = s.place + 1; direction = s.direction; target = s.target; events = s.events }

module _ (b : Board) where
  pub link-place : (r k : ℕ) (s : Out) → (out_link b r k s).place ≡ s.place
  unfolding out_link out_to
  link-place r k s = cond_both (λ t. t.place ≡ s.place) (immutable b (end b k) || member (end b k) s.order) s _ refl refl

  pub row-place : (limit r : ℕ) (s : Out) → (out_row b limit r s).place ≡ s.place + 1
  unfolding out_row
  row-place limit r s = run-keeps (λ k. Unit {0}) (λ t. t.place ≡ s.place + 1) (out_link b r) (λ k t u i. link-place r k t ∙ i) _ (here s) (All-any _ (λ k. tt) (cond (leb (s.place + 1) limit) (links_of b r) [])) refl
