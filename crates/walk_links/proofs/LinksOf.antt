-- The neighbours of a turf are a part of the link list, from one start to the next; whether they are walked is a test of the turf. Assumes nothing.
use Prim.Native.Nat.{ℕ, suc, ◌+◌, ◌-◌, ◌≤◌, ◌<◌}
use native.Mathlib.Omega.{arith}
use native.Mathlib.Nat.{add-zero, sub-zero}
use mathlib.Core.Path.{◌≡◌, refl, ap, ap₂, ◌∙◌}
use mathlib.Core.List.{List}
use mathlib.Core.Bool.{true, false}
use lib.ListN.{length, get_or}
use borrow.Author.Tests.{le-leb, lt-leb}
use Rattle.basics.specs.Loops.{run, up_from}
use Rattle.rules_board.specs.Board.{Board, turf_count, any_bit, enabled, links_of}
use Rattle.turfs.specs.Tables.{Near}
use Rattle.turfs.proofs.Near.{near-length, near-inside, near-end}
use Rattle.rules_events.specs.declared.Event.{Event}
use Rattle.rules_walk.specs.Walk.{Walk, walk_link, spread}
use Rattle.walk_links.specs.Reached.{WalkState, walk_of, Ground, Leads}
use Rattle.rules_walk.specs.Worked as worked  -- checked before the laws

pub walked-is : (n : ℕ) (a : WalkState) (es : List Event) → (walk_of n a es).walked ≡ a.reach.walked
unfolding walk_of
walked-is n a es = refl

module _ (b : Board) (limit row : ℕ) (v : Walk) where
  pub spread-disabled : false ≡ any_bit (get_or b.flags row 0) → v ≡ spread b limit row v
  unfolding spread run enabled
  spread-disabled t = rw (← t)

  pub spread-late : true ≡ any_bit (get_or b.flags row 0) → limit < v.walked → v ≡ spread b limit row v
  unfolding spread run enabled
  spread-late t h = rw (← t, lt-leb v.walked limit h)

  pub spread-on : true ≡ any_bit (get_or b.flags row 0) → v.walked ≤ limit → run (walk_link b row) (links_of b row) v ≡ spread b limit row v
  unfolding spread enabled
  spread-on t h = rw (← t, le-leb v.walked limit h)

-- ---- the neighbours of a turf, a part of the link list

-- a step of a loop over a part that starts at `from`: its link number i is number `from + i` of the list
module _ {S : Type 0} (f : ℕ → S → S) (from i e : ℕ) (s : S) where
  pub near_next : i < e → run f (up_from (from + i) (e - i)) s ≡ run f (up_from (from + (i + 1)) (e - (i + 1))) (f (from + i) s)
  unfolding run up_from
  near_next h =
      let k : e - i ≡ suc (e - (i + 1)) = omega arith in
      let j : suc (from + i) ≡ from + (i + 1) = omega arith in
      ap (λ (n : ℕ). run f (up_from (from + i) n) s) k ∙ ap (λ (m : ℕ). run f (up_from m (e - (i + 1))) (f (from + i) s)) j

  pub near_none : e ≤ i → run f (up_from (from + i) (e - i)) s ≡ s
  unfolding run up_from
  near_none h = let k : e - i ≡ 0 = omega arith in ap (λ (n : ℕ). run f (up_from (from + i) n) s) k

-- the turf at the end of a link
pub leads-below : {b : Board} {k a : ℕ} → Ground b → Leads b k a → a < turf_count b
leads-below g l = rw l.end (g.neighbour _ l.inside)

-- what a loop over them is told
module _ (b : Board) (row from : ℕ) (near : List ℕ) (g : Ground b) (r : row < turf_count b) (p : Near b row from near) where
  pub near-run : {S : Type 0} (h : ℕ → S → S) (s : S) → run h (up_from (from + 0) (length near - 0)) s ≡ run h (links_of b row) s
  unfolding links_of
  near-run h s = ap₂ (λ (j m : ℕ). run h (up_from j m) s) (add-zero from ∙ p.start) (sub-zero (length near) ∙ near-length g.parts r p)

  pub near-leads : (i : ℕ) → i < length near → Leads b (from + i) (get_or near i 0)
  near-leads i h = record { inside = omega (arith, near-inside g.parts r p); end = near-end g.parts r p i h }
