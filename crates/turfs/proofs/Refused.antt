-- The tests of the refusals in loops that stop at the first failure, or go on to the end. Assumes nothing.
use Prim.Native.Nat.{ℕ, suc, ◌+◌, ◌≤◌, ◌<◌}
use native.Mathlib.Omega.{arith}
use native.Mathlib.Numerals.{add-one}
use mathlib.Core.Path.{◌≡◌, refl, ◌∙◌, sym}
use mathlib.Core.List.{List, [], ◌∷◌}
use mathlib.Core.Bool.{Bool, true, false, not, ◌&&◌}
use lib.ListN.{length, get_or, drop, replicate, length-drop, length-replicate}
use lib.Seq.{drop-cons}
use Rattle.basics.specs.Loops.{member}
use Rattle.basics.proofs.Lists.{replicate-at}
use Rattle.rules_board.specs.Board.{Board, turf_count}
use Rattle.rules_board.specs.Refuse.{pairwise, distinct, row_fits}
use Rattle.turf_stamps.specs.Stamps.{AtMost, StampFits}
use Rattle.turfs.specs.Tables.{Near}
use Rattle.turfs.specs.Links.{LinksLead, NoStamps}
use Rattle.turfs.proofs.Near.{near-end, near-inside}

two : (l : List ℕ) (i : ℕ) → i + 1 < length l → drop i l ≡ get_or l i 0 ∷ get_or l (i + 1) 0 ∷ drop (suc (i + 1)) l
two l i h =
    let a : i < length l = omega arith in
    drop-cons l i 0 a ∙ rw (← add-one i, drop-cons l (i + 1) 0 h)

-- a turf's neighbours: their test is the turf's, and they can be stamped for it
module _ (b : Board) (row : ℕ) {from : ℕ} {near : List ℕ} (p : Near b row from near) where
  pub near-test : (t : Bool) → t ≡ (not (member row near) && distinct near) → row_fits b row ≡ t
  unfolding row_fits
  near-test t e = rw (← p.part) (sym e)

-- a table as it is made
pub no-stamps : (n k : ℕ) → n ≤ k → k ≤ 4096 → NoStamps n (replicate k 0)
no-stamps n k enough few = record {
  few = rw (length-replicate {A = ℕ} k 0) few;
  enough = rw (length-replicate {A = ℕ} k 0) enough;
  none = λ a. let z : ◌≡◌ {A = ℕ} (get_or (replicate k 0) a 0) 0 = replicate-at k a 0 in omega (arith, z);
}
