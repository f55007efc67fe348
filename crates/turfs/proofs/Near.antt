-- The neighbours of a turf are a part of the link list, from one start to the next. Assumes nothing.
use Prim.Native.Nat.{ℕ, ◌+◌, ◌-◌, ◌≤◌, ◌<◌}
use native.Mathlib.Omega.{arith}
use mathlib.Core.Path.{◌≡◌, ap, ◌∙◌, sym}
use mathlib.Core.List.{List}
use lib.ListN.{length, get_or, take, drop}
use Rattle.basics.proofs.Parts.{part_length, part_at}
use Rattle.rules_board.specs.Board.{Board, turf_count, link_count, end, degree}
use Rattle.turfs.specs.Tables.{Parts, Near}

-- the part from one start to the next
module _ {n : ℕ} {starts neighbours : List ℕ} (t : Parts n starts neighbours) {row : ℕ} (l : row < n) {from to : ℕ} (ef : from ≡ get_or starts row 0) (et : to ≡ get_or starts (row + 1) 0) where
  pub part-order : from ≤ to
  part-order = rw (ef, et) (t.rise row l)

  pub part_end : to ≤ length neighbours
  part_end = rw et (t.end row l)

pub part-near : {b : Board} {row from to : ℕ} → from ≡ get_or b.starts row 0 → to ≡ get_or b.starts (row + 1) 0 → Near b row from (take (to - from) (drop from b.neighbours))
part-near ef et = record { start = ef; part = rw (ef, et) }

-- what a loop over it is told
module _ {b : Board} (t : Parts (turf_count b) b.starts b.neighbours) {row : ℕ} (l : row < turf_count b) {from : ℕ} {near : List ℕ} (p : Near b row from near) where
  pub near-length : length near ≡ degree b row
  near-length = ap length p.part ∙ part_length b.neighbours (get_or b.starts row 0) (get_or b.starts (row + 1) 0) (t.rise row l) (t.end row l)

  -- it ends where the next turf's part starts
  pub near-to : from + length near ≡ get_or b.starts (row + 1) 0
  near-to = omega (arith, p.start, near-length, t.rise row l)

  pub near-inside : from + length near ≤ link_count b
  near-inside = omega (arith, near-to, t.end row l)

  pub near-end : (i : ℕ) → i < length near → get_or near i 0 ≡ end b (from + i)
  near-end i h =
      ap (λ (x : List ℕ). get_or x i 0) p.part ∙ part_at b.neighbours (get_or b.starts row 0) (get_or b.starts (row + 1) 0) i (omega (arith, near-length))
      ∙ ap (λ (x : ℕ). end b (x + i)) (sym p.start)
