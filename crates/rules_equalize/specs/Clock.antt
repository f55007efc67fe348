-- The clock tests of a call: one for each turf that filling pops, and two more before planning.
use Rattle.std.specs.Prelude.{◌≡◌, ◌⊎◌, List, [], ◌∷◌, ◌++◌, ℕ, ◌+◌, ◌≤◌, length, Float, if◌then◌else◌, Option, Some, None}
use Rattle.rules_board.specs.Board.{Board, row_of}
use Rattle.rules_fill.specs.Fill.{Fill, fill}
use Rattle.rules_equalize.specs.Equalize.{Ask, Filled, Equalized, start_filled, passed_over, hot_id}

-- the turfs that all_fills popped
unfoldable pub pops_of : List Fill → ℕ
pops_of [] = 0
pops_of (t ∷ ts) = t.popped + pops_of ts

module _ (b : Board) (gas : List Float) (q : Ask) where
  -- the fill that a hot turf starts
  abbrev pub fill_of : ℕ → Filled → Fill
  fill_of r s = fill b gas q.limit q.allowance (length s.zones) r s.found s.owner s.events s.tests

  -- the fill of a row, unless it is passed over
  unfoldable pub fill_at : Option ℕ → Filled → List Fill
  fill_at None s = []
  fill_at (Some r) s = if passed_over b gas q r s.found then [] else fill_of r s ∷ []

  -- every fill of the call, in order, those of ignored zones too
  unfoldable pub all_fills : List ℕ → Filled → List Fill
  all_fills [] s = []
  all_fills (i ∷ is) s = (if s.cancelled then [] else fill_at (row_of b i) s) ++ all_fills is (hot_id b gas q i s)

  -- the turfs popped by the call
  abbrev pub pops : ℕ
  pops = pops_of (all_fills q.hot (start_filled b))

  -- how many tests a run makes: all within the allowance, or the last of them the first that exceeds it
  pub record Timed (e : Equalized) : Type 0 where
    pub done : e.cancelled ≡ 0 → (e.tests ≡ pops + 2) × (e.tests ≤ q.allowance)
    pub over : e.cancelled ≡ 1 → (e.tests ≡ q.allowance + 1) × ((e.tests ≡ pops) ⊎ ((e.tests ≡ pops + 1) ⊎ (e.tests ≡ pops + 2)))
