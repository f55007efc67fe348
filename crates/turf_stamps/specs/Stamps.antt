-- A stamp for each turf: the last row that named it, plus 1, or 0.
use Rattle.std.specs.Prelude.{List, ℕ, ◌≤◌, ◌<◌, length, get_or}

-- none is above m: so are stamps that rows below m left
abbrev pub AtMost : ℕ → List ℕ → Type 0
AtMost m stamps = (a : ℕ) → get_or stamps a 0 ≤ m

-- the neighbours `near` of the turf at `row` can be stamped: the turf and each of them has a stamp, and only rows before this one left theirs
pub record StampFits (row : ℕ) (near stamps : List ℕ) : Type 0 where
  pub few : length stamps ≤ 4096
  pub turf : row < length stamps
  pub ends : (i : ℕ) → i < length near → get_or near i 0 < length stamps
  pub old : AtMost row stamps
