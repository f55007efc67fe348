-- The test of all turfs' neighbours, and what it asks of the links and of the stamps.
use Rattle.std.specs.Prelude.{List, Bool, ℕ, ◌≤◌, ◌<◌, length, get_or}
use Rattle.basics.specs.Loops.{every, up_from}
use Rattle.rules_board.specs.Board.{Board, turf_count, link_count}
use Rattle.rules_board.specs.Refuse.{row_fits}
use Rattle.turf_stamps.specs.Stamps.{AtMost}
use Rattle.turfs.specs.Tables.{Parts}

-- the neighbours of every turf: the last test of refusal 4
abbrev pub rows_fit : Board → Bool
rows_fit b = every (row_fits b) (up_from 0 (turf_count b))

-- links that lead to turfs, turf by turf: what the tests of refusal 4 before these leave
pub record LinksLead (b : Board) : Type 0 where
  pub parts : Parts (turf_count b) b.starts b.neighbours
  pub few : link_count b ≤ 24576
  pub ends : (k : ℕ) → k < link_count b → get_or b.neighbours k 0 < turf_count b

-- a stamp for each of n turfs at least, none made yet
pub record NoStamps (n : ℕ) (stamps : List ℕ) : Type 0 where
  pub few : length stamps ≤ 4096
  pub enough : n ≤ length stamps
  pub none : AtMost 0 stamps
