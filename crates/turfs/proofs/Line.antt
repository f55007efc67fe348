-- A queue that a turf joins once holds as many turfs as there are, at most. Assumes nothing.
use mathlib.Core.Path.{◌≡◌}
use mathlib.Core.List.{List}
use mathlib.Core.Bool.{false}
use Prim.Native.Nat.{ℕ, ◌≤◌, ◌<◌}
use lib.ListN.{length}
use Rattle.basics.specs.Loops.{member, snoc}
use Rattle.basics.specs.Lists.{All}
use Rattle.basics.proofs.Lists.{All-snoc, Apart, apart_snoc, not_member, pigeonhole}
use Rattle.rules_board.specs.Board.{Board, turf_count}
use Rattle.rules_board.specs.Worked as worked  -- checked before the laws

-- a queue of different turfs of the board
pub record Line (b : Board) (queue : List ℕ) : Type 0 where
  pub apart : Apart queue
  pub rows : All (λ x. x < turf_count b) queue

-- as many as there are turfs at most
pub line-short : (b : Board) (queue : List ℕ) → Line b queue → length queue ≤ turf_count b
line-short b queue l = pigeonhole (turf_count b) queue l.apart l.rows

pub line-snoc : (b : Board) (queue : List ℕ) (a : ℕ) → a < turf_count b → member a queue ≡ false → Line b queue → Line b (snoc queue a)
line-snoc b queue a i e l = record {
  apart = apart_snoc queue a l.apart (not_member a queue e);
  rows = All-snoc (λ x. x < turf_count b) queue a l.rows i;
}
