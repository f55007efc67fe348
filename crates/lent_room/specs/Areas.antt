-- The areas that a call is lent: their room, and what clearing leaves.
use Rattle.std.specs.Prelude.{List, ◌++◌, ℕ, ◌+◌, ◌*◌, ◌≤◌, length, drop, replicate, Float}
use Rattle.rules_board.specs.Board.{Board, turf_count, link_count}
use Rattle.turfs.specs.Tables.{Small}
use Rattle.rules_lent.specs.Lent.{words_room, floats_room}
use Rattle.lent_room.specs.declared.Room.{Room}

-- the event bytes that a call may write over a board
abbrev pub room_of : Board → Room → ℕ
room_of b room = room.per_link * link_count b + room.per_turf * turf_count b

-- the first n cells hold z, the rest is as it was
abbrev pub cleared_first : {A : Type 0} → A → ℕ → List A → List A
cleared_first z n xs = replicate n z ++ drop n xs

-- the scratch is long enough for a board within its limits
pub record Roomy (b : Board) (ws : List ℕ) (fs : List Float) : Type 0 where
  pub small : Small b
  pub words : words_room b ≤ length ws
  pub floats : floats_room b ≤ length fs
