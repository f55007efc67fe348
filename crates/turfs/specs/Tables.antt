-- The board that a call is lent, table by table, and what the refusals 1 to 4 leave of it.
use Rattle.std.specs.Prelude.{List, [], ◌≡◌, true, ℕ, ◌+◌, ◌*◌, ◌≤◌, ◌<◌, T, leb, length, get_or, drop}
use Rattle.std.specs.Borrow.{Bor}
use Rattle.turfs.specs.declared.LentTables.{LentTables}
use Rattle.basics.specs.Loops.{every, up_from}
use Rattle.basics.specs.Lists.{count}
use Rattle.rules_board.specs.Board.{Board, turf_count, link_count, mixture_count, mix_of, end, neighbours_of, board}
use Rattle.rules_board.specs.Refuse.{ascending, rising, row_fits}

-- ---- the tables as they travel

-- the board that they are
abbrev pub board_of : LentTables → ℕ → Board
board_of t gases = board t.ids.now t.flags.now t.planetary.now t.mixtures.now t.starts.now t.neighbours.now t.link_flags.now t.immutable.now gases

-- the same of a reference to them, as contracts have it
abbrev pub board_at : Bor LentTables → ℕ → Board
board_at tables gases = board_of tables.now gases

-- ---- what the refusals leave

-- n turfs' links are parts of the link list, one after the other
pub record Parts (n : ℕ) (starts neighbours : List ℕ) : Type 0 where
  pub rows : n ≤ 4096
  pub count : length starts ≡ n + 1
  pub rise : (r : ℕ) → r < n → get_or starts r 0 ≤ get_or starts (r + 1) 0
  pub end : (r : ℕ) → r < n → get_or starts (r + 1) 0 ≤ length neighbours

-- the neighbours of the turf at `row` are `near`, the part of the link list that starts at the link `from`
pub record Near (b : Board) (row from : ℕ) (near : List ℕ) : Type 0 where
  pub start : from ≡ get_or b.starts row 0
  pub part : near ≡ neighbours_of b row

-- the counts are within their limits, which keeps every sum of them small
pub record Small (b : Board) : Type 0 where
  pub turfs : turf_count b ≤ 4096
  pub links : link_count b ≤ 24576
  pub mixtures : mixture_count b ≤ 4096

-- sizes that refusal 1 lets pass
pub record BoardSizes (b : Board) : Type 0 where
  pub small : Small b
  pub some : 1 ≤ turf_count b
  pub gas : 1 ≤ b.gases
  pub gases : b.gases ≤ 64

-- tables that the refusals 1 to 4 let pass
pub record Tables (b : Board) : Type 0 where
  pub sizes : BoardSizes b
  pub flags : length b.flags ≡ turf_count b
  pub planetary : length b.planetary ≡ turf_count b
  pub mixtures : length b.mixtures ≡ turf_count b
  pub link_flags : length b.link_flags ≡ link_count b
  pub ascend : ascending b.ids ≡ true
  pub parts : Parts (turf_count b) b.starts b.neighbours
  pub neighbour : (k : ℕ) → k < link_count b → get_or b.neighbours k 0 < turf_count b
  pub mixture : (r : ℕ) → r < turf_count b → get_or b.mixtures r 0 < mixture_count b
  pub apart : (r : ℕ) → r < turf_count b → row_fits b r ≡ true  -- no turf is its own neighbour, or has one twice

-- the tables that 1 to 4 let pass, with `amounts` amounts
pub record Accepted (b : Board) (amounts : ℕ) : Type 0 where
  pub turfs : (1 ≤ turf_count b) × (turf_count b ≤ 4096)
  pub mixtures : (1 ≤ mixture_count b) × (mixture_count b ≤ 4096)
  pub links : link_count b ≤ 24576
  pub gases : (1 ≤ b.gases) × (b.gases ≤ 64)
  pub flags : length b.flags ≡ turf_count b
  pub planets : length b.planetary ≡ turf_count b
  pub mixes : length b.mixtures ≡ turf_count b
  pub starts : length b.starts ≡ turf_count b + 1
  pub link_flags : length b.link_flags ≡ link_count b
  pub fits : amounts ≡ mixture_count b * b.gases
  pub ascends : T (ascending b.ids)
  pub rises : T (rising b.starts)
  pub first : get_or b.starts 0 0 ≡ 0
  pub last : get_or b.starts (turf_count b) 0 ≡ link_count b
  pub ends : (k : ℕ) → end b k < turf_count b
  pub mixed : (r : ℕ) → mix_of b r < mixture_count b
  pub rows : T (every (row_fits b) (up_from 0 (turf_count b)))

-- the turf of a link: how many turfs end at or before it
unfoldable pub source : List ℕ → ℕ → ℕ
source starts k = count (λ s. leb s k) (drop 1 starts)
