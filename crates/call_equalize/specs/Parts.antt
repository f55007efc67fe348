-- What the parts of a call rely on and promise, on the way to its answer.
use Rattle.std.specs.Prelude.{◌≡◌, true, false, ℕ, ◌≤◌, T, length, drop}
use Rattle.rules_board.specs.Board.{Board, turf_count, link_count}
use Rattle.rules_board.specs.Refuse.{links_fit}
use Rattle.turfs.specs.Tables.{Accepted}
use Rattle.events.specs.Area.{HoldsEvents}
use Rattle.rules_lent.specs.Lent.{Lent, words_room, floats_room}
use Rattle.fill_all.specs.Held.{FillsAll}
use Rattle.fill_all.specs.declared.Filling.{Filling}
use Rattle.rules_equalize.specs.Equalize.{Ask, Equalized, filled_all, bit}
use Rattle.rules_equalize.specs.Result.{equalize_room}
use Rattle.call_equalize.specs.declared.Counts.{Counts}

-- cancelled: nothing is kept, and no zone is counted
abbrev pub cancelled_at : ℕ → ℕ → ℕ → Counts
cancelled_at processed tests used = record { cancelled = true; processed = processed; tests = tests; zones = 0; apart = false; used = used }

-- what was lent, l₀, was filled as q asks, and stands as l
pub record CallFills (b : Board) (q : Ask) (s : Filling) (l₀ l : Lent) : Type 0 where
  pub gas : l.gas ≡ l₀.gas
  pub fills : FillsAll (turf_count b) (link_count b) (filled_all b l₀.gas q) s l₀.words l.words l₀.floats l.floats l₀.area l.area

-- accepted tables with room for all, which were filled
pub record CallFilled (b : Board) (s : Filling) (l : Lent) : Type 0 where
  pub board : Accepted b (length l.gas)
  pub links : T (links_fit b)
  pub area : equalize_room b ≤ length l.area
  pub words : words_room b ≤ length l.words
  pub floats : floats_room b ≤ length l.floats
  pub asked : Ask
  pub lent : Lent
  pub fills : CallFills b asked s lent l

-- From what was lent, l₀, the definition comes to o: this is the answer, and l what is left before the scratch is cleared.
pub record Comes (b : Board) (o : Equalized) (r : Counts) (l₀ l : Lent) : Type 0 where
  pub cancelled : bit r.cancelled ≡ o.cancelled
  pub processed : r.processed ≡ o.processed
  pub tests : r.tests ≡ o.tests
  pub zones : r.zones ≡ o.zones
  pub apart : bit r.apart ≡ o.apart
  pub gas : l.gas ≡ o.gas
  pub events : HoldsEvents o.events r.used l₀.area l.area
  pub words : drop (words_room b) l.words ≡ drop (words_room b) l₀.words
  pub floats : drop (floats_room b) l.floats ≡ drop (floats_room b) l₀.floats
