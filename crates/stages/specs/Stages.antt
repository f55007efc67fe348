-- What each part of equalize answers and leaves when it runs on its own: a refusal leaves everything as it was, else the part's own promise holds.
use Rattle.std.specs.Prelude.{◌≡◌, List, [], ◌∷◌, true, false, ℕ, ◌≤◌, length, drop, Float, Result, Ok, Err}
use Rattle.rules_board.specs.Board.{Board, turf_count, link_count}
use Rattle.rules_lent.specs.Lent.{Lent}
use Rattle.lent.specs.declared.Refusal.{Refusal}
use Rattle.reverse_links.specs.Reverse.{Reverses}
use Rattle.reverse_links.specs.Words.{But}
use Rattle.scratch.specs.Layout.{found_at, lifted_at}
use Rattle.scratch.specs.View.{reverse_in}
use Rattle.plan_state.specs.Held.{area, plan_view}
use Rattle.rules_equalize.specs.Equalize.{Ask, filled_all, planned_all, bit}
use Rattle.rules_equalize.specs.Result.{equalize_number}
use Rattle.fill_all.specs.Held.{start, FillsAll}
use Rattle.fill_all.specs.declared.Filling.{Filling}

-- what filling came to: nothing where it was refused
abbrev pub filling_of : Result Filling Refusal → Filling
filling_of (Ok s) = s
filling_of (Err r) = start

-- filling alone, with equalize's refusals for no turns
pub record StageFills (b : Board) (q : Ask) (l l' : Lent) (number : ℕ) (s : Filling) : Type 0 where
  pub refusal : number ≡ equalize_number b q [] l
  pub refused : (number ≡ 0 → ⊥) → (s ≡ start) × (l' ≡ l)
  pub done : number ≡ 0 → FillsAll (turf_count b) (link_count b) (filled_all b l.gas q) s l.words l'.words l.floats l'.floats l.area l'.area

-- counts as small as an answer's numbers are
pub record Few (s : Filling) : Type 0 where
  pub zones : s.zones ≤ 4096
  pub nodes : s.nodes ≤ 28672
  pub tests : s.tests ≤ 4096
  pub used : s.used ≤ 65536

-- number, cancelled, zones, nodes, tests, bytes
abbrev pub fill_numbers : ℕ → Filling → List ℕ
fill_numbers number s = number ∷ bit s.cancelled ∷ s.zones ∷ s.nodes ∷ s.tests ∷ s.used ∷ []

-- what was returned and written into the answer
pub record FillAnswers (b : Board) (q : Ask) (l l' : Lent) (number : ℕ) (answer : List ℕ) : Type 0 where
  pub filling : Filling
  pub fills : StageFills b q l l' number filling
  pub written : answer ≡ fill_numbers number filling

-- ---- planning

-- What filling left in m is planned: weights and planning state are the definition's, the reverses stand beside the owners, and all else is as filling left it
-- but the words that planning works with.
pub record StagePlanned (b : Board) (q : Ask) (gas : List Float) (m l' : Lent) : Type 0 where
  pub plan : (plan_view (turf_count b) (link_count b) (area l'.words l'.floats)).plan ≡ planned_all b gas (filled_all b gas q)
  pub reverses : Reverses b (turf_count b) (reverse_in (link_count b) l'.words)
  pub words : But (link_count b) (found_at (turf_count b) (link_count b)) m.words l'.words
  pub floats : (length l'.floats ≡ length m.floats) × (drop (lifted_at (turf_count b) (link_count b)) l'.floats ≡ drop (lifted_at (turf_count b) (link_count b)) m.floats)
  pub area : l'.area ≡ m.area

-- filling alone comes to `left`; nothing is planned where it is refused or its clock ran out
pub record StagePlans (b : Board) (q : Ask) (l l' : Lent) (number : ℕ) (s : Filling) : Type 0 where
  pub left : Lent
  pub fills : StageFills b q l left number s
  pub refused : (number ≡ 0 → ⊥) → l' ≡ left
  pub cancelled : s.cancelled ≡ true → l' ≡ left
  pub planned : number ≡ 0 → s.cancelled ≡ false → StagePlanned b q l.gas left l'

-- what was returned and written into the answer
pub record PlanAnswers (b : Board) (q : Ask) (l l' : Lent) (number : ℕ) (answer : List ℕ) : Type 0 where
  pub filling : Filling
  pub plans : StagePlans b q l l' number filling
  pub written : answer ≡ fill_numbers number filling
