-- The plan of what filling left is the whole board's. Assumes nothing.
use Prim.Native.Nat.{ℕ}
use mathlib.Core.Path.{◌≡◌, sym}
use Rattle.rules_board.specs.Board.{Board, turf_count, link_count}
use Rattle.rules_lent.specs.Lent.{Lent}
use Rattle.plan_all.proofs.Calls.{planned-filled}
use Rattle.fill_all.specs.Held.{FillsAll}
use Rattle.fill_all.specs.declared.Filling.{Filling}
use Rattle.fill_all.proofs.Words.{zones-are, owners-are}
use Rattle.rules_equalize.specs.Equalize.{Ask, filled_all}
use Rattle.plan_all.specs.Zones.{PlansAll}
use Rattle.stages.specs.Stages.{StagePlanned}

module _ (b : Board) (q : Ask) (l m : Lent) (s : Filling)
    (d : FillsAll (turf_count b) (link_count b) (filled_all b l.gas q) s l.words m.words l.floats m.floats l.area m.area) where
  abbrev n : ℕ
  n = turf_count b

  abbrev e : ℕ
  e = link_count b

  pub plan-comes : {l' : Lent} → l'.area ≡ m.area
      → PlansAll n e s.zones b l.gas m.words l'.words m.floats l'.floats → StagePlanned b q l.gas m l'
  plan-comes a r = record {
    plan = planned-filled b (filled_all b l.gas q) r (sym (owners-are d)) (zones-are d);
    reverses = r.reverses;
    words = r.words;
    floats = r.floats;
    area = a;
  }
