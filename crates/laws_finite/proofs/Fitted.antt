-- Every weight that planning stores is an f32: it is a sum, a difference or 0.0. Assumes nothing.
use mathlib.Core.List.{List}
use Prim.Native.Nat.{ℕ}
use lib.ListN.{length, get_or}
use lib.Ieee.{Float, nan, binary32}
use lib.Ieee.Fits.{add-fits, sub-fits}
use Rattle.basics.specs.Loops.{up_from}
use Rattle.basics.specs.Floats.{0f}
use Rattle.std.specs.Prelude.{Option, Some, None}
use Rattle.basics.specs.Lists.{All}
use Rattle.basics.proofs.Loops.{All-any, run-keeps}
use Rattle.rules_board.specs.Board.{Board, link_count}
use Rattle.rules_plan.specs.Edges.{alter}
use Rattle.rules_plan.specs.Plan.{Plan, planned_zone}
use Rattle.rules_equalize.specs.Equalize.{Filled, planned_all}
use Rattle.laws_plan.proofs.Sizes.{plan-keep}
use Rattle.laws_finite.proofs.EachKind.{Fit, zero-fit}
use Rattle.laws_finite.proofs.Lists.{All-set, replicate-all}

alter-fit : (o : Option ℕ) (f : Float → Float) (w : List Float) → ((y : Float) → Fit (f y)) → All Fit w → All Fit (alter o f w)
alter-fit (Some k) f w g a = All-set Fit w k (f (get_or w k nan)) (λ l. g (get_or w k nan)) a
alter-fit None f w g a = a

plan-fit : (b : Board) (owner : List ℕ) (z : ℕ) (gas : List Float) (nodes : List ℕ) (moles : Float) (s : Plan) → All Fit s.weight → All Fit (planned_zone b owner z gas nodes moles s).weight
plan-fit = plan-keep (All Fit) (λ o x w h. alter-fit o _ w (λ y. add-fits binary32 y x) h) (λ o x w h. alter-fit o _ w (λ y. sub-fits binary32 y x) h)

pub plan-all_fit : (b : Board) (gas : List Float) (s : Filled) → All Fit (planned_all b gas s).weight
unfolding planned_all
plan-all_fit b gas s =
    run-keeps (λ z. Unit {0}) (λ p. All Fit p.weight) _ (λ z p u i. plan-fit b s.owner z gas _ _ p i) (up_from 0 (length s.zones)) _ (All-any _ (λ z. tt) (up_from 0 (length s.zones)))
    (replicate-all Fit (link_count b) 0f zero-fit)
