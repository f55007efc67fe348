-- What planning keeps of the weights: it stores sums and differences at their places, and no other. Assumes nothing.
use mathlib.Core.Path.{◌≡◌, refl, ◌∙◌}
use mathlib.Core.List.{List}
use mathlib.Core.Bool.{not, ◌&&◌, ◌||◌}
use Prim.Native.Nat.{ℕ, ◌-◌}
use lib.Dec.{eqb, ltb}
use lib.ListN.{length, get_or, length-set}
use lib.Ieee.{Float, nan, ne}
use Rattle.basics.specs.Loops.{run, member}
use Rattle.basics.specs.Floats.{0f, ◌+f◌, ◌-f◌, ◌/f◌}
use Rattle.std.specs.Prelude.{Option, Some, None}
use Rattle.basics.proofs.Loops.{All-any, run-keeps, times-keeps, cond_both}
use Rattle.rules_board.specs.Board.{Board, turf_count, end}
use Rattle.rules_plan.specs.Edges.{alter, adjust, edge, edges_of}
use Rattle.rules_plan.specs.Plan.{Plan, load, count_of, log2, chosen, Seek, stopped, trade, meet, seek_to, fast_move, fast_turf, seek_link, seek_row, seek_next, drain_to, drain, serve, fast_pass, share_out, deltas, planned_zone}
use Rattle.rules_plan.specs.declared.Side.{Side}
use Rattle.rules_plan.specs.declared.Side.TheVariants.{Giving, Taking}
use Rattle.rules_plan.specs.Worked as worked  -- checked before the laws

pub alter-size : (o : Option ℕ) (f : Float → Float) (w : List Float) → length (alter o f w) ≡ length w
alter-size (Some k) f w = length-set w k (f (get_or w k nan))
alter-size None f w = refl

-- planning alters a weight by a sum or a difference, so it keeps what these keep of the weights
module _ (Q : List Float → Type 0) (gains : (o : Option ℕ) (x : Float) (w : List Float) → Q w → Q (alter o (λ y. y +f x) w))
    (loses : (o : Option ℕ) (x : Float) (w : List Float) → Q w → Q (alter o (λ y. y -f x) w)) (b : Board) (owner : List ℕ) (z : ℕ) where
  abbrev Keeps : Plan → Type 0
  Keeps s = Q s.weight

  run-keep : {A : Type 0} (f : A → Plan → Plan) → ((x : A) (s : Plan) → Keeps s → Keeps (f x s)) → (xs : List A) (s : Plan) → Keeps s → Keeps (run f xs s)
  run-keep f h xs s q = run-keeps (λ x. Unit {0}) Keeps f (λ x t u i. h x t i) xs s (All-any _ (λ x. tt) xs) q

  adjust-keep : (r a : ℕ) (x : Float) (w : List Float) → Q w → Q (adjust b owner z r a x w)
  unfolding adjust
  adjust-keep r a x w h = loses (edge b owner z a r) x (alter (edge b owner z r a) (λ y. y +f x) w) (gains (edge b owner z r a) x w h)

  move_keep : (r : ℕ) (x : Float) (a : ℕ) (s : Plan) → Keeps s → Keeps (fast_move b owner z r x a s)
  unfolding fast_move
  move_keep r x a s q = adjust-keep r a x s.weight q

  fast-keep : (r : ℕ) (s : Plan) → Keeps s → Keeps (fast_turf b owner z r s)
  unfolding fast_turf
  fast-keep r s q = run-keep _ (λ k t i. move_keep r _ (end b k) t i) _ _ q

  -- a search stores in the planning state alone
  abbrev SeekKeeps : Seek → Type 0
  SeekKeeps s = Keeps s.plan

  link-keep : (side : Side) (g r k : ℕ) (s : Seek) → SeekKeeps s → SeekKeeps (seek_link b owner z side g r k s)
  unfolding seek_link seek_to meet trade
  link-keep side g r k s q = cond_both SeekKeeps (stopped side g s || member (end b k) s.queue) s _ q q

  row_keep : (side : Side) (g r : ℕ) (s : Seek) → SeekKeeps s → SeekKeeps (seek_row b owner z side g r s)
  unfolding seek_row
  row_keep side g r s q =
      run-keeps (λ k. Unit {0}) SeekKeeps (seek_link b owner z side g r) (λ k t u i. link-keep side g r k t i) (edges_of b owner z r) s (All-any _ (λ k. tt) (edges_of b owner z r)) q

  next-keep : (side : Side) (g : ℕ) (s : Seek) → SeekKeeps s → SeekKeeps (seek_next b owner z side g s)
  unfolding seek_next
  next-keep side g s q =
      let r = get_or s.queue s.looked 0 in
      cond_both SeekKeeps (ltb s.looked (length s.queue) && not (stopped side g s)) (seek_row b owner z side g r s) s (row_keep side g r s q) q

  drain-keep : (r : ℕ) (s : Plan) → Keeps s → Keeps (drain b owner z r s)
  unfolding drain drain_to
  drain-keep r s q = cond_both Keeps (ne (load s r).amount 0f && not (eqb (load s r).direction 0)) _ s (adjust-keep r ((load s r).direction - 1) (load s r).amount s.weight q) q

  serve-keep : (side : Side) (g : ℕ) (s : Plan) → Keeps s → Keeps (serve b owner z side g s)
  unfolding serve
  serve-keep side g s q = run-keep (drain b owner z) drain-keep _ _ (times-keeps SeekKeeps (seek_next b owner z side g) (next-keep side g) (turf_count b) _ q)

  pass-keep : (nodes : List ℕ) (s : Plan) → Keeps s → Keeps (fast_pass b owner z nodes s)
  unfolding fast_pass
  pass-keep nodes s q =
      let k = log2 (length nodes) in
      cond_both Keeps (ltb k (length (chosen Giving nodes s)) && ltb k (length (chosen Taking nodes s))) (run (fast_turf b owner z) nodes s) s
      (run-keep (fast_turf b owner z) fast-keep nodes s q) q

  pub plan-keep : (gas : List Float) (nodes : List ℕ) (moles : Float) (s : Plan) → Keeps s → Keeps (planned_zone b owner z gas nodes moles s)
  unfolding planned_zone share_out deltas
  plan-keep gas nodes moles s q =
      run-keep (serve b owner z _) (λ g t i. serve-keep _ g t i) _ _
      (pass-keep nodes (deltas b owner z gas nodes (moles /f count_of nodes) s) (run-keep _ (λ r t i. i) nodes s q))

-- it keeps how many weights there are
pub plan-sized : (b : Board) (owner : List ℕ) (z n : ℕ) (gas : List Float) (nodes : List ℕ) (moles : Float) (s : Plan) → length s.weight ≡ n → length (planned_zone b owner z gas nodes moles s).weight ≡ n
plan-sized b owner z n = plan-keep (λ w. length w ≡ n) (λ o x w h. alter-size o _ w ∙ h) (λ o x w h. alter-size o _ w ∙ h) b owner z
