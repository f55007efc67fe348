-- Finishing as the code does it: the lifted weights stand in a second slice that all turfs share. proofs/Slices says that it comes to what `finish` says.
use Rattle.std.specs.Prelude.{List, Bool, not, cond, ℕ, zero, suc, get_or, set, Float}
use Rattle.std.specs.Float.{nan}
use Rattle.std.specs.Float.Ieee.{lt}
use Rattle.basics.specs.Loops.{run, every, up_from}
use Rattle.basics.specs.Lists.{count}
use Rattle.basics.specs.Floats.{0f}
use Rattle.rules_board.specs.Board.{Board, turf_count, end}
use Rattle.rules_mixture.specs.Mixture.{total}
use Rattle.rules_plan.specs.Edges.{edges_of}
use Rattle.rules_finish.specs.Finish.{Done, zero_lifted, send}
use Rattle.rules_finish.specs.Worked as worked  -- checked before what builds on it

-- above 0
abbrev pub above : Float → Bool
above x = lt 0f x

-- the weights above 0
unfoldable pub pending : List Float → ℕ
pending w = count above w

-- what finishing changes, and the lifted weights, by link
pub record Held : Type 0 where
  pub done : Done
  pub lifted : List Float

-- the weights of the places ks copied into the second slice
unfoldable pub save : List ℕ → List Float → List Float → List Float
save ks w l = run (λ k v. set v k (get_or w k nan)) ks l

module _ (b : Board) (owner : List ℕ) (z : ℕ) where
  -- none of the turf's edges has a positive weight
  unfoldable pub quiet : ℕ → List Float → Bool
  quiet r w = every (λ k. not (above (get_or w k nan))) (edges_of b owner z r)

  -- the zone's unfinished nodes: the turfs that have an edge with a positive weight
  unfoldable pub unfinished_nodes : List Float → ℕ
  unfinished_nodes w = count (λ r. not (quiet r w)) (up_from 0 (turf_count b))

  -- the turf's weights lifted: 0 is left
  abbrev pub cleared : ℕ → Done → Done
  cleared r s = record { gas = s.gas; weight = zero_lifted (edges_of b owner z r) s.weight; events = s.events }

  -- `finalize_eq_neighbors`: finish the neighbours whose lifted weight is negative
  unfoldable pub givers_held : (ℕ → Held → Held) → ℕ → Held → Held
  givers_held f r h = run (λ j g. cond (lt (get_or g.lifted j nan) 0f) (f (end b j) g) g) (edges_of b owner z r) h

  -- the rest of the work on the edge k, whose lifted weight is x
  abbrev pub send_held : ℕ → ℕ → Float → Held → Held
  send_held r k x g = record { done = send b owner z r (record { to = end b k; amount = x }) g.done; lifted = g.lifted }

  -- one edge of the turf r: a positive lifted weight is sent, its givers finished first where the turf is short
  unfoldable pub pair_held : (ℕ → Held → Held) → ℕ → ℕ → Held → Held
  pair_held f r k h =
      let x = get_or h.lifted k nan in
      cond (above x) (send_held r k x (cond (lt (total b h.done.gas r) x) (givers_held f r h) h)) h

  -- `finalize_eq`: a turf with no positive weight saves nothing
  unfoldable pub finish_held : ℕ → ℕ → Held → Held
  finish_held zero r h = h
  finish_held (suc n) r h =
      cond (quiet r h.done.weight)
      (record { done = cleared r h.done; lifted = h.lifted })
      (run (pair_held (λ a g. finish_held n a g) r) (edges_of b owner z r) (record { done = cleared r h.done; lifted = save (edges_of b owner z r) h.done.weight h.lifted }))

  -- the givers of the turf r, each finished by n levels
  abbrev pub givers_of : ℕ → ℕ → Held → Held
  givers_of n r = givers_held (finish_held n) r
