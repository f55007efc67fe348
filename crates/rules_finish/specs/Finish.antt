-- `finalize_eq` and `finalize_eq_neighbors`: a turf's plan is carried out.
use Rattle.std.specs.Prelude.{List, [], map, ℕ, zero, suc, eqb, get_or, set, Float, if◌then◌else◌}
use Rattle.std.specs.Float.{nan}
use Rattle.std.specs.Float.Ieee.{lt}
use Rattle.basics.specs.Loops.{run, keep, snoc}
use Rattle.basics.specs.Floats.{0f}
use Rattle.rules_board.specs.Board.{Board, id_of, mix_of, end}
use Rattle.rules_mixture.specs.Mixture.{total, move_air}
use Rattle.rules_plan.specs.Edges.{alter, edges_of, edge}
use Rattle.rules_events.specs.declared.Event.{Event}
use Rattle.rules_events.specs.declared.Event.TheVariants.{Pressure}

-- what finishing changes
pub record Done : Type 0 where
  pub gas : List Float
  pub weight : List Float  -- by link
  pub events : List Event

-- a lifted weight: the neighbour's row, the amount
pub record Pair : Type 0 where
  pub to : ℕ
  pub amount : Float

-- the weights with 0 left in the places ks (`edge.weight().replace(0.0)`)
unfoldable pub zero_lifted : List ℕ → List Float → List Float
zero_lifted ks w = run (λ k v. set v k 0f) ks w

-- `filter(|(_, amount)| *amount > 0.0)`
abbrev pub positive : List Pair → List Pair
positive ps = keep (λ p. lt 0f p.amount) ps

-- `filter(|(_, amount)| *amount < 0.0)`
abbrev pub negative : List Pair → List ℕ
negative ps = map (λ p. p.to) (keep (λ p. lt p.amount 0f) ps)

module _ (b : Board) (owner : List ℕ) (z : ℕ) where
  -- `.edges(index).map(|edge| (edge.target(), edge.weight()..)).collect()`
  unfoldable pub pairs : ℕ → List Float → List Pair
  pairs r w = map (λ k. record { to = end b k; amount = get_or w k nan }) (edges_of b owner z r)

  -- `finalize_eq_neighbors`: f finishes a turf
  unfoldable pub finish_givers : (ℕ → Done → Done) → List Pair → Done → Done
  finish_givers f ps s = run f (negative ps) s

  -- the rest of a turf's work on one pair: the reverse weight, the air, the record of the planned amount
  unfoldable pub send : ℕ → Pair → Done → Done
  send r p s =
      let a = p.to in
      record {
        gas = if eqb (mix_of b r) (mix_of b a) then s.gas else move_air b (mix_of b r) (mix_of b a) p.amount s.gas;
        weight = alter (edge b owner z a r) (λ x. 0f) s.weight;
        events = snoc s.events (Pressure z p.amount (id_of b r) (id_of b a));
      }

  -- One positive pair of the turf r, whose pairs are ps. Both branches of a choice are computed, so the list of givers is chosen, empty where the
  -- turf has enough, and never the call.
  unfoldable pub finish_pair : (ℕ → Done → Done) → ℕ → List Pair → Pair → Done → Done
  finish_pair f r ps p s =
      let short = lt (total b s.gas r) p.amount in
      send r p (finish_givers f (if short then ps else []) s)

  -- `finalize_eq`, with calls that go at most `depth` deep. A lifted turf has no positive weight left and finishes nobody, so a depth above the number of positive
  -- weights never ends a call, and any two such depths give the same: `enough` (laws_finish, proofs/Fuel). The turns take one more than there are links.
  unfoldable pub finish : ℕ → ℕ → Done → Done
  finish zero r s = s
  finish (suc depth) r s =
      let ps = pairs r s.weight in
      run (finish_pair (λ a t. finish depth a t) r ps) (positive ps)
      (record { gas = s.gas; weight = zero_lifted (edges_of b owner z r) s.weight; events = s.events })
