-- A fill is steps over links: what every link of a turf that stands in the queue keeps, a fill keeps. Assumes nothing.
use mathlib.Core.Path.{◌≡◌, refl, sym, subst}
use mathlib.Core.List.{List, [], ◌∷◌}
use mathlib.Core.Bool.{Bool, true, false, ◌&&◌, ◌||◌, cond}
use Prim.Native.Nat.{ℕ, ◌+◌}
use lib.Dec.{T, eqb, ltb, ltb→lt}
use lib.ListN.{length, get_or}
use lib.Ieee.{Float}
use Rattle.basics.specs.Loops.{run, member, snoc}
use Rattle.basics.proofs.Loops.{All-get_or, run-keeps, times-keeps, cond_both, and_right}
use Rattle.basics.proofs.Lists.{members, member-front}
use Rattle.rules_board.specs.Board.{Board, turf_count, end, enabled, planetary, links_of}
use Rattle.rules_events.specs.declared.Event.{Event}
use Rattle.rules_fill.specs.Fill.{Reach, Fill, is_on, reach_link, expand, end_fill, pop, pop_next, fill}
use Rattle.rules_fill.specs.declared.Going.TheVariants.{Broken, Over}
use Rattle.laws_fill.specs.Start.{start_reach, start_fill}
use Rattle.rules_fill.specs.Worked as worked  -- checked before the laws

module _ (b : Board) (z : ℕ) where
  -- every link of a turf in the queue keeps Q
  abbrev pub Keeps : (Reach → Type 0) → Type 0
  Keeps Q = (r k : ℕ) (s : Reach) → T (member r s.queue) → T (member k (links_of b r)) → Q s → Q (reach_link b z r k s)

  queued_stays : (x r k : ℕ) (s : Reach) → T (member x s.queue) → T (member x (reach_link b z r k s).queue)
  unfolding reach_link
  queued_stays x r k s h =
      let a = end b k in
      cond_both (λ (q : List ℕ). T (member x q)) (eqb (get_or s.found a 0) 0 && enabled b a) (snoc s.queue a) s.queue (member-front x s.queue (a ∷ []) h) h

  module _ (Q : Reach → Type 0) (keeps : Keeps Q) where
    pub row_keeps : (r : ℕ) (s : Reach) → T (member r s.queue) → Q s → Q (run (reach_link b z r) (links_of b r) s)
    row_keeps r s m q =
        (run-keeps (λ k. T (member k (links_of b r))) (λ t. Q t × T (member r t.queue)) (reach_link b z r)
        (λ k t u h. (keeps r k t h.1 u h.0, queued_stays r r k t h.1)) (links_of b r) s (members (links_of b r)) (q, m)).0

    module _ (gas : List Float) (limit allowance : ℕ) where
      pub pop-keeps : (s : Fill) → Q s.reach → Q (pop_next b gas limit allowance z s).reach
      unfolding pop_next pop expand end_fill
      pop-keeps s q = go (is_on s.state && ltb s.popped (length s.reach.queue)) refl
        where
          r : ℕ
          r = get_or s.reach.queue s.popped 0

          planet : Bool
          planet = s.planet || planetary b r

          there : T (ltb s.popped (length s.reach.queue)) → T (member r s.reach.queue)
          there l = All-get_or (λ x. T (member x s.reach.queue)) s.reach.queue s.popped 0 (members s.reach.queue) (ltb→lt s.popped (length s.reach.queue) l)

          go : (t : Bool) → is_on s.state && ltb s.popped (length s.reach.queue) ≡ t → Q (cond t (pop b gas limit allowance z r s) s).reach
          go false e = q
          go true e =
              let l = and_right (is_on s.state) (ltb s.popped (length s.reach.queue)) (subst T (sym e) tt) in
              cond_both (λ f. Q f.reach) (ltb allowance (s.tests + 1)) (end_fill Over s.planet s)
              (cond (planet && ltb limit (length s.reach.nodes)) (end_fill Broken planet s) (expand b gas limit allowance z r planet s)) q
              (cond_both (λ f. Q f.reach) (planet && ltb limit (length s.reach.nodes)) (end_fill Broken planet s) (expand b gas limit allowance z r planet s) q
              (row_keeps r s.reach (there l) q))

      pub fill-keeps : (r : ℕ) (found owner : List ℕ) (events : List Event) (tests : ℕ) → Q (start_reach r found owner events) → Q (fill b gas limit allowance z r found owner events tests).reach
      unfolding fill
      fill-keeps r found owner events tests q = times-keeps (λ s. Q s.reach) (pop_next b gas limit allowance z) pop-keeps (turf_count b) (start_fill r found owner events tests) q
