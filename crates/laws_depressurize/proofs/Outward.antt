-- The order outward, turf by turf: what holds of space and stays where a turf joins holds at the end. Assumes nothing.
use mathlib.Core.Path.{◌≡◌, refl, sym, ◌∙◌, subst}
use mathlib.Core.List.{List, [], ◌∷◌}
use mathlib.Core.Bool.{Bool, true, false, ◌||◌, cond}
use Prim.Native.Nat.{ℕ, ◌+◌, ◌<◌}
use native.Mathlib.Omega.{arith}
use lib.Dec.{T, ltb, leb, ltb→lt}
use lib.ListN.{length, get_or, set, replicate, length-append, get_or-append}
use Rattle.basics.specs.Loops.{run, member}
use Rattle.basics.specs.Lists.{All}
use Rattle.basics.proofs.Loops.{run-keeps, times-keeps, cond_both}
use Rattle.basics.proofs.Lists.{members}
use Rattle.rules_board.specs.Board.{Board, turf_count, id_of, end, immutable, links_of}
use Rattle.rules_events.specs.declared.Event.{Event}
use Rattle.rules_out.specs.Out.{Out, out_to, out_link, out_row, out_next, outward}

-- where it starts
abbrev pub start_out : Board → List ℕ → List Event → Out
start_out b space events = record {
  order = space;
  place = 0;
  direction = replicate (turf_count b) 0;
  target = run (λ r t. set t r (id_of b r)) space (replicate (turf_count b) 0);
  events = events;
}

-- one place on
abbrev here : Out → Out
here s = record { order = s.order; place = s.place + 1; direction = s.direction; target = s.target; events = s.events }

-- P doesn't look at the place, and is kept where a turf joins over a link of the one at the place p
module _ (b : Board) (limit : ℕ) (P : Out → Type 0) (moves : (s : Out) → P s → P (here s))
    (joins : (s : Out) (p k : ℕ) → p < length s.order → T (member k (links_of b (get_or s.order p 0))) → member (end b k) s.order ≡ false → P s → P (out_to b (get_or s.order p 0) (end b k) s)) where
  -- the turf in hand is r, at the place p
  record InHand (p r : ℕ) (s : Out) : Type 0 where
    inside : p < length s.order
    is : get_or s.order p 0 ≡ r
    kept : P s

  link-keeps : (p r k : ℕ) (s : Out) → T (member k (links_of b r)) → InHand p r s → InHand p r (out_link b r k s)
  unfolding out_link out_to
  link-keeps p r k s own q = go (immutable b a) (member a s.order) refl
    where
      a : ℕ
      a = end b k

      go : (i m : Bool) → member a s.order ≡ m → InHand p r (cond (i || m) s (out_to b r a s))
      go true m e = q
      go false true e = q
      go false false e = record {
        inside = let i = q.inside in omega (arith, length-append s.order (a ∷ []));
        is = get_or-append s.order (a ∷ []) 0 p q.inside ∙ q.is;
        kept = subst (λ (x : ℕ). P (out_to b x a s)) q.is (joins s p k q.inside (subst (λ (x : ℕ). T (member k (links_of b x))) (sym q.is) own) e q.kept);
      }

  next-keeps : (s : Out) → P s → P (out_next b limit s)
  unfolding out_next out_row
  next-keeps s q = go (ltb s.place (length s.order)) (ltb→lt s.place (length s.order))
    where
      p : ℕ
      p = s.place

      r : ℕ
      r = get_or s.order p 0

      Own : ℕ → Type 0
      Own k = T (member k (links_of b r))

      go : (t : Bool) → (T t → p < length s.order) → P (cond t (out_row b limit r s) s)
      go true l = (run-keeps Own (InHand p r) (out_link b r) (λ k t u i. link-keeps p r k t u i) (cond (leb (p + 1) limit) (links_of b r) []) (here s) (cond_both (All Own) (leb (p + 1) limit) (links_of b r) [] (members (links_of b r)) tt)
          (record { inside = l tt; is = refl; kept = moves s q })).kept
      go false l = q

  pub outward-keeps : (space : List ℕ) (events : List Event) → P (start_out b space events) → P (outward b limit space events)
  unfolding outward
  outward-keeps space events q = times-keeps P (out_next b limit) next-keeps (turf_count b) (start_out b space events) q
