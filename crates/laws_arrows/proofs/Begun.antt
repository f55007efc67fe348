-- Before the way back: the walks draw no arrow of kind 7, and the space turfs that the first one finds are immutable. Assumes nothing.
use mathlib.Core.Bool.{Bool, true, false, not, ◌&&◌, cond}
use mathlib.Core.List.{List, []}
use Prim.Native.Nat.{ℕ}
use lib.Dec.{T, leb}
use lib.ListN.{get_or}
use Rattle.basics.specs.Loops.{member, snoc}
use Rattle.basics.specs.Lists.{All}
use Rattle.basics.proofs.Loops.{All-any, run-keeps, cond_both}
use Rattle.basics.proofs.Lists.{All-snoc}
use Rattle.rules_board.specs.Board.{Board, id_of, end, enabled, planetary, immutable, firelock, links_of}
use Rattle.rules_events.specs.declared.Event.{Event}
use Rattle.rules_events.specs.declared.Event.TheVariants.{Firelock, Target}
use Rattle.rules_walk.specs.Walk.{Walk, advance, mark, walk_link, spread, walk}
use Rattle.rules_walk.specs.Visit.{at_space, visit_space}
use Rattle.laws_walk.proofs.Walks.{walk-keeps}
use Rattle.rules_out.specs.Out.{out_to, outward}
use Rattle.laws_depressurize.proofs.Outward.{outward-keeps}
use Rattle.laws_arrows.specs.Arrows.{ArrowIs}
use Rattle.laws_arrows.specs.Worked as worked  -- checked before the laws

-- no record of kind 7
abbrev pub NoArrow : Event → Type 0
NoArrow e = ArrowIs (λ from to. ⊥) e

module _ (b : Board) (limit : ℕ) where
  -- what the first walk keeps
  pub record Begun (s : Walk) : Type 0 where
    pub plain : All NoArrow s.events
    pub space : All (λ r. T (immutable b r)) s.space

  spread-begun : (r : ℕ) (s : Walk) → Begun s → Begun (spread b limit r s)
  unfolding spread walk_link
  spread-begun r s q = run-keeps (λ k. Unit {0}) Begun (walk_link b r) link _ s (All-any _ (λ k. tt) (cond (enabled b r && leb s.walked limit) (links_of b r) [])) q
    where
      link : (k : ℕ) (t : Walk) → Unit {0} → Begun t → Begun (walk_link b r k t)
      link k t u i = record {
        plain = let lock = Firelock (id_of b r) (id_of b (end b k)) in
            cond_both (All NoArrow) (not (member (end b k) t.queue) && firelock b k) (snoc t.events lock) t.events (All-snoc NoArrow t.events lock i.plain tt) i.plain;
        space = i.space;
      }

  visit-begun : (r : ℕ) (s : Walk) → Begun s → Begun (visit_space b limit r s)
  unfolding visit_space at_space
  visit-begun r s q = cond_both Begun (planetary b r) (mark true true s) (cond (immutable b r) (at_space b r s) (spread b limit r s)) (record { plain = q.plain; space = q.space }) (go (immutable b r) (λ t. t))
    where
      go : (t : Bool) → (T t → T (immutable b r)) → Begun (cond t (at_space b r s) (spread b limit r s))
      go true i = record { plain = All-snoc NoArrow s.events (Target (id_of b r) (id_of b r)) q.plain tt; space = All-snoc (λ x. T (immutable b x)) s.space r q.space (i tt) }
      go false i = spread-begun r s q

  pub walk-begun : (r : ℕ) → Begun (walk b (visit_space b limit) r)
  walk-begun r = walk-keeps b (visit_space b limit) Begun (λ s l q. visit-begun (get_or s.queue s.walked 0) (advance s) (record { plain = q.plain; space = q.space })) r (record { plain = tt; space = tt })

  pub outward-plain : (space : List ℕ) (es : List Event) → All NoArrow es → All NoArrow (outward b limit space es).events
  unfolding out_to
  outward-plain space es q = outward-keeps b limit (λ s. All NoArrow s.events) (λ s i. i) (λ s p k l own e i. All-snoc NoArrow s.events (Target (id_of b (end b k)) (get_or s.target (get_or s.order p 0) 0)) i tt) space es q
