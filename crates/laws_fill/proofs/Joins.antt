-- A fill gives its zone only edges that join two of the zone's nodes, and leaves every other link as it was owned: a turf in the queue is a node, and so is the
-- end of an edge. Assumes nothing.
use mathlib.Core.Path.{◌≡◌, refl, sym, ap, ◌∙◌, subst}
use mathlib.Core.Logic.{◌⊎◌, inl, inr}
use mathlib.Core.List.{List, [], ◌∷◌}
use mathlib.Core.Bool.{Bool, true, false, ◌&&◌, cond}
use Prim.Native.Nat.{ℕ, ◌+◌, ◌<◌}
use native.Mathlib.Decide.{ℕ_discrete, dec_lt}
use native.Mathlib.Omega.{arith}
use lib.Dec.{T, eqb, eqb_refl}
use lib.ListN.{length, get_or, set}
use lib.Seq.{get_or-set_same, get_or-set_other, set_out}
use lib.Ieee.{Float}
use Rattle.basics.specs.Loops.{member, snoc}
use Rattle.basics.specs.Lists.{All}
use Rattle.basics.proofs.Loops.{All-imp, cond_both}
use Rattle.basics.proofs.Lists.{All-snoc, or_left, member-has, member-front, member-last}
use Rattle.rules_board.specs.Board.{Board, turf_count, end, enabled, links_of}
use Rattle.turfs.proofs.Line.{Line, line-snoc}
use Rattle.rules_events.specs.declared.Event.{Event}
use Rattle.rules_fill.specs.Fill.{Reach, insert, reach_link, fill}
use Rattle.laws_fill.proofs.Steps.{Keeps, fill-keeps}

pub inserted : (x : ℕ) (xs : List ℕ) → T (member x (insert x xs))
unfolding insert
inserted x xs = go (member x xs) refl
  where
    go : (t : Bool) → member x xs ≡ t → T (member x (cond t xs (snoc xs x)))
    go true e = subst T (sym e) tt
    go false e = member-last x xs

pub insert-keeps : (x y : ℕ) (xs : List ℕ) → T (member x xs) → T (member x (insert y xs))
unfolding insert
insert-keeps x y xs h = cond_both (λ l. T (member x l)) (member y xs) xs (snoc xs y) h (member-front x xs (y ∷ []) h)

module _ (b : Board) where
  -- the edge k ends at one of the nodes, and leaves one of them
  abbrev pub Has : ℕ → List ℕ → Type 0
  Has k nodes = T (member (end b k) nodes) × ((r : ℕ) × T (member r nodes) × T (member k (links_of b r)))

  has_more : (k : ℕ) (xs ys : List ℕ) → ((x : ℕ) → T (member x xs) → T (member x ys)) → Has k xs → Has k ys
  has_more k xs ys m h = (m (end b k) h.0, (h.1.0, m h.1.0 h.1.1, h.1.2))

  module _ (z : ℕ) (owner₀ : List ℕ) where
    -- a link is owned as before, or is an edge of the zone; what is in the queue is a node
    pub record Joins (s : Reach) : Type 0 where
      pub edges : (k : ℕ) → (get_or s.owner k 0 ≡ get_or owner₀ k 0) ⊎ ((get_or s.owner k 0 ≡ z + 1) × Has k s.nodes)
      pub queued : All (λ r. T (member r s.nodes)) s.queue

    grow : (s : Reach) (nodes : List ℕ) → ((x : ℕ) → T (member x s.nodes) → T (member x nodes)) → Joins s
        → (k : ℕ) → (get_or s.owner k 0 ≡ get_or owner₀ k 0) ⊎ ((get_or s.owner k 0 ≡ z + 1) × Has k nodes)
    grow s nodes m q k = elim (q.edges k) [ inl h ↦ inl h | inr h ↦ inr (h.0, has_more k s.nodes nodes m h.1) ]

    link-joins : Keeps b z Joins
    unfolding reach_link
    link-joins r k₀ s queued ours q = go (enabled b a) (eqb (get_or s.found a 0) 0)
      where
        a : ℕ
        a = end b k₀

        more : (x : ℕ) → T (member x s.nodes) → T (member x (insert a s.nodes))
        more x h = insert-keeps x a s.nodes h

        node : T (member r s.nodes)
        node = member-has (λ x. T (member x s.nodes)) r s.queue q.queued queued

        edge : (k : ℕ) → (get_or (set s.owner k₀ (z + 1)) k 0 ≡ get_or owner₀ k 0) ⊎ ((get_or (set s.owner k₀ (z + 1)) k 0 ≡ z + 1) × Has k (insert a s.nodes))
        edge k = at (ℕ_discrete k k₀) (dec_lt k₀ (length s.owner))
          where
            at : Dec (k ≡ k₀) → Dec (k₀ < length s.owner) → (get_or (set s.owner k₀ (z + 1)) k 0 ≡ get_or owner₀ k 0) ⊎ ((get_or (set s.owner k₀ (z + 1)) k 0 ≡ z + 1) × Has k (insert a s.nodes))
            at (no ne) l = rw (get_or-set_other s.owner k₀ k (z + 1) 0 ne) (grow s (insert a s.nodes) more q k)
            at (yes i) (no l) = rw (set_out s.owner k₀ (z + 1) (omega arith)) (grow s (insert a s.nodes) more q k)
            at (yes i) (yes l) = inr (
              ap (λ (x : ℕ). get_or (set s.owner k₀ (z + 1)) x 0) i ∙ get_or-set_same s.owner k₀ (z + 1) 0 l,
              subst (λ (x : ℕ). Has x (insert a s.nodes)) (sym i) (inserted a s.nodes, (r, more r node, ours)),
            )

        line : (t : Bool) → All (λ x. T (member x (insert a s.nodes))) (cond t (snoc s.queue a) s.queue)
        line true = All-snoc (λ x. T (member x (insert a s.nodes))) s.queue a (All-imp _ _ s.queue more q.queued) (inserted a s.nodes)
        line false = All-imp _ _ s.queue more q.queued

        go : (t n : Bool) → Joins (record {
          found = set s.found a 1;
          queue = cond (n && t) (snoc s.queue a) s.queue;
          nodes = cond t (insert a s.nodes) s.nodes;
          owner = cond t (set s.owner k₀ (z + 1)) s.owner;
          ignored = (reach_link b z r k₀ s).ignored;
          events = (reach_link b z r k₀ s).events;
        })
        go true true = record { edges = edge; queued = line true }
        go true false = record { edges = edge; queued = line false }
        go false true = record { edges = q.edges; queued = q.queued }
        go false false = record { edges = q.edges; queued = q.queued }

    module _ (gas : List Float) (limit allowance : ℕ) (r : ℕ) (found : List ℕ) (events : List Event) (tests : ℕ) where
      pub fill-joins : Joins (fill b gas limit allowance z r found owner₀ events tests).reach
      unfolding member
      fill-joins = fill-keeps b z Joins link-joins gas limit allowance r found owner₀ events tests (record { edges = λ k. inl refl; queued = (or_left (eqb r r) false (eqb_refl r), tt) })

-- ---- the nodes and the queue are turfs of the board, no node twice

module _ (b : Board) (ends : (k : ℕ) → end b k < turf_count b) where
  pub record Rows (s : Reach) : Type 0 where
    pub nodes : Line b s.nodes
    pub queue : All (λ x. x < turf_count b) s.queue

  link-rows : (z : ℕ) → Keeps b z Rows
  unfolding reach_link insert
  link-rows z r k s queued ours q = record {
    nodes = node (enabled b a) (member a s.nodes) refl;
    queue = cond_both (All (λ x. x < turf_count b)) (eqb (get_or s.found a 0) 0 && enabled b a) (snoc s.queue a) s.queue (All-snoc (λ x. x < turf_count b) s.queue a q.queue (ends k)) q.queue;
  }
    where
      a : ℕ
      a = end b k

      node : (t m : Bool) → member a s.nodes ≡ m → Line b (cond t (cond m s.nodes (snoc s.nodes a)) s.nodes)
      node true true e = q.nodes
      node true false e = line-snoc b s.nodes a (ends k) e q.nodes
      node false m e = q.nodes

  pub fill-rows : (gas : List Float) (limit allowance z r : ℕ) (found owner : List ℕ) (events : List Event) (tests : ℕ) → r < turf_count b → Rows (fill b gas limit allowance z r found owner events tests).reach
  fill-rows gas limit allowance z r found owner events tests i =
      fill-keeps b z Rows (link-rows z) gas limit allowance r found owner events tests (record { nodes = record { apart = (tt, tt); rows = (i, tt) }; queue = (i, tt) })
