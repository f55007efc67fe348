-- Every edge of a kept zone joins two nodes of that zone: a fill adds only such edges, and an ignored zone's are taken back. Assumes nothing.
use mathlib.Core.Path.{◌≡◌, sym, ◌∙◌, subst}
use mathlib.Core.Logic.{◌⊎◌, inl, inr}
use mathlib.Core.List.{List, [], ◌∷◌}
use mathlib.Core.Bool.{Bool, true, false, cond}
use Prim.Native.Nat.{ℕ, ◌+◌, ◌≤◌, ◌<◌}
use native.Mathlib.Decide.{dec_lt}
use native.Mathlib.Omega.{arith}
use lib.Dec.{T}
use lib.ListN.{length, get_or, get_or-eq_default, get_or-append}
use lib.Seq.{get_or-append_seam}
use lib.Ieee.{Float}
use Rattle.basics.specs.Loops.{member, snoc}
use Rattle.basics.specs.Floats.{0f}
use Rattle.basics.proofs.Lists.{replicate-at}
use Rattle.rules_board.specs.Board.{Board, link_count, end}
use Rattle.rules_fill.specs.Fill.{Reach, Fill}
use Rattle.laws_fill.proofs.Joins.{Has, Joins, fill-joins}
use Rattle.rules_finish.specs.Turns.{Zone, nodes_at}
use Rattle.rules_equalize.specs.Equalize.{Ask, Filled, after_fill, fill_from, filled_all}
use Rattle.laws_equalize.proofs.Hot.{Starts, fill-all_keeps}

module _ (b : Board) where
  -- every edge of a kept zone joins two nodes of it
  abbrev pub Ends : List ℕ → List Zone → Type 0
  Ends owner zones = (z k : ℕ) → get_or owner k 0 ≡ z + 1 → Has b k (nodes_at zones z)

  -- a zone that there isn't has no node
  no_node : (zones : List Zone) (z x : ℕ) → length zones ≤ z → T (member x (nodes_at zones z)) → ⊥
  unfolding member
  no_node zones z x h t = subst (λ (y : Zone). T (member x y.nodes)) (get_or-eq_default zones (record { nodes = []; moles = 0f }) {n = z} h) t

  -- the filled zone joins the kept ones
  joined : (zones : List Zone) (owner : List ℕ) (s : Reach) (moles : Float) → Ends owner zones → Joins b (length zones) owner s → Ends s.owner (snoc zones (record { nodes = s.nodes; moles = moles }))
  joined zones owner s moles g q z k e = go (q.edges k)
    where
      d : Zone
      d = record { nodes = []; moles = 0f }

      last : Zone
      last = record { nodes = s.nodes; moles = moles }

      go : (get_or s.owner k 0 ≡ get_or owner k 0) ⊎ ((get_or s.owner k 0 ≡ length zones + 1) × Has b k s.nodes) → Has b k (nodes_at (snoc zones last) z)
      go (inl h) = old (g z k (sym h ∙ e)) (dec_lt z (length zones))
        where
          old : Has b k (nodes_at zones z) → Dec (z < length zones) → Has b k (nodes_at (snoc zones last) z)
          old i (yes l) = subst (λ (x : Zone). Has b k x.nodes) (sym (get_or-append zones (last ∷ []) d z l)) i
          old i (no l) = absurd (no_node zones z (end b k) (omega arith) i.0)
      go (inr h) =
          let same : z ≡ length zones = omega (arith, e, h.0) in
          subst (λ (x : ℕ). Has b k (nodes_at (snoc zones last) x)) (sym same) (subst (λ (x : Zone). Has b k x.nodes) (sym (get_or-append_seam zones last [] d)) h.1)

  module _ (gas : List Float) (q : Ask) where
    abbrev Good : Filled → Type 0
    Good s = Ends s.owner s.zones

    kept-good : (t : Fill) (s : Filled) → Good s → Joins b (length s.zones) s.owner t.reach → Good (after_fill t s)
    unfolding after_fill
    kept-good t s g f = go t.reach.ignored
      where
        go : (i : Bool) → Ends (cond i s.owner t.reach.owner) (cond i s.zones (snoc s.zones (record { nodes = t.reach.nodes; moles = t.moles })))
        go true = g
        go false = joined s.zones s.owner t.reach t.moles g f

    pub fill-ends : Ends (filled_all b gas q).owner (filled_all b gas q).zones
    fill-ends = fill-all_keeps b gas q Good from (λ z k e. absurd (omega (arith, e, replicate-at {A = ℕ} (link_count b) k 0)))
      where
        from : (r : ℕ) (s : Filled) → Starts b gas q r s → Good s → Good (fill_from b gas q r s)
        from r s _ g = unfold fill_from in
            kept-good _ s g (fill-joins b (length s.zones) s.owner gas q.limit q.allowance r s.found s.events s.tests)

    -- an owned link is one of a kept zone
    pub owner-kept : (z k : ℕ) → get_or (filled_all b gas q).owner k 0 ≡ z + 1 → z < length (filled_all b gas q).zones
    owner-kept z k e = go (dec_lt z (length (filled_all b gas q).zones))
      where
        go : Dec (z < length (filled_all b gas q).zones) → z < length (filled_all b gas q).zones
        go (yes l) = l
        go (no l) = absurd (no_node (filled_all b gas q).zones z (end b k) (omega arith) (fill-ends z k e).0)
