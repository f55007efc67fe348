-- The weights of a zone's links, by how many changes they had. Links of the zones before keep their bound, those of the zones after are as at the start. Assumes nothing.
use mathlib.Core.Path.{◌≡◌, sym, subst}
use mathlib.Core.Logic.{◌≢◌}
use mathlib.Core.Bool.{◌&&◌}
use mathlib.Core.List.{List}
use Prim.Native.Nat.{ℕ, ◌+◌, ◌*◌, ◌^◌, ◌≤◌, ◌<◌}
use native.Mathlib.Decide.{ℕ_discrete}
use native.Mathlib.Omega.{arith}
use lib.Dec.{eqb, eqb→eq}
use lib.ListN.{length, get_or, set, length-set}
use lib.Seq.{get_or-set_same, get_or-set_other}
use lib.Ieee.{Float, nan}
use Rattle.basics.specs.Floats.{◌+f◌, ◌-f◌}
use Rattle.std.specs.Prelude.{Option, Some, None}
use Rattle.basics.specs.Lists.{Found}
use Rattle.basics.proofs.Loops.{first_passes, and_left}
use Rattle.rules_board.specs.Board.{Board, end, links_of}
use Rattle.rules_plan.specs.Edges.{alter, owned, edge, adjust}
use Rattle.laws_finite.proofs.Laws.{Under}
use Rattle.laws_finite.proofs.Caps.{most-changes, Capped, capped_more, capped_add, capped_sub}

-- set at one place: each place has what it had, or the new value
pub set_keeps : {A : Type 0} (P : ℕ → A → Type 0) (xs : List A) (i : ℕ) (v d : A) → (i < length xs → P i v) → ((k : ℕ) → k ≢ i → k < length xs → P k (get_or xs k d))
    → (k : ℕ) → k < length xs → P k (get_or (set xs i v) k d)
set_keeps P xs i v d h f k l = elim (ℕ_discrete k i) [
  | yes e ↦ subst (λ j. j < length xs → P j (get_or (set xs i v) j d)) (sym e) (λ m. subst (P i) (sym (get_or-set_same xs i v d m)) (h m)) l
  | no n ↦ subst (P k) (sym (get_or-set_other xs i k v d n)) (f k n l)
]

module _ (owner : List ℕ) (z : ℕ) where
  -- how a link's weight is bounded, by its owner
  pub record Held (t top k : ℕ) (x : Float) : Type 0 where
    pub before : get_or owner k 0 ≤ z → Capped 84 top x
    pub here : get_or owner k 0 ≡ z + 1 → Capped 84 t x
    pub after : z + 1 < get_or owner k 0 → Capped 84 0 x

  -- every link's weight, after t changes in this zone
  abbrev pub Weighed : ℕ → ℕ → List Float → Type 0
  Weighed t top w = (k : ℕ) → k < length w → Held t top k (get_or w k nan)

  pub weighed_more : (t d top : ℕ) (w : List Float) → Weighed t top w → Weighed (t + d) top w
  weighed_more t d top w q k l = let i = q k l in record { before = i.before; here = λ e. capped_more 84 (omega arith) t d (i.here e); after = i.after }

  alter-weighed : (o : Option ℕ) (f : Float → Float) (t top : ℕ) (w : List Float) → Found (λ k. get_or owner k 0 ≡ z + 1) o
      → ((y : Float) → Capped 84 t y → Capped 84 (t + 1) (f y)) → Weighed t top w → Weighed (t + 1) top (alter o f w)
  alter-weighed None f t top w e g q = weighed_more t 1 top w q
  alter-weighed (Some i) f t top w e g q = λ k l.
      set_keeps (λ j x. Held (t + 1) top j x) w i (f (get_or w i nan)) nan
      (λ m. record { before = λ a. absurd (omega arith); here = λ a. g (get_or w i nan) ((q i m).here e); after = λ a. absurd (omega arith) })
      (λ j n m. weighed_more t 1 top w q j m) k (subst (λ n. k < n) (length-set w i (f (get_or w i nan))) l)

  module _ (b : Board) where
    edge-mine : (r a : ℕ) → Found (λ k. get_or owner k 0 ≡ z + 1) (edge b owner z r a)
    unfolding edge
    edge-mine r a = first_passes (λ k. get_or owner k 0 ≡ z + 1) (λ k. owned b owner z k && eqb (end b k) a) (links_of b r)
        (λ k t. eqb→eq (get_or owner k 0) (z + 1) (and_left (owned b owner z k) (eqb (end b k) a) t))

    pub adjust-weighed : (r a : ℕ) (x : Float) (t top : ℕ) (w : List Float) → t + 2 ≤ most-changes → Under (1 * 2 ^ 84) x → Weighed t top w → Weighed (t + 2) top (adjust b owner z r a x w)
    unfolding adjust
    adjust-weighed r a x t top w h p q =
        let w₁ = alter (edge b owner z r a) (λ y. y +f x) w in
        let i = alter-weighed (edge b owner z r a) (λ y. y +f x) t top w (edge-mine r a) (λ y c. capped_add 84 (omega arith) t (omega arith) c p) q in
        subst (λ n. Weighed n top (alter (edge b owner z a r) (λ y. y -f x) w₁)) (omega arith)
        (alter-weighed (edge b owner z a r) (λ y. y -f x) (t + 1) top w₁ (edge-mine a r) (λ y c. capped_sub 84 (omega arith) (t + 1) (omega arith) c p) i)
