-- The whole search: a turn of the loop is the definition's step, and once it stops it stays. Assumes nothing.
use Prim.Native.Nat.{ℕ, suc, ◌+◌, ◌-◌, ◌≤◌, ◌<◌}
use native.Mathlib.Omega.{arith}
use native.Mathlib.Nat.{sub-zero}
use mathlib.Core.Path.{◌≡◌, ap, ◌∙◌, sym}
use mathlib.Core.List.{List}
use mathlib.Core.Bool.{true, false}
use lib.ListN.{length, get_or, take}
use lib.Seq.{get_or-take, length-take-le}
use lib.Ieee.{Float, nan}
use borrow.Author.Tests.{lt-ltb, le-ltb}
use Rattle.basics.specs.Loops.{run, times}
use Rattle.basics.proofs.Loops.{times-still}
use Rattle.scratch.specs.Layout.{queue_at, delta_at}
use Rattle.rules_board.specs.Board.{Board}
use Rattle.rules_plan.specs.Edges.{edges_of}
use Rattle.rules_plan.specs.Plan.{Seek, settled, seek_link, seek_row, seek_next}
use Rattle.rules_plan.specs.declared.Side.{Side}
use Rattle.index_set.proofs.Queue.{Below-at}
use Rattle.plan_state.specs.Held.{Area, area, plan_view}
use Rattle.plan_state.proofs.Stores.{queue-at, delta-at}
use Rattle.plan_trade.specs.Search.{Seeking, seek_of, Leaves, Sought, Searched}
use Rattle.plan_trade.proofs.Seeks.{leaves_none}
use Rattle.plan_search.proofs.Rows.{leaves-then}

-- ---- a turn

module _ (b : Board) (o : List ℕ) (z : ℕ) (side : Side) (g : ℕ) (s : Seek) where
  next-on : s.looked < length s.queue → settled side (get_or s.plan.delta g nan) ≡ false → (r : ℕ) → r ≡ get_or s.queue s.looked 0
      → (let t = run (seek_link b o z side g r) (edges_of b o z r) s in record { queue = t.queue; looked = t.looked + 1; plan = t.plan }) ≡ seek_next b o z side g s
  unfolding seek_next seek_row
  next-on l t r e = rw e (simp (lt-ltb _ _ l, t))

  next-end : length s.queue ≤ s.looked → seek_next b o z side g s ≡ s
  unfolding seek_next
  next-end l = simp (le-ltb _ _ l)

  next-settled : s.looked < length s.queue → settled side (get_or s.plan.delta g nan) ≡ true → seek_next b o z side g s ≡ s
  unfolding seek_next
  next-settled l t = simp (lt-ltb _ _ l, t)

-- ---- the loop

pub record Trail (n e : ℕ) (F : List ℕ → Seek → Seek) (count count' looked : ℕ) (a a' : Area) : Type 0 where
  pub seeking : Seeking n e count' a'
  pub rest : Leaves n e a a'
  pub on : times (F (plan_view n e a).owner) (n - looked) (seek_of (plan_view n e a') count' looked) ≡ times (F (plan_view n e a).owner) n (seek_of (plan_view n e a) count 0)

pub trail_next : {n e count count' count'' looked : ℕ} (F h : List ℕ → Seek → Seek) {a a' a'' : Area} → Trail n e F count count' looked a a' → Sought n e h count' count'' a' a''
    → looked < n → ((o : List ℕ) → (let t = h o (seek_of (plan_view n e a') count' looked) in record { queue = t.queue; looked = t.looked + 1; plan = t.plan }) ≡ F o (seek_of (plan_view n e a') count' looked))
    → Trail n e F count count'' (looked + 1) a a''
unfolding times
trail_next {n} {e} {count' = c'} {count'' = c''} {looked = looked} F h {a} {a'} {a''} b d l s =
    let k : n - looked ≡ suc (n - (looked + 1)) = omega arith in
    let o : List ℕ = (plan_view n e a).owner in
    let u : seek_of (plan_view n e a'') c'' looked ≡ h o (seek_of (plan_view n e a') c' looked) = d.same looked ∙ ap (λ (p : List ℕ). h p (seek_of (plan_view n e a') c' looked)) b.rest.frame.owner in
    record {
      seeking = d.seeking;
      rest = leaves-then b.rest d.rest;
      on =
          ap (λ (t : Seek). times (F o) (n - (looked + 1)) t) (ap (λ (t : Seek). record { queue = t.queue; looked = t.looked + 1; plan = t.plan }) u ∙ s o)
          ∙ sym (ap (λ (m : ℕ). times (F o) m (seek_of (plan_view n e a') c' looked)) k)
          ∙ b.on;
    }

pub trail_end : {n e count count' looked : ℕ} (F : List ℕ → Seek → Seek) {a a' : Area} → Trail n e F count count' looked a a'
    → ((o : List ℕ) → F o (seek_of (plan_view n e a') count' looked) ≡ seek_of (plan_view n e a') count' looked) → Searched n e (λ o s. times (F o) n s) count count' looked a a'
trail_end {n} {e} {looked = looked} F {a} b s =
    let t = sym (times-still (F (plan_view n e a).owner) (n - looked) _ (s (plan_view n e a).owner)) ∙ b.on in
    record {
      seeking = b.seeking;
      rest = b.rest;
      queue = ap (λ (u : Seek). u.queue) t;
      plan = ap (λ (u : Seek). u.plan) t;
      looked = ap (λ (u : Seek). u.looked) t;
    }

-- ---- what the code reads, as the search has it

pub queue-below : {n e count : ℕ} {a : Area} → Seeking n e count a → (i : ℕ) → i < count → get_or (plan_view n e a).queue i 0 < n
queue-below {n} {e} {count} {a} h i l =
    rw (← get_or-take count (plan_view n e a).queue i 0 l)
    (Below-at n (take count (plan_view n e a).queue) i h.line.rows (rw (length-take-le count (plan_view n e a).queue (omega (arith, h.line.few, h.line.queue_n))) l))

module _ (n e count looked : ℕ) (w : List ℕ) (f : List Float) (h : Seeking n e count (area w f)) where
  queue-length : length (seek_of (plan_view n e (area w f)) count looked).queue ≡ count
  queue-length = length-take-le count (plan_view n e (area w f)).queue (omega (arith, h.line.few, h.line.queue_n))

  module _ (l : looked < count) (at : ℕ) (ea : at ≡ queue_at n e) where
    row_at : get_or w (at + looked) 0 ≡ get_or (seek_of (plan_view n e (area w f)) count looked).queue looked 0
    row_at = ap (λ (m : ℕ). get_or w (m + looked) 0) ea ∙ queue-at n e looked w f (omega (arith, h.line.few)) ∙ sym (get_or-take count (plan_view n e (area w f)).queue looked 0 l)

    pub seen_below : get_or w (at + looked) 0 < n
    seen_below = rw (row_at ∙ get_or-take count (plan_view n e (area w f)).queue looked 0 l) (queue-below h looked l)

    module _ (b : Board) (z : ℕ) (side : Side) (g : ℕ) (hg : g < n) (own : ℕ) (eo : own ≡ delta_at g e) where
      own_is : get_or f own nan ≡ get_or (plan_view n e (area w f)).plan.delta g nan
      own_is = ap (λ (i : ℕ). get_or f i nan) eo ∙ delta-at n e g w f hg

      pub turn-unsettled : settled side (get_or f own nan) ≡ false → settled side (get_or f (delta_at g e) nan) ≡ false
      turn-unsettled t = sym (ap (λ (i : ℕ). settled side (get_or f i nan)) eo) ∙ t

      pub turn_on : settled side (get_or f own nan) ≡ false → (o : List ℕ)
          → (let t = run (seek_link b o z side g (get_or w (at + looked) 0)) (edges_of b o z (get_or w (at + looked) 0)) (seek_of (plan_view n e (area w f)) count looked) in
          record { queue = t.queue; looked = t.looked + 1; plan = t.plan }) ≡ seek_next b o z side g (seek_of (plan_view n e (area w f)) count looked)
      turn_on t o = next-on b o z side g _ (rw queue-length l) (rw own_is at t) _ row_at

      pub turn-settled : settled side (get_or f own nan) ≡ true → (o : List ℕ)
          → seek_next b o z side g (seek_of (plan_view n e (area w f)) count looked) ≡ seek_of (plan_view n e (area w f)) count looked
      turn-settled t o = next-settled b o z side g _ (rw queue-length l) (rw own_is at t)

  pub turn_end : (b : Board) (z : ℕ) (side : Side) (g : ℕ) → count ≤ looked → (o : List ℕ)
      → seek_next b o z side g (seek_of (plan_view n e (area w f)) count looked) ≡ seek_of (plan_view n e (area w f)) count looked
  turn_end b z side g l o = next-end b o z side g _ (rw queue-length l)
