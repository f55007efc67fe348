-- In a search a row points at one that was looked at. Assumes nothing.
use Prim.Native.Nat.{ℕ, zero, suc, ◌+◌, ◌≤◌, ◌<◌}
use native.Mathlib.Omega.{arith}
use native.Mathlib.Decide.{ℕ_discrete}
use mathlib.Core.Path.{◌≡◌, refl, ap, ◌∙◌, sym, subst}
use mathlib.Core.Logic.{◌≢◌}
use mathlib.Core.List.{List, [], ◌∷◌}
use mathlib.Core.Bool.{Bool, true, false, not, ◌&&◌, ◌||◌, cond}
use lib.Dec.{ltb}
use lib.ListN.{length, get_or, set, length-append, get_or-append}
use lib.Seq.{get_or-set_other, get_or-append_seam}
use borrow.Author.Tests.{ltb-true}
use Rattle.basics.specs.Loops.{run, times, member, snoc}
use Rattle.rules_board.specs.Board.{Board, end}
use Rattle.rules_plan.specs.Edges.{edges_of}
use Rattle.rules_plan.specs.Plan.{Seek, stopped, meet, seek_to, seek_link, seek_row, seek_next}
use Rattle.rules_plan.specs.declared.Side.{Side}
use Rattle.index_set.proofs.Queue.{not_member}
use Rattle.plan_trade.proofs.Trades.{meet-direction}

-- the row d is one of the first m of the list
pub record Among (m : ℕ) (q : List ℕ) (d : ℕ) : Type 0 where
  pub place : ℕ
  pub below : place < m
  pub row : get_or q place 0 ≡ d

-- every row that points, points at one of the first m
pub record Near (m : ℕ) (s : Seek) : Type 0 where
  pub within : m ≤ length s.queue
  pub at : (i : ℕ) → i < length s.queue → (d : ℕ) → get_or s.plan.direction (get_or s.queue i 0) 0 ≡ d + 1 → Among m s.queue d

-- rows only join
record Grows (s t : Seek) : Type 0 where
  longer : length s.queue ≤ length t.queue
  same : (j : ℕ) → j < length s.queue → get_or t.queue j 0 ≡ get_or s.queue j 0
  looked : t.looked ≡ s.looked

grows_none : {s : Seek} → Grows s s
grows_none = record { longer = omega arith; same = λ j l. refl; looked = refl }

grows_then : {s t u : Seek} → Grows s t → Grows t u → Grows s u
grows_then a b = record { longer = omega (arith, a.longer, b.longer); same = λ j l. b.same j (omega (arith, a.longer)) ∙ a.same j l; looked = b.looked ∙ a.looked }

among_grows : {m : ℕ} {s t : Seek} {d : ℕ} → Grows s t → m ≤ length s.queue → Among m s.queue d → Among m t.queue d
among_grows g l a = record { place = a.place; below = a.below; row = g.same a.place (omega (arith, l, a.below)) ∙ a.row }

-- what a list has once a number was set
set_at : (xs : List ℕ) (a v d : ℕ) → get_or (set xs a v) a 0 ≡ d + 1 → v ≡ d + 1
set_at [] a v d h = absurd (omega (arith, h))
set_at (x ∷ xs) zero v d h = h
set_at (x ∷ xs) (suc a) v d h = set_at xs a v d h

-- a row that joins
module _ (side : Side) (g r a m : ℕ) (s : Seek) (n : Near m s) (from : Among m s.queue r) (new : member a s.queue ≡ false) where
  abbrev joined : Seek
  joined = record { queue = snoc s.queue a; looked = s.looked; plan = meet side g r a s.plan }

  join_length : length (snoc s.queue a) ≡ length s.queue + 1
  join_length = length-append s.queue (a ∷ [])

  join_grows : Grows s joined
  join_grows = record { longer = omega (arith, join_length); same = λ j l. get_or-append s.queue (a ∷ []) 0 j l; looked = refl }

  join_near : Near m joined
  join_near = record { within = omega (arith, n.within, join_length); at = λ i l d q. pick i l d q (ℕ_discrete i (length s.queue)) }
    where
      pick : (i : ℕ) → i < length (snoc s.queue a) → (d : ℕ) → get_or (meet side g r a s.plan).direction (get_or (snoc s.queue a) i 0) 0 ≡ d + 1
          → Dec (i ≡ length s.queue) → Among m (snoc s.queue a) d
      pick i l d q (yes e) =
          let row : get_or (snoc s.queue a) i 0 ≡ a = ap (λ (x : ℕ). get_or (snoc s.queue a) x 0) e ∙ get_or-append_seam s.queue a [] 0 in
          let v : r + 1 ≡ d + 1 = set_at s.plan.direction a (r + 1) d (ap (λ (xs : List ℕ). get_or xs a 0) (sym (meet-direction side g r a s.plan)) ∙ ap (λ (x : ℕ). get_or (meet side g r a s.plan).direction x 0) (sym row) ∙ q) in
          subst (Among m (snoc s.queue a)) (omega (arith, v)) (among_grows join_grows n.within from)
      pick i l d q (no e) =
          let k : i < length s.queue = omega (arith, l, join_length, e) in
          let row : get_or (snoc s.queue a) i 0 ≡ get_or s.queue i 0 = join_grows.same i k in
          let other : get_or s.queue i 0 ≢ a = not_member a s.queue new i k in
          among_grows join_grows n.within (n.at i k d
          (sym (ap (λ (xs : List ℕ). get_or xs (get_or s.queue i 0) 0) (meet-direction side g r a s.plan) ∙ get_or-set_other s.plan.direction a (get_or s.queue i 0) (r + 1) 0 other)
          ∙ ap (λ (x : ℕ). get_or (meet side g r a s.plan).direction x 0) (sym row) ∙ q))

record Step (m : ℕ) (s t : Seek) : Type 0 where
  near : Near m t
  grows : Grows s t

near-to : (side : Side) (g r a m : ℕ) (s : Seek) → Near m s → Among m s.queue r → Step m s (seek_to side g r a s)
unfolding seek_to
near-to side g r a m s n from = go (stopped side g s) (member a s.queue) refl
  where
    go : (b c : Bool) → member a s.queue ≡ c → Step m s (cond (b || c) s (record { queue = snoc s.queue a; looked = s.looked; plan = meet side g r a s.plan }))
    go true c e = record { near = n; grows = grows_none }
    go false true e = record { near = n; grows = grows_none }
    go false false e = record { near = join_near side g r a m s n from e; grows = join_grows side g r a m s n from e }

module _ (b : Board) (o : List ℕ) (z : ℕ) (side : Side) (g : ℕ) where
  near-links : (r m : ℕ) (ks : List ℕ) (s : Seek) → Near m s → Among m s.queue r → Step m s (run (seek_link b o z side g r) ks s)
  unfolding run seek_link
  near-links r m [] s n from = record { near = n; grows = grows_none }
  near-links r m (k ∷ ks) s n from =
      let t = near-to side g r (end b k) m s n from in
      let u = near-links r m ks (seek_to side g r (end b k) s) t.near (among_grows t.grows n.within from) in
      record { near = u.near; grows = grows_then t.grows u.grows }

  near_next : (s : Seek) → Near s.looked s → Near (seek_next b o z side g s).looked (seek_next b o z side g s)
  unfolding seek_next seek_row
  near_next s n = go (ltb s.looked (length s.queue)) (not (stopped side g s)) refl
    where
      r : ℕ
      r = get_or s.queue s.looked 0

      t : Seek
      t = run (seek_link b o z side g r) (edges_of b o z r) s

      go : (x y : Bool) → ltb s.looked (length s.queue) ≡ x
          → Near (cond (x && y) (record { queue = t.queue; looked = t.looked + 1; plan = t.plan }) s).looked (cond (x && y) (record { queue = t.queue; looked = t.looked + 1; plan = t.plan }) s)
      go false y e = n
      go true false e = n
      go true true e =
          let l : s.looked < length s.queue = ltb-true s.looked (length s.queue) e in
          let more : Near (s.looked + 1) s = record { within = omega (arith, l); at = λ i h d q. let a = n.at i h d q in record { place = a.place; below = omega (arith, a.below); row = a.row } } in
          let u = near-links r (s.looked + 1) (edges_of b o z r) s more (record { place = s.looked; below = omega arith; row = refl }) in
          let k : s.looked + 1 ≡ t.looked + 1 = ap (λ (x : ℕ). x + 1) (sym u.grows.looked) in
          let v : Near (t.looked + 1) t = subst (λ (x : ℕ). Near x t) k u.near in
          record { within = v.within; at = v.at }

  pub near_times : (n : ℕ) (s : Seek) → Near s.looked s → Near (times (seek_next b o z side g) n s).looked (times (seek_next b o z side g) n s)
  unfolding times
  near_times zero s h = h
  near_times (suc n) s h = near_times n (seek_next b o z side g s) (near_next s h)
