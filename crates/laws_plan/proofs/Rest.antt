-- A search comes to rest within as many steps as there are turfs: no turf joins its queue twice. Assumes nothing.
use mathlib.Core.Path.{◌≡◌, refl, ap, ◌∙◌}
use mathlib.Core.Logic.{◌⊎◌, inl, inr}
use mathlib.Core.List.{List, [], ◌∷◌}
use mathlib.Core.Bool.{Bool, true, false, not, ◌&&◌, ◌||◌, cond}
use Prim.Native.Nat.{ℕ, ◌+◌, ◌<◌}
use native.Mathlib.Omega.{arith}
use lib.Dec.{ltb}
use lib.ListN.{length, get_or}
use borrow.Author.Tests.{le-ltb}
use Rattle.basics.specs.Loops.{times, member, snoc}
use Rattle.basics.proofs.Loops.{All-any, run-keeps, times-keeps, times-rests, cond_both}
use Rattle.rules_board.specs.Board.{Board, turf_count, end}
use Rattle.turfs.proofs.Line.{Line, line-short, line-snoc}
use Rattle.rules_plan.specs.Edges.{edges_of}
use Rattle.rules_plan.specs.Plan.{Plan, Seek, stopped, meet, seek_to, seek_link, seek_row, seek_next}
use Rattle.rules_plan.specs.declared.Side.{Side}
use Rattle.rules_plan.specs.Worked as worked  -- checked before the laws

module _ (b : Board) (ends : (k : ℕ) → end b k < turf_count b) (owner : List ℕ) (z : ℕ) (side : Side) (g : ℕ) where
  -- a search that goes on has a turf to look at, and the turf in hand isn't settled
  abbrev pub seeking : Seek → Bool
  seeking s = ltb s.looked (length s.queue) && not (stopped side g s)

  -- one link: at most one turf joins, and none is counted as looked at
  link-line : (r k : ℕ) (s : Seek) → Line b s.queue → Line b (seek_link b owner z side g r k s).queue × ((seek_link b owner z side g r k s).looked ≡ s.looked)
  unfolding seek_link seek_to
  link-line r k s l = go (stopped side g s) (member a s.queue) refl
    where
      a : ℕ
      a = end b k

      next : Seek
      next = record { queue = snoc s.queue a; looked = s.looked; plan = meet side g r a s.plan }

      go : (t m : Bool) → member a s.queue ≡ m → Line b (cond (t || m) s next).queue × ((cond (t || m) s next).looked ≡ s.looked)
      go true m e = (l, refl)
      go false true e = (l, refl)
      go false false e = (line-snoc b s.queue a (ends k) e l, refl)

  row_line : (r : ℕ) (s : Seek) → Line b s.queue → Line b (seek_row b owner z side g r s).queue
  unfolding seek_row
  row_line r s l = run-keeps (λ k. Unit {0}) (λ t. Line b t.queue) (seek_link b owner z side g r) (λ k t u i. (link-line r k t i).0) (edges_of b owner z r) s (All-any _ (λ k. tt) (edges_of b owner z r)) l

  link-looked : (r k : ℕ) (s : Seek) → (seek_link b owner z side g r k s).looked ≡ s.looked
  unfolding seek_link seek_to
  link-looked r k s = cond_both (λ t. t.looked ≡ s.looked) (stopped side g s || member (end b k) s.queue) s _ refl refl

  row-looked : (r : ℕ) (s : Seek) → (seek_row b owner z side g r s).looked ≡ s.looked + 1
  unfolding seek_row
  row-looked r s = ap (λ (m : ℕ). m + 1)
      (run-keeps (λ k. Unit {0}) (λ t. t.looked ≡ s.looked) (seek_link b owner z side g r) (λ k t u i. link-looked r k t ∙ i) (edges_of b owner z r) s (All-any _ (λ k. tt) (edges_of b owner z r)) refl)

  next-line : (s : Seek) → Line b s.queue → Line b (seek_next b owner z side g s).queue
  unfolding seek_next
  next-line s l = cond_both (λ t. Line b t.queue) (seeking s) (seek_row b owner z side g (get_or s.queue s.looked 0) s) s (row_line (get_or s.queue s.looked 0) s l) l

  -- the search of `serve`, from the plan p
  abbrev pub start_seek : Plan → Seek
  start_seek p = record { queue = g ∷ []; looked = 0; plan = p }

  abbrev pub sought : Plan → Seek
  sought p = times (seek_next b owner z side g) (turf_count b) (start_seek p)

  pub seek_line : (p : Plan) → g < turf_count b → Line b (sought p).queue
  seek_line p i = times-keeps (λ s. Line b s.queue) (seek_next b owner z side g) next-line (turf_count b) (start_seek p) (record { apart = (tt, tt); rows = (i, tt) })

  -- as many steps as there are turfs are enough
  pub seek_rests : (p : Plan) → g < turf_count b → seeking (sought p) ≡ false
  seek_rests p i = go (times-rests (seek_next b owner z side g) seeking (λ s. s.looked) still on (turf_count b) (start_seek p))
    where
      still : (s : Seek) → seeking s ≡ false → seek_next b owner z side g s ≡ s
      still s e = unfold seek_next in rw e

      on : (s : Seek) → seeking s ≡ true → (seek_next b owner z side g s).looked ≡ s.looked + 1
      on s e = unfold seek_next in rw e (row-looked (get_or s.queue s.looked 0) s)

      w : Seek
      w = sought p

      go : (seeking w ≡ false) ⊎ (w.looked ≡ 0 + turf_count b) → seeking w ≡ false
      go (inl e) = e
      go (inr e) = ap (λ (t : Bool). t && not (stopped side g w)) (le-ltb w.looked (length w.queue) (omega (arith, e, line-short b w.queue (seek_line p i))))
