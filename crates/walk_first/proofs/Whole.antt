-- The walk from its first turf to its end: each turn visits the next turf of the queue, and the queue holds no more turfs than there are. Assumes nothing.
use Prim.Native.Nat.{ℕ, suc, ◌+◌, ◌-◌, ◌*◌, ◌≤◌, ◌<◌}
use native.Mathlib.Omega.{arith}
use native.Mathlib.Nat.{not-suc-le-zero, sub-zero}
use mathlib.Core.Path.{◌≡◌, refl, ap, ◌∙◌, sym}
use mathlib.Core.List.{List, []}
use mathlib.Core.Bool.{Bool, true, false, not, ◌&&◌}
use lib.Dec.{ltb}
use lib.ListN.{length, get_or, take}
use lib.Seq.{length-take-le, get_or-take}
use borrow.Author.Tests.{ltb-true}
use Rattle.basics.specs.Loops.{times, member}
use Rattle.basics.specs.Regions.{region}
use Rattle.basics.proofs.Loops.{times-still}
use Rattle.basics.proofs.Regions.{cut-length}
use Rattle.basics.proofs.Tests.{both}
use Rattle.rules_board.specs.Board.{Board, turf_count, enabled, planetary, immutable, firelock, links_of}
use Rattle.turfs.specs.Tables.{Tables}
use Rattle.rules_events.specs.declared.Event.{Event}
use Rattle.lent.proofs.Numbers.{bare}
use Rattle.index_set.specs.Line.{Below, Apart}
use Rattle.index_set.proofs.Queue.{Below-at}
use Rattle.scratch.specs.Layout.{walk_sizes}
use Rattle.rules_walk.specs.Walk.{Walk, advance, walk_link, spread, walk_next, walk}
use Rattle.rules_walk.specs.Visit.{visit_planet, at_space, visit_space, visit}
use Rattle.walk_links.specs.Does.{WalkDoes}
use Rattle.walk_links.specs.Reached.{WalkState, walk_at, walk_of, WalkRest, WalkFits, walking, Ground, WalkStands, bytes_per_turf, Visits, Queued, visit_next, WalkStarts, Walked}
use Rattle.rules_walk.specs.declared.Kind.{Kind}
use Rattle.rules_walk.specs.declared.Kind.TheVariants.{Planet, Space}
use Rattle.walk_links.specs.declared.Reach.{Reach}
use Rattle.walk_links.proofs.Does.{does-then}
use Rattle.walk_links.proofs.Links.{joins, stored, join_open}
use Rattle.laws_walk.proofs.Walks.{start_walk, going, still, visited}
use Rattle.laws_walk.proofs.Places.{visit-walked}

abbrev pub counted : Reach → Reach
counted s = record { count = s.count; walked = s.walked + 1; spaces = s.spaces; planet = s.planet; ended = s.ended; used = s.used }

-- ---- the queue, as the code reads it

module _ (n : ℕ) (s : Reach) (w e : List ℕ) (h : WalkFits n (walk_at s w e)) where
  queue-length : length (take s.count (region (walk_sizes n) 0 w)) ≡ s.count
  queue-length = length-take-le s.count (region (walk_sizes n) 0 w) (omega (arith, h.line.few, h.line.queue_n))

  going-is : (es : List Event) → going (walk_of n (walk_at s w e) es) ≡ (not s.ended && ltb s.walked s.count)
  unfolding walk_of
  going-is es = rw queue-length

  module _ (k : s.walked < s.count) where
    queue-at : get_or w s.walked 0 ≡ get_or (take s.count (region (walk_sizes n) 0 w)) s.walked 0
    queue-at = sym (get_or-take s.count (region (walk_sizes n) 0 w) s.walked 0 k ∙ get_or-take n w s.walked 0 (omega (arith, h.line.few)))

    pub next_row : get_or w s.walked 0 < n
    next_row = rw queue-at (Below-at n (take s.count (region (walk_sizes n) 0 w)) s.walked h.line.rows (rw queue-length k))

    pub counted-fit : (t : Reach) → t ≡ counted s → WalkFits n (walk_at t w e)
    counted-fit t q = rw q (record { small = h.small; words = h.words; bytes = h.bytes; written = h.written; few = omega (arith, h.few); past = omega arith; line = h.line })

    -- a visit of the next turf
    pub next-does : (b : Board) (kind like : Kind) (limit : ℕ) → kind ≡ like → (t : Reach) → t ≡ counted s → {a : WalkState} → WalkDoes (walking n) (visit b like limit (get_or w s.walked 0)) (walk_at t w e) a
        → WalkDoes (walking n) (visit_next b kind limit) (walk_at s w e) a
    next-does b kind like limit q t g {a} d = record {
      fit = d.fit;
      kept = d.kept;
      new = d.new;
      wrote = rw g at d.wrote;
      same = λ es. d.same es ∙ view es;
    }
      where
        view : (es : List Event) → visit b like limit (get_or w s.walked 0) (walk_of n (walk_at t w e) es) ≡ visit_next b kind limit (walk_of n (walk_at s w e) es)
        view es = unfold walk_of in rw (g, q, queue-at)

-- the next turf is visited
module _ (kind : Kind) (b : Board) (s : Reach) (w e : List ℕ) (h : Queued kind b (walk_at s w e)) (k : s.walked < s.count) (t : Reach) (g : t ≡ counted s) where
  pub next-stands : WalkStands b (get_or w s.walked 0) (walk_at t w e)
  next-stands = record {
    ground = h.ground;
    fit = counted-fit (turf_count b) s w e h.fit k t g;
    inside = next_row (turf_count b) s w e h.fit k;
  }

  pub next-visits : (like : Kind) → kind ≡ like → Visits like b (walk_at t w e)
  next-visits like q = rw g (record { counted = omega (arith, h.fit.few); room = rw (← q) h.room })

pub on-less : (s : Reach) (on : Bool) → on ≡ true → on ≡ (not s.ended && ltb s.walked s.count) → s.walked < s.count
on-less s on t e = ltb-true s.walked s.count (both (not s.ended) (ltb s.walked s.count) (sym e ∙ t)).1

-- ---- the loop

module _ (b : Board) (kind : Kind) (limit n : ℕ) where
  abbrev step : Walk → Walk
  step = walk_next b (visit b kind limit)

  pub steps_start : (walked : ℕ) → walked ≡ 0 → (v : Walk) → times step (n - walked) v ≡ times step n v
  steps_start walked z v = ap (λ (k : ℕ). times step k v) (ap (λ (m : ℕ). n - m) z ∙ sub-zero n)

  -- a turn counts one on
  pub turn-counts : (a a' : WalkState) → WalkDoes (walking n) (visit_next b kind limit) a a' → a'.reach.walked ≡ a.reach.walked + 1
  unfolding walk_of
  turn-counts a a' d = ap (λ (v : Walk). v.walked) (d.same []) ∙ visit-walked b limit _ kind (advance (walk_of n a []))

  module _ (s : Reach) (w e : List ℕ) (h : WalkFits n (walk_at s w e)) (on : Bool) (o : on ≡ (not s.ended && ltb s.walked s.count)) (es : List Event) where
    pub steps_next : on ≡ true → (walked : ℕ) → walked ≡ s.walked + 1
        → times step (n - s.walked) (walk_of n (walk_at s w e) es) ≡ times step (n - walked) (visit_next b kind limit (walk_of n (walk_at s w e) es))
    unfolding times
    steps_next t walked q =
        let k : n - s.walked ≡ suc (n - walked) = omega (arith, on-less s on t o, h.line.few) in
        rw k (ap (times step (n - walked)) (visited b (visit b kind limit) (walk_of n (walk_at s w e) es) (going-is n s w e h es ∙ sym o ∙ t)))

    pub steps_end : on ≡ false → times step (n - s.walked) (walk_of n (walk_at s w e) es) ≡ walk_of n (walk_at s w e) es
    steps_end t = times-still step (n - s.walked) (walk_of n (walk_at s w e) es) (still b (visit b kind limit) (walk_of n (walk_at s w e) es) (going-is n s w e h es ∙ sym o ∙ t))

-- ---- the first turf

-- a firelock's record for each turf has room in either walk
per-turf : (kind : Kind) (n m : ℕ) → bytes_per_turf kind * n ≤ m → 12 * n ≤ m
per-turf Planet n m h = h
per-turf Space n m h = omega arith

abbrev none : Reach
none = record { count = 0; walked = 0; spaces = 0; planet = false; ended = false; used = 0 }

abbrev pub one : Reach
one = record { count = 1; walked = 0; spaces = 0; planet = false; ended = false; used = 0 }

module _ (kind : Kind) (b : Board) (row : ℕ) (w e : List ℕ) (h : WalkStarts kind b row w e) where
  abbrev n : ℕ
  n = turf_count b

  none-fit : WalkFits n (walk_at none w e)
  unfolding Below Apart
  none-fit =
      let room : 12 * n ≤ length e = per-turf kind n (length e) h.room in
      record {
        small = h.ground.small.turfs;
        words = omega (arith, h.words);
        bytes = omega arith;
        written = omega arith;
        few = omega arith;
        past = omega arith;
        line = record {
          queue_n = cut-length (walk_sizes n) w 0 (omega arith) (omega (arith, h.words));
          places_n = cut-length (walk_sizes n) w 1 (omega arith) (omega (arith, h.words));
          few = omega arith;
          rows = tt;
          apart = tt;
          placed = λ i h. absurd (not-suc-le-zero h);
        };
      }

  module _ (w₁ : List ℕ) (put : w₁ ≡ stored n row none w) where
    begun : WalkDoes (walking n) (joins row []) (walk_at none w e) (walk_at one w₁ e)
    begun = join_open n row none w e none-fit h.inside (unfold member in refl) (joins row []) one w₁ refl put (λ es. refl)

    pub begun-queued : Queued kind b (walk_at one w₁ e)
    begun-queued = record { ground = h.ground; fit = begun.fit; room = h.room }

    module _ (limit : ℕ) (g : Reach) (w₂ e₂ : List ℕ) (d : WalkDoes (walking n) (times (walk_next b (visit b kind limit)) n) (walk_at one w₁ e) (walk_at g w₂ e₂)) where
      all : WalkDoes (walking n) (λ v. times (walk_next b (visit b kind limit)) n (joins row [] v)) (walk_at none w e) (walk_at g w₂ e₂)
      all = does-then (walking n) (times (walk_next b (visit b kind limit)) n) begun d

      start : joins row [] (walk_of n (walk_at none w e) []) ≡ start_walk row
      unfolding walk_of
      start = refl

      ends : walk_of n (walk_at g w₂ e₂) all.new ≡ walk b (visit b kind limit) row
      unfolding walk
      ends = all.same [] ∙ ap (times (walk_next b (visit b kind limit)) n) start

      pub walked : Walked kind b limit row g w w₂ e e₂
      walked = record {
        fit = all.fit;
        words = ap (λ (x : WalkRest). x.words) all.kept;
        beyond = ap (λ (x : WalkRest). x.beyond) all.kept;
        events = all.new;
        wrote = all.wrote;
        same = ends;
      }

-- ---- what a call knows of its tables

pub ground-of : (b : Board) → Tables b → Ground b
ground-of b t = record {
  small = t.sizes.small;
  flags = t.flags;
  planetary = t.planetary;
  mixtures = t.mixtures;
  link_flags = t.link_flags;
  parts = t.parts;
  neighbour = t.neighbour;
  mixture = t.mixture;
}

pub bare_ground : (b : Board) → Ground b → Ground (bare b)
bare_ground b h = record {
  small = record { turfs = h.small.turfs; links = h.small.links; mixtures = h.small.mixtures };
  flags = h.flags;
  planetary = h.planetary;
  mixtures = h.mixtures;
  link_flags = h.link_flags;
  parts = h.parts;
  neighbour = h.neighbour;
  mixture = h.mixture;
}

-- no walk looks at the number of gases
pub gasless : (b : Board) (kind : Kind) (limit row : ℕ) → walk (bare b) (visit (bare b) kind limit) row ≡ walk b (visit b kind limit) row
unfolding walk walk_next visit_planet visit_space at_space spread walk_link enabled planetary immutable firelock links_of
gasless b Planet limit row = refl
gasless b Space limit row = refl
