-- One turf of the order, and the order to its end: each turn passes one, and the order holds no more turfs than there are. Assumes nothing.
use Prim.Native.Nat.{ℕ, suc, ◌+◌, ◌-◌, ◌≤◌, ◌<◌}
use native.Mathlib.Omega.{arith}
use native.Mathlib.Nat.{sub-zero}
use mathlib.Core.Path.{◌≡◌, refl, ap, ◌∙◌, sym}
use mathlib.Core.List.{List, [], ◌++◌, append-nil}
use lib.ListN.{length, get_or, take}
use lib.Seq.{length-take-le, get_or-take}
use borrow.Author.Tests.{lt-ltb, le-ltb, le-leb, lt-leb}
use Rattle.basics.specs.Loops.{run, times}
use Rattle.basics.specs.Regions.{region}
use Rattle.basics.proofs.Loops.{times-still}
use Rattle.basics.proofs.Regions.{cut-get}
use Rattle.rules_board.specs.Board.{Board, links_of}
use Rattle.rules_events.specs.declared.Event.{Event}
use Rattle.index_set.proofs.Queue.{Below-at}
use Rattle.scratch.specs.Layout.{out_sizes, order_at}
use Rattle.walk_links.specs.Does.{WalkDoes}
use Rattle.walk_links.proofs.Does.{none-wrote}
use Rattle.laws_walk.proofs.Places.{row-place}
use Rattle.rules_out.specs.Out.{Out, out_link, out_row, out_next}
use Rattle.walk_out.specs.Outed.{OutState, out_at, out_of, OutFits, outing, pass_next}
use Rattle.walk_out.specs.declared.Front.{Front}
use Rattle.walk_out.proofs.Joins.{written-room}

-- ---- the next turf

abbrev pub passed : Front → Front
passed s = record { count = s.count; place = s.place + 1; used = s.used }

module _ (n : ℕ) (s : Front) (w e : List ℕ) (h : OutFits n (out_at s w e)) where
  order-length : length (take s.count (region (out_sizes n) 2 w)) ≡ s.count
  order-length = length-take-le s.count (region (out_sizes n) 2 w) (omega (arith, h.line.few, h.line.queue_n))

  module _ (k : s.place < s.count) (order : ℕ) (o : order ≡ order_at n) where
    order-at : get_or w (order + s.place) 0 ≡ get_or (take s.count (region (out_sizes n) 2 w)) s.place 0
    order-at =
        cut-get (out_sizes n) w 0 2 s.place (order + s.place) (omega arith) (omega (arith, h.line.few)) (omega (arith, o))
        ∙ sym (get_or-take s.count (region (out_sizes n) 2 w) s.place 0 k)

    pub next_row : get_or w (order + s.place) 0 < n
    next_row = rw order-at (Below-at n (take s.count (region (out_sizes n) 2 w)) s.place h.line.rows (rw order-length k))

    pub passed_fit : OutFits n (out_at (passed s) w e)
    passed_fit = record { small = h.small; words = h.words; bytes = h.bytes; written = h.written; past = omega arith; line = h.line; directed = h.directed }

    module _ (b : Board) (limit : ℕ) where
      abbrev row : ℕ
      row = get_or w (order + s.place) 0

      pub row-late : limit < s.place + 1 → WalkDoes (outing n) (pass_next b limit) (out_at s w e) (out_at (passed s) w e)
      row-late l = record {
        fit = passed_fit;
        kept = refl;
        new = [];
        wrote = none-wrote s.used e (written-room n (out_at s w e) h);
        same = same;
      }
        where
          same : (es : List Event) → out_of n (out_at (passed s) w e) (es ++ []) ≡ pass_next b limit (out_of n (out_at s w e) es)
          same es = unfold out_of out_row run in rw (lt-leb (s.place + 1) limit l, append-nil es)

      pub row_on : s.place + 1 ≤ limit → {a : OutState} → WalkDoes (outing n) (run (out_link b row) (links_of b row)) (out_at (passed s) w e) a → WalkDoes (outing n) (pass_next b limit) (out_at s w e) a
      row_on l {a} d = record {
        fit = d.fit;
        kept = d.kept;
        new = d.new;
        wrote = d.wrote;
        same = λ es. d.same es ∙ same es;
      }
        where
          same : (es : List Event) → run (out_link b row) (links_of b row) (out_of n (out_at (passed s) w e) es) ≡ pass_next b limit (out_of n (out_at s w e) es)
          same es = unfold out_of out_row in rw (le-leb (s.place + 1) limit l, order-at)

-- ---- the loop

module _ (b : Board) (limit n : ℕ) where
  abbrev step : Out → Out
  step = out_next b limit

  pub steps_start : (place : ℕ) → place ≡ 0 → (v : Out) → times step (n - place) v ≡ times step n v
  steps_start place z v = ap (λ (k : ℕ). times step k v) (ap (λ (m : ℕ). n - m) z ∙ sub-zero n)

  -- a turn passes one
  pub turn-counts : (a a' : OutState) → WalkDoes (outing n) (pass_next b limit) a a' → a'.front.place ≡ a.front.place + 1
  unfolding out_of
  turn-counts a a' d = ap (λ (v : Out). v.place) (d.same []) ∙ row-place b limit _ (out_of n a [])

  module _ (s : Front) (w e : List ℕ) (h : OutFits n (out_at s w e)) (es : List Event) where
    next-on : s.place < s.count → step (out_of n (out_at s w e) es) ≡ pass_next b limit (out_of n (out_at s w e) es)
    unfolding out_next out_of
    next-on l = rw (order-length n s w e h, lt-ltb s.place s.count l)

    pub steps_next : s.place < s.count → (place : ℕ) → place ≡ s.place + 1
        → times step (n - s.place) (out_of n (out_at s w e) es) ≡ times step (n - place) (pass_next b limit (out_of n (out_at s w e) es))
    unfolding times
    steps_next l place q =
        let k : n - s.place ≡ suc (n - place) = omega (arith, l, h.line.few) in
        rw k (ap (times step (n - place)) (next-on l))

    pub steps_end : s.count ≤ s.place → times step (n - s.place) (out_of n (out_at s w e) es) ≡ out_of n (out_at s w e) es
    unfolding out_next out_of
    steps_end l = times-still step (n - s.place) (out_of n (out_at s w e) es) (rw (order-length n s w e h, le-ltb s.place s.count l))
