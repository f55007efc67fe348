-- What filling comes to on an accepted board: at most N zones, each with a node, N+E nodes in all, 2N requests, N clock tests; no fill runs past the clock unnoticed. Each fill
-- marks its first turf, owns only links that no zone owned, and asks only where it marks. Assumes nothing.
use mathlib.Core.Path.{◌≡◌, sym, subst}
use mathlib.Core.List.{List, [], ◌∷◌}
use mathlib.Core.Bool.{Bool, true, false, cond}
use Prim.Native.Nat.{ℕ, ◌+◌, ◌*◌, ◌≤◌, ◌<◌}
use native.Mathlib.Omega.{arith}
use lib.Dec.{T}
use lib.ListN.{length, get_or, set, length-append, length-replicate}
use lib.Ieee.{Float}
use Rattle.basics.specs.Floats.{0f}
use Rattle.basics.specs.Loops.{run, snoc}
use Rattle.basics.specs.Lists.{All}
use Rattle.basics.proofs.Loops.{All-get_or, run-append}
use Rattle.basics.proofs.Lists.{All-snoc, replicate-at}
use Rattle.rules_board.specs.Board.{Board, turf_count, link_count}
use Rattle.turfs.specs.Tables.{Accepted, source}
use Rattle.turfs.proofs.Line.{Line}
use Rattle.rules_events.specs.Compared.{is_request}
use Rattle.rules_fill.specs.Fill.{Fill, fill}
use Rattle.laws_fill.proofs.Counts.{marked, marked-length, mark-new, was_new, Counted, fill-counts}
use Rattle.laws_fill.proofs.Joins.{Rows, fill-rows}
use Rattle.laws_fill.proofs.Owned.{Fresh, fill-fresh}
use Rattle.laws_fill.proofs.Rest.{Clocked, fill-tests, fill-line, fill-clocked}
use Rattle.rules_finish.specs.Turns.{Zone, nodes_at, node_count}
use Rattle.rules_equalize.specs.Equalize.{Ask, Filled, after_fill, fill_from, filled_all}
use Rattle.laws_equalize.proofs.Hot.{Starts, fill-all_keeps}

pub count-snoc : (zs : List Zone) (z : Zone) → node_count (snoc zs z) ≡ node_count zs + length z.nodes
unfolding node_count run
count-snoc zs z = run-append (λ y n. n + length y.nodes) zs (z ∷ []) 0

module _ (b : Board) {n : ℕ} (h : Accepted b n) (gas : List Float) (q : Ask) where
  -- the zones that are kept, and the owners of their links
  pub record Kept (found owner : List ℕ) (zs : List Zone) : Type 0 where
    pub links : length owner ≡ link_count b
    pub free : (k : ℕ) → get_or found (source b.starts k) 0 ≡ 0 → get_or owner k 0 ≡ 0
    pub zones : length zs ≤ marked found
    pub nodes : node_count zs ≤ length zs + marked owner
    pub some : All (λ z. (1 ≤ length z.nodes) × Line b z.nodes) zs

  pub record Zoned (s : Filled) : Type 0 where
    pub marks : length s.found ≡ turf_count b
    pub kept : Kept s.found s.owner s.zones
    pub asked : length s.events ≤ 2 * marked s.found
    pub spoken : All (λ e. T (is_request e)) s.events
    pub popped : s.tests ≤ marked s.found
    pub in_time : s.cancelled ≡ false → s.tests ≤ q.allowance
    pub over : s.cancelled ≡ true → s.tests ≡ q.allowance + 1

  from-zoned : (r : ℕ) (s : Filled) → Starts b gas q r s → Zoned s → Zoned (fill_from b gas q r s)
  unfolding fill_from after_fill
  from-zoned r s i g = record {
    marks = c.size;
    kept = pick t.reach.ignored;
    asked = omega (arith, c.asked, m, g.asked);
    spoken = c.spoken;
    popped = omega (arith, c.line, m, g.popped, fill-tests b gas q.limit q.allowance (length s.zones) r s.found s.owner s.events s.tests, fill-line b gas q.limit q.allowance (length s.zones) r s.found s.owner s.events s.tests);
    in_time = w.in_time;
    over = w.over;
  }
    where
      t : Fill
      t = fill b gas q.limit q.allowance (length s.zones) r s.found s.owner s.events s.tests

      inside : r < length s.found
      inside = subst (λ (x : ℕ). r < x) (sym g.marks) i.row

      c : Counted b (turf_count b) h.ends (length s.zones) r (set s.found r 1) s.events t.reach
      c = fill-counts b h.ends gas q.limit q.allowance (length s.zones) r s.found s.owner s.events s.tests g.marks g.spoken

      f : Fresh b h (length s.zones) s.owner t.popped t.reach
      f = fill-fresh b h (length s.zones) s.owner gas q.limit q.allowance r s.found s.events s.tests g.marks g.kept.links i.row i.new g.kept.free

      w : Clocked b gas q.limit q.allowance (length s.zones) t
      w = fill-clocked b gas q.limit q.allowance (length s.zones) r s.found s.owner s.events s.tests (g.in_time i.going)

      w' : Rows b h.ends t.reach
      w' = fill-rows b h.ends gas q.limit q.allowance (length s.zones) r s.found s.owner s.events s.tests i.row

      m : marked (set s.found r 1) ≡ marked s.found + 1
      m = mark-new s.found r inside i.new

      last : Zone
      last = record { nodes = t.reach.nodes; moles = t.moles }

      pick : (u : Bool) → Kept t.reach.found (cond u s.owner t.reach.owner) (cond u s.zones (snoc s.zones last))
      pick true = record { links = g.kept.links; free = λ k e. g.kept.free k (was_new s.found r _ inside (c.before _ e)).1; zones = omega (arith, c.grown, m, g.kept.zones); nodes = g.kept.nodes; some = g.kept.some }
      pick false = record {
        links = f.links;
        free = f.unowned;
        zones = omega (arith, length-append s.zones (last ∷ []), c.grown, m, g.kept.zones);
        nodes = omega (arith, length-append s.zones (last ∷ []), count-snoc s.zones last, f.nodes, g.kept.nodes);
        some = All-snoc (λ z. (1 ≤ length z.nodes) × Line b z.nodes) s.zones last g.kept.some (c.first.1, w'.nodes);
      }

  pub zoned : Zoned (filled_all b gas q)
  zoned = fill-all_keeps b gas q Zoned from-zoned (unfold node_count run in record {
    marks = length-replicate (turf_count b) 0;
    kept = record { links = length-replicate (link_count b) 0; free = λ k e. replicate-at {A = ℕ} (link_count b) k 0; zones = omega arith; nodes = omega arith; some = tt };
    asked = omega arith;
    spoken = tt;
    popped = omega arith;
    in_time = λ e. omega arith;
    over = λ e. absurd (subst T (sym e) tt);
  })

  -- N+E nodes in all
  pub node-room : node_count (filled_all b gas q).zones ≤ turf_count b + link_count b
  node-room =
      let s = filled_all b gas q in
      omega (arith, zoned.kept.nodes, zoned.kept.zones, zoned.marks, zoned.kept.links, marked-length s.found, marked-length s.owner)

  -- N zones
  pub zone-room : length (filled_all b gas q).zones ≤ turf_count b
  zone-room = omega (arith, zoned.kept.zones, zoned.marks, marked-length (filled_all b gas q).found)

  -- N clock tests
  pub test_room : (filled_all b gas q).tests ≤ turf_count b
  test_room = omega (arith, zoned.popped, zoned.marks, marked-length (filled_all b gas q).found)

  -- 2N requests
  pub request_room : length (filled_all b gas q).events ≤ 2 * turf_count b
  request_room = omega (arith, zoned.asked, zoned.marks, marked-length (filled_all b gas q).found)

  -- a kept zone has a node, its first turf; its nodes are turfs of the board, none twice
  pub zone-has : (z : ℕ) → z < length (filled_all b gas q).zones → (1 ≤ length (nodes_at (filled_all b gas q).zones z)) × Line b (nodes_at (filled_all b gas q).zones z)
  zone-has z l = All-get_or (λ y. (1 ≤ length y.nodes) × Line b y.nodes) (filled_all b gas q).zones z (record { nodes = []; moles = 0f }) zoned.kept.some l
