-- The start of the way out: two arrays are cleared, and each space turf is given its place and its target, which no later one changes since none stands twice. Assumes nothing.
use Prim.Native.Nat.{ℕ, zero, suc, ◌+◌, ◌≤◌, ◌<◌}
use native.Mathlib.Omega.{arith}
use native.Mathlib.Nat.{not-suc-le-zero}
use native.Mathlib.Decide.{ℕ_discrete}
use mathlib.Core.Path.{◌≡◌, refl, ap, ◌∙◌, sym, subst}
use mathlib.Core.List.{List, [], ◌∷◌, ◌++◌}
use lib.ListN.{length, get_or, take, drop, set, replicate, length-set, length-replicate}
use lib.Seq.{length-take-le, get_or-take, get_or-set_same, get_or-set_other}
use Rattle.basics.specs.Loops.{run, times}
use Rattle.basics.specs.Regions.{cut, region, base}
use Rattle.basics.proofs.Regions.{cut-set, cut-get, cut-length, cut-part}
use Rattle.basics.proofs.Loops.{run_at, run-stop}
use Rattle.basics.proofs.Lists.{apart-at}
use Rattle.basics.proofs.Parts.{cleared-length}
use Rattle.rules_board.specs.Board.{Board, turf_count, id_of}
use Rattle.rules_events.specs.declared.Event.{Event}
use Rattle.index_set.specs.Line.{Line}
use Rattle.index_set.proofs.Queue.{Below-at, apart-all}
use Rattle.scratch.specs.Layout.{out_sizes, spots_at, order_at, ways_at, targets_at, out_room}
use Rattle.walk_links.specs.Does.{WalkDoes}
use Rattle.rules_out.specs.Out.{out_next, outward}
use Rattle.walk_steps.specs.Steps.{Owns, own_at}
use Rattle.walk_out.specs.Outed.{out_at, out_in, out_of, OutRest, outing, Passing, Spaces, Owned, Opens, Outed}
use Rattle.walk_out.specs.declared.Front.{Front}

-- ---- a cleared array

-- the words once n of them from `from` on were cleared
abbrev pub cleared_from : ℕ → ℕ → List ℕ → List ℕ
cleared_from from n w = take from w ++ (replicate n 0 ++ drop n (drop from w))

-- no direction is above m
none-directed : (m k x : ℕ) → get_or (replicate k 0) x 0 ≤ m
none-directed m zero x = omega arith
none-directed m (suc k) zero = omega arith
none-directed m (suc k) (suc x) = none-directed m k x

size-at : (n k : ℕ) → k < 5 → get_or (out_sizes n) k 0 ≡ n
size-at n zero h = refl
size-at n (suc zero) h = refl
size-at n (suc (suc zero)) h = refl
size-at n (suc (suc (suc zero))) h = refl
size-at n (suc (suc (suc (suc zero)))) h = refl
size-at n (suc (suc (suc (suc (suc k))))) h = absurd (omega arith)

-- an array that came back as zeros
array-cleared : (n k : ℕ) (w : List ℕ) (from : ℕ) → k < 5 → from ≡ base (out_sizes n) k → out_room n ≤ length w
    → cut (out_sizes n) (cleared_from from n w) ≡ set (cut (out_sizes n) w) k (replicate n 0)
array-cleared n k w from h f l = cut-part (out_sizes n) w k (replicate n 0) from n h (omega arith) f (sym (size-at n k h)) (length-replicate {A = ℕ} n 0)

-- the ways, and then the targets
module _ (n : ℕ) (w : List ℕ) {w₁ : List ℕ} (l : out_room n ≤ length w) (e : w₁ ≡ cleared_from (ways_at n) n w) where
  cleared-ways : cut (out_sizes n) w₁ ≡ set (cut (out_sizes n) w) 3 (replicate n 0)
  cleared-ways = ap (cut (out_sizes n)) e ∙ array-cleared n 3 w (ways_at n) (omega arith) (omega arith) l

  cleared-targets : {w₂ : List ℕ} → w₂ ≡ cleared_from (targets_at n) n w₁ → cut (out_sizes n) w₂ ≡ set (cut (out_sizes n) w₁) 4 (replicate n 0)
  cleared-targets q =
      let same : length w₁ ≡ length w = ap length e ∙ cleared-length (ways_at n) n w (omega (arith, l)) in
      ap (cut (out_sizes n)) q ∙ array-cleared n 4 w₁ (targets_at n) (omega arith) (omega arith) (omega (arith, l, same))

-- ---- places and targets

module _ (ids : List ℕ) (count : ℕ) (w : List ℕ) where
  abbrev n : ℕ
  n = length ids

  abbrev order : List ℕ
  order = region (out_sizes n) 2 w

  abbrev own : ℕ → List ℕ → List ℕ
  own r t = set t r (get_or ids r 0)

  -- i of the space turfs are done
  pub record Owning (i : ℕ) (w' : List ℕ) : Type 0 where
    pub words : length w' ≡ length w
    pub places : List ℕ
    pub target : List ℕ
    pub arrays : cut (out_sizes n) w' ≡ (get_or (cut (out_sizes n) w) 0 [] ∷ places ∷ order ∷ get_or (cut (out_sizes n) w) 3 [] ∷ target ∷ get_or (cut (out_sizes n) w) 5 [] ∷ [])
    pub long : length places ≡ n
    pub placed : (j : ℕ) → j < i → get_or places (get_or order j 0) 0 ≡ j
    pub on : run own (drop i (take count order)) target ≡ run own (take count order) (region (out_sizes n) 4 w)

  module _ (q : Spaces ids count w) where
    pub owning_start : Owning 0 w
    owning_start = record {
      words = refl;
      places = region (out_sizes n) 1 w;
      target = region (out_sizes n) 4 w;
      arrays = refl;
      long = cut-length (out_sizes n) w 1 (omega arith) (omega (arith, q.words));
      placed = λ j h. absurd (not-suc-le-zero h);
      on = refl;
    }

    order-n : length order ≡ n
    order-n = cut-length (out_sizes n) w 2 (omega arith) (omega (arith, q.words))

    taken : length (take count order) ≡ count
    taken = length-take-le count order (omega (arith, order-n, q.few))

    module _ (i : ℕ) (w' : List ℕ) (o : Owning i w') (h : i < count) where
      abbrev row : ℕ
      row = get_or w' (order_at n + i) 0

      row_is : row ≡ get_or order i 0
      row_is = cut-get (out_sizes n) w' 0 2 i (order_at n + i) (omega arith) (omega (arith, q.few)) (omega arith) ∙ ap (λ (rs : List (List ℕ)). get_or (get_or rs 2 []) i 0) o.arrays

      row-taken : row ≡ get_or (take count order) i 0
      row-taken = row_is ∙ sym (get_or-take count order i 0 h)

      row_below : row < n
      row_below = rw row-taken (Below-at n (take count order) i q.below (rw taken h))

      pub owns : Owns ids i w'
      owns = record { small = q.small; words = omega (arith, o.words, q.words); few = omega (arith, q.few); row = row_below }

      pub owning_next : (w'' : List ℕ) → w'' ≡ own_at ids i w' → Owning (i + 1) w''
      owning_next w'' put = record {
        words = ap length put ∙ length-set (set w' (spots_at n + row) i) (targets_at n + row) (get_or ids row 0) ∙ length-set w' (spots_at n + row) i ∙ o.words;
        places = set o.places row i;
        target = set o.target row (get_or ids row 0);
        arrays = arrays;
        long = length-set o.places row i ∙ o.long;
        placed = placed;
        on = on;
      }
        where
          arrays : cut (out_sizes n) w'' ≡ (get_or (cut (out_sizes n) w) 0 [] ∷ set o.places row i ∷ order ∷ get_or (cut (out_sizes n) w) 3 [] ∷ set o.target row (get_or ids row 0) ∷ get_or (cut (out_sizes n) w) 5 [] ∷ [])
          arrays =
              ap (cut (out_sizes n)) put
              ∙ cut-set (out_sizes n) (set w' (spots_at n + row) i) 4 row (get_or ids row 0) (targets_at n + row) (omega arith) row_below (omega arith)
              ∙ ap (λ (rs : List (List ℕ)). set rs 4 (set (get_or rs 4 []) row (get_or ids row 0)))
              (cut-set (out_sizes n) w' 1 row i (spots_at n + row) (omega arith) row_below (omega arith) ∙ ap (λ (rs : List (List ℕ)). set rs 1 (set (get_or rs 1 []) row i)) o.arrays)

          placed : (j : ℕ) → j < i + 1 → get_or (set o.places row i) (get_or order j 0) 0 ≡ j
          placed j k = go (ℕ_discrete j i)
            where
              go : Dec (j ≡ i) → get_or (set o.places row i) (get_or order j 0) 0 ≡ j
              go (yes e) = ap (λ (x : ℕ). get_or (set o.places row i) x 0) (ap (λ (m : ℕ). get_or order m 0) e ∙ sym row_is) ∙ get_or-set_same o.places row i 0 (omega (arith, row_below, o.long)) ∙ sym e
              go (no e) =
                  let k' : j < i = omega arith in
                  get_or-set_other o.places row (get_or order j 0) i 0
                  (λ x. apart-at (take count order) j i (apart-all (take count order) q.apart) k' (rw taken h) (sym row-taken ∙ sym x ∙ sym (get_or-take count order j 0 (omega arith))))
                  ∙ o.placed j k'

          on : run own (drop (i + 1) (take count order)) (set o.target row (get_or ids row 0)) ≡ run own (take count order) (region (out_sizes n) 4 w)
          on =
              let less : i < length (take count order) = rw taken h in
              ap (λ (x : ℕ). run own (drop (i + 1) (take count order)) (set o.target x (get_or ids x 0))) row-taken
              ∙ sym (run_at own (take count order) i less o.target)
              ∙ o.on

    pub owning_end : (w' : List ℕ) (i : ℕ) → i ≤ count → count ≤ i → Owning i w' → Owned ids count w w'
    owning_end w' i h k o = record {
      words = o.words;
      places = o.places;
      line = record { queue_n = order-n; places_n = o.long; few = q.few; rows = q.below; apart = q.apart; placed = λ j m. o.placed j (omega arith) };
      arrays = o.arrays ∙ ap (λ (t : List ℕ). get_or (cut (out_sizes n) w) 0 [] ∷ o.places ∷ order ∷ get_or (cut (out_sizes n) w) 3 [] ∷ t ∷ get_or (cut (out_sizes n) w) 5 [] ∷ []) all;
    }
      where
        all : o.target ≡ run own (take count order) (region (out_sizes n) 4 w)
        all =
            sym (run-stop own (take count order) i (omega (arith, taken)) o.target) ∙ o.on

-- ---- the start

module _ (b : Board) (spaces used : ℕ) (w₀ w₁ w₂ e : List ℕ) (h : Opens b spaces used w₀ e)
    (q₁ : w₁ ≡ cleared_from (ways_at (turf_count b)) (turf_count b) w₀) (q₂ : w₂ ≡ cleared_from (targets_at (turf_count b)) (turf_count b) w₁) where
  abbrev m : ℕ
  m = turf_count b

  abbrev space : List ℕ
  space = take spaces (region (out_sizes m) 2 w₀)

  long : length w₂ ≡ length w₀
  long =
      let l : length w₁ ≡ length w₀ = ap length q₁ ∙ cleared-length (ways_at m) m w₀ (omega (arith, h.list.words)) in
      ap length q₂ ∙ cleared-length (targets_at m) m w₁ (omega (arith, h.list.words)) ∙ l

  cleared : cut (out_sizes m) w₂ ≡ (region (out_sizes m) 0 w₀ ∷ region (out_sizes m) 1 w₀ ∷ region (out_sizes m) 2 w₀ ∷ replicate m 0 ∷ replicate m 0 ∷ region (out_sizes m) 5 w₀ ∷ [])
  cleared = cleared-targets m w₀ h.list.words q₁ q₂ ∙ ap (λ (rs : List (List ℕ)). set rs 4 (replicate m 0)) (cleared-ways m w₀ h.list.words q₁)

  order_same : region (out_sizes m) 2 w₂ ≡ region (out_sizes m) 2 w₀
  order_same = ap (λ (rs : List (List ℕ)). get_or rs 2 []) cleared

  -- the space list still stands
  pub listed : Spaces b.ids spaces w₂
  listed = record {
    small = h.list.small;
    words = omega (arith, long, h.list.words);
    few = h.list.few;
    below = rw order_same h.list.below;
    apart = rw order_same h.list.apart;
  }

  module _ (w : List ℕ) (o : Owned b.ids spaces w₂ w) where
    arrays : cut (out_sizes m) w ≡ (region (out_sizes m) 0 w₀ ∷ o.places ∷ region (out_sizes m) 2 w₀ ∷ replicate m 0 ∷ run (λ r t. set t r (id_of b r)) space (replicate m 0) ∷ region (out_sizes m) 5 w₀ ∷ [])
    arrays = o.arrays ∙ ap (λ (rs : List (List ℕ)). get_or rs 0 [] ∷ o.places ∷ get_or rs 2 [] ∷ get_or rs 3 [] ∷ run (λ r t. set t r (id_of b r)) (take spaces (get_or rs 2 [])) (get_or rs 4 []) ∷ get_or rs 5 [] ∷ []) cleared

    abbrev first : Front
    first = record { count = spaces; place = 0; used = used }

    pub start-passing : Passing b (out_at first w e)
    start-passing = record {
      ground = h.ground;
      fit = record {
        small = h.ground.small.turfs;
        words = omega (arith, o.words, long, h.list.words);
        bytes = h.room;
        written = h.written;
        past = omega arith;
        line = subst (λ (rs : List (List ℕ)). Line m spaces (get_or rs 2 []) (get_or rs 1 [])) (sym arrays) (subst (λ (q : List ℕ). Line m spaces q o.places) order_same o.line);
        directed = subst (λ (rs : List (List ℕ)). (x : ℕ) → get_or (get_or rs 3 []) x 0 ≤ m) (sym arrays) (none-directed m m);
      };
    }

    pub outed : {limit : ℕ} {g : Front} {w' e' : List ℕ} → WalkDoes (outing m) (times (out_next b limit) m) (out_at first w e) (out_at g w' e') → Outed b limit spaces used g w₀ w' e e'
    outed {limit} {g} {w'} {e'} d = record {
      fit = d.fit;
      words = ap (λ (r : OutRest). r.words) d.kept ∙ o.words ∙ long;
      beyond = ap (λ (r : OutRest). r.beyond) d.kept ∙ ap (λ (rs : List (List ℕ)). get_or rs 5 []) arrays;
      new = d.new;
      wrote = d.wrote;
      same = λ es. d.same es ∙ start es;
    }
      where
        start : (es : List Event) → times (out_next b limit) m (out_of m (out_at first w e) es) ≡ outward b limit space es
        start es = unfold out_of outward in ap (λ (rs : List (List ℕ)). times (out_next b limit) m (out_in rs first es)) arrays
