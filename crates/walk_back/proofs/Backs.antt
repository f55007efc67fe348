-- One turf of the way back: its air, its amounts, its events and its rip, each in an area of its own. Assumes nothing.
use Prim.Native.Nat.{ℕ, ◌+◌, ◌≤◌}
use native.Mathlib.Omega.{arith}
use native.Mathlib.Numerals.{add-one}
use mathlib.Core.Path.{◌≡◌, refl, ap, ap₂, ◌∙◌, sym, subst}
use mathlib.Core.List.{List, [], ◌∷◌, ◌++◌}
use mathlib.Core.Bool.{Bool, not}
use lib.Dec.{T, eqb}
use lib.ListN.{length, get_or, take, drop, set, length-set}
use lib.Seq.{take-suc-set, length-take-le}
use lib.Ieee.{Float, nan, is_nan}
use Rattle.basics.specs.Loops.{every, snoc}
use Rattle.basics.specs.Floats.{◌+f◌}
use Rattle.basics.specs.Regions.{cut, region}
use Rattle.basics.proofs.Regions.{cut-set, cut-get, cut-length}
use Rattle.rules_board.specs.Board.{Board, turf_count, mix_of}
use Rattle.rules_events.specs.Events.{encode_all}
use Rattle.events.specs.Area.{Wrote}
use Rattle.rules_events.specs.declared.Event.{Event}
use Rattle.rules_events.specs.declared.Event.TheVariants.{FloorRip}
use Rattle.events.proofs.Areas.{wrote-length}
use Rattle.events.proofs.Sizes.{size}
use Rattle.index_set.specs.Line.{Below}
use Rattle.index_set.proofs.Queue.{Below-snoc}
use Rattle.scratch.specs.Layout.{out_sizes, back_sizes, ways_at, sums_at}
use Rattle.walk_links.specs.Does.{WalkDoes}
use Rattle.rules_back.specs.Back.{back_to}
use Rattle.walk_steps.specs.Steps.{told}
use Rattle.laws_walk.proofs.Told.{told-size}
use Rattle.walk_back.specs.Backed.{not_negative, BackState, back_state_at, rips_of, back_in, back_of, BackFits, backing, Points, directions, Settled}
use Rattle.walk_back.specs.declared.Way.{Way}
use Rattle.walk_back.specs.declared.Sums.{Sums}
use Rattle.walk_back.proofs.Signs.{add-clear, clear-number, every-at, every_set, every-snoc, total-clear, cleared-clear}
use Rattle.rules_back.specs.Worked as worked  -- checked before the laws

-- ---- rips

pub rips-snoc : (ids rs : List ℕ) (xs : List Float) (r : ℕ) (x : Float) → length rs ≡ length xs → rips_of ids (snoc rs r) (snoc xs x) ≡ snoc (rips_of ids rs xs) (FloorRip (get_or ids r 0) x)
unfolding rips_of
rips-snoc ids [] [] r x l = refl
rips-snoc ids [] (y ∷ ys) r x l = absurd (omega arith)
rips-snoc ids (q ∷ rs) [] r x l = absurd (omega arith)
rips-snoc ids (q ∷ rs) (y ∷ ys) r x l = ap (λ (es : List Event). FloorRip (get_or ids q 0) y ∷ es) (rips-snoc ids rs ys r x (omega arith))

-- what is written stands in the area
pub written-room : (b : Board) (a : BackState) → BackFits b a → a.way.used ≤ length a.area
written-room b a h = omega (arith, h.bytes, h.written, h.few)

-- ---- one turf

module _ (b : Board) (row d : ℕ) (s : Way) (gas : List Float) (e w : List ℕ) (f : List Float) (p : Points b row d (back_state_at s gas w f e))
    (sums : Sums) (gas' f₁ : List Float) (q : Settled b row d sums gas gas' f f₁) where
  abbrev n : ℕ
  n = turf_count b

  abbrev h : BackFits b (back_state_at s gas w f e)
  h = p.fit

  abbrev mine_of : List Float
  mine_of = region (back_sizes n) 0 f

  lots_n : length mine_of ≡ n
  lots_n = cut-length (back_sizes n) f 0 (omega arith) (omega (arith, h.floats))

  sums-n : length (region (back_sizes n) 1 f) ≡ n
  sums-n = cut-length (back_sizes n) f 1 (omega arith) (omega (arith, h.floats))

  rows-n : length (region (out_sizes n) 0 w) ≡ n
  rows-n = cut-length (out_sizes n) w 0 (omega arith) (omega (arith, h.words))

  mine-is : sums.mine ≡ get_or mine_of row nan +f sums.sum
  mine-is = q.mine ∙ ap (λ (x : Float). x +f sums.sum) (cut-get (back_sizes n) f nan 0 row row (omega arith) p.from (omega arith))

  stored-mine : cut (back_sizes n) (set f row sums.mine) ≡ set (cut (back_sizes n) f) 0 (set mine_of row sums.mine)
  stored-mine = cut-set (back_sizes n) f 0 row sums.mine row (omega arith) p.from (omega arith)

  theirs-is : sums.theirs ≡ get_or (set mine_of row sums.mine) d nan +f sums.mine
  theirs-is =
      q.theirs
      ∙ ap (λ (x : Float). x +f sums.mine)
      (cut-get (back_sizes n) (set f row sums.mine) nan 0 d d (omega arith) p.to (omega arith) ∙ ap (λ (fs : List (List Float)). get_or (get_or fs 0 []) d nan) stored-mine)

  gas-clear : T (every not_negative gas')
  gas-clear = rw q.cleared (cleared-clear b gas h.gas (mix_of b row))

  sum-clear : T (not_negative sums.sum)
  sum-clear = rw q.sum (total-clear b gas' gas-clear d)

  mine-clear : T (not_negative sums.mine)
  mine-clear = rw mine-is (add-clear (get_or mine_of row nan) sums.sum (every-at mine_of h.amounts row (omega (arith, lots_n, p.from))) sum-clear)

  set-clear : T (every not_negative (set mine_of row sums.mine))
  set-clear = every_set mine_of h.amounts row sums.mine mine-clear

  theirs-clear : T (not_negative sums.theirs)
  theirs-clear = rw theirs-is (add-clear (get_or (set mine_of row sums.mine) d nan) sums.mine (every-at (set mine_of row sums.mine) set-clear d (omega (arith, p.to, lots_n, length-set mine_of row sums.mine))) mine-clear)

  pub mine-number : T (not (is_nan sums.mine))
  mine-number = clear-number sums.mine mine-clear

  pub theirs-number : T (not (is_nan sums.theirs))
  theirs-number = clear-number sums.theirs theirs-clear

  pub told-room : s.used + 48 ≤ length e
  told-room = omega (arith, h.bytes, h.written, p.room)

  abbrev w' : List ℕ
  w' = set w s.rips row

  abbrev f' : ℕ → List Float
  f' place = set f₁ (place + s.rips) sums.sum

  stores_w : cut (out_sizes n) w' ≡ set (cut (out_sizes n) w) 0 (set (region (out_sizes n) 0 w) s.rips row)
  stores_w = cut-set (out_sizes n) w 0 s.rips row s.rips (omega arith) (omega (arith, p.room)) (omega arith)

  stores_f : (place : ℕ) → place ≡ sums_at n → cut (back_sizes n) (f' place) ≡ (set (set mine_of row sums.mine) d sums.theirs ∷ set (region (back_sizes n) 1 f) s.rips sums.sum ∷ region (back_sizes n) 2 f ∷ [])
  stores_f place o =
      cut-set (back_sizes n) f₁ 1 s.rips sums.sum (place + s.rips) (omega arith) (omega (arith, p.room)) (omega (arith, o))
      ∙ ap (λ (fs : List (List Float)). set fs 1 (set (get_or fs 1 []) s.rips sums.sum))
      (ap (cut (back_sizes n)) q.amounts
      ∙ cut-set (back_sizes n) (set f row sums.mine) 0 d sums.theirs d (omega arith) p.to (omega arith)
      ∙ ap (λ (fs : List (List Float)). set fs 0 (set (get_or fs 0 []) d sums.theirs)) stored-mine)

  more_rows : take (s.rips + 1) (set (region (out_sizes n) 0 w) s.rips row) ≡ snoc (take s.rips (region (out_sizes n) 0 w)) row
  more_rows = rw add-one (take-suc-set (region (out_sizes n) 0 w) s.rips row (omega (arith, p.room, rows-n)))

  more-sums : take (s.rips + 1) (set (region (back_sizes n) 1 f) s.rips sums.sum) ≡ snoc (take s.rips (region (back_sizes n) 1 f)) sums.sum
  more-sums = rw add-one (take-suc-set (region (back_sizes n) 1 f) s.rips sums.sum (omega (arith, p.room, sums-n)))

  even : length (take s.rips (region (out_sizes n) 0 w)) ≡ length (take s.rips (region (back_sizes n) 1 f))
  even = length-take-le s.rips (region (out_sizes n) 0 w) (omega (arith, p.room, rows-n)) ∙ sym (length-take-le s.rips (region (back_sizes n) 1 f) (omega (arith, p.room, sums-n)))

  -- the next one's direction, as the code reads it
  pub direction-at : (ways : ℕ) → ways ≡ ways_at n → get_or w (ways + d) 0 ≡ get_or (directions n w) d 0
  direction-at ways o = cut-get (out_sizes n) w 0 3 d (ways + d) (omega arith) p.to (omega (arith, o))

  -- what is told of the turf
  abbrev tells : ℕ → Bool → List Event
  tells arrows last = told arrows (get_or b.ids row 0) (get_or b.ids d 0) sums.mine sums.theirs last

  module _ (place : ℕ) (at_place : place ≡ sums_at n) (arrows : ℕ) (last : Bool) (o : last ≡ eqb (get_or (directions n w) d 0) 0) (e' : List ℕ) (used : ℕ) (wr : Wrote (encode_all (tells arrows last)) s.used used e e') (lg : length gas' ≡ length gas) where
    abbrev g : Way
    g = record { rips = s.rips + 1; used = used }

    tells_size : size (tells arrows last) ≤ 48
    unfolding told
    tells_size = told-size arrows (get_or b.ids row 0) (get_or b.ids d 0) sums.mine sums.theirs last

    f₁_length : length f₁ ≡ length f
    f₁_length = ap length q.amounts ∙ length-set (set f row sums.mine) d sums.theirs ∙ length-set f row sums.mine

    f_length : length (f' place) ≡ length f
    f_length = length-set f₁ (place + s.rips) sums.sum ∙ f₁_length

    same : (es : List Event) → back_of b.ids (back_state_at g gas' w' (f' place) e') (es ++ tells arrows last) ≡ back_to b arrows (directions n w) row d (back_of b.ids (back_state_at s gas w f e) es)
    unfolding back_of back_to told
    same es =
        ap₂ (λ (ws : List (List ℕ)) (fs : List (List Float)). back_in b.ids g gas' ws fs (es ++ tells arrows last)) stores_w (stores_f place at_place)
        ∙ rw (more_rows, more-sums, rips-snoc b.ids (take s.rips (region (out_sizes n) 0 w)) (take s.rips (region (back_sizes n) 1 f)) row sums.sum even) (rw (← q.cleared, ← q.sum, ← mine-is, ← theirs-is, o))

    pub does-back : WalkDoes (backing b) (back_to b arrows (directions n w) row d) (back_state_at s gas w f e) (back_state_at g gas' w' (f' place) e')
    does-back = record {
      fit = record {
        small = h.small;
        words = rw length-set h.words;
        floats = rw f_length h.floats;
        bytes = rw (wrote-length wr) h.bytes;
        written = omega (arith, h.written, wr.end, tells_size);
        few = omega (arith, p.room);
        count = lg ∙ h.count;
        gas = gas-clear;
        amounts = subst (λ (fs : List (List Float)). T (every not_negative (get_or fs 0 []))) (sym (stores_f place at_place)) (every_set (set mine_of row sums.mine) set-clear d sums.theirs theirs-clear);
        sums = subst (λ (fs : List (List Float)). T (every not_negative (take (s.rips + 1) (get_or fs 1 [])))) (sym (stores_f place at_place)) (rw more-sums (every-snoc (take s.rips (region (back_sizes n) 1 f)) h.sums sums.sum sum-clear));
        rows = subst (λ (ws : List (List ℕ)). Below n (take (s.rips + 1) (get_or ws 0 []))) (sym stores_w) (rw more_rows (Below-snoc n (take s.rips (region (out_sizes n) 0 w)) row h.rows p.from));
        directed = subst (λ (ws : List (List ℕ)). (x : ℕ) → get_or (get_or ws 3 []) x 0 ≤ n) (sym stores_w) h.directed;
      };
      kept = rw (length-set w s.rips row, f_length, lg) (ap₂ (λ (ws : List (List ℕ)) (fs : List (List Float)). record { words = length w; arrays = drop 1 ws; floats = length f; beyond = get_or fs 2 []; gas = length gas }) stores_w (stores_f place at_place));
      new = tells arrows last;
      wrote = wr;
      same = same;
    }
