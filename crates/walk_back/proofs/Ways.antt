-- The order from its end, and then the rips. Assumes nothing.
use Prim.Native.Nat.{ℕ, ◌+◌, ◌-◌, ◌*◌, ◌≤◌, ◌<◌}
use native.Mathlib.Omega.{arith}
use native.Mathlib.Numerals.{add-one}
use mathlib.Core.Path.{◌≡◌, refl, ap, ◌∙◌, sym}
use mathlib.Core.List.{List, [], ◌∷◌, ◌++◌, reverse, append_assoc, append-nil}
use mathlib.Core.Bool.{true, false, not}
use lib.Dec.{T, eqb}
use lib.ListN.{length, get_or, take, drop, replicate, length-drop, length-append, length-replicate}
use lib.Seq.{take-suc, length-take-le, get_or-take, get_or-drop, take-take, take_at, drop_at}
use lib.Ieee.{Float, nan, is_nan}
use borrow.Author.Tests.{eq-eqb, ne_eqb}
use Rattle.basics.specs.Loops.{run, every, snoc}
use Rattle.basics.specs.Floats.{0f}
use Rattle.basics.specs.Regions.{region}
use Rattle.basics.proofs.Regions.{cut-get, cut-length}
use Rattle.rules_board.specs.Board.{Board, turf_count}
use Rattle.rules_events.specs.Events.{encode_all, encode, kind_of, size_of}
use Rattle.events.specs.Area.{Wrote}
use Rattle.rules_events.specs.declared.Event.{Event}
use Rattle.rules_events.specs.declared.Event.TheVariants.{FloorRip}
use Rattle.events.proofs.Areas.{wrote-length}
use Rattle.events.proofs.Sizes.{encode-size, size, size-cons}
use Rattle.index_set.specs.Line.{Below}
use Rattle.index_set.proofs.Queue.{Below-at}
use Rattle.scratch.specs.Layout.{out_sizes, back_sizes, order_at, ways_at, sums_at, out_room}
use Rattle.walk_links.specs.Does.{WalkDoes}
use Rattle.walk_links.proofs.Does.{does-as, none-wrote, both-wrote, Going}
use Rattle.walk_links.specs.Reached.{Ground}
use Rattle.rules_back.specs.Back.{Back, back_to, back}
use Rattle.walk_back.specs.Backed.{BackState, back_state_at, rips_of, back_of, BackRest, BackFits, backing, BackGoes, Points, directions, back_next, Rips, rip_at, Ripping, back_areas, BackStarts, Backed}
use Rattle.walk_back.specs.declared.Way.{Way}
use Rattle.walk_back.proofs.Signs.{clear-number, every-at, every-replicate}
use Rattle.walk_back.proofs.Backs.{rips-snoc, written-room}

-- no step changes a length or the other arrays
module _ {f f₀ : Back → Back} {b : Board} {a a' : BackState} (g : Going (backing b) f f₀ a a') where
  pub kept-words : length a'.words ≡ length a.words
  kept-words = ap (λ (r : BackRest). r.words) g.kept

  pub kept-floats : length a'.floats ≡ length a.floats
  kept-floats = ap (λ (r : BackRest). r.floats) g.kept

  pub kept-gas : length a'.gas ≡ length a.gas
  kept-gas = ap (λ (r : BackRest). r.gas) g.kept

  pub kept-area : length a'.area ≡ length a.area
  kept-area = wrote-length g.wrote

  pub kept-order : region (out_sizes (turf_count b)) 2 a'.words ≡ region (out_sizes (turf_count b)) 2 a.words
  kept-order = ap (λ (r : BackRest). get_or r.arrays 1 []) g.kept

  kept-directions : directions (turf_count b) a'.words ≡ directions (turf_count b) a.words
  kept-directions = ap (λ (r : BackRest). get_or r.arrays 2 []) g.kept

  -- a turn, by the order and the directions of the start
  pub turn-as : (arrows at : ℕ) {a'' : BackState} → WalkDoes (backing b) (back_next b arrows at a'.words) a' a''
      → WalkDoes (backing b) (back b arrows (directions (turf_count b) a.words) (get_or (region (out_sizes (turf_count b)) 2 a.words) at 0)) a' a''
  turn-as arrows at d = does-as (backing b) d (λ es. rw (kept-order, kept-directions))

-- ---- the turf at a place of the order

module _ (b : Board) (at : ℕ) (s : Way) (gas : List Float) (e w : List ℕ) (f : List Float) (h : BackFits b (back_state_at s gas w f e)) (few : s.rips + (at + 1) ≤ turf_count b)
    (rows : (i : ℕ) → i < at + 1 → get_or (region (out_sizes (turf_count b)) 2 w) i 0 < turf_count b) (order ways : ℕ) (at-order : order ≡ order_at (turf_count b)) (at-ways : ways ≡ ways_at (turf_count b)) where
  abbrev n : ℕ
  n = turf_count b

  abbrev row : ℕ
  row = get_or w (order + at) 0

  row_at : row ≡ get_or (region (out_sizes n) 2 w) at 0
  row_at = cut-get (out_sizes n) w 0 2 at (order + at) (omega arith) (omega (arith, few)) (omega (arith, at-order))

  pub row_below : row < n
  row_below = rw row_at (rows at (omega arith))

  way_at : get_or w (ways + row) 0 ≡ get_or (directions n w) row 0
  way_at = cut-get (out_sizes n) w 0 3 row (ways + row) (omega arith) row_below (omega (arith, at-ways))

  pub way-below : get_or w (ways + row) 0 ≤ n
  way-below = rw way_at (h.directed row)

  pub points : Ground b → (get_or w (ways + row) 0 ≡ 0 → ⊥) → Points b row (get_or w (ways + row) 0 - 1) (back_state_at s gas w f e)
  points g z = record { ground = g; fit = h; from = row_below; to = omega (arith, way-below); room = omega (arith, few) }

  pub back-skip : (arrows : ℕ) → get_or w (ways + row) 0 ≡ 0 → WalkDoes (backing b) (back_next b arrows at w) (back_state_at s gas w f e) (back_state_at s gas w f e)
  back-skip arrows z = record {
    fit = h;
    kept = refl;
    new = [];
    wrote = none-wrote s.used e (written-room b (back_state_at s gas w f e) h);
    same = skip;
  }
    where
      none : eqb (get_or (directions n w) (get_or (region (out_sizes n) 2 w) at 0) 0) 0 ≡ true
      none = eq-eqb _ 0 (ap (λ (x : ℕ). get_or (directions n w) x 0) (sym row_at) ∙ sym way_at ∙ z)

      skip : (es : List Event) → back_of b.ids (back_state_at s gas w f e) (es ++ []) ≡ back_next b arrows at w (back_of b.ids (back_state_at s gas w f e) es)
      skip es = unfold back_of back in rw (none, append-nil es)

  pub back_on : (arrows : ℕ) → (get_or w (ways + row) 0 ≡ 0 → ⊥) → {a : BackState} → WalkDoes (backing b) (back_to b arrows (directions n w) row (get_or w (ways + row) 0 - 1)) (back_state_at s gas w f e) a
      → WalkDoes (backing b) (back_next b arrows at w) (back_state_at s gas w f e) a
  back_on arrows z {a} d = record { fit = d.fit; kept = d.kept; new = d.new; wrote = d.wrote; same = λ es. d.same es ∙ on es }
    where
      some : eqb (get_or (directions n w) (get_or (region (out_sizes n) 2 w) at 0) 0) 0 ≡ false
      some = ne_eqb _ 0 (λ q. z (way_at ∙ ap (λ (x : ℕ). get_or (directions n w) x 0) row_at ∙ q))

      on : (es : List Event) → back_to b arrows (directions n w) row (get_or w (ways + row) 0 - 1) (back_of b.ids (back_state_at s gas w f e) es) ≡ back_next b arrows at w (back_of b.ids (back_state_at s gas w f e) es)
      on es = unfold back back_of in rw (some, way_at, row_at)

-- ---- the loop

pub order-long : (n left : ℕ) (w : List ℕ) → out_room n ≤ length w → left ≤ n → left ≤ length (region (out_sizes n) 2 w)
order-long n left w l h = omega (arith, cut-length (out_sizes n) w 2 (omega arith) (omega arith))

-- ---- the rips

rip_size : (i : ℕ) (x : Float) → length (encode (FloorRip i x)) ≡ 12
rip_size i x = encode-size (FloorRip i x) ∙ unfold size_of kind_of in refl

-- the rip number j, from where the sums stand
pub rip_told : (ids w : List ℕ) (f : List Float) (j place : ℕ) → place ≡ sums_at (length ids) → {used to : ℕ} {e e' : List ℕ}
    → Wrote (encode_all (FloorRip (get_or ids (get_or w j 0) 0) (get_or f (place + j) nan) ∷ [])) used to e e' → Wrote (encode_all (rip_at ids j w f ∷ [])) used to e e'
rip_told ids w f j place o r = rw o at r

rips-size : (ids rs : List ℕ) (xs : List Float) → length rs ≡ length xs → size (rips_of ids rs xs) ≡ 12 * length rs
unfolding rips_of encode_all
rips-size ids [] xs l = refl
rips-size ids (r ∷ rs) [] l = absurd (omega arith)
rips-size ids (r ∷ rs) (x ∷ xs) l = omega (arith, size-cons (FloorRip (get_or ids r 0) x) (rips_of ids rs xs), encode-size (FloorRip (get_or ids r 0) x), rip_size (get_or ids r 0) x, rips-size ids rs xs (omega arith))

module _ (ids : List ℕ) (count used : ℕ) (e w : List ℕ) (f : List Float) (h : Ripping ids count used w f e) where
  abbrev ripped : ℕ → List Event
  ripped j = rips_of ids (take j w) (take j (drop (sums_at (length ids)) f))

  module _ (j : ℕ) (k : j ≤ count) where
    even : length (take j w) ≡ length (take j (drop (sums_at (length ids)) f))
    even = length-take-le j w (omega (arith, h.words)) ∙ sym (length-take-le j (drop (sums_at (length ids)) f) (rw (length-drop (sums_at (length ids)) f) (omega (arith, h.floats))))

    rips-bytes : size (ripped j) ≡ 12 * j
    rips-bytes = rips-size ids (take j w) (take j (drop (sums_at (length ids)) f)) even ∙ ap (λ (m : ℕ). 12 * m) (length-take-le j w (omega (arith, h.words)))

  pub rips-start : Wrote (encode_all (ripped 0)) used used e e
  unfolding rips_of
  rips-start = none-wrote used e (omega (arith, h.room))

  module _ (j : ℕ) (k : j < count) (at : ℕ) (e₁ : List ℕ) (wr : Wrote (encode_all (ripped j)) used at e e₁) where
    row_is : get_or w j 0 ≡ get_or (take count w) j 0
    row_is = sym (get_or-take count w j 0 k)

    rip_row : get_or w j 0 < length ids
    rip_row = rw row_is (Below-at (length ids) (take count w) j h.rows (omega (arith, length-take-le count w h.words)))

    sum_is : get_or f (sums_at (length ids) + j) nan ≡ get_or (take count (drop (sums_at (length ids)) f)) j nan
    sum_is = sym (get_or-take count (drop (sums_at (length ids)) f) j nan k ∙ get_or-drop (sums_at (length ids)) f j nan)

    rip_number : T (not (is_nan (get_or f (sums_at (length ids) + j) nan)))
    rip_number =
        let l : length (take count (drop (sums_at (length ids)) f)) ≡ count = length-take-le count (drop (sums_at (length ids)) f) (rw (length-drop (sums_at (length ids)) f) (omega (arith, h.floats))) in
        rw sum_is (clear-number _ (every-at (take count (drop (sums_at (length ids)) f)) h.sums j (omega arith)))

    pub rip_fits : Rips ids j at w f e₁
    rip_fits = record {
      small = h.small;
      words = omega (arith, h.words);
      row = rip_row;
      floats = omega (arith, h.floats);
      sum = rip_number;
      room = omega (arith, wr.end, rips-bytes j (omega arith), wrote-length wr, h.room);
    }

    next : ripped (j + 1) ≡ snoc (ripped j) (rip_at ids j w f)
    next =
        let m : j < length w = omega (arith, h.words) in
        let m' : j < length (drop (sums_at (length ids)) f) = rw (length-drop (sums_at (length ids)) f) (omega (arith, h.floats)) in
        rw (add-one j, take-suc w j 0 m, take-suc (drop (sums_at (length ids)) f) j nan m', get_or-drop (sums_at (length ids)) f j nan) (rips-snoc ids (take j w) (take j (drop (sums_at (length ids)) f)) (get_or w j 0) (get_or f (sums_at (length ids) + j) nan) (even j (omega arith)))

    pub rips-next : (to : ℕ) (e₂ : List ℕ) → Wrote (encode_all (rip_at ids j w f ∷ [])) at to e₁ e₂ → Wrote (encode_all (ripped (j + 1))) used to e e₂
    rips-next to e₂ wr₂ = rw next (both-wrote (ripped j) (rip_at ids j w f ∷ []) wr wr₂)

  pub rips-end : (j : ℕ) → j ≤ count → count ≤ j → (at : ℕ) (e₁ : List ℕ) → Wrote (encode_all (ripped j)) used at e e₁ → Wrote (encode_all (ripped count)) used at e e₁
  rips-end j k l at e₁ wr = let q : count ≡ j = omega arith in rw q wr

-- ---- the whole

module _ (b : Board) (count used : ℕ) (gas : List Float) (e w : List ℕ) (f f₁ : List Float) (h : BackStarts b count used (back_areas gas w f e)) (c : f₁ ≡ replicate (turf_count b) 0f ++ drop (turf_count b) f) where
  abbrev m : ℕ
  m = turf_count b

  abbrev first : Way
  first = record { rips = 0; used = used }

  amounts-is : region (back_sizes m) 0 f₁ ≡ replicate m 0f
  amounts-is = ap (take m) c ∙ take_at (replicate m 0f) (drop m f) m (length-replicate m 0f)

  past_is : drop m f₁ ≡ drop m f
  past_is = ap (drop m) c ∙ drop_at (replicate m 0f) (drop m f) m (length-replicate m 0f)

  f₁_length : length f₁ ≡ length f
  f₁_length = ap length c ∙ rw (length-append, length-replicate, length-drop) (omega (arith, h.floats))

  first-fit : BackFits b (back_state_at first gas w f₁ e)
  first-fit = record {
    small = h.ground.small.turfs;
    words = h.words;
    floats = rw f₁_length h.floats;
    bytes = h.bytes;
    written = omega (arith, h.written);
    few = omega arith;
    count = h.total;
    gas = h.gas;
    amounts = rw amounts-is (every-replicate m);
    sums = unfold every in tt;
    rows = unfold Below in tt;
    directed = h.directed;
  }

  pub first_goes : BackGoes b count (back_state_at first gas w f₁ e)
  first_goes = record { ground = h.ground; fit = first-fit; few = omega (arith, h.few); order = h.order }

  module _ (arrows : ℕ) (t : Way) (gas' : List Float) (e' w' : List ℕ) (f' : List Float)
      (d : WalkDoes (backing b) (run (back b arrows (directions m w)) (reverse (take count (region (out_sizes m) 2 w)))) (back_state_at first gas w f₁ e) (back_state_at t gas' w' f' e')) where
    rows_same : take t.rips (region (out_sizes m) 0 w') ≡ take t.rips w'
    rows_same = take-take t.rips m w' (omega (arith, d.fit.few))

    sums_same : take t.rips (region (back_sizes m) 1 f') ≡ take t.rips (drop m f')
    sums_same = take-take t.rips m (drop m f') (omega (arith, d.fit.few))

    pub ripping : Ripping b.ids t.rips t.used w' f' e'
    ripping = record {
      small = h.ground.small.turfs;
      words = omega (arith, d.fit.few, d.fit.words);
      floats = omega (arith, d.fit.few, d.fit.floats);
      rows = rw rows_same at d.fit.rows;
      sums = rw sums_same at d.fit.sums;
      room = omega (arith, d.fit.bytes, d.fit.written, d.fit.few);
    }

    pub backed : (to : ℕ) (e'' : List ℕ) → Wrote (encode_all (rips_of b.ids (take t.rips w') (take t.rips (drop m f')))) t.used to e' e'' → Backed b arrows count used to (back_areas gas w f e) (back_areas gas' w' f' e'')
    backed to e'' wr = record {
      words = ap (λ (r : BackRest). get_or r.arrays 4 []) d.kept;
      floats = ap (λ (r : BackRest). r.beyond) d.kept ∙ ap (drop m) past_is;
      new = d.new ++ rips_of b.ids (take t.rips w') (take t.rips (drop m f'));
      wrote = both-wrote d.new (rips_of b.ids (take t.rips w') (take t.rips (drop m f'))) d.wrote wr;
      same = λ es. (
        sym (append_assoc es d.new (rips_of b.ids (take t.rips w') (take t.rips (drop m f')))) ∙ ap (λ (v : Back). v.events ++ v.rips) (ends es),
        ap (λ (v : Back). v.gas) (ends es),
      );
    }
      where
        start : (es : List Event) → back_of b.ids (back_state_at first gas w f₁ e) es ≡ record { gas = gas; amount = replicate m 0f; events = es; rips = [] }
        start es = unfold back_of rips_of in rw amounts-is

        view : (es : List Event) → record { gas = gas'; amount = region (back_sizes m) 0 f'; events = es; rips = rips_of b.ids (take t.rips w') (take t.rips (drop m f')) } ≡ back_of b.ids (back_state_at t gas' w' f' e') es
        view es = unfold back_of in rw (rows_same, sums_same)

        ends : (es : List Event) → record { gas = gas'; amount = region (back_sizes m) 0 f'; events = es ++ d.new; rips = rips_of b.ids (take t.rips w') (take t.rips (drop m f')) }
            ≡ run (back b arrows (directions m w)) (reverse (take count (region (out_sizes m) 2 w))) (record { gas = gas; amount = replicate m 0f; events = es; rips = [] })
        ends es = view (es ++ d.new) ∙ d.same es ∙ ap (run (back b arrows (directions m w)) (reverse (take count (region (out_sizes m) 2 w)))) (start es)
