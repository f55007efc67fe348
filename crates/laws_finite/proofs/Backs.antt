-- Every record that the way back writes is read back: its amounts, kinds 7 and 8, are finite. In units of 2 ^ 46, a total's bound, the turfs yet to be passed and
-- those without direction hold no more together than turfs were passed. Assumes nothing.
use mathlib.Core.Path.{◌≡◌, refl, sym, ap, ◌∙◌, subst}
use mathlib.Core.Logic.{◌≢◌, ◌⊎◌, inl, inr}
use mathlib.Core.Bool.{Bool, true, false}
use mathlib.Core.List.{List, [], ◌∷◌}
use Prim.Native.Nat.{ℕ, ◌+◌, ◌-◌, ◌*◌, ◌^◌, ◌≤◌, ◌<◌}
use native.Mathlib.Nat.{le_of_eq}
use native.Mathlib.Bridge.{le_by_compare, IsLe}
use native.Mathlib.Decide.{ℕ_discrete}
use native.Mathlib.Omega.{arith}
use lib.Dec.{T, eqb, eqb→eq, eqb_refl}
use lib.ListN.{length, get_or, set, length-set}
use lib.Seq.{get_or-set_same, get_or-set_other}
use lib.Ieee.{Float, nan, binary32}
use lib.Ieee.Fits.{add-fits}
use borrow.Author.Tests.{eq-eqb}
use Rattle.basics.proofs.Tests.{differ}
use Rattle.basics.specs.Loops.{run, member}
use Rattle.basics.specs.Floats.{◌+f◌}
use Rattle.basics.specs.Lists.{All}
use Rattle.basics.proofs.Lists.{All-append, All-snoc, Apart, or_left, or_right, member-has}
use Rattle.rules_board.specs.Board.{Board, turf_count, id_of, mix_of}
use Rattle.rules_mixture.specs.Mixture.{total, clear_air}
use Rattle.rules_events.specs.Readings.{Readable}
use Rattle.rules_events.specs.declared.Event.TheVariants.{FloorRip}
use Rattle.rules_back.specs.Back.{Back, back_to, back}
use Rattle.laws_finite.proofs.Laws.{Within, within-add, under_more, under_finite}
use Rattle.laws_finite.proofs.Shares.{all, all-at, all-shift, shift, length_shift}
use Rattle.laws_finite.proofs.EachKind.{Word, high-readable, differences-readable, rip_readable, total-fit}
use Rattle.laws_finite.proofs.Totals.{total-within, clear_within}

module _ (b : Board) (gases : b.gases ≤ 64) (turfs : turf_count b ≤ 4096) where
  total-unit : (gas : List Float) (r : ℕ) → All (Within 40 1) gas → Within 46 1 (total b gas r)
  unfolding IsLe
  total-unit gas r h = under_more (1 * 2 ^ 46) (le_by_compare (64 * 2 ^ 40) (1 * 2 ^ 46) tt) (total-within 40 (omega arith) 1 b gas r gases (le_by_compare 65 (2 ^ 24) tt) h)

  module _ (ids : (r : ℕ) → Word (id_of b r)) (direction : List ℕ) (near : (r : ℕ) → get_or direction r 0 ≤ turf_count b) where
    -- a row whose amount is still read: it has no direction, or is yet to be passed
    abbrev Live : List ℕ → ℕ → Type 0
    Live rest r = (get_or direction r 0 ≡ 0) ⊎ T (member r rest)

    -- what the way back keeps, with the rows yet to be passed
    pub record Going (rest : List ℕ) (s : Back) : Type 0 where
      pub gas : All (Within 40 1) s.gas
      pub size : length s.amount ≡ turf_count b
      pub ms : List ℕ
      pub sized : length ms ≡ turf_count b
      pub few : all ms + length rest ≤ turf_count b
      pub bound : (r : ℕ) → r < turf_count b → Live rest r → Within 46 (get_or ms r 0) (get_or s.amount r nan)
      pub events : All Readable s.events
      pub rips : All Readable s.rips

    live_more : (r x : ℕ) (rest : List ℕ) → Live rest x → Live (r ∷ rest) x
    unfolding member
    live_more r x rest (inl e) = inl e
    live_more r x rest (inr t) = inr (or_right (eqb x r) (member x rest) t)

    live-other : (r x : ℕ) (rest : List ℕ) → get_or direction r 0 ≢ 0 → All (λ j. j ≢ r) rest → Live rest x → x ≢ r
    live-other r x rest n a (inl e) i = n (subst (λ z. get_or direction z 0 ≡ 0) i e)
    live-other r x rest n a (inr t) i = member-has (λ j. j ≢ r) x rest a t i

    module _ (r : ℕ) (rest : List ℕ) (row : r < turf_count b) (apart : All (λ j. j ≢ r) rest) (points : get_or direction r 0 ≢ 0) (s : Back) (g : Going (r ∷ rest) s) where
      abbrev d : ℕ
      d = get_or direction r 0 - 1

      d_row : d < turf_count b
      d_row = let h = near r in let p = points in omega arith

      abbrev air : List Float
      air = clear_air b (mix_of b r) s.gas

      abbrev sum : Float
      sum = total b air d

      abbrev mine : Float
      mine = get_or s.amount r nan +f sum

      abbrev theirs : Float
      theirs = get_or (set s.amount r mine) d nan +f mine

      abbrev m : ℕ
      m = get_or g.ms r 0

      abbrev ms' : List ℕ
      ms' = shift g.ms r d (m + 1)

      R : r < length g.ms
      R = subst (λ n. r < n) (sym g.sized) row

      D : d < length g.ms
      D = subst (λ n. d < n) (sym g.sized) d_row

      grown : all ms' ≡ all g.ms + 1
      grown = let e = all-shift g.ms r d (m + 1) R D in omega arith

      few-units : all ms' + length rest ≤ turf_count b
      few-units = let e = grown in let f = g.few in omega arith

      air-within : All (Within 40 1) air
      air-within = clear_within 40 (omega arith) 1 b (mix_of b r) s.gas g.gas

      sum-unit : Within 46 1 sum
      sum-unit = total-unit air d air-within

      mine-within : Within 46 (m + 1) mine
      unfolding member
      mine-within =
          let e = all-at g.ms r in
          let f = g.few in
          within-add 46 (omega arith) m 1 (m + 1) (omega arith) (omega arith) (g.bound r row (inr (or_left (eqb r r) (member r rest) (eqb_refl r)))) sum-unit

      theirs-within : Live rest d → Within 46 (get_or ms' d 0) theirs
      theirs-within l =
          let o : d ≢ r = live-other r d rest points apart l in
          let x : get_or (set s.amount r mine) d nan ≡ get_or s.amount d nan = get_or-set_other s.amount r d mine nan o in
          let y : get_or (set g.ms r 0) d 0 ≡ get_or g.ms d 0 = get_or-set_other g.ms r d 0 0 o in
          let z : get_or ms' d 0 ≡ get_or (set g.ms r 0) d 0 + (m + 1) = get_or-set_same (set g.ms r 0) d (get_or (set g.ms r 0) d 0 + (m + 1)) 0 (subst (λ n. d < n) (sym (length-set g.ms r 0)) D) in
          let top : get_or ms' d 0 ≤ all ms' = all-at ms' d in
          let f = few-units in
          within-add 46 (omega arith) (get_or g.ms d 0) (m + 1) (get_or ms' d 0) (le_of_eq (ap (λ n. n + (m + 1)) (sym y) ∙ sym z)) (omega arith)
          (subst (λ w. Within 46 (get_or g.ms d 0) w) (sym x) (g.bound d d_row (live_more r d rest l))) mine-within

      at-d : Live rest d → Within 46 (get_or ms' d 0) (get_or (set (set s.amount r mine) d theirs) d nan)
      at-d l =
          subst (λ w. Within 46 (get_or ms' d 0) w)
          (sym (get_or-set_same (set s.amount r mine) d theirs nan (subst (λ n. d < n) (sym (length-set s.amount r mine ∙ g.size)) d_row))) (theirs-within l)

      others : (x : ℕ) → x < turf_count b → Live rest x → Within 46 (get_or ms' x 0) (get_or (set (set s.amount r mine) d theirs) x nan)
      others x i l = elim (ℕ_discrete x d) [
        | yes e ↦ subst (λ y. Live rest y → Within 46 (get_or ms' y 0) (get_or (set (set s.amount r mine) d theirs) y nan)) (sym e) at-d l
        | no n ↦
            let o : x ≢ r = live-other r x rest points apart l in
            subst (λ k. Within 46 k (get_or (set (set s.amount r mine) d theirs) x nan))
            (sym (get_or-set_other (set g.ms r 0) d x (get_or (set g.ms r 0) d 0 + (m + 1)) 0 n ∙ get_or-set_other g.ms r x 0 0 o))
            (subst (λ w. Within 46 (get_or g.ms x 0) w) (sym (get_or-set_other (set s.amount r mine) d x theirs nan n ∙ get_or-set_other s.amount r x mine nan o))
            (g.bound x i (live_more r x rest l)))
      ]

      pub passed : (arrows : ℕ) → Going rest (back_to b arrows direction r d s)
      unfolding back_to
      passed arrows = record {
        gas = air-within;
        size = length-set (set s.amount r mine) d theirs ∙ length-set s.amount r mine ∙ g.size;
        ms = ms';
        sized = length_shift g.ms r d (m + 1) ∙ g.sized;
        few = few-units;
        bound = others;
        events = All-append Readable s.events _ g.events (
          high-readable (id_of b r) (ids r),
          differences-readable arrows (id_of b r) (id_of b d) mine theirs (ids r) (ids d)
              (under_finite mine-within, add-fits binary32 (get_or s.amount r nan) sum) (eqb (get_or direction d 0) 0)
              (λ t. (under_finite (theirs-within (inl (eqb→eq (get_or direction d 0) 0 t))), add-fits binary32 (get_or (set s.amount r mine) d nan) mine)),
        );
        rips = All-snoc Readable s.rips (FloorRip (id_of b r) sum) g.rips (rip_readable (id_of b r) sum (ids r) (under_finite sum-unit, total-fit b air d));
      }

    fewer : (r : ℕ) (rest : List ℕ) (s : Back) → Going (r ∷ rest) s → Going rest s
    fewer r rest s g = record {
      gas = g.gas;
      size = g.size;
      ms = g.ms;
      sized = g.sized;
      few = let f = g.few in omega arith;
      bound = λ x i l. g.bound x i (live_more r x rest l);
      events = g.events;
      rips = g.rips;
    }

    pub all-passed : (arrows : ℕ) (xs : List ℕ) (s : Back) → Apart xs → All (λ x. x < turf_count b) xs → Going xs s → Going [] (run (back b arrows direction) xs s)
    unfolding run
    all-passed arrows [] s a h g = g
    all-passed arrows (r ∷ rest) s a h g = all-passed arrows rest (back b arrows direction r s) a.1 h.1 (go (eqb (get_or direction r 0) 0) refl)
      where
        go : (t : Bool) → eqb (get_or direction r 0) 0 ≡ t → Going rest (back b arrows direction r s)
        go true e = unfold back in rw e (fewer r rest s g)
        go false e = unfold back in rw e (passed r rest h.0 a.0 (λ z. differ (sym (eq-eqb (get_or direction r 0) 0 z) ∙ e)) s g arrows)
