-- A move of air, in units of 2 ^ 40: all mixtures together come to no more than 128 units more. Assumes nothing.
use mathlib.Core.Path.{◌≡◌, refl, ap}
use mathlib.Core.Bool.{Bool, true, false, cond}
use mathlib.Core.List.{List, [], ◌∷◌, ◌++◌}
use Prim.Native.Nat.{ℕ, zero, suc, ◌+◌, ◌-◌, ◌*◌, ◌/◌, ◌^◌, ◌≤◌, ◌<◌, zero-le}
use native.Mathlib.Nat.{le_trans, le_of_eq, mul-le-mul_left}
use native.Mathlib.Omega.{arith}
use lib.ListN.{length, take, drop, length-take}
use lib.Seq.{drop-drop}
use lib.Ieee.{Float, up, down}
use lib.Ieee.Fits.{down_pos}
use Rattle.basics.specs.Floats.{1f, ◌-f◌}
use Rattle.rules_board.specs.Board.{Board, immutable_mix}
use Rattle.rules_mixture.specs.Mixture.{sum, scale, plus, ratio, remove, part, put_part, amounts, change, move_air}
use Rattle.laws_finite.proofs.Laws.{exact}
use Rattle.laws_finite.proofs.Shares.{all}
use Rattle.laws_finite.proofs.Ratios.{Frac, Clear, mul-frac, add-clear, Unit-part, unit_part, floor, floor_le, part-frac, rest-frac}

-- each amount with its bound in units of 2 ^ 40
abbrev pub Ranked : List ℕ → List Float → Type 0
Ranked [] [] = Unit {0}
Ranked [] (x ∷ xs) = ⊥
Ranked (m ∷ ms) [] = ⊥
Ranked (m ∷ ms) (x ∷ xs) = Clear (m * 2 ^ 40) x × Ranked ms xs

pub ranked_take : (n : ℕ) (ms : List ℕ) (xs : List Float) → Ranked ms xs → Ranked (take n ms) (take n xs)
ranked_take zero ms xs r = tt
ranked_take (suc n) [] [] r = tt
ranked_take (suc n) [] (x ∷ xs) r = absurd r
ranked_take (suc n) (m ∷ ms) [] r = absurd r
ranked_take (suc n) (m ∷ ms) (x ∷ xs) r = (r.0, ranked_take n ms xs r.1)

pub ranked_drop : (n : ℕ) (ms : List ℕ) (xs : List Float) → Ranked ms xs → Ranked (drop n ms) (drop n xs)
ranked_drop zero ms xs r = r
ranked_drop (suc n) [] [] r = tt
ranked_drop (suc n) [] (x ∷ xs) r = absurd r
ranked_drop (suc n) (m ∷ ms) [] r = absurd r
ranked_drop (suc n) (m ∷ ms) (x ∷ xs) r = ranked_drop n ms xs r.1

pub ranked_append : (ms ns : List ℕ) (xs ys : List Float) → Ranked ms xs → Ranked ns ys → Ranked (ms ++ ns) (xs ++ ys)
ranked_append [] ns [] ys r t = t
ranked_append [] ns (x ∷ xs) ys r t = absurd r
ranked_append (m ∷ ms) ns [] ys r t = absurd r
ranked_append (m ∷ ms) ns (x ∷ xs) ys r t = (r.0, ranked_append ms ns xs ys r.1 t)

pub all_append : (xs ys : List ℕ) → all (xs ++ ys) ≡ all xs + all ys
unfolding all
all_append [] ys = omega arith
all_append (x ∷ xs) ys = let e = all_append xs ys in omega arith

pub all_split : (n : ℕ) (xs : List ℕ) → all (take n xs) + all (drop n xs) ≡ all xs
unfolding all
all_split zero xs = omega arith
all_split (suc n) [] = refl
all_split (suc n) (x ∷ xs) = let e = all_split n xs in omega arith

-- the same parts of the units
abbrev part_n : ℕ → ℕ → List ℕ → List ℕ
part_n g m ms = take g (drop (m * g) ms)

-- a mixture's units set anew
abbrev put_n : ℕ → ℕ → List ℕ → List ℕ → List ℕ
put_n g m new ms = take (m * g) ms ++ (new ++ drop (m * g + g) ms)

all-put : (g m : ℕ) (new ms : List ℕ) → all (put_n g m new ms) + all (part_n g m ms) ≡ all ms + all new
all-put g m new ms =
    let a = all_append (take (m * g) ms) (new ++ drop (m * g + g) ms) in
    let c = all_append new (drop (m * g + g) ms) in
    let d = ap all (drop-drop g (m * g) ms) in
    let e = all_split (m * g) ms in
    let f = all_split g (drop (m * g) ms) in
    omega arith

ranked_put : (g m : ℕ) (new : List ℕ) (ys : List Float) (ms : List ℕ) (gas : List Float) → Ranked new ys → Ranked ms gas → Ranked (put_n g m new ms) (put_part g m ys gas)
ranked_put g m new ys ms gas r q =
    ranked_append (take (m * g) ms) (new ++ drop (m * g + g) ms) (take (m * g) gas) (ys ++ drop (m * g + g) gas) (ranked_take (m * g) ms gas q)
    (ranked_append new (drop (m * g + g) ms) ys (drop (m * g + g) gas) r (ranked_drop (m * g + g) ms gas q))

-- ---- a part of each

-- the units of a part of A 2 ^ -24ths of each, rounded up
unfoldable up_n : ℕ → List ℕ → List ℕ
up_n A [] = []
up_n A (m ∷ ms) = (m * A / 16777216 + 1) ∷ up_n A ms

up_le : (m A : ℕ) → A ≤ 16777217 → m < 16777215 → (m * A ≤ (m * A / 16777216 + 1) * 16777216) × (m * A / 16777216 + 1 < 2 ^ 24)
up_le m A h l = let i = mul-le-mul_left m h in (omega arith, omega arith)

scale-ranked : (A : ℕ) (q : Float) → A ≤ 16777217 → Frac A q → (ms : List ℕ) (xs : List Float) → all ms < 16777215 → Ranked ms xs → Ranked (up_n A ms) (scale q xs)
unfolding up_n scale all
scale-ranked A q h f [] [] l r = tt
scale-ranked A q h f [] (x ∷ xs) l r = absurd r
scale-ranked A q h f (m ∷ ms) [] l r = absurd r
scale-ranked A q h f (m ∷ ms) (x ∷ xs) l r =
    let u = up_le m A h (omega arith) in
    (mul-frac 40 (omega arith) m A (m * A / 16777216 + 1) u.0 u.1 r.0 f, scale-ranked A q h f ms xs (omega arith) r.1)

both-parts : (m A c : ℕ) → A + c ≡ 16777217 → m < 16777215 → (m * A / 16777216 + 1) + (m * c / 16777216 + 1) ≤ m + 2
both-parts m A c e l = let i = ap (λ x. m * x) e in omega arith

all-parts : (A c : ℕ) → A + c ≡ 16777217 → (ms : List ℕ) → all ms < 16777215 → all (up_n A ms) + all (up_n c ms) ≤ all ms + 2 * length ms
unfolding up_n all
all-parts A c e [] l = omega arith
all-parts A c e (m ∷ ms) l = let i = both-parts m A c e (omega arith) in let j = all-parts A c e ms (omega arith) in omega arith

up_one : (m A : ℕ) → A ≤ 16777217 → m < 16777215 → m * A / 16777216 + 1 ≤ m + 1
up_one m A h l = let i = mul-le-mul_left m h in omega arith

up-most : (A : ℕ) → A ≤ 16777217 → (ms : List ℕ) → all ms < 16777215 → all (up_n A ms) ≤ all ms + length ms
unfolding up_n all
up-most A h [] l = omega arith
up-most A h (m ∷ ms) l = let i = up_one m A h (omega arith) in let j = up-most A h ms (omega arith) in omega arith

floor_most : {q : Float} → Unit-part q → floor q ≤ 16777216
unfolding floor
floor_most (unit_part {m} {e} h) = (floor_le (m * up e) (down e) (down_pos e) h).0

-- ---- a sum of two

-- the units of two side by side
unfoldable plus_n : List ℕ → List ℕ → List ℕ
plus_n [] ns = []
plus_n (m ∷ ms) [] = m ∷ ms
plus_n (m ∷ ms) (n ∷ ns) = (m + n) ∷ plus_n ms ns

all-plus : (ms ns : List ℕ) → all (plus_n ms ns) ≤ all ms + all ns
unfolding plus_n all
all-plus [] ns = zero-le
all-plus (m ∷ ms) [] = omega arith
all-plus (m ∷ ms) (n ∷ ns) = let e = all-plus ms ns in omega arith

plus-ranked : (ms ns : List ℕ) (xs ys : List Float) → all ms + all ns < 16777215 → Ranked ms xs → Ranked ns ys → Ranked (plus_n ms ns) (plus xs ys)
unfolding plus_n plus all
plus-ranked [] ns [] ys l r t = tt
plus-ranked [] ns (x ∷ xs) ys l r t = absurd r
plus-ranked (m ∷ ms) ns [] ys l r t = absurd r
plus-ranked (m ∷ ms) [] (x ∷ xs) [] l r t = r
plus-ranked (m ∷ ms) [] (x ∷ xs) (y ∷ ys) l r t = absurd t
plus-ranked (m ∷ ms) (n ∷ ns) (x ∷ xs) [] l r t = absurd t
plus-ranked (m ∷ ms) (n ∷ ns) (x ∷ xs) (y ∷ ys) l r t =
    (add-clear ((m + n) * 2 ^ 40) (exact (m + n) 40 (omega arith) (omega arith)) (omega arith) r.0 t.0, plus-ranked ms ns xs ys (omega arith) r.1 t.1)

-- ---- a move

-- units that bound the gas after a move
pub record Moved (ms : List ℕ) (gas : List Float) : Type 0 where
  pub ms' : List ℕ
  pub ranked : Ranked ms' gas
  pub grown : all ms' ≤ all ms + 128

module _ (b : Board) (gases : b.gases ≤ 64) (giver taker : ℕ) (a : Float) (ms : List ℕ) (gas : List Float) (r : Ranked ms gas) (small : all ms + 128 < 16777215)
    (still : immutable_mix b giver ≡ true → (ns : List ℕ) × (Ranked ns (part b.gases giver gas) × ((all ns ≤ 64) × (length ns ≤ 64))))
    (whole : Unit-part (ratio a (sum (part b.gases giver gas)))) where
  abbrev g : ℕ
  g = b.gases

  abbrev xs : List Float
  xs = part g giver gas

  abbrev q : Float
  q = ratio a (sum xs)

  abbrev A : ℕ
  A = floor q + 1

  abbrev c : ℕ
  c = 16777216 - floor q

  low_part : floor q ≤ 16777216
  low_part = floor_most whole

  Ac : A + c ≡ 16777217
  Ac = let l = low_part in omega arith

  A_most : A ≤ 16777217
  A_most = let l = low_part in omega arith

  c_most : c ≤ 16777217
  c_most = omega arith

  abbrev ps : List ℕ
  ps = part_n g giver ms

  ps_ranked : Ranked ps xs
  ps_ranked = ranked_take g (drop (giver * g) ms) (drop (giver * g) gas) (ranked_drop (giver * g) ms gas r)

  ps_all : all ps ≤ all ms
  ps_all = let e = all_split (giver * g) ms in let f = all_split g (drop (giver * g) ms) in omega arith

  ps_few : length ps ≤ 64
  ps_few = le_trans (le_of_eq (length-take g (drop (giver * g) ms))) (omega arith)

  -- what is left, what goes
  record Parted (i : Bool) : Type 0 where
    lms : List ℕ
    left : Ranked lms (cond i gas (put_part g giver (scale (1f -f q) xs) gas))
    gms : List ℕ
    goes : Ranked gms (scale q xs)
    grown : all lms + all gms ≤ all ms + 128

  parted : (i : Bool) → immutable_mix b giver ≡ i → Parted i
  parted true e =
      let s = still e in
      let s2 = s.1.1.0 in
      let s3 = s.1.1.1 in
      let p = all-parts A c Ac s.0 (omega arith) in
      record {
        lms = ms;
        left = r;
        gms = up_n A s.0;
        goes = scale-ranked A q A_most (part-frac whole) s.0 xs (omega arith) s.1.0;
        grown = one-part_most s.0 s2 s3;
      }
    where
      one-part_most : (ns : List ℕ) → all ns ≤ 64 → length ns ≤ 64 → all ms + all (up_n A ns) ≤ all ms + 128
      one-part_most ns i j = let k = up-most A A_most ns (omega arith) in omega arith
  parted false e =
      let p = all-parts A c Ac ps (let k = ps_all in omega arith) in
      let f = ps_few in
      let u = all-put g giver (up_n c ps) ms in
      let k = ps_all in
      record {
        lms = put_n g giver (up_n c ps) ms;
        left = ranked_put g giver (up_n c ps) (scale (1f -f q) xs) ms gas (scale-ranked c (1f -f q) c_most (rest-frac whole) ps xs (omega arith) ps_ranked) r;
        gms = up_n A ps;
        goes = scale-ranked A q A_most (part-frac whole) ps xs (omega arith) ps_ranked;
        grown = omega arith;
      }

  taken : (i : Bool) (left : List Float) (lms gms : List ℕ) → Ranked lms left → Ranked gms (scale q xs) → all lms + all gms ≤ all ms + 128
      → Moved ms (cond i left (put_part g taker (plus (part g taker left) (scale q xs)) left))
  taken true left lms gms l p h = record { ms' = lms; ranked = l; grown = omega arith }
  taken false left lms gms l p h =
      let ts = part_n g taker lms in
      let tr : Ranked ts (part g taker left) = ranked_take g (drop (taker * g) lms) (drop (taker * g) left) (ranked_drop (taker * g) lms left l) in
      let e = all_split (taker * g) lms in
      let f = all_split g (drop (taker * g) lms) in
      let u = all-put g taker (plus_n ts gms) lms in
      let v = all-plus ts gms in
      record { ms' = put_n g taker (plus_n ts gms) lms; ranked = ranked_put g taker (plus_n ts gms) (plus (part g taker left) (scale q xs)) lms left (plus-ranked ts gms (part g taker left) (scale q xs) (omega arith) tr p) l; grown = omega arith }

  pub move_ranked : Moved ms (move_air b giver taker a gas)
  unfolding move_air change remove amounts
  move_ranked =
      let p = parted (immutable_mix b giver) refl in
      taken (immutable_mix b taker) _ p.lms p.gms p.left p.goes p.grown
