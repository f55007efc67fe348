-- Sums of amounts that are not below zero: each rounds to a value with the sign bit clear, or to infinity, and never to a NaN. Assumes nothing.
use mathlib.Core.Path.{◌≡◌, sym, subst}
use mathlib.Core.Bool.{true, false, not}
use mathlib.Core.List.{List, [], ◌∷◌, ◌++◌, map}
use Prim.Native.Nat.{ℕ, zero, suc, ◌+◌, ◌*◌, ◌^◌, ◌<◌}
use lib.Dec.{T, ltb}
use lib.ListN.{length, get_or, set, take, drop, replicate}
use lib.Ieee.{Float, nan, inf, fin, Format, binary32, prec, low, emax, up, down, add, sum as isum, round, units, odd, of_bits, of_fields, is_nan}
use Rattle.basics.specs.Loops.{every, snoc}
use Rattle.basics.specs.Floats.{0f, ◌+f◌, finite_sign_clear}
use Rattle.basics.specs.Lists.{All}
use Rattle.basics.proofs.Loops.{All-imp, All-get_or, every-all, run-keeps, cond_both, and_left}
use Rattle.basics.proofs.Lists.{All-append, All-drop, all-every, All-take}
use Rattle.rules_board.specs.Board.{Board, mix_of, immutable_mix}
use Rattle.rules_mixture.specs.Mixture.{sum, amounts, change, total_mix, total, clear_air, amount_fits}
use Rattle.walk_back.specs.Backed.{not_negative}

-- ---- one sum

odd_clear : (d q k l : ℕ) → T (not_negative (odd d false q k l))
unfolding not_negative odd
odd_clear d zero k l = tt
odd_clear d (suc q) k l = tt

units_clear : (f : Format) (q k : ℕ) → T (not_negative (units f false q k))
unfolding units not_negative
units_clear f q k = cond_both (λ x. T (not_negative x)) (ltb (q * 2 ^ k) (2 ^ (low f + suc (emax f)))) (odd (suc (prec f)) false q k (low f)) (inf false) (odd_clear (suc (prec f)) q k (low f)) tt

round_clear : (f : Format) (a c : ℕ) → T (not_negative (round f false a c))
unfolding round
round_clear f a c = units_clear f _ _

pub add-clear : (x y : Float) → T (not_negative x) → T (not_negative y) → T (not_negative (x +f y))
unfolding add isum not_negative
add-clear nan y p q = absurd p
add-clear (inf true) y p q = absurd p
add-clear (inf false) nan p q = absurd q
add-clear (inf false) (inf true) p q = absurd q
add-clear (inf false) (inf false) p q = tt
add-clear (inf false) (fin t n d) p q = tt
add-clear (fin true m e) y p q = absurd p
add-clear (fin false m e) nan p q = absurd q
add-clear (fin false m e) (inf true) p q = absurd q
add-clear (fin false m e) (inf false) p q = tt
add-clear (fin false m e) (fin true n d) p q = absurd q
add-clear (fin false m e) (fin false n d) p q = round_clear binary32 (m * up e * down d + n * up d * down e) (down e * down d)

pub zero_clear : T (not_negative 0f)
unfolding not_negative of_bits of_fields odd
zero_clear = tt

pub clear-number : (x : Float) → T (not_negative x) → T (not (is_nan x))
unfolding not_negative is_nan
clear-number nan p = p
clear-number (inf s) p = tt
clear-number (fin s m e) p = tt

-- an amount within its range
pub fits-clear : (x : Float) → T (amount_fits x) → T (not_negative x)
unfolding amount_fits
fits-clear x p = clear x (and_left (finite_sign_clear x) _ p)
  where
    clear : (x : Float) → T (finite_sign_clear x) → T (not_negative x)
    clear nan p = absurd (unfold finite_sign_clear in p)
    clear (inf s) p = absurd (unfold finite_sign_clear in p)
    clear (fin s m e) p = unfold finite_sign_clear not_negative in p

-- ---- many

abbrev Clear : Float → Type 0
Clear x = T (not_negative x)

module _ (xs : List Float) (a : T (every not_negative xs)) where
  pub every-at : (i : ℕ) → i < length xs → T (not_negative (get_or xs i nan))
  every-at i h = All-get_or Clear xs i nan (every-all not_negative xs a) h

  pub every_set : (i : ℕ) (x : Float) → T (not_negative x) → T (every not_negative (set xs i x))
  every_set i x p = all-every not_negative (set xs i x) (go xs i (every-all not_negative xs a))
    where
      go : (xs : List Float) (i : ℕ) → All Clear xs → All Clear (set xs i x)
      go [] i h = tt
      go (y ∷ ys) zero h = (p, h.1)
      go (y ∷ ys) (suc i) h = (h.0, go ys i h.1)

  pub every-snoc : (x : Float) → T (not_negative x) → T (every not_negative (snoc xs x))
  every-snoc x p = all-every not_negative (snoc xs x) (All-append Clear xs (x ∷ []) (every-all not_negative xs a) (p, tt))

pub every-replicate : (n : ℕ) → T (every not_negative (replicate n 0f))
every-replicate n = all-every not_negative (replicate n 0f) (go n)
  where
    go : (n : ℕ) → All Clear (replicate n 0f)
    go zero = tt
    go (suc n) = (zero_clear, go n)

pub fits-every : (xs : List Float) → every amount_fits xs ≡ true → T (every not_negative xs)
fits-every xs e = all-every not_negative xs (All-imp (λ x. T (amount_fits x)) Clear xs fits-clear (every-all amount_fits xs (subst T (sym e) tt)))

zeros-clear : (xs : List Float) → All Clear (map (λ x. 0f) xs)
zeros-clear [] = tt
zeros-clear (x ∷ xs) = (zero_clear, zeros-clear xs)

module _ (b : Board) (gas : List Float) (a : T (every not_negative gas)) where
  pub total-clear : (r : ℕ) → T (not_negative (total b gas r))
  unfolding total total_mix amounts sum
  total-clear r =
      run-keeps Clear Clear (λ x t. t +f x) (λ x t p q. add-clear t x q p) _ 0f
      (All-take Clear b.gases (drop (mix_of b r * b.gases) gas) (All-drop Clear (mix_of b r * b.gases) gas (every-all not_negative gas a))) zero_clear

  pub cleared-clear : (m : ℕ) → T (every not_negative (clear_air b m gas))
  unfolding clear_air change amounts
  cleared-clear m =
      let all = every-all not_negative gas a in
      let none = map (λ (x : Float). 0f) (amounts b gas m) in
      let past = drop (m * b.gases + b.gases) gas in
      all-every not_negative _
      (cond_both (All Clear) (immutable_mix b m) gas (take (m * b.gases) gas ++ (none ++ past)) all
      (All-append Clear (take (m * b.gases) gas) (none ++ past) (All-take Clear (m * b.gases) gas all)
      (All-append Clear none past (zeros-clear (amounts b gas m)) (All-drop Clear (m * b.gases + b.gases) gas all))))
