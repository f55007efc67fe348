-- A mixture's total, from amounts of no more than 2 ^ 40. Assumes nothing.
use mathlib.Core.Path.{◌≡◌, refl, sym, subst}
use mathlib.Core.Bool.{true, false}
use mathlib.Core.List.{List, [], ◌∷◌, ◌++◌, map}
use Prim.Native.Nat.{ℕ, suc, ◌+◌, ◌*◌, ◌^◌, ◌≤◌, ◌<◌}
use native.Mathlib.Nat.{le_trans, le_of_eq, mul-le-mul_right}
use native.Mathlib.Omega.{arith}
use lib.Dec.{T}
use lib.Count.{count_trailing_zeros}
use lib.ListN.{length, take, drop, length-take}
use lib.Ieee.{Float, nan, inf, fin, of_bits, of_fields, odd}
use lib.Ieee.Exact.{HasValue}
use Rattle.basics.specs.Loops.{run, every}
use Rattle.basics.specs.Floats.{0f, ◌+f◌, finite_sign_clear}
use Rattle.basics.specs.Lists.{All}
use Rattle.basics.proofs.Loops.{All-imp, All-any, All-map, every-all, cond_both}
use Rattle.basics.proofs.Lists.{All-append, All-drop, All-take}
use Rattle.rules_board.specs.Board.{Board, mix_of, immutable_mix}
use Rattle.rules_mixture.specs.Mixture.{sum, part, put_part, amounts, change, total_mix, total, clear_air, most, amount_fits}
use Rattle.laws_finite.proofs.Laws.{under, Within, from_le, within-add, within_more, within-zero}

module _ (k : ℕ) (fits : k ≤ 104) (a : ℕ) where
  sum-from : (xs : List Float) (t : Float) (m : ℕ) → m + length xs * a < 2 ^ 24 → All (Within k a) xs → Within k m t → Within k (m + length xs * a) (run (λ x t. t +f x) xs t)
  unfolding run
  sum-from [] t m l h p = within_more k fits m (m + 0 * a) (omega arith) p
  sum-from (x ∷ xs) t m l h p =
      within_more k fits (m + a + length xs * a) (m + suc (length xs) * a) (omega arith)
      (sum-from xs (t +f x) (m + a) (omega arith) h.1 (within-add k fits m a (m + a) (omega arith) (omega arith) p h.0))

  pub sum-within : (xs : List Float) → length xs * a < 2 ^ 24 → All (Within k a) xs → Within k (length xs * a) (sum xs)
  unfolding sum
  sum-within xs l h = within_more k fits (0 + length xs * a) (length xs * a) (omega arith) (sum-from xs 0f 0 (omega arith) h (within-zero k fits 0))

  pub total-within : (b : Board) (gas : List Float) (r : ℕ) → b.gases ≤ 64 → 64 * a < 2 ^ 24 → All (Within k a) gas → Within k (64 * a) (total b gas r)
  unfolding total total_mix amounts
  total-within b gas r g l h =
      let xs = part b.gases (mix_of b r) gas in
      let n : length xs ≤ 64 = le_trans (le_of_eq (length-take b.gases (drop (mix_of b r * b.gases) gas))) (omega arith) in
      let i = mul-le-mul_right a n in
      within_more k fits (length xs * a) (64 * a) i
      (sum-within xs (omega arith) (All-take (Within k a) b.gases (drop (mix_of b r * b.gases) gas) (All-drop (Within k a) (mix_of b r * b.gases) gas h)))

  -- ---- amounts that are set anew

  pub change-within : (b : Board) (m : ℕ) (new gas : List Float) → All (Within k a) new → All (Within k a) gas → All (Within k a) (change b m new gas)
  unfolding change
  change-within b m new gas n h =
      cond_both (All (Within k a)) (immutable_mix b m) gas (put_part b.gases m new gas) h
      (All-append (Within k a) (take (m * b.gases) gas) (new ++ drop (m * b.gases + b.gases) gas) (All-take (Within k a) (m * b.gases) gas h)
      (All-append (Within k a) new (drop (m * b.gases + b.gases) gas) n (All-drop (Within k a) (m * b.gases + b.gases) gas h)))

  pub clear_within : (b : Board) (m : ℕ) (gas : List Float) → All (Within k a) gas → All (Within k a) (clear_air b m gas)
  unfolding clear_air
  clear_within b m gas h =
      change-within b m (map (λ x. 0f) (amounts b gas m)) gas (All-map (Within k a) (λ x. 0f) (amounts b gas m) (All-any (λ x. Within k a 0f) (λ x. within-zero k fits a) (amounts b gas m))) h

-- ---- amounts that refusal 5 lets pass

most-value : HasValue most false (2 ^ 40) 1
unfolding of_bits of_fields odd count_trailing_zeros
most-value = (refl, refl)

pub fits-within : (x : Float) → T (amount_fits x) → Within 40 1 x
unfolding amount_fits finite_sign_clear
fits-within nan t = absurd t
fits-within (inf s) t = absurd t
fits-within (fin true m e) t = absurd t
fits-within (fin false m e) t = under (from_le m e most (2 ^ 40) most-value t)

pub accepted-within : (gas : List Float) → every amount_fits gas ≡ true → All (Within 40 1) gas
accepted-within gas e = All-imp (λ x. T (amount_fits x)) (Within 40 1) gas fits-within (every-all amount_fits gas (subst T (sym e) tt))
