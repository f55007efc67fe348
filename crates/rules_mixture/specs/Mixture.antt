-- Mixtures: the amounts lie mixture by mixture in one list, G to a mixture. An amount that the list lacks reads as `nan`, as in the code.
use Rattle.std.specs.Prelude.{List, [], ◌∷◌, ◌++◌, map, Bool, ◌&&◌, ℕ, ◌+◌, ◌*◌, take, drop, Float, if◌then◌else◌}
use Rattle.std.specs.Float.Ieee.{le, of_bits}
use Rattle.std.specs.Float.{binary32}
use Rattle.basics.specs.Loops.{run}
use Rattle.basics.specs.Floats.{0f, 1f, ◌+f◌, ◌-f◌, ◌*f◌, ◌/f◌, finite_sign_clear}
use Rattle.rules_board.specs.Board.{Board, mix_of, immutable_mix}

-- the sum of the amounts from the left (`total_moles`)
unfoldable pub sum : List Float → Float
sum xs = run (λ x t. t +f x) xs 0f

-- `multiply`
unfoldable pub scale : Float → List Float → List Float
scale q xs = map (λ x. x *f q) xs

-- `merge`, amount by amount
unfoldable pub plus : List Float → List Float → List Float
plus [] ys = []
plus (x ∷ xs) [] = x ∷ xs
plus (x ∷ xs) (y ∷ ys) = (x +f y) ∷ plus xs ys

-- the ratio of `remove`: at 1 or more it is 1
unfoldable pub ratio : Float → Float → Float
ratio a total = if le 1f (a /f total) then 1f else a /f total

-- what a removal parts a mixture into
pub record Removal : Type 0 where
  pub goes : List Float
  pub stays : List Float

-- `remove`, by `remove_ratio_into`: the copy that goes, and the rest
unfoldable pub remove : Float → List Float → Removal
remove a xs =
    let q = ratio a (sum xs) in
    record { goes = scale q xs; stays = scale (1f -f q) xs }

-- a mixture's amounts, of g to a mixture
abbrev pub part : ℕ → ℕ → List Float → List Float
part g m gas = take g (drop (m * g) gas)

-- the list with other amounts there
abbrev pub put_part : ℕ → ℕ → List Float → List Float → List Float
put_part g m new gas = take (m * g) gas ++ (new ++ drop (m * g + g) gas)

module _ (b : Board) where
  -- a mixture's amounts
  unfoldable pub amounts : List Float → ℕ → List Float
  amounts gas m = part b.gases m gas

  -- an immutable mixture keeps its amounts, any other gets new ones
  unfoldable pub change : ℕ → List Float → List Float → List Float
  change m new gas = if immutable_mix b m then gas else put_part b.gases m new gas

  -- `total_moles` of a mixture
  unfoldable pub total_mix : List Float → ℕ → Float
  total_mix gas m = sum (amounts gas m)

  -- `total_moles` of a turf
  unfoldable pub total : List Float → ℕ → Float
  total gas r = total_mix gas (mix_of b r)

  -- `other_air.merge(&air.remove(amount))`: the copy is made of an immutable mixture too
  unfoldable pub move_air : ℕ → ℕ → Float → List Float → List Float
  move_air giver taker a gas =
      let air = remove a (amounts gas giver) in
      let left = change giver air.stays gas in
      change taker (plus (amounts left taker) air.goes) left

  -- `clear_air`
  unfoldable pub clear_air : ℕ → List Float → List Float
  clear_air m gas = change m (map (λ x. 0f) (amounts gas m)) gas

-- ---- refusal 5

-- 2^40
abbrev pub most : Float
most = of_bits binary32 0x5380_0000

-- an amount within its range
unfoldable pub amount_fits : Float → Bool
amount_fits x = finite_sign_clear x && le x most
