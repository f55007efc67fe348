-- An event of each kind is read back where its numbers are u32s and its amount, where it has one, is a finite f32. Assumes nothing.
use mathlib.Core.Bool.{Bool, true, false, cond}
use Prim.Native.Nat.{ℕ, ◌<◌}
use lib.Dec.{T, eqb}
use lib.Ieee.{Float, fits, binary32}
use lib.Ieee.Fits.{add-fits}
use lib.Ieee.Bits.{of_bits-fits}
use mathlib.Core.List.{List}
use Rattle.basics.specs.Loops.{every}
use Rattle.basics.specs.Floats.{0f, ◌+f◌, finite}
use Rattle.basics.specs.Lists.{All}
use Rattle.basics.proofs.Loops.{All-any, run-keeps, both}
use Rattle.rules_board.specs.Board.{Board, mix_of}
use Rattle.rules_mixture.specs.Mixture.{sum, total, total_mix, amounts}
use Rattle.rules_events.specs.Events.{sound, fields_of}
use Rattle.rules_events.specs.Readings.{Fitting, Readable}
use Rattle.rules_events.specs.declared.Event.TheVariants.{DepressurizeWanted, PlanetWanted, Pressure, Firelock, Target, HighPressure, Difference, FloorRip}
use Rattle.rules_back.specs.Back.{as_text, to_space, differences}

-- a u32
abbrev pub Word : ℕ → Type 0
Word n = n < 4294967296

-- finite
abbrev pub Fin : Float → Type 0
Fin x = T (finite x)

-- an f32
abbrev pub Fit : Float → Type 0
Fit x = T (fits binary32 x)

-- a finite f32
abbrev pub Amount : Float → Type 0
Amount x = Fin x × Fit x

-- ---- the kinds

pub space-readable : (i : ℕ) → Word i → Readable (DepressurizeWanted i)
unfolding sound fields_of every Fitting
space-readable i a = (tt, (a, tt))

pub planet-readable : (i : ℕ) → Word i → Readable (PlanetWanted i)
unfolding sound fields_of every Fitting
planet-readable i a = (tt, (a, tt))

pub pressure_readable : (z : ℕ) (x : Float) (i j : ℕ) → Word z → Amount x → Word i → Word j → Readable (Pressure z x i j)
unfolding sound fields_of every Fitting
pressure_readable z x i j w f a c = (both (finite x) true f.0 tt, (w, (f.1, (a, (c, tt)))))

pub lock_readable : (i j : ℕ) → Word i → Word j → Readable (Firelock i j)
unfolding sound fields_of every Fitting
lock_readable i j a c = (tt, (a, (c, tt)))

pub target-readable : (i j : ℕ) → Word i → Word j → Readable (Target i j)
unfolding sound fields_of every Fitting
target-readable i j a c = (tt, (a, (c, tt)))

pub high-readable : (i : ℕ) → Word i → Readable (HighPressure i)
unfolding sound fields_of every Fitting
high-readable i a = (tt, (a, tt))

arrow_readable : (i from to : ℕ) (x : Float) → Word i → Word from → Word to → Amount x → Readable (Difference i x from to)
unfolding sound fields_of every Fitting
arrow_readable i from to x a c d f = (both (finite x) true f.0 tt, (a, (f.1, (c, (d, tt)))))

-- kind 7 of the turf i, whose next one is j, by either setting
pub differences-readable : (arrows i j : ℕ) (x y : Float) → Word i → Word j → Amount x → (last : Bool) → (T last → Amount y) → All Readable (differences arrows i j x y last)
unfolding differences
differences-readable arrows i j x y a c m = go (eqb arrows 0)
  where
    go : (text last : Bool) → (T last → Amount y) → All Readable (cond text as_text to_space i j x y last)
    go true true f = (arrow_readable i i i x a a a m, (arrow_readable i i i y a a a (f tt), tt))
    go true false f = (arrow_readable i i i x a a a m, tt)
    go false true f = (arrow_readable i i j x a a c m, (arrow_readable j i j y c a c (f tt), tt))
    go false false f = (arrow_readable i i j x a a c m, tt)

pub rip_readable : (i : ℕ) (x : Float) → Word i → Amount x → Readable (FloorRip i x)
unfolding sound fields_of every Fitting
rip_readable i x a f = (both (finite x) true f.0 tt, (a, (f.1, tt)))

-- ---- amounts that are f32s

pub zero-fit : Fit 0f
zero-fit = of_bits-fits binary32 0

sum-fit : (xs : List Float) → Fit (sum xs)
unfolding sum
sum-fit xs = run-keeps (λ x. Unit {0}) Fit (λ x t. t +f x) (λ x t u i. add-fits binary32 t x) xs 0f (All-any _ (λ x. tt) xs) zero-fit

pub total-fit : (b : Board) (gas : List Float) (r : ℕ) → Fit (total b gas r)
unfolding total total_mix
total-fit b gas r = sum-fit (amounts b gas (mix_of b r))
