-- Amounts that were accepted hold every mixture's. Assumes nothing.
use Prim.Native.Nat.{ℕ, ◌<◌}
use mathlib.Core.Path.{◌≡◌}
use mathlib.Core.Bool.{true}
use mathlib.Core.List.{List}
use lib.ListN.{length, get_or}
use lib.Ieee.{Float, nan}
use Rattle.basics.proofs.Tests.{every-at}
use Rattle.rules_board.specs.Board.{Board, turf_count, mixture_count, mix_of}
use Rattle.rules_mixture.specs.Mixture.{amount_fits}
use Rattle.mixture.specs.Held.{HoldsGas}
use Rattle.mixture.specs.Accepted.{GasAccepted}
use Rattle.mixture.proofs.Parts.{holds_of}

module _ (b : Board) (gas : List Float) (a : GasAccepted b gas) where
  pub holds_mix : (m : ℕ) → m < mixture_count b → HoldsGas gas b.gases m
  holds_mix m h = holds_of gas (mixture_count b) b.gases m a.count h

  pub holds_turf : (r : ℕ) → r < turf_count b → HoldsGas gas b.gases (mix_of b r)
  holds_turf r h = holds_mix (mix_of b r) (a.tables.mixture r h)

  pub amount-fits : (i : ℕ) → i < length gas → amount_fits (get_or gas i nan) ≡ true
  amount-fits i h = every-at amount_fits gas nan i a.amounts h
