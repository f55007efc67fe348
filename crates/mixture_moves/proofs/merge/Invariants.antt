-- Each turn adds what goes of one amount more. Assumes nothing.
use mathlib.Core.Path.{◌≡◌}
use Rattle.mixture_moves.proofs.Moves.{joining}
use Rattle.mixture_moves.proofs.merge.Given as goal

abbrev pub invariant-loop-i : goal.invariant-loop-i
invariant-loop-i l = l.gas ≡ joining l.initial.gas l.gases l.giver l.goes l.taker l.i
