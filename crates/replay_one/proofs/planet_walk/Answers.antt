-- The walk's two numbers were looked at; written out, so that an answer of more than seven is refused for that, and not where a search gives up. Assumes nothing.
use native.Mathlib.Omega.{arith}
use Rattle.replay_one.proofs.planet_walk.Goals as goal

pub returns : goal.returns
returns c = record { gas = _; words = _; floats = _; events = _; answer = _; few = omega arith; due = _; held = c.held.ensures }
