-- Each area has room in its array. Assumes nothing.
use mathlib.Core.Path.{sym}
use lib.Seq.{length-take-le}
use native.Mathlib.Omega.{arith}
use Rattle.vectors_same.proofs.Comes.{held_next}
use Rattle.replay_one.proofs.replay.Goals as goal

pub slice_bounds-play-end-2 : goal.slice_bounds-play-end-2
slice_bounds-play-end-2 c = sym (length-take-le _ _ (omega (arith, c.gas_size-gas_count.ensures.1)))

pub slice_bounds-play-end-3 : goal.slice_bounds-play-end-3
slice_bounds-play-end-3 c = sym (length-take-le _ _ (omega (arith, c.area_size-word_count.ensures.1)))

pub slice_bounds-play-end-4 : goal.slice_bounds-play-end-4
slice_bounds-play-end-4 c = sym (length-take-le _ _ (omega (arith, c.area_size-float_count.ensures.1)))

pub slice_bounds-play-end-5 : goal.slice_bounds-play-end-5
slice_bounds-play-end-5 c = sym (length-take-le _ _ (omega (arith, c.area_size-event_count.ensures.1)))

pub returns-clause-next : goal.returns-clause-next
returns-clause-next c = held_next c.play.ensures.held
