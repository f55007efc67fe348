-- Each turn is the last of the turfs that are left. Assumes nothing.
use Prim.Native.Nat.{◌-◌}
use native.Mathlib.Omega.{arith}
use mathlib.Core.Path.{refl}
use Rattle.basics.proofs.Loops.{run-back, run-back_end}
use Rattle.rules_board.specs.Board.{turf_count}
use Rattle.turfs.specs.Tables.{board_at}
use Rattle.walk_links.proofs.Does.{going_start, going_next, going_end}
use Rattle.walk_back.specs.Backed.{backing}
use Rattle.walk_back.proofs.Backs.{written-room}
use Rattle.walk_back.proofs.Ways.{kept-words, kept-floats, kept-gas, kept-area, kept-order, turn-as, order-long}
use Rattle.walk_back.proofs.back_all.Goals as goal

pub loop-left-init : goal.loop-left-init
loop-left-init c = let p = c.requires in (going_start (backing _) p.fit (written-room _ _ p.fit) (λ v. refl), p.few)

pub back-t-requires : goal.back-t-requires
back-t-requires c =
    let p = c.requires in
    let loop = c.loop-left in
    let taken = c.loop-left-test.true in
    record {
      ground = p.ground;
      fit = loop.invariant.0.fit;
      few = omega (arith, loop.invariant.1, taken);
      order = λ i k. rw (kept-order loop.invariant.0) (p.order i (omega (arith, k, taken, loop.auto.left)));
    }

pub loop-left-preserved : goal.loop-left-preserved
loop-left-preserved c =
    let p = c.requires in
    let loop = c.loop-left in
    let taken = c.loop-left-test.true in
    let turn = c.back-t.ensures in
    let n = turf_count (board_at c.args.tables 0) in
    let long = order-long n c.args.count c.args.words.now p.fit.words (omega (arith, p.few)) in (
      going_next (backing _) _ _ loop.invariant.0 (turn-as loop.invariant.0 _ _ turn.fact) (λ es. run-back _ _ loop.left (loop.left - 1) _ (omega (arith, taken)) (omega (arith, taken, loop.auto.left, long))),
      omega (arith, turn.rips_bound, loop.invariant.1, taken),
    )

pub shape_of-gas : goal.shape_of-gas
shape_of-gas c = kept-gas c.loop-left.invariant.0

pub shape_of-words : goal.shape_of-words
shape_of-words c = kept-words c.loop-left.invariant.0

pub shape_of-floats : goal.shape_of-floats
shape_of-floats c = kept-floats c.loop-left.invariant.0

pub shape_of-events : goal.shape_of-events
shape_of-events c = kept-area c.loop-left.invariant.0

pub returns : goal.returns
returns c = going_end (backing _) c.loop-left.invariant.0 (λ es. run-back_end _ _ c.loop-left.left _ c.loop-left-test.false)
