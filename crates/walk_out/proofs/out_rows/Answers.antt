use native.Mathlib.Omega.{arith}
use Rattle.rules_board.specs.Board.{turf_count}
use Rattle.turfs.specs.Tables.{board_at}
use Rattle.walk_links.proofs.Does.{going_start, going_next, going_end}
use Rattle.walk_out.specs.Outed.{outing}
use Rattle.walk_out.proofs.Joins.{written-room, kept-words, kept-area}
use Rattle.walk_out.proofs.Rows.{steps_start, steps_next, steps_end, turn-counts}
use Rattle.walk_out.proofs.out_rows.Goals as goal

pub loop-t-init : goal.loop-t-init
loop-t-init c =
    let p = c.requires in
    let args = c.args in
    let b = board_at args.tables 0 in
    going_start (outing _) p.fact.fit (written-room _ _ p.fact.fit) (λ v. steps_start b args.limit (turf_count b) _ p.place_value v)

pub out_row-t-requires : goal.out_row-t-requires
out_row-t-requires c = record { fact = record { ground = c.requires.fact.ground; fit = c.loop-t.invariant.fit }; place_lt_count = c.loop-t-test.true }

pub loop-t-smaller : goal.loop-t-smaller
loop-t-smaller c =
    let args = c.args in
    let b = board_at args.tables 0 in
    omega (arith, turn-counts b args.limit (turf_count b) _ _ c.out_row-t.ensures, c.loop-t-test.true, c.loop-t.invariant.fit.line.few)

pub loop-t-preserved : goal.loop-t-preserved
loop-t-preserved c =
    let args = c.args in
    let b = board_at args.tables 0 in
    let turn = c.out_row-t.ensures in
    going_next (outing _) _ _ c.loop-t.invariant turn
    (λ es. steps_next b args.limit (turf_count b) _ _ _ c.loop-t.invariant.fit es c.loop-t-test.true _ (turn-counts b args.limit (turf_count b) _ _ turn))

pub shape_of-words : goal.shape_of-words
shape_of-words c = kept-words c.loop-t.invariant

pub shape_of-events : goal.shape_of-events
shape_of-events c = kept-area c.loop-t.invariant

pub returns : goal.returns
returns c =
    let args = c.args in
    let b = board_at args.tables 0 in
    going_end (outing _) c.loop-t.invariant (λ es. steps_end b args.limit (turf_count b) _ _ _ c.loop-t.invariant.fit es c.loop-t-test.false)
