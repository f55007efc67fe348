use native.Mathlib.Omega.{arith}
use Rattle.rules_board.specs.Board.{turf_count}
use Rattle.turfs.specs.Tables.{board_at}
use Rattle.walk_links.specs.Reached.{walking}
use Rattle.walk_links.proofs.Does.{going_start, going_next, going_end}
use Rattle.walk_links.proofs.Links.{written-room, kept-words, kept-area}
use Rattle.walk_first.proofs.Whole.{on-less, steps_start, steps_next, steps_end, turn-counts}
use Rattle.walk_first.proofs.walk_on.Goals as goal

pub loop-kind-init : goal.loop-kind-init
loop-kind-init c =
    let p = c.requires in
    let args = c.args in
    let b = board_at args.tables 0 in
    going_start (walking _) p.fact.fit (written-room _ _ p.fact.fit) (λ v. steps_start b args.kind args.limit (turf_count b) _ p.walked_value v)

pub walk_next-t-requires : goal.walk_next-t-requires
walk_next-t-requires c =
    let p = c.requires.fact in
    let inv = c.loop-kind.invariant in
    record {
      fact = record { ground = p.ground; fit = inv.fit; room = rw (kept-area inv) p.room };
      walked_lt_count = on-less c.loop-kind.t _ c.loop-kind-test.true c.goes_on.ensures;
    }

pub loop-kind-smaller : goal.loop-kind-smaller
loop-kind-smaller c =
    let args = c.args in
    let walk-next = c.walk_next-t in
    let loop = c.loop-kind in
    let if1 = c.loop-kind-test in
    let goes_on = c.goes_on in
    let b = board_at args.tables 0 in
    omega (arith, turn-counts b args.kind args.limit (turf_count b) _ _ walk-next.ensures, on-less loop.t _ if1.true goes_on.ensures, loop.invariant.fit.line.few)

pub loop-kind-preserved : goal.loop-kind-preserved
loop-kind-preserved c =
    let args = c.args in
    let walk-next = c.walk_next-t in
    let loop = c.loop-kind in
    let goes_on = c.goes_on in
    let if1 = c.loop-kind-test in
    let b = board_at args.tables 0 in
    let turn = walk-next.ensures in
    going_next (walking _) _ _ loop.invariant turn
    (λ es. steps_next b args.kind args.limit (turf_count b) _ _ _ loop.invariant.fit _ goes_on.ensures es if1.true _ (turn-counts b args.kind args.limit (turf_count b) _ _ turn))

pub shape_of-words : goal.shape_of-words
shape_of-words c = kept-words c.loop-kind.invariant

pub shape_of-events : goal.shape_of-events
shape_of-events c = kept-area c.loop-kind.invariant

pub returns : goal.returns
returns c =
    let args = c.args in
    let b = board_at args.tables 0 in
    going_end (walking _) c.loop-kind.invariant (λ es. steps_end b args.kind args.limit (turf_count b) _ _ _ c.loop-kind.invariant.fit _ c.goes_on.ensures es c.loop-kind-test.false)
