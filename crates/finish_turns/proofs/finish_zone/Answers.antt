use Rattle.finish_turns.proofs.Zoning.{zoning_start, zoning_fit, zoning_open, zoning_next, zoning_end}
use Rattle.finish_turns.proofs.finish_zone.Goals as goal

pub loop-init : goal.loop-init
loop-init c = zoning_start _ _ _ _ c.requires.turns_fit c.requires.fact _ c.turns_of-had.ensures

pub finish_next-now-requires : goal.finish_next-now-requires
finish_next-now-requires c =
    let size-of = c.size_of-size in
    let loop = c.loop in
    let loop-test = c.loop-test in
    record {
      turns_fit = zoning_fit _ _ _ _ c.requires.turns_fit c.requires.fact _ _ _ loop.invariant;
      fact = zoning_open _ _ _ _ c.requires.turns_fit c.requires.fact _ _ _ loop.invariant _ size-of.ensures loop-test.true;
    }

pub loop-preserved : goal.loop-preserved
loop-preserved c =
    let size-of = c.size_of-size in
    let loop = c.loop in
    let loop-test = c.loop-test in
    let finish-next = c.finish_next-now in
    zoning_next _ _ _ _ c.requires.turns_fit c.requires.fact _ _ _ loop.invariant _ size-of.ensures loop-test.true _ _ finish-next.ensures

pub returns : goal.returns
returns c =
    let size-of = c.size_of-size in
    let loop = c.loop in
    zoning_end _ _ _ _ c.requires.turns_fit c.requires.fact _ _ _ loop.invariant _ size-of.ensures c.loop-test.false
