use Rattle.finish_turns.proofs.Zoning.{ending_start, ending_fit, ending_laid, ending_next, planned-fit, turned_fit, turned_laid, finishes-all}
use Rattle.finish_turns.proofs.finish_all.Goals as goal

pub by_turns-now-requires : goal.by_turns-now-requires
by_turns-now-requires c =
    record { turns_fit = planned-fit _ _ c.args.turns.now _ _ c.requires; fact = c.requires.laid }

pub loop-z-init : goal.loop-z-init
loop-z-init c =
    let by-turns = c.by_turns-now in
    let fit = turned_fit _ _ c.args.turns.now _ _ c.requires _ _ by-turns.ensures in
    let laid = turned_laid _ _ c.args.turns.now _ _ c.requires _ _ by-turns.ensures in
    ending_start _ _ _ _ fit laid

pub finish_zone-now-requires : goal.finish_zone-now-requires
finish_zone-now-requires c =
    let by-turns = c.by_turns-now in
    let loop = c.loop-z in
    let loop-test = c.loop-z-test in
    let fit = turned_fit _ _ c.args.turns.now _ _ c.requires _ _ by-turns.ensures in
    let laid = turned_laid _ _ c.args.turns.now _ _ c.requires _ _ by-turns.ensures in
    record {
      turns_fit = ending_fit _ _ _ _ fit laid _ _ _ loop.invariant;
      fact = ending_laid _ _ _ _ fit laid _ _ _ loop.invariant loop-test.true;
    }

pub loop-z-preserved : goal.loop-z-preserved
loop-z-preserved c =
    let by-turns = c.by_turns-now in
    let loop = c.loop-z in
    let loop-test = c.loop-z-test in
    let finish-zone = c.finish_zone-now in
    let fit = turned_fit _ _ c.args.turns.now _ _ c.requires _ _ by-turns.ensures in
    let laid = turned_laid _ _ c.args.turns.now _ _ c.requires _ _ by-turns.ensures in
    ending_next _ _ _ _ fit laid _ _ _ loop.invariant loop-test.true _ _ finish-zone.ensures

pub returns : goal.returns
returns c =
    let by-turns = c.by_turns-now in
    let loop = c.loop-z in
    finishes-all _ _ c.args.turns.now _ _ c.requires _ _ by-turns.ensures _ _ _ c.loop-z-test.false loop.invariant
