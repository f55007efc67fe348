use Rattle.finish_turns.proofs.Taking.{started_fit, started_laid, taking_start, taking_fit, taking_live, taking_none, taking_all, taking_next, from_start}
use Rattle.finish_turns.proofs.by_turns.Goals as goal

pub loop-c-init : goal.loop-c-init
loop-c-init c = taking_start _ _ _ _ c.start-live.ensures c.requires.fact c.requires.turns_fit.arrays

pub returns-then-left-eq0 : goal.returns-then-left-eq0
returns-then-left-eq0 c =
    let start = c.start-live in
    let loop = c.loop-c in
    from_start _ _ _ start.ensures (taking_none _ _ _ _ _ (started_fit c.requires.turns_fit start.ensures) (started_laid c.requires.fact start.ensures) _ _ _ _ loop.invariant c.if-left-eq0.true)

pub turn-left-requires : goal.turn-left-requires
turn-left-requires c =
    let start = c.start-live in
    let loop = c.loop-c in
    let if1 = c.if-left-eq0 in
    record {
      turns_fit = taking_fit _ _ _ _ _ (started_fit c.requires.turns_fit start.ensures) (started_laid c.requires.fact start.ensures) _ _ _ _ loop.invariant;
      fact = taking_live _ _ _ _ _ (started_fit c.requires.turns_fit start.ensures) (started_laid c.requires.fact start.ensures) _ _ _ _ loop.invariant if1.false;
    }

pub loop-c-preserved : goal.loop-c-preserved
loop-c-preserved c =
    let start = c.start-live in
    let loop = c.loop-c in
    let loop-test = c.loop-c-test in
    let if1 = c.if-left-eq0 in
    let turn = c.turn-left in
    taking_next _ _ _ _ _ (started_fit c.requires.turns_fit start.ensures) (started_laid c.requires.fact start.ensures) _ _ _ _ loop.invariant if1.false loop-test.true _ _ _ turn.ensures

pub returns : goal.returns
returns c =
    let start = c.start-live in
    let loop = c.loop-c in
    from_start _ _ _ start.ensures (taking_all _ _ _ _ _ (started_fit c.requires.turns_fit start.ensures) (started_laid c.requires.fact start.ensures) _ _ _ _ loop.invariant c.loop-c-test.false)
