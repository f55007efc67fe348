-- Nothing more is done, or out from space and back. Assumes nothing.
use Rattle.call_depressurize.proofs.Calls.{opens, ended-planet, ended-none, back_fits, ended-done}
use Rattle.call_depressurize.proofs.from_walk.Goals as goal

pub returns-then-s : goal.returns-then-s
returns-then-s c = ended-planet _ _ _ _ _ _ c.requires c.args.breach c.if-s.true

pub returns-then-s-eq0 : goal.returns-then-s-eq0
returns-then-s-eq0 c = ended-none _ _ _ _ _ _ c.requires c.args.breach c.if-s.false c.if-s-eq0.true

pub outward-front-requires : goal.outward-front-requires
outward-front-requires c = opens _ _ _ _ _ _ c.requires

pub way_back-used-requires : goal.way_back-used-requires
way_back-used-requires c =
    let pre = c.requires in
    let if1 = c.if-s in
    let if2 = c.if-s-eq0 in
    let outward = c.outward-front in
    back_fits _ _ _ _ _ _ pre c.args.breach if1.false if2.false _ _ _ outward.ensures

pub returns : goal.returns
returns c =
    let pre = c.requires in
    let if1 = c.if-s in
    let if2 = c.if-s-eq0 in
    let outward = c.outward-front in
    let way_back = c.way_back-used in
    ended-done _ _ _ _ _ _ pre c.args.breach if1.false if2.false _ _ _ outward.ensures _ _ _ _ _ way_back.ensures
