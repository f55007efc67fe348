use Rattle.std.proofs.Common.{rules, ◌++◌}
use Rattle.std.proofs.KnownBytes.{Consumes-trans}
use Rattle.vectors_text.proofs.read.Goals as goal

pub loop-left-preserved : goal.loop-left-preserved
loop-left-preserved g c =
    let before = c.loop-left.invariant.1.1.1 in
    (search rules, (search rules, (search rules, (before.0 ++ _, Consumes-trans _ _ _ _ _ before.1 c.in_ok-n.ensures.bytes.0))))
