-- The zone's next node is one of the words, and a row. Assumes nothing.
use Prim.Native.Nat.{◌+◌}
use Rattle.finish_zones.proofs.Words.{row_is}
use native.Mathlib.Omega.{arith}
use Rattle.finish_zones.proofs.next_row.Goals as goal

pub returns : goal.returns
returns c =
    let starts-at = c.starts_at in
    let turns_at = c.turns_at in
    let nodes-at = c.nodes_at in
    row_is _ _ c.requires (starts-at.result + c.args.zone) (turns_at.result + c.args.zone) nodes-at.result (omega (arith, starts-at.ensures)) (omega (arith, turns_at.ensures)) nodes-at.ensures
