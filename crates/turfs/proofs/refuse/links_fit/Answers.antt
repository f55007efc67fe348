-- What passed makes each turf's links a part. Assumes nothing.
use mathlib.Core.Path.{◌≡◌}
use mathlib.Core.Bool.{true}
use lib.ListN.{length, get_or}
use native.Mathlib.Omega.{arith}
use borrow.Author.Tests.{ltb-true}
use lib.Dec.{ltb}
use Rattle.std.proofs.lemmas.Grind.{common_steps}
use Rattle.basics.specs.Loops.{every}
use Rattle.basics.proofs.Tests.{every-at}
use Rattle.rules_board.specs.Refuse.{rising}
use Rattle.turfs.proofs.Tables.{parts-of}
use Rattle.turfs.proofs.refuse.links_fit.Goals as goal

pub rows_fit-requires : goal.rows_fit-requires
rows_fit-requires c =
    let n = length c.args.tables.now.ids.now in
    let starts = c.args.tables.now.starts.now in
    let near = c.args.tables.now.neighbours.now in
    let risen : rising starts ≡ true = grind (arith, common_steps) in
    let last : get_or starts n 0 ≡ length near = grind (arith, common_steps) in
    let below : every (λ a. ltb a n) near ≡ true = grind (arith, common_steps) in
    record {
      parts = parts-of _ _ _ c.requires.small.turfs c.requires.starts_value risen last;
      few = c.requires.small.links;
      ends = λ k l. ltb-true _ _ (every-at _ near 0 k below l);
    }
