-- The row's links are a part of the owners, and it is filled with 0. Assumes nothing.
use Rattle.fill_ignored.proofs.Stores.{row_filled}
use Rattle.fill_ignored.proofs.give_back.Goals as goal

pub returns : goal.returns
returns c =
    row_filled c.args.starts.now _ _ c.args.row _ _ c.links_of-from.ensures.0 c.links_of-from.ensures.1 c.requires.row_bound c.requires.row_in_bounds_2 (c.fill.ensures.after (λ y h. h))
