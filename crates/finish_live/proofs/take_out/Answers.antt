-- What stands behind the place is copied down by one. Assumes nothing.
use Rattle.finish_live.proofs.Starts.{copied_out}
use Rattle.finish_live.proofs.take_out.Goals as goal

pub returns : goal.returns
returns c =
    let by = c.copy_within.ensures in
    copied_out _ _ _ _ _ c.requires.0 c.requires.1 by.len by.by_index
