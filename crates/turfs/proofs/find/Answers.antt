-- The library's search of ascending ids. Assumes nothing.
use mathlib.Core.Path.{sym, ◌∙◌}
use Rattle.turfs.proofs.Lookup.{row-in, row-searched}
use Rattle.turfs.proofs.find.Goals as goal

pub returns : goal.returns
returns c b e =
    row-in b c.args.id c.args.ids.now _ (row-searched c.args.ids.now c.args.id c.requires _ c.binary_search.ensures.position ∙ sym c.ok.ensures.value) e
