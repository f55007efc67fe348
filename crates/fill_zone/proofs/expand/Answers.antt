-- The turf's part of the link list, and its total. Assumes nothing.
use Rattle.fill_zone.proofs.Boards.{linked_of}
use Rattle.turfs.specs.Tables.{board_at}
use Rattle.fill_zone.proofs.Pops.{floods_expand}
use mathlib.Core.Path.{refl}
use Rattle.fill_zone.proofs.expand.Goals as goal

pub reach_links-reach-requires : goal.reach_links-reach-requires
reach_links-reach-requires c =
    record {
      tables_fit = linked_of c.args.tables.now c.args.gases c.requires.accepted;
      turf_fits = record { row = c.requires.expand_fits.turf.row; free = c.requires.expand_fits.turf.free };
      fact = c.requires.expand_fits.walking;
    }

pub returns : goal.returns
returns c = λ limit allowance.
    let b = board_at c.args.tables c.args.gases in
    floods_expand b _ limit allowance _ _ _ _ _ _ _ (c.total-total.ensures b refl refl) _ (c.reach_links-reach.ensures _) refl
