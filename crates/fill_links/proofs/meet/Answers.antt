-- Each mark is read from its own table. Assumes nothing.
use mathlib.Core.Path.{refl}
use Rattle.rules_board.specs.Board.{enabled, planetary, firelock}
use Rattle.turfs.specs.Tables.{board_at}
use Rattle.fill_links.proofs.meet.Goals as goal

pub bounds-flags-a : goal.bounds-flags-a
bounds-flags-a c = rw c.requires.tables_fit.flags c.requires.row_bound

pub is_immutable-requires : goal.is_immutable-requires
is_immutable-requires c =
    let pre = c.requires in
    (rw pre.tables_fit.mixtures pre.row_bound, pre.tables_fit.mixed _ pre.row_bound)

pub across_firelock-requires : goal.across_firelock-requires
across_firelock-requires c =
    let pre = c.requires in record { row_in_bounds = rw pre.tables_fit.planetary pre.row_bound; k_in_bounds = rw pre.tables_fit.link_flags pre.k_bound }

pub returns : goal.returns
unfolding enabled planetary firelock
returns c =
    rw (c.enabled.ensures, c.is_immutable.ensures (board_at c.args.tables 0) refl refl, c.across_firelock.ensures)
