-- No links, few moles, or all neighbours near. Assumes nothing.
use mathlib.Core.Path.{refl}
use Rattle.turfs.specs.Tables.{board_at}
use Rattle.fill_zone.proofs.Boards.{parts, gas-holds}
use Rattle.fill_tests.proofs.Near.{none-linked, all_tested}
use native.Mathlib.Omega.{arith}
use Rattle.fill_tests.proofs.unshareable.Goals as goal

pub returns-then-links : goal.returns-then-links
returns-then-links c = λ q et.
    none-linked (board_at c.args.tables c.args.gases) _ q _ _ _ c.links_of-links.ensures.0 c.links_of-links.ensures.1 c.if-links.true

pub total-mine-requires : goal.total-mine-requires
total-mine-requires c =
    (rw c.requires.accepted.mixes c.requires.row_bound, gas-holds c.requires.accepted c.args.gas.now refl c.args.row)

pub all_near-requires : goal.all_near-requires
all_near-requires c =
    record {
      accepted = c.requires.accepted;
      to_bound = omega (arith, (parts c.requires.accepted).end _ c.requires.row_bound, c.links_of-links.ensures.1);
    }

pub returns-else-mine : goal.returns-else-mine
returns-else-mine c = λ q et.
    let b = board_at c.args.tables c.args.gases in
    let ends = c.links_of-links.ensures in
    let rise = (parts c.requires.accepted).rise _ c.requires.row_bound in
    all_tested b _ q _ _ _ ends.0 ends.1 c.if-links.false (omega arith) _ (c.total-mine.ensures b refl refl) c.if-mine.false _ et _ c.all_near.ensures
