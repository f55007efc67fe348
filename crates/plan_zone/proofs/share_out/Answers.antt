-- Who doesn't give takes, so one count decides the side. Assumes nothing.
use Rattle.turfs.specs.Tables.{board_of}
use Rattle.plan_state.proofs.Nodes.{reverses-kept}
use Rattle.plan_zone.proofs.Counts.{givers_le}
use Rattle.plan_zone.proofs.Lists.{chosen-below, shared-out}
use Rattle.plan_zone.proofs.share_out.Goals as goal

pub overflow_sub-count : goal.overflow_sub-count
overflow_sub-count c = givers_le _ c.requires.nodes c.count_givers-givers.ensures

pub serve_all-requires : goal.serve_all-requires
serve_all-requires c =
    let gather = c.gather-listed in
    record {
      planning = record {
        sized = c.requires.planning.sized;
        fit = gather.ensures.fit;
        zone = c.requires.planning.zone;
        reverses = reverses-kept c.requires.planning.reverses gather.ensures.frame;
      };
      listed_le_n = gather.ensures.few;
      below = chosen-below _ _ c.requires.nodes gather.ensures;
    }

pub returns : goal.returns
returns c =
    shared-out (board_of c.args.tables.now c.args.gases) _ _ _ _ c.requires.nodes c.count_givers-givers.ensures
    c.side_of-side.ensures c.gather-listed.ensures
    c.serve_all.ensures
