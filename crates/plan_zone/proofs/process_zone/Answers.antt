-- Three steps of the plan, one after the other. Assumes nothing.
use Rattle.turfs.specs.Tables.{board_of}
use Rattle.plan_state.proofs.Stores.{does-frame}
use Rattle.plan_state.proofs.Nodes.{nodes-kept, reverses-kept}
use Rattle.plan_zone.proofs.Whole.{processed}
use Rattle.plan_zone.proofs.process_zone.Goals as goal

pub fast_pass-requires : goal.fast_pass-requires
fast_pass-requires c =
    let deltas = c.all_deltas in
    record {
      planning = record {
        sized = c.requires.planning.sized;
        fit = deltas.ensures.fit;
        zone = c.requires.planning.zone;
        reverses = reverses-kept c.requires.planning.reverses (does-frame deltas.ensures);
      };
      nodes = nodes-kept c.requires.nodes (does-frame deltas.ensures) deltas.auto.words;
    }

pub share_out-requires : goal.share_out-requires
share_out-requires c =
    let all-deltas = c.all_deltas in
    let fast-pass = c.fast_pass in record {
      planning = record {
        sized = c.requires.planning.sized;
        fit = fast-pass.ensures.fit;
        zone = c.requires.planning.zone;
        reverses = reverses-kept (reverses-kept c.requires.planning.reverses (does-frame all-deltas.ensures)) (does-frame fast-pass.ensures);
      };
      nodes = nodes-kept (nodes-kept c.requires.nodes (does-frame all-deltas.ensures) all-deltas.auto.words) (does-frame fast-pass.ensures) fast-pass.auto.words;
    }

pub returns : goal.returns
returns c =
    processed (board_of c.args.tables.now c.args.gases) _ _ c.args.zone.first c.args.zone.count _ _ _ c.requires.nodes
    c.all_deltas.ensures
    c.fast_pass.ensures c.share_out.ensures
