-- The search keeps the link by which each row was met, and the way back over these links is the way back over the edges; rows that nothing is handed to are passed over. Assumes nothing.
use native.Mathlib.Omega.{arith}
use Rattle.turfs.specs.Tables.{board_of}
use Rattle.plan_search.proofs.Skips.{rows-later, low-few, skipped}
use Rattle.plan_search.proofs.Serves.{points_nowhere, moves-nothing, begun, begun-met, begun-idle, searched_near, reverses-after, rows-within, drained_by_edges, served}
use Rattle.plan_search.proofs.serve.Goals as goal

pub seek-sweep-requires : goal.seek-sweep-requires
seek-sweep-requires c =
    let store = c.store in
    let queue-at = c.queue_at-queue in
    let places-at = c.places_at-places in
    let insert = c.insert in
    record {
      searching = record {
        seeking = begun _ _ _ _ _ _ store.ensures.fit c.requires.g_lt_n _ _ queue-at.ensures places-at.ensures insert.ensures;
        zone = c.requires.planning.zone;
        row = c.requires.g_lt_n;
      };
      sized = c.requires.planning.sized;
      met = begun-met _ _ _ _ _ _ store.ensures.fit c.requires.g_lt_n _ _ queue-at.ensures places-at.ensures insert.ensures _ _ _ (points_nowhere _ _ _ _ _ _ c.requires.planning.fit
          c.requires.g_lt_n store.ensures);
      idle = begun-idle _ _ _ _ _ _ store.ensures.fit c.requires.g_lt_n _ _ queue-at.ensures places-at.ensures insert.ensures _ (moves-nothing _ _ _ _ _ c.requires.planning.fit
          c.requires.g_lt_n store.ensures);
    }

pub drain-requires : goal.drain-requires
drain-requires c =
    let store = c.store in
    let seek = c.seek-sweep in
    let back = reverses-after _ _ _ _ _ _ store.ensures.fit c.requires.g_lt_n _ _ c.queue_at-queue.ensures
    c.places_at-places.ensures c.insert.ensures
    c.requires.planning.reverses store.ensures seek.ensures.fact in
    record {
      fit = seek.ensures.fact.seeking.fit;
      zone = c.requires.planning.zone;
      few = seek.ensures.fact.seeking.line.few;
      within = rows-within _ _ _ _ (board_of c.args.tables.now
          c.args.gases) c.requires.planning.sized.linked c.requires.planning.sized.links seek.ensures.fact.seeking seek.ensures.fact_2 back;
    }

pub drain-requires-2 : goal.drain-requires-2
drain-requires-2 c =
    let store = c.store in
    let queue-at = c.queue_at-queue in
    let places-at = c.places_at-places in
    let insert = c.insert in
    let seek = c.seek-sweep in
    let back = reverses-after _ _ _ _ _ _ store.ensures.fit c.requires.g_lt_n _ _ queue-at.ensures places-at.ensures insert.ensures c.requires.planning.reverses
    store.ensures seek.ensures.fact in
    let near = searched_near _ _ _ _ _ _ store.ensures.fit c.requires.g_lt_n _ _ queue-at.ensures places-at.ensures insert.ensures (board_of c.args.tables.now c.args.gases) _ _ _ _ (points_nowhere _ _ _ _ _ _ c.requires.planning.fit c.requires.g_lt_n store.ensures) seek.ensures.fact in
    let few = low-few _ _ 0 _ _ _ _ _ _ _ seek.ensures.fact.seeking c.least-first.ensures c.least.ensures
    near seek.ensures.idle in
    record {
      fit = c.drain.ensures.fit;
      zone = c.requires.planning.zone;
      few = omega (arith, few, seek.ensures.fact.seeking.line.few);
      within = rows-later _ _ _ _ _ _ (rows-within _ _ _ _ (board_of c.args.tables.now c.args.gases) c.requires.planning.sized.linked c.requires.planning.sized.links
          seek.ensures.fact.seeking seek.ensures.fact_2 back) _ few;
    }

pub returns : goal.returns
returns c =
    let store = c.store in
    let queue-at = c.queue_at-queue in
    let places-at = c.places_at-places in
    let insert = c.insert in
    let seek = c.seek-sweep in
    let back = reverses-after _ _ _ _ _ _ store.ensures.fit c.requires.g_lt_n _ _ queue-at.ensures places-at.ensures insert.ensures c.requires.planning.reverses
    store.ensures seek.ensures.fact in
    let near = searched_near _ _ _ _ _ _ store.ensures.fit c.requires.g_lt_n _ _ queue-at.ensures places-at.ensures insert.ensures (board_of c.args.tables.now c.args.gases) _ _ _ _ (points_nowhere _ _ _ _ _ _ c.requires.planning.fit c.requires.g_lt_n store.ensures) seek.ensures.fact in
    served _ _ _ _ _ _ store.ensures.fit c.requires.g_lt_n _ _ queue-at.ensures places-at.ensures insert.ensures (board_of c.args.tables.now
    c.args.gases) c.requires.planning.sized.turfs _ _ _ _ _ c.load-i.ensures
    store.ensures seek.ensures.fact
    (drained_by_edges _ _ _ _ (board_of c.args.tables.now c.args.gases) c.requires.planning.sized.linked c.requires.planning.sized.links
    seek.ensures.fact.seeking seek.ensures.fact_2 back
    (skipped _ _ _ _ _ _ _ _ _ _ seek.ensures.fact.seeking c.least-first.ensures
    c.least.ensures near seek.ensures.idle _ c.drain.ensures
    c.drain-2.ensures))
