-- The links counted are the eligible ones, and a move leaves the marks, so each may be looked at when its turn comes. Assumes nothing.
use native.Mathlib.Omega.{arith}
use Rattle.turfs.specs.Tables.{board_of}
use Rattle.plan_fast.proofs.Fast.{stored, fast-within, fast-some, fast-none}
use Rattle.plan_fast.proofs.fast_turf.Goals as goal

pub fast_row-requires : goal.fast_row-requires
fast_row-requires c =
    let load = c.load-i in
    let store = c.store in
    let links = c.links_of-from.ensures in
    rw (links.0, links.1) (record {
      fit = store.ensures.fit;
      zone = c.requires.planning.zone;
      ends = record {
        row = c.requires.r_lt_n;
        all = c.requires.planning.sized.links;
        within = omega (arith, c.requires.planning.sized.linked.within _ c.requires.r_lt_n, c.requires.planning.sized.links);
        ends = λ k l. c.requires.planning.sized.linked.rows k (omega (arith, l, c.requires.planning.sized.links));
      };
      rise = c.requires.planning.sized.linked.rise _ c.requires.r_lt_n;
      back = fast-within (board_of c.args.tables.now c.args.gases) _ _ c.args.zone.z
          _ _ _ load.ensures c.requires.planning.sized.linked c.requires.r_lt_n c.requires.planning.reverses _ _ (stored load.result c.marked.ensures
          store.ensures) c.requires.planning.sized.links;
    })

pub returns-then-delta : goal.returns-then-delta
returns-then-delta c =
    let load = c.load-i in
    let links = c.links_of-from.ensures in
    fast-some (board_of c.args.tables.now c.args.gases) _ _ c.args.zone.z _ _ _ load.ensures c.requires.planning.sized.linked
    c.requires.r_lt_n c.requires.planning.reverses _ _ (stored load.result c.marked.ensures
    c.store.ensures) _ c.if-delta.true
    (rw (links.0, links.1) at c.count_eligible-count.ensures) (rw (links.0, links.1) at c.fast_row.ensures)

pub returns-else-delta : goal.returns-else-delta
returns-else-delta c =
    let load = c.load-i in
    fast-none (board_of c.args.tables.now c.args.gases) _ _ c.args.zone.z _ _ _ load.ensures c.if-delta.false (stored
    load.result c.marked.ensures c.store.ensures)
