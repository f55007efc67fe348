use native.Mathlib.Omega.{arith}
use native.Mathlib.Nat.{add-zero}
use Rattle.turfs.specs.Tables.{board_of}
use Rattle.turfs.proofs.Near.{near-to, near-inside}
use Rattle.fill_links.proofs.Links.{near-row, near-met, met-row, met-step, walked_start, walked-free, walked_next, links-walked}
use Rattle.fill_links.proofs.reach_near.Goals as goal

pub loop-i-init : goal.loop-i-init
loop-i-init c =
    let p = c.requires in
    let to = near-to p.tables_fit.parts p.turf_fits.row p.near in
    walked_start _ _ (add-zero _) p.fact.fit p.fact.bounds (omega arith) (λ j a l. p.turf_fits.free j (omega (arith, p.near.start)) (omega (arith, to)))

pub meet-m-requires : goal.meet-m-requires
meet-m-requires c =
    let p = c.requires in
    record {
      tables_fit = p.tables_fit;
      row_bound = near-row p.tables_fit p.turf_fits.row p.near _ c.loop-i-test.true;
      k_bound = omega (arith, near-inside p.tables_fit.parts p.turf_fits.row p.near, c.loop-i-test.true);
    }

pub reach-s-requires : goal.reach-s-requires
reach-s-requires c =
    let p = c.requires in
    let inv = c.loop-i.invariant in
    let taken = c.loop-i-test.true in
    let inside = near-inside p.tables_fit.parts p.turf_fits.row p.near in record {
      walking = record { fit = inv.done.fit; bounds = inv.done.bounds };
      link_fits = record {
        link = omega (arith, taken, inside);
        row = met-row p.tables_fit _ (omega (arith, taken, inside)) _ (near-met p.tables_fit p.turf_fits.row p.near _ taken _ c.meet-m.ensures);
        free = walked-free _ inv (omega (arith, taken)) inside;
      };
    }

pub loop-i-preserved : goal.loop-i-preserved
loop-i-preserved c =
    let p = c.requires in
    let taken = c.loop-i-test.true in
    let inside = near-inside p.tables_fit.parts p.turf_fits.row p.near in
    let step = met-step (board_of c.args.tables.now 0) _ _ _ _ (near-met p.tables_fit p.turf_fits.row p.near _ taken _ c.meet-m.ensures) in
    walked_next _ c.loop-i.invariant (omega (arith, taken)) inside _ _ step c.reach-s.ensures _ (omega arith)

pub returns : goal.returns
returns c = λ gases.
    let p = c.requires in
    links-walked c.args.tables.now c.args.row c.loop-i.invariant p.near.start (near-to p.tables_fit.parts p.turf_fits.row p.near) (omega (arith, c.loop-i-test.false)) gases
