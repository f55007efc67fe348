-- The starts say where the zone's nodes are. Assumes nothing.
use native.Mathlib.Omega.{arith}
use mathlib.Core.Path.{refl}
use Rattle.turfs.specs.Tables.{board_of}
use Rattle.plan_all.proofs.Zones.{room-fit, from-to, handed}
use Rattle.plan_all.proofs.Plans.{zone-planned}
use Rattle.plan_all.proofs.plan_zone_at.Goals as goal

pub overflow_add-at : goal.overflow_add-at
overflow_add-at c =
    omega (arith, c.starts_at.ensures, c.requires.room.sizes, c.requires.zone)

pub overflow_cast-from : goal.overflow_cast-from
overflow_cast-from c =
    let range = from-to c.starts_at.ensures c.requires.zone c.requires.ready in
    omega (arith, range, c.requires.room.sizes.turfs, c.requires.room.sizes.links)

pub overflow_cast-to : goal.overflow_cast-to
overflow_cast-to c =
    let range = from-to c.starts_at.ensures c.requires.zone c.requires.ready in
    omega (arith, range, c.requires.room.sizes.turfs, c.requires.room.sizes.links)

pub overflow_add-total : goal.overflow_add-total
overflow_add-total c =
    omega (arith, c.moles_at.ensures, c.requires.room.sizes, c.requires.zone)

pub overflow_add-zone : goal.overflow_add-zone
overflow_add-zone c =
    let range = from-to c.starts_at.ensures c.requires.zone c.requires.ready in
    omega (arith, c.nodes_at.ensures, range, c.requires.room.sizes.turfs, c.requires.room.sizes.links)

pub overflow_sub-zone : goal.overflow_sub-zone
overflow_sub-zone c = omega (arith, (from-to c.starts_at.ensures c.requires.zone c.requires.ready).0)

pub process_zone-requires : goal.process_zone-requires
process_zone-requires c =
    record {
      fact = c.requires.tables.gassed;
      planning = record {
        sized = record { turfs = refl; links = refl; linked = c.requires.tables.linked };
        fit = room-fit c.requires.room;
        zone = omega (arith, c.requires.zone, c.requires.room.sizes.turfs);
        reverses = c.requires.reverses;
      };
      nodes = handed c.starts_at.ensures c.requires.zone c.requires.ready c.nodes_at.ensures c.requires.room;
    }

pub returns : goal.returns
returns c = zone-planned (board_of c.args.tables.now c.args.gases) _ c.starts_at.ensures
    c.requires.zone c.requires.ready c.nodes_at.ensures (omega (arith, c.moles_at.ensures))
    c.process_zone.ensures
