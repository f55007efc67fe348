-- Four stores, each in its own array. Assumes nothing.
use Rattle.fill_zone.proofs.Zones.{started}
use mathlib.Core.Path.{refl}
use Rattle.fill_zone.proofs.start.Goals as goal

pub returns : goal.returns
returns c =
    let by-found-at = c.found_at in
    let by-queue-at = c.queue_at in
    let by-nodes-at = c.nodes_at in
    let by-places-at = c.places_at-places in
    record {
      zone_starts = started c.args.seed.row c.args.seed.used c.args.seed.tests c.args.seed.kept c.args.layout.turfs c.args.layout.links c.args.words.now c.args.layout.sizes c.requires.row c.requires.room c.requires.words _ _ _ _ by-found-at.ensures by-queue-at.ensures by-nodes-at.ensures by-places-at.ensures _ c.insert.ensures;
      at_start = record { none = refl; clock = refl; on = refl; bytes = refl };
    }
