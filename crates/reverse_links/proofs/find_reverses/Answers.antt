-- No link has a reverse, then the pairs. Assumes nothing.
use native.Mathlib.Omega.{arith}
use Rattle.reverse_links.proofs.Places.{but_then, but_cleared}
use Rattle.reverse_links.proofs.Pairs.{paired_none, backs_of}
use Rattle.reverse_links.proofs.find_reverses.Goals as goal

pub pair_rows-requires : goal.pair_rows-requires
pair_rows-requires c =
    let clear = but_cleared c.args.layout.links c.args.layout.links c.args.words.now c.requires.room c.clear_part.ensures in
    record {
      pairing = record { linked = c.requires.linked; all = c.requires.all; links = c.requires.links; turfs = c.requires.turfs; room = omega (arith, c.requires, clear.0.len) };
      paired = paired_none c.requires.linked _ _ c.requires.all clear.1;
    }

pub returns : goal.returns
returns c =
    let clear = but_cleared c.args.layout.links c.args.layout.links c.args.words.now c.requires.room c.clear_part.ensures in
    record {
      but = but_then (omega arith) (omega arith) clear.0 c.pair_rows.ensures.but;
      backs = backs_of c.requires.linked c.requires.all c.pair_rows.ensures.paired_2;
    }
