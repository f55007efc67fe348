-- The second half of a turf meets its contract. Assumes nothing.
use native.Mathlib.Omega.{arith}
use Rattle.finish_turf.proofs.Turf.{rest_goes, rest-sent}
use Rattle.finish_turf.proofs.send_rest.Goals as goal

pub links_of-links-requires : goal.links_of-links-requires
links_of-links-requires c = omega (arith, c.requires.ready.board.starts, c.requires.row)

pub send_edges-sent-requires : goal.send_edges-sent-requires
send_edges-sent-requires c = rest_goes c.links_of-links.ensures.1 c.requires

pub shape_of-gas : goal.shape_of-gas
shape_of-gas c = c.send_edges-sent.ensures.made.kept.gas

pub shape_of-floats : goal.shape_of-floats
shape_of-floats c = c.send_edges-sent.ensures.made.kept.floats

pub shape_of-events : goal.shape_of-events
shape_of-events c = c.send_edges-sent.ensures.made.kept.events

pub returns : goal.returns
returns c = rest-sent c.links_of-links.ensures.1 c.send_edges-sent.ensures
