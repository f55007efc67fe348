-- The zone's next node is a row, so finishing it is the definition's job. Assumes nothing.
use Rattle.finish_turns.proofs.Jobs.{zone-small, node-begun, node_done}
use native.Mathlib.Omega.{arith}
use Rattle.finish_turns.proofs.finish_next.Goals as goal

pub next_row-requires : goal.next_row-requires
next_row-requires c = c.requires.fact

pub overflow_cast-turf : goal.overflow_cast-turf
overflow_cast-turf c = let h = zone-small _ _ _ _ c.requires.turns_fit c.requires.fact in omega (arith, h)

pub finalize_eq-now-requires : goal.finalize_eq-now-requires
finalize_eq-now-requires c = node-begun _ _ _ _ c.requires.turns_fit c.requires.fact _ c.next_row.ensures

pub count_turn-requires : goal.count_turn-requires
count_turn-requires c = c.requires.fact

pub shape_of-gas : goal.shape_of-gas
shape_of-gas c = c.finalize_eq-now.ensures.kept.gas

pub shape_of-words : goal.shape_of-words
shape_of-words c =
    let next_row = c.next_row in
    let finalize-eq = c.finalize_eq-now in
    let count_turn = c.count_turn in
    (node_done _ _ _ _ c.requires.turns_fit c.requires.fact _ next_row.ensures _ _ finalize-eq.ensures count_turn.ensures).did.words.size

pub shape_of-floats : goal.shape_of-floats
shape_of-floats c = c.finalize_eq-now.ensures.kept.floats

pub shape_of-events : goal.shape_of-events
shape_of-events c = c.finalize_eq-now.ensures.kept.events

pub returns : goal.returns
returns c =
    let next_row = c.next_row in
    let finalize-eq = c.finalize_eq-now in
    let count_turn = c.count_turn in
    node_done _ _ _ _ c.requires.turns_fit c.requires.fact _ next_row.ensures _ _ finalize-eq.ensures count_turn.ensures
