-- The call's own promise. Assumes nothing.
use Rattle.rules_board.specs.Board.{board}
use Rattle.call_answers.specs.Answers.{planet_numbers}
use Rattle.katmos.proofs.Results.{told, answers, words_of}
use Rattle.katmos.proofs.katmos_planet_walk.Goals as goal

pub returns : goal.returns
returns c =
    let a = c.args in
    let b = board a.ids.now a.flags.now a.planetary.now a.mixtures.now a.starts.now a.neighbours.now a.link_flags.now a.immutable.now a.gases in
    answers planet_numbers b _ _ _ (words_of a.ids.now c.shared_slice_known-1.given) (told c.planet_answer-a.ensures c.planet_walk.ensures) c.planet_numbers.ensures
