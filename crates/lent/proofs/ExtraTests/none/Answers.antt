-- No ids, no turns and a threshold of 0 pass every test. Assumes nothing.
use mathlib.Core.Path.{refl}
use lib.Ieee.{of_bits}
use Rattle.basics.specs.Floats.{finite_sign_clear}
use Rattle.rules_board.specs.Refuse.{pairwise}
use Rattle.lent.proofs.ExtraTests.none.Goals as goal

pub returns : goal.returns
unfolding finite_sign_clear pairwise of_bits
returns c = record { sizes = refl; threshold = refl; hot = refl }
