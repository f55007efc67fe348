-- Each test's own promise. Assumes nothing.
use Rattle.lent_equalize.proofs.Extra.{tests-of}
use Rattle.lent_equalize.proofs.extra_tests.Goals as goal

pub returns : goal.returns
returns c = tests-of _ _ _ _ c.counts_fit.ensures c.finite_sign_clear.ensures c.ascending.ensures
