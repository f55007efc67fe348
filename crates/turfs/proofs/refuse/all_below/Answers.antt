use Rattle.std.proofs.Common.{rules}
use Rattle.basics.proofs.Tests.{every-each}
use Rattle.turfs.proofs.refuse.all_below.Goals as goal

pub returns : goal.returns
returns c = every-each _ _ _ (search rules)
