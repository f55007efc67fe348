-- A count of turns is a word. Assumes nothing.
use mathlib.Core.Path.{ap}
use Prim.Native.Nat.{ℕ, ◌+◌}
use lib.ListN.{get_or}
use Rattle.finish_zones.proofs.turns_of.Goals as goal

pub returns : goal.returns
returns c = ap (λ (i : ℕ). get_or c.args.words.now (i + c.args.zone) 0) c.turns_at.ensures
