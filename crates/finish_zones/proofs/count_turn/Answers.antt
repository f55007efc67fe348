-- A count of turns is below the next start, which is a word. Assumes nothing.
use mathlib.Core.Path.{ap}
use Prim.Native.Nat.{ℕ, ◌+◌}
use lib.ListN.{get_or, set}
use Rattle.finish_zones.proofs.count_turn.Goals as goal

pub returns : goal.returns
returns c = ap (λ (i : ℕ). set c.args.words.now (i + c.args.zone) (get_or c.args.words.now (i + c.args.zone) 0 + 1)) c.turns_at.ensures
