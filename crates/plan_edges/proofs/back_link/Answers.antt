-- By the three cases of the code. Assumes nothing.
use native.Mathlib.Omega.{arith}
use Rattle.plan_edges.proofs.Weights.{back_none, back-owned, back-foreign}
use Rattle.plan_edges.proofs.back_link.Goals.{else-p-ne0-via-else-p-ne0, else-p-ne0-via-then-p-ne0+else-words-p}
use Rattle.plan_edges.proofs.back_link.Goals as goal

pub returns-then-words-p : goal.returns-then-words-p
returns-then-words-p c = back-owned _ _ _ _ c.requires.link _ c.reverse_at.ensures c.if-p-ne0.true c.requires.back c.if-words-p.true

pub returns-else-p-ne0 : goal.returns-else-p-ne0
returns-else-p-ne0 c =
    elim c.else-p-ne0.branch [
      | else-p-ne0-via-else-p-ne0 w ↦ back_none _ _ _ _ c.requires.link _ c.reverse_at.ensures w.if-p-ne0.false
      | else-p-ne0-via-then-p-ne0+else-words-p w ↦ back-foreign _ _ _ _ c.requires.link _ c.reverse_at.ensures w.if-p-ne0.true c.requires.back w.if-words-p.false
    ]
