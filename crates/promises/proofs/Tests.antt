-- Clock tests over what the exported function promises: one for each turf popped and two more, or one more than the allowance. Assumes nothing.
use mathlib.Core.Path.{◌≡◌, refl, ap, ◌∙◌, sym}
use mathlib.Core.List.{List}
use Prim.Native.Nat.{ℕ, ◌+◌, ◌≤◌}
use lib.ListN.{get_or}
use Rattle.rules_board.specs.Board.{Board}
use Rattle.rules_lent.specs.Lent.{Lent, Result}
use Rattle.lent.proofs.Passed.{passed}
use Rattle.rules_equalize.specs.Equalize.{Ask, equalize}
use Rattle.rules_equalize.specs.Clock.{pops}
use Rattle.rules_equalize.specs.Result.{equalize_room, equalize_number, equalize_done, equalize_result}
use Rattle.rules_equalize.specs.declared.EqualizeAnswer.{EqualizeAnswer}
use Rattle.laws_equalize.proofs.Tests.{tests-made}
use Rattle.call_answers.specs.Answers.{Answers, equalize_numbers}
use Rattle.promises.proofs.ReadBack.{equalize-done}

module _ (b : Board) (q : Ask) (turns : List ℕ) (l : Lent) (n : ℕ) (a : List ℕ) (left : Lent) (x : Answers equalize_numbers b (equalize_result b q turns l) n a left) (z : n ≡ 0) where
  -- the numbers of the answer are those of the run
  run_is : (equalize_number b q turns l ≡ 0) × (a ≡ equalize_numbers (equalize_done b q turns l (equalize b l.gas q turns)).answer)
  run_is =
      let d = equalize-done b l q turns (equalize_result b q turns l) refl (sym x.returned ∙ z) in
      (d.0, x.written ∙ ap (λ (r : Result EqualizeAnswer). equalize_numbers r.answer) d.1)

  pub katmos_tests : get_or a 1 0 ≡ 0 → (get_or a 3 0 ≡ pops b l.gas q + 2) × (get_or a 3 0 ≤ q.allowance)
  unfolding equalize_number equalize_done
  katmos_tests e =
      let t = tests-made b l.gas q (passed b l (equalize_room b) _ run_is.0).board turns in
      rw run_is.1 (t.done (sym (ap (λ (w : List ℕ). get_or w 1 0) run_is.1) ∙ e))

  pub katmos_tests_over : get_or a 1 0 ≡ 1 → get_or a 3 0 ≡ q.allowance + 1
  unfolding equalize_number equalize_done
  katmos_tests_over e =
      let t = tests-made b l.gas q (passed b l (equalize_room b) _ run_is.0).board turns in
      rw run_is.1 (t.over (sym (ap (λ (w : List ℕ). get_or w 1 0) run_is.1) ∙ e)).0
