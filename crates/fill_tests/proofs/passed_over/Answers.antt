-- Found already, disabled, or by the tests of its links and totals. Assumes nothing.
use mathlib.Core.Path.{sym, ◌∙◌}
use borrow.Author.Tests.{not-true, not-false, ne_eqb}
use Rattle.turfs.specs.Tables.{board_at}
use Rattle.fill_tests.proofs.Passed.{is_found, is_off, is_rest, mark-is}
use Rattle.basics.proofs.Tests.{differ}
use Rattle.fill_tests.proofs.passed_over.Goals.{then-words-found_at-ne0, else-words-found_at-ne0}
use Rattle.fill_tests.proofs.passed_over.Goals as goal

pub returns-then-not-enabled : goal.returns-then-not-enabled
returns-then-not-enabled c = λ q et.
    let b = board_at c.args.tables c.args.gases in
    let mark = mark-is c.requires.fact _ c.found_at.ensures in
    elim c.if-words-found_at-ne0.branch [
      | then-words-found_at-ne0 w ↦ is_found b _ q _ _ (λ i. w.if-words-found_at-ne0.true (mark ∙ i)) ∙ sym c.if-not-enabled.true
      | else-words-found_at-ne0 w ↦ is_off b _ q _ _ (sym mark ∙ w.if-words-found_at-ne0.false) (sym w.enabled.ensures ∙ not-true _ (sym w.value-is ∙ c.if-not-enabled.true)) ∙ sym c.if-not-enabled.true
    ]

pub returns-else-not-enabled : goal.returns-else-not-enabled
returns-else-not-enabled c = λ q et.
    let b = board_at c.args.tables c.args.gases in
    let mark = mark-is c.requires.fact _ c.found_at.ensures in
    elim c.if-words-found_at-ne0.branch [
      | then-words-found_at-ne0 w ↦ absurd (differ (rw (ne_eqb _ _ w.if-words-found_at-ne0.true) at (sym w.value-is ∙ c.if-not-enabled.false)))
      | else-words-found_at-ne0 w ↦ is_rest b _ q _ _ (sym mark ∙ w.if-words-found_at-ne0.false) (sym w.enabled.ensures ∙ not-false _ (sym w.value-is ∙ c.if-not-enabled.false)) _ (c.unshareable.ensures q et)
    ]
