use native.Mathlib.Omega.{arith}
use mathlib.Core.Path.{refl, ◌∙◌, sym}
use Rattle.plan_search.proofs.Rows.{row-start, row-passes, row_next, row-end, row_settled}
use Rattle.plan_search.proofs.seek_row.Goals as goal

pub loop-k-init : goal.loop-k-init
loop-k-init c =
    ((omega arith, (c.requires.rise, (refl, refl))), row-start c.requires.searching.seeking c.requires.unsettled)

pub pass_links-pass-requires : goal.pass_links-pass-requires
pass_links-pass-requires c =
    record {
      searching = record { seeking = c.loop-k.invariant.1.on.seeking; zone = c.requires.searching.zone; row = c.requires.searching.row };
      ends = c.requires.ends;
      at_le_to = c.loop-k.invariant.0.1.0;
    }

pub seek_link-step-requires : goal.seek_link-step-requires
seek_link-step-requires c =
    let loop = c.loop-k in
    let pass-links = c.pass_links-pass in
    let t = row-passes loop.invariant.1 c.requires.searching.row loop.invariant.0.0 pass-links.ensures.at_le_at pass-links.ensures.at_le_to_2 pass-links.ensures.fact in
    record {
      searching = record { seeking = t.on.seeking; zone = c.requires.searching.zone; row = c.requires.searching.row };
      unsettled = t.unsettled;
      ends = record {
        row = c.requires.ends.row;
        all = c.requires.ends.all;
        within = omega (arith, c.requires.ends.within, c.if-k-to.true);
        ends = c.requires.ends.ends;
      };
    }

pub overflow_add-k : goal.overflow_add-k
overflow_add-k c =
    omega (arith, c.if-k-to.true, c.requires.ends.within, c.requires.searching.seeking.fit.links)

pub shape_of-words-then-step : goal.shape_of-words-then-step
shape_of-words-then-step c =
    c.seek_link-step.auto.words ∙ c.pass_links-pass.auto.words
    ∙ c.loop-k.invariant.0.1.1.0

pub shape_of-floats-then-step : goal.shape_of-floats-then-step
shape_of-floats-then-step c =
    c.seek_link-step.auto.floats ∙ c.pass_links-pass.auto.floats
    ∙ c.loop-k.invariant.0.1.1.1

pub returns-then-step : goal.returns-then-step
returns-then-step c =
    let loop = c.loop-k in
    let pass-links = c.pass_links-pass in
    let seek-link = c.seek_link-step in
    let t = row-passes loop.invariant.1 c.requires.searching.row loop.invariant.0.0 pass-links.ensures.at_le_at pass-links.ensures.at_le_to_2 pass-links.ensures.fact in
    row_settled _ _ t (omega (arith, loop.invariant.0.0, pass-links.ensures.at_le_at)) c.if-k-to.true seek-link.ensures.fact
    c.requires.searching.row (sym seek-link.ensures.done_value ∙ c.if-step.true)

pub loop-k-smaller-else-step : goal.loop-k-smaller-else-step
loop-k-smaller-else-step c = omega (arith, c.loop-k-test.true, c.pass_links-pass.ensures.at_le_at, c.if-k-to.true)

pub loop-k-preserved-else-step : goal.loop-k-preserved-else-step
loop-k-preserved-else-step c =
    let loop = c.loop-k in
    let pass-links = c.pass_links-pass in
    let if1 = c.if-k-to in
    let seek-link = c.seek_link-step in
    let t = row-passes loop.invariant.1 c.requires.searching.row
    loop.invariant.0.0 pass-links.ensures.at_le_at pass-links.ensures.at_le_to_2 pass-links.ensures.fact in (
      (
        omega (arith, loop.invariant.0.0, pass-links.ensures.at_le_at),
        (
          omega (arith, if1.true),
          (
            seek-link.auto.words ∙ pass-links.auto.words ∙
                loop.invariant.0.1.1.0,
            seek-link.auto.floats ∙ pass-links.auto.floats ∙ loop.invariant.0.1.1.1,
          ),
        ),
      ),
      row_next t (omega (arith, loop.invariant.0.0, pass-links.ensures.at_le_at)) if1.true seek-link.ensures.fact (sym seek-link.ensures.done_value ∙ c.if-step.false),
    )

pub loop-k-smaller : goal.loop-k-smaller
loop-k-smaller c = omega (arith, c.loop-k-test.true, c.if-k-to.false)

pub loop-k-preserved : goal.loop-k-preserved
loop-k-preserved c =
    let loop = c.loop-k in
    let pass-links = c.pass_links-pass in (
      (
        omega (arith, loop.invariant.0.0, pass-links.ensures.at_le_at),
        (
          pass-links.ensures.at_le_to_2,
          (
            pass-links.auto.words ∙ loop.invariant.0.1.1.0,
            pass-links.auto.floats
                ∙ loop.invariant.0.1.1.1,
          ),
        ),
      ),
      row-passes loop.invariant.1 c.requires.searching.row
          loop.invariant.0.0 pass-links.ensures.at_le_at pass-links.ensures.at_le_to_2 pass-links.ensures.fact,
    )

pub shape_of-words : goal.shape_of-words
shape_of-words c = c.loop-k.invariant.0.1.1.0

pub shape_of-floats : goal.shape_of-floats
shape_of-floats c = c.loop-k.invariant.0.1.1.1

pub returns : goal.returns
returns c = row-end c.loop-k.invariant.1 c.loop-k-test.false
