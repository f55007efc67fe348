use Prim.Native.Nat.{ℕ, ◌<◌}
use mathlib.Core.Path.{sym, subst}
use Rattle.fill_ignored.proofs.Stores.{backing-start, back-row, back-asks, backing-next}
use Rattle.fill_ignored.proofs.ignore.Goals as goal

pub loop-i-init : goal.loop-i-init
loop-i-init c = backing-start _ _ _ _ _

pub give_back-requires : goal.give_back-requires
give_back-requires c =
    let by-queue-at = c.queue_at-queue in
    let head = c.loop-i in
    let whole = back-asks head.words c.requires.spans (rw head.invariant.long c.requires.pushed_fits.words) _ (subst (λ (x : ℕ). x < c.args.layout.turfs) (sym (back-row head.invariant c.requires.pushed_fits.words c.requires.pushed_fits.few c.loop-i-test.true _ by-queue-at.ensures)) (c.requires.pushed_fits.rows _ c.loop-i-test.true)) in
    record {
      row_in_bounds = whole.0;
      row_bound = whole.1.0;
      row_in_bounds_2 = whole.1.1;
    }

pub loop-i-preserved : goal.loop-i-preserved
loop-i-preserved c =
    let by-queue-at = c.queue_at-queue in
    let head = c.loop-i in
    let by-loop-test = c.loop-i-test in
    let row = back-row head.invariant c.requires.pushed_fits.words c.requires.pushed_fits.few by-loop-test.true _ by-queue-at.ensures in
    let turf = subst (λ (x : ℕ). x < c.args.layout.turfs) (sym row) (c.requires.pushed_fits.rows _ by-loop-test.true) in
    backing-next head.invariant c.requires.pushed_fits.words c.requires.pushed_fits.few by-loop-test.true _ by-queue-at.ensures _ row (c.requires.spans.rise _ turf) (c.requires.spans.end _ turf) c.give_back.ensures
