-- Past the clock, broken off at the limit, or expanded. Assumes nothing.
use Rattle.fill_links.specs.Asked.{Free}
use Rattle.fill_zone.proofs.Pops.{row_below, pop-over, pop-broken, pop-on}
use lib.ListN.{get_or}
use Prim.Native.Nat.{ℕ, ◌+◌}
use mathlib.Core.Path.{sym, subst, ◌∙◌}
use native.Mathlib.Omega.{arith}
use Rattle.fill_zone.proofs.pop.Goals as goal

pub returns-then-settings-t : goal.returns-then-settings-t
returns-then-settings-t c =
    let whole = pop-over _ _ _ _ _ _ c.args.t c.requires.pop_fits.walking.fit c.requires.pop_fits.walking.bounds c.requires.pop_fits.on c.requires.pop_fits.left c.if-settings-t.true _ c.ended.ensures in
    record {
      fact = whole.0;
      moved = whole.1;
    }

pub bounds-planetary-row : goal.bounds-planetary-row
bounds-planetary-row c =
    rw c.requires.accepted.planets (row_below c.requires.pop_fits.walking.fit c.requires.pop_fits.walking.bounds _ c.requires.pop_fits.left _ c.queue_at.ensures)

pub returns-then-breaks : goal.returns-then-breaks
returns-then-breaks c =
    let by-queue-at = c.queue_at in
    let by-if1 = c.if-settings-t in
    let by-is-planet = c.is_planet-planet in
    let whole = pop-broken _ _ _ _ _ _ c.args.t c.requires.pop_fits.walking.fit c.requires.pop_fits.walking.bounds c.requires.pop_fits.on c.requires.pop_fits.left _ by-queue-at.ensures by-if1.false _ by-is-planet.ensures (sym c.if-breaks.true ∙ c.breaks.ensures) _ c.ended-then-breaks.ensures in
    record {
      fact = whole.0;
      moved = whole.1;
    }

pub expand-requires : goal.expand-requires
expand-requires c =
    record {
      accepted = c.requires.accepted;
      expand_fits = record {
        walking = c.requires.pop_fits.walking;
        turf = record {
          row = row_below c.requires.pop_fits.walking.fit c.requires.pop_fits.walking.bounds _ c.requires.pop_fits.left _ c.queue_at.ensures;
          free = subst (λ (x : ℕ). Free c.args.tables.now.starts.now (get_or c.args.words.now (x + c.args.t.popped) 0) c.args.words.now) (sym c.queue_at.ensures) c.requires.pop_fits.free;
        };
        popped = omega (arith, c.requires.pop_fits.left, c.requires.pop_fits.walking.fit.queue, c.requires.accepted.turfs);
        tests = omega (arith, c.requires.pop_fits.clock, c.well_formed);
      };
    }

pub returns : goal.returns
returns c =
    let by-queue-at = c.queue_at in
    let by-if1 = c.if-settings-t in
    let by-is-planet = c.is_planet-planet in
    let by-breaks = c.breaks in
    let by-if2 = c.if-breaks in
    let by-expand = c.expand in
    let whole = pop-on _ _ _ _ _ _ c.args.t c.requires.pop_fits.walking.fit c.requires.pop_fits.walking.bounds c.requires.pop_fits.on c.requires.pop_fits.left _ by-queue-at.ensures by-if1.false _ by-is-planet.ensures (sym by-if2.false ∙ by-breaks.ensures) (by-expand.ensures _ _) in
    record {
      fact = whole.0;
      moved = whole.1;
    }
