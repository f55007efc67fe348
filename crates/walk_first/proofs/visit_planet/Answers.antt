-- The marks, and then the spread. Assumes nothing.
use mathlib.Core.Path.{◌∙◌, sym, refl}
use Rattle.walk_first.proofs.Visits.{marked-fit, planet-still, planet-on}
use Rattle.walk_first.proofs.visit_planet.Goals as goal

pub met-planet-requires : goal.met-planet-requires
met-planet-requires c = let p = c.requires in rw p.ground.planetary p.inside

pub is_immutable-requires : goal.is_immutable-requires
is_immutable-requires c = let p = c.requires in (rw p.ground.mixtures p.inside, p.ground.mixture _ p.inside)

pub returns-then-is_immutable : goal.returns-then-is_immutable
returns-then-is_immutable c = planet-still _ _ _ _ _ _ _ c.requires.fit _ (c.met-planet.ensures _ refl) _ (sym c.if-is_immutable.true ∙ c.is_immutable.ensures _ refl refl) c.mark.ensures

pub spread-requires : goal.spread-requires
spread-requires c = let p = c.requires in record { ground = p.ground; fit = marked-fit _ _ _ _ p.fit _ _ _ c.mark-t.ensures; inside = p.inside }

pub returns : goal.returns
returns c =
    let pre = c.requires in
    let met = c.met-planet in
    let if1 = c.if-is_immutable in
    let is-immutable = c.is_immutable in
    let mark2 = c.mark-t in
    let spread = c.spread in
    planet-on _ _ _ _ _ _ _ pre.fit _ (met.ensures _ refl) _ (sym if1.false ∙ is-immutable.ensures _ refl refl) mark2.ensures spread.ensures
