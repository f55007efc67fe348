-- The mark, the space list, or the spread. Assumes nothing.
use mathlib.Core.Path.{◌∙◌, sym, refl}
use Rattle.walk_first.proofs.Visits.{is_planetary, not_planetary, space-planet, space-open, space-on}
use Rattle.walk_first.proofs.visit_space.Goals as goal

pub returns-then-planetary-r-ne0 : goal.returns-then-planetary-r-ne0
returns-then-planetary-r-ne0 c = space-planet _ _ _ _ _ _ _ c.requires.fact.fit (is_planetary _ _ c.if-planetary-r-ne0.true) _ c.mark.ensures

pub is_immutable-requires : goal.is_immutable-requires
is_immutable-requires c = let p = c.requires.fact in (rw p.ground.mixtures p.inside, p.ground.mixture _ p.inside)

pub returns-then-is_immutable : goal.returns-then-is_immutable
returns-then-is_immutable c =
    let pre = c.requires in
    let if1 = c.if-planetary-r-ne0 in
    let if2 = c.if-is_immutable in
    let is-immutable = c.is_immutable in
    let at-space = c.at_space in
    space-open _ _ _ _ _ _ _ pre.fact.fit (not_planetary _ _ if1.false) (sym if2.true ∙ is-immutable.ensures _ refl refl) at-space.ensures

pub spread-requires : goal.spread-requires
spread-requires c = c.requires.fact

pub returns : goal.returns
returns c =
    let pre = c.requires in
    let if1 = c.if-planetary-r-ne0 in
    let if2 = c.if-is_immutable in
    let is-immutable = c.is_immutable in
    let spread = c.spread in
    space-on _ _ _ _ _ _ _ pre.fact.fit (not_planetary _ _ if1.false) (sym if2.false ∙ is-immutable.ensures _ refl refl) spread.ensures
