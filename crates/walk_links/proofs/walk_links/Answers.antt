-- What is left of the links starts as all of them and ends as none. Assumes nothing.
use Rattle.walk_links.specs.Reached.{walking}
use Rattle.walk_links.proofs.Does.{going_start, going_next, going_end}
use Rattle.walk_links.proofs.Links.{written-room}
use Rattle.walk_links.proofs.LinksOf.{near-run, near-leads, near_next, near_none}
use Rattle.walk_links.proofs.walk_links.Goals as goal

pub loop-i-init : goal.loop-i-init
loop-i-init c =
    let p = c.requires in
    going_start (walking _) p.fact.fit (written-room _ _ p.fact.fit) (λ v. near-run _ _ _ _ p.fact.ground p.fact.inside p.fact_2 _ v)

pub walk_link-t-requires-clause-fact_2 : goal.walk_link-t-requires-clause-fact_2
walk_link-t-requires-clause-fact_2 c = let p = c.requires in near-leads _ _ _ _ p.fact.ground p.fact.inside p.fact_2 _ c.loop-i-test.true

pub loop-i-preserved : goal.loop-i-preserved
loop-i-preserved c = going_next (walking _) _ _ c.loop-i.invariant c.walk_link-t.ensures (λ es. near_next _ _ _ _ _ c.loop-i-test.true)

pub returns : goal.returns
returns c = going_end (walking _) c.loop-i.invariant (λ es. near_none _ _ _ _ _ c.loop-i-test.false)
