use Rattle.walk_links.proofs.Does.{going_start, going_next, going_end}
use Rattle.walk_links.proofs.LinksOf.{leads-below, near-run, near-leads, near_next, near_none}
use Rattle.walk_out.specs.Outed.{outing}
use Rattle.walk_out.proofs.Joins.{written-room, near-here}
use Rattle.walk_out.proofs.out_links.Goals as goal

pub loop-a-init : goal.loop-a-init
loop-a-init c =
    let p = c.requires in
    going_start (outing _) p.fact.fit (written-room _ _ p.fact.fit) (λ v. near-run _ _ _ _ p.fact.ground p.fact.inside (near-here p.near_value) _ v)

pub out_link-t-requires : goal.out_link-t-requires
out_link-t-requires c =
    let p = c.requires in
    record {
      fact = record { ground = p.fact.ground; fit = c.loop-a.invariant.fit; inside = p.fact.inside };
      a_bound = leads-below p.fact.ground (near-leads _ _ _ _ p.fact.ground p.fact.inside (near-here p.near_value) _ c.loop-a-test.true);
    }

pub loop-a-preserved : goal.loop-a-preserved
loop-a-preserved c =
    let p = c.requires in
    let taken = c.loop-a-test.true in
    going_next (outing _) _ _ c.loop-a.invariant (c.out_link-t.ensures _ (near-leads _ _ _ _ p.fact.ground p.fact.inside (near-here p.near_value) _ taken).end) (λ es. near_next _ _ _ _ _ taken)

pub returns : goal.returns
returns c = going_end (outing _) c.loop-a.invariant (λ es. near_none _ _ _ _ _ c.loop-a-test.false)
