-- A turf that is disabled or late stays; any other has its part of the link list walked. Assumes nothing.
use native.Mathlib.Omega.{arith}
use mathlib.Core.Path.{◌∙◌, sym}
use Rattle.walk_links.specs.Reached.{walking}
use Rattle.walk_links.proofs.Does.{does-none, does-as}
use Rattle.walk_links.proofs.Links.{written-room}
use Rattle.walk_links.proofs.LinksOf.{walked-is, spread-disabled, spread-late, spread-on}
use Rattle.walk_links.proofs.spread.Goals.{then-not-enabled-via-then-not-enabled, then-not-enabled-via-else-not-enabled+then-s-limit}
use Rattle.walk_links.proofs.spread.Goals as goal

pub returns-then-not-enabled : goal.returns-then-not-enabled
returns-then-not-enabled c =
    let fit = c.requires.fit in
    elim c.then-not-enabled.branch [
      | then-not-enabled-via-then-not-enabled w ↦ does-none (walking _) _ fit (written-room _ _ fit) (λ es. spread-disabled _ _ _ _ (sym w.if-not-enabled.true ∙ c.enabled.ensures))
      | then-not-enabled-via-else-not-enabled+then-s-limit w ↦ does-none (walking _) _ fit (written-room _ _ fit)
          (λ es. spread-late _ _ _ _ (sym w.if-not-enabled.false ∙ c.enabled.ensures) (rw (walked-is _ _ es) w.if-s-limit.true))
    ]

pub returns : goal.returns
returns c =
    let walk-links = c.walk_links in
    let if1 = c.if-not-enabled in
    let enabled = c.enabled in
    let if2 = c.if-s-limit in
    does-as (walking _) walk-links.ensures
    (λ es. spread-on _ _ _ _ (sym if1.false ∙ enabled.ensures) (rw (walked-is _ _ es) if2.false))
