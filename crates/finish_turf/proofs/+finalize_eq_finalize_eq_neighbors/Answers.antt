use mathlib.Core.Path.{sym, ◌∙◌}
use native.Mathlib.Omega.{arith}
use Rattle.finish_turf.proofs.Givers.{loop-start, giver_begun, edge-room, loop-next, givers_finished}
use Rattle.finish_turf.proofs.+finalize_eq_finalize_eq_neighbors.Goals as goal

pub finalize_eq-send_rest-requires : goal.finalize_eq-send_rest-requires
finalize_eq-send_rest-requires t c =
    let send-first = c.send_first-sent in
    let links-of = c.links_of-links in
    let if1 = c.if-at-links in
    let finalize-eq-neighbors = c.finalize_eq_neighbors-now in
    let s = send-first.ensures.short (λ e. if1.false (e ∙ sym links-of.ensures.1)) in
    s.going _ finalize-eq-neighbors.ensures

pub finalize_eq-returns : goal.finalize_eq-returns
finalize_eq-returns t c =
    let send-first = c.send_first-sent in
    let links-of = c.links_of-links in
    let if1 = c.if-at-links in
    let finalize-eq-neighbors = c.finalize_eq_neighbors-now in
    let send-rest = c.send_rest in
    let s = send-first.ensures.short (λ e. if1.false (e ∙ sym links-of.ensures.1)) in
    s.rest _ _ finalize-eq-neighbors.ensures send-rest.ensures

pub finalize_eq_neighbors-loop-k-init : goal.finalize_eq_neighbors-loop-k-init
finalize_eq_neighbors-loop-k-init t c =
    let links-of = c.links_of-from in
    loop-start _ _ _ _ _ c.requires _ _ _ c.lifted_at-up.ensures links-of.ensures.0 links-of.ensures.1 _ c.next_edge-k.ensures

pub finalize_eq_neighbors-finalize_eq-now-requires : goal.finalize_eq_neighbors-finalize_eq-now-requires
finalize_eq_neighbors-finalize_eq-now-requires t c =
    let links-of = c.links_of-from in
    let lifted-at = c.lifted_at-up in
    let loop = c.loop-k in
    (omega (arith, c.decreases, loop.invariant.made.fewer), giver_begun _ _ _ _ _ c.requires _ _ _ lifted-at.ensures links-of.ensures.0 links-of.ensures.1 _ _ loop.invariant c.loop-k-test.true)

pub finalize_eq_neighbors-next_edge-k-requires-in-loop-k : goal.finalize_eq_neighbors-next_edge-k-requires-in-loop-k
finalize_eq_neighbors-next_edge-k-requires-in-loop-k t c =
    let links-of = c.links_of-from in
    let lifted-at = c.lifted_at-up in
    let loop = c.loop-k in
    let loop-test = c.loop-k-test in
    let finalize-eq = c.finalize_eq-now in
    let whole = edge-room _ _ _ _ _ c.requires _ _ _ lifted-at.ensures links-of.ensures.0 links-of.ensures.1 _ _ loop.invariant loop-test.true finalize-eq.new.floats finalize-eq.ensures.kept.floats in
    record {
      k_le_to = whole.1.0;
      to_in_bounds = whole.1.1.0;
      to_in_bounds_2 = whole.1.1.1;
    }

pub finalize_eq_neighbors-loop-k-preserved : goal.finalize_eq_neighbors-loop-k-preserved
finalize_eq_neighbors-loop-k-preserved t c =
    let links-of = c.links_of-from in
    let lifted-at = c.lifted_at-up in
    let loop = c.loop-k in
    let loop-test = c.loop-k-test in
    let finalize-eq = c.finalize_eq-now in
    loop-next _ _ _ _ _ c.requires _ _ _ lifted-at.ensures links-of.ensures.0 links-of.ensures.1 _ _ loop.invariant loop-test.true _ _ finalize-eq.ensures c.next_edge-k-in-loop-k.ensures

pub finalize_eq_neighbors-returns : goal.finalize_eq_neighbors-returns
finalize_eq_neighbors-returns t c =
    let links-of = c.links_of-from in
    givers_finished _ _ _ _ _ c.requires _ _ _ c.lifted_at-up.ensures links-of.ensures.0 links-of.ensures.1 _ _ c.loop-k.invariant c.loop-k-test.false
