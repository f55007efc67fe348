-- By the four ways out: not the zone's link, a row that is in the queue, a new row that wants, one that doesn't. Assumes nothing.
use Prim.Native.Nat.{◌<◌}
use native.Mathlib.Omega.{arith}
use mathlib.Core.Path.{◌∙◌, refl, sym}
use Rattle.plan_trade.proofs.Seeks.{link-holds, link-room}
use Rattle.plan_trade.proofs.Passes.{pass-foreign, pass-queued, pass-new}
use Rattle.plan_trade.proofs.pass_link.Goals as goal

pub returns-then-words-k : goal.returns-then-words-k
returns-then-words-k c =
    let hk : c.args.k < c.args.hand.layout.links = omega (arith, c.requires.ends.within) in
    let ha = c.requires.ends.ends c.args.k hk in
    record {
      floats_value = λ q. cc;
      fact = pass-foreign c.args.hand.side c.args.r c.args.k c.args.hand.z _ _ _ c.args.neighbours.now _ _ c.requires.searching.seeking hk ha c.if-words-k.true;
    }

pub contains-requires : goal.contains-requires
contains-requires c =
    let hk : c.args.k < c.args.hand.layout.links = omega (arith, c.requires.ends.within) in
    let ha = c.requires.ends.ends c.args.k hk in
    (link-holds c.args.hand.side _ c.args.r c.args.k _ c.args.hand.z _ _ _ _ _ c.requires.searching.seeking hk ha ha _ _ c.queue_at-queue.ensures c.places_at-places.ensures, ha)

pub returns-then-contains : goal.returns-then-contains
returns-then-contains c =
    let hk : c.args.k < c.args.hand.layout.links = omega (arith, c.requires.ends.within) in
    let ha = c.requires.ends.ends c.args.k hk in
    record {
      floats_value = λ q. cc;
      fact = pass-queued c.args.hand.side c.args.r c.args.k c.args.hand.z _ _ _ c.args.neighbours.now
          _ _ c.requires.searching.seeking hk ha _ _ c.queue_at-queue.ensures c.places_at-places.ensures c.if-words-k.false
          (sym c.if-contains.true ∙ c.contains.ensures);
    }

pub insert-requires : goal.insert-requires
insert-requires c =
    let queue-at = c.queue_at-queue in
    let places-at = c.places_at-places in
    let hk : c.args.k < c.args.hand.layout.links = omega (arith, c.requires.ends.within) in
    let ha = c.requires.ends.ends c.args.k hk in
    let l = link-room c.args.hand.side _ c.args.r c.args.k _ c.args.hand.z _ _ _ _ _ c.requires.searching.seeking hk ha ha _ _ queue-at.ensures
    places-at.ensures c.if-words-k.false (sym c.if-contains.false
    ∙ c.contains.ensures) in record {
      count_in_bounds = omega (arith, l, queue-at.ensures, c.requires.searching.seeking.fit.words);
      a_in_bounds = omega (arith, l, places-at.ensures, c.requires.searching.seeking.fit.words, ha);
      count_bound = omega (
        arith,
        l,
        c.requires.searching.seeking.fit.turfs,
      );
    }

pub returns : goal.returns
returns c = let hk : c.args.k < c.args.hand.layout.links = omega (arith, c.requires.ends.within) in
    let ha = c.requires.ends.ends c.args.k hk in
    record {
      floats_value = λ q. cc;
      fact = pass-new c.args.hand.side c.args.r c.args.k c.args.hand.z _ _ _ c.args.neighbours.now _ _ c.requires.searching.seeking hk ha _ _
          c.queue_at-queue.ensures
          c.places_at-places.ensures
          c.if-words-k.false
          (sym c.if-contains.false ∙ c.contains.ensures) _
          refl
          (sym c.wants_at.ensures ∙ c.if-wants_at.false) _
          c.insert.ensures _ c.via_at.ensures _ _ c.point.ensures;
    }
