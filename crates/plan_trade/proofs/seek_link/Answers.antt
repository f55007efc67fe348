-- By the three ways out: not the zone's link, a row that is in the queue, a new row. Assumes nothing.
use Prim.Native.Nat.{◌<◌}
use native.Mathlib.Omega.{arith}
use mathlib.Core.Path.{◌∙◌, refl, sym}
use Rattle.plan_trade.specs.Steps.{along}
use Rattle.plan_trade.proofs.Seeks.{keeps-none, idle-none, link-foreign, link-holds, link-queued, link-room, link-new, link-keeps, link-idle, link-open}
use Rattle.plan_trade.proofs.seek_link.Goals as goal

pub returns-then-words-k : goal.returns-then-words-k
unfolding along
returns-then-words-k c =
    let hk : c.args.k < c.args.hand.layout.links = omega (arith, c.requires.ends.within) in
    let ha = c.requires.ends.ends c.args.k hk in
    record {
      fact = record { sought = link-foreign c.args.hand.side c.args.hand.g c.args.r c.args.k _ c.args.hand.z _ _ _ _ _ c.requires.searching.seeking hk c.requires.searching.row ha c.if-words-k.true; met = keeps-none; idle = idle-none };
      done_value = sym c.requires.unsettled;
    }

pub contains-requires : goal.contains-requires
contains-requires c =
    let hk : c.args.k < c.args.hand.layout.links = omega (arith, c.requires.ends.within) in
    let ha = c.requires.ends.ends c.args.k hk in
    (link-holds c.args.hand.side c.args.hand.g c.args.r c.args.k _ c.args.hand.z _ _ _ _ _ c.requires.searching.seeking hk c.requires.searching.row ha _ _ c.queue_at-queue.ensures c.places_at-places.ensures, ha)

pub returns-then-contains : goal.returns-then-contains
unfolding along
returns-then-contains c =
    let hk : c.args.k < c.args.hand.layout.links = omega (arith, c.requires.ends.within) in
    let ha = c.requires.ends.ends c.args.k hk in record {
      fact = record {
        sought = link-queued c.args.hand.side c.args.hand.g c.args.r c.args.k _ c.args.hand.z _ _ _ _ _ c.requires.searching.seeking
            hk c.requires.searching.row ha _ _ c.queue_at-queue.ensures c.places_at-places.ensures c.if-words-k.false
            c.requires.unsettled (sym c.if-contains.true ∙ c.contains.ensures);
        met = keeps-none;
        idle = idle-none;
      };
      done_value = sym c.requires.unsettled;
    }

pub insert-requires : goal.insert-requires
insert-requires c =
    let queue-at = c.queue_at-queue in
    let places-at = c.places_at-places in
    let hk : c.args.k < c.args.hand.layout.links = omega (arith, c.requires.ends.within) in
    let ha = c.requires.ends.ends c.args.k hk in
    let l = link-room c.args.hand.side c.args.hand.g c.args.r c.args.k _ c.args.hand.z _ _ _ _ _ c.requires.searching.seeking hk
    c.requires.searching.row ha _ _ queue-at.ensures places-at.ensures c.if-words-k.false (sym c.if-contains.false
    ∙ c.contains.ensures) in record {
      count_in_bounds = omega (arith, l, queue-at.ensures, c.requires.searching.seeking.fit.words);
      a_in_bounds = omega (arith, l, places-at.ensures, c.requires.searching.seeking.fit.words, ha);
      count_bound = omega (
        arith,
        l,
        c.requires.searching.seeking.fit.turfs,
      );
    }

pub returns : goal.returns
unfolding along
returns c = let if1 = c.if-words-k in
    let queue-at = c.queue_at-queue in
    let places-at = c.places_at-places in
    let contains = c.contains in
    let if2 = c.if-contains in
    let insert = c.insert in
    let via = c.via_at in
    let meet = c.meet-traded in
    let hk : c.args.k < c.args.hand.layout.links = omega (arith, c.requires.ends.within) in
    let ha = c.requires.ends.ends c.args.k hk in record {
      fact = record {
        sought = link-new c.args.hand.side c.args.hand.g c.args.r c.args.k _ c.args.hand.z _ _ _ _ _ c.requires.searching.seeking hk c.requires.searching.row ha _ _ queue-at.ensures places-at.ensures if1.false (sym if2.false ∙ contains.ensures) _ insert.ensures _ via.ensures meet.ensures.plan_does c.requires.unsettled;
        met = link-keeps c.args.hand.side c.args.hand.g c.args.r c.args.k _ c.args.hand.z _ _ _ _ _ c.requires.searching.seeking hk c.requires.searching.row ha _ _ queue-at.ensures places-at.ensures if1.false (sym if2.false ∙ contains.ensures) _ insert.ensures _ via.ensures meet.ensures.plan_does c.args.neighbours.now refl;
        idle = link-idle c.args.hand.side c.args.hand.g c.args.r c.args.k _ c.args.hand.z _ _ _ _ _ c.requires.searching.seeking hk c.requires.searching.row ha _ _ queue-at.ensures places-at.ensures if1.false (sym if2.false ∙ contains.ensures) _ insert.ensures _ via.ensures
            meet.ensures.plan_does _ _ _ meet.ensures.value c.first_traded.ensures;
      };
      done_value = link-open c.args.hand.side c.args.hand.g c.args.r c.args.k _ c.args.hand.z _ _ _ _ _ c.requires.searching.seeking hk c.requires.searching.row ha _ _ queue-at.ensures places-at.ensures if1.false (sym if2.false ∙ contains.ensures) _ insert.ensures _ via.ensures
          meet.ensures.plan_does c.requires.unsettled _ meet.ensures.value _ _ refl _ c.delta_at.ensures _ c.settles.ensures;
    }
