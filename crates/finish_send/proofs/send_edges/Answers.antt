use Prim.Native.Nat.{◌+◌}
use mathlib.Core.Path.{refl, ◌∙◌}
use native.Mathlib.Omega.{arith}
use Rattle.finish_send.proofs.Passing.{few-links, sent_size, edge-room, total-room, loop-start, send-fits, loop-next, stopped, all-sent}
use Rattle.finish_send.proofs.send_edges.Goals as goal

pub next_edge-k-requires : goal.next_edge-k-requires
next_edge-k-requires c =
    let whole = edge-room _ _ c.args.links.stop _ _ _ _ _ _ c.lifted_at-up.ensures c.requires _ c.args.floats.now refl c.requires.order in
    record {
      k_le_to = whole.1.0;
      to_in_bounds = whole.1.1.0;
      to_in_bounds_2 = whole.1.1.1;
    }

pub loop-k-init : goal.loop-k-init
loop-k-init c = loop-start _ _ _ _ _ _ _ _ _ c.lifted_at-up.ensures c.requires _ c.next_edge-k.ensures

pub overflow_add-load : goal.overflow_add-load
overflow_add-load c =
    let lifted-at = c.lifted_at-up in
    let e = edge-room _ _ c.args.links.stop _ _ _ _ _ _ lifted-at.ensures c.requires c.loop-k.k c.loop-k.floats c.loop-k.invariant.made.kept.floats c.loop-k.invariant.made.high in
    omega (arith, e.1.1.1, c.loop-k-test.true)

pub offset_bounds-floats-up : goal.offset_bounds-floats-up
offset_bounds-floats-up c =
    let lifted-at = c.lifted_at-up in
    let e = edge-room _ _ c.args.links.stop _ _ _ _ _ _ lifted-at.ensures c.requires c.loop-k.k c.loop-k.floats c.loop-k.invariant.made.kept.floats c.loop-k.invariant.made.high in
    omega (arith, e.1.1.1, c.loop-k-test.true)

pub bounds-floats-up : goal.bounds-floats-up
bounds-floats-up c =
    let lifted-at = c.lifted_at-up in
    let e = edge-room _ _ c.args.links.stop _ _ _ _ _ _ lifted-at.ensures c.requires c.loop-k.k c.loop-k.floats c.loop-k.invariant.made.kept.floats c.loop-k.invariant.made.high in
    omega (arith, e.1.1.1, c.loop-k-test.true)

pub total-requires : goal.total-requires
total-requires c =
    let lifted-at = c.lifted_at-up in
    total-room _ _ c.args.links.stop _ _ _ _ _ _ lifted-at.ensures c.requires _ c.loop-k.invariant.made.kept

pub shape_of-gas-then-is_short : goal.shape_of-gas-then-is_short
shape_of-gas-then-is_short c = c.loop-k.invariant.made.kept.gas

pub shape_of-floats-then-is_short : goal.shape_of-floats-then-is_short
shape_of-floats-then-is_short c = c.loop-k.invariant.made.kept.floats

pub shape_of-events-then-is_short : goal.shape_of-events-then-is_short
shape_of-events-then-is_short c = c.loop-k.invariant.made.kept.events

pub returns-then-is_short : goal.returns-then-is_short
returns-then-is_short c =
    let lifted-at = c.lifted_at-up in
    stopped _ _ _ _ _ _ _ _ _ lifted-at.ensures c.requires _ _ _ _ c.loop-k.invariant c.loop-k-test.true (c.total.ensures _ refl refl) c.if-is_short.true c.is_short.ensures

pub send-now-requires : goal.send-now-requires
send-now-requires c =
    let lifted-at = c.lifted_at-up in record { fact = send-fits _ _ _ _ _ _ _ _ _ lifted-at.ensures c.requires _ _ c.loop-k.invariant c.loop-k-test.true; has_value = c.total.ensures _ refl refl }

pub overflow_add-k : goal.overflow_add-k
overflow_add-k c =
    let lifted-at = c.lifted_at-up in
    omega (arith, c.loop-k-test.true, few-links _ _ c.args.links.stop _ _ _ _ _ _ lifted-at.ensures c.requires)

pub next_edge-k-requires-in-loop-k : goal.next_edge-k-requires-in-loop-k
next_edge-k-requires-in-loop-k c =
    let lifted-at = c.lifted_at-up in
    let loop = c.loop-k in
    let send = c.send-now in
    let whole = edge-room _ _ c.args.links.stop _ _ _ _ _ _ lifted-at.ensures c.requires (loop.k + 1) send.new.floats (sent_size send.ensures ∙ loop.invariant.made.kept.floats) (omega (arith, c.loop-k-test.true)) in
    record {
      k_le_to = whole.1.0;
      to_in_bounds = whole.1.1.0;
      to_in_bounds_2 = whole.1.1.1;
    }

pub loop-k-smaller : goal.loop-k-smaller
loop-k-smaller c = omega (arith, c.next_edge-k-in-loop-k.ensures.low, c.loop-k-test.true)

pub loop-k-preserved : goal.loop-k-preserved
loop-k-preserved c =
    let lifted-at = c.lifted_at-up in
    loop-next _ _ _ _ _ _ _ _ _ lifted-at.ensures c.requires _ _ _ _ _ _ c.loop-k.invariant c.loop-k-test.true (c.total.ensures _ refl refl) c.if-is_short.false c.is_short.ensures c.send-now.ensures c.next_edge-k-in-loop-k.ensures

pub shape_of-gas : goal.shape_of-gas
shape_of-gas c = c.loop-k.invariant.made.kept.gas

pub shape_of-floats : goal.shape_of-floats
shape_of-floats c = c.loop-k.invariant.made.kept.floats

pub shape_of-events : goal.shape_of-events
shape_of-events c = c.loop-k.invariant.made.kept.events

pub returns : goal.returns
returns c = all-sent _ _ _ _ _ _ _ _ _ c.lifted_at-up.ensures c.requires _ _ c.loop-k.invariant c.loop-k-test.false
