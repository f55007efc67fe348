-- A turf that is immutable or in the order stays out of it; any other joins. Assumes nothing.
use mathlib.Core.Path.{◌∙◌, sym, refl}
use Rattle.rules_board.specs.Board.{turf_count}
use Rattle.turfs.specs.Tables.{board_at}
use Rattle.walk_out.proofs.Joins.{order-set, order-member, link-immutable, link-old, link-new}
use Rattle.walk_out.proofs.out_link.Goals as goal

pub is_immutable-requires : goal.is_immutable-requires
is_immutable-requires c = let p = c.requires in (rw p.fact.ground.mixtures p.a_bound, p.fact.ground.mixture _ p.a_bound)

pub returns-then-is_immutable : goal.returns-then-is_immutable
returns-then-is_immutable c = λ k q. link-immutable _ _ k _ q _ _ _ c.requires.fact.fit (sym c.if-is_immutable.true ∙ c.is_immutable.ensures _ refl refl)

pub contains-requires : goal.contains-requires
contains-requires c = let p = c.requires in (order-set _ _ _ _ p.fact.fit _ _ c.order_at-order.ensures c.spots_at-spots.ensures, p.a_bound)

pub returns-then-contains : goal.returns-then-contains
returns-then-contains c =
    let args = c.args in
    let n = turf_count (board_at args.tables 0) in
    let pre = c.requires in
    let if1 = c.if-is_immutable in
    let is-immutable = c.is_immutable in
    let contains = c.contains in
    λ k q. link-old _ _ k _ q _ _ _ pre.fact.fit (sym if1.false ∙ is-immutable.ensures _ refl refl)
    (order-member n args.s args.words.now _ _ _ c.order_at-order.ensures (sym c.if-contains.true ∙ contains.ensures))

pub out_to-requires : goal.out_to-requires
out_to-requires c =
    let p = c.requires in
    let args = c.args in
    let n = turf_count (board_at args.tables 0) in
    record {
      fit = p.fact.fit;
      from = p.fact.inside;
      inside = p.a_bound;
      new = sym (order-member n args.s args.words.now _ _ _ c.order_at-order.ensures (sym c.if-contains.false ∙ c.contains.ensures));
    }

pub returns : goal.returns
returns c =
    let args = c.args in
    let n = turf_count (board_at args.tables 0) in
    let pre = c.requires in
    let if1 = c.if-is_immutable in
    let is-immutable = c.is_immutable in
    let if2 = c.if-contains in
    let contains = c.contains in
    let out-to = c.out_to in
    λ k q. link-new _ _ k _ q _ _ _ pre.fact.fit (sym if1.false ∙ is-immutable.ensures _ refl refl)
    (order-member n args.s args.words.now _ _ _ c.order_at-order.ensures (sym if2.false ∙ contains.ensures)) out-to.ensures
