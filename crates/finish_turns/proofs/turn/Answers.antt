-- The zone that is picked is one of the unfinished ones, and stays one or is taken out. Assumes nothing.
use mathlib.Core.Path.{◌∙◌}
use Rattle.finish_turns.proofs.Jobs.{sizes-fit}
use Rattle.finish_turns.proofs.Steps.{picked_place, picked_zone, laid-now, turn-done}
use Rattle.finish_turns.proofs.turn.Goals as goal

pub zone_at-zone-requires : goal.zone_at-zone-requires
zone_at-zone-requires c =
    record { live = c.requires.fact; p_lt_count = picked_place _ c.args.c _ _ _ c.requires.turns_fit c.requires.fact }

pub finish_next-used-requires : goal.finish_next-used-requires
finish_next-used-requires c =
    let zone-at = c.zone_at-zone in record { turns_fit = c.requires.turns_fit; fact = picked_zone _ c.args.c _ _ _ c.requires.turns_fit c.requires.fact _ zone-at.ensures }

pub settle-live-requires : goal.settle-live-requires
settle-live-requires c =
    let zone-at = c.zone_at-zone in
    let finish-next = c.finish_next-used in
    record {
      laid = laid-now _ c.args.c _ _ _ c.requires.turns_fit c.requires.fact _ zone-at.ensures _ _ finish-next.ensures;
      p_lt_count = (picked_place _ c.args.c _ _ _ c.requires.turns_fit c.requires.fact, c.requires.fact.few);
    }

pub shape_of-gas : goal.shape_of-gas
shape_of-gas c = c.finish_next-used.ensures.did.kept.gas

pub shape_of-words : goal.shape_of-words
shape_of-words c = c.settle-live.ensures.beside.size ∙ c.finish_next-used.ensures.did.words.size

pub shape_of-floats : goal.shape_of-floats
shape_of-floats c = c.finish_next-used.ensures.did.kept.floats

pub shape_of-events : goal.shape_of-events
shape_of-events c = c.finish_next-used.ensures.did.kept.events

pub returns : goal.returns
returns c =
    let zone-at = c.zone_at-zone in
    let finish-next = c.finish_next-used in
    let settle = c.settle-live in
    turn-done _ c.args.c _ _ _ c.requires.turns_fit c.requires.fact _ zone-at.ensures _ _ finish-next.ensures _ _ settle.ensures
