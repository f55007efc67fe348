use Rattle.fill_all.proofs.Loop.{loop-start, loop-open, loop-next, loop-over, loop-end, begun, begun-stored, all-filled}
use Rattle.fill_all.proofs.fill_all.Goals as goal

pub loop-id-init : goal.loop-id-init
loop-id-init c =
    let entry = c.args in
    let p = c.requires in
    let by = c.begin-s in
    let stored = begun-stored p.accepted entry.words.now _ entry.floats.now entry.events.now p.fill_fits by.auto.words by.ensures.cleared _ by.ensures.value in
    let none = begun p.accepted entry.words.now _ entry.floats.now entry.events.now p.fill_fits by.auto.words by.ensures.cleared _ by.ensures.value in
    loop-start p.accepted _ _ _ _ _ stored none

pub returns-then-s : goal.returns-then-s
returns-then-s c =
    let entry = c.args in
    let p = c.requires in
    let by = c.begin-s in
    let stored = begun-stored p.accepted entry.words.now _ entry.floats.now entry.events.now p.fill_fits by.auto.words by.ensures.cleared _ by.ensures.value in
    let none = begun p.accepted entry.words.now _ entry.floats.now entry.events.now p.fill_fits by.auto.words by.ensures.cleared _ by.ensures.value in
    all-filled p.accepted entry.words.now _ entry.floats.now entry.events.now p.fill_fits by.auto.words by.ensures.cleared _ by.ensures.value _ _ _ _ _ (loop-over p.accepted _ _ _ _ _ stored none c.loop-id.id-index c.loop-id.invariant c.if-s.true)

pub hot_id-s-requires : goal.hot_id-s-requires
hot_id-s-requires c =
    let entry = c.args in
    let p = c.requires in
    let by = c.begin-s in
    let stored = begun-stored p.accepted entry.words.now _ entry.floats.now entry.events.now p.fill_fits by.auto.words by.ensures.cleared _ by.ensures.value in
    let none = begun p.accepted entry.words.now _ entry.floats.now entry.events.now p.fill_fits by.auto.words by.ensures.cleared _ by.ensures.value in
    let head = c.loop-id in
    let going = c.if-s.false in
    record {
      accepted = p.accepted;
      hot_fits = record { stored = head.invariant.stored; room = loop-open p.accepted _ _ _ _ _ stored none head.id-index head.invariant going; going = going };
    }

pub loop-id-preserved : goal.loop-id-preserved
loop-id-preserved c =
    let entry = c.args in
    let p = c.requires in
    let by = c.begin-s in
    let stored = begun-stored p.accepted entry.words.now _ entry.floats.now entry.events.now p.fill_fits by.auto.words by.ensures.cleared _ by.ensures.value in
    let none = begun p.accepted entry.words.now _ entry.floats.now entry.events.now p.fill_fits by.auto.words by.ensures.cleared _ by.ensures.value in
    let head = c.loop-id in
    let by-hot-id = c.hot_id-s in
    loop-next p.accepted _ _ _ _ _ stored none head.id-index head.invariant c.loop-id-test.true (by-hot-id.ensures entry.hot.now)

pub returns : goal.returns
returns c =
    let entry = c.args in
    let p = c.requires in
    let by = c.begin-s in
    let stored = begun-stored p.accepted entry.words.now _ entry.floats.now entry.events.now p.fill_fits by.auto.words by.ensures.cleared _ by.ensures.value in
    let none = begun p.accepted entry.words.now _ entry.floats.now entry.events.now p.fill_fits by.auto.words by.ensures.cleared _ by.ensures.value in
    all-filled p.accepted entry.words.now _ entry.floats.now entry.events.now p.fill_fits by.auto.words by.ensures.cleared _ by.ensures.value _ _ _ _ _ (loop-end p.accepted _ _ _ _ _ stored none c.loop-id.id-index c.loop-id.invariant c.loop-id-test.false)
