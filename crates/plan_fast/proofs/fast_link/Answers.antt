-- By the ways out: not the zone's link, a marked turf, a move. Assumes nothing.
use Prim.Native.Nat.{◌<◌}
use native.Mathlib.Omega.{arith}
use Rattle.plan_fast.proofs.Moves.{fast-foreign, fast-marked, fast-p, fast-back, fast-more}
use Rattle.plan_fast.proofs.fast_link.Goals.{else-words-k-via-then-words-k+else-words-fast_at-eq0, else-words-k-via-else-words-k}
use Rattle.plan_fast.proofs.fast_link.Goals as goal

pub back_link-back-requires : goal.back_link-back-requires
back_link-back-requires c =
    let hk : c.args.k < c.args.share.layout.links = omega (arith, c.requires.ends.within) in
    let ha = c.requires.ends.ends c.args.k hk in
    record {
      room = omega (arith, c.requires.fit.words);
      link = hk;
      back = fast-p _ _ c.args.share.z c.args.share.r _ _ c.args.share.x _ _ c.requires.fit hk ha c.requires.back;
      zone = c.requires.zone;
      links = c.requires.fit.links;
    }

pub fast_move-requires : goal.fast_move-requires
fast_move-requires c =
    let hk : c.args.k < c.args.share.layout.links = omega (arith, c.requires.ends.within) in
    let ha = c.requires.ends.ends c.args.k hk in
    record {
      fit = c.requires.fit;
      row = c.requires.ends.row;
      to = ha;
      there = hk;
      back = fast-back _ _ c.args.share.z c.args.share.r _ _ c.args.share.x _ _ c.requires.fit hk ha c.requires.back _ c.back_link-back.ensures;
    }

pub returns-then-words-fast_at-eq0 : goal.returns-then-words-fast_at-eq0
returns-then-words-fast_at-eq0 c =
    let hk : c.args.k < c.args.share.layout.links = omega (arith, c.requires.ends.within) in
    let ha = c.requires.ends.ends c.args.k hk in
    fast-more _ _ c.args.share.z c.args.share.r _ _ c.args.share.x _ _ c.requires.fit hk ha c.requires.back _ c.back_link-back.ensures c.if-words-k.true _
    c.fast_at.ensures c.if-words-fast_at-eq0.true c.fast_move.ensures

pub returns-else-words-k : goal.returns-else-words-k
returns-else-words-k c =
    let hk : c.args.k < c.args.share.layout.links = omega (arith, c.requires.ends.within) in
    let ha = c.requires.ends.ends c.args.k hk in
    elim c.else-words-k.branch [
      | else-words-k-via-then-words-k+else-words-fast_at-eq0 w ↦
          fast-marked _ _ c.args.share.z c.args.share.r _ _ c.args.share.x _ _ c.requires.fit hk ha w.if-words-k.true _ w.fast_at.ensures w.if-words-fast_at-eq0.false
      | else-words-k-via-else-words-k w ↦ fast-foreign _ _ c.args.share.z c.args.share.r _ _ c.args.share.x _ _ c.requires.fit hk ha w.if-words-k.false
    ]
