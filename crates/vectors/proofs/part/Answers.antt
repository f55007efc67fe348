-- Inside the part is as long as the list says, beyond it is none. Assumes nothing.
use mathlib.Core.Path.{◌≡◌, refl, ap, ◌∙◌}
use mathlib.Core.Bool.{and-false}
use mathlib.Core.List.{List, []}
use mathlib.Core.Logic.{◌⊎◌, inl, inr}
use Prim.Native.Nat.{◌<◌}
use lib.Dec.{leb}
use lib.ListN.{length}
use denote.Ref.{Bor}
use borrow.Author.Tests.{le-leb, lt-leb}
use Rattle.std.specs.Option.{unwrap_or}
use Rattle.std.specs.declared.option.Option.{Option}
use Rattle.std.specs.Slice.{IsGetRangeResult}
use Rattle.std.specs.declared.option.Option.TheVariants.{None, Some}
use Rattle.vectors.specs.Vectors.{section}
use Rattle.vectors.specs.declared.Span.{Span}
use Rattle.vectors.proofs.part.Goals as goal

part_of : {A : Type 0} (xs : List A) (s : Span) (r : Option (Bor (List A))) (none : Bor (List A)) → none.now ≡ [] → IsGetRangeResult xs s.from s.to r → (unwrap_or r none).now ≡ section xs s
unfolding section
part_of xs s None none e h = go h.0
  where
    go : (s.to < s.from) ⊎ (length xs < s.to) → none.now ≡ section xs s
    go (inl p) = rw (lt-leb s.from s.to p, and-false (leb s.to (length xs))) e
    go (inr p) = rw (lt-leb _ _ p) e
part_of xs s (Some x) none e h = rw (le-leb _ _ h.0.1, le-leb _ _ h.0.0) h.0.2

pub returns : goal.returns
returns g c = ap (λ (r : Bor (List g.row.T.Denot)). r.now) c.unwrap_or.ensures ∙ part_of _ _ _ _ refl c.get.ensures.lookup
