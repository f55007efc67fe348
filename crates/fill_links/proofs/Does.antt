-- Steps one after the other: what the second writes stands after what the first wrote. Assumes nothing.
use Prim.Native.Nat.{ℕ, ◌≤◌}
use mathlib.Core.Path.{◌≡◌, ap, ◌∙◌, sym, subst}
use mathlib.Core.List.{List, [], ◌++◌, append_assoc, append-nil}
use lib.ListN.{length}
use Rattle.rules_events.specs.Events.{encode_all}
use Rattle.events.specs.Area.{Wrote}
use Rattle.rules_events.specs.declared.Event.{Event}
use Rattle.events.proofs.Areas.{wrote_none, wrote-wrote}
use Rattle.events.proofs.Sizes.{encode-append}
use Rattle.fill_links.specs.Held.{FillDoes}

-- a step that writes no events
pub does-plain : {S R : Type 0} {f : S → R} {v : List Event → S} {v' : List Event → R} {used : ℕ} {area : List ℕ} → used ≤ length area → ((es : List Event) → v' es ≡ f (v es)) → FillDoes f v v' used used area area
does-plain {f = f} {v} {v'} {used} {area} l s = record {
  more = [];
  same = λ es. ap v' (append-nil es) ∙ s es;
  wrote = unfold encode_all in wrote_none used area l;
}

pub does-then : {S R Q : Type 0} {f : S → R} {g : R → Q} {v : List Event → S} {v' : List Event → R} {v'' : List Event → Q} {i j k : ℕ} {a a' a'' : List ℕ}
    → FillDoes f v v' i j a a' → FillDoes g v' v'' j k a' a'' → FillDoes (λ x. g (f x)) v v'' i k a a''
does-then {f = f} {g} {v} {v'} {v''} {i} {j} {k} {a} {a'} {a''} d d' = record {
  more = d.more ++ d'.more;
  same = λ es. ap v'' (sym (append_assoc es d.more d'.more)) ∙ d'.same (es ++ d.more) ∙ ap g (d.same es);
  wrote = subst (λ (bs : List ℕ). Wrote bs i k a a'') (sym (encode-append d.more d'.more)) (wrote-wrote d.wrote d'.wrote);
}

-- the step by another name
pub does-as : {S R : Type 0} {f g : S → R} {v : List Event → S} {v' : List Event → R} {i j : ℕ} {a a' : List ℕ} → FillDoes f v v' i j a a' → ((es : List Event) → f (v es) ≡ g (v es)) → FillDoes g v v' i j a a'
does-as d s = record { more = d.more; same = λ es. d.same es ∙ s es; wrote = d.wrote }
