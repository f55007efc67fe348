-- Steps one after the other: each writes past what the one before it wrote, so two are one, and a loop of steps is a loop of the definition. Assumes nothing.
use mathlib.Core.Path.{◌≡◌, refl, ap, ◌∙◌, sym, subst}
use mathlib.Core.List.{List, [], ◌∷◌, ◌++◌, append_assoc, append-nil}
use Prim.Native.Nat.{ℕ, ◌≤◌}
use lib.ListN.{length}
use Rattle.rules_events.specs.Events.{encode, encode_all}
use Rattle.events.specs.Area.{Wrote}
use Rattle.rules_events.specs.declared.Event.{Event}
use Rattle.events.proofs.Areas.{wrote_none, wrote-wrote}
use Rattle.events.proofs.Sizes.{encode-append}
use Rattle.walk_links.specs.Does.{Walker, WalkDoes}

-- nothing new is written
pub none-wrote : (at : ℕ) (area : List ℕ) → at ≤ length area → Wrote (encode_all []) at at area area
unfolding encode_all
none-wrote at area h = wrote_none at area h

pub both-wrote : (es fs : List Event) {i j k : ℕ} {s t u : List ℕ} → Wrote (encode_all es) i j s t → Wrote (encode_all fs) j k t u → Wrote (encode_all (es ++ fs)) i k s u
both-wrote es fs {i} {j} {k} {s} {t} {u} a b = subst (λ (bs : List ℕ). Wrote bs i k s u) (sym (encode-append es fs)) (wrote-wrote a b)

-- one event is written
pub one-wrote : (x : Event) {i j : ℕ} {s t : List ℕ} → Wrote (encode x) i j s t → Wrote (encode_all (x ∷ [])) i j s t
unfolding encode_all
one-wrote x {i} {j} {s} {t} w = subst (λ (bs : List ℕ). Wrote bs i j s t) (sym (append-nil (encode x))) w

module _ {A S F : Type 0} (h : Walker A S F) where
  -- nothing changes
  pub does-none : (f : S → S) {a : A} → h.Fit a → h.used a ≤ length (h.area a) → ((es : List Event) → h.view a es ≡ f (h.view a es)) → WalkDoes h f a a
  does-none f {a} fit room s = record {
    fit = fit;
    kept = refl;
    new = [];
    wrote = none-wrote (h.used a) (h.area a) room;
    same = λ es. ap (h.view a) (append-nil es) ∙ s es;
  }

  -- a step by another name
  pub does-as : {f f' : S → S} {a a' : A} → WalkDoes h f a a' → ((es : List Event) → f (h.view a es) ≡ f' (h.view a es)) → WalkDoes h f' a a'
  does-as d s = record { fit = d.fit; kept = d.kept; new = d.new; wrote = d.wrote; same = λ es. d.same es ∙ s es }

  -- two steps
  pub does-then : {f : S → S} (g : S → S) {a a' a'' : A} → WalkDoes h f a a' → WalkDoes h g a' a'' → WalkDoes h (λ s. g (f s)) a a''
  does-then g {a'' = a''} d e = record {
    fit = e.fit;
    kept = e.kept ∙ d.kept;
    new = d.new ++ e.new;
    wrote = both-wrote d.new e.new d.wrote e.wrote;
    same = λ es. ap (h.view a'') (sym (append_assoc es d.new e.new)) ∙ e.same (es ++ d.new) ∙ ap g (d.same es);
  }

  -- in a loop: what is left to do, f, comes from here on to what the whole, f₀, comes to from the start
  pub record Going (f f₀ : S → S) (a a' : A) : Type 0 where
    pub fit : h.Fit a'
    pub kept : h.frame a' ≡ h.frame a
    pub new : List Event
    pub wrote : Wrote (encode_all new) (h.used a) (h.used a') (h.area a) (h.area a')
    pub on : (es : List Event) → f (h.view a' (es ++ new)) ≡ f₀ (h.view a es)

  pub going_start : {f f₀ : S → S} {a : A} → h.Fit a → h.used a ≤ length (h.area a) → ((s : S) → f s ≡ f₀ s) → Going f f₀ a a
  going_start {f} {f₀} {a} fit room s = record {
    fit = fit;
    kept = refl;
    new = [];
    wrote = none-wrote (h.used a) (h.area a) room;
    on = λ es. ap (λ (es : List Event). f (h.view a es)) (append-nil es) ∙ s (h.view a es);
  }

  -- a turn: it does g, and g and then f' are f
  pub going_next : {f f₀ : S → S} {a a' a'' : A} (g f' : S → S) → Going f f₀ a a' → WalkDoes h g a' a'' → ((es : List Event) → f (h.view a' es) ≡ f' (g (h.view a' es))) → Going f' f₀ a a''
  going_next {a'' = a''} g f' p d s = record {
    fit = d.fit;
    kept = d.kept ∙ p.kept;
    new = p.new ++ d.new;
    wrote = both-wrote p.new d.new p.wrote d.wrote;
    on = λ es. ap (λ (es : List Event). f' (h.view a'' es)) (sym (append_assoc es p.new d.new)) ∙ ap f' (d.same (es ++ p.new)) ∙ sym (s (es ++ p.new)) ∙ p.on es;
  }

  -- the end: nothing is left to do
  pub going_end : {f f₀ : S → S} {a a' : A} → Going f f₀ a a' → ((es : List Event) → f (h.view a' es) ≡ h.view a' es) → WalkDoes h f₀ a a'
  going_end p s = record { fit = p.fit; kept = p.kept; new = p.new; wrote = p.wrote; same = λ es. sym (s (es ++ p.new)) ∙ p.on es }
