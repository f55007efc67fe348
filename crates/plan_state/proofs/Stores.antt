-- Reads and stores of the planning state are reads and stores of one array each, and steps of the plan follow one another. Assumes nothing.
use Prim.Native.Nat.{ℕ, ◌+◌, ◌<◌}
use native.Mathlib.Omega.{arith}
use mathlib.Core.Path.{◌≡◌, refl, ap, ap₂, ◌∙◌}
use mathlib.Core.List.{List}
use lib.ListN.{length, get_or, set, length-set}
use lib.Seq.{set-get_or}
use lib.Ieee.{Float, nan}
use Rattle.basics.specs.Regions.{cut, region}
use Rattle.scratch.specs.Layout.{plan_words, plan_floats, reverse_at, direction_at, via_at, fast_at, queue_at, list_at, delta_at, amount_at}
use Rattle.basics.proofs.Regions.{cut-set, cut-get, cut-length}
use Rattle.rules_plan.specs.Plan.{Plan, store, load, with_delta, with_amount}
use Rattle.rules_plan.specs.declared.MonstermosInfo.{MonstermosInfo}
use Rattle.plan_state.specs.Held.{Area, area, PlanView, plan_view_in, plan_view, PlanFits, on_plan, PlanDoes, Frame}
use Rattle.plan_state.proofs.Pairs.{firsts-get, seconds-get, firsts-set, seconds-set, firsts-keep, seconds-keep, firsts-length, seconds-length}

-- ---- a plan with one number set anew

abbrev pub set_delta : ℕ → Float → Plan → Plan
set_delta r x s = record { weight = s.weight; delta = set s.delta r x; amount = s.amount; direction = s.direction; fast = s.fast }

abbrev pub set_amount : ℕ → Float → Plan → Plan
set_amount r x s = record { weight = s.weight; delta = s.delta; amount = set s.amount r x; direction = s.direction; fast = s.fast }

abbrev pub set_direction : ℕ → ℕ → Plan → Plan
set_direction r x s = record { weight = s.weight; delta = s.delta; amount = s.amount; direction = set s.direction r x; fast = s.fast }

abbrev pub set_fast : ℕ → ℕ → Plan → Plan
set_fast r x s = record { weight = s.weight; delta = s.delta; amount = s.amount; direction = s.direction; fast = set s.fast r x }

-- ---- steps one after the other

pub does-none : {n e : ℕ} (h : List ℕ → Plan → Plan) {a : Area} → PlanFits n e a → (plan_view n e a).plan ≡ h (plan_view n e a).owner (plan_view n e a).plan → PlanDoes n e h a a
does-none {n} {e} h {a} f s = record {
  fit = f;
  same = ap (λ (p : Plan). on_plan (λ u v. p) (plan_view n e a)) s;
}

pub does-as : {n e : ℕ} {h h' : List ℕ → Plan → Plan} {a b : Area} → PlanDoes n e h a b
    → h (plan_view n e a).owner (plan_view n e a).plan ≡ h' (plan_view n e a).owner (plan_view n e a).plan → PlanDoes n e h' a b
does-as {n} {e} {a = a} d s = record {
  fit = d.fit;
  same = d.same ∙ ap (λ (p : Plan). on_plan (λ u v. p) (plan_view n e a)) s;
}

pub does-then : {n e : ℕ} {h : List ℕ → Plan → Plan} (h' : List ℕ → Plan → Plan) {a b c : Area} → PlanDoes n e h a b → PlanDoes n e h' b c
    → PlanDoes n e (λ o p. h' o (h o p)) a c
does-then h' d d' = record { fit = d'.fit; same = d'.same ∙ ap (on_plan h') d.same }

pub frame-none : {n e : ℕ} {a : Area} → Frame n e a a
frame-none = record { owner = refl; reverse = refl; rest_w = refl; rest_f = refl }

pub frame_then : {n e : ℕ} {a b c : Area} → Frame n e a b → Frame n e b c → Frame n e a c
frame_then f g = record { owner = g.owner ∙ f.owner; reverse = g.reverse ∙ f.reverse; rest_w = g.rest_w ∙ f.rest_w; rest_f = g.rest_f ∙ f.rest_f }

pub does-frame : {n e : ℕ} {h : List ℕ → Plan → Plan} {a b : Area} → PlanDoes n e h a b → Frame n e a b
does-frame d = record {
  owner = ap (λ (v : PlanView). v.owner) d.same;
  reverse = ap (λ (v : PlanView). v.reverse) d.same;
  rest_w = ap (λ (v : PlanView). v.rest_w) d.same;
  rest_f = ap (λ (v : PlanView). v.rest_f) d.same;
}

-- ---- what the code reads

module _ (n e row : ℕ) (w : List ℕ) (f : List Float) (r : row < n) where
  pub delta-at : get_or f (delta_at row e) nan ≡ get_or (plan_view n e (area w f)).plan.delta row nan
  unfolding plan_view
  delta-at = cut-get (plan_floats n e) f nan 1 (row + row) (delta_at row e) (omega arith) (omega arith) (omega arith) ∙ firsts-get (region (plan_floats n e) 1 f) nan row (row + row) refl

  pub amount-at : get_or f (amount_at row e) nan ≡ get_or (plan_view n e (area w f)).plan.amount row nan
  unfolding plan_view
  amount-at =
      cut-get (plan_floats n e) f nan 1 (row + row + 1) (amount_at row e) (omega arith) (omega arith) (omega arith)
      ∙ seconds-get (region (plan_floats n e) 1 f) nan row (row + row + 1) refl

  pub direction-at : get_or w (direction_at row e) 0 ≡ get_or (plan_view n e (area w f)).plan.direction row 0
  unfolding plan_view
  direction-at = cut-get (plan_words n e) w 0 2 (row + row) (direction_at row e) (omega arith) (omega arith) (omega arith) ∙ firsts-get (region (plan_words n e) 2 w) 0 row (row + row) refl

  pub via-at : get_or w (via_at row e) 0 ≡ get_or (plan_view n e (area w f)).via row 0
  unfolding plan_view
  via-at =
      cut-get (plan_words n e) w 0 2 (row + row + 1) (via_at row e) (omega arith) (omega arith) (omega arith)
      ∙ seconds-get (region (plan_words n e) 2 w) 0 row (row + row + 1) refl

  pub fast-at : get_or w (fast_at row n e) 0 ≡ get_or (plan_view n e (area w f)).plan.fast row 0
  unfolding plan_view
  fast-at = cut-get (plan_words n e) w 0 3 row (fast_at row n e) (omega arith) r (omega arith)

  pub queue-at : get_or w (queue_at n e + row) 0 ≡ get_or (plan_view n e (area w f)).queue row 0
  unfolding plan_view
  queue-at = cut-get (plan_words n e) w 0 4 row (queue_at n e + row) (omega arith) r (omega arith)

  pub list-at : get_or w (list_at n e + row) 0 ≡ get_or (plan_view n e (area w f)).list row 0
  unfolding plan_view
  list-at = cut-get (plan_words n e) w 0 6 row (list_at n e + row) (omega arith) r (omega arith)

  pub loaded : record { delta = get_or f (delta_at row e) nan; amount = get_or f (amount_at row e) nan; direction = get_or w (direction_at row e) 0; fast = get_or w (fast_at row n e) 0 }
      ≡ load (plan_view n e (area w f)).plan row
  loaded = rw (delta-at, amount-at, direction-at, fast-at)

module _ (n e k : ℕ) (w : List ℕ) (f : List Float) (r : k < e) where
  pub owner_at : get_or w k 0 ≡ get_or (plan_view n e (area w f)).owner k 0
  unfolding plan_view
  owner_at = cut-get (plan_words n e) w 0 0 k k (omega arith) r (omega arith)

  pub reverse-at : get_or w (reverse_at k e) 0 ≡ get_or (plan_view n e (area w f)).reverse k 0
  unfolding plan_view
  reverse-at = cut-get (plan_words n e) w 0 1 k (reverse_at k e) (omega arith) r (omega arith)

-- ---- how long the arrays are

module _ (n e : ℕ) (a : Area) (h : PlanFits n e a) where
  pub direction-length : length (plan_view n e a).plan.direction ≡ n
  unfolding plan_view
  direction-length = firsts-length n _ (cut-length (plan_words n e) a.words 2 (omega arith) (omega (arith, h.words)))

  pub via-length : length (plan_view n e a).via ≡ n
  unfolding plan_view
  via-length = seconds-length n _ (cut-length (plan_words n e) a.words 2 (omega arith) (omega (arith, h.words)))

  pub amount-length : length (plan_view n e a).plan.amount ≡ n
  unfolding plan_view
  amount-length = seconds-length n _ (cut-length (plan_floats n e) a.floats 1 (omega arith) (omega (arith, h.floats)))

-- ---- what the code stores

-- the view with these halves of its pairs
abbrev pub paired : PlanView → List ℕ → List ℕ → List Float → List Float → PlanView
paired v direction via delta amount = record {
  owner = v.owner;
  reverse = v.reverse;
  plan = record { weight = v.plan.weight; delta = delta; amount = amount; direction = direction; fast = v.plan.fast };
  via = via;
  queue = v.queue;
  places = v.places;
  list = v.list;
  rest_w = v.rest_w;
  rest_f = v.rest_f;
}

module _ (n e row : ℕ) (w : List ℕ) (f : List Float) (r : row < n) where
  abbrev v : PlanView
  v = plan_view n e (area w f)

  delta-view : (x : Float) → plan_view n e (area w (set f (delta_at row e) x)) ≡ paired v v.plan.direction v.via (set v.plan.delta row x) v.plan.amount
  unfolding plan_view
  delta-view x =
      ap (plan_view_in (cut (plan_words n e) w)) (cut-set (plan_floats n e) f 1 (row + row) x (delta_at row e) (omega arith) (omega arith) (omega arith))
      ∙ ap₂ (paired v v.plan.direction v.via) (firsts-set (region (plan_floats n e) 1 f) x row (row + row) refl) (seconds-keep (region (plan_floats n e) 1 f) x row (row + row) refl)

  amount-view : (x : Float) → plan_view n e (area w (set f (amount_at row e) x)) ≡ paired v v.plan.direction v.via v.plan.delta (set v.plan.amount row x)
  unfolding plan_view
  amount-view x =
      ap (plan_view_in (cut (plan_words n e) w)) (cut-set (plan_floats n e) f 1 (row + row + 1) x (amount_at row e) (omega arith) (omega arith) (omega arith))
      ∙ ap₂ (paired v v.plan.direction v.via) (firsts-keep (region (plan_floats n e) 1 f) x row (row + row + 1) refl) (seconds-set (region (plan_floats n e) 1 f) x row (row + row + 1) refl)

  direction-view : (x : ℕ) → plan_view n e (area (set w (direction_at row e) x) f) ≡ paired v (set v.plan.direction row x) v.via v.plan.delta v.plan.amount
  unfolding plan_view
  direction-view x =
      ap (λ ws. plan_view_in ws (cut (plan_floats n e) f)) (cut-set (plan_words n e) w 2 (row + row) x (direction_at row e) (omega arith) (omega arith) (omega arith))
      ∙ ap₂ (λ (d u : List ℕ). paired v d u v.plan.delta v.plan.amount) (firsts-set (region (plan_words n e) 2 w) x row (row + row) refl) (seconds-keep (region (plan_words n e) 2 w) x row (row + row) refl)

  pub via-view : (x : ℕ) → plan_view n e (area (set w (via_at row e) x) f) ≡ paired v v.plan.direction (set v.via row x) v.plan.delta v.plan.amount
  unfolding plan_view
  via-view x =
      ap (λ ws. plan_view_in ws (cut (plan_floats n e) f)) (cut-set (plan_words n e) w 2 (row + row + 1) x (via_at row e) (omega arith) (omega arith) (omega arith))
      ∙ ap₂ (λ (d u : List ℕ). paired v d u v.plan.delta v.plan.amount) (firsts-keep (region (plan_words n e) 2 w) x row (row + row + 1) refl) (seconds-set (region (plan_words n e) 2 w) x row (row + row + 1) refl)

  fast-view : (x : ℕ) → plan_view n e (area (set w (fast_at row n e) x) f) ≡ on_plan (λ o p. set_fast row x p) v
  unfolding plan_view
  fast-view x = ap (λ ws. plan_view_in ws (cut (plan_floats n e) f)) (cut-set (plan_words n e) w 3 row x (fast_at row n e) (omega arith) r (omega arith))

module _ (n e row : ℕ) (w : List ℕ) (f : List Float) (r : row < n) (h : PlanFits n e (area w f)) where
  pub amount-set : (x : Float) → PlanDoes n e (λ o p. set_amount row x p) (area w f) (area w (set f (amount_at row e) x))
  amount-set x = record {
    fit = record { words = h.words; floats = simp length-set h.floats; turfs = h.turfs; links = h.links };
    same = amount-view n e row w f r x;
  }

  pub delta-set : (x : Float) → PlanDoes n e (λ o p. set_delta row x p) (area w f) (area w (set f (delta_at row e) x))
  delta-set x = record {
    fit = record { words = h.words; floats = simp length-set h.floats; turfs = h.turfs; links = h.links };
    same = delta-view n e row w f r x;
  }

  pub direction-set : (x : ℕ) → PlanDoes n e (λ o p. set_direction row x p) (area w f) (area (set w (direction_at row e) x) f)
  direction-set x = record {
    fit = record { words = simp length-set h.words; floats = h.floats; turfs = h.turfs; links = h.links };
    same = direction-view n e row w f r x;
  }

  fast-set : (x : ℕ) → PlanDoes n e (λ o p. set_fast row x p) (area w f) (area (set w (fast_at row n e) x) f)
  fast-set x = record {
    fit = record { words = simp length-set h.words; floats = h.floats; turfs = h.turfs; links = h.links };
    same = fast-view n e row w f r x;
  }

module _ (n e row : ℕ) (w : List ℕ) (f : List Float) (r : row < n) (h : PlanFits n e (area w f)) where
  pub stored : (i : MonstermosInfo) → PlanDoes n e (λ o p. store p row i) (area w f)
      (area (set (set w (direction_at row e) i.direction) (fast_at row n e) i.fast) (set (set f (delta_at row e) i.delta) (amount_at row e) i.amount))
  stored i =
      let d = delta-set n e row w f r h i.delta in
      let a = does-then _ d (amount-set n e row w _ r d.fit i.amount) in
      let g = does-then _ a (direction-set n e row w _ r a.fit i.direction) in
      does-then _ g (fast-set n e row _ _ r g.fit i.fast)

-- ---- a store of what is there changes nothing

module _ (s : Plan) (r : ℕ) where
  pub store_same : store s r (load s r) ≡ s
  store_same = λ i. record {
    weight = s.weight;
    delta = set-get_or s.delta r nan i;
    amount = set-get_or s.amount r nan i;
    direction = set-get_or s.direction r 0 i;
    fast = set-get_or s.fast r 0 i;
  }

  pub store-amount : (x : Float) → store s r (with_amount x (load s r)) ≡ set_amount r x s
  store-amount x = λ i. record {
    weight = s.weight;
    delta = set-get_or s.delta r nan i;
    amount = set s.amount r x;
    direction = set-get_or s.direction r 0 i;
    fast = set-get_or s.fast r 0 i;
  }

  pub store-delta : (x : Float) → store s r (with_delta x (load s r)) ≡ set_delta r x s
  store-delta x = λ i. record {
    weight = s.weight;
    delta = set s.delta r x;
    amount = set-get_or s.amount r nan i;
    direction = set-get_or s.direction r 0 i;
    fast = set-get_or s.fast r 0 i;
  }
