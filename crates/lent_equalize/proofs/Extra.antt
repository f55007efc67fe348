-- What only equalize is lent, test by test. Assumes nothing.
use Prim.Native.Nat.{ℕ}
use mathlib.Core.Path.{◌≡◌, ◌∙◌, ap, sym}
use mathlib.Core.Bool.{◌&&◌}
use mathlib.Core.List.{List}
use lib.Dec.{leb}
use lib.Ieee.{Float}
use lib.ListN.{length}
use Rattle.basics.specs.Floats.{finite_sign_clear}
use Rattle.rules_board.specs.Refuse.{ascending}
use Rattle.lent.specs.Given.{Tests}
use Rattle.lent.specs.declared.ExtraTests.{ExtraTests}

pub tests-of : (hot : List ℕ) (turns : ℕ) (threshold : Float) (r : ExtraTests)
    → r.sizes ≡ (leb (length hot) 4096 && leb turns 65536) → r.threshold ≡ finite_sign_clear threshold → r.hot ≡ ascending hot
    → (ts : List ℕ) → length ts ≡ turns → Tests (record { hot = hot; turns = ts; threshold = threshold }) r
tests-of hot turns threshold r e f g ts n = record { sizes = e ∙ ap (λ (k : ℕ). leb (length hot) 4096 && leb k 65536) (sym n); threshold = f; hot = g }
