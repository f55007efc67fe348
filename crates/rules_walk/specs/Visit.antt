-- What a walk does at a turf: `planet_equalize` looks for a planet's sky, `explosively_depressurize` for space.
use Rattle.std.specs.Prelude.{true, not, ◌||◌, ℕ, if◌then◌else◌}
use Rattle.basics.specs.Loops.{snoc}
use Rattle.rules_board.specs.Board.{Board, id_of, planetary, immutable}
use Rattle.rules_events.specs.declared.Event.TheVariants.{Target}
use Rattle.rules_walk.specs.Walk.{Walk, mark, spread}
use Rattle.rules_walk.specs.declared.Kind.{Kind}
use Rattle.rules_walk.specs.declared.Kind.TheVariants.{Planet, Space}

module _ (b : Board) where
  -- immutable ends the walk; any other turf expands, and the walk goes on after it only if a planetary turf was met
  unfoldable pub visit_planet : ℕ → ℕ → Walk → Walk
  visit_planet limit r s =
      let met = s.planet || planetary b r in
      if immutable b r then mark met true s else spread b limit r (mark met (not met) s)

  -- an immutable turf is its own target
  unfoldable pub at_space : ℕ → Walk → Walk
  at_space r s = record {
    queue = s.queue;
    walked = s.walked;
    space = snoc s.space r;
    planet = s.planet;
    ended = s.ended;
    events = snoc s.events (Target (id_of b r) (id_of b r));
  }

  -- a planetary turf ends all
  unfoldable pub visit_space : ℕ → ℕ → Walk → Walk
  visit_space limit r s =
      if planetary b r then mark true true s
      else if immutable b r then at_space r s
      else spread b limit r s

  -- the visit of either walk
  abbrev pub visit : Kind → ℕ → ℕ → Walk → Walk
  visit Planet = visit_planet
  visit Space = visit_space
