-- The scope's examples hold, by computation.
-- Assumes nothing.
use mathlib.Core.Path.{refl}
use Rattle.edges.specs.Requests.{answer_to}
use Rattle.edges.specs.Edges.{edges, Hold}

pub edges_hold : Hold edges
unfolding answer_to
edges_hold = refl
