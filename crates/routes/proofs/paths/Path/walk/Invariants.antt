-- `walk` takes one step of its definition in each turn.
use Rattle.mesh.specs.Link.{number_of}
use Rattle.routes.proofs.Turns.{Walking}
use Rattle.routes.proofs.paths.Path.walk.Given as goal

abbrev pub invariant-loop : goal.invariant-loop
invariant-loop l = Walking l.columns (number_of l.kind) l.n l.initial.self l.initial.at l.self l.at l.counter
