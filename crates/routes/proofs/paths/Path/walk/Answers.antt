-- `walk` takes one step of its definition in each turn.
use Prim.Native.Nat.{◌-◌}
use mathlib.Core.Path.{◌≡◌}
use native.Mathlib.Omega.{arith}
use Rattle.mesh.specs.Link.{number_of}
use Rattle.mesh.proofs.Bounds.{node_small}
use Rattle.routes.specs.Growing.{walked}
use Rattle.routes.proofs.Turns.{next_stays, next_walking}
use Rattle.routes.proofs.paths.Path.walk.Goals as goal

pub link_of-requires : goal.link_of-requires
link_of-requires c =
    let stays = next_stays c.args.columns (number_of c.args.kind) c.args.n c.loop.counter c.loop.at c.loop-test.true c.loop.invariant.inside in
    omega (arith, c.node_at.ensures, node_small c.args.columns c.loop.at c.requires.few_columns stays.0)

pub loop-preserved : goal.loop-preserved
loop-preserved c = next_walking c.loop.invariant c.loop-test.true c.node_at.ensures c.link_of.ensures c.push.ensures c.end_of-at.ensures

pub returns : goal.returns
unfolding walked
returns c =
    let none : c.args.n - c.loop.counter ≡ 0 = omega (arith, c.loop-test.false) in
    rw none at c.loop.invariant.same
