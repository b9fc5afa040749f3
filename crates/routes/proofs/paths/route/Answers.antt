-- `route` is built stage by stage: L-source, the walk along the row, the walk along the column, target-L.
use Rattle.routes.specs.Route.{corner}
use Rattle.routes.proofs.Legs.{begun}
use Rattle.routes.proofs.Building.{row_walk, row_walked, column_walk, column_walked, path_room, built}
use Rattle.routes.proofs.paths.route.Goals as goal

pub walk-requires : goal.walk-requires
walk-requires c =
    let first = begun _ c.default-path.ensures c.push.ensures in
    row_walk c.requires c.place_of-a.ensures c.place_of-b.ensures _ first c.kind_towards-along.ensures c.far.ensures

pub walk-requires-2 : goal.walk-requires-2
unfolding corner
walk-requires-2 c =
    let first = begun _ c.default-path.ensures c.push.ensures in
    let row = row_walked c.requires c.place_of-a.ensures c.place_of-b.ensures _ first c.kind_towards-along.ensures c.far.ensures c.walk.ensures in
    column_walk c.requires c.place_of-a.ensures c.place_of-b.ensures _ row c.kind_towards-across.ensures c.far-2.ensures

pub push-requires-2 : goal.push-requires-2
unfolding corner
push-requires-2 c =
    let first = begun _ c.default-path.ensures c.push.ensures in
    let row = row_walked c.requires c.place_of-a.ensures c.place_of-b.ensures _ first c.kind_towards-along.ensures c.far.ensures c.walk.ensures in
    path_room c.requires c.place_of-a.ensures c.place_of-b.ensures _
    (column_walked c.requires c.place_of-a.ensures c.place_of-b.ensures _ row c.kind_towards-across.ensures c.far-2.ensures c.walk-2.ensures)

pub returns : goal.returns
unfolding corner
returns c =
    let first = begun _ c.default-path.ensures c.push.ensures in
    let row = row_walked c.requires c.place_of-a.ensures c.place_of-b.ensures _ first c.kind_towards-along.ensures c.far.ensures c.walk.ensures in
    let both = column_walked c.requires c.place_of-a.ensures c.place_of-b.ensures _ row c.kind_towards-across.ensures c.far-2.ensures c.walk-2.ensures in
    built c.requires c.place_of-a.ensures c.place_of-b.ensures both c.push-2.ensures c.link_of.ensures c.link_of-2.ensures
