-- `model_of` puts together the hyper-period, which a model that is not refused has, the flows and the packets.
use mathlib.Core.Path.{sym, ◌∙◌}
use Rattle.model.specs.Packets.{hyper_in}
use Rattle.model.proofs.InTime.{fair_timed}
use Rattle.model.proofs.Packing.{is_only}
use Rattle.hyperperiod.proofs.HyperPeriod.{within_is}
use Rattle.arrays.proofs.Building.{packable, built}
use borrow.Author.Rules.{rules}
use Rattle.arrays.proofs.build.model_of.Goals as goal

pub hyper_in-requires : goal.hyper_in-requires
hyper_in-requires c = fair_timed c.args.mesh c.args.numbers.now c.requires

pub unwrap-hyper-requires : goal.unwrap-hyper-requires
unfolding hyper_in
unwrap-hyper-requires c = rw (c.hyper_in.ensures, within_is _ c.requires.hyper_high) (search rules)

pub packets_of-requires : goal.packets_of-requires
unfolding hyper_in
packets_of-requires c =
    packable c.args.mesh c.args.numbers.now c.unwrap-hyper.result c.requires (is_only _ _ (sym c.hyper_in.ensures ∙ c.unwrap-hyper.ensures)).0

pub returns : goal.returns
unfolding hyper_in
returns c =
    built c.args.mesh c.args.numbers.now c.unwrap-hyper.result c.flows_of.result c.packets_of.result
    (is_only _ _ (sym c.hyper_in.ensures ∙ c.unwrap-hyper.ensures)).0 c.flows_of.ensures (c.packets_of.ensures c.args.mesh)
