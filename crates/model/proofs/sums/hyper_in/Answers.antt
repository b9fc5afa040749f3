-- `hyper_in` hands the front of the array of periods on, which is the list of them.
use mathlib.Core.Path.{sym, ◌∙◌, ap}
use lib.ListN.{length}
use Rattle.basics.proofs.Lists.{tabulate_length}
use Rattle.hyperperiod.specs.Hyper.{hyper_within}
use Rattle.model.specs.Flows.{period_of, flows_in}
use Rattle.model.specs.Packets.{periods_of}
use Rattle.model.proofs.InTime.{periods_fair}
use Rattle.model.proofs.Packing.{periods_front}
use Rattle.model.proofs.sums.hyper_in.Goals as goal

pub slice_bounds-hyper_period-end : goal.slice_bounds-hyper_period-end
unfolding flows_in periods_of
slice_bounds-hyper_period-end c =
    rw c.flows_in-n.ensures
    (sym (ap length (periods_front c.args.numbers.now c.periods-all.ensures) ∙ tabulate_length (period_of c.args.numbers.now) 0 (flows_in c.args.numbers.now)))

pub hyper_period-requires : goal.hyper_period-requires
unfolding flows_in
hyper_period-requires c = rw (c.flows_in-n.ensures, periods_front c.args.numbers.now c.periods-all.ensures) (periods_fair _ c.requires)

pub returns : goal.returns
unfolding flows_in
returns c = c.hyper_period.ensures ∙ rw c.flows_in-n.ensures (ap hyper_within (periods_front c.args.numbers.now c.periods-all.ensures))
