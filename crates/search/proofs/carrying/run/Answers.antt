-- `run` puts the packets in order of least slack, and takes the passes (proofs/Slack.antt, proofs/Modelling.antt).
use mathlib.Core.Path.{◌∙◌}
use Rattle.passes.proofs.Start.{listing_sorted}
use Rattle.search.proofs.Slack.{slack_order}
use Rattle.search.proofs.Modelling.{modelled_ready, modelled_search}
use borrow.Author.Rules.{rules}
use Rattle.search.proofs.carrying.run.Goals as goal

pub slacks-key-requires : goal.slacks-key-requires
slacks-key-requires c = c.requires.keyed

pub by_flow-list-requires : goal.by_flow-list-requires
by_flow-list-requires c = rw c.flow_numbers.ensures c.requires.grouped

pub rounds-requires : goal.rounds-requires
rounds-requires c = record { ready = modelled_ready c.requires c.longest_of.ensures; listing = listing_sorted _ _ _ (search rules) c.by_flow-list.ensures }

pub returns : goal.returns
returns c = (modelled_search c.requires c.longest_of.ensures c.rounds.ensures _ (c.by_flow-list.ensures ∙ slack_order c.requires _ _ c.slacks-key.ensures c.flow_numbers.ensures), c.rounds.ensures.times_long)
