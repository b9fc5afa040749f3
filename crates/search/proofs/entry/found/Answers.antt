-- `found` past its refusals is what the search finds (proofs/Entering.antt).
use mathlib.Core.Path.{◌≡◌, ◌∙◌}
use native.Mathlib.Omega.{arith}
use Rattle.refusals.specs.Refusals.{accepted, refusal_of}
use Rattle.search.specs.Answering.{settings_refusal}
use Rattle.search.proofs.Entering.{model_holds, entry_found}
use Rattle.search.proofs.entry.found.Goals as goal

pub run-outcome-requires : goal.run-outcome-requires
run-outcome-requires c =
    let a = c.args in
    let e : refusal_of a.mesh (settings_refusal a.settings.pruning a.settings.threshold) a.numbers.now ≡ accepted = grind arith in
    model_holds a.mesh a.settings.pruning a.settings.threshold a.numbers.now a.table.now e c.model_of-model.result c.model_of-model.ensures

pub returns : goal.returns
returns c =
    let a = c.args in
    let e : refusal_of a.mesh (settings_refusal a.settings.pruning a.settings.threshold) a.numbers.now ≡ accepted = grind arith in
    let r = entry_found a.mesh a.settings.pruning a.settings.threshold a.numbers.now a.table.now e c.model_of-model.result c.model_of-model.ensures c.run-outcome.result c.run-outcome.ensures.0 (omega (arith, c.if-table-n.false)) in
    record { answered = c.report.ensures.0 ∙ r.0; written = c.report.ensures.1 ∙ r.1 }
