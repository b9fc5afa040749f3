-- Demand 3, as claims of a model and a table.
use Rattle.std.specs.Prelude.{◌≡◌, List, ℕ, ◌≤◌, ◌<◌, length}
use Rattle.model.specs.Flows.{period_of, flows_in}
use Rattle.model.specs.Packets.{hyper_in, packets_in, packets_of}
use Rattle.refusals.specs.Refusals.{accepted, refusal_of}
use Rattle.model.specs.declared.flows.Mesh.{Mesh}
use Rattle.replay.specs.Replay.{Clean}
use Rattle.replay.specs.Receiver.{periods_over, SeesOwn}

-- a model that is not refused, and a table long enough for it
pub record Offered (mesh : Mesh) (numbers table : List ℕ) : Type 0 where
  pub not_refused : refusal_of mesh accepted numbers ≡ accepted
  pub long_enough : packets_in numbers ≤ length table

-- replay of the table over N hyper-periods never shows two packets holding one link in one cycle, nor a packet holding a link
-- before its release or at or after its deadline
abbrev pub Replays : Mesh → List ℕ → List ℕ → ℕ → Type 0
Replays mesh numbers table N = Clean (packets_of mesh numbers) (hyper_in numbers) table N

-- over N hyper-periods each flow's receiver sees, in every period of the flow, the end of that period's packet and of no other
-- packet of the flow
abbrev pub Received : Mesh → List ℕ → List ℕ → ℕ → Type 0
Received mesh numbers table N =
    (f k : ℕ) → f < flows_in numbers → k < periods_over N (hyper_in numbers) (period_of numbers f)
    → SeesOwn (packets_of mesh numbers) (hyper_in numbers) table N f (period_of numbers f) k
