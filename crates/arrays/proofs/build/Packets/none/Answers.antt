-- `Packets::none` holds the arrays of no packet: an empty packet is 0 in both numbers.
use mathlib.Core.Path.{ap₂}
use Prim.Native.Nat.{ℕ}
use lib.ListN.{replicate}
use Rattle.basics.specs.Lists.{padded}
use Rattle.arrays.specs.declared.build.Packets.{Packets}
use Rattle.arrays.specs.Arrays.{arrays_of}
use Rattle.arrays.proofs.build.Packets.none.Goals as goal

pub returns : goal.returns
unfolding padded arrays_of
returns c =
    let all : ℕ → ℕ → Packets = λ f r. record { count = 0; all = replicate 1024 (record { flow = f; release = r }) } in
    ap₂ all c.default.ensures.0 c.default.ensures.1
