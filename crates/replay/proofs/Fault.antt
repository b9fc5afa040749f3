-- The faults that the check names show in replay over one hyper-period.
-- In order: `fault_11`, a time outside its range is a link held too early or too late; `fault_12`, a meeting pair is a link held
-- twice in one cycle. Each gives the link and the cycle. A table time may be any number.
use mathlib.Core.Path.{◌≡◌, refl}
use mathlib.Core.Bool.{true}
use mathlib.Core.Logic.{inl, inr, ⊎_elim}
use mathlib.Core.List.{List}
use Prim.Native.Nat.{ℕ, ◌+◌, ◌-◌, ◌<◌, max}
use native.Mathlib.Omega.{arith}
use lib.ListN.{length, get_or}
use Rattle.routes.specs.Share.{has}
use Rattle.routes.proofs.Common.{has_at, shares_link}
use Rattle.time.proofs.Windows.{overlaps_common, holds_from, holds_before}
use Rattle.packet.specs.Packet.{Packet}
use Rattle.packet.specs.Table.{packet_at, time_at, outside, meets}
use Rattle.packet.proofs.Packet.{start_not, collide_overlaps, collide_shares}
use Rattle.packet.proofs.Table.{outside_start, meets_higher_lem, meets_collide}
use Rattle.replay.specs.Replay.{release_in, deadline_in, Stray, Clash}
use Rattle.replay.specs.Sound.{Sound}
use Rattle.replay.proofs.Replay.{held_at}

-- over any list of sound packets, and any table
module _ (ps : List Packet) (H : ℕ) (table : List ℕ) (sound : Sound ps H) where
  -- number 11 for packet p: replay over one hyper-period shows p holding a link before its release or at or after its deadline;
  -- the first link of its path, in its first held cycle or its last
  pub fault_11 : (p : ℕ) → p < length ps → outside ps table p ≡ true → (link : ℕ) × (cycle : ℕ) × Stray ps H table 0 p link cycle
  unfolding release_in deadline_in
  fault_11 p h e =
      let P = packet_at ps p in
      let s = time_at table p in
      let link = get_or P.path 0 0 in
      let busy = sound.busy p h in
      let on : has P.path link ≡ true = has_at P.path link 0 (sound.routed p h) refl in
      ⊎_elim
      (λ (early : s < P.release). (
        link,
        s,
        record {
          held = held_at ps H table 0 p link s on (omega arith) (omega arith);
          untimely = inl (omega arith);
        },
      ))
      (λ (late : P.deadline < s + P.occupancy). (
        link,
        s + P.occupancy - 1,
        record {
          held = held_at ps H table 0 p link (s + P.occupancy - 1) on (omega arith) (omega arith);
          untimely = inr (omega arith);
        },
      ))
      (start_not P s (outside_start ps table p e))

  -- number 12 for packets a and b: replay over one hyper-period shows both holding a link that they share, in the later of
  -- their first cycles
  pub fault_12 : (a b : ℕ) → b < length ps → meets ps table a b ≡ true
      → (link : ℕ) × (cycle : ℕ) × Clash ps H table 0 a 0 b link cycle
  fault_12 a b h e =
      let A = packet_at ps a in
      let B = packet_at ps b in
      let s = time_at table a in
      let t = time_at table b in
      let lower = meets_higher_lem ps table a b e in
      let hit = meets_collide ps table a b e in
      let on = shares_link A.path B.path (collide_shares A s B t hit) in
      let a_busy = sound.busy a (omega arith) in
      let b_busy = sound.busy b h in
      let c = overlaps_common s A.occupancy t B.occupancy a_busy b_busy (collide_overlaps A s B t hit) in
      let a_from = holds_from s A.occupancy (max s t) c.0 in
      let a_before = holds_before s A.occupancy (max s t) c.0 in
      let b_from = holds_from t B.occupancy (max s t) c.1 in
      let b_before = holds_before t B.occupancy (max s t) c.1 in (
        on.0,
        max s t,
        record {
          one = held_at ps H table 0 a on.0 (max s t) on.1 (omega arith) (omega arith);
          other = held_at ps H table 0 b on.0 (max s t) on.2 (omega arith) (omega arith);
          different = λ same. omega arith;
        },
      )
