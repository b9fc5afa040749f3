-- The sweep's first gap is the definition's taken time: the placed packets that the code lists are those of the table.
-- In order: that the two notions of "in the way" agree, at one packet and over all; the times of a packet; the whole answer; and that
-- the arrays hold the packets that are read off them.
use mathlib.Core.Path.{◌≡◌, refl, sym, ◌∙◌, ap, ap₂, subst, fun_ext}
use mathlib.Core.Bool.{true, not}
use mathlib.Core.List.{List}
use Prim.Native.Nat.{ℕ, ◌+◌, ◌-◌, ◌*◌, ◌/◌, ◌≤◌, ◌<◌}
use native.Mathlib.Nat.{zero-add}
use native.Mathlib.Omega.{arith}
use lib.ListN.{length, get_or, take}
use lib.Seq.{get_or-take}
use Rattle.basics.specs.Choose.{both}
use Rattle.basics.specs.First.{first, some}
use Rattle.basics.proofs.Choose.{both_pass, both_first, both_second, same_test}
use Rattle.basics.proofs.First.{first_passes, some_at, some_first}
use Rattle.basics.proofs.Lists.{tabulate_length, tabulate_at}
use Rattle.routes.specs.Share.{shares}
use Rattle.time.specs.Units.{latest_of}
use Rattle.time.specs.Window.{overlaps}
use Rattle.packet.specs.Packet.{Packet, absent, collide}
use Rattle.packet.specs.Table.{packet_at, time_at, placed}
use Rattle.load.specs.Load.{flow_at, span_of, due_at, release_at}
use Rattle.kept.specs.Kept.{start_of, spot_of, Roster}
use Rattle.kept.specs.declared.finding.Taken.{Taken}
use Rattle.gaps.specs.Gaps.{flow_of, hits, slots_to, first_gap, gap_at, placed_in, spot_in, gap_in}
use Rattle.gaps.specs.declared.gap.Gap.{Gap}
use Rattle.gaps.specs.declared.gap.Placed.TheVariants.{At}
use Rattle.placing.specs.Placing.{in_the_way, free, time_of, slots_of, taken_of, placed_by, placing_of}
use Rattle.placing.specs.Held.{Held, latest_at, place_in}
use Rattle.placing.specs.Traffic.{packet_held, packets_held}
use Rattle.load.specs.declared.traffic.Traffic.{Traffic}

module _ {ps : List Packet} {traffic : Traffic} {taken : Taken} (held : Held ps traffic)
    (listed : Roster ps taken) {p : ℕ} (h : p < length ps) where
  -- the table
  abbrev table : List ℕ
  table = take (length ps) taken.times

  -- the placed packet that comes j-th is hit where it collides
  hits_is : (s j : ℕ) → j < taken.count → hits traffic taken (flow_at traffic p) s j ≡ collide (packet_at ps p) s (packet_at ps (get_or taken.by j 0)) (time_at table (get_or taken.by j 0))
  unfolding hits collide start_of flow_of time_at
  hits_is s j l =
      let i : get_or taken.by j 0 < length ps = listed.inside j l in
      sym
      (ap₂ both
      (ap₂ (λ (a b : ℕ). overlaps s a (get_or table (get_or taken.by j 0) 0) b) (held.spans p h) (held.spans (get_or taken.by j 0) i)
      ∙ ap (λ (t : ℕ). overlaps s (span_of traffic (flow_at traffic p)) t (span_of traffic (flow_at traffic (get_or taken.by j 0)))) (get_or-take (length ps) taken.times (get_or taken.by j 0) 0 i))
      (ap₂ shares (held.paths p h) (held.paths (get_or taken.by j 0) i)))

  -- some packet is in the way where some listed one is hit
  pub ways_same : (s : ℕ) → some (in_the_way ps table p s) (length ps) ≡ some (hits traffic taken (flow_at traffic p) s) taken.count
  unfolding in_the_way
  ways_same s = same_test _ _ forth back
    where
      forth : some (in_the_way ps table p s) (length ps) ≡ true → some (hits traffic taken (flow_at traffic p) s) taken.count ≡ true
      forth e =
          let q : ℕ = first (in_the_way ps table p s) (length ps) in
          let l = some_first (in_the_way ps table p s) (length ps) e in
          let w = first_passes (in_the_way ps table p s) (length ps) l in
          let j = listed.all q l (both_first _ _ w) in
          some_at _ taken.count j.0 j.1
          (hits_is s j.0 j.1
          ∙ subst (λ (m : ℕ). collide (packet_at ps p) s (packet_at ps m) (time_at table m) ≡ true) (sym j.2)
          (both_second (placed table q) _ w))

      back : some (hits traffic taken (flow_at traffic p) s) taken.count ≡ true → some (in_the_way ps table p s) (length ps) ≡ true
      back e =
          let j : ℕ = first (hits traffic taken (flow_at traffic p) s) taken.count in
          let l = some_first (hits traffic taken (flow_at traffic p) s) taken.count e in
          let w = first_passes (hits traffic taken (flow_at traffic p) s) taken.count l in
          some_at _ (length ps) (get_or taken.by j 0) (listed.inside j l) (both_pass _ _ (listed.timed j l) (sym (hits_is s j l) ∙ w))

  -- the times from the release on are the same
  times_same : (f i : ℕ) → time_of f (packet_at ps p) i ≡ release_at traffic p + i * f
  unfolding time_of
  times_same f i = ap (λ (n : ℕ). n + i * f) (held.releases p h)

  -- and so many of them
  slots_same : (f : ℕ) → slots_to f (release_at traffic p) (latest_at traffic p) ≡ slots_of f (packet_at ps p)
  unfolding slots_to slots_of latest_of latest_at
  slots_same f =
      let e : release_at traffic p + due_at traffic (flow_at traffic p) - span_of traffic (flow_at traffic p) - release_at traffic p
      ≡ (packet_at ps p).deadline - (packet_at ps p).occupancy - (packet_at ps p).release =
      omega (arith, held.releases p h, held.deadlines p h, held.spans p h) in
      ap (λ (n : ℕ). n / f + 1) e

  -- the first gap is the taken time
  taken_same : (f slots : ℕ) → slots ≡ slots_of f (packet_at ps p)
      → taken_of ps f table p ≡ first_gap traffic taken (flow_at traffic p) f (release_at traffic p) slots
  unfolding taken_of first_gap free
  taken_same f slots e =
      ap₂ first
      (fun_ext (λ i. ap not (ways_same (time_of f (packet_at ps p) i) ∙ ap (λ (s : ℕ). some (hits traffic taken (flow_at traffic p) s) taken.count) (times_same f i))))
      (sym e)

  -- where the packet goes
  pub placing_same : (f : ℕ) → (place_in traffic taken f p).placed ≡ placing_of ps f (take (length ps) taken.times) p
  unfolding place_in gap_in placed_in placing_of placed_by gap_at time_of
  placing_same f =
      let s = slots_same f in
      let t = taken_same f (slots_to f (release_at traffic p) (latest_at traffic p)) s in
      sym (rw (t, sym s, held.releases p h) refl)

  -- where it goes to a time, it is put in before the first that starts after it
  pub place_spot : (f : ℕ) {r : Gap} → r ≡ place_in traffic taken f p → {t m : ℕ} → r.placed ≡ At t m → r.spot ≡ spot_of taken t
  unfolding place_in gap_in spot_in
  place_spot f goes at = ap (λ (k : Gap). k.spot) goes ∙ ap (spot_in taken) (sym (ap (λ (k : Gap). k.placed) goes) ∙ at)

-- ---- the packets of the arrays

module _ (t : Traffic) where
  -- there are so many
  pub packets_count : length (packets_held t) ≡ t.count
  unfolding packets_held
  packets_count = tabulate_length (packet_held t) 0 t.count

  -- each is read off the arrays
  pub packets_at : (p : ℕ) → p < t.count → packet_at (packets_held t) p ≡ packet_held t p
  unfolding packets_held packet_at
  packets_at p h = tabulate_at (packet_held t) 0 t.count p absent h ∙ ap (packet_held t) (zero-add p)

  -- so the arrays hold them
  pub held_in : t.count ≤ 1024 → Held (packets_held t) t
  unfolding packet_held
  held_in few =
      let at : (p : ℕ) → p < length (packets_held t) → packet_at (packets_held t) p ≡ packet_held t p = λ p h. packets_at p (omega (arith, packets_count)) in
      record {
        few = omega (arith, packets_count);
        releases = λ p h. ap (λ (k : Packet). k.release) (at p h);
        deadlines = λ p h. ap (λ (k : Packet). k.deadline) (at p h);
        spans = λ p h. ap (λ (k : Packet). k.occupancy) (at p h);
        paths = λ p h. ap (λ (k : Packet). k.path) (at p h);
      }
