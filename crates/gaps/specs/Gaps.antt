-- What of the placed packets stands in the way of a packet, and the first gap among them.
use Rattle.std.specs.Prelude.{◌≡◌, Bool, true, not, List, Option, ℕ, ◌+◌, ◌-◌, ◌*◌, ◌/◌, ◌≤◌, ◌<◌, ltb, get_or}
use Rattle.basics.specs.Choose.{both, choose}
use Rattle.basics.specs.First.{first, some}
use Rattle.routes.specs.Share.{shares}
use Rattle.time.specs.Window.{overlaps}
use Rattle.hyperperiod.specs.Hyper.{most}
use Rattle.load.specs.Load.{flow_at, span_of, path_for, Loaded}
use Rattle.load.specs.declared.traffic.Traffic.{Traffic}
use Rattle.kept.specs.Kept.{start_of, spot_of, Kept}
use Rattle.kept.specs.declared.finding.Taken.{Taken}
use Rattle.marks.specs.Marks.{Marked}
use Rattle.gaps.specs.declared.gap.Placed.{Placed}
use Rattle.gaps.specs.declared.gap.Placed.TheVariants.{At, Nowhere}
use Rattle.gaps.specs.declared.gap.Gap.{Gap}
use Rattle.gaps.specs.declared.gap.Sought.{Sought}

-- the flow of the placed packet that comes j-th
unfoldable pub flow_of : Traffic → Taken → ℕ → ℕ
flow_of traffic taken j = flow_at traffic (get_or taken.by j 0)

-- a packet of flow g, injected at t, collides with the placed packet that comes j-th
unfoldable pub hits : Traffic → Taken → ℕ → ℕ → ℕ → Bool
hits traffic taken g t j =
    both (overlaps t (span_of traffic g) (start_of taken j) (span_of traffic (flow_of traffic taken j))) (shares (path_for traffic g) (path_for traffic (flow_of traffic taken j)))

-- how many of the times begin, begin + F and so on there are up to the latest
unfoldable pub slots_to : ℕ → ℕ → ℕ → ℕ
slots_to f begin latest = (latest - begin) / f + 1

-- which of so many of them is the first at which it collides with none of the first count
unfoldable pub first_gap : Traffic → Taken → ℕ → ℕ → ℕ → ℕ → ℕ
first_gap traffic taken g f begin slots = first (λ i. not (some (hits traffic taken g (begin + i * f)) taken.count)) slots

-- time i with the times tried up to it, where there is such a time; else nowhere, with all of them tried
unfoldable pub gap_at : ℕ → ℕ → ℕ → ℕ → Placed
gap_at f begin slots i = choose (ltb i slots) (At (begin + i * f) (i + 1)) (Nowhere slots)

-- where a packet of flow g goes, of its times up to the latest
unfoldable pub placed_in : Traffic → Taken → ℕ → ℕ → ℕ → ℕ → Placed
placed_in traffic taken g f begin latest =
    gap_at f begin (slots_to f begin latest) (first_gap traffic taken g f begin (slots_to f begin latest))

-- before which of the placed packets it is put in; behind all where it goes nowhere
unfoldable pub spot_in : Taken → Placed → ℕ
spot_in taken (At t m) = spot_of taken t
spot_in taken (Nowhere m) = taken.count

-- both
unfoldable pub gap_in : Traffic → Taken → ℕ → ℕ → ℕ → ℕ → Gap
gap_in traffic taken g f begin latest = record {
  placed = placed_in traffic taken g f begin latest;
  spot = spot_in taken (placed_in traffic taken g f begin latest);
}

-- the same of a packet that a gap is sought for
abbrev pub gap_for : Traffic → Taken → Sought → Gap
gap_for traffic taken s = gap_in traffic taken s.own s.pruning s.begin s.latest

-- a time from which on a gap may be sought: one of the times begin, begin + F and so on, before which there is none
pub record Resumes (traffic : Traffic) (taken : Taken) (g f begin from : ℕ) : Type 0 where
  pub small : from ≤ 50331648
  pub i : ℕ
  pub grid : from ≡ begin + i * f
  pub blocked : (m : ℕ) → m < i → some (hits traffic taken g (begin + m * f)) taken.count ≡ true

-- what a sweep asks: settings and times in their ranges, and that what lies before its first packet is over when it begins
pub record Sweep (traffic : Traffic) (marks : List (Option ℕ)) (taken : Taken) (g f begin latest from at : ℕ) : Type 0 where
  pub loaded : Loaded traffic
  pub marked : Marked traffic.flows marks g
  pub kept : Kept taken
  pub flow : g < 64
  pub lasting : 0 < span_of traffic g
  pub some_step : 0 < f
  pub small_step : f ≤ 65536
  pub order : begin ≤ latest
  pub soon : latest ≤ most
  pub within : at ≤ taken.count
  pub resumes : Resumes traffic taken g f begin from
  pub over : (j : ℕ) → j < at → start_of taken j + span_of traffic (flow_of traffic taken j) ≤ from

-- the same of a packet that a gap is sought for
abbrev pub Seeks : Traffic → List (Option ℕ) → Taken → Sought → Type 0
Seeks traffic marks taken s = Sweep traffic marks taken s.own s.pruning s.begin s.latest s.from s.at
