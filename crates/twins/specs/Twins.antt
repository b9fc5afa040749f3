-- Twins: packets of one release and one path, of which the later goes behind the earlier.
use Rattle.std.specs.Prelude.{◌≡◌, Bool, true, not, List, Option, None, Some, ℕ, ◌+◌, ◌-◌, ◌*◌, ◌≤◌, ◌<◌, ltb, leb, eqb, length, get_or}
use Rattle.basics.specs.Choose.{both, choose}
use Rattle.basics.specs.First.{some, every}
use Rattle.hyperperiod.specs.Hyper.{most}
use Rattle.packet.specs.Table.{none}
use Rattle.load.specs.Load.{flow_at, span_of, path_in, Loaded, release_at}
use Rattle.load.specs.declared.traffic.Traffic.{Traffic}
use Rattle.kept.specs.declared.finding.Taken.{Taken}
use Rattle.load.specs.declared.entries.FlowEntry.{FlowEntry}
use Rattle.gaps.specs.Gaps.{hits}
use Rattle.gaps.specs.Sweeps.{time_past}

-- two flows have the same path
unfoldable pub same_path : List FlowEntry → ℕ → ℕ → Bool
same_path flows g h =
    both (eqb (length (path_in flows g)) (length (path_in flows h)))
    (every (λ a. eqb (get_or (path_in flows g) a 0) (get_or (path_in flows h) a 0)) (length (path_in flows g)))

-- packet q is a twin of packet p that is placed: it has the same release and the same path, and no longer occupancy
unfoldable pub is_twin : Traffic → Taken → ℕ → ℕ → Bool
is_twin traffic taken p q =
    both (not (eqb (get_or taken.times q 0) none))
    (both (eqb (release_at traffic q) (release_at traffic p))
    (both (leb (span_of traffic (flow_at traffic q)) (span_of traffic (flow_at traffic p))) (same_path traffic.flows (flow_at traffic p) (flow_at traffic q))))

-- the packet so many before p, if that is a twin of it
unfoldable pub twin_back : Traffic → Taken → ℕ → Option ℕ → Option ℕ
twin_back traffic taken p None = None
twin_back traffic taken p (Some back) = choose (both (ltb 0 back) (both (leb back p) (is_twin traffic taken p (p - back)))) (Some (p - back)) None

-- the twin of packet p: it is sought so many packets before it as its flow says
unfoldable pub twin_at : Traffic → Taken → ℕ → Option ℕ
twin_at traffic taken p = twin_back traffic taken p (get_or traffic.back (flow_at traffic p) None)

-- behind a twin of packet p, or at its release
unfoldable pub behind : Traffic → Taken → ℕ → ℕ → Option ℕ → ℕ
behind traffic taken f p None = release_at traffic p
behind traffic taken f p (Some q) = time_past (get_or taken.times q 0) (get_or taken.times q 0 + span_of traffic (flow_at traffic q)) f

-- the time from which on a gap for packet p is sought
unfoldable pub resume_at : Traffic → Taken → ℕ → ℕ → ℕ
resume_at traffic taken f p = behind traffic taken f p (twin_at traffic taken p)

-- what comparing two packets asks: that they are packets of flows
pub record Pair (traffic : Traffic) (p q : ℕ) : Type 0 where
  pub loaded : Loaded traffic
  pub first_in : p < 1024
  pub second_in : q < 1024

-- what resuming asks: besides, that placed packets start soon and hold their links for some cycles, and settings in their ranges
pub record Resume (traffic : Traffic) (taken : Taken) (f p : ℕ) : Type 0 where
  pub loaded : Loaded traffic
  pub packet : p < 1024
  pub some_step : 0 < f
  pub small_step : f ≤ 65536
  pub soon : (q : ℕ) → q < p → (get_or taken.times q 0 ≡ none → ⊥) → get_or taken.times q 0 ≤ most
  pub lasting : (q : ℕ) → q < p → 0 < span_of traffic (flow_at traffic q)

-- packet q, placed at a time, stands among the placed packets, at one of its times before which there was no gap
pub record Stood (traffic : Traffic) (taken : Taken) (f q : ℕ) : Type 0 where
  pub j : ℕ
  pub within : j < taken.count
  pub here : get_or taken.by j 0 ≡ q
  pub i : ℕ
  pub grid : get_or taken.times q 0 ≡ release_at traffic q + i * f
  pub tight : (m : ℕ) → m < i → some (hits traffic taken (flow_at traffic q) (release_at traffic q + m * f)) taken.count ≡ true
