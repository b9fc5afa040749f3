-- The sweep at one placed packet: what is known of it, and, where it is neither over nor too late, that it is jumped past or left behind.
-- In order: the next placed packet; one that is faced; where the code stands in its three loops; its ways on from a link; and its ends.
use mathlib.Core.Path.{◌≡◌, refl, sym, ◌∙◌, ap, subst}
use mathlib.Core.Bool.{true, false}
use mathlib.Core.List.{List}
use Prim.Native.Nat.{ℕ, ◌+◌, ◌≤◌, ◌<◌}
use native.Mathlib.Omega.{arith}
use lib.ListN.{length, get_or}
use Rattle.routes.specs.Share.{has, shares}
use Rattle.routes.proofs.Common.{has_at, shares_at, shares_swap}
use Rattle.hyperperiod.specs.Hyper.{most}
use Rattle.load.specs.Load.{flow_at, span_of, path_for}
use Rattle.load.specs.declared.traffic.Traffic.{Traffic}
use Rattle.kept.specs.Kept.{start_of}
use Rattle.kept.specs.declared.finding.Taken.{Taken}
use Rattle.std.specs.Prelude.{Option}
use Rattle.load.proofs.Paths.{path_apart}
use Rattle.marks.specs.Marks.{has_mark}
use Rattle.gaps.specs.Gaps.{flow_of, slots_to, placed_in, Sweep}
use Rattle.gaps.specs.Sweeps.{time_past, EndAhead, Back}
use Rattle.gaps.specs.declared.gap.Placed.TheVariants.{At, Nowhere}
use Rattle.load.specs.Entries.{nth_flow, nth_packet}
use Rattle.gaps.proofs.Sweeping.{Sweeping, sweep_jump, sweep_apart, sweep_clear, sweep_early, sweep_none}

-- the placed packet that comes k-th is a packet of a flow, and its start and occupancy are small
pub record Next (traffic : Traffic) (taken : Taken) (k : ℕ) : Type 0 where
  pub number : get_or taken.by k 0 < 1024
  pub soon : get_or taken.times (get_or taken.by k 0) 0 ≤ most
  pub flow : (nth_packet traffic.packets (get_or taken.by k 0)).flow < 64
  pub span : (nth_flow traffic.flows (nth_packet traffic.packets (get_or taken.by k 0)).flow).occupancy ≤ most

-- so are all
pub next_is : {traffic : Traffic} {marks : List (Option ℕ)} {taken : Taken} {g f begin latest from at : ℕ}
    → Sweep traffic marks taken g f begin latest from at → (k : ℕ) → k < taken.count → Next traffic taken k
unfolding start_of flow_at span_of
next_is {taken = taken} asks k h = record {
  number = asks.kept.listed k h;
  soon = asks.kept.soon k h;
  flow = asks.loaded.flows (get_or taken.by k 0) (asks.kept.listed k h);
  span = asks.loaded.spans _ (asks.loaded.flows (get_or taken.by k 0) (asks.kept.listed k h));
}

-- the placed packet that comes k-th overlaps the packet that is injected at t
pub record Facing (traffic : Traffic) (taken : Taken) (g f k t other end : ℕ) : Type 0 where
  pub next : k < taken.count
  pub other_is : other ≡ flow_of traffic taken k
  pub end_is : end ≡ start_of taken k + span_of traffic (flow_of traffic taken k)
  pub starts : start_of taken k < t + span_of traffic g
  pub flow : other < 64
  pub past : EndAhead t end f

module _ {traffic : Traffic} {marks : List (Option ℕ)} {taken : Taken} {g f begin latest from at : ℕ}
    (asks : Sweep traffic marks taken g f begin latest from at) {k t other end : ℕ}
    (s : Sweeping traffic taken g f begin k t) (face : Facing traffic taken g f k t other end) where
  -- a link of the placed packet is on the packet's path: it is jumped past
  pub facing_jump : (a : ℕ) → a < length (path_for traffic other) → has (path_for traffic g) (get_or (path_for traffic other) a 0) ≡ true
      → Sweeping traffic taken g f begin (k + 1) (time_past t end f)
  facing_jump a h e =
      let meets : shares (path_for traffic g) (path_for traffic other) ≡ true = shares_at _ _ _ e (has_at (path_for traffic other) _ a h refl) in
      sweep_jump s face.next (subst (λ (o : ℕ). shares (path_for traffic g) (path_for traffic o) ≡ true) face.other_is meets) face.starts
      face.end_is face.past

  -- no link of the placed packet is on the packet's path: it is left behind
  pub facing_apart : ((a : ℕ) → a < length (path_for traffic other) → has (path_for traffic g) (get_or (path_for traffic other) a 0) ≡ false)
      → Sweeping traffic taken g f begin (k + 1) t
  facing_apart lacks =
      let apart : shares (path_for traffic g) (path_for traffic other) ≡ false =
      shares_swap (path_for traffic g) (path_for traffic other) ∙ path_apart (path_for traffic other) (path_for traffic g) lacks in
      sweep_apart s face.next (subst (λ (o : ℕ). shares (path_for traffic g) (path_for traffic o) ≡ false) face.other_is apart)

-- ---- where the code stands in its three loops

-- at a time: what the sweep asks, and how far it is
pub record AtTime (traffic : Traffic) (marks : List (Option ℕ)) (taken : Taken) (g f begin latest from at span j t : ℕ) : Type 0 where
  pub asks : Sweep traffic marks taken g f begin latest from at
  pub span_is : span ≡ (nth_flow traffic.flows g).occupancy
  pub small_span : span ≤ most
  pub swept : Sweeping traffic taken g f begin j t
  pub after : begin ≤ t

-- at a placed packet: besides, the time is not past the latest, and the sweep does not go back
pub record AtPacket (traffic : Traffic) (marks : List (Option ℕ)) (taken : Taken) (g f begin latest from at span j₀ j t : ℕ) : Type 0 where
  pub asks : Sweep traffic marks taken g f begin latest from at
  pub span_is : span ≡ (nth_flow traffic.flows g).occupancy
  pub small_span : span ≤ most
  pub swept : Sweeping traffic taken g f begin j t
  pub after : begin ≤ t
  pub going : t ≤ latest
  pub ahead : j₀ ≤ j

-- at a link of a placed packet that is faced: besides, no link before it is on the packet's path
pub record AtLink (traffic : Traffic) (marks : List (Option ℕ)) (taken : Taken) (g f begin latest from at span j₀ k t other end : ℕ) (path : List ℕ) (a : ℕ) : Type 0 where
  pub packet : AtPacket traffic marks taken g f begin latest from at span j₀ k t
  pub facing : Facing traffic taken g f k t other end
  pub path_is : path ≡ path_for traffic other
  pub lacks : (m : ℕ) → m < a → has (path_for traffic g) (get_or path m 0) ≡ false

-- ---- its ways on from a link

module _ {traffic : Traffic} {marks : List (Option ℕ)} {taken : Taken} {g f begin latest from at span j₀ k t other end : ℕ} {path : List ℕ} {a : ℕ}
    (s : AtLink traffic marks taken g f begin latest from at span j₀ k t other end path a) where
  -- the link has the packet's mark
  pub link_jump : a < length path → has_mark marks g (get_or path a 0) ≡ true → Sweeping traffic taken g f begin (k + 1) (time_past t end f)
  link_jump h e =
      facing_jump s.packet.asks s.packet.swept s.facing a (omega (arith, ap length s.path_is))
      (ap (λ (p : List ℕ). has (path_for traffic g) (get_or p a 0)) (sym s.path_is) ∙ sym (s.packet.asks.marked.exact _) ∙ e)

  -- all links are passed
  pub links_apart : length path ≤ a → Sweeping traffic taken g f begin (k + 1) t
  links_apart h =
      facing_apart s.packet.asks s.packet.swept s.facing (λ m l.
      ap (λ (p : List ℕ). has (path_for traffic g) (get_or p m 0)) (sym s.path_is) ∙ s.lacks m (omega (arith, ap length s.path_is)))

-- ---- its ends

module _ {traffic : Traffic} {marks : List (Option ℕ)} {taken : Taken} {g f begin latest from at span j t : ℕ} where
  -- the latest start is past
  pub ends_past : AtTime traffic marks taken g f begin latest from at span j t → latest < t → {m : ℕ} → m ≡ slots_to f begin latest
      → Nowhere m ≡ placed_in traffic taken g f begin latest
  ends_past s h e = rw e (sweep_none s.swept s.asks.some_step latest s.asks.order h)

  module _ {j₀ : ℕ} (s : AtPacket traffic marks taken g f begin latest from at span j₀ j t) {m : ℕ} (e : m ≡ slots_to f begin t) where
    -- the next starts when the packet is over
    pub ends_early : t + span ≤ start_of taken j → At t m ≡ placed_in traffic taken g f begin latest
    unfolding span_of
    ends_early l = rw e (sweep_early s.swept s.asks.some_step latest s.going s.asks.kept (omega (arith, s.span_is)))

    -- all placed packets are passed
    pub ends_clear : taken.count ≤ j → At t m ≡ placed_in traffic taken g f begin latest
    ends_clear h = rw e (sweep_clear s.swept s.asks.some_step latest s.going h)

  -- from the packet on where it ends all start after the time
  module _ {j₀ : ℕ} (s : AtPacket traffic marks taken g f begin latest from at span j₀ j t) where
    pub early_back : t + span ≤ start_of taken j → Back taken j t
    unfolding span_of
    early_back l = record {
      kept = s.asks.kept;
      within = s.swept.within;
      later = λ i a b. let r = s.asks.kept.rising j i a b in omega (arith, s.asks.lasting, s.span_is);
    }

    pub clear_back : taken.count ≤ j → Back taken j t
    clear_back h = record { kept = s.asks.kept; within = s.swept.within; later = λ i a b. absurd (omega arith) }
