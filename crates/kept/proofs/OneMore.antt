-- The placed packets with one more: they stay in order of start, and list the placed packets of the table.
-- In order: what stands where in the list with one more; that the starts of the others do not change; that the list is kept; and
-- that it lists the packets of the table with one more time.
use mathlib.Core.Path.{◌≡◌, refl, sym, ◌∙◌, ap, subst}
use mathlib.Core.Bool.{true, false, false≢true}
use mathlib.Core.List.{List}
use Prim.Native.Nat.{ℕ, ◌+◌, ◌-◌, ◌≤◌, ◌<◌}
use native.Mathlib.Nat.{lt_of_not-le}
use native.Mathlib.Decide.{dec_le, ℕ_discrete}
use native.Mathlib.Omega.{arith}
use lib.ListN.{length, get_or, set, take, length-set}
use lib.Seq.{get_or-set_same, get_or-set_other, take-set-lt, length-take-le}
use Rattle.hyperperiod.specs.Hyper.{most}
use Rattle.packet.specs.Packet.{Packet}
use Rattle.packet.specs.Table.{placed}
use Rattle.packet.proofs.Placed.{placed_new, placed_other}
use Rattle.order.specs.Lists.{shifted}
use Rattle.order.proofs.Shifting.{shifted_before, shifted_at, shifted_moved, shifted_length}
use Rattle.order.proofs.After.{after_within, after_below, after_above}
use Rattle.kept.specs.Kept.{start_of, spot_of, added, Kept, Roster}
use Rattle.kept.specs.declared.finding.Taken.{Taken}

-- number j of the list with one more: as it was, the new one, or the one that was before
data Where (by more : List ℕ) (at count p j : ℕ) : Type 0 where
  before : j < at → get_or more j 0 ≡ get_or by j 0 → Where by more at count p j
  here : j ≡ at → get_or more j 0 ≡ p → Where by more at count p j
  after : (i : ℕ) → j ≡ i + 1 → at ≤ i → i < count → get_or more j 0 ≡ get_or by i 0 → Where by more at count p j

-- one of the three holds
find : (by : List ℕ) (at count p j : ℕ) → at ≤ count → count < length by → j < count + 1 → Where by (shifted by at count p) at count p j
find by at count p j h long l =
    elim (dec_le at j) [
      | no a ↦ before (lt_of_not-le a) (shifted_before by at count p h long j (lt_of_not-le a))
      | yes a ↦ elim (dec_le j at) [
        | yes b ↦
            let e : j ≡ at = omega arith in
            here e (ap (λ (m : ℕ). get_or (shifted by at count p) m 0) e ∙ shifted_at by at count p h long)
        | no b ↦
            let c : at < j = lt_of_not-le b in
            let e : j ≡ j - 1 + 1 = omega arith in
            after (j - 1) e (omega arith) (omega arith)
            (ap (λ (m : ℕ). get_or (shifted by at count p) m 0) e ∙ shifted_moved by at count p h long (j - 1) (omega arith) (omega arith))
      ]
    ]

-- what putting in a packet with a time comes with: room for it, and that it is not there yet
pub record Adding (taken : Taken) (time p : ℕ) : Type 0 where
  pub kept : Kept taken
  pub room : taken.count < 1024
  pub packet : p < 1024
  pub soon : time ≤ most
  pub new : (j : ℕ) → j < taken.count → get_or taken.by j 0 ≡ p → ⊥

module _ {taken : Taken} {time p : ℕ} (adding : Adding taken time p) where
  -- where it is put in
  abbrev at : ℕ
  at = spot_of taken time

  -- the placed packets with it
  abbrev then : Taken
  then = added taken at p time

  -- their list
  abbrev more : List ℕ
  more = shifted taken.by at taken.count p

  -- the times with its own
  abbrev after_times : List ℕ
  after_times = set taken.times p time

  -- the place is among them
  pub spot_within : at ≤ taken.count
  unfolding spot_of
  spot_within = after_within (start_of taken) taken.count time _ refl

  -- there is room behind them
  long : taken.count < length taken.by
  long = omega (arith, adding.room, adding.kept.by_long)

  -- what stands where
  spot : (j : ℕ) → j < taken.count + 1 → Where taken.by more at taken.count p j
  spot j l = find taken.by at taken.count p j spot_within long l

  -- the starts of the others do not change
  other_start : (j : ℕ) → j < taken.count → get_or after_times (get_or taken.by j 0) 0 ≡ start_of taken j
  unfolding start_of
  other_start j l = get_or-set_other taken.times p (get_or taken.by j 0) time 0 (adding.new j l)

  -- the start of the new one is its time
  new_start : get_or after_times p 0 ≡ time
  new_start = get_or-set_same taken.times p time 0 (omega (arith, adding.packet, adding.kept.times_long))

  -- the start of number j, by what it is
  start_of_lem : (j m n : ℕ) → get_or more j 0 ≡ m → get_or after_times m 0 ≡ n → start_of then j ≡ n
  unfolding start_of
  start_of_lem j m n e f = ap (λ (q : ℕ). get_or after_times q 0) e ∙ f

  -- what holds of the starts of the others and of the time holds of each start
  each_start : (P : ℕ → Type 0) → ((i : ℕ) → i < taken.count → P (start_of taken i)) → P time → (j : ℕ) → j < taken.count + 1
      → P (start_of then j)
  each_start P others this j l = go (spot j l)
    where
      go : Where taken.by more at taken.count p j → P (start_of then j)
      go (before a e) = subst P (sym (start_of_lem j _ _ e (other_start j (omega (arith, spot_within))))) (others j (omega (arith, spot_within)))
      go (here a e) = subst P (sym (start_of_lem j _ _ e new_start)) this
      go (after i a b d e) = subst P (sym (start_of_lem j _ _ e (other_start i d))) (others i d)

  -- of two, the one before starts no later
  rises : (i j : ℕ) → i ≤ j → Where taken.by more at taken.count p i → Where taken.by more at taken.count p j
      → start_of then i ≤ start_of then j
  unfolding spot_of
  rises i j l (before a e) (before b f) =
      let si = start_of_lem i _ _ e (other_start i (omega (arith, spot_within))) in
      let sj = start_of_lem j _ _ f (other_start j (omega (arith, spot_within))) in
      omega (arith, adding.kept.rising i j l (omega (arith, spot_within)))
  rises i j l (before a e) (here b f) =
      let si = start_of_lem i _ _ e (other_start i (omega (arith, spot_within))) in
      let sj = start_of_lem j _ _ f new_start in
      omega (arith, after_below (start_of taken) taken.count time at refl i a)
  rises i j l (before a e) (after k b d n f) =
      let si = start_of_lem i _ _ e (other_start i (omega (arith, spot_within))) in
      let sj = start_of_lem j _ _ f (other_start k n) in
      omega (arith, adding.kept.rising i k (omega arith) n)
  rises i j l (here a e) (before b f) = absurd (omega arith)
  rises i j l (here a e) (here b f) =
      let si = start_of_lem i _ _ e new_start in
      let sj = start_of_lem j _ _ f new_start in
      omega arith
  rises i j l (here a e) (after k b d n f) =
      let si = start_of_lem i _ _ e new_start in
      let sj = start_of_lem j _ _ f (other_start k n) in
      omega (arith, after_above (start_of taken) taken.count time at refl adding.kept.rising k d n)
  rises i j l (after k a d n e) (before b f) = absurd (omega arith)
  rises i j l (after k a d n e) (here b f) = absurd (omega arith)
  rises i j l (after k a d n e) (after m b o q f) =
      let si = start_of_lem i _ _ e (other_start k n) in
      let sj = start_of_lem j _ _ f (other_start m q) in
      omega (arith, adding.kept.rising k m (omega arith) q)

  -- what holds of the numbers of the others and of the new one holds of each
  each_number : (P : ℕ → Type 0) → ((i : ℕ) → i < taken.count → P (get_or taken.by i 0)) → P p → (j : ℕ) → j < taken.count + 1 → P (get_or more j 0)
  each_number P others this j l = go (spot j l)
    where
      go : Where taken.by more at taken.count p j → P (get_or more j 0)
      go (before a e) = subst P (sym e) (others j (omega (arith, spot_within)))
      go (here a e) = subst P (sym e) this
      go (after i a b d e) = subst P (sym e) (others i d)

  -- the list is kept
  pub kept_more : Kept (added taken (spot_of taken time) p time)
  kept_more = record {
    few = omega (arith, adding.room);
    by_long = shifted_length taken.by at taken.count p spot_within long ∙ adding.kept.by_long;
    times_long = length-set taken.times p time ∙ adding.kept.times_long;
    listed = each_number (λ (q : ℕ). q < 1024) adding.kept.listed adding.packet;
    soon = each_start (λ (s : ℕ). s ≤ most) adding.kept.soon adding.soon;
    rising = λ i j l k. rises i j l (spot i (omega arith)) (spot j k);
  }

  -- where a number is that was number j
  moved : (j : ℕ) → j < taken.count → (i : ℕ) × (i < taken.count + 1) × (get_or more i 0 ≡ get_or taken.by j 0)
  moved j l =
      elim (dec_le at j) [
        | no a ↦ (j, omega arith, shifted_before taken.by at taken.count p spot_within long j (lt_of_not-le a))
        | yes a ↦ (j + 1, omega arith, shifted_moved taken.by at taken.count p spot_within long j a l)
      ]

  -- where the new one is
  put : (i : ℕ) × (i < taken.count + 1) × (get_or more i 0 ≡ p)
  put = (at, omega (arith, spot_within), shifted_at taken.by at taken.count p spot_within long)

-- a packet that is not placed is not listed
not_listed : {ps : List Packet} {taken : Taken} → Roster ps taken → {p : ℕ}
    → placed (take (length ps) taken.times) p ≡ false → (j : ℕ) → j < taken.count → get_or taken.by j 0 ≡ p → ⊥
not_listed {ps} {taken = taken} listed e j h f =
    false≢true (sym e ∙ subst (λ (q : ℕ). placed (take (length ps) taken.times) q ≡ true) f (listed.timed j h))

-- what a packet's taking a time comes with: it is one of the packets, and not placed yet
pub record Taking (ps : List Packet) (taken : Taken) (time p : ℕ) : Type 0 where
  pub kept : Kept taken
  pub listed : Roster ps taken
  pub room : taken.count < 1024
  pub few : length ps ≤ 1024
  pub packet : p < length ps
  pub soon : time ≤ most
  pub fresh : placed (take (length ps) taken.times) p ≡ false

module _ {ps : List Packet} {taken : Taken} {time p : ℕ} (taking : Taking ps taken time p) where
  -- so it can be put in
  pub adds : Adding taken time p
  adds = record {
    kept = taking.kept;
    room = taking.room;
    packet = omega (arith, taking.packet, taking.few);
    soon = taking.soon;
    new = not_listed taking.listed taking.fresh;
  }

  -- the table with one more time
  pub table_more : take (length ps) (set taken.times p time) ≡ set (take (length ps) taken.times) p time
  table_more = take-set-lt (length ps) taken.times p time taking.packet

  -- the packet is placed
  placed_this : placed (take (length ps) (set taken.times p time)) p ≡ true
  placed_this =
      ap (λ (t : List ℕ). placed t p) table_more
      ∙ placed_new (take (length ps) taken.times) p time
      (omega (arith, taking.packet, length-take-le (length ps) taken.times (omega (arith, taking.kept.times_long, taking.few))))
      (omega (arith, taking.soon))

  -- and so are those that were
  pub placed_same : (q : ℕ) → (q ≡ p → ⊥) → placed (take (length ps) (set taken.times p time)) q ≡ placed (take (length ps) taken.times) q
  placed_same q ne = ap (λ (t : List ℕ). placed t q) table_more ∙ placed_other (take (length ps) taken.times) p time q ne

  -- the list with one more lists the packets of the table with one more time
  pub listed_more : Roster ps (added taken (spot_of taken time) p time)
  listed_more = record {
    inside = each_number adds (λ (q : ℕ). q < length ps) taking.listed.inside taking.packet;
    timed =
        each_number adds (λ (q : ℕ). placed (take (length ps) (set taken.times p time)) q ≡ true)
        (λ i l. placed_same (get_or taken.by i 0) (adds.new i l) ∙ taking.listed.timed i l) placed_this;
    all = λ q l f.
        elim (ℕ_discrete q p) [
          | yes a ↦ let w = put adds in (w.0, w.1, w.2 ∙ sym a)
          | no a ↦
              let o = taking.listed.all q l (sym (placed_same q a) ∙ f) in
              let w = moved adds o.0 o.1 in
              (w.0, w.1, w.2 ∙ o.2)
        ];
  }
