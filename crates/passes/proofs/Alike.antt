-- The search reads the release, the deadline, the occupancy and the path of each packet, and nothing else.
-- In order: lists of packets that agree in these; placing one packet; a pass; the passes.
use mathlib.Core.Path.{◌≡◌, refl, sym, ◌∙◌, ap, ap₂, fun_ext}
use mathlib.Core.Bool.{Bool, true, false, not}
use mathlib.Core.List.{List, []}
use Prim.Native.Nat.{ℕ, zero, suc, ◌+◌, ◌*◌}
use lib.ListN.{length, replicate}
use Rattle.basics.specs.First.{first, some}
use Rattle.time.specs.Units.{latest_of}
use Rattle.packet.specs.Packet.{Packet, collide}
use Rattle.packet.specs.Table.{packet_at, none}
use Rattle.placing.specs.Placing.{in_the_way, free, time_of, slots_of, taken_of, placed_by, placing_of}
use Rattle.passes.specs.Pass.{Pass, pass_from, pass_over}
use Rattle.passes.specs.Passes.{passes_from, ceiling, search_from}
use Rattle.passes.proofs.PassSteps.{pass_placed, pass_broken, pass_skipped}
use Rattle.passes.proofs.Along.{along}
use Rattle.passes.proofs.Fuel.{passes_end, passes_on}

-- two lists whose packets agree in all that the search reads
pub record Alike (ps qs : List Packet) : Type 0 where
  pub long : length ps ≡ length qs
  pub releases : (p : ℕ) → (packet_at ps p).release ≡ (packet_at qs p).release
  pub deadlines : (p : ℕ) → (packet_at ps p).deadline ≡ (packet_at qs p).deadline
  pub spans : (p : ℕ) → (packet_at ps p).occupancy ≡ (packet_at qs p).occupancy
  pub paths : (p : ℕ) → (packet_at ps p).path ≡ (packet_at qs p).path

module _ {ps qs : List Packet} (alike : Alike ps qs) (f : ℕ) where
  -- ---- placing one packet

  module _ (table : List ℕ) (p : ℕ) where
    -- the times of a packet are as many
    slots : slots_of f (packet_at ps p) ≡ slots_of f (packet_at qs p)
    unfolding slots_of latest_of
    slots = rw (alike.releases p, alike.deadlines p, alike.spans p) refl

    -- the same packets are in the way
    ways : (s q : ℕ) → in_the_way ps table p s q ≡ in_the_way qs table p s q
    unfolding in_the_way collide
    ways s q = rw (alike.spans p, alike.spans q, alike.paths p, alike.paths q) refl

    -- the same times are free
    frees : (s : ℕ) → free ps table p s ≡ free qs table p s
    unfolding free
    frees s = ap₂ (λ (test : ℕ → Bool) (n : ℕ). not (some test n)) (fun_ext (ways s)) alike.long

    -- the same one is taken
    takens : taken_of ps f table p ≡ taken_of qs f table p
    unfolding taken_of time_of
    takens =
        ap₂ first
        (fun_ext (λ i. frees ((packet_at ps p).release + i * f) ∙ ap (λ (r : ℕ). free qs table p (r + i * f)) (alike.releases p)))
        slots

    -- so the packet goes to the same place
    placings : placing_of ps f table p ≡ placing_of qs f table p
    unfolding placing_of placed_by time_of
    placings = rw (takens, slots, alike.releases p) refl

  module _ (g : ℕ) where
    -- ---- a pass

    pass_from_alike : (rest kept fails table : List ℕ) (tries : ℕ) → pass_from ps f g rest kept fails table tries ≡ pass_from qs f g rest kept fails table tries
    unfolding pass_from
    pass_from_alike =
        along ps f g (λ rest kept fails table tries r. r ≡ pass_from qs f g rest kept fails table tries)
        (λ kept fails table tries. refl)
        (λ p rest kept fails table tries t m r e ih. ih ∙ sym (pass_placed qs f g p rest kept fails table tries m t (sym (placings table p) ∙ e)))
        (λ p rest kept fails table tries m e h. sym (pass_broken qs f g p rest kept fails table tries m (sym (placings table p) ∙ e) h))
        (λ p rest kept fails table tries m r e h ih. ih ∙ sym (pass_skipped qs f g p rest kept fails table tries m (sym (placings table p) ∙ e) h))

    pass_alike : (list fails : List ℕ) → pass_over ps f g list fails ≡ pass_over qs f g list fails
    unfolding pass_over
    pass_alike list fails =
        pass_from_alike list [] fails (replicate (length ps) none) 0
        ∙ ap (λ (n : ℕ). pass_from qs f g list [] fails (replicate n none) 0) alike.long

    -- ---- the passes

    passes_alike : (fuel : ℕ) (list fails : List ℕ) (n tries : ℕ) → passes_from fuel ps f g list fails n tries ≡ passes_from fuel qs f g list fails n tries
    unfolding passes_from
    passes_alike zero list fails n tries = ap (λ (k : ℕ). record { table = replicate k none; passes = n; tries = tries }) alike.long
    passes_alike (suc fuel) list fails n tries =
        go (pass_over ps f g list fails).whole refl
        (passes_alike fuel (pass_over ps f g list fails).list (pass_over ps f g list fails).fails (n + 1) (tries + (pass_over ps f g list fails).tries))
      where
        over : pass_over ps f g list fails ≡ pass_over qs f g list fails
        over = pass_alike list fails

        go : (w : Bool) → (pass_over ps f g list fails).whole ≡ w
            → passes_from fuel ps f g (pass_over ps f g list fails).list (pass_over ps f g list fails).fails (n + 1) (tries + (pass_over ps f g list fails).tries)
            ≡ passes_from fuel qs f g (pass_over ps f g list fails).list (pass_over ps f g list fails).fails (n + 1) (tries + (pass_over ps f g list fails).tries)
            → passes_from (suc fuel) ps f g list fails n tries ≡ passes_from (suc fuel) qs f g list fails n tries
        go true w ih =
            passes_end fuel ps f g list fails n tries w
            ∙ ap (λ (p : Pass). record { table = p.table; passes = n + 1; tries = tries + p.tries }) over
            ∙ sym (passes_end fuel qs f g list fails n tries (ap (λ (p : Pass). p.whole) (sym over) ∙ w))
        go false w ih =
            passes_on fuel ps f g list fails n tries w
            ∙ ih
            ∙ ap (λ (p : Pass). passes_from fuel qs f g p.list p.fails (n + 1) (tries + p.tries)) over
            ∙ sym (passes_on fuel qs f g list fails n tries (ap (λ (p : Pass). p.whole) (sym over) ∙ w))

    -- so the search leaves the same
    pub search_alike : (list : List ℕ) → search_from list ps f g ≡ search_from list qs f g
    unfolding search_from
    search_alike list =
        passes_alike (ceiling (length ps) g) list (replicate (length ps) 0) 0 0
        ∙ ap (λ (n : ℕ). passes_from (ceiling n g) qs f g list (replicate n 0) 0 0) alike.long
