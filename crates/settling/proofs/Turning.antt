-- What follows for a packet that is turned away tells on which side of G its fail count is.
use mathlib.Core.Path.{◌≡◌, refl}
use mathlib.Core.Bool.{Bool, true, false}
use Prim.Native.Nat.{ℕ, ◌≤◌, ◌<◌}
use borrow.Author.Tests.{ltb-true, ltb-false}
use Rattle.std.proofs.Common.{rules}
use Rattle.basics.specs.Choose.{choose}
use Rattle.settling.specs.Settling.{raised, turned}
use Rattle.settling.specs.declared.taking.State.{State}
use Rattle.settling.specs.declared.taking.Turned.TheVariants.{Again, Skipped}

-- a choice between the two
chosen_again : (b : Bool) → choose b Again Skipped ≡ Again → b ≡ true
chosen_again true e = refl
chosen_again false e = absurd (search rules)

chosen_skipped : (b : Bool) → choose b Again Skipped ≡ Skipped → b ≡ false
chosen_skipped true e = absurd (search rules)
chosen_skipped false e = refl

module _ (s : State) (packet g : ℕ) where
  -- a new pass: it is below G
  pub again_below : turned s packet g ≡ Again → raised s.fails packet < g
  unfolding turned
  again_below e = ltb-true (raised s.fails packet) g (chosen_again _ e)

  -- skipped: it is not
  pub skipped_above : turned s packet g ≡ Skipped → g ≤ raised s.fails packet
  unfolding turned
  skipped_above e = ltb-false (raised s.fails packet) g (chosen_skipped _ e)
